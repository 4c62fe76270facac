use Rattle.page_cache.proofs.CacheLemmas.{IsCache-empty}
use Rattle.page_cache.proofs.cache.Cache.drop_all.Goals as goal

pub invariant_of-self : goal.invariant_of-self
invariant_of-self c = rw c.clear.ensures (IsCache-empty c.self.inside.pages.cap c.self.invariant.some)

pub returns-clause-cache : goal.returns-clause-cache
returns-clause-cache c = invariant_of-self c
