use Rattle.std.proofs.Common.{refl, subst, ap, ◌∙◌}
use Rattle.page_cache.specs.Pages.{IsCache, after_put}
use Rattle.page_cache.specs.CacheFields.{pages_of}
use Rattle.page_cache.proofs.PagesLemmas.{IsCache-put, Stores-put, IsSized-stores}
use Rattle.page_cache.proofs.CacheLemmas.{pages_from-put}
use Rattle.page_cache.proofs.cache.Cache.put_clean.Goals as goal

pub returns-in_err-copy-clause-cache : goal.returns-in_err-copy-clause-cache
returns-in_err-copy-clause-cache c = subst IsCache c.self.view_is c.self.invariant

pub returns-in_err-put-clause-cache : goal.returns-in_err-put-clause-cache
returns-in_err-put-clause-cache c = rw c.in_err-put.ensures.err c.self.invariant

pub returns-clause-ok : goal.returns-clause-ok
returns-clause-ok c =
    pages_from-put (λ v. v.items) c.self.inside.pages c.self.invariant c.args.number _ c.in_ok-copy.copy c.in_ok-put.ensures.entries
    ∙ ap (λ page. after_put (pages_of c.self.inside) c.args.number page) (c.in_ok-copy.ensures.items_if_clones_equal (λ x y same. same))
    ∙ ap (λ p. after_put p c.args.number c.args.page.now) c.self.view_is

pub returns-clause-stores : goal.returns-clause-stores
returns-clause-stores c =
    rw (returns-clause-ok c) (Stores-put c.args.self.now (subst IsCache c.self.view_is c.self.invariant) c.args.number c.args.page.now)

pub returns-clause-cache : goal.returns-clause-cache
returns-clause-cache c =
    rw (returns-clause-ok c) (IsCache-put c.args.self.now (subst IsCache c.self.view_is c.self.invariant) c.args.number c.args.page.now)

pub invariant_of-self-2 : goal.invariant_of-self-2
invariant_of-self-2 c = returns-clause-cache c

pub returns-clause-sized : goal.returns-clause-sized
returns-clause-sized c = λ sized. IsSized-stores _ c.args.number c.args.page.now c.args.self.now _ (returns-clause-stores c) refl sized
