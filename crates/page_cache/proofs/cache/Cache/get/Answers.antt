use Rattle.std.proofs.Common.{◌≡◌, Some, None, is_some, length, sym, subst, ap, ◌∙◌}
use Rattle.page_cache.specs.Pages.{page_at, IsCache, after_use}
use Rattle.page_cache.specs.CacheFields.{pages_of}
use Rattle.page_cache.proofs.PagesLemmas.{IsCache-used, SamePages-used, IsSized-same}
use Rattle.page_cache.proofs.CacheLemmas.{pages_from-promote, page_at-pages_from}
use Rattle.page_cache.proofs.cache.Cache.get.Goals as goal
use Rattle.page_cache.proofs.cache.Cache.get.Goals.{in-Some, in-None}

pub copy_from_slice-requires : goal.copy_from_slice-requires
copy_from_slice-requires c =
    let kept : page_at (pages_of c.self.inside) c.args.number ≡ Some c.in-Some.page.now.items =
    page_at-pages_from (λ v. v.items) c.self.inside.pages c.args.number (Some c.in-Some.page.now) c.in-Some.ensures.value in
    let found : page_at c.args.self.now c.args.number ≡ Some c.in-Some.page.now.items = ap (λ p. page_at p c.args.number) (sym c.self.view_is) ∙ kept in
    sym (rw found at (c.requires.each c.args.number)) ∙ ap length (sym c.deref.ensures.value)

pub returns-clause-pages : goal.returns-clause-pages
returns-clause-pages c =
    let leaves = pages_from-promote (λ v. v.items) c.self.inside.pages c.self.invariant c.args.number _ c.get.follows.holds-at-none
    ∙ ap (λ p. after_use p c.args.number) c.self.view_is in
    elim c.match-get.branch [
      | in-Some w ↦ ap pages_of w.self-inside-is ∙ leaves
      | in-None w ↦ ap pages_of w.self-inside-is ∙ leaves
    ]

pub returns-clause-cache : goal.returns-clause-cache
returns-clause-cache c = rw (returns-clause-pages c) (IsCache-used c.args.self.now (subst IsCache c.self.view_is c.self.invariant) c.args.number)

pub invariant_of-self : goal.invariant_of-self
invariant_of-self c = returns-clause-cache c

pub returns-clause-same : goal.returns-clause-same
returns-clause-same c = rw (returns-clause-pages c) (SamePages-used c.args.self.now (subst IsCache c.self.view_is c.self.invariant) c.args.number)

pub returns-clause-found : goal.returns-clause-found
returns-clause-found c = rw (← c.self.view_is) (elim c.match-get.branch [
  | in-Some w ↦ w.result-is ∙ ap is_some (sym (page_at-pages_from (λ v. v.items) c.self.inside.pages c.args.number (Some w.in-Some.page.now) w.in-Some.ensures.value))
  | in-None w ↦ w.result-is ∙ ap is_some (sym (page_at-pages_from (λ v. v.items) c.self.inside.pages c.args.number None w.in-None.ensures.value))
])

pub returns-clause-page : goal.returns-clause-page
returns-clause-page c = rw (← c.self.view_is) (elim c.match-get.branch [
  | in-Some w ↦ rw (page_at-pages_from (λ v. v.items) c.self.inside.pages c.args.number (Some w.in-Some.page.now) w.in-Some.ensures.value) (w.into-is ∙ w.copy_from_slice.ensures.after ∙ w.deref.ensures.value)
  | in-None w ↦ rw (page_at-pages_from (λ v. v.items) c.self.inside.pages c.args.number None w.in-None.ensures.value) w.into-is
])

pub returns-clause-sized : goal.returns-clause-sized
returns-clause-sized c = IsSized-same _ c.args.self.now _ (returns-clause-same c) c.requires
