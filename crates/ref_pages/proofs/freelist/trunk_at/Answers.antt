use Rattle.std.proofs.Common.{◌≡◌, ℕ, List, ◌∷◌, ◌++◌, ap, subst, sym, ◌∙◌}
use Rattle.std.proofs.lemmas.Bool.{false≢true}
use Rattle.page_list.specs.Pages.{HasPage, AllDifferent}
use Rattle.ref_pages.specs.AsPages.{pages_of}
use Rattle.ref_pages.specs.FreeSteps.{MayBeFree}
use Rattle.page_list.proofs.ChainLemmas.{among-here}
use Rattle.ref_pages.proofs.FreeLemmas.{same_leaves}
use Rattle.ref_pages.proofs.freelist.trunk_at.Goals as goal

pub returns-in_default-clause-none : goal.returns-in_default-clause-none
returns-in_default-clause-none c = λ trunk same f.
    let there = (f.free.each trunk.number (among-here trunk.number trunk.leaves)).0 in
    let P : ℕ → Type 0 = HasPage (pages_of c.args.pages.now) in
    c.in_default.ensures.none (subst P same there)

pub returns-then-not-branch-clause-none : goal.returns-then-not-branch-clause-none
returns-then-not-branch-clause-none c = λ trunk same f.
    let pages = pages_of c.args.pages.now in
    let leaves_are : trunk.leaves ≡ c.in_ok-leaves.leaves = same_leaves pages c.in-Some.bytes.now c.u32_at-count.result trunk c.in_ok-leaves.leaves
    (c.in-Some.ensures.is ∙ ap pages.bytes (sym same)) (sym c.u32_at-count.ensures) f.is_trunk c.in_ok-leaves.ensures in
    let own : (trunk.number ∷ trunk.leaves) ≡ (c.args.number ∷ c.as_slice.result.now) =
    ap (λ (n : ℕ). n ∷ trunk.leaves) same ∙ ap (λ (l : List ℕ). c.args.number ∷ l) (leaves_are ∙ sym c.as_slice.ensures) in
    let P : List ℕ → Type 0 = MayBeFree pages in
    let Q : List ℕ → Type 0 = λ l. AllDifferent (c.args.met.now ++ l) in
    false≢true (sym c.if-not-branch.true ∙ c.in_ok-follow.ensures.1 (subst P own f.free, subst Q own f.different))
