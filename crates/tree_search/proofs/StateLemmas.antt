-- Refusals, from a later state to an earlier one.
use Rattle.std.proofs.Common.{◌≡◌, ℕ, IsTrue, Some, subst, ◌∙◌, arith}
use Rattle.page_list.specs.Pages.{Pages}
use Rattle.page_pool.specs.Space.{SpaceState, Steady, Stays}
use Rattle.db_format.specs.declared.fault.SpaceFault.{SpaceFault}
use Rattle.db_format.specs.declared.fault.SpaceFault.TheVariants.{Failed, Memory, Bad, Corrupt, Large}
use Rattle.tree_model.specs.declared.ends.Fault.{Fault}
use Rattle.tree_model.specs.declared.ends.Fault.TheVariants.{BadPage, Broken}
use Rattle.tree_page.specs.declared.cell.PageCells.{PageCells}
use Rattle.tree_page.specs.Written.{Fits}
use Rattle.tree_model.specs.Held.{HasCells}
use Rattle.tree_search.specs.Search.{SearchRefused}

-- what is refused after calls that changed nothing is refused from the first
pub refused_on : (old mid new : SpaceState) (AtFault : Pages → Fault → Type 0) (fault : SpaceFault) → Steady old mid → Stays old mid
    → SearchRefused mid new (AtFault mid.pages) fault → SearchRefused old new (AtFault old.pages) fault
refused_on old mid new AtFault Failed steady stays is = omega (arith, steady.counted)
refused_on old mid new AtFault Memory steady stays is = tt
refused_on old mid new AtFault (Bad page kept found) steady stays is =
    let P : Pages → Type 0 = λ p. AtFault p (BadPage page) in
    let Q : Pages → Type 0 = λ p. p.bad page ≡ Some (kept, found) in
    (λ t. subst Q (stays.pages_stay t) (is.0 (steady.told ∙ t)), λ t. subst P (stays.pages_stay t) (is.1 (steady.told ∙ t)))
refused_on old mid new AtFault (Corrupt page) steady stays is =
    let P : Pages → Type 0 = λ p. AtFault p (Broken page) in
    λ t. subst P (stays.pages_stay t) (is (steady.told ∙ t))
refused_on old mid new AtFault (Large pages) steady stays is = is

-- and of what is at fault something else may follow, where it is told
pub refused_as : (old new : SpaceState) (A B : Fault → Type 0) (fault : SpaceFault) → (IsTrue old.tells → (f : Fault) → A f → B f)
    → SearchRefused old new A fault → SearchRefused old new B fault
refused_as old new A B Failed more is = is
refused_as old new A B Memory more is = tt
refused_as old new A B (Bad page kept found) more is = (is.0, λ t. more t (BadPage page) (is.1 t))
refused_as old new A B (Corrupt page) more is = λ t. more t (Broken page) (is t)
refused_as old new A B (Large pages) more is = is

-- what a page has, and that it fits
pub has_on : (old mid : SpaceState) (page : ℕ) (cells other : PageCells) → Steady old mid → Stays old mid → (IsTrue mid.tells → HasCells mid.pages page cells) → cells ≡ other
    → IsTrue old.tells → HasCells old.pages page other
has_on old mid page cells other steady stays has is t =
    let P : Pages → Type 0 = λ p. HasCells p page cells in
    let Q : PageCells → Type 0 = λ c. HasCells old.pages page c in
    subst Q is (subst P (stays.pages_stay t) (has (steady.told ∙ t)))

pub fits_on : (old mid : SpaceState) (page : ℕ) (cells other : PageCells) → Steady old mid → Fits cells page mid.pages.usable → cells ≡ other → Fits other page old.pages.usable
fits_on old mid page cells other steady fits is =
    let P : ℕ → Type 0 = λ n. Fits cells page n in
    let Q : PageCells → Type 0 = λ c. Fits c page old.pages.usable in
    subst Q is (subst P steady.used fits)
