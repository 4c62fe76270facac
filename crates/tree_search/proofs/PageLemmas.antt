-- Why a page cannot be gone over.
use Rattle.std.proofs.Common.{◌≡◌, ℕ, ◌≤◌, List, inr, refl, subst}
use Rattle.page_list.specs.Pages.{Pages, HasPage, IsGood}
use Rattle.tree_page.specs.Page.{IsPage}
use Rattle.tree_page.specs.declared.cell.PageCells.{PageCells}
use Rattle.tree_model.specs.declared.ends.Fault.TheVariants.{Broken}
use Rattle.tree_model.specs.Walk.{IsFault}

-- a page that is there and good and no b-tree page
pub is_malformed : (pages : Pages) (left above page : ℕ) (bytes : List ℕ) → HasPage pages page → 1 ≤ left → IsGood pages page → bytes ≡ pages.bytes page
    → ((cells : PageCells) → ¬ (IsPage bytes page pages.usable cells)) → IsFault pages left above page (Broken page)
is_malformed pages left above page bytes there some good same none =
    inr (inr (inr (there, some, good, subst (λ (b : List ℕ). (cells : PageCells) → ¬ (IsPage b page pages.usable cells)) same none, refl)))
