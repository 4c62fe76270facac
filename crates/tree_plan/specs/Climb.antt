-- What a put writes, from the leaf up to the root: the plan of each level on its pages, over lists.
use Rattle.std.specs.Prelude.{◌≡◌, ◌⊎◌, ℕ, ◌≤◌, pos, List, [], ◌∷◌, ◌++◌, length, map}
use Rattle.tree_page.specs.declared.cell.PageCells.{PageCells}
use Rattle.tree_page.specs.declared.cell.PageCells.TheVariants.{Interior}
use Rattle.tree_page.specs.Page.{inner, rowid_of, AreRising}
use Rattle.tree_page.specs.Written.{Fits}
use Rattle.page_cut.specs.declared.parts.Sheet.{Sheet}
use Rattle.page_cut.specs.declared.parts.Sheets.{Sheets}
use Rattle.tree_level.specs.Level.{numbers, up_cells, with_ups}
use Rattle.tree_model.specs.declared.level.Level.{Level}
use Rattle.tree_plan.specs.Plan.{IsInnerPlan}
use Rattle.tree_plan.specs.Law.{AreNumbered}

-- a page with these cells; nothing is asked of the key behind it
abbrev pub on : ℕ → PageCells → Sheet
on number cells = record { number = number; cells = cells; key = pos 0 }

-- a root has room for its cells
abbrev pub RootFits : ℕ → ℕ → Sheets → Type 0
RootFits usable root sheets = (sheets.front.items ≡ []) × Fits sheets.last root usable

-- a root that has no room for its cells: all parts are on new pages, and it stands over them
pub record RootIsCut (usable root : ℕ) (sheets : Sheets) (taken : List ℕ) (out : List Sheet) : Type 0 where
  pub over : ¬ (RootFits usable root sheets)
  pub front : List Sheet
  pub page : ℕ
  pub numbered : AreNumbered sheets.front.items front
  pub taken_are : taken ≡ numbers front ++ page ∷ []
  pub out_are : out ≡ front ++ (on page sheets.last ∷ on root (Interior (up_cells front) page) ∷ [])

abbrev pub RootSettles : ℕ → ℕ → Sheets → List ℕ → List Sheet → Type 0
RootSettles usable root sheets taken out =
    (RootFits usable root sheets × (taken ≡ []) × (out ≡ on root sheets.last ∷ [])) ⊎ RootIsCut usable root sheets taken out

-- a page below the root: its last part stays on it, and the others are on new pages, which come first
pub record Settles (number : ℕ) (sheets : Sheets) (front : List Sheet) (taken more : List ℕ) (out others : List Sheet) : Type 0 where
  pub numbered : AreNumbered sheets.front.items front
  pub taken_are : taken ≡ numbers front ++ more
  pub out_are : out ≡ front ++ (on number sheets.last ∷ others)

-- the cells that come up have their place in the page above: in damaged pages they may have none
abbrev pub Rises : Level → List Sheet → Type 0
Rises level front = AreRising (map rowid_of (map inner (with_ups level.at (up_cells front) level.cells)))

-- The pages that are taken, in order, and what is written, where the page with these parts stands below these levels, the
-- lowest first. Where no cell comes up the pages above stay as they are.
abbrev pub AreClimbed : ℕ → ℕ → Sheets → List Level → List ℕ → List Sheet → Type 0
AreClimbed usable number sheets [] taken out = RootSettles usable number sheets taken out
AreClimbed usable number sheets (level ∷ above) taken out =
    (front : List Sheet) × (more : List ℕ) × (others : List Sheet) × Settles number sheets front taken more out others
    × (((front ≡ []) × (more ≡ []) × (others ≡ []))
    ⊎ (((1 ≤ length front) × ¬ (Rises level front) × (more ≡ []) × (others ≡ []))
    ⊎ ((1 ≤ length front) × Rises level front × ((next : Sheets) × IsInnerPlan usable level front next × AreClimbed usable level.number next above more others))))
