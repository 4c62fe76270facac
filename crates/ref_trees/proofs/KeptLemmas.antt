-- The cells of a leaf keep no more than their payloads.
use Rattle.std.proofs.Common.{◌≡◌, ℕ, ◌≤◌, Bool, true, false, if◌then◌else◌, ℤ, int_le, List, [], ◌∷◌, length, map, take, Option, Some, refl, sym, subst, arith}
use Rattle.std.proofs.lemmas.Bool.Decides.{nat_tests}
use Rattle.std.specs.List.{AllByRecursion}
use Rattle.db_format.specs.Spill.{local_size}
use Rattle.page_list.specs.Pages.{Pages}
use Rattle.tree_page.specs.Page.{Cell, leaf, Placed, Stands, Spells, SpellsLeaf, content_start}
use Rattle.tree_page.specs.declared.cell.LeafCell.{LeafCell}
use Rattle.tree_page.specs.declared.cell.PageCells.TheVariants.{Leaf as LeafPage}
use Rattle.tree_model.specs.Held.{HasCells}
use Rattle.tree_model.specs.Walk.{first_from}
use Rattle.ref_trees.specs.Steps.{IsKept}

-- no more is kept than there is
pub local_within : (usable len : ℕ) → local_size usable len ≤ len
local_within usable len = grind (arith, nat_tests)

spelled_kept : (usable : ℕ) (text : List ℕ) (cell : LeafCell) → SpellsLeaf usable text cell → IsKept cell
spelled_kept usable text cell is = omega (arith, is.kept, local_within usable cell.payload_len)

-- the cell of a placed one that stands
stands_kept : (bytes : List ℕ) (content : ℕ) (placed : Placed) (cell : LeafCell) → Stands bytes content placed → leaf cell ≡ placed.cell → IsKept cell
stands_kept bytes content placed cell stands is =
    let P : Cell → Type 0 = λ c. Spells (length bytes) stands.cell_is.text c in
    spelled_kept (length bytes) stands.cell_is.text cell (subst P (sym is) stands.cell_is.spelled)

all_kept : (bytes : List ℕ) (content : ℕ) (placed : List Placed) (cells : List LeafCell) → AllByRecursion (Stands bytes content) placed
    → map leaf cells ≡ map (λ (p : Placed). p.cell) placed → AllByRecursion IsKept cells
all_kept bytes content [] [] stand is = tt
all_kept bytes content [] (cell ∷ more) stand is = cc
all_kept bytes content (p ∷ placed) [] stand is = cc
all_kept bytes content (p ∷ placed) (cell ∷ more) stand is =
    (stands_kept bytes content p cell stand.0 cc, all_kept bytes content placed more stand.1 cc)

pub cells_kept : (pages : Pages) (page : ℕ) (cells : List LeafCell) → HasCells pages page (LeafPage cells) → AllByRecursion IsKept cells
cells_kept pages page cells has = all_kept (take pages.usable (pages.bytes page)) (content_start (take pages.usable (pages.bytes page)) page) has.reads.placed cells has.reads.stand has.reads.cells_are

-- the first one from a key on is one of them, and not before the key
some_is : (a b : LeafCell) → Some a ≡ Some b → a ≡ b
some_is a b is = cc

either : (key : ℤ) (c cell : LeafCell) (more : Option LeafCell) (test : Bool) → int_le key c.rowid ≡ test → (if test then Some c else more) ≡ Some cell
    → IsKept c → (more ≡ Some cell → IsKept cell × (int_le key cell.rowid ≡ true)) → IsKept cell × (int_le key cell.rowid ≡ true)
either key c cell more true h is kept rest =
    let P : LeafCell → Type 0 = λ x. IsKept x × (int_le key x.rowid ≡ true) in subst P (some_is c cell is) (kept, h)
either key c cell more false h is kept rest = rest is

pub first_has : (key : ℤ) (cells : List LeafCell) (cell : LeafCell) → AllByRecursion IsKept cells → first_from key cells ≡ Some cell
    → IsKept cell × (int_le key cell.rowid ≡ true)
first_has key [] cell all is = cc
first_has key (c ∷ more) cell all is = either key c cell (first_from key more) (int_le key c.rowid) refl is all.0 (first_has key more cell all.1)
