-- The cells of a leaf keep no more than their payloads.
use Rattle.std.proofs.Common.{◌≡◌, ℕ, ◌≤◌, Bool, true, false, if◌then◌else◌, ℤ, int_le, List, [], ◌∷◌, map, Option, None, Some, IfSome, subst, arith}
use Rattle.std.proofs.lemmas.Bool.Decides.{nat_tests}
use Rattle.std.specs.List.{AllByRecursion}
use Rattle.db_format.specs.Spill.{local_size}
use Rattle.tree_page.specs.Page.{leaf}
use Rattle.tree_page.specs.Written.{Fits, IsSound}
use Rattle.tree_page.specs.declared.cell.LeafCell.{LeafCell}
use Rattle.tree_page.specs.declared.cell.PageCells.TheVariants.{Leaf as LeafPage}
use Rattle.tree_model.specs.Walk.{first_from}
use Rattle.tree_search.specs.declared.next.Place.{Place}
use Rattle.tree_search.specs.Steps.{IsKept}

-- no more is kept than there is
local_within : (usable len : ℕ) → local_size usable len ≤ len
local_within usable len = grind (arith, nat_tests)

some_is : (a b : LeafCell) → Some a ≡ Some b → a ≡ b
some_is a b is = cc

either : (c cell : LeafCell) (more : Option LeafCell) (test : Bool) → (if test then Some c else more) ≡ Some cell → IsKept c → (more ≡ Some cell → IsKept cell) → IsKept cell
either c cell more true is kept rest = let P : LeafCell → Type 0 = λ x. IsKept x in subst P (some_is c cell is) kept
either c cell more false is kept rest = rest is

first_of : (usable : ℕ) (key : ℤ) (cells : List LeafCell) (cell : LeafCell) → AllByRecursion (IsSound usable) (map leaf cells) → first_from key cells ≡ Some cell → IsKept cell
first_of usable key [] cell all is = cc
first_of usable key (c ∷ more) cell all is =
    either c cell (first_from key more) (int_le key c.rowid) is (omega (arith, all.0.kept, local_within usable c.payload_len)) (first_of usable key more cell all.1)

pub first_kept : (number usable : ℕ) (key : ℤ) (cells : List LeafCell) (cell : LeafCell) → Fits (LeafPage cells) number usable → first_from key cells ≡ Some cell → IsKept cell
first_kept number usable key cells cell fits is = first_of usable key cells cell fits.sound is

pub place_kept : (number usable : ℕ) (key : ℤ) (cells : List LeafCell) (found : Option Place) → Fits (LeafPage cells) number usable
    → IfSome found (λ place. first_from key cells ≡ Some place.cell) → IfSome found (λ place. IsKept place.cell)
place_kept number usable key cells None fits is = tt
place_kept number usable key cells (Some place) fits is = first_kept number usable key cells place.cell fits is
