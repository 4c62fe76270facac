-- The cell of a row, and the cell that it replaces.
use Rattle.std.proofs.Common.{◌≡◌, inl, inr, ℕ, ◌≤◌, ℤ, int_le, Bool, true, false, if◌then◌else◌, List, [], ◌∷◌, length, take, drop, map, Option, None, Some, IfSome, sym, ap, subst, ◌∙◌, arith, length-drop}
use Rattle.std.proofs.lemmas.Bool.Decides.{nat_tests}
use Rattle.std.proofs.lemmas.List.{length-take-le}
use Rattle.std.specs.List.{AllByRecursion}
use Rattle.db_format.specs.Spill.{local_size}
use Rattle.page_pool.specs.Space.{SpaceState, Steady}
use Rattle.tree_page.specs.declared.cell.LeafCell.{LeafCell}
use Rattle.tree_page.specs.declared.cell.PageCells.TheVariants.{Leaf as LeafPage, Interior as InnerPage}
use Rattle.tree_page.specs.Page.{leaf}
use Rattle.tree_page.specs.Written.{Fits, IsSound}
use Rattle.tree_model.specs.declared.level.Level.{Level}
use Rattle.tree_plan.specs.Plan.{cell_of}
use Rattle.tree_search.specs.declared.path.Descent.{Descent}
use Rattle.tree_search.specs.Search.{IsStep, IsDescent}
use Rattle.rowid_tree.specs.Steps.{rest_part, RestWritten, CellWritten}

-- no more is kept than there is
pub local_within : (usable len : ℕ) → local_size usable len ≤ len
local_within usable len = grind (arith, nat_tests)

no_rest : {old new : SpaceState} (rest : List ℕ) (first : ℕ) → RestWritten old new rest first → length rest ≡ 0 → first ≡ 0
no_rest rest first (inl none) is = none.1
no_rest rest first (inr some) is = absurd (omega (arith, some.0, is))

pub cell_written : (old new : SpaceState) (rowid : ℤ) (payload : List ℕ) (cell : LeafCell) (kept : ℕ) → cell.rowid ≡ rowid → cell.payload_len ≡ length payload
    → kept ≡ local_size old.pages.usable (length payload) → cell.local ≡ take kept payload → Steady old new → RestWritten old new (drop kept payload) cell.overflow
    → CellWritten old new rowid payload cell
cell_written old new rowid payload cell kept keyed long kept_is local_is steady rest =
    let u : ℕ = old.pages.usable in
    let n : ℕ = local_size u (length payload) in
    let P : ℕ → Type 0 = λ k. RestWritten old new (drop k payload) cell.overflow in
    let rest_is : RestWritten old new (rest_part u payload) cell.overflow = subst P kept_is rest in
    let local_as : cell.local ≡ take n payload = local_is ∙ ap (λ k. take k payload) kept_is in
    let local_long : length cell.local ≡ n = ap (λ (l : List ℕ). length l) local_as ∙ length-take-le n payload (local_within u (length payload)) in
    record {
      keyed = keyed;
      long = long;
      keeps = local_as;
      sound = record {
        kept = local_long ∙ ap (λ k. local_size u k) (sym long);
        whole = λ all. no_rest (rest_part u payload) cell.overflow rest_is (length-drop n payload ∙ omega (arith, all, local_long, long));
      };
      steady = steady;
      rest = rest_is;
    }

-- the cell of a rowid on a page keeps no more than its payload
IsShort : LeafCell → Type 0
IsShort cell = length cell.local ≤ cell.payload_len

some_is : (a b : LeafCell) → Some a ≡ Some b → a ≡ b
some_is a b is = cc

chosen : (c cell : LeafCell) (more : Option LeafCell) (x y : Bool) → (if x then (if y then Some c else None) else more) ≡ Some cell
    → length c.local ≤ c.payload_len → (more ≡ Some cell → length cell.local ≤ cell.payload_len) → length cell.local ≤ cell.payload_len
chosen c cell more true true is kept rest = let P : LeafCell → Type 0 = λ x. length x.local ≤ x.payload_len in subst P (some_is c cell is) kept
chosen c cell more true false is kept rest = cc
chosen c cell more false y is kept rest = rest is

found_kept : (usable : ℕ) (key : ℤ) (cells : List LeafCell) (cell : LeafCell) → AllByRecursion (IsSound usable) (map leaf cells) → cell_of key cells ≡ Some cell
    → length cell.local ≤ cell.payload_len
found_kept usable key [] cell all is = cc
found_kept usable key (c ∷ more) cell all is =
    chosen c cell (cell_of key more) (int_le key c.rowid) (int_le c.rowid key) is (omega (arith, all.0.kept, local_within usable c.payload_len))
    (found_kept usable key more cell all.1)

pub replaced_kept : (number usable : ℕ) (key : ℤ) (cells : List LeafCell) (was : Option LeafCell) → Fits (LeafPage cells) number usable → was ≡ cell_of key cells
    → IfSome was (λ cell. length cell.local ≤ cell.payload_len)
replaced_kept number usable key cells None fits is = tt
replaced_kept number usable key cells (Some cell) fits is = found_kept usable key cells cell fits.sound (sym is)

-- a way in pages of which there are more now
steps_later : (size more usable usable' : ℕ) → size ≤ more → usable' ≡ usable → (levels : List Level) → AllByRecursion (IsStep size usable) levels
    → AllByRecursion (IsStep more usable') levels
steps_later size more usable usable' up same [] all = tt
steps_later size more usable usable' up same (level ∷ rest) all = (
  record {
    least = all.0.least;
    most = omega (arith, all.0.most);
    fits = let P : ℕ → Type 0 = λ u. Fits (InnerPage level.cells level.right) level.number u in subst P (sym same) all.0.fits;
    at = all.0.at;
  },
  steps_later size more usable usable' up same rest all.1,
)

pub way_later : (size more usable usable' : ℕ) (descent : Descent) → size ≤ more → usable' ≡ usable → IsDescent size usable descent → IsDescent more usable' descent
way_later size more usable usable' descent up same way = record {
  each = steps_later size more usable usable' up same descent.levels.items way.each;
  few = way.few;
  least = way.least;
  most = omega (arith, way.most);
  fits = let P : ℕ → Type 0 = λ u. Fits (LeafPage descent.cells) descent.leaf u in subst P (sym same) way.fits;
}

rest_more : {old new : SpaceState} (rest : List ℕ) (first : ℕ) → RestWritten old new rest first → old.pages.size ≤ new.pages.size
rest_more rest first (inl none) = omega (arith, none.2.number)
rest_more rest first (inr some) = omega (arith, some.1.size, some.1.took.no_fewer)

pub written_more : {old new : SpaceState} (rowid : ℤ) (payload : List ℕ) (cell : LeafCell) → CellWritten old new rowid payload cell → old.pages.size ≤ new.pages.size
written_more {old = old} rowid payload cell w = rest_more (rest_part old.pages.usable payload) cell.overflow w.rest
