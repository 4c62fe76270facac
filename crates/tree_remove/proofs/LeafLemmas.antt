-- A cell taken out of a leaf that fits its page.
use Rattle.std.proofs.Common.{◌≡◌, inl, ℕ, ◌≤◌, ℤ, List, [], ◌∷◌, ◌++◌, length, map, Some, None, sym, ap, subst, ◌∙◌, arith}
use Rattle.std.specs.List.{AllByRecursion}
use Rattle.std.proofs.lemmas.Bool.Decides.{nat_tests}
use Rattle.db_format.specs.Spill.{local_size}
use Rattle.tree_page.specs.declared.cell.LeafCell.{LeafCell}
use Rattle.tree_page.specs.declared.cell.PageCells.{PageCells}
use Rattle.tree_page.specs.declared.cell.PageCells.TheVariants.{Leaf}
use Rattle.tree_page.specs.Page.{leaf}
use Rattle.tree_page.specs.Written.{Fits, IsSound, KeepsLocal}
use Rattle.tree_page.proofs.FitLemmas.{fits_without}
use Rattle.tree_model.proofs.IntLemmas.{le_is, not_le_is, by_le}
use Rattle.tree_plan.specs.Plan.{cell_of}
use Rattle.tree_join.specs.declared.leaf.Taken.{Taken}
use Rattle.tree_join.specs.declared.level.Left.{Left}
use Rattle.tree_join.specs.declared.level.Left.TheVariants.{Parts, Over, Nothing}
use Rattle.tree_join.specs.Leaf.{other_cells, IsTakenOut}
use Rattle.tree_join.specs.Join.{IsLeafLeft}
use Rattle.tree_remove.specs.Shrink.{IsLeftPlan}
use Rattle.tree_remove.specs.Steps.{IsLeftOfLeaf}

-- the cell stands between others
record Splits (key : ℤ) (cells : List LeafCell) (cell : LeafCell) : Type 0 where
  front : List LeafCell
  back : List LeafCell
  were : cells ≡ front ++ cell ∷ back
  others : other_cells key cells ≡ front ++ back

some_is : (a b : LeafCell) → Some a ≡ Some b → a ≡ b
some_is a b is = cc

none_is : {P : Type 0} (a : LeafCell) → None ≡ Some a → P
none_is a is = cc

split_at : (key : ℤ) (cells : List LeafCell) (cell : LeafCell) → cell_of key cells ≡ Some cell → Splits key cells cell
split_at key [] cell is = none_is cell is
split_at key (c ∷ more) cell is =
    by_le key c.rowid
    (λ at. let a = le_is key c.rowid at in
    by_le c.rowid key
    (λ back.
    let b = le_is c.rowid key back in
    let found : cell_of key (c ∷ more) ≡ Some c = cc in
    record { front = []; back = more; were = ap (λ (x : LeafCell). x ∷ more) (some_is c cell (sym found ∙ is)); others = cc })
    (λ above. let b = not_le_is c.rowid key above in let found : cell_of key (c ∷ more) ≡ None = cc in none_is cell (sym found ∙ is)))
    (λ past.
    let a = not_le_is key c.rowid past in
    let found : cell_of key (c ∷ more) ≡ cell_of key more = cc in
    let rest = split_at key more cell (sym found ∙ is) in
    let others : other_cells key (c ∷ more) ≡ c ∷ other_cells key more = cc in
    record { front = c ∷ rest.front; back = rest.back; were = ap (λ (l : List LeafCell). c ∷ l) rest.were; others = others ∙ ap (λ (l : List LeafCell). c ∷ l) rest.others })

sound_at : (usable : ℕ) (front : List LeafCell) (cell : LeafCell) (back : List LeafCell) → AllByRecursion (IsSound usable) (map leaf (front ++ cell ∷ back)) → KeepsLocal usable cell
sound_at usable [] cell back all = all.0
sound_at usable (x ∷ xs) cell back all = sound_at usable xs cell back all.1

local_within : (usable len : ℕ) → local_size usable len ≤ len
local_within usable len = grind (arith, nat_tests)

pub taken_kept : (key : ℤ) (number usable : ℕ) (cells : List LeafCell) (taken : Taken) → Fits (Leaf cells) number usable → IsTakenOut key cells taken → length taken.cell.local ≤ taken.cell.payload_len
taken_kept key number usable cells taken fits is =
    let s = split_at key cells taken.cell is.cell in
    let P : List LeafCell → Type 0 = λ l. AllByRecursion (IsSound usable) (map leaf l) in
    let kept = (sound_at usable s.front taken.cell s.back (subst P s.were fits.sound)).kept in
    omega (arith, kept, local_within usable taken.cell.payload_len)

pub others_fit : (key : ℤ) (number usable : ℕ) (cells : List LeafCell) (taken : Taken) → Fits (Leaf cells) number usable → IsTakenOut key cells taken → Fits (Leaf taken.others) number usable
others_fit key number usable cells taken fits is =
    let s = split_at key cells taken.cell is.cell in
    let P : List LeafCell → Type 0 = λ l. Fits (Leaf l) number usable in
    subst P (sym (is.others ∙ s.others)) (fits_without.of_leaf s.front s.back taken.cell number usable (subst P s.were fits))

pub leaf_planned : (number usable : ℕ) (cells : List LeafCell) (left : Left) → IsLeafLeft number usable cells left → IsLeftPlan number usable left
leaf_planned number usable cells Nothing is = tt
leaf_planned number usable cells (Over child) is = absurd is
leaf_planned number usable cells (Parts sheets) is =
    let P : PageCells → Type 0 = λ c. Fits c number usable in
    (record { whole = Leaf cells; cut = inl is.1 }, λ none. subst P (sym is.1.all) is.1.fits)

pub leaf_left : (number usable : ℕ) (cells : List LeafCell) (left : Left) → IsLeafLeft number usable cells left → IsLeftOfLeaf left
leaf_left number usable cells Nothing is = tt
leaf_left number usable cells (Over child) is = absurd is
leaf_left number usable cells (Parts sheets) is = is.1.none
