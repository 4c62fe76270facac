-- Searches among the cells of a page.
use Rattle.std.proofs.Common.{◌≡◌, ℕ, suc, ◌+◌, ◌<◌, Bool, true, ℤ, int_le, if◌then◌else◌, List, ◌∷◌, length, drop, get_or, Some, sym, ap, ◌∙◌, drop-cons, add-one}
use Rattle.tree_page.specs.declared.cell.LeafCell.{LeafCell}
use Rattle.tree_page.specs.declared.cell.InnerCell.{InnerCell}
use Rattle.tree_model.specs.Walk.{first_from, child_for}

-- what stands from a place on
pub from_place : {A : Type 0} (s : List A) (i : ℕ) (x : A) → i < length s → x ≡ get_or s i x → drop i s ≡ x ∷ drop (i + 1) s
from_place s i x within is =
    drop-cons s i x within ∙ ap (λ (y : _). y ∷ drop (suc i) s) (sym is) ∙ ap (λ (n : ℕ). x ∷ drop n s) (sym (add-one i))

-- a choice by a test whose answer is known
chosen : {A : Type 0} (test : Bool) (x y : A) → test ≡ true → (if test then x else y) ≡ x
chosen test x y h = ap (λ (b : Bool). if b then x else y) h

pub first_found : (key : ℤ) (cells : List LeafCell) (i : ℕ) (cell : LeafCell) → first_from key cells ≡ first_from key (drop i cells) → i < length cells
    → cell ≡ get_or cells i cell → int_le key cell.rowid ≡ true → first_from key cells ≡ Some cell
first_found key cells i cell before within is h =
    before ∙ ap (first_from key) (from_place cells i cell within is) ∙ chosen (int_le key cell.rowid) (Some cell) (first_from key (drop (i + 1) cells)) h

pub child_found : (key : ℤ) (cells : List InnerCell) (right i : ℕ) (none : InnerCell) → child_for key cells right ≡ child_for key (drop i cells) right
    → i < length cells → int_le key (get_or cells i none).rowid ≡ true → child_for key cells right ≡ (get_or cells i none).child
child_found key cells right i none before within h =
    let cell = get_or cells i none in
    before ∙ ap (λ (more : List InnerCell). child_for key more right) (drop-cons cells i none within)
    ∙ chosen (int_le key cell.rowid) cell.child (child_for key (drop (suc i) cells) right) h
