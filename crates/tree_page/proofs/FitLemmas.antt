use Rattle.std.proofs.Common.{◌≡◌, ℕ, zero, suc, ◌+◌, ◌-◌, ◌≤◌, ◌<◌, max, ℤ, ◌<ℤ◌, List, [], ◌∷◌, ◌++◌, length, map, drop, Option, Some, None, IfSome, slice_get, refl, sym, subst, ap, ◌∙◌, arith}
use Rattle.std.specs.List.{AllByRecursion}
use Rattle.std.proofs.lemmas.List.{drop_all, map-append}
use Rattle.std.proofs.lemmas.Int.{ints}
use Rattle.tree_page.specs.declared.cell.PageCells.{PageCells}
use Rattle.tree_page.specs.declared.cell.PageCells.TheVariants.{Leaf, Interior}
use Rattle.tree_page.specs.Page.{Cell, leaf, inner, rowid_of, cells_of, page_kind, first_pointer, AreAbove}
use Rattle.tree_page.specs.Written.{Fits, IsSound, space_of, written_size}
use Rattle.tree_page.specs.Laws.{FitsWithout}
use Rattle.tree_page.specs.Steps.{IsAbove, RiseFrom, Joins}

-- the cells come behind the last one, are sound, and have room
pub record FitsFrom (usable : ℕ) (last : Option ℤ) (room : ℕ) (cells : List Cell) : Type 0 where
  pub rising : RiseFrom last (map rowid_of cells)
  pub sound : AllByRecursion (IsSound usable) cells
  pub space : space_of cells ≤ room

pub rise_more : (last : Option ℤ) (key : ℤ) (keys : List ℤ) → IsAbove last key → RiseFrom (Some key) keys → RiseFrom last (key ∷ keys)
rise_more None key keys above rest = rest
rise_more (Some last) key keys above rest = (above, rest)

pub rise_rest : (last : Option ℤ) (key : ℤ) (keys : List ℤ) → RiseFrom last (key ∷ keys) → RiseFrom (Some key) keys
rise_rest None key keys all = all
rise_rest (Some last) key keys all = all.1

pub rise_above : (last : Option ℤ) (key : ℤ) (keys : List ℤ) → RiseFrom last (key ∷ keys) → IsAbove last key
rise_above None key keys all = tt
rise_above (Some last) key keys all = all.0

-- what stands at a place is the first of what is left from there
pub cell_at : {X : Type 0} (xs : List X) (i : ℕ) → i < length xs → (x : X) × (slice_get xs i ≡ Some x) × (drop i xs ≡ x ∷ drop (i + 1) xs)
cell_at [] i within = absurd (omega arith)
cell_at (x ∷ xs) zero within = (x, refl, refl)
cell_at {X = X} (x ∷ xs) (suc i) within =
    let rest = cell_at xs i (omega arith) in
    (rest.0, rest.1, let next : suc (i + 1) ≡ suc i + 1 = omega arith in rest.2 ∙ ap (λ n. rest.0 ∷ drop n (x ∷ xs)) next)

key_is : (key : ℤ) (found : Option Cell) (cell : Cell) → IfSome found (λ c. key ≡ rowid_of c) → found ≡ Some cell → rowid_of cell ≡ key
key_is key found cell if_some is = let P : Option Cell → Type 0 = λ o. IfSome o (λ c. key ≡ rowid_of c) in sym (subst P is if_some)

-- one cell more or less
pub fit_step : (usable at room left : ℕ) (last : Option ℤ) (key given : ℤ) (cells : List Cell) → at < length cells → key ≡ given
    → ((cell : Cell) → slice_get cells at ≡ Some cell → Joins usable last room left cell)
    → IfSome (slice_get cells at) (λ cell. given ≡ rowid_of cell)
    → (FitsFrom usable (Some key) left (drop (at + 1) cells) → FitsFrom usable last room (drop at cells))
    × (FitsFrom usable last room (drop at cells) → FitsFrom usable (Some key) left (drop (at + 1) cells))
fit_step usable at room left last key given cells within key_given joins key_at =
    let here = cell_at cells at within in
    let cell = here.0 in
    let more = drop (at + 1) cells in
    let joined = joins cell here.1 in
    let same : rowid_of cell ≡ key = key_is given (slice_get cells at) cell key_at here.1 ∙ sym key_given in (
      λ fit. subst (FitsFrom usable last room) (sym here.2)
          (record {
            rising = rise_more last (rowid_of cell) (map rowid_of more) joined.above (subst (λ k. RiseFrom (Some k) (map rowid_of more)) (sym same) fit.rising);
            sound = (joined.sound, fit.sound);
            space = omega (arith, joined.room_is, fit.space);
          }),
      λ fit.
          let all : FitsFrom usable last room (cell ∷ more) = subst (FitsFrom usable last room) here.2 fit in
          record {
            rising = subst (λ k. RiseFrom (Some k) (map rowid_of more)) same (rise_rest last (rowid_of cell) (map rowid_of more) all.rising);
            sound = all.sound.1;
            space = omega (arith, joined.room_is, all.space);
          },
    )

-- a cell that does not join leaves no way for those from it on
pub fit_none : (usable at room : ℕ) (last : Option ℤ) (cells : List Cell) → at < length cells
    → ((cell : Cell) → slice_get cells at ≡ Some cell → (left : ℕ) → ¬ (Joins usable last room left cell))
    → ¬ (FitsFrom usable last room (drop at cells))
fit_none usable at room last cells within none fit =
    let here = cell_at cells at within in
    let cell = here.0 in
    let more = drop (at + 1) cells in
    let all : FitsFrom usable last room (cell ∷ more) = subst (FitsFrom usable last room) here.2 fit in
    none cell here.1 (room - (2 + max 4 (written_size cell)))
    (record {
      above = rise_above last (rowid_of cell) (map rowid_of more) all.rising;
      sound = all.sound.0;
      room_is = omega (arith, all.space);
    })

rise_none : (last : Option ℤ) → RiseFrom last []
rise_none None = tt
rise_none (Some last) = tt

-- no cell is left
pub fit_end : (usable at room : ℕ) (last : Option ℤ) (cells : List Cell) → length cells ≤ at → FitsFrom usable last room (drop at cells)
fit_end usable at room last cells past = subst (FitsFrom usable last room) (sym (drop_all at cells past)) (record { rising = rise_none last; sound = tt; space = omega arith })

-- all cells of a page
pub fits_from : (cells : PageCells) (number usable : ℕ) → Fits cells number usable → FitsFrom usable None (usable - first_pointer number (page_kind cells)) (cells_of cells)
fits_from cells number usable fit = record { rising = fit.rising; sound = fit.sound; space = omega (arith, fit.room) }

-- one cell left out

above_less : (last key : ℤ) (keys : List ℤ) → last <ℤ key → AreAbove key keys → AreAbove last keys
above_less last key [] less above = tt
above_less last key (next ∷ keys) less above = (let more = above.0 in omega (arith, ints), above.1)

rise_skip : (last : Option ℤ) (key : ℤ) (keys : List ℤ) → RiseFrom last (key ∷ keys) → RiseFrom last keys
rise_skip None key [] all = tt
rise_skip None key (next ∷ keys) all = all.1
rise_skip (Some last) key keys all = above_less last key keys all.0 all.1

from_without : (usable : ℕ) (last : Option ℤ) (room : ℕ) (front back : List Cell) (cell : Cell) → FitsFrom usable last room (front ++ cell ∷ back) → FitsFrom usable last room (front ++ back)
from_without usable last room [] back cell all = record {
  rising = rise_skip last (rowid_of cell) (map rowid_of back) all.rising;
  sound = all.sound.1;
  space = omega (arith, all.space);
}
from_without usable last room (c ∷ front) back cell all =
    let key = rowid_of c in
    let keys = map rowid_of (front ++ cell ∷ back) in
    let rest : FitsFrom usable (Some key) (room - (2 + max 4 (written_size c))) (front ++ cell ∷ back) = record {
      rising = rise_rest last key keys all.rising;
      sound = all.sound.1;
      space = omega (arith, all.space);
    } in
    let less = from_without usable (Some key) (room - (2 + max 4 (written_size c))) front back cell rest in
    record {
      rising = rise_more last key (map rowid_of (front ++ back)) (rise_above last key keys all.rising) less.rising;
      sound = (all.sound.0, less.sound);
      space = omega (arith, all.space, less.space);
    }

-- on a page with its first pointer here
page_without : {X : Type 0} (kind : X → Cell) (usable first : ℕ) (front back : List X) (x : X)
    → FitsFrom usable None (usable - first) (map kind (front ++ x ∷ back)) → FitsFrom usable None (usable - first) (map kind (front ++ back))
page_without kind usable first front back x all =
    let P : List Cell → Type 0 = FitsFrom usable None (usable - first) in
    subst P (sym (map-append kind front back)) (from_without usable None (usable - first) (map kind front) (map kind back) (kind x) (subst P (map-append kind front (x ∷ back)) all))

pub fits_without : FitsWithout
fits_without = record {
  of_leaf = λ front back cell number usable fit.
      let less = page_without leaf usable (first_pointer number (page_kind (Leaf (front ++ back)))) front back cell (fits_from (Leaf (front ++ cell ∷ back)) number usable fit) in
      record { rising = less.rising; sound = less.sound; room = omega (arith, fit.room, less.space) };
  of_interior = λ front back cell right other number usable fit.
      let less = page_without inner usable (first_pointer number (page_kind (Interior (front ++ back) other))) front back cell (fits_from (Interior (front ++ cell ∷ back) right) number usable fit) in
      record { rising = less.rising; sound = less.sound; room = omega (arith, fit.room, less.space) };
}
