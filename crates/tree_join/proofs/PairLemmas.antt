-- Two pages that are joined: the cells have room in two parts.
use Rattle.std.proofs.Common.{◌≡◌, inl, inr, Option, Some, None, ℕ, zero, suc, ◌+◌, ◌-◌, ◌*◌, ◌≤◌, ◌<◌, nat_lt, if◌then◌else◌, Bool, true, false, ℤ, List, [], ◌∷◌, ◌++◌, length, map, take, drop, slice_index_or, slice_set, refl, ap, subst, ◌∙◌, arith, length-append}
use Rattle.std.specs.List.{AllByRecursion}
use Rattle.std.proofs.lemmas.List.{take-append-drop, length-map, map-append}
use Rattle.tree_page.specs.declared.cell.InnerCell.{InnerCell}
use Rattle.tree_page.specs.declared.cell.PageCells.TheVariants.{Interior}
use Rattle.tree_page.specs.Page.{inner}
use Rattle.tree_page.specs.Written.{space_of, IsSound, Fits}
use Rattle.page_cut.specs.declared.parts.Sheet.{Sheet}
use Rattle.page_cut.specs.declared.parts.Sheets.{Sheets}
use Rattle.page_cut.specs.Cut.{MayCut, IsCut}
use Rattle.page_cut.proofs.RoomLemmas.{one_cell, space_append}
use Rattle.tree_model.specs.declared.level.Level.{Level}
use Rattle.tree_level.specs.Level.{up_cells}
use Rattle.tree_join.specs.declared.level.Inner.{Inner}
use Rattle.tree_join.specs.declared.pair.JoinPlan.{JoinPlan}
use Rattle.tree_join.specs.Join.{KeysRise, key_between, left_page, right_page, joined_cells, joined_right, IsJoined, IsUnjoined, IsJoinResult}
use Rattle.tree_join.specs.Steps.{IsCutRising, ArePutOn, IsPlanAbove}

space_map : (xs ys : List InnerCell) → space_of (map inner (xs ++ ys)) ≡ space_of (map inner xs) + space_of (map inner ys)
space_map xs ys = ap space_of (map-append inner xs ys) ∙ space_append (map inner xs) (map inner ys)

one_space : (cell : InnerCell) → space_of (map inner (cell ∷ [])) ≤ 15
one_space cell = (one_cell.of_inner cell).1

all_sound : (usable : ℕ) (cells : List InnerCell) → AllByRecursion (IsSound usable) (map inner cells)
all_sound usable [] = tt
all_sound usable (cell ∷ more) = (tt, all_sound usable more)

pub may_cut : (usable right : ℕ) (cells : List InnerCell) → 1 ≤ length cells → KeysRise cells → space_of (map inner cells) ≤ 2 * (usable - 12) → MayCut usable (Interior cells right)
may_cut usable right cells some rising room = record { some = omega (arith, length-map cells inner, some); rising = rising; sound = all_sound usable cells; room = room }

-- the page above, with the first part in place of the left page, or without it

drop_space : (pair : ℕ) (cells : List InnerCell) → space_of (map inner (drop (suc pair) cells)) ≤ space_of (map inner (drop pair cells))
drop_space pair [] = omega arith
drop_space zero (c ∷ more) = omega (arith, space_map (c ∷ []) more)
drop_space (suc pair) (c ∷ more) = drop_space pair more

ups_space : (front : List Sheet) → length front ≤ 1 → space_of (map inner (up_cells front)) ≤ 15
ups_space [] few = omega arith
ups_space (s ∷ []) few = one_space (record { child = s.number; rowid = s.key })
ups_space (s ∷ t ∷ more) few = absurd (omega (arith, few))

pub above_room : (usable number right pair : ℕ) (cells : List InnerCell) (front : List Sheet) → 480 ≤ usable → Fits (Interior cells right) number usable → length front ≤ 1 →
    space_of (map inner (take pair cells ++ (up_cells front ++ drop (suc pair) cells))) ≤ 2 * (usable - 12)
above_room usable number right pair cells front least fits few = omega (
  arith,
  space_map (take pair cells) (up_cells front ++ drop (suc pair) cells),
  space_map (up_cells front) (drop (suc pair) cells),
  space_map (take pair cells) (drop pair cells),
  ap (λ (l : List InnerCell). space_of (map inner l)) (take-append-drop pair cells),
  drop_space pair cells,
  ups_space front few,
  fits.room,
  least,
)

-- the children of both pages

chosen : (P : List InnerCell → Type 0) (test : Bool) (xs ys : List InnerCell) → P xs → P ys → P (if test then xs else ys)
chosen P true xs ys a b = a
chosen P false xs ys a b = b

pub joined_room : (usable child right number : ℕ) (level : Level) (cells : List InnerCell) → 480 ≤ usable → Fits (Interior cells right) number usable →
    (1 ≤ length (joined_cells level child cells right)) × (space_of (map inner (joined_cells level child cells right)) ≤ 2 * (usable - 12))
joined_room usable child right number level cells least fits =
    let x : InnerCell = record { child = child; rowid = key_between level } in
    let y : InnerCell = record { child = right; rowid = key_between level } in
    let P : List InnerCell → Type 0 = λ l. (1 ≤ length l) × (space_of (map inner l) ≤ 2 * (usable - 12)) in
    chosen P (nat_lt level.at (length level.cells)) (x ∷ cells) (cells ++ y ∷ [])
    (omega arith, omega (arith, space_map (x ∷ []) cells, one_space x, fits.room, least))
    (omega (arith, length-append cells (y ∷ [])), omega (arith, space_map cells (y ∷ []), one_space y, fits.room, least))

pub paired_one : (pair : ℕ) (cells : List InnerCell) (x : InnerCell) → pair < length cells → slice_set cells pair x ≡ take pair cells ++ (x ∷ drop (suc pair) cells)
paired_one pair [] x within = absurd (omega (arith, within))
paired_one zero (c ∷ more) x within = refl
paired_one (suc pair) (c ∷ more) x within = ap (λ (l : List InnerCell). c ∷ l) (paired_one pair more x (omega (arith, within)))

pub paired_first : (pair : ℕ) (cells items : List InnerCell) (front : List Sheet) (x y : Sheet) (key : ℤ) → pair < length cells → items ≡ cells → 1 ≤ length front → length front ≤ 1 → key ≡ (slice_index_or front 0 y).key →
    slice_set items pair (record { child = (slice_index_or front 0 x).number; rowid = key }) ≡ take pair cells ++ (up_cells front ++ drop (suc pair) cells)
paired_first pair cells items [] x y key within same some few is = absurd (omega (arith, some))
paired_first pair cells items (s ∷ []) x y key within same some few is =
    ap (λ (l : List InnerCell). slice_set l pair (record { child = s.number; rowid = key })) same
    ∙ ap (λ k. slice_set cells pair (record { child = s.number; rowid = k })) is
    ∙ paired_one pair cells (record { child = s.number; rowid = s.key }) within
paired_first pair cells items (s ∷ t ∷ more) x y key within same some few is = absurd (omega (arith, few))

few_parts : (number usable right : ℕ) (cells : List InnerCell) (sheets : Sheets) → IsCut number usable (Interior cells right) sheets → length sheets.front.items ≤ 1
few_parts number usable right cells sheets (inl whole) = omega (arith, ap (λ (l : List Sheet). length l) whole.none)
few_parts number usable right cells sheets (inr up) = omega (arith, up.few)

pub few_rising : (number usable right : ℕ) (cells : List InnerCell) (cut : Option Sheets) (sheets : Sheets) → IsCutRising number usable cells right cut → cut ≡ Some sheets → length sheets.front.items ≤ 1
few_rising number usable right cells cut sheets is some =
    let P : Option Sheets → Type 0 = λ o. IsCutRising number usable cells right o in few_parts number usable right cells sheets (subst P some is)

joined_is : (usable child right : ℕ) (level : Level) (cells : List InnerCell) (page : Inner) (sheets : Sheets) (front : List Sheet) →
    page.cells ≡ joined_cells level child cells right → page.right ≡ joined_right level child right → IsCut (right_page level) usable (Interior page.cells page.right) sheets →
    ArePutOn (left_page level) sheets front → IsJoined usable level child cells right sheets front
joined_is usable child right level cells page sheets front cells_are top_is cut put =
    let Q : List InnerCell → Type 0 = λ l. IsCut (right_page level) usable (Interior l page.right) sheets in
    let R : ℕ → Type 0 = λ k. IsCut (right_page level) usable (Interior (joined_cells level child cells right) k) sheets in
    record { cut = subst R top_is (subst Q cells_are cut); numbered = put.numbered; on_left = put.on_left }

pub unjoined : (usable child right number : ℕ) (level : Level) (cells : List InnerCell) (page : Inner) (cut : Option Sheets) → page.cells ≡ joined_cells level child cells right → IsCutRising number usable page.cells page.right cut → cut ≡ None →
    IsUnjoined usable level child cells right
unjoined usable child right number level cells page cut cells_are is none =
    let P : Option Sheets → Type 0 = λ o. IsCutRising number usable page.cells page.right o in
    let Q : List InnerCell → Type 0 = λ l. ¬ (KeysRise l) in
    inl (subst Q cells_are (subst P none is))

result_is : (usable child right : ℕ) (level : Level) (cells : List InnerCell) (page : Inner) (sheets : Sheets) (result : Option JoinPlan) →
    page.cells ≡ joined_cells level child cells right → page.right ≡ joined_right level child right → IsCut (right_page level) usable (Interior page.cells page.right) sheets →
    IsPlanAbove usable level (left_page level) (right_page level) sheets result → IsJoinResult usable level child cells right result
result_is usable child right level cells page sheets None cells_are top_is cut above =
    inr (record { sheets = sheets; front = above.0; joined = joined_is usable child right level cells page sheets above.0 cells_are top_is cut above.1; not_rising = above.2 })
result_is usable child right level cells page sheets (Some plan) cells_are top_is cut above = record {
  sheets = sheets;
  front = above.0;
  joined = joined_is usable child right level cells page sheets above.0 cells_are top_is cut above.1;
  written = above.2;
  lost = above.3;
  after = above.4;
}

pub join_is : (usable child right number left : ℕ) (level : Level) (cells : List InnerCell) (page : Inner) (cut : Option Sheets) (sheets : Sheets) (result : Option JoinPlan) → number ≡ right_page level → left ≡ left_page level →
    page.cells ≡ joined_cells level child cells right → page.right ≡ joined_right level child right → IsCutRising number usable page.cells page.right cut → cut ≡ Some sheets →
    IsPlanAbove usable level left number sheets result → IsJoinResult usable level child cells right result
join_is usable child right number left level cells page cut sheets result right_is left_is cells_are top_is is some above =
    let P : Option Sheets → Type 0 = λ o. IsCutRising number usable page.cells page.right o in
    let Q : ℕ → Type 0 = λ n. IsCut n usable (Interior page.cells page.right) sheets in
    let R : ℕ → Type 0 = λ n. IsPlanAbove usable level left n sheets result in
    let L : ℕ → Type 0 = λ n. IsPlanAbove usable level n (right_page level) sheets result in
    result_is usable child right level cells page sheets result cells_are top_is (subst Q right_is (subst P some is)) (subst L left_is (subst R right_is above))
