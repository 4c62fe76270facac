-- What stands apart on a page takes no more than the page has.
use Rattle.std.proofs.Common.{◌≡◌, inl, inr, ℕ, zero, suc, ◌+◌, ◌-◌, ◌*◌, ◌≤◌, min, ℤ, List, [], ◌∷◌, ◌++◌, length, map, take, refl, sym, ap, subst, arith, length-append}
use Rattle.std.specs.List.{AllByRecursion}
use Rattle.std.specs.Int.{w64, cast_signed, cast_unsigned}
use Rattle.std.proofs.lemmas.Bool.{cases_lt}
use Rattle.std.proofs.lemmas.Bool.Decides.{nat_tests}
use Rattle.std.proofs.lemmas.Int.{of_z-to_z}
use Rattle.std.proofs.lemmas.List.{length-take-le}
use Rattle.tree_page.specs.declared.cell.PageCells.{PageCells}
use Rattle.tree_page.specs.Page.{Cell, leaf, inner, rowid_of, content_start, Spells, Extent, Covered, AreApart, Placed, extent_of, Stands, AreRising, IsTreePage}
use Rattle.tree_page.specs.Written.{written_size, space_of, IsSound, Fits}
use Rattle.tree_page.specs.Laws.{PageFits}
use Rattle.tree_page.proofs.SizeLemmas.{size_spelled}
use Rattle.tree_page.proofs.ClearLemmas.{within_or}

-- how many places below a bound the extents have

abbrev places : Extent → ℕ → ℕ
places extent end = min end (extent.place + extent.size) - min end extent.place

abbrev area : List Extent → ℕ → ℕ
area [] end = 0
area (extent ∷ more) end = places extent end + area more end

-- a place that none covers adds none, and one that is covered but once adds one
area_beside : (extents : List Extent) (end : ℕ) → ¬ (Covered extents end) → area extents (suc end) ≤ area extents end
area_beside [] end none = omega arith
area_beside (extent ∷ more) end none = elim (within_or extent end) [
  | inl within ↦ absurd (none (inl within))
  | inr beside ↦ elim beside [
    | inl before ↦ omega (arith, area_beside more end (λ covered. none (inr covered)), before)
    | inr behind ↦ omega (arith, area_beside more end (λ covered. none (inr covered)), behind)
  ]
]

area_next : (extents : List Extent) (end : ℕ) → AreApart extents → area extents (suc end) ≤ area extents end + 1
area_next [] end apart = omega arith
area_next (extent ∷ more) end apart = elim (within_or extent end) [
  | inl within ↦ omega (arith, area_beside more end (apart.0 end within), within)
  | inr beside ↦ elim beside [
    | inl before ↦ omega (arith, area_next more end apart.1, before)
    | inr behind ↦ omega (arith, area_next more end apart.1, behind)
  ]
]

area_most : (extents : List Extent) (low size : ℕ) → AreApart extents → area extents (low + size) ≤ area extents low + size
area_most extents low zero apart = let e : low + 0 ≡ low = omega arith in omega (arith, ap (area extents) e)
area_most extents low (suc size) apart =
    let e : low + suc size ≡ suc (low + size) = omega arith in
    omega (arith, ap (area extents) e, area_next extents (low + size) apart, area_most extents low size apart)

covered_front : (xs ys : List Extent) (place : ℕ) → Covered xs place → Covered (xs ++ ys) place
covered_front [] ys place c = absurd c
covered_front (x ∷ xs) ys place (inl here) = inl here
covered_front (x ∷ xs) ys place (inr more) = inr (covered_front xs ys place more)

apart_front : (xs ys : List Extent) → AreApart (xs ++ ys) → AreApart xs
apart_front [] ys apart = tt
apart_front (x ∷ xs) ys apart = (λ place here more. apart.0 place here (covered_front xs ys place more), apart_front xs ys apart.1)

-- a spelling is no shorter than what is written

written_least : (usable : ℕ) (text : List ℕ) (cell : Cell) → Spells usable text cell → written_size cell ≤ length text
written_least usable text (leaf cell) s =
    let a = size_spelled s.length_text (cast_signed w64 cell.payload_len) cell.payload_len (sym (of_z-to_z w64 cell.payload_len s.unsigned)) s.sized in
    let b = size_spelled s.rowid_text cell.rowid (cast_unsigned w64 cell.rowid) refl s.keyed in
    let long = simp length-append at (ap (λ (l : List ℕ). length l) s.joined) in
    elim (cases_lt (length cell.local) cell.payload_len) [
      | inl more ↦ let four = (s.spilled more).0 in grind (arith, nat_tests, a, b, long, four, more)
      | inr all ↦ grind (arith, nat_tests, a, b, long, all)
    ]
written_least usable text (inner cell) s =
    omega (arith, size_spelled s.rowid_text cell.rowid (cast_unsigned w64 cell.rowid) refl s.keyed, ap (λ (l : List ℕ). length l) s.joined, length-append s.child_text s.rowid_text, s.four)

-- the cells of a page

space_placed : (bytes : List ℕ) (content : ℕ) (placed : List Placed) → AllByRecursion (Stands bytes content) placed
    → (space_of (map (λ (p : Placed). p.cell) placed) ≤ 2 * length placed + area (map extent_of placed) (length bytes)) × (area (map extent_of placed) content ≡ 0)
space_placed bytes content [] all = (omega arith, refl)
space_placed bytes content (p ∷ more) all =
    let rest = space_placed bytes content more all.1 in
    let least = written_least (length bytes) all.0.cell_is.text p.cell all.0.cell_is.spelled in
    (omega (arith, rest.0, least, all.0.cell_is.size_is, all.0.within), omega (arith, rest.1, all.0.low))

sound_one : (usable : ℕ) (text : List ℕ) (cell : Cell) → Spells usable text cell → IsSound usable cell
sound_one usable text (leaf cell) s = record { kept = s.kept; whole = λ all. (s.whole all).1 }
sound_one usable text (inner cell) s = tt

sound_all : (bytes : List ℕ) (content : ℕ) (placed : List Placed) → AllByRecursion (Stands bytes content) placed → AllByRecursion (IsSound (length bytes)) (map (λ (p : Placed). p.cell) placed)
sound_all bytes content [] all = tt
sound_all bytes content (p ∷ more) all = (sound_one (length bytes) all.0.cell_is.text p.cell all.0.cell_is.spelled, sound_all bytes content more all.1)

rowids_are : (placed : List Placed) → map rowid_of (map (λ (p : Placed). p.cell) placed) ≡ map (λ (p : Placed). rowid_of p.cell) placed
rowids_are [] = refl
rowids_are (p ∷ more) = ap (λ (l : List ℤ). rowid_of p.cell ∷ l) (rowids_are more)

tree_page_fits : (bytes : List ℕ) (number : ℕ) (cells : PageCells) → IsTreePage bytes number cells → Fits cells number (length bytes)
tree_page_fits bytes number cells is =
    let content = content_start bytes number in
    let extents = map extent_of is.placed in
    let space = space_placed bytes content is.placed is.stand in
    let most = area_most extents content (length bytes - content) (apart_front extents is.free is.apart) in
    let all : content + (length bytes - content) ≡ length bytes = omega (arith, is.content_within) in
    let P : List Cell → Type 0 = λ l. AreRising (map rowid_of l) in
    let Q : List Cell → Type 0 = AllByRecursion (IsSound (length bytes)) in
    let S : List ℤ → Type 0 = AreRising in
    record {
      rising = subst P (sym is.cells_are) (subst S (sym (rowids_are is.placed)) is.rising);
      sound = subst Q (sym is.cells_are) (sound_all bytes content is.placed is.stand);
      room = omega (arith, ap space_of is.cells_are, space.0, space.1, most, ap (area extents) all, is.content_behind, is.content_within);
    }

pub page_fits : PageFits
page_fits page number usable cells long is =
    let P : ℕ → Type 0 = Fits cells number in
    subst P (length-take-le usable page long) (tree_page_fits (take usable page) number cells is)
