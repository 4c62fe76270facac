use Rattle.std.proofs.Common.{◌≡◌, ℕ, ◌-◌, ◌≤◌, ◌<◌, max, Bool, ℤ, List, length, Option, refl, subst, arith}
use Rattle.tree_page.specs.declared.cell.Kind.{Kind}
use Rattle.tree_page.specs.Page.{Cell, kind_of, rowid_of, Placed, IsAt, Stands}
use Rattle.tree_page.specs.Steps.{IsClear, Marks, IsAbove, IsNext, TakesNext}

-- the cell that was read at the place is the only one there
pub record IsOnly (bytes : List ℕ) (kind : Kind) (place size : ℕ) (cell : Cell) : Type 0 where
  pub only : (other_size : ℕ) (other : Cell) → kind_of other ≡ kind → IsAt bytes place other_size other → (other_size ≡ size) × (other ≡ cell)

at_place : (bytes : List ℕ) (content place : ℕ) (other : Placed) → other.place ≡ place → Stands bytes content other → IsAt bytes place other.size other.cell
at_place bytes content place other here stands = subst (λ p. IsAt bytes p other.size other.cell) here stands.cell_is

pub next_none : (bytes : List ℕ) (content place : ℕ) (kind : Kind) (last : Option ℤ) (marks : List Bool)
    → ((size : ℕ) (cell : Cell) → kind_of cell ≡ kind → ¬ (IsAt bytes place size cell)) → (placed : Placed) → ¬ (IsNext bytes content kind place last marks placed)
next_none bytes content place kind last marks none placed next =
    none placed.size placed.cell next.kind_is (at_place bytes content place placed next.here next.stands)

pub next_long : (bytes : List ℕ) (content place size : ℕ) (kind : Kind) (last : Option ℤ) (marks : List Bool) (cell : Cell) → IsOnly bytes kind place size cell
    → length bytes - place < max 4 size → (placed : Placed) → ¬ (IsNext bytes content kind place last marks placed)
next_long bytes content place size kind last marks cell read long placed next =
    let same = read.only placed.size placed.cell next.kind_is (at_place bytes content place placed next.here next.stands) in
    absurd (omega (arith, same.0, next.here, next.stands.within))

pub next_low : (bytes : List ℕ) (content place size : ℕ) (kind : Kind) (last : Option ℤ) (marks : List Bool) (cell : Cell) → IsOnly bytes kind place size cell
    → (IsAbove last (rowid_of cell) → ⊥) → (placed : Placed) → ¬ (IsNext bytes content kind place last marks placed)
next_low bytes content place size kind last marks cell read low placed next =
    let same = read.only placed.size placed.cell next.kind_is (at_place bytes content place placed next.here next.stands) in
    low (subst (λ c. IsAbove last (rowid_of c)) same.1 next.above)

pub next_taken : (bytes : List ℕ) (content place size : ℕ) (kind : Kind) (last : Option ℤ) (marks : List Bool) (cell : Cell) → IsOnly bytes kind place size cell
    → (IsClear marks (record { place = place; size = max 4 size }) → ⊥) → (placed : Placed) → ¬ (IsNext bytes content kind place last marks placed)
next_taken bytes content place size kind last marks cell read taken placed next =
    let same = read.only placed.size placed.cell next.kind_is (at_place bytes content place placed next.here next.stands) in
    taken (subst (λ p. IsClear marks (record { place = p; size = max 4 size })) next.here
    (subst (λ n. IsClear marks (record { place = placed.place; size = max 4 n })) same.0 next.clear))

pub next_takes : (bytes : List ℕ) (content place size : ℕ) (kind : Kind) (last : Option ℤ) (old new : List Bool) (cell : Cell) → IsOnly bytes kind place size cell
    → kind_of cell ≡ kind → IsAt bytes place size cell → content ≤ place → place < length bytes → max 4 size ≤ length bytes - place → IsAbove last (rowid_of cell)
    → IsClear old (record { place = place; size = max 4 size }) → Marks old new (record { place = place; size = max 4 size })
    → TakesNext bytes content kind place last old new cell
next_takes bytes content place size kind last old new cell read kind_is at low inside room above clear marked = record {
  size = size;
  next = record { here = refl; stands = record { cell_is = at; low = low; within = omega arith }; kind_is = kind_is; above = above; clear = clear };
  marked = marked;
  only = λ other here stands other_kind. read.only other.size other.cell other_kind (at_place bytes content place other here stands);
}
