use Rattle.std.proofs.Common.{◌≡◌, ◌+◌, ◌*◌, List, ◌++◌, length, map, None}
use Rattle.std.specs.List.{All}
use Rattle.tree_page.specs.Page.{Extent, Placed}
use Rattle.tree_page.specs.Steps.{cell_of, IsFound, AreCells}
use Rattle.tree_page.proofs.read.find_cells.Given as goal

-- cells are those of the page exactly where what is left of them goes on from here
abbrev pub invariant-loop-at : goal.invariant-loop-at
invariant-loop-at l = record {
  each : All (IsFound l.bytes l.head.kind) l.found.items;
  size : length l.marks ≡ length l.bytes;
  sound : (rest : List Placed) (free : List Extent) → l.at + length rest ≡ l.head.count → AreCells l.bytes l.head.content l.head.kind (l.head.pointers + 2 * l.at) l.last l.marks rest free
      → (all : List Placed) × (AreCells l.bytes l.head.content l.head.kind l.head.pointers None l.fn.marks all free) × (length all ≡ l.head.count)
      × (map (λ p. p.cell) all ≡ map (cell_of l.bytes) l.found.items ++ map (λ p. p.cell) rest);
  complete : (all : List Placed) (free : List Extent) → length all ≡ l.head.count → AreCells l.bytes l.head.content l.head.kind l.head.pointers None l.fn.marks all free
      → (rest : List Placed) × (l.at + length rest ≡ l.head.count) × AreCells l.bytes l.head.content l.head.kind (l.head.pointers + 2 * l.at) l.last l.marks rest free;
}
