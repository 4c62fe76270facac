use Rattle.std.proofs.Common.{◌≡◌, ◌-◌, ◌<◌, List, length}
use Rattle.tree_page.specs.Page.{Extent, AreFreeblocks}
use Rattle.tree_page.specs.Steps.{AreClear}
use Rattle.tree_page.proofs.read.mark_free.Given as goal

-- the freeblocks are those of the page exactly where those from here on go on
abbrev pub invariant-loop-place : goal.invariant-loop-place
invariant-loop-place l = record {
  size : length l.marks ≡ length l.bytes;
  small : l.place < 65536;
  sound : (rest : List Extent) → AreFreeblocks l.bytes l.head.content l.last l.place rest → AreClear l.marks rest
      → (free : List Extent) × AreFreeblocks l.bytes l.head.content 0 l.head.free free × AreClear l.fn.marks free;
  complete : (free : List Extent) → AreFreeblocks l.bytes l.head.content 0 l.head.free free → AreClear l.fn.marks free
      → (rest : List Extent) × AreFreeblocks l.bytes l.head.content l.last l.place rest × AreClear l.marks rest;
}

abbrev pub decreases-loop-place : goal.decreases-loop-place
decreases-loop-place l = length l.bytes - l.last
