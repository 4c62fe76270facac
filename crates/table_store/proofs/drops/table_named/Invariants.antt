use Rattle.std.proofs.Common.{◌≡◌, length}
use Rattle.book_reads.specs.Reads.{plain_named}
use Rattle.table_store.proofs.drops.table_named.Given as goal

-- none before these has the name
abbrev pub invariant-loop-left : goal.invariant-loop-left
invariant-loop-left l = plain_named l.tables l.name ≡ plain_named l.left l.name

abbrev pub decreases-loop-left : goal.decreases-loop-left
decreases-loop-left l = length l.left
