use Rattle.std.proofs.Common.{◌≡◌, ◌++◌, replicate}
use Rattle.journal_file.proofs.playback.push_zeros.Given as goal

abbrev pub invariant-loop-k : goal.invariant-loop-k
invariant-loop-k l = l.bytes ≡ l.fn.bytes ++ replicate l._k 0
