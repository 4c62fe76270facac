use Rattle.std.proofs.Common.{◌≡◌, ◌+◌, ◌%◌, ◌^◌}
use Rattle.journal_format.specs.Journal.{samples}
use Rattle.journal_format.proofs.write.checksum.Given as goal

abbrev pub invariant-loop-k : goal.invariant-loop-k
invariant-loop-k l = l.sum ≡ (l.nonce + samples l.page l.k) % (2 ^ 32)
