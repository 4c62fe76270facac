use Rattle.std.proofs.Common.{◌≡◌, ◌+◌, ◌%◌, ◌^◌, drop}
use Rattle.std.specs.List.{sum_by}
use Rattle.journal_format.specs.Steps.{name_sum}
use Rattle.journal_format.proofs.write.sum.Given as goal

abbrev pub invariant-loop-byte : goal.invariant-loop-byte
invariant-loop-byte l = (l.sum + sum_by (λ b. b) (drop l.byte-index l.name)) % (2 ^ 32) ≡ name_sum l.name
