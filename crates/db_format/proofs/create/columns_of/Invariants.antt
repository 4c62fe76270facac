use Rattle.std.proofs.Common.{◌≡◌, nat_eq, length, take, map}
use Rattle.std.specs.List.{slice_split}
use Rattle.db_format.proofs.BlankLemmas.{unpadded}
use Rattle.db_format.proofs.create.columns_of.Given as goal

-- the pieces so far, without their blanks
abbrev pub invariant-loop-piece : goal.invariant-loop-piece
invariant-loop-piece l = l.columns.items ≡ map unpadded (take (length l.yielded) (slice_split (λ b. nat_eq b 44) l.inside))
