use Rattle.std.proofs.Common.{◌≡◌, take}
use Rattle.db_format.specs.Varint.{sevens}
use Rattle.db_format.proofs.VarintLemmas.{Front}
use Rattle.db_format.proofs.varint.read_varint.Given as goal

-- every byte so far continues, and the bits are theirs
abbrev pub invariant-loop-at : goal.invariant-loop-at
invariant-loop-at l = record { continues : Front (take l.at l.front); number : l.bits ≡ sevens (take l.at l.front) }
