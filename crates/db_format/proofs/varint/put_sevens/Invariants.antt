use Rattle.std.proofs.Common.{◌≡◌, ◌+◌, ◌-◌, ◌*◌, ◌^◌, ◌<◌, length, drop}
use Rattle.db_format.specs.Varint.{sevens}
use Rattle.db_format.proofs.VarintLemmas.{Front}
use Rattle.db_format.proofs.varint.put_sevens.Given as goal

-- the bytes from here on are done, and what is left fits in those before
abbrev pub invariant-loop-at : goal.invariant-loop-at
invariant-loop-at l = record {
  continues : Front (drop l.at l.bytes);
  room : l.rest < 128 ^ l.at;
  number : l.rest * 128 ^ (length l.bytes - l.at) + sevens (drop l.at l.bytes) ≡ l.bits;
}
