use Rattle.std.proofs.Common.{◌≡◌, ◌++◌, take, length}
use Rattle.percent_encoding.specs.Iter.{encoded_text}
use Rattle.shell_lang.proofs.write.put_escaped.Given as goal

-- what is put and what is left to put are the whole
abbrev pub invariant-loop-piece : goal.invariant-loop-piece
invariant-loop-piece l = (l.out ++ encoded_text l.pieces ≡ l.initial.out ++ encoded_text l.initial.pieces) × (take (length l.initial.out) l.out ≡ l.initial.out)
