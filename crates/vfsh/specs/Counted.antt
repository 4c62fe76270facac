-- Counts of faults that rise at each fault and at nothing else.
use Rattle.std.specs.Prelude.{◌≡◌, ℕ, zero, suc, ◌+◌, min, Result, Ok, Err}
use Rattle.byte_base.specs.Count.{last_count}
use Rattle.shell_lang.specs.declared.ends.SinkFault.{SinkFault}
use Rattle.shell_lang.specs.declared.ends.SinkFault.TheVariants.{Failed, Memory}
use Rattle.shell_lang.specs.declared.ends.ReadFailed.{ReadFailed}

-- a count behind one more fault: it stays at the last one
abbrev pub one_more : ℕ → ℕ
one_more faults = min (faults + 1) last_count

-- a read that is answered counts nothing, and one that fails counts once
abbrev pub ReadCounts : ℕ → ℕ → Result ℕ ReadFailed → Type 0
ReadCounts old new (Ok count) = new ≡ old
ReadCounts old new (Err fault) = new ≡ one_more old

-- a write that takes nothing or fails counts once; any other, and one without memory, counts nothing
abbrev pub WriteCounts : ℕ → ℕ → Result ℕ SinkFault → Type 0
WriteCounts old new (Ok zero) = new ≡ one_more old
WriteCounts old new (Ok (suc count)) = new ≡ old
WriteCounts old new (Err Failed) = new ≡ one_more old
WriteCounts old new (Err Memory) = new ≡ old
