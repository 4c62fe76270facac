-- What a count of faults says of an answer.
use Rattle.std.specs.Prelude.{◌≡◌, ℕ, Result, Ok, Err}
use Rattle.byte_base.specs.Count.{Rose}
use Rattle.vfs_trait.specs.declared.fault.VfsFault.{VfsFault}
use Rattle.vfs_trait.specs.declared.fault.VfsFault.TheVariants.{Failed, Memory, Busy, Full, BadPage}

-- it rose where the answer is a failure, and else it stays; nothing but a failure and want of memory is a refusal
abbrev pub Counts : {T : Type 0} → ℕ → ℕ → Result T VfsFault → Type 0
Counts old new (Ok _) = new ≡ old
Counts old new (Err Failed) = Rose old new
Counts old new (Err Memory) = new ≡ old
Counts old new (Err (Busy holder level)) = ⊥
Counts old new (Err (Full total limit)) = ⊥
Counts old new (Err (BadPage page kept found)) = ⊥
