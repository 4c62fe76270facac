-- What a write leaves of the vectors of a file: both are made long enough, and then the range is put over them.
use Rattle.std.specs.Prelude.{◌≡◌, ℕ, ◌+◌, ◌-◌, true, false, max, List, ◌++◌, length, replicate}
use Rattle.mem_vfs.specs.declared.file.File.{File}
use Rattle.mem_vfs.specs.Splice.{spliced}

-- how much is missing up to an end
abbrev pub missing : ℕ → ℕ → ℕ
missing len end = max len end - len

pub record IsWritten (old new : File) (off : ℕ) (bytes : List ℕ) : Type 0 where
  pub present : new.present.items ≡ spliced (old.present.items ++ replicate (missing (length old.present.items) (off + length bytes)) 0) off bytes
  pub marks : new.marks.items ≡ spliced (old.marks.items ++ replicate (missing (length old.marks.items) (off + length bytes)) false) off (replicate (length bytes) true)
  pub shortest : new.shortest ≡ old.shortest
  pub there : new.there ≡ old.there
  pub sure : new.sure ≡ old.sure
