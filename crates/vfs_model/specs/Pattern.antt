-- Glob patterns: which bytes they have.
use Rattle.vfs_model.specs.declared.pattern.TheConstants.{PATTERN_LEN}
use Rattle.std.specs.Prelude.{ℕ, ◌≤◌, ◌==◌, Bool, not, ◌&&◌, IsTrue, List, length, All}

-- any byte but a comma, an equals sign and a blank
abbrev pub is_pattern_byte : ℕ → Bool
is_pattern_byte b = not (b == 44) && (not (b == 61) && not (b == 32))

-- 1 to PATTERN_LEN such bytes, which is 64
pub record IsPattern (bytes : List ℕ) : Type 0 where
  pub some : 1 ≤ length bytes
  pub short : length bytes ≤ PATTERN_LEN
  pub each : All (λ b. IsTrue (is_pattern_byte b)) bytes
