-- Where the list behind an opening bracket ends.
use Rattle.std.specs.Prelude.{◌≡◌, ℕ, ◌+◌, ◌<◌, ◌≤◌, Bool, List, take, drop, length, None}
use Rattle.vfs_model.specs.Glob.{OneOf, First, Inside, Outside, parts_from, with_part}

-- the list has the bytes before this place, and the pattern goes on behind it
pub record ClosesAt (pattern : List ℕ) (end : ℕ) : Type 0 where
  pub within : end < length pattern
  pub parts : (but : Bool) → parts_from (First but) pattern ≡ with_part (OneOf but (take end pattern)) (parts_from Outside (drop (end + 1) pattern))

-- the list is not closed
pub record NeverCloses (pattern : List ℕ) : Type 0 where
  pub parts : (but : Bool) → parts_from (First but) pattern ≡ None

-- no byte before this place closes the list, if there is one
pub record ReadsTo (pattern : List ℕ) (place : ℕ) : Type 0 where
  pub parts : (but : Bool) → 1 ≤ length pattern → parts_from (First but) pattern ≡ parts_from (Inside but (take place pattern)) (drop place pattern)
