-- When a playback makes its file no wild one, and what a checksum layer keeps to itself.
use Rattle.std.specs.Prelude.{◌≡◌, ℕ, false, List, length, Option, Some, None}
use Rattle.vfs_model.specs.declared.layer.Layer.{Layer}
use Rattle.vfs_trait.specs.State.{StackState}

-- the file is not wild, has just this size, and no write within it makes it wild
pub record IsSturdy (s : StackState) (name : List ℕ) (size : ℕ) : Type 0 where
  pub whole : length (s.files name).now.bytes ≡ size
  pub tame : (s.files name).wild ≡ false
  pub sturdy : s.delicate name ≡ false

-- a checksum layer keeps eight bytes of each page of its size to itself; other stacks keep none
abbrev pub Reserves : Option (ℕ × List Layer) → ℕ → ℕ → Type 0
Reserves None page reserve = reserve ≡ 0
Reserves (Some layer) page reserve = (page ≡ layer.0) × (reserve ≡ 8)
