-- What follows for callers.
use Rattle.std.specs.Prelude.{ℕ, List, Some}
use Rattle.vfs_model.specs.File.{IsSettled}
use Rattle.vfs_trait.specs.State.{StackState}
use Rattle.cksum_vfs.specs.Summed.{over, IsPage}

-- a file that is settled below is settled above a layer that is on
abbrev pub SettledAbove : Type 0
SettledAbove = (page : ℕ) (s : StackState) (name : List ℕ) → IsPage page → IsSettled (s.files name) → IsSettled ((over (Some page) s).files name)
