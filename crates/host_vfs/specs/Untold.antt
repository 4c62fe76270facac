-- The files of a folder of the system as a stack without layers that tells no content.
use Rattle.std.specs.Prelude.{◌≡◌, ℕ, false, List, [], Option}
use Rattle.vfs_model.specs.File.{absent}
use Rattle.vfs_trait.specs.State.{StackState, NoneOpen}
use Rattle.host_vfs.specs.Open.{open_name, open_levels}
use Rattle.host_vfs.specs.declared.handles.Handle.{Handle}

-- with these open files and this count of faults; what the files hold is not said
abbrev pub untold : List (Option Handle) → ℕ → StackState
untold handles faults = record {
  tells = false;
  files = λ _. absent;
  base = λ _. absent;
  layers = [];
  limits = [];
  lengths = [];
  open_files = open_name handles;
  broken = λ _. false;
  levels = open_levels handles;
  delicate = λ _. false;
  faults = faults;
  log = [];
}

-- it tells nothing, has no layers and no open file, and no call has failed
pub record IsFresh (s : StackState) : Type 0 where
  pub silent : s.tells ≡ false
  pub bare : s.layers ≡ []
  pub closed : NoneOpen s
  pub unfailed : s.faults ≡ 0
