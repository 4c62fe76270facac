-- A device in memory as a stack without layers, and one that never fails.
use Rattle.std.specs.Prelude.{ℕ, true, false, List, [], Option}
use Rattle.vfs_trait.specs.State.{StackState}
use Rattle.mem_vfs.specs.Memory.{store, open_name, open_levels}
use Rattle.mem_vfs.specs.declared.file.File.{File}
use Rattle.mem_vfs.specs.declared.handles.Handle.{Handle}
use Rattle.mem_vfs.specs.declared.sure.SureVfs.{SureVfs}

-- the device with these files, open ones, and count of faults
abbrev pub stack : List File → List (Option Handle) → ℕ → StackState
stack files handles faults = record {
  tells = true;
  files = store files;
  base = store files;
  layers = [];
  limits = [];
  lengths = [];
  open_files = open_name handles;
  broken = λ _. false;
  levels = open_levels handles;
  delicate = λ _. false;
  faults = faults;
  log = [];
}

abbrev pub sure_state : SureVfs → StackState
sure_state m = stack m.files.items m.handles.items 0
