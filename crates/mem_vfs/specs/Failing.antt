-- A device in memory that fails, as a stack without layers.
use Rattle.std.specs.Prelude.{◌≡◌, false, []}
use Rattle.vfs_trait.specs.State.{StackState, NoneOpen}
use Rattle.mem_vfs.specs.Sure.{stack}
use Rattle.mem_vfs.specs.declared.failing.MemVfs.{MemVfs}

abbrev pub mem_state : MemVfs → StackState
mem_state m = stack m.device.files.items m.device.handles.items m.faults

-- no file is open, no call has failed, and none is told to fail
pub record IsFresh (m : MemVfs) : Type 0 where
  pub closed : NoneOpen (mem_state m)
  pub faults : m.faults ≡ 0
  pub fails : m.fails.items ≡ []
  pub alive : m.dead ≡ false
