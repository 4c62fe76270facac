-- How the machine stands in a session and its stack.
use Rattle.std.specs.Prelude.{◌≡◌, ◌≢◌, ℕ, ◌≤◌, true, false, List, [], length, IsTrue, Option, Some, None, Result, Ok, Err}
use Rattle.std.specs.FinMap as map
use Rattle.byte_base.specs.Count.{Rose}
use Rattle.vfs_trait.specs.State.{StackState, NoneOpen, IsOpen, file_at}
use Rattle.vfs_trait.specs.declared.fault.VfsFault.{VfsFault}
use Rattle.vfs_trait.specs.declared.fault.VfsFault.TheVariants.{Failed, Memory as NoMemory, Busy, Full, BadPage}
use Rattle.vfs_model.specs.declared.level.Fid.{Fid}
use Rattle.shell_top.specs.Rows.{Texts, row_file}
use Rattle.shell_top.specs.Machine.{Machine, Opens}
use Rattle.shell_top.specs.Touched.{OnlyTouches}
use Rattle.shell_top.specs.declared.reply.Reply.{Reply}
use Rattle.shell_top.specs.declared.reply.Reply.TheVariants.{Fault, MemoryStopped}
use Rattle.shell_top.specs.declared.status.Status.{Status}
use Rattle.shell_top.specs.declared.status.Status.TheVariants.{Done, Stopped}
use Rattle.shell_top.specs.declared.session.Table.{Table}
use Rattle.shell_top.specs.declared.session.Session.{Session}

-- the machine of a session that goes on over these rows, and of one that is stopped
abbrev pub going : Texts → ℕ → Machine
going rows faults = record { rows = rows; stopped = false; faults = faults }

abbrev pub halted : ℕ → Machine
halted faults = record { rows = map.empty; stopped = true; faults = faults }

abbrev pub machine_of : Option Table → ℕ → Machine
machine_of None faults = halted faults
machine_of (Some table) faults = going table.rows faults

-- how a run over the session ends when its input does
abbrev pub end_status : Option Table → Status
end_status None = Stopped
end_status (Some table) = Done

-- the machine that the session is, over this stack
abbrev pub machine : Session → StackState → Machine
machine session stack = machine_of session.table stack.faults

-- how long the row file of the session is
abbrev pub table_len : Option Table → ℕ
table_len None = 0
table_len (Some table) = length (row_file table.rows)

abbrev pub rows_len : Session → ℕ
rows_len session = table_len session.table

-- the table's file is the only open one, and holds the row file of the rows. No layer asks for whole pages
pub record IsKept (table : Table) (stack : StackState) : Type 0 where
  pub bare : stack.layers ≡ []
  pub opened : IsOpen stack table.file.0
  pub only : (fid : ℕ) → fid ≢ table.file.0 → stack.open_files fid ≡ None
  pub bytes : IsTrue stack.tells → (file_at stack table.file.0).now.bytes ≡ row_file table.rows

-- a session that is stopped has no file open; one that goes on has its name's file open
abbrev pub TableStands : List ℕ → Option Table → StackState → Type 0
TableStands name None stack = NoneOpen stack
TableStands name (Some table) stack = (stack.open_files table.file.0 ≡ Some name) × IsKept table stack

pub record Stands (session : Session) (stack : StackState) : Type 0 where
  pub table : TableStands session.name session.table stack

-- what lines leave of a session and its stack: its name, every file but that of the name, and of a stopped session all
pub record Keeps (before after : Session) (old new : StackState) : Type 0 where
  pub named : after.name ≡ before.name
  pub touches : OnlyTouches before.name old new
  pub stopped : before.table ≡ None → (after.table ≡ None) × (new ≡ old)

-- what a fault of the stack is answered: Failed is a fault, anything else counts as want of memory
abbrev pub reply_for : VfsFault → Reply
reply_for Failed = Fault
reply_for NoMemory = MemoryStopped
reply_for (Busy holder level) = MemoryStopped
reply_for (Full total limit) = MemoryStopped
reply_for (BadPage page kept found) = MemoryStopped

-- a fault of the stack, by its cause
abbrev pub HasCause : ℕ → ℕ → VfsFault → Type 0
HasCause old new Failed = Rose old new
HasCause old new NoMemory = old ≤ new
HasCause old new (Busy holder level) = old ≤ new
HasCause old new (Full total limit) = old ≤ new
HasCause old new (BadPage page kept found) = old ≤ new

-- what an opening leaves: the open file, empty, or no file and the reply
abbrev pub OpensEmpty : StackState → StackState → List ℕ → Result Fid Reply → Type 0
OpensEmpty old new name (Ok file) =
    (new.open_files file.0 ≡ Some name) × ((fid : ℕ) → fid ≢ file.0 → new.open_files fid ≡ None)
    × (IsTrue new.tells → (new.files name).now.bytes ≡ []) × Opens old name Reply.Open (going map.empty new.faults)
OpensEmpty old new name (Err reply) = NoneOpen new × Opens old name reply (halted new.faults)
