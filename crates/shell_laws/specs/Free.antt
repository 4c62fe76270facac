-- Where the replies may be answered that come or not: want of memory, a fault of the device, want of memory once the device was asked, a change
-- that is too large, and a scan that is cut off.
use Rattle.std.specs.Prelude.{◌≡◌, ◌↔◌, ◌⊎◌, ℕ, ℤ, ◌+◌, ◌≤◌, ◌==◌, ◌&&◌, ◌||◌, not, Bool, true, false, IsTrue, List, length, take, Some, is_some}
use Rattle.std.specs.List.{list_any}
use Rattle.vfs_model.specs.declared.level.Level.TheVariants.{Shared, Reserved, Exclusive}
use Rattle.db_format.specs.declared.value.Value.{Value}
use Rattle.shell_lang.specs.declared.command.Command.{Command}
use Rattle.shell_lang.specs.declared.command.Command.TheVariants as command
use Rattle.shell_lang.specs.declared.reply.Reply.{Reply}
use Rattle.shell_lang.specs.declared.reply.Reply.TheVariants as reply
use Rattle.shell_lang.specs.declared.reply.ScanEnd.TheVariants as last
use Rattle.book_model.specs.Book.{Book, Name, table_at, is_plain, is_foreign, is_taken, has_row, with_table, without_table, with_row, without_row, use_of, need_of}
use Rattle.shell_model.specs.State.{State, is_inside, is_refused, own, seen, reached, halted, committed_book}
use Rattle.shell_model.specs.Cases.{is_long, too_many, rows_between}
use Rattle.shell_model.specs.Step.{Step, takes_memory}

-- a commit of a connection that has changed something
abbrev pub keeps_draft : State → ℕ → Command → Bool
keeps_draft s who command.Commit = is_inside s who && is_some (own s who)
keeps_draft s who _ = false

-- memory may be wanted by a command on tables, and by a commit with a change
abbrev pub may_want : State → ℕ → Command → Bool
may_want s who asked = not s.stopped && (takes_memory asked || keeps_draft s who asked)

-- a commit is not refused
abbrev pub may_commit : State → ℕ → Bool
may_commit s who = not (s.kept.counter == 4294967295) && not (is_refused s.levels who Exclusive)

-- the device may fail in a command on tables that gets Shared, in a commit with a change that is not refused, and in every opening
abbrev pub may_fail : State → ℕ → Command → Bool
may_fail s who command.Reopen = true
may_fail s who command.Commit = not s.stopped && (keeps_draft s who command.Commit && may_commit s who)
may_fail s who asked = not s.stopped && (takes_memory asked && not (is_refused s.levels who Shared))

-- a change gets Shared and Reserved
abbrev pub may_write : State → ℕ → Bool
may_write s who = not s.stopped && (not (is_refused s.levels who Shared) && not (is_refused s.levels who Reserved))

-- the table is there and plain
abbrev pub finds : State → ℕ → Name → Bool
finds s who name = is_plain (seen s who) name && not (is_foreign (seen s who) name)

-- a table takes these values
abbrev pub accepts : State → ℕ → Name → List Value → Bool
accepts s who name values = length values == length (table_at (seen s who) name).columns && not (list_any is_long values)

-- a command changes something
abbrev pub may_change : State → ℕ → Command → Bool
may_change s who (command.Create table columns) = may_write s who && not (is_taken (seen s who) table.name)
may_change s who (command.Drop table) = may_write s who && finds s who table.name
may_change s who (command.Put table rowid values) = may_write s who && (finds s who table.name && accepts s who table.name values)
may_change s who (command.Del table rowid) = may_write s who && (finds s who table.name && has_row (seen s who) table.name rowid)
may_change s who _ = false

-- memory may be wanted once the device was asked: in a change outside a transaction whose commit is not refused, in a commit with a change that is not
-- refused, and in every opening
abbrev pub may_break_off : State → ℕ → Command → Bool
may_break_off s who command.Reopen = true
may_break_off s who command.Commit = not s.stopped && (keeps_draft s who command.Commit && may_commit s who)
may_break_off s who asked = may_change s who asked && (not (is_inside s who) && may_commit s who)

-- some step answers so
abbrev pub SomeStep : State → ℕ → Command → Reply → Type 0
SomeStep s who asked answer = (next : State) × Step s who asked answer next

-- the book that a change makes of the one that is seen, where the root of a new table is on this page
abbrev pub changed : Book → ℕ → Command → Book
changed book root (command.Create table columns) = with_table book table.name columns root
changed book root (command.Drop table) = without_table book table.name
changed book root (command.Put table rowid values) = with_row book table.name rowid values
changed book root (command.Del table rowid) = without_row book table.name rowid
changed book root _ = book

-- so many pages pass the greatest database, and the change may take them, wherever the root of a new table is
pub record MayPass (s : State) (who : ℕ) (asked : Command) (pages : ℕ) : Type 0 where
  pub changes : may_change s who asked ≡ true
  pub pages_are : pages ≡ too_many (seen s who)
  pub root : ℕ
  pub passes : too_many (seen s who) ≤ length (seen s who).unnamed + use_of (seen s who) + need_of (changed (seen s who) root asked)

-- a scan gets its level and finds its table
abbrev pub may_scan : State → ℕ → Name → Bool
may_scan s who name = not s.stopped && (not (is_refused s.levels who Shared) && finds s who name)

-- rows are the first of others, and there is one at least
pub record IsFront (rows whole : List (ℤ × List Value)) : Type 0 where
  pub some : 1 ≤ length rows
  pub few : length rows ≤ length whole
  pub are : rows ≡ take (length rows) whole

-- a scan may be cut off behind these of its rows
abbrev pub MayCut : State → ℕ → Command → List (ℤ × List Value) → Type 0
MayCut s who (command.Scan table low high) rows = (may_scan s who table.name ≡ true) × IsFront rows (rows_between low high (table_at (seen s who) table.name).rows)
MayCut s who _ rows = ⊥

-- just there they are answered
pub record FreeReplies : Type 0 where
  pub memory : (s : State) (who : ℕ) (asked : Command) → SomeStep s who asked reply.Memory ↔ IsTrue (may_want s who asked)
  pub fault : (s : State) (who : ℕ) (asked : Command) → SomeStep s who asked reply.Fault ↔ IsTrue (may_fail s who asked)
  pub broken_off : (s : State) (who : ℕ) (asked : Command) → SomeStep s who asked reply.MemoryStopped ↔ IsTrue (may_break_off s who asked)
  pub large : (s : State) (who : ℕ) (asked : Command) (pages : ℕ) → SomeStep s who asked (reply.Large pages) ↔ MayPass s who asked pages
  pub cut_by_fault : (s : State) (who : ℕ) (asked : Command) (rows : List (ℤ × List Value)) → SomeStep s who asked (reply.Rows rows last.Fault) ↔ MayCut s who asked rows
  pub cut_by_memory : (s : State) (who : ℕ) (asked : Command) (rows : List (ℤ × List Value)) → SomeStep s who asked (reply.Rows rows last.Memory) ↔ MayCut s who asked rows

-- what a commit that is cut off leaves
abbrev pub cut_off : State → Book → State
cut_off s book = halted s (Some (record { before = s.kept; after = committed_book s.kept book }))

-- the session has stopped, with what was in doubt, or with a commit in doubt that was cut off
abbrev pub IsHalted : State → State → Type 0
IsHalted s next = (next ≡ halted s s.doubt) ⊎ ((book : Book) × (next ≡ cut_off s book))

-- what they leave: want of memory changes nothing, a change that is too large keeps its level, and the others stop the session
pub record FreeStates : Type 0 where
  pub memory : (s : State) (who : ℕ) (asked : Command) (next : State) → Step s who asked reply.Memory next → next ≡ s
  pub fault : (s : State) (who : ℕ) (asked : Command) (next : State) → Step s who asked reply.Fault next → IsHalted s next
  pub broken_off : (s : State) (who : ℕ) (asked : Command) (next : State) → Step s who asked reply.MemoryStopped next → IsHalted s next
  pub large : (s : State) (who : ℕ) (asked : Command) (pages : ℕ) (next : State) → Step s who asked (reply.Large pages) next → next ≡ reached s who Reserved
  pub cut_by_fault : (s : State) (who : ℕ) (asked : Command) (rows : List (ℤ × List Value)) (next : State) → Step s who asked (reply.Rows rows last.Fault) next → next ≡ halted s s.doubt
  pub cut_by_memory : (s : State) (who : ℕ) (asked : Command) (rows : List (ℤ × List Value)) (next : State) → Step s who asked (reply.Rows rows last.Memory) next → next ≡ s
