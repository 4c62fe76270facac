-- A step: one command of one connection, run whole.
use Rattle.std.specs.Prelude.{ℕ, Bool, true, false, if◌then◌else◌, List, [], ◌∷◌, Option, Some, None}
use Rattle.shell_lang.specs.declared.command.Command.{Command}
use Rattle.shell_lang.specs.declared.command.Command.TheVariants as command
use Rattle.shell_lang.specs.declared.reply.Reply.{Reply}
use Rattle.shell_lang.specs.declared.reply.Reply.TheVariants as reply
use Rattle.shell_lang.specs.declared.reply.ScanEnd.TheVariants as last
use Rattle.book_model.specs.Book.{IsSized, with_table, without_table, with_row, without_row}
use Rattle.shell_model.specs.State.{State, seen, IsCandidate}
use Rattle.shell_model.specs.Cases.{Pick, Case, due, may, Allows, cases_of, sized}

-- the choice keeps to its bounds: a changed book has pages that it may have, and an opening finds a candidate
abbrev pub IsFair : Pick → State → ℕ → Command → Type 0
IsFair pick s who (command.Create table columns) = IsSized (seen s who) (sized pick (with_table (seen s who) table.name columns pick.root))
IsFair pick s who (command.Drop table) = IsSized (seen s who) (sized pick (without_table (seen s who) table.name))
IsFair pick s who (command.Put table rowid values) = IsSized (seen s who) (sized pick (with_row (seen s who) table.name rowid values))
IsFair pick s who (command.Del table rowid) = IsSized (seen s who) (sized pick (without_row (seen s who) table.name rowid))
IsFair pick s who command.Reopen = IsCandidate s.doubt s.kept pick.found
IsFair pick s who _ = Unit {0}

-- the machine may answer a command of a connection so and go on so
pub record Step (s : State) (who : ℕ) (asked : Command) (answer : Reply) (next : State) : Type 0 where
  pub pick : Pick
  pub fair : IsFair pick s who asked
  pub allowed : Allows (cases_of pick s who asked) answer next

-- whether a reply is one of those that may come or not
abbrev pub is_free : Reply → Bool
is_free reply.Memory = true
is_free reply.MemoryStopped = true
is_free reply.Fault = true
is_free (reply.Large pages) = true
is_free (reply.Rows rows last.Fault) = true
is_free (reply.Rows rows last.Memory) = true
is_free _ = false

-- the first case that is due
abbrev pub first_due : List Case → Option (Reply × State)
first_due [] = None
first_due (due holds r s ∷ cases) = if holds then Some (r, s) else first_due cases
first_due (may holds r s ∷ cases) = first_due cases

-- the commands in which memory may be wanted whatever the state: those on tables
abbrev pub takes_memory : Command → Bool
takes_memory command.Begin = false
takes_memory command.Commit = false
takes_memory command.Rollback = false
takes_memory command.Reopen = false
takes_memory _ = true
