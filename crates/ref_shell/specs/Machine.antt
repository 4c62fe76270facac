-- The program's machine as a state of the shell.
use Rattle.std.specs.Prelude.{Option, Some, None}
use Rattle.book_model.specs.Book.{Book}
use Rattle.shell_model.specs.State as state
use Rattle.shell_model.specs.State.{State}
use Rattle.ref_shell.specs.declared.machine.Machine.{Machine}
use Rattle.ref_shell.specs.declared.machine.Draft.{Draft}

abbrev pub draft_of : {S : Type 0} → (S → Book) → Option (Draft S) → Option state.Draft
draft_of book None = None
draft_of book (Some draft) = Some (record { owner = draft.owner; book = book draft.book })

-- the state that a machine is in, where `book` says what a shelf holds
abbrev pub state_of : {S : Type 0} → (S → Book) → Machine S → State
state_of book m = record { kept = book m.kept; draft = draft_of book m.draft; levels = m.levels; inside = m.inside; stopped = m.stopped; doubt = None }
