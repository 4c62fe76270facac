-- What follows from the definitions.
use Rattle.std.specs.Prelude.{◌≡◌, ◌≢◌, ◌⊎◌, ◌↔◌, ℕ, ℤ, ◌+◌, ◌-◌, ◌≤◌, max, Bool, true, false, List, [], ◌∷◌, length, Option, Some, None}
use Rattle.std.specs.FinMap as map
use Rattle.db_format.specs.declared.value.Value.{Value}
use Rattle.shell_lang.specs.declared.command.Command.{Command}
use Rattle.shell_lang.specs.declared.command.Command.TheVariants as command
use Rattle.shell_lang.specs.declared.reply.Reply.{Reply}
use Rattle.shell_lang.specs.declared.reply.Reply.TheVariants as reply
use Rattle.shell_lang.specs.Reply.{IsPrintable}
use Rattle.book_model.specs.Book.{Book, Name, table_at, is_plain, written_row}
use Rattle.shell_lang.specs.declared.command.TableName.{TableName}
use Rattle.shell_model.specs.State.{State, Draft, Doubt, own, seen, is_inside, closed}
use Rattle.shell_model.specs.Cases.{Pick, cases_of}
use Rattle.vfs_model.specs.declared.level.Level.{Level}
use Rattle.vfs_model.specs.declared.level.Level.TheVariants.{Free}
use Rattle.vfs_model.specs.Lock.{IsOwner, rank, level_at}
use Rattle.byte_base.specs.Count.{Rose}
use Rattle.shell_model.specs.Run.{Line, Answers, RunFrom, Block, says_fault, stopped_after}
use Rattle.shell_model.specs.Step.{Step, first_due, is_free}

-- replies other than the free ones are determined by the state, but for those of an opening where a commit is in doubt
abbrev pub RepliesAreDetermined : Type 0
RepliesAreDetermined = (s : State) (who : ℕ) (asked : Command) (answer other : Reply) (next after : State) → (s.doubt ≡ None) ⊎ (asked ≢ command.Reopen) →
    Step s who asked answer next → Step s who asked other after → is_free answer ≡ false → is_free other ≡ false → answer ≡ other

-- the first of the books that an opening may find
abbrev pub first_of : Option Doubt → Book → Book
first_of None kept = kept
first_of (Some doubt) kept = doubt.before

abbrev pub first_found : State → Book
first_found s = first_of s.doubt s.kept

-- the choice of the fewest pages: one page is in use, and every other is free
abbrev pub fewest : State → ℕ → Pick
fewest s who =
    let book = seen s who in
    let pages = max book.pages (length book.unnamed + 1) in
    record { pages = pages; free = pages - length book.unnamed - 1; root = 2; rows = 0; found = first_found s }

-- the reply that is due where nothing fails and memory is there, and the state after it
abbrev pub reference : State → ℕ → Command → Option (Reply × State)
reference s who asked = first_due (cases_of (fewest s who) s who asked)

-- there is such a reply, and the machine may give it
abbrev pub ReferenceIsAllowed : Type 0
ReferenceIsAllowed = (s : State) (who : ℕ) (asked : Command) →
    (answer : Reply) × (next : State) × (reference s who asked ≡ Some (answer, next)) × Step s who asked answer next

-- a book has a row with these values
pub record HasRow (book : Book) (name : Name) (rowid : ℤ) (values : List Value) : Type 0 where
  pub plain : is_plain book name ≡ true
  pub row : map.get (table_at book name).rows rowid ≡ Some (written_row values)

-- a put was answered so that the row is there
abbrev pub is_put : Reply → Bool
is_put reply.New = true
is_put reply.Replaced = true
is_put _ = false

-- after an acknowledged put its connection sees the row; outside a transaction every other that has no draft does too
pub record PutShows (s : State) (who : ℕ) (name : Name) (rowid : ℤ) (values : List Value) (next : State) : Type 0 where
  pub here : HasRow (seen next who) name rowid values
  pub kept : is_inside s who ≡ false → HasRow next.kept name rowid values

abbrev pub PutsShow : Type 0
PutsShow = (s : State) (who : ℕ) (table : TableName) (rowid : ℤ) (values : List Value) (answer : Reply) (next : State) →
    Step s who (command.Put table rowid values) answer next → is_put answer ≡ true → PutShows s who table.name rowid values next

-- a get of a row that is seen is answered with its values, unless the session is stopped, the connection has to wait,
-- the device fails or memory is wanted
abbrev pub GetsTell : Type 0
GetsTell = (s : State) (who : ℕ) (table : TableName) (rowid : ℤ) (values : List Value) (answer : Reply) (next : State) →
    HasRow (seen s who) table.name rowid values → s.stopped ≡ false → Step s who (command.Get table rowid) answer next →
    is_free answer ≡ false → (answer ≡ reply.Row rowid values) ⊎ (answer ≡ reply.Busy)

-- no two connections have drafts
abbrev pub OneDraft : Type 0
OneDraft = (s : State) (who other : ℕ) (book draft : Book) → own s who ≡ Some book → own s other ≡ Some draft → who ≡ other

-- a connection without a draft sees the kept book, whatever another has drafted
abbrev pub DraftsAreHidden : Type 0
DraftsAreHidden = (s : State) (who other : ℕ) (book : Book) → own s other ≡ Some book → who ≢ other → seen s who ≡ s.kept

-- a run gives one reply to each line
abbrev pub OneReplyALine : Type 0
OneReplyALine = (s : State) (lines : List Line) (answers : List Reply) (end : State) → RunFrom s lines answers end → length answers ≡ length lines

-- a get was answered with a row, or that there is none
abbrev pub is_told : Reply → Bool
is_told (reply.Row rowid values) = true
is_told reply.Nothing = true
is_told _ = false

-- a run of lines none of which changes the kept book
abbrev pub QuietFrom : State → List Line → List Reply → State → Type 0
QuietFrom s [] [] end = end ≡ s
QuietFrom s (line ∷ lines) (answer ∷ answers) end = (next : State) × Answers s line answer next × (next.kept ≡ s.kept) × QuietFrom next lines answers end
QuietFrom s [] (answer ∷ answers) end = ⊥
QuietFrom s (line ∷ lines) [] end = ⊥

-- after an acknowledged put outside a transaction, and lines that change no kept book, a get of a connection without a draft
-- that is answered with a row or with none is answered with that row
abbrev pub LaterGet : Type 0
LaterGet = (s : State) (who reader : ℕ) (table : TableName) (rowid : ℤ) (values : List Value) (lines : List Line) (put answer : Reply) (answers : List Reply) (next mid end : State) →
    is_inside s who ≡ false → Step s who (command.Put table rowid values) put next → is_put put ≡ true → QuietFrom next lines answers mid →
    own mid reader ≡ None → Step mid reader (command.Get table rowid) answer end → is_told answer ≡ true → answer ≡ reply.Row rowid values

-- what holds in every state of a run: outside a transaction a connection is free; a draft is that of a connection inside one, which holds Reserved at
-- least, and no other connection does; a commit is in doubt only where the session is stopped, and then no connection is inside a transaction
pub record IsSettled (s : State) : Type 0 where
  pub eight : length s.levels ≡ 8
  pub eight_inside : length s.inside ≡ 8
  pub free_outside : (who : ℕ) → IsOwner who → is_inside s who ≡ false → level_at s.levels who ≡ Free
  pub drafted : (draft : Draft) → s.draft ≡ Some draft → IsOwner draft.owner × (is_inside s draft.owner ≡ true) × (2 ≤ rank (level_at s.levels draft.owner))
  pub one_writer : (who other : ℕ) → IsOwner who → IsOwner other → 2 ≤ rank (level_at s.levels who) → 2 ≤ rank (level_at s.levels other) → who ≡ other
  pub doubted : (doubt : Doubt) → s.doubt ≡ Some doubt → s.stopped ≡ true
  pub halted : s.stopped ≡ true → (who : ℕ) → IsOwner who → is_inside s who ≡ false

-- an opening begins so, and a step keeps it
pub record StaysSettled : Type 0 where
  pub closed : (book : Book) → IsSettled (closed book)
  pub step : (s : State) (who : ℕ) (asked : Command) (answer : Reply) (next : State) → IsSettled s → IsOwner who → Step s who asked answer next → IsSettled next

-- then a step of one connection leaves the draft of another, unless the session stops or opens anew
abbrev pub DraftsStay : Type 0
DraftsStay = (s : State) (who : ℕ) (asked : Command) (answer : Reply) (next : State) (draft : Draft) → IsSettled s → IsOwner who → s.draft ≡ Some draft → draft.owner ≢ who →
    asked ≢ command.Reopen → Step s who asked answer next → (next.stopped ≡ true) ⊎ (next.draft ≡ s.draft)

-- each reply of a step is a block where the device counts what fails
abbrev pub StepsAreBlocks : Type 0
StepsAreBlocks = (s : State) (who : ℕ) (asked : Command) (answer : Reply) (next : State) (faults faults' : ℕ) → Step s who asked answer next → faults ≤ faults' →
    (says_fault answer ≡ true → Rose faults faults') → Block s.stopped faults asked answer faults' × (next.stopped ≡ stopped_after s.stopped answer)

-- each reply of a step can be written
abbrev pub StepsArePrintable : Type 0
StepsArePrintable = (s : State) (who : ℕ) (asked : Command) (answer : Reply) (next : State) → Step s who asked answer next → IsPrintable answer
