-- What a command may be answered, as one list of cases for each command, in the order in which they are taken.
use Rattle.std.specs.Prelude.{◌≡◌, ◌⊎◌, ℕ, ℤ, ◌+◌, ◌/◌, ◌^◌, ◌==◌, ◌&&◌, nat_lt, nat_le, not, Bool, true, false, if◌then◌else◌, IsTrue, MatchBool, List, [], ◌∷◌, length, map, take, Option, Some, None, is_some}
use Rattle.std.specs.List.{list_any}
use Rattle.std.specs.Ordering.{int_cmp}
use Rattle.std.specs.FinMap as map
use Rattle.std.specs.FinMap.{FinMap}
use Rattle.vfs_model.specs.declared.level.Level.TheVariants.{Shared, Reserved, Exclusive}
use Rattle.db_format.specs.declared.value.Value.{Value}
use Rattle.db_format.specs.declared.value.Value.TheVariants.{Text, Blob}
use Rattle.shell_lang.specs.declared.command.Command.{Command}
use Rattle.shell_lang.specs.declared.command.Command.TheVariants as command
use Rattle.shell_lang.specs.declared.reply.Reply.{Reply}
use Rattle.shell_lang.specs.declared.reply.Reply.TheVariants as reply
use Rattle.shell_lang.specs.declared.reply.ErrorWord.TheVariants as word
use Rattle.shell_lang.specs.declared.reply.ScanEnd.TheVariants as last
use Rattle.book_model.specs.Book.{Name, Row, Book, table_at, is_plain, is_foreign, is_taken, with_table, without_table, with_row, without_row, has_row, use_of, need_of}
pub use Rattle.book_reads.specs.Reads.{rows_between, tables_listed}
use Rattle.shell_model.specs.State.{State, is_inside, own, seen, is_refused, reached, waiting, begun, ended, drafted, committed_book, committed, halted, opened}

-- a case: a condition, the reply, and the state after it
pub data Case : Type 0 where
  -- where the condition holds, this is the reply
  due : Bool → Reply → State → Case
  -- where the condition holds, this may be the reply
  may : Bool → Reply → State → Case

-- the cases allow this reply and this state: the first that is due fixes them, and each that may be and stands
-- before it is allowed too
abbrev pub Allows : List Case → Reply → State → Type 0
Allows [] reply next = ⊥
Allows (due holds r s ∷ cases) reply next = MatchBool holds ((reply ≡ r) × (next ≡ s)) (Allows cases reply next)
Allows (may holds r s ∷ cases) reply next = (IsTrue holds × (reply ≡ r) × (next ≡ s)) ⊎ Allows cases reply next

-- what the implementation chooses in a step
pub record Pick : Type 0 where
  -- the pages and free pages of a changed book, and the root page of a table that is made
  pub pages : ℕ
  pub free : ℕ
  pub root : ℕ
  -- how many rows a scan gives before it is refused
  pub rows : ℕ
  -- which of the candidates an opening finds
  pub found : Book

-- a book with the numbers that were chosen
abbrev pub sized : Pick → Book → Book
sized pick book = record book { pages = pick.pages; free = pick.free }

-- ---- the parts that several commands share, each with what comes after it

-- every command but `reopen`: a stopped session answers none, and memory may be wanted
abbrev pub asked : State → List Case → List Case
asked s cases = due s.stopped reply.Stopped s ∷ may true reply.Memory s ∷ cases

-- a read asks Shared, and then the device may fail
abbrev pub reading : State → ℕ → List Case → List Case
reading s who cases =
    due (is_refused s.levels who Shared) reply.Busy s
    ∷ may true reply.Fault (halted s s.doubt)
    ∷ cases

-- a change asks Shared and then Reserved; the device may fail between and behind
abbrev pub writing : State → ℕ → List Case → List Case
writing s who cases = reading s who (due (is_refused s.levels who Reserved) reply.Busy s ∷ cases)

-- the table has to be there and plain
abbrev pub looking : State → Book → Name → List Case → List Case
looking after book name cases =
    due (not (is_plain book name) && not (is_foreign book name)) (reply.Error word.NoTable) after
    ∷ due (is_foreign book name) (reply.Error word.Foreign) after
    ∷ cases

-- the commit of a book, which leaves this state where it is worn, this one where it has to wait, and gives this reply
-- where it is done. From its first call of the device on a fault leaves it in doubt
abbrev pub committing : State → ℕ → Book → State → State → Reply → List Case
committing s who book worn busy done =
    due (s.kept.counter == 4294967295) reply.Worn worn
    ∷ due (is_refused s.levels who Exclusive) reply.Busy busy
    ∷ may true reply.Fault (halted s (Some (record { before = s.kept; after = committed_book s.kept book })))
    ∷ may true reply.MemoryStopped (halted s (Some (record { before = s.kept; after = committed_book s.kept book })))
    ∷ due true done (committed s who book)
    ∷ []

-- the least number of pages that passes the greatest database
abbrev pub too_many : Book → ℕ
too_many book = 2 ^ 30 / book.page + 1

-- a table command changes what it sees into this book: the change may pass the greatest database; inside a
-- transaction it becomes the draft, and outside it is committed in the same step
abbrev pub changing : State → ℕ → Book → Reply → List Case
changing s who book done =
    may (nat_le (too_many book) (length book.unnamed + use_of (seen s who) + need_of book)) (reply.Large (too_many book)) (reached s who Reserved)
    ∷ due (is_inside s who) done (drafted s who book)
    ∷ committing s who book s s done

-- ---- what the commands answer and change

-- the row that a map has, or nothing
abbrev pub row_reply : ℤ → Option Row → Reply
row_reply rowid None = reply.Nothing
row_reply rowid (Some row) = reply.Row rowid row.values

-- whether a text or a blob passes 65,536 bytes
abbrev pub is_long : Value → Bool
is_long (Text bytes) = nat_lt 65536 (length bytes)
is_long (Blob bytes) = nat_lt 65536 (length bytes)
is_long _ = false

abbrev pub rows_reply : ℤ → ℤ → FinMap int_cmp Row → Reply
rows_reply low high rows = reply.Rows (rows_between low high rows) (last.End (length (rows_between low high rows)))

-- ---- the commands

abbrev pub cases_of : Pick → State → ℕ → Command → List Case
cases_of pick s who (command.Create table columns) =
    let book = seen s who in
    asked s (writing s who (
    due (is_taken book table.name) (reply.Error word.Exists) (reached s who Reserved)
    ∷ changing s who (sized pick (with_table book table.name columns pick.root)) reply.Done))
cases_of pick s who (command.Drop table) =
    let book = seen s who in
    asked s (writing s who (looking (reached s who Reserved) book table.name (
    changing s who (sized pick (without_table book table.name)) reply.Done)))
cases_of pick s who (command.Put table rowid values) =
    let book = seen s who in
    asked s (writing s who (looking (reached s who Reserved) book table.name (
    due (not (length values == length (table_at book table.name).columns)) (reply.Error word.Columns) (reached s who Reserved)
    ∷ due (list_any is_long values) (reply.Error word.TooLong) (reached s who Reserved)
    ∷ changing s who (sized pick (with_row book table.name rowid values)) (if has_row book table.name rowid then reply.Replaced else reply.New))))
cases_of pick s who (command.Del table rowid) =
    let book = seen s who in
    asked s (writing s who (looking (reached s who Reserved) book table.name (
    due (not (has_row book table.name rowid)) reply.Nothing (reached s who Reserved)
    ∷ changing s who (sized pick (without_row book table.name rowid)) reply.Done)))
cases_of pick s who (command.Get table rowid) =
    let book = seen s who in
    asked s (reading s who (looking (reached s who Shared) book table.name (
    due true (row_reply rowid (map.get (table_at book table.name).rows rowid)) (reached s who Shared) ∷ [])))
cases_of pick s who (command.Scan table low high) =
    let book = seen s who in
    let rows = rows_between low high (table_at book table.name).rows in
    asked s (reading s who (looking (reached s who Shared) book table.name (
    may (nat_lt 0 pick.rows && nat_le pick.rows (length rows)) (reply.Rows (take pick.rows rows) last.Fault) (halted s s.doubt)
    ∷ may (nat_lt 0 pick.rows && nat_le pick.rows (length rows)) (reply.Rows (take pick.rows rows) last.Memory) s
    ∷ due true (rows_reply low high (table_at book table.name).rows) (reached s who Shared) ∷ [])))
cases_of pick s who (command.Count table) =
    let book = seen s who in
    asked s (reading s who (looking (reached s who Shared) book table.name (
    due true (reply.Count (map.len (table_at book table.name).rows)) (reached s who Shared) ∷ [])))
cases_of pick s who command.Tables =
    asked s (reading s who (due true (reply.TableLines (tables_listed (seen s who))) (reached s who Shared) ∷ []))
cases_of pick s who command.Begin =
    due s.stopped reply.Stopped s
    ∷ due (is_inside s who) (reply.Error word.InTxn) s
    ∷ due true reply.Done (begun s who) ∷ []
cases_of pick s who command.Rollback =
    due s.stopped reply.Stopped s
    ∷ due (not (is_inside s who)) (reply.Error word.NoTxn) s
    ∷ due true reply.Done (ended s who) ∷ []
cases_of pick s who command.Commit =
    due s.stopped reply.Stopped s
    ∷ due (not (is_inside s who)) (reply.Error word.NoTxn) s
    ∷ due (not (is_some (own s who))) reply.Done (ended s who)
    ∷ may true reply.Memory s
    ∷ committing s who (seen s who) s (waiting s who) reply.Done
cases_of pick s who command.Reopen =
    may true reply.Fault (halted s s.doubt)
    ∷ may true reply.MemoryStopped (halted s s.doubt)
    ∷ due true (reply.Open pick.found.counter) (opened pick.found) ∷ []
