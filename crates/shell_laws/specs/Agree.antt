-- Runs that agree: the machine chooses pages, and no reply that has to come shows which.
use Rattle.std.specs.Prelude.{◌≡◌, ℕ, ℤ, false, List, Option, option_map}
use Rattle.std.specs.List.{AllByRecursion}
use Rattle.std.specs.FinMap as map
use Rattle.shell_lang.specs.declared.reply.Reply.{Reply}
use Rattle.book_model.specs.Book.{Book, Name, taken_by}
use Rattle.shell_model.specs.State.{State}
use Rattle.shell_model.specs.Step.{is_free}
use Rattle.shell_model.specs.Run.{Line, Run, RunsTo}

-- the names that a row of the schema takes, where there is one
abbrev pub names_at : Book → ℤ → Option (List Name)
names_at book rowid = option_map (λ row. taken_by row.values) (map.get book.schema rowid)

-- books of the same tables: they may differ in their numbers of pages, in the pages that nothing names, and in the root pages that the rows of the
-- schema name
pub record IsSameBook (a b : Book) : Type 0 where
  pub tables : b.tables ≡ a.tables
  pub foreign : b.foreign ≡ a.foreign
  pub names : (rowid : ℤ) → names_at b rowid ≡ names_at a rowid
  pub counter : b.counter ≡ a.counter

-- no reply is one that may come or not
abbrev pub NoneFree : List Reply → Type 0
NoneFree answers = AllByRecursion (λ answer. is_free answer ≡ false) answers

-- runs of the same lines give the same replies
abbrev pub RunsAgree : Type 0
RunsAgree = (a b : Book) (lines : List Line) (answers others : List Reply) (end end' : State) → IsSameBook a b →
    Run a lines answers end → Run b lines others end' → NoneFree answers → NoneFree others → others ≡ answers

-- and runs of the same bytes the same text
abbrev pub TextsAgree : Type 0
TextsAgree = (a b : Book) (input text other : List ℕ) (end end' : State) → IsSameBook a b → (run : RunsTo a input text end) → (run' : RunsTo b input other end') →
    NoneFree run.answers → NoneFree run'.answers → other ≡ text
