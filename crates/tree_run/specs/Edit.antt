-- What is done to the rows of a tree.
use Rattle.std.specs.Prelude.{◌≡◌, ◌≢◌, ℕ, ℤ, ◌<ℤ◌, ◌≤ℤ◌, int_le, if◌then◌else◌, List, [], ◌∷◌, ◌++◌}
use Rattle.page_list.specs.Pages.{Pages}
use Rattle.tree_model.specs.Tree.{Row, rowid}
use Rattle.tree_model.specs.Laws.{Rises, row_at}
use Rattle.tree_model.specs.declared.ends.PathEnd.TheVariants.{HasPayload}
use Rattle.tree_run.specs.Node.{Piece, rows_in, last_key}
use Rattle.tree_run.specs.Run.{Run, IsRun, run_rows, Behind, within, bound, behind_rows}

-- the rows with one put in: in place of the one of its rowid, or between its neighbours
abbrev pub put_row : Row → List Row → List Row
put_row row [] = row ∷ []
put_row row (r ∷ more) =
    if int_le (rowid row) (rowid r) then (if int_le (rowid r) (rowid row) then row ∷ more else row ∷ r ∷ more) else r ∷ put_row row more

-- then it is the row of its rowid, each other rowid has the row that it had, and the rows still rise
pub record PutFinds : Type 0 where
  pub here : (row : Row) (rows : List Row) → row_at (rowid row) (put_row row rows) ≡ HasPayload row.payload
  pub beside : (key : ℤ) (row : Row) (rows : List Row) → key ≢ rowid row → row_at key (put_row row rows) ≡ row_at key rows
  pub rises : (low : ℤ) (row : Row) (rows : List Row) → low <ℤ rowid row → Rises low rows → Rises low (put_row row rows)

-- the chain of the row of this rowid, and the rows without it
abbrev pub chain_at : ℤ → List Row → List ℕ
chain_at key [] = []
chain_at key (r ∷ more) = if int_le key (rowid r) then (if int_le (rowid r) key then r.chain else []) else chain_at key more

abbrev pub without : ℤ → List Row → List Row
without key [] = []
without key (r ∷ more) = if int_le key (rowid r) then (if int_le (rowid r) key then more else r ∷ more) else r ∷ without key more

-- what is done to the rows of a tree: a row is put among them, or the one of a rowid is taken out
pub data Edit : Type 0 where
  Puts : Row → Edit
  Removes : ℤ → Edit

-- the rowid of that row
abbrev pub key_of : Edit → ℤ
key_of (Puts row) = rowid row
key_of (Removes key) = key

-- the rows then
abbrev pub edited : Edit → List Row → List Row
edited (Puts row) rows = put_row row rows
edited (Removes key) rows = without key rows

-- what is done to a run within a longer one is done to that
abbrev pub EditWithin : Type 0
EditWithin = (pages : Pages) (low high : ℤ) (depth : ℕ) (before : List Piece) (run : Run) (behind : Behind) (edit : Edit) →
    IsRun pages low high depth (within before run behind) → last_key low before <ℤ key_of edit → key_of edit ≤ℤ bound high behind →
    rows_in before ++ (edited edit (run_rows run) ++ behind_rows behind) ≡ edited edit (run_rows (within before run behind))
