-- A row put into a table of a book, and one taken out.
use Rattle.std.proofs.Common.{ℕ, Bool, ℤ, List, ◌∷◌, ◌++◌, length, sym, subst, arith}
use Rattle.std.specs.FinMap as map
use Rattle.page_list.specs.Pages.{Pages}
use Rattle.db_format.specs.Schema.{IsRecordOf}
use Rattle.tree_model.specs.Tree.{rows_of}
use Rattle.tree_model.specs.Whole.{below_all}
use Rattle.tree_model.specs.Database.{HasRecords}
use Rattle.tree_model.specs.Laws.{RowsRise}
use Rattle.tree_laws.specs.Front.{FrontKept}
use Rattle.tree_laws.specs.Whole.{PagesAddUp}
use Rattle.tree_laws.specs.Replace.{UseWithinNeed}
use Rattle.tree_put.specs.Keeps.{put_shown}
use Rattle.tree_removed.specs.Keeps.{without_shown}
use Rattle.rowid_tree.specs.Puts.{PutsRow}
use Rattle.rowid_tree.specs.Removes.{RemovesRow}
use Rattle.book_model.specs.Book.{Table, table_at, written_row}
use Rattle.book_model.specs.Pages.{HasRows}
use Rattle.book_model.specs.Laws.{BookCounts}
use Rattle.book_changes.specs.Rows.{RowPut, RowRemoved}
use Rattle.book_changes.proofs.RowLemmas.{rows_put, payloads_put, rows_without, payloads_without, told_by_map}
use Rattle.book_changes.proofs.TableLemmas.{table_at as place_of}
use Rattle.book_changes.proofs.FrameLemmas.{frame_of}
use Rattle.book_changes.proofs.ChangeLemmas.{roots_in, Edits, tree_at, whole_at, whole_with, table_has, rows_change}

pub put_edits : FrontKept → (old new : Pages) (root : ℕ) (rowid : ℤ) (payload : List ℕ) (replaced : Bool) → PutsRow old new root rowid payload replaced
    → Edits 1 old new root (put_shown (rowid, payload))
put_edits kept old new root rowid payload replaced puts roots before behind tree trunks whole rooted =
    let is = puts.each roots before behind tree trunks whole rooted in
    record {
      tree' = is.tree';
      trunks' = is.trunks';
      change = record {
        whole = is.whole;
        frame = frame_of kept old new roots roots (before ++ tree ∷ behind) (before ++ is.tree' ∷ behind) trunks is.trunks' whole is.whole is.unnamed is.none_lost is.no_fewer is.front;
        bound = is.tight;
      };
      rooted = is.rooted;
      rows = is.rows;
    }

pub removal_edits : FrontKept → (old new : Pages) (root : ℕ) (rowid : ℤ) (removed : Bool) → RemovesRow old new root rowid removed → Edits 0 old new root (without_shown rowid)
removal_edits kept old new root rowid removed removes roots before behind tree trunks whole rooted =
    let is = removes.each roots before behind tree trunks whole rooted in
    record {
      tree' = is.tree';
      trunks' = is.trunks';
      change = record {
        whole = is.whole;
        frame = frame_of kept old new roots roots (before ++ tree ∷ behind) (before ++ is.tree' ∷ behind) trunks is.trunks' whole is.whole is.unnamed is.none_lost is.no_fewer is.front;
        bound = omega (arith, is.bound);
      };
      rooted = is.rooted;
      rows = is.rows;
    }

pub row_put : BookCounts → UseWithinNeed → PagesAddUp → FrontKept → RowsRise → RowPut
row_put counts within add_up kept rises page_size old new book is table rowid values payload replaced among valid sized puts =
    let at = place_of (rows_of is.schema) is.found is.trees is.tables table is.each among.0 among.1 among.2 in
    let tree = whole_at old book is table at in
    let whole = whole_with old book is table at in
    let roots : List ℕ = 1 ∷ roots_in is.found in
    let columns : ℕ = length table.create.columns in
    let name : List ℕ = table.create.name in
    let edit = put_edits kept old new table.root rowid payload replaced puts roots (is.schema ∷ at.t) at.t' at.tree is.trunks whole tree.rooted in
    let told = (puts.each roots (is.schema ∷ at.t) at.t' at.tree is.trunks whole tree.rooted).told in
    let H : Table → Type 0 = λ t. HasRows columns (rows_of at.tree) t.rows in
    let has : HasRows columns (rows_of at.tree) (table_at book name).rows = subst H (sym (table_has old book is table at)) at.is.rows in
    let records = (tree_at HasRecords (rows_of is.schema) is.found is.trees is.tables table at is.whole.records).1.0 in (
      rows_change counts within add_up 1 page_size old new book is table at edit.tree' edit.trunks' (map.insert (table_at book name).rows rowid (written_row values)) edit.change sized
          (rows_put columns (rows_of at.tree) (rows_of edit.tree') (table_at book name).rows rowid payload values valid.is_record valid.full valid.size edit.rows has)
          (payloads_put (IsRecordOf columns) (rows_of at.tree) (rows_of edit.tree') rowid payload
          (record { values = values; is_record = valid.is_record; few = omega (arith, valid.full) }) edit.rows records),
      told_by_map columns rowid below_all (rows_of at.tree) (table_at book name).rows replaced (rises old table.root at.tree tree) has told,
    )

pub row_removed : BookCounts → UseWithinNeed → PagesAddUp → FrontKept → RowsRise → RowRemoved
row_removed counts within add_up kept rises page_size old new book is table rowid removed among sized removes =
    let at = place_of (rows_of is.schema) is.found is.trees is.tables table is.each among.0 among.1 among.2 in
    let tree = whole_at old book is table at in
    let whole = whole_with old book is table at in
    let roots : List ℕ = 1 ∷ roots_in is.found in
    let columns : ℕ = length table.create.columns in
    let name : List ℕ = table.create.name in
    let edit = removal_edits kept old new table.root rowid removed removes roots (is.schema ∷ at.t) at.t' at.tree is.trunks whole tree.rooted in
    let told = (removes.each roots (is.schema ∷ at.t) at.t' at.tree is.trunks whole tree.rooted).told in
    let H : Table → Type 0 = λ t. HasRows columns (rows_of at.tree) t.rows in
    let has : HasRows columns (rows_of at.tree) (table_at book name).rows = subst H (sym (table_has old book is table at)) at.is.rows in
    let records = (tree_at HasRecords (rows_of is.schema) is.found is.trees is.tables table at is.whole.records).1.0 in
    let rise = rises old table.root at.tree tree in (
      rows_change counts within add_up 0 page_size old new book is table at edit.tree' edit.trunks' (map.remove (table_at book name).rows rowid) edit.change sized
          (rows_without columns below_all (rows_of at.tree) (rows_of edit.tree') (table_at book name).rows rowid rise edit.rows has)
          (payloads_without (IsRecordOf columns) (rows_of at.tree) (rows_of edit.tree') rowid edit.rows records),
      told_by_map columns rowid below_all (rows_of at.tree) (table_at book name).rows removed rise has told,
    )
