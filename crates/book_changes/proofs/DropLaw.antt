-- A table of a book is dropped: from what the calls leave.
use Rattle.std.proofs.Common.{ℕ, ◌∷◌, ◌++◌, arith}
use Rattle.page_list.specs.Pages.{Pages}
use Rattle.tree_model.specs.Laws.{RowsRise, OneTree}
use Rattle.tree_model.specs.Tree.{rows_of}
use Rattle.tree_laws.specs.Front.{FrontKept, WholeFront}
use Rattle.tree_laws.specs.Whole.{PagesAddUp, RootRemoved}
use Rattle.tree_laws.specs.Replace.{UseWithinNeed}
use Rattle.tree_free.specs.Free.{RemovesRoot}
use Rattle.book_model.specs.Book.{table_at}
use Rattle.book_model.specs.Laws.{BookCounts}
use Rattle.book_changes.specs.Tables.{TableDropped}
use Rattle.book_changes.proofs.TableLemmas.{table_at as place_of}
use Rattle.book_changes.proofs.FrameLemmas.{frame_of}
use Rattle.book_changes.proofs.ChangeLemmas.{Goes}
use Rattle.book_changes.proofs.RowLaws.{removal_edits}
use Rattle.book_changes.proofs.DropLemmas.{table_dropped as dropped}

root_goes : FrontKept → (old new : Pages) (root : ℕ) → RemovesRoot old new root → Goes old new root
root_goes kept old new root removes front back before behind tree trunks long whole =
    let is = removes front back before behind tree trunks long whole in
    record {
      trunks' = is.trunks';
      whole = is.whole;
      frame = frame_of kept old new (front ++ root ∷ back) (front ++ back) (before ++ tree ∷ behind) (before ++ behind) trunks is.trunks' whole is.whole is.unnamed is.none_lost
          (omega (arith, is.size)) is.front;
      size = is.size;
    }

pub table_dropped : BookCounts → UseWithinNeed → PagesAddUp → RootRemoved → OneTree → WholeFront → FrontKept → RowsRise → TableDropped
table_dropped counts within add_up removed one_tree front kept rises page_size old mid given new book is table told among removes gives cookie sized =
    dropped counts within add_up removed one_tree front rises page_size old mid given new book is table
    (place_of (rows_of is.schema) is.found is.trees is.tables table is.each among.0 among.1 among.2)
    (removal_edits kept old mid 1 (table_at book table.create.name).entry told removes) (root_goes kept mid given table.root gives) cookie sized
