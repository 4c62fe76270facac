-- A table of a book is made: from what the calls leave.
use Rattle.std.proofs.Common.{◌≡◌, ℕ, Bool, false, ℤ, List, [], ◌∷◌, ◌++◌, map, sym, ap, ◌∙◌, arith}
use Rattle.std.proofs.lemmas.List.{nil_from_length}
use Rattle.std.specs.List.{flat_map, list_any}
use Rattle.std.specs.Ordering.{int_cmp}
use Rattle.std.specs.Str.{str_eq_ignore_ascii_case}
use Rattle.std.specs.FinMap as map
use Rattle.std.specs.FinMap.{len-entries, len-empty}
use Rattle.page_list.specs.Pages.{Pages, AreSized}
use Rattle.page_list.specs.Freelist.{take_each}
use Rattle.db_format.specs.Create.{IsPlain}
use Rattle.db_format.specs.Record.{OneRecord}
use Rattle.db_format.specs.Schema.{tables_in}
use Rattle.tree_model.specs.Tree.{Leaf, rows_of}
use Rattle.tree_model.specs.Laws.{RowsRise, OneTree}
use Rattle.tree_laws.specs.Front.{FrontKept, WholeFront}
use Rattle.tree_laws.specs.Whole.{PagesAddUp, RootRemoved}
use Rattle.tree_laws.specs.Replace.{UseWithinNeed}
use Rattle.rowid_tree.specs.Puts.{PutsRow}
use Rattle.rowid_tree.specs.Roots.{AddsRoot}
use Rattle.book_model.specs.Book.{Name, Row, Book, empty_book, taken_by, is_taken, with_table, next_entry}
use Rattle.book_model.specs.Pages.{IsBookOf}
use Rattle.book_model.specs.Laws.{BookCounts}
use Rattle.book_changes.specs.Changes.{CookieChanges}
use Rattle.book_changes.specs.First.{FirstTable}
use Rattle.book_changes.specs.Tables.{IsEntry, TableMade}
use Rattle.book_changes.proofs.FrameLemmas.{frame_of}
use Rattle.book_changes.proofs.RowLaws.{put_edits}
use Rattle.book_changes.proofs.NextLemmas.{next_is_free}
use Rattle.book_changes.proofs.MoveLemmas.{some_used}
use Rattle.book_changes.proofs.FirstLemmas.{first_page}
use Rattle.book_changes.proofs.MakeLemmas.{Adds, MadeBook, table_made as made}

pub root_adds : FrontKept → (old new : Pages) (number : ℕ) → AddsRoot old new number → Adds old new number
root_adds kept old new number adds roots trees trunks whole =
    let is = adds.each roots trees trunks whole in
    record {
      trunks' = take_each 1 trunks;
      whole = is.whole;
      frame = frame_of kept old new roots (roots ++ number ∷ []) trees (trees ++ Leaf number [] ∷ []) trunks (take_each 1 trunks) whole is.whole is.unnamed is.none_lost adds.no_fewer is.front;
      bound = is.bound;
    }

-- a table made in any book, with what is said of the pages beside
pub whole_made : BookCounts → UseWithinNeed → PagesAddUp → RootRemoved → OneTree → WholeFront → FrontKept → RowsRise → OneRecord → (page_size : ℕ) (old mid put new : Pages) (book : Book)
    (name : Name) (columns : List Name) (number : ℕ) (payload : List ℕ) (replaced : Bool) → IsBookOf old book → is_taken book name ≡ false → IsPlain (record { name = name; columns = columns })
    → IsEntry name columns number payload → AddsRoot old mid number → PutsRow mid put 1 (next_entry book) payload replaced → CookieChanges put new → AreSized page_size new
    → MadeBook new book name columns number
whole_made counts within add_up removed one_tree front kept rises one page_size old mid put new book name columns number payload replaced is taken plain entry adds puts cookie sized =
    made counts within add_up removed one_tree front rises one page_size old mid put new book is name columns number payload taken plain entry.is_record entry.size
    (next_is_free book (rows_of is.schema) (rises old 1 is.schema is.whole.whole.each_tree.0) is.schema_is)
    (root_adds kept old mid number adds) (put_edits kept mid put 1 (next_entry book) payload replaced puts) cookie sized

pub table_made : BookCounts → UseWithinNeed → PagesAddUp → RootRemoved → OneTree → WholeFront → FrontKept → RowsRise → OneRecord → TableMade
table_made counts within add_up removed one_tree front kept rises one page_size old mid put new book name columns number payload replaced is taken plain entry adds puts cookie sized =
    (whole_made counts within add_up removed one_tree front kept rises one page_size old mid put new book name columns number payload replaced is taken plain entry adds puts cookie sized).becomes

no_names : (page usable : ℕ) (name : Name) → is_taken (empty_book page usable) name ≡ false
no_names page usable name =
    let none : map.entries (map.empty {X = Row} {R = int_cmp}) ≡ [] = nil_from_length (map.entries (map.empty {X = Row} {R = int_cmp})) (sym (len-entries (map.empty {X = Row} {R = int_cmp})) ∙ len-empty int_cmp Row) in
    ap (λ (es : List (ℤ × Row)). list_any (str_eq_ignore_ascii_case name) (flat_map (λ (row : Row). taken_by row.values) (map (λ (e : ℤ × Row). e.1) es))) none

pub first_table : BookCounts → UseWithinNeed → PagesAddUp → RootRemoved → OneTree → WholeFront → FrontKept → RowsRise → OneRecord → FirstTable
first_table counts within add_up removed one_tree front kept rises one page_size page reserved old mid put new name columns number payload replaced first plain entry adds puts cookie sized =
    let book : Book = record (empty_book page old.usable) { pages = 1 } in
    let all = whole_made counts within add_up removed one_tree front kept rises one page_size old mid put new book name columns number payload replaced (first_page page reserved old first)
    (no_names page old.usable name) plain entry adds puts cookie sized in
    let is = all.becomes.is_book in
    let some = some_used (map (λ table. table.root) (tables_in is.found)) is.schema is.trees in
    let after : Book = record (with_table book name columns number) { pages = new.size; free = all.becomes.free } in
    let in_use = counts.in_use new after is in
    record {
      free = all.becomes.free;
      is_book = is;
      sized = record {
        fits = all.becomes.sized.fits;
        keeps = omega arith;
        needed = all.becomes.sized.needed;
        bounded = omega (arith, all.tight, some, in_use);
      };
    }
