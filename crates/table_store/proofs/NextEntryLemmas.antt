-- The rowid that a new row of the schema gets is one that a row may have.
use Rattle.std.proofs.Common.{◌≡◌, ℕ, ◌*◌, ◌^◌, ◌≤◌, ◌<◌, Bool, true, false, if◌then◌else◌, ℤ, pos, ◌+ℤ◌, ◌-ℤ◌, ◌<ℤ◌, ◌≤ℤ◌, List, [], ◌∷◌, length, map, reverse, sym, ap, subst, arith, length-append}
use Rattle.std.proofs.lemmas.List.{length-map, length-reverse, length-take, reverse-append}
use Rattle.std.specs.List.{AllByRecursion}
use Rattle.std.specs.Ordering.{int_cmp, is_eq}
use Rattle.std.specs.FinMap as map
use Rattle.page_list.specs.Pages.{Pages}
use Rattle.db_format.specs.declared.value.Value.{Value}
use Rattle.tree_page.specs.declared.cell.LeafCell.{LeafCell}
use Rattle.tree_page.specs.declared.cell.InnerCell.{InnerCell}
use Rattle.tree_page.specs.declared.cell.PageCells.TheVariants.{Leaf as LeafPage}
use Rattle.tree_page.specs.Page.{Cell, Placed, leaf}
use Rattle.tree_model.specs.Tree.{Row as Stored, Tree, Leaf, Child, Right, rowid, rows_of, pages_of}
use Rattle.tree_model.specs.Held.{HasCells, HoldsBehind}
use Rattle.tree_model.specs.Laws.{Rises, RowsRise}
use Rattle.tree_model.specs.Whole.{greatest, below_all}
use Rattle.tree_laws.proofs.SizeLemmas.{says_size}
use Rattle.tree_laws.proofs.DeepLemmas.{most_pages, tree_fits}
use Rattle.book_model.specs.Book.{Row, Book, free_below, next_of, next_entry}
use Rattle.book_model.specs.Pages.{entries_of, IsBookOf}
use Rattle.book_reads.proofs.RowLemmas.{entries_are}
use Rattle.book_changes.proofs.TableLemmas.{all_append}

-- ---- how many rows a tree has

-- a leaf has no more rows than its page has bytes
leaf_rows : (pages : Pages) (page : ℕ) (rows : List Stored) → HasCells pages page (LeafPage (map (λ row. row.cell) rows)) → length rows ≤ pages.usable
leaf_rows pages page rows has =
    let reads = has.reads in
    let cells : List LeafCell = map (λ (row : Stored). row.cell) rows in
    let same = ap (λ (l : List Cell). length l) reads.cells_are in
    omega (
      arith,
      same,
      reads.pointers_within,
      length-take pages.usable (pages.bytes page),
      length-map rows (λ (row : Stored). row.cell),
      length-map cells leaf,
      length-map reads.placed (λ (p : Placed). p.cell),
    )

tree_rows : (pages : Pages) (front : List InnerCell) (tree : Tree) → pages.usable ≤ 65536 → HoldsBehind pages front tree → length (rows_of tree) ≤ 65536 * length (pages_of tree)
tree_rows pages front (Leaf page rows) small holds = let few = leaf_rows pages page rows holds.1 in omega (arith, few, small)
tree_rows pages front (Child child key more) small holds =
    omega (arith, tree_rows pages [] child small holds.0, tree_rows pages _ more small holds.1, length-append (rows_of child) (rows_of more), length-append (pages_of child) (pages_of more))
tree_rows pages front (Right page child) small holds = omega (arith, tree_rows pages [] child small holds.1)

-- so the schema has fewer rows than there are rowids
schema_rows : (pages : Pages) (book : Book) (is : IsBookOf pages book) → length (rows_of is.schema) < 2 ^ 60
schema_rows pages book is =
    let whole = is.whole.whole in
    let size = says_size pages whole.header in
    let small : pages.usable ≤ 65536 = omega (arith, whole.header.used, size.most) in
    omega (arith, tree_rows pages [] is.schema small whole.each_tree.0.held, tree_fits pages _ [] is.trees is.schema is.trunks whole, most_pages pages whole.header)

-- ---- the rowid of a new row

-- the greatest number that is free is less than the greatest by no more than there are others
free_least : (z : ℤ) (l : List ℤ) → z ≤ℤ (free_below z l +ℤ pos (length l))
free_least z [] = grind arith
free_least z (key ∷ l) = by (is_eq (int_cmp key z)) (free_least (z -ℤ pos 1) l)
  where
    by : (b : Bool) → (z -ℤ pos 1) ≤ℤ (free_below (z -ℤ pos 1) l +ℤ pos (length l)) → z ≤ℤ ((if b then free_below (z -ℤ pos 1) l else z) +ℤ pos (length (key ∷ l)))
    by true more = grind (arith, more)
    by false more = grind arith

next_least : (l : List ℤ) → AllByRecursion (λ key. below_all <ℤ key) l → length l < 2 ^ 60 → below_all <ℤ next_of l
next_least [] above few = grind arith
next_least (key ∷ l) above few = by (is_eq (int_cmp key greatest)) (free_least greatest (key ∷ l))
  where
    by : (b : Bool) → greatest ≤ℤ (free_below greatest (key ∷ l) +ℤ pos (length (key ∷ l))) → below_all <ℤ (if b then free_below greatest (key ∷ l) else key +ℤ pos 1)
    by true more = grind (arith, more, few)
    by false more = grind (arith, above.0)

-- ---- in a book

entries_few : (columns : ℕ) (stored : List Stored) (contents : List (List Value)) → length (entries_of columns stored contents) ≤ length stored
entries_few columns [] contents = omega arith
entries_few columns (row ∷ stored) [] = omega arith
entries_few columns (row ∷ stored) (values ∷ contents) = omega (arith, entries_few columns stored contents)

keys_above : (columns : ℕ) (low last : ℤ) (stored : List Stored) (contents : List (List Value)) → low ≤ℤ last → Rises last stored
    → AllByRecursion (λ key. low <ℤ key) (map (λ (e : ℤ × Row). e.0) (entries_of columns stored contents))
keys_above columns low last [] contents less rise = tt
keys_above columns low last (row ∷ stored) [] less rise = tt
keys_above columns low last (row ∷ stored) (values ∷ contents) less rise =
    (grind (arith, less, rise.0), keys_above columns low (rowid row) stored contents (grind (arith, less, rise.0)) rise.1)

all_turned : (P : ℤ → Type 0) (l : List ℤ) → AllByRecursion P l → AllByRecursion P (reverse l)
all_turned P [] all = tt
all_turned P (x ∷ l) all = subst (AllByRecursion P) (sym (reverse-append (x ∷ []) l)) (all_append P (reverse l) (x ∷ []) (all_turned P l all.1) (all.0, tt))

pub entry_above : RowsRise → (pages : Pages) (book : Book) → IsBookOf pages book → below_all <ℤ next_entry book
entry_above rises pages book is =
    let stored : List Stored = rows_of is.schema in
    let rise = rises pages 1 is.schema is.whole.whole.each_tree.0 in
    let es : List (ℤ × Row) = entries_of 5 stored is.schema_is.contents in
    let keys : List ℤ = map (λ (e : ℤ × Row). e.0) es in
    let same : map.entries book.schema ≡ es = entries_are 5 below_all stored book.schema rise is.schema_is in
    let above = all_turned (λ key. below_all <ℤ key) keys (keys_above 5 below_all below_all stored is.schema_is.contents (grind arith) rise) in
    let few : length (reverse keys) < 2 ^ 60 =
    omega (arith, length-reverse keys, length-map es (λ (e : ℤ × Row). e.0), entries_few 5 stored is.schema_is.contents, schema_rows pages book is) in
    let N : List (ℤ × Row) → Type 0 = λ l. below_all <ℤ next_of (reverse (map (λ (e : ℤ × Row). e.0) l)) in
    subst N (sym same) (next_least (reverse keys) above few)
