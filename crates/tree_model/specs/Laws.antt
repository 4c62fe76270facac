-- What follows from the definitions of trees and whole pages alone.
use Rattle.std.specs.Prelude.{◌≡◌, ◌⊎◌, ℕ, ◌+◌, ◌*◌, ◌≤◌, nat_eq, if◌then◌else◌, ℤ, ◌<ℤ◌, ◌≤ℤ◌, int_le, ◌&&◌, List, [], ◌∷◌, ◌++◌, map, take, Option, Some, None, ⊤}
use Rattle.std.specs.List.{flat_map, AllByRecursion}
use Rattle.page_list.specs.Pages.{Pages, HasPage, IsGood, SamePage, times, Among, AllDifferent}
use Rattle.page_list.specs.Freelist.{Trunk}
use Rattle.db_format.specs.Header.{page_of, greatest_length}
use Rattle.db_format.specs.Schema.{Table}
use Rattle.db_format.specs.declared.value.Value.{Value}
use Rattle.tree_page.specs.declared.cell.LeafCell.{LeafCell}
use Rattle.tree_page.specs.declared.cell.PageCells.TheVariants.{Leaf as LeafPage}
use Rattle.tree_model.specs.Tree.{Row, Tree, Leaf, Child, Right, rowid, root_of, rows_of, pages_of, Within, with_leaf}
use Rattle.tree_model.specs.Held.{HasCells, HasRow, Holds}
use Rattle.tree_model.specs.Whole.{below_all, greatest, IsWholeTree, IsWholeFor, named_pages, unsized_header}
use Rattle.tree_model.specs.Database.{IsWholeDatabase}
use Rattle.tree_model.specs.Walk.{Accepts, IsReadable, IsUnreadable, Fault, PathEnd, HasPayload, NoRow, Path, WalkEnd, End, Walk, Next, Found, Nothing, NextFrom}

-- pages hold one tree from a root at most
abbrev pub OneTree : Type 0
OneTree = (pages : Pages) (a b : Tree) → Holds pages a → Holds pages b → root_of a ≡ root_of b → a ≡ b

-- these pages are still there, and hold what they held
pub record Keeps (old new : Pages) (kept : ℕ → Type 0) : Type 0 where
  pub used : new.usable ≡ old.usable
  pub there : (page : ℕ) → kept page → HasPage old page → HasPage new page
  pub same : (page : ℕ) → kept page → SamePage old new page

-- a tree depends on no page that it does not name
abbrev pub TreeStays : Type 0
TreeStays = (old new : Pages) (tree : Tree) → Keeps old new (Among (pages_of tree)) → Holds old tree → Holds new tree

-- each rowid is greater than the one before it
abbrev pub Rises : ℤ → List Row → Type 0
Rises last [] = ⊤
Rises last (row ∷ more) = (last <ℤ rowid row) × Rises (rowid row) more

-- the rows of a whole tree rise
abbrev pub RowsRise : Type 0
RowsRise = (pages : Pages) (root : ℕ) (tree : Tree) → IsWholeTree pages root tree → Rises below_all (rows_of tree)

-- the row of a key
abbrev pub row_at : ℤ → List Row → PathEnd
row_at key [] = NoRow
row_at key (row ∷ more) = if int_le key (rowid row) then (if int_le (rowid row) key then HasPayload row.payload else NoRow) else row_at key more

-- a path ends in one way, and in a whole tree, whose payloads are accepted, with just the row of its key, or none
abbrev pub OnePath : Type 0
OnePath = (columns : Option ℕ) (pages : Pages) (root : ℕ) (key : ℤ) (a b : PathEnd) → Path columns pages root key a → Path columns pages root key b → a ≡ b

-- each payload is accepted
abbrev pub AreAccepted : Option ℕ → List Row → Type 0
AreAccepted columns rows = AllByRecursion (λ row. Accepts columns row.payload) rows

abbrev pub PathFinds : Type 0
PathFinds = (columns : Option ℕ) (pages : Pages) (root : ℕ) (tree : Tree) → IsWholeTree pages root tree → AreAccepted columns (rows_of tree) → (key : ℤ) →
    Path columns pages root key (row_at key (rows_of tree))

-- a walk gives one list of rows and ends in one way, and over a whole tree, whose payloads are accepted, just its rows
-- in the range
abbrev pub OneWalk : Type 0
OneWalk = (columns : Option ℕ) (pages : Pages) (root : ℕ) (low high : ℤ) (rows more : List (ℤ × List ℕ)) (a b : WalkEnd) →
    Walk columns pages root low high rows a → Walk columns pages root low high more b → (rows ≡ more) × (a ≡ b)

abbrev pub shown : Row → ℤ × List ℕ
shown row = (rowid row, row.payload)

-- the rows from a rowid to another, both included
abbrev pub rows_between : ℤ → ℤ → List Row → List Row
rows_between low high [] = []
rows_between low high (row ∷ more) =
    if int_le low (rowid row) && int_le (rowid row) high then row ∷ rows_between low high more else rows_between low high more

abbrev pub WalkGives : Type 0
WalkGives = (columns : Option ℕ) (pages : Pages) (root : ℕ) (tree : Tree) (low high : ℤ) → IsWholeTree pages root tree → AreAccepted columns (rows_of tree) →
    below_all <ℤ low → Walk columns pages root low high (map shown (rows_between low high (rows_of tree))) End

-- the first row whose rowid is at least a key
abbrev pub first_row : ℤ → List Row → Option Row
first_row key [] = None
first_row key (row ∷ more) = if int_le key (rowid row) then Some row else first_row key more

-- the search for the next row meets one thing; a cell has one payload at most, and where it has one no fault
pub record OneNext : Type 0 where
  pub once : (pages : Pages) (root : ℕ) (key : ℤ) (a b : Next) → NextFrom pages root key a → NextFrom pages root key b → a ≡ b
  pub read_once : (columns : Option ℕ) (pages : Pages) (cell : LeafCell) (p q : List ℕ) → IsReadable columns pages cell p → IsReadable columns pages cell q → p ≡ q
  pub not_both : (columns : Option ℕ) (pages : Pages) (leaf : ℕ) (cell : LeafCell) (payload : List ℕ) (fault : Fault) → IsReadable columns pages cell payload
      → ¬ (IsUnreadable columns pages leaf cell fault)

-- the search meets this row, on some leaf, and it can be read; or it meets nothing
abbrev pub MeetsRow : Pages → ℕ → ℤ → Option Row → Type 0
MeetsRow pages root key None = NextFrom pages root key Nothing
MeetsRow pages root key (Some row) = HasRow pages row × ((leaf : ℕ) × NextFrom pages root key (Found leaf row.cell))

-- in a whole tree it meets the first row from the key on
abbrev pub NextGives : Type 0
NextGives = (pages : Pages) (root : ℕ) (tree : Tree) (key : ℤ) → IsWholeTree pages root tree → below_all ≤ℤ key → MeetsRow pages root key (first_row key (rows_of tree))

-- so many pages are not too many for a database
abbrev pub Admits : Pages → Pages → Type 0
Admits old new = (old.size ≤ new.size) × (page_of (unsized_header old) * new.size ≤ greatest_length)

-- whole pages stay whole, with the same trees and the same freelist, where no named page changes, and where they grow
abbrev pub WholeStays : Type 0
WholeStays = (old new : Pages) (roots : List ℕ) (trees : List Tree) (trunks : List Trunk) → IsWholeFor old roots trees trunks →
    Keeps old new (Among (named_pages roots trees trunks)) → Admits old new → IsWholeFor new roots trees trunks

-- a page that nothing named becomes an empty root
abbrev pub RootAdded : Type 0
RootAdded = (old new : Pages) (roots : List ℕ) (trees : List Tree) (trunks : List Trunk) (page : ℕ) → IsWholeFor old roots trees trunks →
    Keeps old new (Among (named_pages roots trees trunks)) → Admits old new → ¬ (Among (named_pages roots trees trunks) page) →
    HasCells new page (LeafPage []) → IsWholeFor new (roots ++ page ∷ []) (trees ++ Leaf page [] ∷ []) trunks

-- the pages of the chains of rows
abbrev pub chains_of : List Row → List ℕ
chains_of rows = flat_map (λ row. row.chain) rows

-- the rows of the leaf on a page, and the pages of all the others
abbrev pub leaf_rows : ℕ → Tree → List Row
leaf_rows at (Leaf page rows) = if nat_eq page at then rows else []
leaf_rows at (Child child key more) = leaf_rows at child ++ leaf_rows at more
leaf_rows at (Right page child) = leaf_rows at child

abbrev pub pages_beside : ℕ → Tree → List ℕ
pages_beside at (Leaf page rows) = if nat_eq page at then [] else page ∷ chains_of rows
pages_beside at (Child child key more) = pages_beside at child ++ pages_beside at more
pages_beside at (Right page child) = page ∷ pages_beside at child

-- the tree has a leaf on this page, and the leaf may have these rows: each within its separators, and some where it is no root
abbrev pub MayHave : ℕ → List Row → ℤ → ℤ → Tree → Type 0
MayHave at rows low high (Leaf page old) = page ≡ at → AllByRecursion (λ row. Within low high (rowid row)) rows
MayHave at rows low high (Child child key more) = MayHave at rows low key child × MayHave at rows key high more
MayHave at rows low high (Right page child) = MayHave at rows low high child

abbrev pub HasLeaf : ℕ → Tree → Type 0
HasLeaf at (Leaf page rows) = page ≡ at
HasLeaf at (Child child key more) = HasLeaf at child ⊎ HasLeaf at more
HasLeaf at (Right page child) = HasLeaf at child

-- other rows stand in the leaf on a page: the page and their chains are new, all else that the tree names stays
pub record ReplacesLeaf (old new : Pages) (tree : Tree) (at : ℕ) (rows : List Row) : Type 0 where
  pub has_leaf : HasLeaf at tree
  pub within : MayHave at rows below_all greatest tree
  pub some : rows ≡ [] → tree ≡ Leaf at (leaf_rows at tree)
  pub cells : HasCells new at (LeafPage (map (λ row. row.cell) rows))
  pub each_row : AllByRecursion (HasRow new) rows
  pub beside : Keeps old new (Among (pages_beside at tree))

-- the rows of a tree whose leaf has other rows: those before, the new ones in place of the old ones, and those behind
pub record RowsChange (tree : Tree) (at : ℕ) (rows : List Row) : Type 0 where
  pub before : List Row
  pub behind : List Row
  pub old_rows : rows_of tree ≡ before ++ (leaf_rows at tree ++ behind)
  pub new_rows : rows_of (with_leaf at rows tree) ≡ before ++ (rows ++ behind)

-- and its pages: those of the old chains go, those of the new ones come
pub record PagesChange (tree : Tree) (at : ℕ) (rows : List Row) : Type 0 where
  pub count : (page : ℕ) → times page (pages_of (with_leaf at rows tree)) + times page (chains_of (leaf_rows at tree))
      ≡ times page (pages_of tree) + times page (chains_of rows)

abbrev pub LeafReplaced : Type 0
LeafReplaced = (old new : Pages) (root : ℕ) (tree : Tree) (at : ℕ) (rows : List Row) → IsWholeTree old root tree → AllDifferent (pages_of tree) →
    ReplacesLeaf old new tree at rows → IsWholeTree new root (with_leaf at rows tree) × RowsChange tree at rows × PagesChange tree at rows

-- the chains of the new rows have no page twice, and each was one of the old chains or was not named
pub record NewChains (named : List ℕ) (old_rows rows : List Row) : Type 0 where
  pub different : AllDifferent (chains_of rows)
  pub free : (page : ℕ) → Among (chains_of rows) page → Among (chains_of old_rows) page ⊎ ¬ (Among named page)

-- page 1 keeps the header of the database, and is good
pub record KeepsHeader (old new : Pages) : Type 0 where
  pub front : take 100 (new.bytes 1) ≡ take 100 (old.bytes 1)
  pub good : IsGood new 1

-- the same of one tree among those of a list of roots: all other trees and the freelist stay
abbrev pub WholeReplaced : Type 0
WholeReplaced = (old new : Pages) (roots : List ℕ) (before behind : List Tree) (tree : Tree) (trunks : List Trunk) (at : ℕ) (rows : List Row) →
    IsWholeFor old roots (before ++ tree ∷ behind) trunks → ReplacesLeaf old new tree at rows →
    NewChains (named_pages roots (before ++ tree ∷ behind) trunks) (leaf_rows at tree) rows →
    Keeps old new (λ page. Among (named_pages roots (before ++ with_leaf at rows tree ∷ behind) trunks) page × ¬ (Among (at ∷ chains_of rows) page)) →
    KeepsHeader old new → new.size ≡ old.size → IsWholeFor new roots (before ++ with_leaf at rows tree ∷ behind) trunks

-- a whole database has one schema tree, one list of its rows and tables, one tree for each table, and one freelist
abbrev pub OneWitness : Type 0
OneWitness = (pages : Pages) (schema schema' : Tree) (rows rows' : List (List Value)) (found found' : List (Option Table)) (trees trees' : List Tree)
    (trunks trunks' : List Trunk) → IsWholeDatabase pages schema rows found trees trunks → IsWholeDatabase pages schema' rows' found' trees' trunks' →
    (schema ≡ schema') × (rows ≡ rows') × (found ≡ found') × (trees ≡ trees') × (trunks ≡ trunks')
