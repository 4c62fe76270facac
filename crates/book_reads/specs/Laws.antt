-- What reads of whole pages give, by the book.
use Rattle.std.specs.Prelude.{◌≡◌, ◌⊎◌, ℕ, ℤ, pos, ◌+ℤ◌, ◌<ℤ◌, ◌≤ℤ◌, not, true, false, ◌&&◌, List, [], ◌∷◌, length, map, Option, Some, None, is_some}
use Rattle.std.specs.Str.{str_eq_ignore_ascii_case}
use Rattle.std.specs.FinMap as map
use Rattle.page_list.specs.Pages.{Pages}
use Rattle.db_format.specs.Create.{IsIdentifier}
use Rattle.db_format.specs.declared.plain.PlainTable.{PlainTable}
use Rattle.db_format.specs.declared.value.Value.{Value}
use Rattle.tree_model.specs.Whole.{greatest}
use Rattle.tree_model.specs.declared.ends.Fault.{Fault}
use Rattle.tree_model.specs.declared.ends.PathEnd.TheVariants.{Ends}
use Rattle.tree_model.specs.declared.ends.WalkEnd.{WalkEnd}
use Rattle.tree_model.specs.declared.ends.WalkEnd.TheVariants.{End}
use Rattle.tree_model.specs.Walk.{Path}
use Rattle.book_model.specs.Book.{Name, Book, table_of, table_at, is_plain, foreign_names, is_foreign, taken as taken_of, is_taken}
use Rattle.book_model.specs.Pages.{IsBookOf, IsBook}
use Rattle.book_reads.specs.Reads.{least, ReadsRows, ReadsNext, HasRowOf, HasSchema, SchemaMeets, SchemaSays, IsEntry, plain_named, is_named, not_plain, shown_row, rows_between, values_at, said, kept, listed, tables_listed}

-- ---- of any pages

-- each read has one answer
pub record OneReading : Type 0 where
  pub rows : (columns : ℕ) (pages : Pages) (root : ℕ) (low high : ℤ) (some more : List (ℤ × List Value)) (a b : WalkEnd) →
      ReadsRows columns pages root low high some a → ReadsRows columns pages root low high more b → (some ≡ more) × (a ≡ b)
  pub row : (columns : ℕ) (pages : Pages) (root : ℕ) (rowid : ℤ) (a b : Option (List Value)) → HasRowOf columns pages root rowid a → HasRowOf columns pages root rowid b → a ≡ b
  pub no_fault : (columns : ℕ) (pages : Pages) (root : ℕ) (rowid : ℤ) (a : Option (List Value)) (fault : Fault) → HasRowOf columns pages root rowid a → ¬ (Path (Some columns) pages root rowid (Ends fault))
  pub next : (columns : ℕ) (pages : Pages) (root : ℕ) (high key : ℤ) (a b : ℤ × List Value) → ReadsNext columns pages root high key a → ReadsNext columns pages root high key b → a ≡ b
  pub schema : (pages : Pages) (some more : List (ℤ × List Value)) → HasSchema pages some → HasSchema pages more → some ≡ more
  pub not_both : (pages : Pages) (rows : List (ℤ × List Value)) (fault : Fault) → HasSchema pages rows → ¬ (SchemaMeets pages fault)
  pub meets : (pages : Pages) (a b : Fault) → SchemaMeets pages a → SchemaMeets pages b → a ≡ b
  pub says : (pages : Pages) (p q : List PlainTable) (f g s t : List Name) → SchemaSays pages p f s → SchemaSays pages q g t → (p ≡ q) × (f ≡ g) × (s ≡ t)
  pub entry : (size : ℕ) (rows : List (ℤ × List Value)) (name : Name) (a b : ℤ) → IsEntry size rows name a → IsEntry size rows name b → a ≡ b

-- rows are read one after the other: a first one, and those from the rowid behind it on
pub record RowByRow : Type 0 where
  pub first : (columns : ℕ) (pages : Pages) (root : ℕ) (low high : ℤ) (row : ℤ × List Value) (more : List (ℤ × List Value)) (end : WalkEnd) →
      ReadsRows columns pages root low high (row ∷ more) end →
      (low ≤ℤ high) × ReadsNext columns pages root high low row × (((row.0 ≡ high) × (more ≡ []) × (end ≡ End)) ⊎ ((row.0 <ℤ high) × ReadsRows columns pages root (row.0 +ℤ pos 1) high more end))
  pub last : (columns : ℕ) (pages : Pages) (root : ℕ) (low high : ℤ) (row : ℤ × List Value) →
      low ≤ℤ high → ReadsNext columns pages root high low row → row.0 ≡ high → ReadsRows columns pages root low high (row ∷ []) End
  pub longer : (columns : ℕ) (pages : Pages) (root : ℕ) (low high : ℤ) (row : ℤ × List Value) (more : List (ℤ × List Value)) (end : WalkEnd) →
      low ≤ℤ high → ReadsNext columns pages root high low row → row.0 <ℤ high → ReadsRows columns pages root (row.0 +ℤ pos 1) high more end → ReadsRows columns pages root low high (row ∷ more) end
  -- a row that is found first is the first
  pub begins : (columns : ℕ) (pages : Pages) (root : ℕ) (low high : ℤ) (row : ℤ × List Value) (rows : List (ℤ × List Value)) (end : WalkEnd) →
      low ≤ℤ high → ReadsNext columns pages root high low row → ReadsRows columns pages root low high rows end → (more : List (ℤ × List Value)) × (rows ≡ row ∷ more)

-- ---- of pages with a book

-- the schema has the rows of the book's schema, and its walk meets no fault
pub record SchemaRead : Type 0 where
  pub has : (page_size : ℕ) (pages : Pages) (book : Book) → IsBook page_size pages book → HasSchema pages (map shown_row (map.entries book.schema))
  pub rows : (page_size : ℕ) (pages : Pages) (book : Book) → IsBook page_size pages book → (rows : List (ℤ × List Value)) → HasSchema pages rows → rows ≡ map shown_row (map.entries book.schema)
  pub values : (pages : Pages) (book : Book) → (is : IsBookOf pages book) → (rows : List (ℤ × List Value)) → HasSchema pages rows → map (λ row. row.1) rows ≡ is.rows
  pub no_fault : (page_size : ℕ) (pages : Pages) (book : Book) → IsBook page_size pages book → (fault : Fault) → ¬ (SchemaMeets pages fault)

-- what the schema says is what the book says
pub record MeansBook (book : Book) (plain : List PlainTable) (foreign taken : List Name) : Type 0 where
  -- the plain tables by name, with their columns
  pub tables : map said plain ≡ map kept (map.entries book.tables)
  -- the names of the others
  pub foreign_are : foreign ≡ book.foreign
  pub not_plain_are : not_plain plain foreign ≡ foreign_names book
  pub listed_are : listed (map said plain) (not_plain plain foreign) ≡ tables_listed book
  pub taken_are : taken ≡ taken_of book

-- what a name stands for is what it stands for in the book
pub record MeansName (book : Book) (plain : List PlainTable) (foreign taken : List Name) (name : Name) : Type 0 where
  -- a plain table that is found is in the book by its own name
  pub found : (table : PlainTable) → plain_named plain name ≡ Some table →
      (str_eq_ignore_ascii_case name table.name ≡ true) × (table_of book table.name ≡ Some (table_at book table.name)) × ((table_at book table.name).columns ≡ table.create.columns)
  -- where none is found, none has the name
  pub none : plain_named plain name ≡ None → is_plain book name ≡ false
  -- a foreign one counts where no plain one is found
  pub foreign_is : is_foreign book name ≡ (not (is_some (plain_named plain name)) && is_named foreign name)
  pub taken_is : is_taken book name ≡ is_named taken name
  -- a name of small letters finds none but that of just this name
  pub same : IsIdentifier name → (table : PlainTable) → plain_named plain name ≡ Some table → (table.name ≡ name) × (table_of book name ≡ Some (table_at book name))
  pub plain_is : IsIdentifier name → is_plain book name ≡ is_some (plain_named plain name)

pub record TablesRead : Type 0 where
  pub tables : (page_size : ℕ) (pages : Pages) (book : Book) (plain : List PlainTable) (foreign taken : List Name) → IsBook page_size pages book → SchemaSays pages plain foreign taken → MeansBook book plain foreign taken
  pub names : (page_size : ℕ) (pages : Pages) (book : Book) (plain : List PlainTable) (foreign taken : List Name) → IsBook page_size pages book → SchemaSays pages plain foreign taken → (name : Name) →
      MeansName book plain foreign taken name
  -- the row of the schema that makes a plain table is the one that the book has for it
  pub entry : (page_size : ℕ) (pages : Pages) (book : Book) (rows : List (ℤ × List Value)) → IsBook page_size pages book → HasSchema pages rows → (name : Name) (entry : ℤ) →
      IsEntry pages.size rows name entry → (table_at book name).entry ≡ entry

-- a plain table is found by a name in the schema of pages that have a book
pub record IsFound (page_size : ℕ) (pages : Pages) (book : Book) (name : Name) (table : PlainTable) : Type 0 where
  pub is_book : IsBook page_size pages book
  pub plain : List PlainTable
  pub foreign : List Name
  pub taken : List Name
  pub says : SchemaSays pages plain foreign taken
  pub finds : plain_named plain name ≡ Some table

-- the path to a rowid finds just its row in the book, filled up, or none, and meets no fault
pub record RowRead : Type 0 where
  pub has : (page_size : ℕ) (pages : Pages) (book : Book) (name : Name) (table : PlainTable) → IsFound page_size pages book name table → (rowid : ℤ) →
      HasRowOf (length table.create.columns) pages table.root rowid (values_at (table_at book table.name).rows rowid)
  pub is : (page_size : ℕ) (pages : Pages) (book : Book) (name : Name) (table : PlainTable) → IsFound page_size pages book name table → (rowid : ℤ) (values : Option (List Value)) →
      HasRowOf (length table.create.columns) pages table.root rowid values → values ≡ values_at (table_at book table.name).rows rowid
  pub no_fault : (page_size : ℕ) (pages : Pages) (book : Book) (name : Name) (table : PlainTable) → IsFound page_size pages book name table → (rowid : ℤ) (fault : Fault) →
      ¬ (Path (Some (length table.create.columns)) pages table.root rowid (Ends fault))

-- the walk between two rowids gives just the rows of the book between them, and ends without a fault; over all rowids as many as there are;
-- a row that is found first from a rowid on is the first of them
pub record RowsRead : Type 0 where
  pub has : (page_size : ℕ) (pages : Pages) (book : Book) (name : Name) (table : PlainTable) → IsFound page_size pages book name table → (low high : ℤ) → least ≤ℤ low →
      ReadsRows (length table.create.columns) pages table.root low high (rows_between low high (table_at book table.name).rows) End
  pub are : (page_size : ℕ) (pages : Pages) (book : Book) (name : Name) (table : PlainTable) → IsFound page_size pages book name table → (low high : ℤ) → least ≤ℤ low →
      (rows : List (ℤ × List Value)) (end : WalkEnd) → ReadsRows (length table.create.columns) pages table.root low high rows end → (rows ≡ rows_between low high (table_at book table.name).rows) × (end ≡ End)
  pub count : (page_size : ℕ) (pages : Pages) (book : Book) (name : Name) (table : PlainTable) → IsFound page_size pages book name table →
      (rows : List (ℤ × List Value)) (end : WalkEnd) → ReadsRows (length table.create.columns) pages table.root least greatest rows end → length rows ≡ map.len (table_at book table.name).rows
  pub next : (page_size : ℕ) (pages : Pages) (book : Book) (name : Name) (table : PlainTable) → IsFound page_size pages book name table → (low high : ℤ) → least ≤ℤ low → low ≤ℤ high →
      (row : ℤ × List Value) → ReadsNext (length table.create.columns) pages table.root high low row →
      rows_between low high (table_at book table.name).rows ≡ row ∷ rows_between (row.0 +ℤ pos 1) high (table_at book table.name).rows
