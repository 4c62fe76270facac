-- The plain tables of a book, by the rows of the schema and by name.
use Rattle.std.specs.Prelude.{◌≡◌, true, List}
use Rattle.std.specs.List.{Contains}
use Rattle.page_list.specs.Pages.{Pages}
use Rattle.db_format.specs.Schema.{Table, IsPlainRow, tables_in}
use Rattle.db_format.specs.declared.value.Value.{Value}
use Rattle.book_model.specs.Book.{Name, Book, table_at, is_plain}
use Rattle.book_model.specs.Pages.{IsBookOf}

-- a row of the schema that makes a plain table makes one of those that the book has; and the book has a table of a name just where there
-- is such a one, with its columns
pub record TablesAreFound : Type 0 where
  pub by_row : (pages : Pages) (book : Book) (is : IsBookOf pages book) (values : List Value) (table : Table) → Contains is.rows values → IsPlainRow pages.size is.rows values table →
      Contains (tables_in is.found) table
  pub by_name : (pages : Pages) (book : Book) (is : IsBookOf pages book) (name : Name) → is_plain book name ≡ true →
      (table : Table) × Contains (tables_in is.found) table × (table.create.name ≡ name)
  pub there : (pages : Pages) (book : Book) (is : IsBookOf pages book) (table : Table) → Contains (tables_in is.found) table →
      (is_plain book table.create.name ≡ true) × ((table_at book table.create.name).columns ≡ table.create.columns)
