-- What follows for books.
use Rattle.std.specs.Prelude.{◌≡◌, ℕ, ◌<◌, ◌^◌, List, ◌∷◌, length, map, codes, IsTrue}
use Rattle.std.specs.List.{list_any, Contains, AllByRecursion, IsDistinct}
use Rattle.std.specs.Str.{str_eq_ignore_ascii_case}
use Rattle.page_list.specs.Pages.{Pages, HasPage, SamePage, Among}
use Rattle.db_format.specs.Record.{IsRecord, IsShortest, AreBytes}
use Rattle.db_format.specs.Schema.{Table as Found, IsPlainRow, tables_in}
use Rattle.db_format.specs.declared.value.Value.{Value}
use Rattle.db_format.specs.declared.value.Value.TheVariants.{Text}
use Rattle.tree_model.specs.Database.{IsWhole}
use Rattle.tree_model.specs.Need.{need, use_of as pages_in_use}
use Rattle.book_model.specs.Size.{types_size, record_size}
use Rattle.book_model.specs.Book.{Name, Book, use_of, need_of}
use Rattle.book_model.specs.Pages.{IsBookOf, IsBook}

-- whole pages have a book, and one alone; pages that are not whole have none
pub record BookOfPages : Type 0 where
  pub has : (page_size : ℕ) (pages : Pages) → IsWhole pages → (book : Book) × IsBook page_size pages book
  pub one : (page_size : ℕ) (pages : Pages) (a b : Book) → IsBook page_size pages a → IsBook page_size pages b → a ≡ b
  pub whole : (page_size : ℕ) (pages : Pages) (book : Book) → IsBook page_size pages book → IsWhole pages

-- the book of pages whose named pages hold what they held says the same, and of the others their bytes
abbrev pub BookStays : Type 0
BookStays = (old new : Pages) (book : Book) → IsBookOf old book → new.size ≡ old.size → new.usable ≡ old.usable →
    ((n : ℕ) → HasPage old n → ¬ (Among (map (λ page. page.0) book.unnamed) n) → SamePage old new n) →
    IsBookOf new (record book { unnamed = map (λ page. (page.0, new.bytes page.0)) book.unnamed })

-- what a book counts is what the trees count: the pages in use, and those that may be needed
pub record BookCounts : Type 0 where
  pub in_use : (pages : Pages) (book : Book) → (is : IsBookOf pages book) → use_of book ≡ pages_in_use (1 ∷ map (λ table. table.root) (tables_in is.found)) (is.schema ∷ is.trees)
  pub needed : (pages : Pages) (book : Book) → (is : IsBookOf pages book) → need_of book ≡ need book.usable (1 ∷ map (λ table. table.root) (tables_in is.found)) (is.schema ∷ is.trees)

-- the shortest record of some values has this size
abbrev pub RecordHasSize : Type 0
RecordHasSize = (payload : List ℕ) (values : List Value) → types_size values < 2 ^ 14 → AreBytes payload → IsRecord payload values → IsShortest payload values → length payload ≡ record_size values

-- a row of the schema is that of a table of this name, and makes no plain table
pub record IsForeignRow (size : ℕ) (schema : List (List Value)) (name : Name) (values : List Value) : Type 0 where
  pub more : List Value
  pub values_are : values ≡ Text (codes "table") ∷ Text name ∷ more
  pub not_plain : (table : Found) → ¬ (IsPlainRow size schema values table)

-- the schema has such a row
pub record HasForeignRow (size : ℕ) (schema : List (List Value)) (name : Name) : Type 0 where
  pub values : List Value
  pub among : Contains schema values
  pub is : IsForeignRow size schema name values

-- the foreign names are those of such rows, each of these in some spelling, and no two of them are one but for the case of ASCII letters
pub record ForeignNames : Type 0 where
  pub differ : (pages : Pages) (book : Book) → IsBookOf pages book → IsDistinct str_eq_ignore_ascii_case book.foreign
  pub each : (pages : Pages) (book : Book) → (is : IsBookOf pages book) → AllByRecursion (HasForeignRow pages.size is.rows) book.foreign
  pub every : (pages : Pages) (book : Book) → (is : IsBookOf pages book) → (name : Name) → HasForeignRow pages.size is.rows name →
      IsTrue (list_any (str_eq_ignore_ascii_case name) book.foreign)
