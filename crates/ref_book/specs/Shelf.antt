-- The book that a shelf keeps.
use Rattle.std.specs.FinMap.{from_sorted}
use Rattle.book_model.specs.Book.{Book}
use Rattle.ref_book.specs.declared.shelf.MapShelf.{MapShelf}

-- the maps are those of the lists, and the numbers are as they stand
abbrev pub book_of : MapShelf → Book
book_of s = record {
  tables = from_sorted s.tables.items;
  foreign = s.foreign;
  schema = from_sorted s.schema.items;
  unnamed = s.unnamed.items;
  counter = s.numbers.counter;
  pages = s.numbers.pages;
  free = s.numbers.free;
  page = s.numbers.page;
  usable = s.numbers.usable;
}
