-- What the steps of a shelf say.
use Rattle.std.specs.Prelude.{◌-◌, max, length}
use Rattle.book_model.specs.Book.{Book}

-- a book in which every page is free that something may name
abbrev pub emptied : Book → Book
emptied book = record book { pages = max book.pages (length book.unnamed); free = max book.pages (length book.unnamed) - length book.unnamed }
