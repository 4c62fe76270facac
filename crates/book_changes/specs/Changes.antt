-- What the book of whole pages is after a change.
use Rattle.std.specs.Prelude.{◌≡◌, ◌≢◌, ℕ}
use Rattle.page_list.specs.Pages.{Pages, SamePage, word}
use Rattle.page_list.specs.Freelist.{first_trunk, free_count}
use Rattle.tree_laws.specs.Front.{FrontChanges}
use Rattle.book_model.specs.Book.{Book, IsSized}
use Rattle.book_model.specs.Pages.{IsBookOf}

-- the pages have this book, with their own number of pages and some number of them free, and the numbers of pages are such as a change
-- of the old book may leave
pub record Becomes (old : Book) (new : Pages) (after : Book) : Type 0 where
  pub free : ℕ
  pub is_book : IsBookOf new (record after { pages = new.size; free = free })
  pub sized : IsSized old (record after { pages = new.size; free = free })

-- the schema cookie is another, and of the rest of the header no more than what says the size: the change counter and the freelist stay
-- (section 1.3.9); all other pages are the same
pub record CookieChanges (old new : Pages) : Type 0 where
  pub size : new.size ≡ old.size
  pub used : new.usable ≡ old.usable
  pub front : FrontChanges old new
  pub counter : word new 1 24 ≡ word old 1 24
  pub trunk : first_trunk new ≡ first_trunk old
  pub count : free_count new ≡ free_count old
  pub others : (n : ℕ) → n ≢ 1 → SamePage old new n
