-- How a shelf's book changes.
use Rattle.std.specs.Prelude.{◌≡◌, ℕ, ◌+◌, nat_le, Bool, length}
use Rattle.book_model.specs.Book.{Book, IsSized, use_of, need_of}
use Rattle.shell_model.specs.Cases.{too_many}

-- a book becomes this one, which may depend on the root page of a table that is made, with numbers of pages that it
-- may have
pub record Becomes (old : Book) (changed : ℕ → Book) (new : Book) : Type 0 where
  pub root : ℕ
  pub pages : ℕ
  pub free : ℕ
  pub is : new ≡ record (changed root) { pages = pages; free = free }
  pub sized : IsSized old new

-- a change of a book into another may pass the greatest database
abbrev pub passes : Book → Book → Bool
passes old new = nat_le (too_many old) (length old.unnamed + use_of old + need_of new)
