-- The numbers of pages that a changed book may have.
use Rattle.std.proofs.Common.{◌≡◌, length, arith, ap}
use Rattle.book_model.specs.Book.{Book, IsSized}
use Rattle.ref_book.specs.Steps.{emptied}

-- every page may be free that is not one that nothing names
pub emptied_is_sized : (old new : Book) → new.pages ≡ old.pages → new.unnamed ≡ old.unnamed → IsSized old (emptied new)
emptied_is_sized old new pages unnamed = record {
  fits = omega arith;
  keeps = omega arith;
  needed = omega arith;
  bounded = omega (arith, ap length unnamed);
}
