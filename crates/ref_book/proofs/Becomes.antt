-- What a change makes of a book.
use Rattle.std.proofs.Common.{◌≡◌, ℕ, ℤ, sym, subst, List, Result, Ok, Err, IfOk}
use Rattle.std.specs.FinMap.{FinMap, insert}
use Rattle.std.specs.Ordering.{nat_cmp, int_cmp}
use Rattle.std.specs.Cmp.Lexicographic.{slice_cmp}
use Rattle.book_model.specs.Book.{Book, Name, Row, Table, IsSized}
use Rattle.ref_shell.specs.Shelf.{Becomes}
use Rattle.ref_book.specs.Steps.{emptied}
use Rattle.ref_book.proofs.Sizes.{emptied_is_sized}

pub mapped : {A E : Type 0} {P Q : A → Type 0} (r : Result A E) → ((x : A) → P x → Q x) → IfOk r P → IfOk r Q
mapped (Ok x) f p = f x p
mapped (Err e) f p = p

pub becomes : (old : Book) (changed : ℕ → Book) (new : Book) (root : ℕ) → (changed root).pages ≡ old.pages → (changed root).unnamed ≡ old.unnamed → new ≡ emptied (changed root) → Becomes old changed new
becomes old changed new root pages unnamed is = record {
  root = root;
  pages = (emptied (changed root)).pages;
  free = (emptied (changed root)).free;
  is = is;
  sized = subst (λ (b : Book). IsSized old b) (sym is) (emptied_is_sized old (changed root) pages unnamed);
}

-- the book with another table of a name
abbrev pub with_table_of : Book → Name → Table → Book
with_table_of book name table = record book { tables = insert book.tables name table }

-- and with other maps
abbrev pub with_maps : Book → FinMap (slice_cmp nat_cmp) Table → FinMap int_cmp Row → Book
with_maps book tables schema = record book { tables = tables; schema = schema }

pub table_is : {columns columns' : List Name} {entry entry' : ℤ} {rows rows' : FinMap int_cmp Row} → columns ≡ columns' → entry ≡ entry' → rows ≡ rows' →
    ◌≡◌ {A = Table} (record { columns = columns; entry = entry; rows = rows }) (record { columns = columns'; entry = entry'; rows = rows' })
table_is c e r = λ i. record { columns = c i; entry = e i; rows = r i }
