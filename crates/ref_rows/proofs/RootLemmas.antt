-- Which root pages make rows of one size.
use Rattle.std.proofs.Common.{◌≡◌, ℕ, ◌==◌, ◌+◌, ◌^◌, ℤ, pos, nat_lt, Bool, true, false, if◌then◌else◌, List, [], ◌∷◌, length, unwrap_or, codes, refl, sym, ap₂, ◌∙◌, arith}
use Rattle.std.specs.List.{Contains}
use Rattle.std.specs.Int.{w64}
use Rattle.byteorder.specs.Endian.{low_bytes}
use Rattle.byteorder.specs.Numbers.{length-bytes_high_first}
use Rattle.db_format.specs.Record.{content_size}
use Rattle.db_format.specs.Writing.{least_type, int_type, int_content, written_type, written_content}
use Rattle.db_format.specs.Create.{written}
use Rattle.db_format.specs.declared.value.Value.{Value}
use Rattle.db_format.specs.declared.value.Value.TheVariants.{Int, Text}
use Rattle.book_model.specs.Book.{Name, entry_row}
use Rattle.book_model.specs.Size.{varint_size, header_size, record_size}
use Rattle.ref_rows.specs.Roots.{roots, RootsOfEachSize}

-- an integer has as many bytes as its type says
long : (n : ℤ) → length (int_content n) ≡ unwrap_or (content_size (int_type n)) 0
long n = length-bytes_high_first (unwrap_or (content_size (int_type n)) 0) (low_bytes w64 (unwrap_or (content_size (int_type n)) 0) n)

-- a record depends on a value only by the bytes of its type and of its content
same_size : (kind name text v w : Value) → varint_size (written_type v) ≡ varint_size (written_type w) → length (written_content v) ≡ length (written_content w) →
    record_size (kind ∷ name ∷ name ∷ v ∷ text ∷ []) ≡ record_size (kind ∷ name ∷ name ∷ w ∷ text ∷ [])
unfolding record_size
same_size kind name text v w type content =
    let size = λ (x : Value). varint_size (written_type x) in
    let long = λ (x : Value). length (written_content x) in
    ap₂ (λ (t c : ℕ). header_size (0 + size kind + size name + size name + t + size text) + (0 + long kind + long name + long name + c + long text)) type content

as_large : (r root : ℕ) → varint_size (int_type (pos r)) ≡ varint_size (int_type (pos root)) → length (int_content (pos r)) ≡ length (int_content (pos root)) →
    (name : Name) (columns : List Name) → (entry_row name columns r).size ≡ (entry_row name columns root).size
as_large r root type content name columns =
    same_size (Text (codes "table")) (Text name) (Text (written (record { name = name; columns = columns }))) (Int (pos r)) (Int (pos root)) type content

-- a root whose number is spelled in as many bytes as a number of this type
record HasLike (type : ℕ) : Type 0 where
  like : ℕ
  among : Contains roots like
  spelled : varint_size (int_type (pos like)) ≡ varint_size type
  held : unwrap_or (content_size (int_type (pos like))) 0 ≡ unwrap_or (content_size type) 0

by_size : (a b c d e : Bool) → HasLike (if a then 1 else (if b then 2 else (if c then 3 else (if d then 4 else (if e then 5 else 6)))))
by_size true b c d e = record { like = 2; among = (1, omega arith, refl); spelled = refl; held = refl }
by_size false true c d e = record { like = 2 ^ 7; among = (2, omega arith, refl); spelled = refl; held = refl }
by_size false false true d e = record { like = 2 ^ 15; among = (3, omega arith, refl); spelled = refl; held = refl }
by_size false false false true e = record { like = 2 ^ 23; among = (4, omega arith, refl); spelled = refl; held = refl }
by_size false false false false true = record { like = 2 ^ 31; among = (5, omega arith, refl); spelled = refl; held = refl }
by_size false false false false false = record { like = 2 ^ 47; among = (6, omega arith, refl); spelled = refl; held = refl }

-- the types of 0 and 1 hold nothing
by_type : (zero one : Bool) (type : ℕ) → HasLike type → HasLike (if zero then 8 else (if one then 9 else type))
by_type true one type l = record { like = 0; among = (0, omega arith, refl); spelled = refl; held = refl }
by_type false true type l = record { like = 0; among = (0, omega arith, refl); spelled = refl; held = refl }
by_type false false type l = l

has_like : (root : ℕ) → HasLike (int_type (pos root))
has_like n = by_type (n == 0) (n == 1) (least_type n) (by_size (nat_lt n (2 ^ 7)) (nat_lt n (2 ^ 15)) (nat_lt n (2 ^ 23)) (nat_lt n (2 ^ 31)) (nat_lt n (2 ^ 47)))

pub roots_of_each_size : RootsOfEachSize
roots_of_each_size root =
    let l = has_like root in
    record { like = l.like; among = l.among; same = as_large l.like root l.spelled (long (pos l.like) ∙ l.held ∙ sym (long (pos root))) }
