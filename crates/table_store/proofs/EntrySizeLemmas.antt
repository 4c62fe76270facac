-- How many bytes the row of a plain table in the schema takes.
use Rattle.std.proofs.Common.{◌≡◌, ℕ, ◌+◌, ◌*◌, ◌^◌, ◌≤◌, nat_lt, ◌==◌, pos, Bool, true, false, cond, List, [], ◌∷◌, ◌++◌, length, get_or, codes, sum_by, arith, length-append}
use Rattle.std.specs.Prelude.{unwrap_or, All}
use Rattle.std.specs.List.{join_with_byte}
use Rattle.std.specs.Int.{w64}
use Rattle.std.proofs.lemmas.List.Sums.{sum_by-le}
use Rattle.std.proofs.lemmas.List.Elements.{All-head, All-tail}
use Rattle.byteorder.specs.Endian.{low_bytes}
use Rattle.byteorder.specs.Numbers.{length-bytes_high_first}
use Rattle.db_format.specs.Create.{IsIdentifier, IsPlain, written}
use Rattle.db_format.specs.Record.{IsRecord, IsShortest, AreBytes, content_size}
use Rattle.db_format.specs.Writing.{least_type, int_type, int_content, written_type, written_content}
use Rattle.db_format.specs.declared.create.Create.{Create}
use Rattle.db_format.specs.declared.value.Value.{Value}
use Rattle.book_model.specs.Book.{Name, entry_row}
use Rattle.book_model.specs.Size.{varint_size, types_size, header_size, record_size}
use Rattle.book_model.specs.Laws.{RecordHasSize}

-- ---- the integer

abbrev type_long : ℕ → ℕ
type_long serial = unwrap_or (content_size serial) 0

either_long : (b : Bool) (x y : ℕ) → type_long x ≤ 8 → type_long y ≤ 8 → type_long (cond b x y) ≤ 8
either_long true x y p q = p
either_long false x y p q = q

least_long : (n : ℕ) → type_long (least_type n) ≤ 8
least_long n =
    either_long (nat_lt n (2 ^ 7)) 1 _ (omega arith) (either_long (nat_lt n (2 ^ 15)) 2 _ (omega arith) (either_long (nat_lt n (2 ^ 23)) 3 _ (omega arith)
    (either_long (nat_lt n (2 ^ 31)) 4 _ (omega arith) (either_long (nat_lt n (2 ^ 47)) 5 6 (omega arith) (omega arith)))))

int_long : (n : ℕ) → length (int_content (pos n)) ≤ 8
int_long n =
    let few : type_long (int_type (pos n)) ≤ 8 = either_long (n == 0) 8 _ (omega arith) (either_long (n == 1) 9 _ (omega arith) (least_long n)) in
    omega (arith, few, length-bytes_high_first (type_long (int_type (pos n))) (low_bytes w64 (type_long (int_type (pos n))) (pos n)))

-- ---- the text

columns_long : (columns : List Name) → All IsIdentifier columns → length (join_with_byte 44 columns) ≤ 65 * length columns
columns_long [] each = omega arith
columns_long (x ∷ []) each = let short = (All-head IsIdentifier x [] each).short in omega (arith, short)
columns_long (x ∷ y ∷ more) each =
    let short = (All-head IsIdentifier x (y ∷ more) each).short in
    omega (arith, short, columns_long (y ∷ more) (All-tail IsIdentifier x (y ∷ more) each), length-append x (44 ∷ join_with_byte 44 (y ∷ more)))

text_long : (table : Create) → IsPlain table → length (written table) ≤ 2200
text_long table plain =
    let inside : List ℕ = join_with_byte 44 table.columns in
    let named = plain.named.short in
    let few = plain.columned.few in
    omega (
      arith,
      named,
      few,
      columns_long table.columns plain.columned.each,
      length-append (codes "CREATE TABLE ") (table.name ++ (codes "(" ++ (inside ++ codes ")"))),
      length-append table.name (codes "(" ++ (inside ++ codes ")")),
      length-append (codes "(") (inside ++ codes ")"),
      length-append inside (codes ")"),
    )

-- ---- the types

either_le : (b : Bool) (x y m : ℕ) → x ≤ m → y ≤ m → cond b x y ≤ m
either_le true x y m p q = p
either_le false x y m p q = q

nine_le : (n : ℕ) → varint_size n ≤ 9
nine_le n =
    either_le (nat_lt n (2 ^ 7)) 1 _ 9 (omega arith) (either_le (nat_lt n (2 ^ 14)) 2 _ 9 (omega arith) (either_le (nat_lt n (2 ^ 21)) 3 _ 9 (omega arith)
    (either_le (nat_lt n (2 ^ 28)) 4 _ 9 (omega arith) (either_le (nat_lt n (2 ^ 35)) 5 _ 9 (omega arith) (either_le (nat_lt n (2 ^ 42)) 6 _ 9 (omega arith)
    (either_le (nat_lt n (2 ^ 49)) 7 _ 9 (omega arith) (either_le (nat_lt n (2 ^ 56)) 8 9 9 (omega arith) (omega arith))))))))

types_few : (values : List Value) → types_size values ≤ length values * 9
types_few values = sum_by-le (λ (v : Value). varint_size (written_type v)) 9 values (λ k d within. nine_le (written_type (get_or values k d)))

-- ---- the row

record_few : (values : List Value) → types_size values ≤ 45 → record_size values ≤ 48 + sum_by (λ (v : Value). length (written_content v)) values
unfolding record_size
record_few values few = header_few (types_size values) _ few
  where
    header_few : (types contents : ℕ) → types ≤ 45 → header_size types + contents ≤ 48 + contents
    header_few types contents few = omega (arith, either_le (nat_lt (types + 1) (2 ^ 7)) (types + 1) _ 48 (omega arith) (either_le (nat_lt (types + 2) (2 ^ 14)) (types + 2) (types + 3) 48 (omega arith) (omega arith)))

-- the payload of the row is as long as the row says, and short
pub record EntrySized (table : Create) (number : ℕ) (payload : List ℕ) : Type 0 where
  pub is : length payload ≡ record_size (entry_row table.name table.columns number).values
  pub few : length payload ≤ 4096

pub entry_sized : RecordHasSize → (table : Create) (number : ℕ) (payload : List ℕ) → IsPlain table → AreBytes payload → IsRecord payload (entry_row table.name table.columns number).values
    → IsShortest payload (entry_row table.name table.columns number).values → EntrySized table number payload
entry_sized has table number payload plain bytes is_record shortest =
    let values : List Value = (entry_row table.name table.columns number).values in
    let types : types_size values ≤ 45 = types_few values in
    let size = has payload values (omega (arith, types)) bytes is_record shortest in
    record { is = size; few = omega (arith, size, record_few values types, plain.named.short, text_long table plain, int_long number) }
