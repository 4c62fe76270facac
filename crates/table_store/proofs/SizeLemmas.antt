-- How many bytes the record of values takes none of which is too long.
use Rattle.std.proofs.Common.{◌≡◌, ℕ, ◌+◌, ◌*◌, ◌^◌, ◌≤◌, ◌<◌, nat_lt, ◌==◌, ℤ, pos, negsuc, Bool, true, false, cond, ◌||◌, List, [], ◌∷◌, length, refl, sym, arith, true≢false}
use Rattle.std.specs.List.{list_any, All}
use Rattle.std.proofs.lemmas.Bool.Decides.{nat_tests}
use Rattle.std.proofs.lemmas.List.Sums.{sum_by-le}
use Rattle.std.proofs.lemmas.List.Elements.{All-cons}
use Rattle.db_format.specs.declared.value.Value.{Value}
use Rattle.db_format.specs.declared.value.Value.TheVariants.{Null, Int, Text, Blob, Real}
use Rattle.db_format.specs.Record.{IsRecord, IsShortest, AreBytes}
use Rattle.db_format.specs.Writing.{least_type, int_type, written_type}
use Rattle.book_model.specs.Size.{varint_size, types_size, record_size}
use Rattle.book_model.specs.Laws.{RecordHasSize}
use Rattle.table_store.specs.Writes.{is_long}

either_le : (b : Bool) (x y m : ℕ) → x ≤ m → y ≤ m → cond b x y ≤ m
either_le true x y m p q = p
either_le false x y m p q = q

least_le : (n : ℕ) → least_type n ≤ 9
least_le n =
    either_le (nat_lt n (2 ^ 7)) 1 _ 9 (omega arith) (either_le (nat_lt n (2 ^ 15)) 2 _ 9 (omega arith) (either_le (nat_lt n (2 ^ 23)) 3 _ 9 (omega arith)
    (either_le (nat_lt n (2 ^ 31)) 4 _ 9 (omega arith) (either_le (nat_lt n (2 ^ 47)) 5 6 9 (omega arith) (omega arith)))))

int_le : (z : ℤ) → int_type z ≤ 9
int_le (pos n) = either_le (n == 0) 8 _ 9 (omega arith) (either_le (n == 1) 9 _ 9 (omega arith) (least_le n))
int_le (negsuc n) = least_le n

three_le : (n : ℕ) → n < 2097152 → varint_size n ≤ 3
three_le n few =
    either_le (nat_lt n (2 ^ 7)) 1 _ 3 (omega arith) (either_le (nat_lt n (2 ^ 14)) 2 _ 3 (omega arith) (last (nat_lt n (2 ^ 21)) _ (grind (arith, nat_tests, few))))
  where
    last : (b : Bool) (x : ℕ) → b ≡ true → cond b 3 x ≤ 3
    last true x is = omega arith
    last false x is = absurd (true≢false (sym is))

type_le : (value : Value) → is_long value ≡ false → varint_size (written_type value) ≤ 3
type_le Null short = three_le 0 (omega arith)
type_le (Int n) short = let small = int_le n in three_le (int_type n) (omega (arith, small))
type_le (Text bytes) short = three_le (13 + 2 * length bytes) (let few : length bytes ≤ 65536 = grind (arith, nat_tests, short) in omega (arith, few))
type_le (Blob bytes) short = three_le (12 + 2 * length bytes) (let few : length bytes ≤ 65536 = grind (arith, nat_tests, short) in omega (arith, few))
type_le (Real bits) short = three_le 7 (omega arith)

both_false : (a b : Bool) → (a || b) ≡ false → (a ≡ false) × (b ≡ false)
both_false true b e = absurd (true≢false e)
both_false false b e = (refl, e)

types_le : (values : List Value) → list_any is_long values ≡ false → All (λ (v : Value). varint_size (written_type v) ≤ 3) values
types_le [] short = λ k d within. absurd (omega (arith, within))
types_le (v ∷ more) short =
    let both = both_false (is_long v) (list_any is_long more) short in
    All-cons (λ (v : Value). varint_size (written_type v) ≤ 3) v more (type_le v both.0) (types_le more both.1)

pub types_few : (values : List Value) → length values ≤ 32 → list_any is_long values ≡ false → types_size values < 2 ^ 14
types_few values few short = let most = sum_by-le (λ (v : Value). varint_size (written_type v)) 3 values (types_le values short) in omega (arith, most, few)

pub size_of_record : RecordHasSize → (payload : List ℕ) (values : List Value) → length values ≤ 32 → list_any is_long values ≡ false → AreBytes payload → IsRecord payload values
    → IsShortest payload values → length payload ≡ record_size values
size_of_record has payload values few short bytes is_record shortest = has payload values (types_few values few short) bytes is_record shortest
