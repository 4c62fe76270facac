-- Laws of records as they are written: what is written stands for its value, and nothing shorter does.
use Rattle.std.proofs.Common.{◌≡◌, ℕ, zero, suc, ◌+◌, ◌-◌, ◌*◌, ◌/◌, ◌%◌, ◌^◌, ◌≤◌, ◌<◌, ℤ, pos, negsuc, ◌-ℤ◌, FitsSigned, List, [], ◌∷◌, ◌++◌, length, map, cond, eqb, Some, None, unwrap_or, get_or, ◌⊎◌, inl, inr, refl, sym, ap, subst, ◌∙◌, length-append, arith}
use Rattle.std.proofs.Math.Nat.{mod-eq_of_lt, pow-le-pow_right}
use Rattle.std.proofs.lemmas.Nat.{mod-mul-add}
use Rattle.std.proofs.lemmas.Bool.{cases_lt, cases_eq, lt-ltb, le-ltb, eq-eqb, ne_eqb}
use Rattle.std.proofs.lemmas.List.{append-nil, map_push}
use Rattle.std.proofs.lemmas.List.Concat.{flat_map-append}
use Rattle.std.specs.List.{flat_map, AllByRecursion}
use Rattle.std.proofs.lemmas.Int.{ints}
use Rattle.std.specs.Prelude.{slice_get}
use Rattle.std.specs.Int.{w64}
use Rattle.byteorder.specs.Endian.{big_bytes, big_number, low_bytes, twos_complement}
use Rattle.byteorder.specs.Numbers.{big_from-lt, big_number-reads_back, length-bytes_high_first}
use Rattle.db_format.specs.declared.value.Value.{Value}
use Rattle.db_format.specs.declared.value.Value.TheVariants.{Null, Int, Text, Blob, Real}
use Rattle.db_format.specs.Varint.{IsVarint, IsSize}
use Rattle.db_format.specs.Record.{sizes, content_size, value_of, Stands, Field, IsField, AreFields, HasParts, IsRecord, AreBytes, IsShortest}
use Rattle.db_format.proofs.VarintLemmas.{no_shorter, varint_room}
use Rattle.db_format.proofs.RecordLemmas.{varint_some}
use Rattle.db_format.specs.Writing.{least_type, int_type, int_content, written_type, written_content, IsWrittenType, AppendsVarint, IsWritten, AreTypes, IsHeaderSize}

-- the number without its sign
abbrev pub size_of : ℤ → ℕ
size_of (pos n) = n
size_of (negsuc n) = n

-- the low bytes of a negative number
neg_low : (w q n : ℕ) → 0 < q → n < w → (w * q - suc n) % w ≡ w - suc n
neg_low w zero n some small = absurd (omega arith)
neg_low w (suc q) n some small =
    let parts : w * suc q - suc n ≡ q * w + (w - suc n) = omega arith in
    ap (λ (x : ℕ). x % w) parts ∙ mod-mul-add q w (w - suc n) (omega arith)

-- a number that k bytes hold, as those bytes and back
pub record Back (k : ℕ) (n : ℤ) : Type 0 where
  pub fits : low_bytes w64 k n < 2 ^ (8 * k)
  pub again : twos_complement k (low_bytes w64 k n) ≡ n

pub back : (k q : ℕ) (n : ℤ) → 2 ^ 64 ≡ 2 ^ (8 * k) * q → 2 ^ (8 * k) ≡ 2 * 2 ^ (8 * k - 1) → 0 < q → size_of n < 2 ^ (8 * k - 1) → Back k n
back k q (pos n) e two some small =
    let low : n % 2 ^ (8 * k) ≡ n = mod-eq_of_lt (omega arith) in
    record {
      fits = rw low (omega arith);
      again = rw (low, lt-ltb n (2 ^ (8 * k - 1)) small) refl;
    }
back k q (negsuc n) e two some small =
    let low : (2 ^ 64 - suc n) % 2 ^ (8 * k) ≡ 2 ^ (8 * k) - suc n = ap (λ (x : ℕ). (x - suc n) % 2 ^ (8 * k)) e ∙ neg_low (2 ^ (8 * k)) q n some (omega arith) in
    record {
      fits = rw low (omega arith);
      again = rw (low, le-ltb (2 ^ (8 * k) - suc n) (2 ^ (8 * k - 1)) (omega arith)) (omega (arith, ints));
    }

-- ---- the serial type of an integer

-- what holds of each type where it is chosen holds of the chosen one
pub least_by : (Q : ℕ → Type 0) (n : ℕ) → (n < 2 ^ 7 → Q 1) → (2 ^ 7 ≤ n → n < 2 ^ 15 → Q 2) → (2 ^ 15 ≤ n → n < 2 ^ 23 → Q 3)
    → (2 ^ 23 ≤ n → n < 2 ^ 31 → Q 4) → (2 ^ 31 ≤ n → n < 2 ^ 47 → Q 5) → (2 ^ 47 ≤ n → Q 6) → Q (least_type n)
least_by Q n a b c d e f =
    elim (cases_lt n (2 ^ 7)) [
      | inl lt ↦ rw (lt-ltb n (2 ^ 7) lt) (a lt)
      | inr ge ↦ rw (le-ltb n (2 ^ 7) ge) (elim (cases_lt n (2 ^ 15)) [
        | inl lt ↦ rw (lt-ltb n (2 ^ 15) lt) (b ge lt)
        | inr ge ↦ rw (le-ltb n (2 ^ 15) ge) (elim (cases_lt n (2 ^ 23)) [
          | inl lt ↦ rw (lt-ltb n (2 ^ 23) lt) (c ge lt)
          | inr ge ↦ rw (le-ltb n (2 ^ 23) ge) (elim (cases_lt n (2 ^ 31)) [
            | inl lt ↦ rw (lt-ltb n (2 ^ 31) lt) (d ge lt)
            | inr ge ↦ rw (le-ltb n (2 ^ 31) ge) (elim (cases_lt n (2 ^ 47)) [
              | inl lt ↦ rw (lt-ltb n (2 ^ 47) lt) (e ge lt)
              | inr ge ↦ rw (le-ltb n (2 ^ 47) ge) (f ge)
            ])
          ])
        ])
      ])
    ]

pub type_by : (Q : ℕ → Type 0) (n : ℤ) → (n ≡ pos 0 → Q 8) → (n ≡ pos 1 → Q 9) → (size_of n < 2 ^ 7 → Q 1)
    → (2 ^ 7 ≤ size_of n → size_of n < 2 ^ 15 → Q 2) → (2 ^ 15 ≤ size_of n → size_of n < 2 ^ 23 → Q 3) → (2 ^ 23 ≤ size_of n → size_of n < 2 ^ 31 → Q 4)
    → (2 ^ 31 ≤ size_of n → size_of n < 2 ^ 47 → Q 5) → (2 ^ 47 ≤ size_of n → Q 6) → Q (int_type n)
type_by Q (pos n) z o a b c d e f =
    elim (cases_eq n 0) [
      | inl is ↦ rw (eq-eqb n 0 is) (z (ap pos is))
      | inr not ↦ rw (ne_eqb n 0 not) (elim (cases_eq n 1) [
        | inl is ↦ rw (eq-eqb n 1 is) (o (ap pos is))
        | inr not ↦ rw (ne_eqb n 1 not) (least_by Q n a b c d e f)
      ])
    ]
type_by Q (negsuc n) z o a b c d e f = least_by Q n a b c d e f

-- the content of an integer in a type
abbrev pub content_in : ℕ → ℤ → List ℕ
content_in serial n = let size = unwrap_or (content_size serial) 0 in big_bytes size (low_bytes w64 size n)

stands_in : (t k q : ℕ) (n : ℤ) → content_size t ≡ Some k → content_in t n ≡ big_bytes k (low_bytes w64 k n)
    → ((content : List ℕ) → value_of t content ≡ Int (twos_complement (length content) (big_number (length content) content)))
    → 256 ^ k ≡ 2 ^ (8 * k) → 2 ^ 64 ≡ 2 ^ (8 * k) * q → 2 ^ (8 * k) ≡ 2 * 2 ^ (8 * k - 1) → 0 < q → size_of n < 2 ^ (8 * k - 1)
    → Stands t (content_in t n) (Int n)
stands_in t k q n sized content meant power e two some small =
    let b = back k q n e two some small in
    let len : length (content_in t n) ≡ k = ap (λ (x : List ℕ). length x) content ∙ length-bytes_high_first k (low_bytes w64 k n) in
    let number : big_number k (content_in t n) ≡ low_bytes w64 k n =
    ap (big_number k) (content ∙ sym (append-nil (big_bytes k (low_bytes w64 k n))))
    ∙ big_number-reads_back k (low_bytes w64 k n) [] (subst (λ (x : ℕ). low_bytes w64 k n < x) (sym power) b.fits) in
    record {
      sized = sized ∙ ap Some (sym len);
      meant = meant (content_in t n) ∙ ap (λ (l : ℕ). Int (twos_complement l (big_number l (content_in t n)))) len
          ∙ ap (λ (x : ℕ). Int (twos_complement k x)) number ∙ ap Int b.again;
    }

pub stands_int : (n : ℤ) → size_of n < 2 ^ 63 → Stands (int_type n) (int_content n) (Int n)
stands_int n small =
    type_by (λ t. Stands t (content_in t n) (Int n)) n
    (λ is. record { sized = refl; meant = ap Int (sym is) })
    (λ is. record { sized = refl; meant = ap Int (sym is) })
    (λ fits. stands_in 1 1 (2 ^ 56) n refl refl (λ c. refl) refl refl refl (omega arith) fits)
    (λ _ fits. stands_in 2 2 (2 ^ 48) n refl refl (λ c. refl) refl refl refl (omega arith) fits)
    (λ _ fits. stands_in 3 3 (2 ^ 40) n refl refl (λ c. refl) refl refl refl (omega arith) fits)
    (λ _ fits. stands_in 4 4 (2 ^ 32) n refl refl (λ c. refl) refl refl refl (omega arith) fits)
    (λ _ fits. stands_in 5 6 (2 ^ 16) n refl refl (λ c. refl) refl refl refl (omega arith) fits)
    (λ _. stands_in 6 8 1 n refl refl (λ c. refl) refl refl refl (omega arith) small)

pub fits_size : (n : ℤ) → FitsSigned w64 n → size_of n < 2 ^ 63
fits_size (pos n) fits = omega (arith, fits.sfits)
fits_size (negsuc n) fits = omega (arith, fits.sfits)

pub int_type-small : (n : ℤ) → int_type n < 128
int_type-small n =
    type_by (λ t. t < 128) n (λ _. omega arith) (λ _. omega arith) (λ _. omega arith) (λ _ _. omega arith) (λ _ _. omega arith) (λ _ _. omega arith) (λ _ _. omega arith) (λ _. omega arith)

pub written_int : (n : ℤ) → FitsSigned w64 n → IsWrittenType (Int n) (int_type n)
written_int n fits =
    record { small = let low = int_type-small n in omega arith; serial_is = refl; stands = stands_int n (fits_size n fits) }

-- ---- the serial types, one after the other

all-push : {X : Type 0} (P : X → Type 0) (xs : List X) (x : X) → AllByRecursion P xs → P x → AllByRecursion P (xs ++ x ∷ [])
all-push P [] x p q = (q, tt)
all-push P (y ∷ ys) x p q = (p.0, all-push P ys x p.1 q)

pub no_types : AreTypes [] []
no_types = record { fields = []; each = tt; types_are = refl; values_are = refl }

pub types-push : (types new : List ℕ) (values : List Value) (value : Value) (serial : ℕ) → AreTypes types values → IsWrittenType value serial
    → AppendsVarint types new serial → AreTypes new (values ++ value ∷ [])
types-push types new values value serial h w a =
    let f : Field = record { spelling = a.spelling; serial = serial; content = written_content value; value = value } in
    let written : IsWritten f = record {
      is_field = record { spelled = a.spelled; stands = w.stands };
      serial_is = w.serial_is;
      content_is = refl;
      size = a.size;
    } in
    record {
      fields = h.fields ++ f ∷ [];
      each = all-push IsWritten h.fields f h.each written;
      types_are = a.new_is ∙ ap (λ (x : List ℕ). x ++ a.spelling) h.types_are ∙ sym (flat_map-append (λ f. f.spelling) h.fields (f ∷ [])
          ∙ ap (λ (x : List ℕ). flat_map (λ f. f.spelling) h.fields ++ x) (append-nil a.spelling));
      values_are = ap (λ (x : List Value). x ++ value ∷ []) h.values_are ∙ sym (map_push (λ f. f.value) h.fields f);
    }

-- ---- the header

size_le : (bits a b : ℕ) → IsSize bits a → IsSize bits b → a ≤ b
size_le bits a b p q =
    elim (cases_lt b a) [
      | inl less ↦
          let much : 128 ^ (a - 1) ≤ bits = p.needed (omega (arith, q.some)) in
          let room : bits < 128 ^ b = q.room (omega (arith, p.within)) in
          let grows : 128 ^ b ≤ 128 ^ (a - 1) = pow-le-pow_right {n = 128} (omega arith) {i = b} {j = a - 1} (omega arith) in
          absurd (omega arith)
      | inr le ↦ le
    ]

header_is_size : (types size : ℕ) (h : IsHeaderSize types size) → IsSize size h.len
header_is_size types size h = record {
  some = h.some;
  within = h.within;
  room = h.room;
  needed = λ more. let before = h.least (h.len - 1) (omega arith) (omega arith) in omega (arith, h.total);
}

pub header_parts : (types contents payload front : List ℕ) (size : ℕ) → IsHeaderSize (length types) size → AppendsVarint [] front size
    → payload ≡ front ++ types ++ contents → HasParts payload types contents
header_parts types contents payload front size h a joined =
    let is_size = header_is_size (length types) size h in
    let len : length a.spelling ≡ h.len =
    omega (arith, size_le size (length a.spelling) h.len a.size is_size, size_le size h.len (length a.spelling) is_size a.size) in
    record {
      size = a.spelling;
      sized = subst (λ (n : ℕ). IsVarint a.spelling (pos n)) (omega (arith, h.total, len)) a.spelled;
      joined = joined ∙ ap (λ (x : List ℕ). x ++ types ++ contents) a.new_is;
    }

-- ---- the contents

each_field : (fields : List Field) → AllByRecursion IsWritten fields → AllByRecursion IsField fields
each_field [] h = tt
each_field (f ∷ fs) h = (h.0.is_field, each_field fs h.1)

contents_are : (fields : List Field) → AllByRecursion IsWritten fields → flat_map written_content (map (λ f. f.value) fields) ≡ flat_map (λ f. f.content) fields
contents_are [] h = refl
contents_are (f ∷ fs) h =
    ap (λ (x : List ℕ). x ++ flat_map written_content (map (λ f. f.value) fs)) (sym h.0.content_is) ∙ ap (λ (x : List ℕ). f.content ++ x) (contents_are fs h.1)

pub written_fields : (types : List ℕ) (values : List Value) → AreTypes types values → AreFields types (flat_map written_content values) values
written_fields types values h = record {
  fields = h.fields;
  each = each_field h.fields h.each;
  types_are = h.types_are;
  contents_are = ap (flat_map written_content) h.values_are ∙ contents_are h.fields h.each;
  values_are = h.values_are;
}

-- what was written of values is a record of them
pub is_record : (types front payload : List ℕ) (values : List Value) (size : ℕ) → AreTypes types values → IsHeaderSize (length types) size → AppendsVarint [] front size
    → payload ≡ front ++ types ++ flat_map written_content values → IsRecord payload values
is_record types front payload values size t h a joined = record {
  types = types;
  contents = flat_map written_content values;
  parts = header_parts types (flat_map written_content values) payload front size h a joined;
  fields = written_fields types values t;
}

-- ---- nothing shorter

bytes_front : (xs ys : List ℕ) → AreBytes (xs ++ ys) → AreBytes xs
bytes_front [] ys h = tt
bytes_front (x ∷ xs) ys h = (h.0, bytes_front xs ys h.1)

bytes_rest : (xs ys : List ℕ) → AreBytes (xs ++ ys) → AreBytes ys
bytes_rest [] ys h = h
bytes_rest (x ∷ xs) ys h = bytes_rest xs ys h.1

byte_at : (xs : List ℕ) → AreBytes xs → (i : ℕ) → get_or xs i 0 < 256
byte_at [] h i = omega arith
byte_at (x ∷ xs) h zero = h.0
byte_at (x ∷ xs) h (suc i) = byte_at xs h.1 i

negative_size : (n : ℤ) (x w : ℕ) → n ≡ pos x -ℤ pos w → x < w → size_of n + x + 1 ≡ w
negative_size (pos m) x w e less = absurd (omega (arith, ints))
negative_size (negsuc m) x w e less = omega (arith, ints)

-- what k bytes stand for is small
twos_size : (k x : ℕ) (n : ℤ) → 2 ^ (8 * k) ≡ 2 * 2 ^ (8 * k - 1) → x < 2 ^ (8 * k) → twos_complement k x ≡ n → size_of n < 2 ^ (8 * k - 1)
twos_size k x n two less e =
    elim (cases_lt x (2 ^ (8 * k - 1))) [
      | inl low ↦
          let is : pos x ≡ n = sym (ap (λ b. cond b (pos x) (pos x -ℤ pos (2 ^ (8 * k)))) (lt-ltb x (2 ^ (8 * k - 1)) low)) ∙ e in
          subst (λ (z : ℤ). size_of z < 2 ^ (8 * k - 1)) is low
      | inr high ↦
          let is : n ≡ pos x -ℤ pos (2 ^ (8 * k)) = sym (sym (ap (λ b. cond b (pos x) (pos x -ℤ pos (2 ^ (8 * k)))) (le-ltb x (2 ^ (8 * k - 1)) high)) ∙ e) in
          omega (arith, negative_size n x (2 ^ (8 * k)) is less)
    ]

abbrev pub size_in : ℕ → ℕ
size_in serial = unwrap_or (content_size serial) 0

length-int_content : (n : ℤ) → length (int_content n) ≡ size_in (int_type n)
length-int_content n = length-bytes_high_first (size_in (int_type n)) (low_bytes w64 (size_in (int_type n)) n)

-- an integer takes no more bytes than any that hold it
least_1 : (n : ℤ) → size_of n < 2 ^ 7 → size_in (int_type n) ≤ 1
least_1 n small = type_by (λ t. size_in t ≤ 1) n (λ _. omega arith) (λ _. omega arith) (λ _. omega arith) (λ low high. omega arith) (λ low high. omega arith) (λ low high. omega arith) (λ low high. omega arith) (λ low. omega arith)

least_2 : (n : ℤ) → size_of n < 2 ^ 15 → size_in (int_type n) ≤ 2
least_2 n small = type_by (λ t. size_in t ≤ 2) n (λ _. omega arith) (λ _. omega arith) (λ _. omega arith) (λ low high. omega arith) (λ low high. omega arith) (λ low high. omega arith) (λ low high. omega arith) (λ low. omega arith)

least_3 : (n : ℤ) → size_of n < 2 ^ 23 → size_in (int_type n) ≤ 3
least_3 n small = type_by (λ t. size_in t ≤ 3) n (λ _. omega arith) (λ _. omega arith) (λ _. omega arith) (λ low high. omega arith) (λ low high. omega arith) (λ low high. omega arith) (λ low high. omega arith) (λ low. omega arith)

least_4 : (n : ℤ) → size_of n < 2 ^ 31 → size_in (int_type n) ≤ 4
least_4 n small = type_by (λ t. size_in t ≤ 4) n (λ _. omega arith) (λ _. omega arith) (λ _. omega arith) (λ low high. omega arith) (λ low high. omega arith) (λ low high. omega arith) (λ low high. omega arith) (λ low. omega arith)

least_6 : (n : ℤ) → size_of n < 2 ^ 47 → size_in (int_type n) ≤ 6
least_6 n small = type_by (λ t. size_in t ≤ 6) n (λ _. omega arith) (λ _. omega arith) (λ _. omega arith) (λ low high. omega arith) (λ low high. omega arith) (λ low high. omega arith) (λ low high. omega arith) (λ low. omega arith)

least_8 : (n : ℤ) → size_of n < 2 ^ 63 → size_in (int_type n) ≤ 8
least_8 n small = type_by (λ t. size_in t ≤ 8) n (λ _. omega arith) (λ _. omega arith) (λ _. omega arith) (λ low high. omega arith) (λ low high. omega arith) (λ low high. omega arith) (λ low high. omega arith) (λ low. omega arith)

-- a value as it is written has no longer content than another that stands for it, and the same type or a short one
pub record Shorter (serial : ℕ) (content : List ℕ) (value : Value) : Type 0 where
  pub content_is : length (written_content value) ≤ length content
  pub type_is : (written_type value ≡ serial) ⊎ (written_type value < 128)

int_shorter : (t k : ℕ) (c : List ℕ) (v : Value) → Some k ≡ Some (length c) → Int (twos_complement (length c) (big_number (length c) c)) ≡ v → AreBytes c
    → 256 ^ k ≡ 2 ^ (8 * k) → 2 ^ (8 * k) ≡ 2 * 2 ^ (8 * k - 1) → ((n : ℤ) → size_of n < 2 ^ (8 * k - 1) → size_in (int_type n) ≤ k) → Shorter t c v
int_shorter t k c v sized meant bytes power two least =
    let len : length c ≡ k = cc in
    let n : ℤ = twos_complement (length c) (big_number (length c) c) in
    let is : twos_complement k (big_number k c) ≡ n = ap (λ (l : ℕ). twos_complement l (big_number l c)) (sym len) in
    let below : big_number k c < 2 ^ (8 * k) = subst (λ (x : ℕ). big_number k c < x) power (big_from-lt 0 k c (byte_at c bytes)) in
    let short = least n (twos_size k (big_number k c) n two below is) in
    let shorter : Shorter t c (Int n) = record {
      content_is = omega (arith, length-int_content n);
      type_is = inr (int_type-small n);
    } in
    subst (Shorter t c) meant shorter

same_shorter : (t : ℕ) (c : List ℕ) (v w : Value) → w ≡ v → written_type w ≡ t → length (written_content w) ≤ length c → Shorter t c v
same_shorter t c v w e type_is content_is = subst (Shorter t c) e (record { content_is = content_is; type_is = inl type_is })

none_some : {P : Type 0} (n : ℕ) → None ≡ Some n → P
none_some n e = absurd cc

some_same : (m n : ℕ) → Some m ≡ Some n → m ≡ n
some_same m n e = cc

-- a text or a blob
long_shorter : (t : ℕ) (c : List ℕ) (v : Value) → 12 ≤ t → Stands t c v → Shorter t c v
long_shorter t c v long s =
    let size : (t - 12) / 2 ≡ length c = some_same ((t - 12) / 2) (length c) (sym (ap (λ b. cond b (slice_get sizes t) (Some ((t - 12) / 2))) (le-ltb t 12 long)) ∙ s.sized) in
    let meant : cond (eqb (t % 2) 0) (Blob c) (Text c) ≡ v =
    sym (rw (ne_eqb t 0 (λ e. omega arith), ne_eqb t 7 (λ e. omega arith), ne_eqb t 8 (λ e. omega arith), ne_eqb t 9 (λ e. omega arith), le-ltb t 12 long) refl) ∙ s.meant in
    elim (cases_eq (t % 2) 0) [
      | inl even ↦ same_shorter t c v (Blob c) (sym (ap (λ b. cond b (Blob c) (Text c)) (eq-eqb (t % 2) 0 even)) ∙ meant) (omega arith) (omega arith)
      | inr odd ↦ same_shorter t c v (Text c) (sym (ap (λ b. cond b (Blob c) (Text c)) (ne_eqb (t % 2) 0 odd)) ∙ meant) (omega arith) (omega arith)
    ]

-- what holds of each number below 12
below_12 : (P : ℕ → Type 0) → P 0 → P 1 → P 2 → P 3 → P 4 → P 5 → P 6 → P 7 → P 8 → P 9 → P 10 → P 11 → (t : ℕ) → t < 12 → P t
below_12 P p0 p1 p2 p3 p4 p5 p6 p7 p8 p9 p10 p11 zero less = p0
below_12 P p0 p1 p2 p3 p4 p5 p6 p7 p8 p9 p10 p11 (suc zero) less = p1
below_12 P p0 p1 p2 p3 p4 p5 p6 p7 p8 p9 p10 p11 (suc (suc zero)) less = p2
below_12 P p0 p1 p2 p3 p4 p5 p6 p7 p8 p9 p10 p11 (suc (suc (suc zero))) less = p3
below_12 P p0 p1 p2 p3 p4 p5 p6 p7 p8 p9 p10 p11 (suc (suc (suc (suc zero)))) less = p4
below_12 P p0 p1 p2 p3 p4 p5 p6 p7 p8 p9 p10 p11 (suc (suc (suc (suc (suc zero))))) less = p5
below_12 P p0 p1 p2 p3 p4 p5 p6 p7 p8 p9 p10 p11 (suc (suc (suc (suc (suc (suc zero)))))) less = p6
below_12 P p0 p1 p2 p3 p4 p5 p6 p7 p8 p9 p10 p11 (suc (suc (suc (suc (suc (suc (suc zero))))))) less = p7
below_12 P p0 p1 p2 p3 p4 p5 p6 p7 p8 p9 p10 p11 (suc (suc (suc (suc (suc (suc (suc (suc zero)))))))) less = p8
below_12 P p0 p1 p2 p3 p4 p5 p6 p7 p8 p9 p10 p11 (suc (suc (suc (suc (suc (suc (suc (suc (suc zero))))))))) less = p9
below_12 P p0 p1 p2 p3 p4 p5 p6 p7 p8 p9 p10 p11 (suc (suc (suc (suc (suc (suc (suc (suc (suc (suc zero)))))))))) less = p10
below_12 P p0 p1 p2 p3 p4 p5 p6 p7 p8 p9 p10 p11 (suc (suc (suc (suc (suc (suc (suc (suc (suc (suc (suc zero))))))))))) less = p11
below_12 P p0 p1 p2 p3 p4 p5 p6 p7 p8 p9 p10 p11 (suc (suc (suc (suc (suc (suc (suc (suc (suc (suc (suc (suc t)))))))))))) less = absurd (omega arith)

short_shorter : (c : List ℕ) (v : Value) → AreBytes c → (t : ℕ) → t < 12 → Stands t c v → Shorter t c v
short_shorter c v bytes =
    below_12 (λ t. Stands t c v → Shorter t c v)
    (λ s. same_shorter 0 c v Null s.meant refl (omega arith))
    (λ s. int_shorter 1 1 c v s.sized s.meant bytes refl refl least_1)
    (λ s. int_shorter 2 2 c v s.sized s.meant bytes refl refl least_2)
    (λ s. int_shorter 3 3 c v s.sized s.meant bytes refl refl least_3)
    (λ s. int_shorter 4 4 c v s.sized s.meant bytes refl refl least_4)
    (λ s. int_shorter 5 6 c v s.sized s.meant bytes refl refl least_6)
    (λ s. int_shorter 6 8 c v s.sized s.meant bytes refl refl least_8)
    (λ s. same_shorter 7 c v (Real (big_number 8 c)) s.meant refl (omega (arith, some_same 8 (length c) s.sized)))
    (λ s. same_shorter 8 c v (Int (pos 0)) s.meant refl (omega arith))
    (λ s. same_shorter 9 c v (Int (pos 1)) s.meant refl (omega arith))
    (λ s. none_some (length c) s.sized)
    (λ s. none_some (length c) s.sized)

pub shorter : (t : ℕ) (c : List ℕ) (v : Value) → AreBytes c → Stands t c v → Shorter t c v
shorter t c v bytes s =
    elim (cases_lt t 12) [ inl less ↦ short_shorter c v bytes t less s | inr long ↦ long_shorter t c v long s ]

spelling_shorter : (f g : Field) → IsWritten f → IsField g → f.value ≡ g.value → Shorter g.serial g.content g.value → length f.spelling ≤ length g.spelling
spelling_shorter f g w h e s =
    let type_is : f.serial ≡ written_type g.value = w.serial_is ∙ ap written_type e in
    elim s.type_is [
      | inl same ↦
          let size : IsSize g.serial (length f.spelling) = subst (λ (n : ℕ). IsSize n (length f.spelling)) (type_is ∙ same) w.size in
          no_shorter (pos g.serial) g.serial (length f.spelling) refl size.within size.needed g.spelling h.spelled
      | inr low ↦
          let some = varint_some g.spelling g.serial h.spelled in
          elim (cases_lt 1 (length f.spelling)) [
            | inl more ↦
                let much : 128 ^ (length f.spelling - 1) ≤ f.serial = w.size.needed more in
                let grows : 128 ^ 1 ≤ 128 ^ (length f.spelling - 1) = pow-le-pow_right {n = 128} (omega arith) {i = 1} {j = length f.spelling - 1} (omega arith) in
                absurd (omega arith)
            | inr one ↦ omega arith
          ]
    ]

-- as written, neither the types nor the contents are longer than others of the same values
pub record AllShorter (fs gs : List Field) : Type 0 where
  pub types_are : length (flat_map (λ f. f.spelling) fs) ≤ length (flat_map (λ f. f.spelling) gs)
  pub contents_are : length (flat_map (λ f. f.content) fs) ≤ length (flat_map (λ f. f.content) gs)

all_shorter : (fs gs : List Field) → AllByRecursion IsWritten fs → AllByRecursion IsField gs → map (λ f. f.value) fs ≡ map (λ f. f.value) gs
    → AreBytes (flat_map (λ f. f.content) gs) → AllShorter fs gs
all_shorter [] [] p q e bytes = record { types_are = omega arith; contents_are = omega arith }
all_shorter [] (g ∷ gs) p q e bytes = absurd (let no : [] ≡ g.value ∷ map (λ f. f.value) gs = e in cc)
all_shorter (f ∷ fs) [] p q e bytes = absurd (let no : f.value ∷ map (λ f. f.value) fs ≡ [] = e in cc)
all_shorter (f ∷ fs) (g ∷ gs) p q e bytes =
    let value : f.value ≡ g.value = cc in
    let values : map (λ f. f.value) fs ≡ map (λ f. f.value) gs = cc in
    let more = all_shorter fs gs p.1 q.1 values (bytes_rest g.content (flat_map (λ f. f.content) gs) bytes) in
    let least = shorter g.serial g.content g.value (bytes_front g.content (flat_map (λ f. f.content) gs) bytes) q.0.stands in
    let spelling = spelling_shorter f g p.0 q.0 value least in
    let content : length f.content ≡ length (written_content g.value) = ap (λ (x : List ℕ). length x) (p.0.content_is ∙ ap written_content value) in
    record {
      types_are = omega (arith, more.types_are, length-append f.spelling (flat_map (λ f. f.spelling) fs), length-append g.spelling (flat_map (λ f. f.spelling) gs));
      contents_are = omega (arith, more.contents_are, least.content_is, length-append f.content (flat_map (λ f. f.content) fs), length-append g.content (flat_map (λ f. f.content) gs));
    }

-- nor is the header
header_shorter : (types size more : ℕ) (h : IsHeaderSize types size) (other : List ℕ) → IsVarint other (pos (length other + more)) → types ≤ more → h.len ≤ length other
header_shorter types size more h other v le =
    elim (cases_lt (length other) h.len) [
      | inl less ↦
          let room = varint_room other (length other + more) v (omega (arith, h.within)) in
          let least = h.least (length other) (varint_some other (length other + more) v) less in
          absurd (omega arith)
      | inr longer ↦ longer
    ]

pub is_shortest : (types front payload : List ℕ) (values : List Value) (size : ℕ) → AreTypes types values → IsHeaderSize (length types) size → AppendsVarint [] front size
    → payload ≡ front ++ types ++ flat_map written_content values → IsShortest payload values
is_shortest types front payload values size t h a joined other bytes r =
    let contents : List ℕ = flat_map written_content values in
    let g = r.fields in
    let other_bytes : AreBytes (r.parts.size ++ r.types ++ r.contents) = subst AreBytes r.parts.joined bytes in
    let content_bytes : AreBytes (flat_map (λ f. f.content) g.fields) = subst AreBytes g.contents_are (bytes_rest (r.parts.size ++ r.types) r.contents other_bytes) in
    let all = all_shorter t.fields g.fields t.each g.each (sym t.values_are ∙ g.values_are) content_bytes in
    let is_size = header_is_size (length types) size h in
    let own : length a.spelling ≤ h.len = size_le size (length a.spelling) h.len a.size is_size in
    let types_le : length types ≤ length r.types = omega (arith, all.types_are, ap (λ (x : List ℕ). length x) t.types_are, ap (λ (x : List ℕ). length x) g.types_are) in
    let contents_le : length contents ≤ length r.contents =
    omega (arith, all.contents_are, ap (λ (x : List ℕ). length x) (ap (flat_map written_content) t.values_are ∙ contents_are t.fields t.each), ap (λ (x : List ℕ). length x) g.contents_are) in
    let header = header_shorter (length types) size (length r.types) h r.parts.size r.parts.sized types_le in
    omega (
      arith,
      ap (λ (x : List ℕ). length x) joined,
      ap (λ (x : List ℕ). length x) a.new_is,
      length-append (front ++ types) contents,
      length-append front types,
      ap (λ (x : List ℕ). length x) r.parts.joined,
      length-append (r.parts.size ++ r.types) r.contents,
      length-append r.parts.size r.types,
    )
