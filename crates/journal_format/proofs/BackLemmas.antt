-- A journal that was written is read back as the same records and the same super-journal.
use Rattle.std.proofs.Common.{arith, ◌≡◌, ℕ, suc, ◌+◌, ◌-◌, ◌*◌, ◌/◌, ◌%◌, ◌^◌, ◌≤◌, ◌<◌, nat_eq, nat_le, nat_lt, ◌&&◌, ◌||◌, Bool, true, cond, if◌then◌else◌, IsTrue, List, [], ◌∷◌, ◌++◌, length, take, drop, replicate, Option, Some, None, refl, sym, ◌∙◌, ap, le-leb, append_assoc}
use Rattle.std.specs.Prelude.{bytes_eq, is_some}
use Rattle.std.specs.List.{starts_with, flat_map, sum_by}
use Rattle.std.proofs.lemmas.Bool.Decides.{nat_tests}
use Rattle.std.proofs.lemmas.Slice.Eq.{bytes_eq-Decides}
use Rattle.std.proofs.lemmas.List.{length-append, length-replicate, take_at, drop_at, drop-drop}
use Rattle.std.proofs.lemmas.List.Concat.{flat_map-cons}
use Rattle.std.proofs.Math.Nat.{mul-le-mul_right, mul-le-mul_left, le-div_iff_mul-le, mul-add, suc-mul}
use Rattle.byteorder.specs.Endian.{big_bytes, big_number}
use Rattle.byteorder.specs.Numbers.{big_number-reads_back}
use Rattle.byte_base.specs.Numbers.{number_at}
use Rattle.vfs_model.specs.Name.{IsName, kind_of}
use Rattle.vfs_model.specs.declared.name.Kind.TheVariants.{Super}
use Rattle.journal_format.specs.Undo.{Paged, ArePages, AreUpTo, AreRising, Undo}
use Rattle.journal_format.specs.Journal.{Hot, Undoes, hot, formed, play_of, counted, named, records_end, played, checksum, is_size, lock_page, record_of, trailer, trailer_name, trailer_of, is_super, unless_missing, journal, magic, most_database, most_journal, IsPlan}
use Rattle.journal_format.proofs.SuperLemmas.{is_super_decides}
use Rattle.journal_format.specs.Laws.{ReadBack, FewRecords}

-- ---- numbers

-- the four bytes of a number are read as that number
number_first : (n : ℕ) (rest : List ℕ) → n < 2 ^ 32 → number_at 4 (big_bytes 4 n ++ rest) 0 ≡ n
unfolding number_at
number_first n rest h = big_number-reads_back 4 n rest h

number_behind : (front : List ℕ) (n : ℕ) (rest : List ℕ) (place : ℕ) → length front ≡ place → n < 2 ^ 32 → number_at 4 (front ++ (big_bytes 4 n ++ rest)) place ≡ n
unfolding number_at
number_behind front n rest place is fits = ap (big_number 4) (drop_at front (big_bytes 4 n ++ rest) place is) ∙ big_number-reads_back 4 n rest fits

-- a page size lies between these
pub size_low : (page : ℕ) → IsTrue (is_size page) → 512 ≤ page
size_low page h = grind (arith, nat_tests, h)

pub size_high : (page : ℕ) → IsTrue (is_size page) → page ≤ 65536
size_high page h = grind (arith, nat_tests, h)

both_true : {X : Type 0} (b c : Bool) (x y : X) → b ≡ true → c ≡ true → cond (b && c) x y ≡ x
both_true b c x y p q = rw (p, q) refl

-- ---- one record

taken : (number initial lock sum check : ℕ) (x : Paged) (more : List Paged) → 1 ≤ number → number ≤ initial → initial < lock → sum ≡ check
    → (if nat_eq number 0 || nat_eq number lock then [] else (if nat_lt initial number then more else (if nat_eq sum check then x ∷ more else []))) ≡ x ∷ more
taken number initial lock sum check x more one within last same = grind (arith, nat_tests, one, within, last, same)

before_lock : (initial page : ℕ) → 512 ≤ page → initial * page ≤ most_database → initial < lock_page page
before_lock initial page low small =
    let some : 0 < page = omega (arith, low) in
    let e : initial ≤ most_database / page = (le-div_iff_mul-le some).1 small in
    omega (arith, e)

length_record : (nonce : ℕ) (r : Paged) → length (record_of nonce r) ≡ length r.1 + 8
length_record nonce r = omega (arith, length-append r.1 (big_bytes 4 (checksum nonce r.1)))

one_played_back : (page initial nonce count : ℕ) (r : Paged) (x : List ℕ) → length r.1 ≡ page → 1 ≤ r.0 → r.0 ≤ initial → initial < lock_page page → initial < 2 ^ 32
    → played page initial nonce (suc count) (record_of nonce r ++ x) ≡ r ∷ played page initial nonce count x
unfolding played
one_played_back page initial nonce count r x size one within last fits =
    let sum = checksum nonce r.1 in
    let number : number_at 4 (record_of nonce r ++ x) 0 ≡ r.0 = number_first r.0 ((r.1 ++ big_bytes 4 sum) ++ x) (omega arith) in
    let original : take page ((r.1 ++ big_bytes 4 sum) ++ x) ≡ r.1 = ap (take page) (append_assoc r.1 (big_bytes 4 sum) x) ∙ take_at r.1 (big_bytes 4 sum ++ x) page size in
    let front = big_bytes 4 r.0 ++ r.1 in
    let long : length front ≡ page + 4 = omega (arith, size) in
    let check : number_at 4 (record_of nonce r ++ x) (page + 4) ≡ sum =
    ap (λ l. number_at 4 (big_bytes 4 r.0 ++ l) (page + 4)) (append_assoc r.1 (big_bytes 4 sum) x) ∙ number_behind front sum x (page + 4) long (omega arith) in
    let behind : drop (page + 8) (record_of nonce r ++ x) ≡ x = drop_at (record_of nonce r) x (page + 8) (omega (arith, length_record nonce r)) in
    rw (number, original, behind)
    (taken r.0 initial (lock_page page) (number_at 4 (record_of nonce r ++ x) (page + 4)) sum r (played page initial nonce count x) one within last check)

-- ---- all records

played_back : (page initial nonce : ℕ) (rs : List Paged) (x : List ℕ) → ArePages page rs → AreUpTo initial rs → initial < lock_page page → initial < 2 ^ 32
    → played page initial nonce (length rs) (flat_map (record_of nonce) rs ++ x) ≡ rs
unfolding played
played_back page initial nonce [] x are upto last fits = refl
played_back page initial nonce (r ∷ rs) x are upto last fits =
    let more = flat_map (record_of nonce) rs in
    ap (λ l. played page initial nonce (suc (length rs)) (l ++ x)) (flat_map-cons (record_of nonce) r rs)
    ∙ ap (played page initial nonce (suc (length rs))) (append_assoc (record_of nonce r) more x)
    ∙ one_played_back page initial nonce (length rs) r (more ++ x) are.1 are.0 upto.0 last fits
    ∙ ap (λ m. r ∷ m) (played_back page initial nonce rs x are.2 upto.1 last fits)

length_records : (nonce page : ℕ) (rs : List Paged) → ArePages page rs → length (flat_map (record_of nonce) rs) ≡ length rs * (page + 8)
length_records nonce page [] are = let e : 0 * (page + 8) ≡ 0 = omega arith in sym e
length_records nonce page (r ∷ rs) are =
    let rest = flat_map (record_of nonce) rs in
    ap length (flat_map-cons (record_of nonce) r rs)
    ∙ omega (arith, length-append (record_of nonce r) rest, length_record nonce r, length_records nonce page rs are.2, suc-mul (length rs) (page + 8), are.1)

-- rising numbers up to a last one are no more than it
few : (low last : ℕ) (rs : List Paged) → AreRising low rs → AreUpTo last rs → low ≤ last → low + length rs ≤ last
few low last [] rising upto h = omega (arith, h)
few low last (r ∷ rs) rising upto h = omega (arith, few r.0 last rs rising.1 upto.1 upto.0, rising.0)

-- ---- the sizes of a plan

-- a journal of few records is short enough
short : (count page initial : ℕ) → count ≤ initial → 512 ≤ page → initial * page ≤ most_database → (512 + count * (page + 8) + 180 < 2 ^ 32) × (count < 4294967295)
short count page initial few low small =
    let a = mul-le-mul_right page few in
    let b = mul-le-mul_left count low in
    let c : count * (page + 8) ≡ count * page + count * 8 = mul-add count page 8 in
    (omega (arith, a, b, c, small), omega (arith, a, b, small))

-- what follows from the clauses of a plan
record Sizes (u : Undo) : Type 0 where
  pub low : 512 ≤ u.page
  pub high : u.page ≤ 65536
  pub few : length u.originals ≤ u.initial
  pub counted : length u.originals < 4294967295
  pub initial_fits : u.initial < 2 ^ 32
  pub short : 512 + length u.originals * (u.page + 8) + 180 < 2 ^ 32

sizes : (nonce : ℕ) (u : Undo) → IsPlan nonce u → Sizes u
sizes nonce u plan =
    let low = size_low u.page plan.page_is_size in
    let most : length u.originals ≤ u.initial = omega (arith, few 0 u.initial u.originals plan.rising plan.within (omega arith)) in
    let fits = short (length u.originals) u.page u.initial most low plan.small in
    record {
      low = low;
      high = size_high u.page plan.page_is_size;
      few = most;
      counted = fits.1;
      initial_fits = omega (arith, mul-le-mul_left u.initial low, plan.small);
      short = fits.0;
    }

-- ---- the trailer

length_trailer : (page : ℕ) (name : List ℕ) → length (trailer page name) ≡ length name + 20
length_trailer page name =
    omega (arith, length-append name (big_bytes 4 (length name) ++ (big_bytes 4 (sum_by (λ b. b) name % (2 ^ 32)) ++ magic)))

short_trailer : (page : ℕ) (super : Option (List ℕ)) → ((name : List ℕ) → super ≡ Some name → IsName name × (kind_of name ≡ Super)) → length (trailer_of page super) ≤ 180
short_trailer page None is = omega arith
short_trailer page (Some name) is = omega (arith, length_trailer page name, (is name refl).0.short)

trailer_back : (page : ℕ) (name : List ℕ) → IsName name → kind_of name ≡ Super → trailer_name page (trailer page name) ≡ Some name
trailer_back page name named kind =
    let rest = big_bytes 4 (length name) ++ (big_bytes 4 (sum_by (λ b. b) name % (2 ^ 32)) ++ magic) in
    let front : length name ≡ length (trailer page name) - 20 = omega (arith, length_trailer page name) in
    let same : take (length (trailer page name) - 20) (name ++ rest) ≡ name = take_at name rest (length (trailer page name) - 20) front in
    let is : is_super name ≡ true = (is_super_decides name).1 (named, kind) in
    ap (λ n. if bytes_eq (trailer page name) (trailer page n) && is_super n then Some n else None) same
    ∙ both_true (bytes_eq (trailer page name) (trailer page name)) (is_super name) (Some name) None ((bytes_eq-Decides (trailer page name) (trailer page name)).1 refl) is

trailer_of_back : (page : ℕ) (super : Option (List ℕ)) → ((name : List ℕ) → super ≡ Some name → IsName name × (kind_of name ≡ Super)) → trailer_name page (trailer_of page super) ≡ super
trailer_of_back page None is = refl
trailer_of_back page (Some name) is = trailer_back page name (is name refl).0 (is name refl).1

-- ---- the journal

-- a journal with its numbers and what stands behind them
abbrev numbered : ℕ → ℕ → ℕ → ℕ → ℕ → List ℕ → List ℕ
numbered count nonce initial sector page rest =
    magic ++ (big_bytes 4 count ++ (big_bytes 4 nonce ++ (big_bytes 4 initial ++ (big_bytes 4 sector ++ (big_bytes 4 page ++ rest)))))

-- the numbers of a header are read as they were written
record Numbers (count nonce initial sector page : ℕ) (bytes : List ℕ) : Type 0 where
  pub count_is : number_at 4 bytes 8 ≡ count
  pub nonce_is : number_at 4 bytes 12 ≡ nonce
  pub initial_is : number_at 4 bytes 16 ≡ initial
  pub sector_is : number_at 4 bytes 20 ≡ sector
  pub page_is : number_at 4 bytes 24 ≡ page

numbers : (count nonce initial sector page : ℕ) (rest : List ℕ) → count < 2 ^ 32 → nonce < 2 ^ 32 → initial < 2 ^ 32 → sector < 2 ^ 32 → page < 2 ^ 32
    → Numbers count nonce initial sector page (numbered count nonce initial sector page rest)
unfolding number_at
numbers count nonce initial sector page rest a b c d e = record {
  count_is = big_number-reads_back 4 count [] a;
  nonce_is = big_number-reads_back 4 nonce [] b;
  initial_is = big_number-reads_back 4 initial [] c;
  sector_is = big_number-reads_back 4 sector [] d;
  page_is = big_number-reads_back 4 page [] e;
}

formed_at : (exists : List ℕ → Bool) (count nonce initial sector page : ℕ) (bytes : List ℕ) → Numbers count nonce initial sector page bytes
    → formed exists (number_at 4 bytes 8) (number_at 4 bytes 12) (number_at 4 bytes 16) (number_at 4 bytes 20) (number_at 4 bytes 24) bytes ≡ formed exists count nonce initial sector page bytes
formed_at exists count nonce initial sector page bytes is = rw (is.count_is, is.nonce_is, is.initial_is, is.sector_is, is.page_is) refl

length_journal : (first nonce : ℕ) (u : Undo) → ArePages u.page u.originals
    → length (journal first nonce u) ≡ 512 + length u.originals * (u.page + 8) + length (trailer_of u.page u.super_name)
length_journal first nonce u are =
    let all = flat_map (record_of nonce) u.originals in
    omega (arith, length-append (replicate 484 0) (all ++ trailer_of u.page u.super_name), length-replicate {A = ℕ} 484 0, length-append all (trailer_of u.page u.super_name), length_records nonce u.page u.originals are)

-- what stands behind the first sector
drop_journal : (first nonce : ℕ) (u : Undo) → drop 512 (journal first nonce u) ≡ flat_map (record_of nonce) u.originals ++ trailer_of u.page u.super_name
drop_journal first nonce u = drop_at (replicate 484 0) (flat_map (record_of nonce) u.originals ++ trailer_of u.page u.super_name) 484 (length-replicate {A = ℕ} 484 0)

named_at : (count page : ℕ) (bytes end : List ℕ) (super : Option (List ℕ)) → count < 4294967295 → records_end count 512 page ≤ length bytes
    → drop (records_end count 512 page) bytes ≡ end → trailer_name page end ≡ super → named count 512 page bytes ≡ super
named_at count page bytes end super few room behind is = grind (arith, nat_tests, few, room, ap (trailer_name page) behind, is)

counted_at : (count page : ℕ) (bytes : List ℕ) (super : Option (List ℕ)) → count < 4294967295 → length bytes ≡ records_end count 512 page + length (trailer_of page super)
    → named count 512 page bytes ≡ super → counted count 512 page bytes ≡ Some count
counted_at count page bytes None few long is = grind (arith, nat_tests, few, long)
counted_at count page bytes (Some name) few long is = let named_is = ap is_some is in grind (arith, nat_tests, few, named_is)

pub few_records_holds : FewRecords
few_records_holds nonce u plan =
    let is = sizes nonce u plan in
    (is.few, is.initial_fits, omega (arith, length_journal 217 nonce u plan.pages, short_trailer u.page u.super_name plan.super_is, is.short))

all_true : (b c d e : Bool) (x y : Hot) → b ≡ true → c ≡ true → d ≡ true → e ≡ true → cond (b && (c && (d && e))) x y ≡ x
all_true b c d e x y p q r s = rw (p, q, r, s) refl

formed_back : (exists : List ℕ → Bool) (nonce : ℕ) (u : Undo) (bytes : List ℕ) → IsPlan nonce u
    → length bytes ≡ records_end (length u.originals) 512 u.page + length (trailer_of u.page u.super_name)
    → drop 512 bytes ≡ flat_map (record_of nonce) u.originals ++ trailer_of u.page u.super_name
    → formed exists (length u.originals) nonce u.initial 512 u.page bytes ≡ unless_missing exists u.super_name (Undoes u)
unfolding formed
formed_back exists nonce u bytes plan long behind =
    let is = sizes nonce u plan in
    let count = length u.originals in
    let all = flat_map (record_of nonce) u.originals in
    let end = trailer_of u.page u.super_name in
    let small : length end ≤ 180 = short_trailer u.page u.super_name plan.super_is in
    let last : drop (records_end count 512 u.page) bytes ≡ end =
    sym (drop-drop (count * (u.page + 8)) 512 bytes) ∙ ap (drop (count * (u.page + 8))) behind ∙ drop_at all end (count * (u.page + 8)) (length_records nonce u.page u.originals plan.pages) in
    let super : named count 512 u.page bytes ≡ u.super_name =
    named_at count u.page bytes end u.super_name is.counted (omega (arith, long)) last (trailer_of_back u.page u.super_name plan.super_is) in
    let counted_is : counted count 512 u.page bytes ≡ Some count = counted_at count u.page bytes u.super_name is.counted long super in
    let originals : played u.page u.initial nonce count (drop 512 bytes) ≡ u.originals =
    ap (played u.page u.initial nonce count) behind
    ∙ played_back u.page u.initial nonce u.originals end plan.pages plan.within (before_lock u.initial u.page is.low plan.small) is.initial_fits in
    all_true (is_size u.page) (nat_le 512 (length bytes)) (nat_le (u.initial * u.page) most_database) (nat_le (length bytes) most_journal) _ _
    plan.page_is_size (le-leb _ _ (omega (arith, long))) (le-leb _ _ plan.small) (le-leb _ _ (omega (arith, long, small, is.short)))
    ∙ ap (λ name. unless_missing exists name (play_of u.page u.initial nonce 512 name bytes (counted count 512 u.page bytes))) super
    ∙ ap (λ n. unless_missing exists u.super_name (play_of u.page u.initial nonce 512 u.super_name bytes n)) counted_is
    ∙ ap (λ rs. unless_missing exists u.super_name (Undoes (record { page = u.page; initial = u.initial; originals = rs; super_name = u.super_name }))) originals

pub read_back_holds : ReadBack
unfolding hot
read_back_holds exists nonce u plan =
    let is = sizes nonce u plan in
    let bytes = journal 217 nonce u in
    let long = length_journal 217 nonce u plan.pages in
    let behind = replicate 484 0 ++ (flat_map (record_of nonce) u.originals ++ trailer_of u.page u.super_name) in
    let numbers_are : Numbers (length u.originals) nonce u.initial 512 u.page bytes =
    numbers (length u.originals) nonce u.initial 512 u.page behind (omega (arith, is.counted)) plan.nonce_fits is.initial_fits (omega arith) (omega (arith, is.high)) in
    both_true (nat_le 28 (length bytes)) (starts_with nat_eq bytes magic) _ _ (le-leb 28 _ (omega (arith, long))) refl
    ∙ formed_at exists (length u.originals) nonce u.initial 512 u.page bytes numbers_are
    ∙ formed_back exists nonce u bytes plan long (drop_journal 217 nonce u)
