use Rattle.std.proofs.Common.{◌≡◌, ℕ, ◌+◌, ◌≤◌, ◌<◌, nat_eq, nat_lt, false, not, ◌||◌, cond, List, get_or, take, Option, refl, ap, arith}
use Rattle.std.proofs.lemmas.List.{get_or-take, take-take}
use lib.Pointwise.{pointwise}
use Rattle.std.specs.Option.{option_map_or}
use Rattle.db_format.specs.Header.{title, is_page_size, page_of, has_size, has_fractions, is_no_database, is_other_page, is_other_reserve, is_fresh, is_corrupt, header_of}
use Rattle.byte_base.specs.Numbers.{number_at}
use Rattle.db_format.proofs.PutLemmas.{same_number}

-- two lists of bytes with the same first 100
pub record SameFront (xs ys : List ℕ) : Type 0 where
  pub front : take 16 xs ≡ take 16 ys
  pub byte : (place : ℕ) → place < 100 → get_or xs place 0 ≡ get_or ys place 0
  pub number : (width place : ℕ) → place + width ≤ 100 → number_at width xs place ≡ number_at width ys place

same_page : (xs ys : List ℕ) → SameFront xs ys → page_of xs ≡ page_of ys
unfolding page_of
same_page xs ys same = ap (λ n. cond (nat_eq n 1) 65536 n) (same.number 2 16 (omega arith))

same_database : (xs ys : List ℕ) (len : ℕ) → SameFront xs ys → is_no_database xs len ≡ is_no_database ys len
unfolding is_no_database
same_database xs ys len same = ap (λ front. nat_lt len 100 || not (pointwise nat_eq title front)) same.front

same_other_page : (xs ys : List ℕ) (cksum : Option ℕ) → SameFront xs ys → is_other_page xs cksum ≡ is_other_page ys cksum
unfolding is_other_page
same_other_page xs ys cksum same =
    ap (λ page. not (is_page_size page) || option_map_or (λ layer. not (nat_eq page layer)) cksum false) (same_page xs ys same)

same_reserve : (xs ys : List ℕ) (cksum : Option ℕ) → SameFront xs ys → is_other_reserve xs cksum ≡ is_other_reserve ys cksum
unfolding is_other_reserve
same_reserve xs ys cksum same = rw (same_page xs ys same, same.byte 20 (omega arith)) refl

same_fresh : (xs ys : List ℕ) → SameFront xs ys → is_fresh xs ≡ is_fresh ys
unfolding is_fresh
same_fresh xs ys same = rw (same.number 4 44 (omega arith), same.number 4 56 (omega arith)) refl

same_corrupt : (xs ys : List ℕ) (len : ℕ) → SameFront xs ys → is_corrupt xs len ≡ is_corrupt ys len
unfolding is_corrupt has_fractions has_size
same_corrupt xs ys len same =
    rw (
      same_page xs ys same,
      same.byte 21 (omega arith),
      same.byte 22 (omega arith),
      same.byte 23 (omega arith),
      same.number 4 24 (omega arith),
      same.number 4 28 (omega arith),
      same.number 4 92 (omega arith),
    ) refl

-- they are read alike
same_header : (xs ys : List ℕ) (len : ℕ) (cksum : Option ℕ) → SameFront xs ys → header_of xs len cksum ≡ header_of ys len cksum
same_header xs ys len cksum same =
    rw (
      same_database xs ys len same,
      same_other_page xs ys cksum same,
      same.number 2 16 (omega arith),
      same.byte 18 (omega arith),
      same.byte 19 (omega arith),
      same_reserve xs ys cksum same,
      same.byte 20 (omega arith),
      same.number 4 44 (omega arith),
      same_fresh xs ys same,
      same.number 4 52 (omega arith),
      same.number 4 56 (omega arith),
      same_corrupt xs ys len same,
      same_page xs ys same,
      same.number 4 24 (omega arith),
      same.number 4 32 (omega arith),
      same.number 4 36 (omega arith),
      same.number 4 40 (omega arith),
    ) refl

pub header_in_front : (bytes : List ℕ) (len : ℕ) (cksum : Option ℕ) → header_of (take 100 bytes) len cksum ≡ header_of bytes len cksum
header_in_front bytes len cksum = same_header (take 100 bytes) bytes len cksum record {
  front = take-take 16 100 bytes (omega arith);
  byte = λ place within. get_or-take 100 bytes place 0 within;
  number = λ width place within. same_number width place (take 100 bytes) bytes (λ k low high. get_or-take 100 bytes k 0 (omega arith));
}
