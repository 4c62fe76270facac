-- The header is accepted as before where only the counter, the size, the freelist, the cookie and the version change.
use Rattle.std.proofs.Common.{◌≡◌, ◌⊎◌, inl, inr, ℕ, ◌+◌, ◌*◌, ◌-◌, ◌≤◌, ◌<◌, nat_eq, nat_lt, false, not, ◌||◌, cond, List, [], ◌∷◌, ◌++◌, length, take, drop, slice_index, get_or, Option, Some, None, IsOk, refl, sym, ap, ap₂, subst, ◌∙◌, arith, length-append, length-take, length-drop}
use lib.Pointwise.{pointwise}
use Rattle.std.proofs.lemmas.Bool.{cases_lt}
use Rattle.std.proofs.lemmas.Grind.{common_steps, same_number_lists}
use Rattle.std.proofs.lemmas.List.{get_or-drop, get_or-take, get_or-append_right, get_or_append_left, drop_all, take_all, length-take-le}
use Rattle.std.specs.Option.{option_map_or}
use Rattle.byte_base.specs.Numbers.{number_at}
use Rattle.db_format.specs.Header.{title, header_of, ok_unless, first_of, refusals, fields_of, page_of, is_page_size, has_size, has_fractions, is_no_database, is_other_page, is_other_reserve, is_fresh, is_corrupt}
use Rattle.db_format.specs.declared.header.Header.{Header}
use Rattle.db_format.specs.declared.header.HeaderFault.{HeaderFault}
use Rattle.db_format.proofs.PutLemmas.{same_number}
use Rattle.tree_model.specs.Whole.{unsized_header}
use Rattle.tree_model.proofs.SizeLemmas.{longer_accepted, no_size, zeros_at}
use Rattle.tree_laws.specs.Front.{HeaderStays}

-- a place before the counter, or between the cookie and the version
abbrev Stays : ℕ → Type 0
Stays place = (place < 24) ⊎ ((44 ≤ place) × (place < 92))

abbrev zeros : List ℕ
zeros = 0 ∷ 0 ∷ 0 ∷ 0 ∷ []

abbrev unsized : List ℕ → List ℕ
unsized bytes = take 28 bytes ++ (zeros ++ drop 32 bytes)

behind_end : (bytes : List ℕ) (k : ℕ) → length bytes ≤ k → slice_index bytes k ≡ 0
behind_end bytes k short = grind (arith, common_steps)

-- a byte of a header without its size
unsized_byte : (bytes : List ℕ) (k : ℕ) → Stays k → slice_index (unsized bytes) k ≡ slice_index bytes k
unsized_byte bytes k stays = elim (cases_lt (length bytes) 28) [
  | inl short ↦
      let none : drop 32 bytes ≡ [] = drop_all 32 bytes (omega (arith, short)) in
      let whole : take 28 bytes ≡ bytes = take_all 28 bytes (omega (arith, short)) in
      ap₂ (λ (a b : List ℕ). slice_index (a ++ (zeros ++ b)) k) whole none
      ∙ elim (cases_lt k (length bytes)) [
        | inl within ↦ get_or_append_left bytes zeros 0 k within
        | inr behind ↦
            get_or-append_right bytes zeros (length bytes) k 0 refl behind
            ∙ zeros_at (k - length bytes)
            ∙ sym (behind_end bytes k behind)
      ]
  | inr long ↦
      let front : length (take 28 bytes) ≡ 28 = length-take-le 28 bytes long in
      elim stays [
        | inl before ↦ get_or_append_left (take 28 bytes) (zeros ++ drop 32 bytes) 0 k (omega (arith, before, front)) ∙ get_or-take 28 bytes k 0 (omega (arith, before))
        | inr behind ↦
            get_or-append_right (take 28 bytes) (zeros ++ drop 32 bytes) 28 k 0 front (omega (arith, behind.0))
            ∙ get_or-append_right zeros (drop 32 bytes) 4 (k - 28) 0 refl (omega (arith, behind.0))
            ∙ get_or-drop 32 bytes (k - 28 - 4) 0
            ∙ ap (λ n. slice_index bytes n) (omega (arith, behind.0))
      ]
]

unsized_length : (a b : List ℕ) → length a ≡ length b → length (unsized a) ≡ length (unsized b)
unsized_length a b same =
    omega (
      arith,
      same,
      length-append (take 28 a) (zeros ++ drop 32 a),
      length-append (take 28 b) (zeros ++ drop 32 b),
      length-append zeros (drop 32 a),
      length-append zeros (drop 32 b),
      length-take 28 a,
      length-take 28 b,
      length-drop 32 a,
      length-drop 32 b,
    )

-- two headers with the same bytes at these places
record SameParts (xs ys : List ℕ) : Type 0 where
  front : take 16 xs ≡ take 16 ys
  byte : (place : ℕ) → Stays place → get_or xs place 0 ≡ get_or ys place 0
  number : (width place : ℕ) → (place + width ≤ 24) ⊎ ((44 ≤ place) × (place + width ≤ 92)) → number_at width xs place ≡ number_at width ys place

same_parts : (xs ys : List ℕ) → length xs ≡ length ys → ((place : ℕ) → Stays place → slice_index xs place ≡ slice_index ys place) → SameParts xs ys
same_parts xs ys long same = record {
  front = same_number_lists (take 16 xs) (take 16 ys) (omega (arith, length-take 16 xs, length-take 16 ys))
      (λ k within. let less : k < 16 = omega (arith, length-take 16 xs) in get_or-take 16 xs k 0 less ∙ same k (inl (omega arith)) ∙ sym (get_or-take 16 ys k 0 less));
  byte = same;
  number = λ width place stays. elim stays [
    | inl before ↦ same_number width place xs ys (λ k low high. same k (inl (omega arith)))
    | inr behind ↦ same_number width place xs ys (λ k low high. let low' = behind.0 in let high' = behind.1 in same k (inr (omega arith, omega arith)))
  ];
}

same_page : (xs ys : List ℕ) → SameParts xs ys → page_of xs ≡ page_of ys
unfolding page_of
same_page xs ys same = ap (λ n. cond (nat_eq n 1) 65536 n) (same.number 2 16 (inl (omega arith)))

same_database : (xs ys : List ℕ) (len : ℕ) → SameParts xs ys → is_no_database xs len ≡ is_no_database ys len
unfolding is_no_database
same_database xs ys len same = ap (λ front. nat_lt len 100 || not (pointwise nat_eq title front)) same.front

same_other_page : (xs ys : List ℕ) → SameParts xs ys → is_other_page xs None ≡ is_other_page ys None
unfolding is_other_page
same_other_page xs ys same = ap (λ page. not (is_page_size page) || option_map_or (λ layer. not (nat_eq page layer)) None false) (same_page xs ys same)

same_reserve : (xs ys : List ℕ) → SameParts xs ys → is_other_reserve xs None ≡ is_other_reserve ys None
unfolding is_other_reserve
same_reserve xs ys same = rw (same_page xs ys same, same.byte 20 (inl (omega arith))) refl

same_fresh : (xs ys : List ℕ) → SameParts xs ys → is_fresh xs ≡ is_fresh ys
unfolding is_fresh
same_fresh xs ys same = rw (same.number 4 44 (inr (omega arith, omega arith)), same.number 4 56 (inr (omega arith, omega arith))) refl

same_corrupt : (xs ys : List ℕ) (len : ℕ) → SameParts xs ys → has_size xs ≡ false → has_size ys ≡ false → is_corrupt xs len ≡ is_corrupt ys len
unfolding is_corrupt has_fractions
same_corrupt xs ys len same none none' =
    rw (none, none', same_page xs ys same, same.byte 21 (inl (omega arith)), same.byte 22 (inl (omega arith)), same.byte 23 (inl (omega arith))) refl

-- they are refused alike, where neither says a size
same_refusals : (xs ys : List ℕ) (len : ℕ) → SameParts xs ys → has_size xs ≡ false → has_size ys ≡ false → first_of (refusals xs len None) ≡ first_of (refusals ys len None)
same_refusals xs ys len same none none' =
    rw (
      same_database xs ys len same,
      same_other_page xs ys same,
      same.number 2 16 (inl (omega arith)),
      same.byte 18 (inl (omega arith)),
      same.byte 19 (inl (omega arith)),
      same_reserve xs ys same,
      same.byte 20 (inl (omega arith)),
      same.number 4 44 (inr (omega arith, omega arith)),
      same_fresh xs ys same,
      same.number 4 52 (inr (omega arith, omega arith)),
      same.number 4 56 (inr (omega arith, omega arith)),
      same_corrupt xs ys len same none none',
    ) refl

other_fields : (fault fault' : Option HeaderFault) (a b : Header) → fault ≡ fault' → IsOk (ok_unless fault a) → IsOk (ok_unless fault' b)
other_fields fault fault' a b same ok = let P : Option HeaderFault → Type 0 = λ f. IsOk (ok_unless f b) in subst P same (by fault ok)
  where
    by : (f : Option HeaderFault) → IsOk (ok_unless f a) → IsOk (ok_unless f b)
    by None ok = refl
    by (Some f) ok = ok

same_accepted : (xs ys : List ℕ) (size : ℕ) → SameParts xs ys → has_size xs ≡ false → has_size ys ≡ false
    → IsOk (header_of xs (page_of xs * size) None) → IsOk (header_of ys (page_of ys * size) None)
same_accepted xs ys size same none none' ok =
    let P : ℕ → Type 0 = λ page. IsOk (header_of ys (page * size) None) in
    let len : ℕ = page_of xs * size in
    subst P (same_page xs ys same)
    (other_fields (first_of (refusals xs len None)) (first_of (refusals ys len None)) (fields_of xs len) (fields_of ys len) (same_refusals xs ys len same none none') ok)

pub header_stays : HeaderStays
header_stays old new has used changes admits =
    let before : List ℕ = unsized_header old in
    let after : List ℕ = unsized_header new in
    let same : SameParts before after =
    same_parts before after (sym (unsized_length (new.bytes 1) (old.bytes 1) changes.fields.long))
    (λ place stays. unsized_byte (old.bytes 1) place stays ∙ sym (changes.fields.same place stays) ∙ sym (unsized_byte (new.bytes 1) place stays)) in
    record {
      there = changes.there;
      good = changes.good;
      accepted = same_accepted before after new.size same (no_size (old.bytes 1)) (no_size (new.bytes 1))
          (longer_accepted before old.size new.size (no_size (old.bytes 1)) admits.0 admits.1 has.accepted);
      used = sym (same_page before after same) ∙ has.used ∙ ap₂ (λ (u b : ℕ). u + b) (sym used) (same.byte 20 (inl (omega arith)));
      reserve = omega (arith, same.byte 20 (inl (omega arith)), has.reserve);
    }
