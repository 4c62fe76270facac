-- A header that is accepted is one that a write takes.
use Rattle.std.proofs.Common.{◌≡◌, ℕ, ◌+◌, ◌*◌, ◌-◌, ◌≤◌, ◌/◌, ◌%◌, nat_eq, nat_lt, Bool, true, false, not, ◌||◌, List, get_or, Option, Some, None, Ok, refl, subst, arith, inl, inr}
use Rattle.std.specs.Option.{IfSome}
use Rattle.std.proofs.Math.Nat.{mod-eq-sub-mul-div, mul-div-le}
use Rattle.std.proofs.lemmas.Grind.{common_steps}
use Rattle.std.proofs.lemmas.Bool.{cases_lt}
use Rattle.db_format.specs.declared.header.Header.{Header}
use Rattle.db_format.specs.Header.{page_of, is_no_database, is_other_page, is_other_reserve, is_corrupt, fields_of, header_of, ok_unless, Fits, AcceptedFits}
use Rattle.db_format.proofs.HeaderLemmas.{IsAccepted, page_size_kept}
use Rattle.db_format.proofs.ReadLemmas.{was_accepted}

both : (a b : Bool) → a || b ≡ false → (a ≡ false) × (b ≡ false)
both true b none = cc
both false b none = (refl, none)

is_number : (a b : ℕ) → not (nat_eq a b) ≡ false → a ≡ b
is_number a b same = grind (arith, common_steps)

not_less : (a b : ℕ) → nat_lt a b ≡ false → b ≤ a
not_less a b below = grind (arith, common_steps)

layer_kept : (bytes : List ℕ) (cksum : Option ℕ) → is_other_page bytes cksum ≡ false → is_other_reserve bytes cksum ≡ false
    → IfSome cksum (λ page. (page_of bytes ≡ page) × (get_or bytes 20 0 ≡ 8))
unfolding is_other_page is_other_reserve
layer_kept bytes None page reserve = tt
layer_kept bytes (Some size) page reserve = (is_number _ _ (both _ _ page).1, is_number _ _ (both _ _ reserve).1)

usable_kept : (bytes : List ℕ) (cksum : Option ℕ) → is_other_reserve bytes cksum ≡ false → 480 + get_or bytes 20 0 ≤ page_of bytes
unfolding is_other_reserve
usable_kept bytes cksum reserve = not_less _ _ (both _ _ reserve).0

long_kept : (bytes : List ℕ) (len : ℕ) → is_no_database bytes len ≡ false → 100 ≤ len
unfolding is_no_database
long_kept bytes len database = not_less _ _ (both _ _ database).0

whole_kept : (bytes : List ℕ) (len : ℕ) → is_corrupt bytes len ≡ false → len % page_of bytes ≡ 0
unfolding is_corrupt
whole_kept bytes len sound = is_number _ _ (both _ _ (both _ _ sound).1).0

some_pages : (page len : ℕ) → 100 ≤ len → len % page ≡ 0 → 1 ≤ len / page
some_pages page len long whole = elim (cases_lt 0 (len / page)) [
  | inl some ↦ omega (arith, some)
  | inr none ↦ absurd (no_rest (len / page) (omega (arith, none)) (mod-eq-sub-mul-div len page))
]
  where
    no_rest : (pages : ℕ) → pages ≡ 0 → len % page ≡ len - page * pages → ⊥
    no_rest pages none rest =
        let P : ℕ → Type 0 = λ n. len % page ≡ len - page * n in
        omega (arith, long, whole, subst P none rest)

pub fields_fit : (bytes : List ℕ) (len : ℕ) (cksum : Option ℕ) → IsAccepted bytes len cksum → Fits (fields_of bytes len) cksum
fields_fit bytes len cksum a = record {
  page_size = page_size_kept bytes cksum a.page;
  usable = usable_kept bytes cksum a.reserve;
  layer = layer_kept bytes cksum a.page a.reserve;
  some = some_pages (page_of bytes) len (long_kept bytes len a.database) (whole_kept bytes len a.sound);
  small = omega (arith, mul-div-le len (page_of bytes), not_less _ _ a.small);
}

read_fields : (bytes : List ℕ) (len : ℕ) (cksum : Option ℕ) (h : Header) → header_of bytes len cksum ≡ Ok h → fields_of bytes len ≡ h
read_fields bytes len cksum h read = of_none _ _ _ read
  where
    of_none : (fault : Option _) (fields was : Header) → ok_unless fault fields ≡ Ok was → fields ≡ was
    of_none None fields was e = cc
    of_none (Some fault) fields was e = cc

pub accepted_fits_holds : AcceptedFits
accepted_fits_holds bytes len cksum h read =
    let P : Header → Type 0 = λ x. Fits x cksum in
    subst P (read_fields bytes len cksum h read) (fields_fit bytes len cksum (was_accepted bytes len cksum h read))
