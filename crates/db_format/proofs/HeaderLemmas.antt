use Rattle.std.proofs.Common.{◌≡◌, ℕ, nat_eq, Bool, true, false, not, ◌&&◌, ◌||◌, List, ◌∷◌, get_or, Option, None, IsTrue, refl, arith, nat_lt}
use Rattle.std.specs.Bool.{then_some}
use Rattle.std.proofs.lemmas.Grind.{common_steps}
use Rattle.db_format.specs.Header.{is_page_size, IsPageSize, page_of, is_no_database, is_other_page, is_other_reserve, is_fresh, is_corrupt, greatest_length, refusals, first_of}
use Rattle.byte_base.specs.Numbers.{number_at}
use Rattle.db_format.specs.declared.header.HeaderFault.{HeaderFault}

pub not_first : (a b : Bool) → not a || b ≡ false → a ≡ true
not_first true b none = refl
not_first false b none = cc

-- each of them lies within the bounds
pub page_size_bounds : (size : ℕ) → IsTrue (is_page_size size) → IsPageSize size
page_size_bounds size is = record { power = is; least = grind (arith, common_steps); most = grind (arith, common_steps) }

-- a page size that is not refused is one
pub page_size_kept : (bytes : List ℕ) (cksum : Option ℕ) → is_other_page bytes cksum ≡ false → IsPageSize (page_of bytes)
unfolding is_other_page
page_size_kept bytes cksum not_other = page_size_bounds (page_of bytes) (not_first _ _ not_other)

-- where no refusal is found, the first of them does not hold, and none of the rest is found
passed : (b : Bool) (fault : HeaderFault) (rest : List (Option HeaderFault)) → first_of (then_some b fault ∷ rest) ≡ None → (b ≡ false) × (first_of rest ≡ None)
passed true fault rest none = cc
passed false fault rest none = (refl, none)

-- no fact of a refusal holds
pub record IsAccepted (bytes : List ℕ) (len : ℕ) (cksum : Option ℕ) : Type 0 where
  pub database : is_no_database bytes len ≡ false
  pub page : is_other_page bytes cksum ≡ false
  pub write_version : not (nat_eq (get_or bytes 18 0) 1) ≡ false
  pub read_version : not (nat_eq (get_or bytes 19 0) 1) ≡ false
  pub reserve : is_other_reserve bytes cksum ≡ false
  pub schema : not (nat_eq (number_at 4 bytes 44) 4) && not (is_fresh bytes) ≡ false
  pub vacuum : not (nat_eq (number_at 4 bytes 52) 0) ≡ false
  pub encoding : not (nat_eq (number_at 4 bytes 56) 1) && not (is_fresh bytes) ≡ false
  pub small : nat_lt greatest_length len ≡ false
  pub sound : is_corrupt bytes len ≡ false

-- nothing is refused where no fact holds
pub accepted_none : (bytes : List ℕ) (len : ℕ) (cksum : Option ℕ) → IsAccepted bytes len cksum → first_of (refusals bytes len cksum) ≡ None
accepted_none bytes len cksum a = rw (a.database, a.page, a.write_version, a.read_version, a.reserve, a.schema, a.vacuum, a.encoding, a.small, a.sound) refl

pub none_accepted : (bytes : List ℕ) (len : ℕ) (cksum : Option ℕ) → first_of (refusals bytes len cksum) ≡ None → IsAccepted bytes len cksum
none_accepted bytes len cksum none =
    let h1 = passed _ _ _ none in
    let h2 = passed _ _ _ h1.1 in
    let h3 = passed _ _ _ h2.1 in
    let h4 = passed _ _ _ h3.1 in
    let h5 = passed _ _ _ h4.1 in
    let h6 = passed _ _ _ h5.1 in
    let h7 = passed _ _ _ h6.1 in
    let h8 = passed _ _ _ h7.1 in
    let h9 = passed _ _ _ h8.1 in
    let h10 = passed _ _ _ h9.1 in
    record { database = h1.0; page = h2.0; write_version = h3.0; read_version = h4.0; reserve = h5.0; schema = h6.0; vacuum = h7.0; encoding = h8.0; small = h9.0; sound = h10.0 }
