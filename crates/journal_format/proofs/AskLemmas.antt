-- Which names exist decides only whether what a journal stands for is played back.
use Rattle.std.proofs.Common.{◌≡◌, ℕ, nat_eq, nat_le, ◌&&◌, ◌||◌, Bool, true, false, if◌then◌else◌, List, length, Option, Some, None, refl}
use Rattle.std.specs.Prelude.{is_some}
use Rattle.std.specs.List.{starts_with}
use Rattle.byte_base.specs.Numbers.{number_at}
use Rattle.journal_format.specs.Journal.{Hot, Cold, Foreign, magic, all_exist, unless_missing, play_of, of_form, no_count, records_end, formed, hot}
use Rattle.journal_format.specs.Laws.{asked, Asked}

pub all_there : (name : Option (List ℕ)) (h : Hot) → unless_missing all_exist name h ≡ h
all_there None h = refl
all_there (Some name) h = refl

module _ (exists : List ℕ → Bool) where
  under_foreign : (b : Bool) (x y : Hot) → x ≡ asked exists y → (if b then x else Foreign) ≡ asked exists (if b then y else Foreign)
  under_foreign true x y e = e
  under_foreign false x y e = refl

  under_cold : (b : Bool) (x y : Hot) → x ≡ asked exists y → (if b then x else Cold) ≡ asked exists (if b then y else Cold)
  under_cold true x y e = e
  under_cold false x y e = refl

  -- a journal that names no super-journal, and one of these sizes and counts: all, none, exact, and what is named
  module _ (page initial nonce sector : ℕ) (bytes : List ℕ) where
    no_name : (count : Option ℕ) → play_of page initial nonce sector None bytes count ≡ asked exists (play_of page initial nonce sector None bytes count)
    no_name None = refl
    no_name (Some n) = refl

    asked_count : (all none exact : Bool) (name : Option (List ℕ)) (most : Option ℕ) (n : ℕ) →
        let super = if all then None else name in
        let count = if none then Some 0 else (if all then most else (if exact || is_some super then Some n else None)) in
        unless_missing exists super (play_of page initial nonce sector super bytes count) ≡ asked exists (unless_missing all_exist super (play_of page initial nonce sector super bytes count))
    asked_count true none exact name most n = no_name (if none then Some 0 else most)
    asked_count false none exact None most n = no_name (if none then Some 0 else (if exact || false then Some n else None))
    asked_count false true exact (Some name) most n = refl
    asked_count false false true (Some name) most n = refl
    asked_count false false false (Some name) most n = refl

  asked_formed : (count nonce initial sector page : ℕ) (bytes : List ℕ) → formed exists count nonce initial sector page bytes ≡ asked exists (formed all_exist count nonce initial sector page bytes)
  unfolding formed
  asked_formed count nonce initial sector page bytes =
      under_foreign (of_form sector page initial (length bytes)) _ _
      (asked_count page initial nonce sector bytes (nat_eq count no_count) (nat_eq count 0) (nat_eq (length bytes) (records_end count sector page)) _ _ count)

pub asked_holds : Asked
unfolding hot
asked_holds exists bytes =
    under_cold exists (nat_le 28 (length bytes) && starts_with nat_eq bytes magic) _ _
    (asked_formed exists (number_at 4 bytes 8) (number_at 4 bytes 12) (number_at 4 bytes 16) (number_at 4 bytes 20) (number_at 4 bytes 24) bytes)
