-- A page that is not there has no bytes.
use Rattle.std.proofs.Common.{◌≡◌, ℕ, zero, suc, ◌-◌, ◌≤◌, nat_eq, false, Option, None, List, [], length, refl, ap, ◌∙◌, arith, tests}
use Rattle.std.proofs.Math.Seq.{drop-nil}
use Rattle.std.proofs.lemmas.Option.{slice_get_past}
use Rattle.byteorder.specs.Endian.{big_number}
use Rattle.page_list.specs.Pages.{HasPage, word}
use Rattle.byte_base.specs.Numbers.{number_at}
use Rattle.ref_pages.specs.Listed.{listed, item_of, bytes_in}
use Rattle.ref_pages.specs.declared.pages.RefPage.{RefPage}

number_none : (place : ℕ) → number_at 4 [] place ≡ 0
unfolding number_at
number_none place = ap (big_number 4) (drop-nil place)

some_number : (n : ℕ) → nat_eq (suc n) 0 ≡ false
some_number n = grind (arith, tests)

beyond : (size n : ℕ) → ¬ (suc n ≤ size) → size ≤ suc n - 1
beyond size n none = omega (arith, none)

no_item : (usable : ℕ) (items : List RefPage) (number : ℕ) → ¬ (HasPage (listed usable items) number) → item_of items number ≡ None
no_item usable items zero none = refl
no_item usable items (suc n) none =
    let past : length items ≤ suc n - 1 = beyond (length items) n (λ within. none (record { least = omega arith; most = within })) in
    rw (some_number n) (slice_get_past items (suc n - 1) past)

pub word_none : (usable : ℕ) (items : List RefPage) (number place : ℕ) → ¬ (HasPage (listed usable items) number) → word (listed usable items) number place ≡ 0
word_none usable items number place none = ap (λ (item : Option RefPage). number_at 4 (bytes_in item) place) (no_item usable items number none) ∙ number_none place
