-- The pages that are named and those that are not are all pages.
use Rattle.std.proofs.Common.{◌≡◌, inl, inr, ℕ, zero, suc, ◌+◌, ◌≤◌, ◌<◌, List, [], ◌∷◌, length, refl, arith, length-append}
use Rattle.std.proofs.lemmas.Bool.{cases_lt}
use Rattle.std.proofs.lemmas.Bool.Decides.{nat_tests}
use Rattle.page_list.specs.Pages.{times, Among, AllDifferent}
use Rattle.page_list.specs.Freelist.{free_pages}
use Rattle.page_list.proofs.ChainLemmas.{among-here, among-cons}
use Rattle.tree_model.specs.Whole.{used_pages, named_pages}
use Rattle.tree_laws.specs.Whole.{missing_in, PagesAddUp}
use Rattle.tree_laws.proofs.RangeLemmas.{named_there}

-- how many places of a list have a number from 1 to a bound
abbrev pub tally : List ℕ → ℕ → ℕ
tally numbers zero = 0
tally numbers (suc n) = times (suc n) numbers + tally numbers n

-- in a list of different numbers these and the missing ones are all numbers up to the bound
tally_missing : (numbers : List ℕ) (size : ℕ) → AllDifferent numbers → tally numbers size + length (missing_in numbers size) ≡ size
tally_missing numbers zero different = refl
tally_missing numbers (suc n) different =
    let rest = tally_missing numbers n different in
    let once = different.once (suc n) in
    grind (arith, nat_tests, rest, once)

tally_none : (size : ℕ) → tally [] size ≡ 0
tally_none zero = refl
tally_none (suc n) = omega (arith, tally_none n)

tally_cons : (x : ℕ) (numbers : List ℕ) (size : ℕ) → tally (x ∷ numbers) size ≡ tally (x ∷ []) size + tally numbers size
tally_cons x numbers zero = refl
tally_cons x numbers (suc n) = omega (arith, tally_cons x numbers n)

tally_above : (x size : ℕ) → size < x → tally (x ∷ []) size ≡ 0
tally_above x zero above = refl
tally_above x (suc n) above = let rest = tally_above x n (omega (arith, above)) in grind (arith, nat_tests, rest, above)

tally_one : (x size : ℕ) → 1 ≤ x → x ≤ size → tally (x ∷ []) size ≡ 1
tally_one x zero least most = absurd (omega (arith, least, most))
tally_one x (suc n) least most = elim (cases_lt n x) [
  | inl last ↦ let rest = tally_above x n last in let here : x ≡ suc n = omega (arith, last, most) in grind (arith, nat_tests, rest, here)
  | inr before ↦ let rest = tally_one x n least before in grind (arith, nat_tests, rest, before)
]

-- where all are up to the bound, that is the length of the list
pub tally_all : (numbers : List ℕ) (size : ℕ) → ((n : ℕ) → Among numbers n → (1 ≤ n) × (n ≤ size)) → tally numbers size ≡ length numbers
tally_all [] size within = tally_none size
tally_all (x ∷ numbers) size within =
    let here = within x (among-here x numbers) in
    omega (arith, tally_cons x numbers size, tally_one x size here.0 here.1, tally_all numbers size (λ n some. within n (among-cons n x numbers some)))

pub pages_add_up : PagesAddUp
pages_add_up pages roots trees trunks whole =
    let named : List ℕ = named_pages roots trees trunks in
    let all = tally_all named pages.size (λ n some. let there = named_there pages roots trees trunks whole n some in (there.least, there.most)) in
    omega (arith, all, tally_missing named pages.size whole.different, length-append (used_pages roots trees) (free_pages trunks))
