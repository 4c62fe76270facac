-- Pages in memory, one of them put.
use Rattle.std.proofs.Common.{◌≡◌, ℕ, zero, suc, ◌+◌, ◌<◌, nat_eq, if◌then◌else◌, Bool, true, false, List, [], length, set, Option, None, refl, ap, ◌∙◌, inl, inr, arith, get_or-set_other, get_or-set_same, length-set}
use Rattle.std.proofs.lemmas.Bool.{cases_eq, eq-eqb, ne_eqb}
use Rattle.page_list.specs.Pages.{Pages}
use Rattle.page_list.specs.Edits.{with_page}
use Rattle.page_pool.specs.Memory.{page_at}

put_at : (pages : List (List ℕ)) (place number other : ℕ) (content : List ℕ) → number ≡ place + 1 → place < length pages
    → page_at (set pages place content) other ≡ (if nat_eq other number then content else page_at pages other)
put_at pages place number zero content is there = rw (ne_eqb 0 number (λ e. omega (arith, is, e))) refl
put_at pages place number (suc other) content is there = elim (cases_eq other place) [
  | inl same ↦ rw (eq-eqb (suc other) number (omega (arith, same, is))) (ap (λ n. page_at (set pages place content) (suc n)) same ∙ get_or-set_same pages place content [] there)
  | inr differs ↦ rw (ne_eqb (suc other) number (λ e. differs (omega (arith, e, is)))) (get_or-set_other pages place other content [] differs)
]

-- the pages in memory
abbrev pages_of : ℕ → List (List ℕ) → Pages
pages_of usable items = record { size = length items; usable = usable; bytes = page_at items; bad = λ _. None }

none_at : (b : Bool) → ◌≡◌ {A = Option (ℕ × ℕ)} None (if b then None else None)
none_at true = refl
none_at false = refl

pub put_pages : (pages : List (List ℕ)) (usable place number : ℕ) (content : List ℕ) → number ≡ place + 1 → place < length pages
    → pages_of usable (set pages place content) ≡ with_page number content (pages_of usable pages)
put_pages pages usable place number content is there = λ i. record {
  size = length-set pages place content i;
  usable = usable;
  bytes = λ n. put_at pages place number n content is there i;
  bad = λ n. none_at (nat_eq n number) i;
}
