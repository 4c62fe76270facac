-- Lists of pages: one put, one more, and all changed.
use Rattle.std.proofs.Common.{◌≡◌, ℕ, zero, suc, ◌+◌, ◌-◌, ◌<◌, ◌≤◌, ◌∙◌, nat_eq, if◌then◌else◌, Bool, true, false, List, [], ◌∷◌, ◌++◌, length, take, map, set, replicate, get_or, get_or-set_same, get_or-set_other, length-set, length-append, refl, sym, ap, subst, arith, inl, inr, min, None}
use Rattle.std.proofs.lemmas.Bool.{cases_eq, eq-eqb, ne_eqb}
use Rattle.std.proofs.lemmas.List.{get_or-take, get_or-map, length-map, length-take}
use Rattle.page_list.specs.Edits.{with_page, grown}
use Rattle.page_draft.specs.Slots.{Shown, good, no_page, page_at, pages_of, AllLong}
use Rattle.page_draft.specs.declared.slot.Slot.{Slot}
use Rattle.page_draft.specs.Draft.{with_last}

-- ---- all changed, one after the other

unfoldable pub front : {A : Type 0} → (A → A) → List A → ℕ → List A
front f xs zero = xs
front f [] (suc i) = []
front f (x ∷ xs) (suc i) = f x ∷ front f xs i

pub front-none : {A : Type 0} (f : A → A) (xs : List A) → xs ≡ front f xs 0
unfolding front
front-none f xs = refl

front-suc : {A : Type 0} (f : A → A) (xs : List A) (i : ℕ) (d : A) → i < length xs → set (front f xs i) i (f (get_or (front f xs i) i d)) ≡ front f xs (suc i)
unfolding front
front-suc f [] i d there = absurd (omega (arith, there))
front-suc f (x ∷ xs) zero d there = refl
front-suc f (x ∷ xs) (suc i) d there = ap (λ more. f x ∷ more) (front-suc f xs i d (omega (arith, there)))

pub front-step : {A : Type 0} (f : A → A) (xs : List A) (i : ℕ) (d : A) → i < length xs → set (front f xs i) i (f (get_or (front f xs i) i d)) ≡ front f xs (i + 1)
front-step f xs i d there = front-suc f xs i d there ∙ ap (λ n. front f xs n) (omega arith)

pub front-all : {A : Type 0} (f : A → A) (xs : List A) (i : ℕ) → length xs ≤ i → front f xs i ≡ map f xs
unfolding front
front-all f [] zero all = refl
front-all f [] (suc i) all = refl
front-all f (x ∷ xs) zero all = absurd (omega (arith, all))
front-all f (x ∷ xs) (suc i) all = ap (λ more. f x ∷ more) (front-all f xs i (omega (arith, all)))

-- ---- a page put

set_bytes : (pages : List Shown) (place number other : ℕ) (content : List ℕ) → number ≡ place + 1 → place < length pages
    → (page_at (set pages place (good content)) other).bytes ≡ (if nat_eq other number then content else (page_at pages other).bytes)
set_bytes pages place number zero content is there = rw (ne_eqb 0 number (λ e. omega (arith, is, e))) refl
set_bytes pages place number (suc other) content is there = elim (cases_eq other place) [
  | inl same ↦ rw (eq-eqb (suc other) number (omega (arith, same, is)))
      (ap (λ n. (page_at (set pages place (good content)) (suc n)).bytes) same ∙ ap (λ p. p.bytes) (get_or-set_same pages place (good content) no_page there))
  | inr differs ↦ rw (ne_eqb (suc other) number (λ e. differs (omega (arith, e, is)))) (ap (λ p. p.bytes) (get_or-set_other pages place other (good content) no_page differs))
]

set_bad : (pages : List Shown) (place number other : ℕ) (content : List ℕ) → number ≡ place + 1 → place < length pages
    → (page_at (set pages place (good content)) other).bad ≡ (if nat_eq other number then None else (page_at pages other).bad)
set_bad pages place number zero content is there = rw (ne_eqb 0 number (λ e. omega (arith, is, e))) refl
set_bad pages place number (suc other) content is there = elim (cases_eq other place) [
  | inl same ↦ rw (eq-eqb (suc other) number (omega (arith, same, is)))
      (ap (λ n. (page_at (set pages place (good content)) (suc n)).bad) same ∙ ap (λ p. p.bad) (get_or-set_same pages place (good content) no_page there))
  | inr differs ↦ rw (ne_eqb (suc other) number (λ e. differs (omega (arith, e, is)))) (ap (λ p. p.bad) (get_or-set_other pages place other (good content) no_page differs))
]

pub put_pages : (pages : List Shown) (usable place number : ℕ) (content : List ℕ) → number ≡ place + 1 → place < length pages
    → pages_of usable (set pages place (good content)) ≡ with_page number content (pages_of usable pages)
put_pages pages usable place number content is there = λ i. record {
  size = length-set pages place (good content) i;
  usable = usable;
  bytes = λ n. set_bytes pages place number n content is there i;
  bad = λ n. set_bad pages place number n content is there i;
}

-- ---- a page more

pub more_at : (pages : List Shown) (page : Shown) (n : ℕ) → page_at (pages ++ page ∷ []) n ≡ (if nat_eq n (length pages + 1) then page else page_at pages n)
more_at pages page zero = rw (ne_eqb 0 (length pages + 1) (λ e. omega (arith, e))) refl
more_at [] page (suc zero) = refl
more_at [] page (suc (suc n)) = rw (ne_eqb (suc (suc n)) 1 (λ e. omega (arith, e))) refl
more_at (x ∷ pages) page (suc zero) = rw (ne_eqb 1 (length (x ∷ pages) + 1) (λ e. omega (arith, e))) refl
more_at (x ∷ pages) page (suc (suc n)) = elim (cases_eq (suc n) (length pages + 1)) [
  | inl same ↦ rw (eq-eqb (suc (suc n)) (length (x ∷ pages) + 1) (omega (arith, same))) (more_at pages page (suc n) ∙ rw (eq-eqb (suc n) (length pages + 1) same) refl)
  | inr differs ↦ rw (ne_eqb (suc (suc n)) (length (x ∷ pages) + 1) (λ e. differs (omega (arith, e)))) (more_at pages page (suc n) ∙ rw (ne_eqb (suc n) (length pages + 1) differs) refl)
]

if_bytes : (b : Bool) (x y : Shown) → (if b then x else y).bytes ≡ (if b then x.bytes else y.bytes)
if_bytes true x y = refl
if_bytes false x y = refl

if_bad : (b : Bool) (x y : Shown) → (if b then x else y).bad ≡ (if b then x.bad else y.bad)
if_bad true x y = refl
if_bad false x y = refl

pub more_pages : (pages : List Shown) (usable : ℕ) (page : Shown) → pages_of usable (pages ++ page ∷ []) ≡ with_last page (pages_of usable pages)
more_pages pages usable page = λ i. record {
  size = length-append pages (page ∷ []) i;
  usable = usable;
  bytes = λ n. (ap (λ p. p.bytes) (more_at pages page n) ∙ if_bytes (nat_eq n (length pages + 1)) page (page_at pages n)) i;
  bad = λ n. (ap (λ p. p.bad) (more_at pages page n) ∙ if_bad (nat_eq n (length pages + 1)) page (page_at pages n)) i;
}

pub grown_pages : (pages : List Shown) (usable page_size : ℕ) → pages_of usable (pages ++ good (replicate page_size 0) ∷ []) ≡ grown page_size (pages_of usable pages)
grown_pages pages usable page_size = more_pages pages usable (good (replicate page_size 0))

-- ---- as long as a page

pub long-set : (page_size : ℕ) (pages : List Shown) (place : ℕ) (content : List ℕ) → AllLong page_size pages → length content ≡ page_size → AllLong page_size (set pages place (good content))
long-set page_size pages place content each long = λ other there.
    let within = subst (λ n. other < n) (length-set pages place (good content)) there in
    elim (cases_eq other place) [
      | inl same ↦ ap (λ n. length (get_or (set pages place (good content)) n no_page).bytes) same
          ∙ ap (λ p. length p.bytes) (get_or-set_same pages place (good content) no_page (omega (arith, same, within))) ∙ long
      | inr differs ↦ ap (λ p. length p.bytes) (get_or-set_other pages place other (good content) no_page differs) ∙ each other within
    ]

pub long-more : (page_size : ℕ) (pages : List Shown) (page : Shown) → AllLong page_size pages → length page.bytes ≡ page_size → AllLong page_size (pages ++ page ∷ [])
long-more page_size [] page each long zero there = long
long-more page_size [] page each long (suc place) there = absurd (omega (arith, there))
long-more page_size (x ∷ pages) page each long zero there = each 0 (omega arith)
long-more page_size (x ∷ pages) page each long (suc place) there =
    long-more page_size pages page (λ at within. each (suc at) (omega (arith, within))) long place (omega (arith, there))

-- ---- the page of a slot

pub slot_page : (view : Slot → Shown) (slots : List Slot) (number : ℕ) (slot : Slot) → 1 ≤ number → number ≤ length (map view slots) → slot ≡ get_or slots (number - 1) slot
    → page_at (map view slots) number ≡ view slot
slot_page view slots zero slot least most is = absurd (omega (arith, least))
slot_page view slots (suc place) slot least most is =
    get_or-map view slots place slot no_page (subst (λ n. suc place ≤ n) (length-map slots view) most) ∙ ap (λ n. view (get_or slots n slot)) (omega arith) ∙ ap view (sym is)

pub page_long : (page_size : ℕ) (pages : List Shown) (number : ℕ) → AllLong page_size pages → 1 ≤ number → number ≤ length pages → length (page_at pages number).bytes ≡ page_size
page_long page_size pages zero each least most = absurd (omega (arith, least))
page_long page_size pages (suc place) each least most = each place (omega (arith, most))

-- the same of one of the first
pub first_page : (view : Slot → Shown) (n : ℕ) (slots : List Slot) (number : ℕ) (slot : Slot) → 1 ≤ number → number ≤ length (take n (map view slots)) → slot ≡ get_or slots (number - 1) slot
    → page_at (take n (map view slots)) number ≡ view slot
first_page view n slots zero slot least most is = absurd (omega (arith, least))
first_page view n slots (suc place) slot least most is =
    let within : suc place ≤ min n (length (map view slots)) = subst (λ k. suc place ≤ k) (length-take n (map view slots)) most in
    get_or-take n (map view slots) place no_page (omega (arith, within)) ∙ slot_page view slots (suc place) slot least (omega (arith, within)) is
