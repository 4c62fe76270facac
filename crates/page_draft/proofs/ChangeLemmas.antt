-- What changes of all slots make of their pages.
use Rattle.std.proofs.Common.{◌-◌, get_or, rules, ◌≡◌, ℕ, zero, suc, ◌≤◌, ◌∙◌, min, length-append, inl, inr, ◌++◌, ◌+◌, arith, List, [], ◌∷◌, length, take, map, refl, sym, ap, subst, Option, None, Some}
use Rattle.std.proofs.lemmas.List.{take_all, take-map, get_or-take, length-take, length-map}
use Rattle.std.proofs.lemmas.Bool.{cases_eq, cases_lt, eq-eqb, ne_eqb}
use Rattle.page_draft.proofs.ListLemmas.{more_at, slot_page}
use Rattle.page_draft.specs.Slots.{Shown, shown, put_or, read_of, marked_of, now_of, last_of, read_or, changed_slot, AllLong, AllGoodFrom, no_page}
use Rattle.page_draft.specs.declared.slot.ReadPage.{ReadPage}
use Rattle.page_draft.specs.declared.slot.Slot.{Slot}
use Rattle.page_draft.specs.Draft.{now_list, read_pages}
use Rattle.page_draft.specs.declared.draft.PageDraft.{PageDraft}
use Rattle.page_draft.specs.declared.slot.Change.TheVariants.{Mark, Undo, Discard, Keep}

put_last : (put marked : Option (List ℕ)) (page : Shown) → put_or (last_of put marked) page ≡ put_or put (put_or marked page)
put_last None marked page = refl
put_last (Some bytes) marked page = refl

read_last : (page_size : ℕ) (put marked : Option (List ℕ)) (page : ReadPage) → shown page_size (read_or (last_of put marked) page) ≡ put_or put (put_or marked (shown page_size page))
read_last page_size None None page = refl
read_last page_size None (Some bytes) page = refl
read_last page_size (Some bytes) marked page = refl

map_as : (f : Slot → Slot) (view other : Slot → Shown) → ((slot : Slot) → view (f slot) ≡ other slot) → (slots : List Slot) → map view (map f slots) ≡ map other slots
map_as f view other each [] = refl
map_as f view other each (slot ∷ slots) = λ i. each slot i ∷ map_as f view other each slots i

pub marks-read : (p : ℕ) (slots : List Slot) → map (read_of p) (map (changed_slot Mark) slots) ≡ map (read_of p) slots
marks-read p = map_as (changed_slot Mark) (read_of p) (read_of p) (λ slot. refl)

pub marks-marked : (p : ℕ) (slots : List Slot) → map (marked_of p) (map (changed_slot Mark) slots) ≡ map (now_of p) slots
marks-marked p = map_as (changed_slot Mark) (marked_of p) (now_of p) (λ slot. put_last slot.put slot.marked (read_of p slot))

pub marks-now : (p : ℕ) (slots : List Slot) → map (now_of p) (map (changed_slot Mark) slots) ≡ map (now_of p) slots
marks-now p = map_as (changed_slot Mark) (now_of p) (now_of p) (λ slot. put_last slot.put slot.marked (read_of p slot))

pub undoes-read : (p : ℕ) (slots : List Slot) → map (read_of p) (map (changed_slot Undo) slots) ≡ map (read_of p) slots
undoes-read p = map_as (changed_slot Undo) (read_of p) (read_of p) (λ slot. refl)

pub undoes-marked : (p : ℕ) (slots : List Slot) → map (marked_of p) (map (changed_slot Undo) slots) ≡ map (marked_of p) slots
undoes-marked p = map_as (changed_slot Undo) (marked_of p) (marked_of p) (λ slot. refl)

pub undoes-now : (p : ℕ) (slots : List Slot) → map (now_of p) (map (changed_slot Undo) slots) ≡ map (marked_of p) slots
undoes-now p = map_as (changed_slot Undo) (now_of p) (marked_of p) (λ slot. refl)

pub discards-read : (p : ℕ) (slots : List Slot) → map (read_of p) (map (changed_slot Discard) slots) ≡ map (read_of p) slots
discards-read p = map_as (changed_slot Discard) (read_of p) (read_of p) (λ slot. refl)

pub discards-marked : (p : ℕ) (slots : List Slot) → map (marked_of p) (map (changed_slot Discard) slots) ≡ map (read_of p) slots
discards-marked p = map_as (changed_slot Discard) (marked_of p) (read_of p) (λ slot. refl)

pub discards-now : (p : ℕ) (slots : List Slot) → map (now_of p) (map (changed_slot Discard) slots) ≡ map (read_of p) slots
discards-now p = map_as (changed_slot Discard) (now_of p) (read_of p) (λ slot. refl)

pub keeps-read : (p : ℕ) (slots : List Slot) → map (read_of p) (map (changed_slot Keep) slots) ≡ map (now_of p) slots
keeps-read p = map_as (changed_slot Keep) (read_of p) (now_of p) (λ slot. read_last p slot.put slot.marked slot.read)

pub keeps-marked : (p : ℕ) (slots : List Slot) → map (marked_of p) (map (changed_slot Keep) slots) ≡ map (now_of p) slots
keeps-marked p = map_as (changed_slot Keep) (marked_of p) (now_of p) (λ slot. read_last p slot.put slot.marked slot.read)

pub keeps-now : (p : ℕ) (slots : List Slot) → map (now_of p) (map (changed_slot Keep) slots) ≡ map (now_of p) slots
keeps-now p = map_as (changed_slot Keep) (now_of p) (now_of p) (λ slot. read_last p slot.put slot.marked slot.read)

-- ---- of the pages of changed slots

pub long-as : {page_size : ℕ} {pages other : List Shown} → pages ≡ other → AllLong page_size other → AllLong page_size pages
long-as {page_size} same each = subst (λ pages. AllLong page_size pages) (sym same) each

length-shown : (view : Slot → Shown) (slots : List Slot) → length (map view slots) ≡ length slots
length-shown view [] = refl
length-shown view (slot ∷ slots) = ap (λ n. suc n) (length-shown view slots)

-- as many as there are
pub take-shown : (view : Slot → Shown) (n : ℕ) (slots : List Slot) → length slots ≡ n → take n (map view slots) ≡ map view slots
take-shown view n slots len = take_all n (map view slots) (subst (λ k. k ≤ n) (sym (length-shown view slots)) (subst (λ k. length slots ≤ k) len (omega arith)))

-- the first of the first
take_first : {A : Type 0} (n m : ℕ) (xs : List A) → n ≤ m → take n (take m xs) ≡ take n xs
take_first zero m xs le = refl
take_first (suc n) zero xs le = absurd (omega (arith, le))
take_first (suc n) (suc m) [] le = refl
take_first (suc n) (suc m) (x ∷ xs) le = ap (λ more. x ∷ more) (take_first n m xs (omega (arith, le)))

pub first-shown : (view : Slot → Shown) (n m : ℕ) (slots : List Slot) → n ≤ m → take n (map view (take m slots)) ≡ take n (map view slots)
first-shown view n m slots le = ap (take n) (sym (take-map view m slots)) ∙ take_first n m (map view slots) le

-- ---- those that do not fail a checksum

pub good-as : {from : ℕ} {pages other : List Shown} → pages ≡ other → AllGoodFrom from other → AllGoodFrom from pages
good-as {from} same each = subst (λ pages. AllGoodFrom from pages) (sym same) each

-- none stands behind the last
pub good-none : (view : Slot → Shown) (from : ℕ) (slots : List Slot) → length slots ≤ from → AllGoodFrom from (map view slots)
good-none view from slots all = λ place past within. absurd (omega (arith, all, past, within, length-map slots view))

-- the first of them
pub good-first : (from n : ℕ) (pages : List Shown) → AllGoodFrom from pages → AllGoodFrom from (take n pages)
good-first from n pages each = λ place past within.
    let short : suc place ≤ min n (length pages) = subst (λ k. suc place ≤ k) (length-take n pages) within in
    ap (λ p. p.bad) (get_or-take n pages place no_page (omega (arith, short))) ∙ each place past (omega (arith, short))

-- one more
pub good-more : (from : ℕ) (pages : List Shown) (page : Shown) → AllGoodFrom from pages → page.bad ≡ None → AllGoodFrom from (pages ++ page ∷ [])
good-more from pages page each is = λ place past within.
    let less : suc place ≤ length pages + 1 = subst (λ k. suc place ≤ k) (length-append pages (page ∷ [])) within in
    ap (λ p. p.bad) (more_at pages page (suc place)) ∙ elim (cases_eq (suc place) (length pages + 1)) [
      | inl same ↦ rw (eq-eqb (suc place) (length pages + 1) same) is
      | inr differs ↦ rw (ne_eqb (suc place) (length pages + 1) differs) (each place past (omega (arith, less, differs)))
    ]

-- a page that does not fail as it was read does not fail as it is now
pub now-good : (p : ℕ) (slot : Slot) → (read_of p slot).bad ≡ None → (now_of p slot).bad ≡ None
now-good p slot is = put_good slot.put (marked_of p slot) (put_good slot.marked (read_of p slot) is) where
  put_good : (put : Option (List ℕ)) (page : Shown) → page.bad ≡ None → (put_or put page).bad ≡ None
  put_good None page is = is
  put_good (Some bytes) page is = refl

-- so one that fails was read
pub bad-read : (d : PageDraft) (number : ℕ) (slot : Slot) (sums : ℕ × ℕ) → 1 ≤ number → number ≤ length (now_list d) → slot ≡ get_or d.slots.items (number - 1) slot
    → (now_of d.page_size slot).bad ≡ Some sums → number ≤ (read_pages d).size
bad-read d zero slot sums least most is fails = absurd (omega (arith, least))
bad-read d (suc place) slot sums least most is fails =
    let reads = map (read_of d.page_size) d.slots.items in
    let many : length reads ≡ length (now_list d) = length-map d.slots.items (read_of d.page_size) ∙ sym (length-map d.slots.items (now_of d.page_size)) in
    elim (cases_lt place d.read_len) [
      | inl read ↦ omega (arith, read, most, many, length-take d.read_len reads)
      | inr added ↦
          let good : (read_of d.page_size slot).bad ≡ None =
          ap (λ page. page.bad) (sym (slot_page (read_of d.page_size) d.slots.items (suc place) slot least (omega (arith, many, most)) is)) ∙ d.added_good place added (omega (arith, many, most)) in
          absurd (none_some (sym (now-good d.page_size slot good) ∙ fails))
    ]
  where
    none_some : {sums : ℕ × ℕ} → None ≡ Some sums → ⊥
    none_some same = search (rules, same)
