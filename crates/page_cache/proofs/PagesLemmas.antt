-- What a page that is put or used leaves of a cache.
use Rattle.std.proofs.Common.{◌≡◌, ◌≢◌, ℕ, zero, suc, ◌-◌, ◌≤◌, ◌<◌, nat_eq, Bool, true, false, not, cond, List, [], ◌∷◌, length, take, Option, Some, None, IfSome, refl, sym, ap, subst, ◌∙◌, inl, inr, arith}
use Rattle.std.specs.List.{IsDistinct, AllByRecursion}
use Rattle.std.specs.Map.{keys_of, lookup, lookup_entry, remove_entry}
use Rattle.std.specs.Option.{option_map_or}
use Rattle.std.specs.Cmp.{nat_eq_equiv}
use Rattle.std.proofs.lemmas.List.{take-map, take_all, length-take}
use Rattle.std.proofs.lemmas.Bool.{cases_Bool}
use Rattle.std.proofs.lemmas.Bool.Decides.{eqb_tells}
use Rattle.std.proofs.lemmas.Map.Entries.{lookup-filter-keys, lookup_head, lookup_tail}
use Rattle.std.proofs.lemmas.Map.Keys.{IsDistinct-head, IsDistinct-tail, IsDistinct-cons}
use Rattle.std.proofs.lemmas.Map.Made.{IsDistinct-keys_filter}
use Rattle.lru.specs.LruCache.{lru_cache, put_entries}
use Rattle.page_cache.specs.Pages.{Pages, page_at, without, with_first, after_put, found_first, after_use, IsCache, IsSized, SamePages, Stores}

abbrev pub Entries : Type 0
Entries = List (ℕ × List ℕ)

-- no entry has the number
abbrev IsAbsent : ℕ → Entries → Type 0
IsAbsent number es = AllByRecursion (λ k. nat_eq number k ≡ false) (keys_of es)

without-absent : (number : ℕ) (es : Entries) → IsAbsent number es → without number es ≡ es
without-absent number [] none = refl
without-absent number (e ∷ es) none = rw none.0 (ap (λ l. e ∷ l) (without-absent number es none.1))

IsAbsent-head : (number : ℕ) (e : ℕ × List ℕ) (es : Entries) → number ≡ e.0 → IsDistinct nat_eq (keys_of (e ∷ es)) → IsAbsent number es
IsAbsent-head number e es same different = rw same (IsDistinct-head nat_eq e.0 (keys_of es) different)

-- the one entry of a number that goes is all that goes
remove_entry-without : (number : ℕ) (es : Entries) → IsDistinct nat_eq (keys_of es) → remove_entry (nat_eq number) es ≡ without number es
remove_entry-without number [] different = refl
remove_entry-without number (e ∷ es) different = elim (eqb_tells number e.0) [
  | inl here ↦ rw here.0 (sym (without-absent number es (IsAbsent-head number e es here.1 different)))
  | inr there ↦ rw there.0 (ap (λ l. e ∷ l) (remove_entry-without number es (IsDistinct-tail nat_eq e.0 (keys_of es) different)))
]

-- the entry of a number that is found
lookup_entry-Some : (number : ℕ) (es : Entries) (page : List ℕ) → lookup (nat_eq number) es ≡ Some page → lookup_entry (nat_eq number) es ≡ Some (number, page)
lookup_entry-Some number [] page found = cc
lookup_entry-Some number (e ∷ es) page found = elim (eqb_tells number e.0) [
  | inl here ↦ let is : Some e.1 ≡ Some page = sym (lookup_head (nat_eq number) e es here.0) ∙ found in let same : e.1 ≡ page = cc in
      rw here.0 (ap (λ n. Some (n, e.1)) (sym here.1) ∙ ap (λ p. Some (number, p)) same)
  | inr there ↦ rw there.0 (lookup_entry-Some number es page (sym (lookup_tail (nat_eq number) e es there.0) ∙ found))
]

lookup_entry-None : (number : ℕ) (es : Entries) → lookup (nat_eq number) es ≡ None → (lookup_entry (nat_eq number) es ≡ None) × IsAbsent number es
lookup_entry-None number [] none = (refl, tt)
lookup_entry-None number (e ∷ es) none = elim (eqb_tells number e.0) [
  | inl here ↦ absurd (let is : Some e.1 ≡ None = sym (lookup_head (nat_eq number) e es here.0) ∙ none in cc)
  | inr there ↦ let on = lookup_entry-None number es (sym (lookup_tail (nat_eq number) e es there.0) ∙ none) in (rw there.0 on.0, (there.0, on.1))
]

length-without : (number : ℕ) (es : Entries) → length (without number es) ≤ length es
length-without number [] = omega arith
length-without number (e ∷ es) = elim (cases_Bool (nat_eq number e.0)) [
  | inl here ↦ rw here (omega (arith, length-without number es))
  | inr there ↦ rw there (omega (arith, length-without number es))
]

length-without-found : (number : ℕ) (es : Entries) (page : List ℕ) → lookup (nat_eq number) es ≡ Some page → length (without number es) < length es
length-without-found number [] page found = cc
length-without-found number (e ∷ es) page found = elim (cases_Bool (nat_eq number e.0)) [
  | inl here ↦ rw here (omega (arith, length-without number es))
  | inr there ↦ rw there (omega (arith, length-without-found number es page (sym (lookup_tail (nat_eq number) e es there) ∙ found)))
]

IsAbsent-without : (number : ℕ) (es : Entries) → IsAbsent number (without number es)
IsAbsent-without number [] = tt
IsAbsent-without number (e ∷ es) = elim (cases_Bool (nat_eq number e.0)) [
  | inl here ↦ rw here (IsAbsent-without number es)
  | inr there ↦ rw there (there, IsAbsent-without number es)
]

IsDistinct-with_first : (number : ℕ) (page : List ℕ) (es : Entries) → IsDistinct nat_eq (keys_of es) → IsDistinct nat_eq (keys_of (with_first number page es))
IsDistinct-with_first number page es different =
    IsDistinct-cons nat_eq number (keys_of (without number es)) (IsAbsent-without number es) (IsDistinct-keys_filter nat_eq (λ e. not (nat_eq number e.0)) es different)

AllByRecursion-take : (P : ℕ → Type 0) (n : ℕ) (ks : List ℕ) → AllByRecursion P ks → AllByRecursion P (take n ks)
AllByRecursion-take P zero ks all = tt
AllByRecursion-take P (suc n) [] all = tt
AllByRecursion-take P (suc n) (k ∷ ks) all = (all.0, AllByRecursion-take P n ks all.1)

IsDistinct-take : (n : ℕ) (ks : List ℕ) → IsDistinct nat_eq ks → IsDistinct nat_eq (take n ks)
unfolding IsDistinct
IsDistinct-take zero ks different = tt
IsDistinct-take (suc n) [] different = tt
IsDistinct-take (suc n) (k ∷ ks) different = (AllByRecursion-take _ n ks different.0, IsDistinct-take n ks different.1)

-- what is found in a front is found in the whole
lookup-take : (test : ℕ → Bool) (n : ℕ) (es : Entries) → IfSome (lookup test (take n es)) (λ page. lookup test es ≡ Some page)
lookup-take test zero es = tt
lookup-take test (suc n) [] = tt
lookup-take test (suc n) (e ∷ es) = by (test e.0) (lookup-take test n es)
  where
    by : (b : Bool) → IfSome (lookup test (take n es)) (λ page. lookup test es ≡ Some page) → IfSome (cond b (Some e.1) (lookup test (take n es))) (λ page. cond b (Some e.1) (lookup test es) ≡ Some page)
    by true rest = refl
    by false rest = rest

lookup-without : (number other : ℕ) (es : Entries) → other ≢ number → lookup (nat_eq other) (without number es) ≡ lookup (nat_eq other) es
lookup-without number other es another = lookup-filter-keys (nat_eq other) (λ k. not (nat_eq number k)) true here es
  where
    here : (k : ℕ) → nat_eq other k ≡ true → not (nat_eq number k) ≡ true
    here k is = elim (eqb_tells number k) [
      | inl same ↦ elim (eqb_tells other k) [
        | inl too ↦ absurd (another (too.1 ∙ sym same.1))
        | inr apart ↦ absurd (let h : true ≡ false = sym is ∙ apart.0 in cc)
      ]
      | inr differs ↦ ap not differs.0
    ]

lookup-with_first : (number other : ℕ) (page : List ℕ) (es : Entries) → other ≢ number → lookup (nat_eq other) (with_first number page es) ≡ lookup (nat_eq other) es
lookup-with_first number other page es another = elim (eqb_tells other number) [
  | inl same ↦ absurd (another same.1)
  | inr differs ↦ lookup_tail (nat_eq other) (number, page) (without number es) differs.0 ∙ lookup-without number other es another
]

first_is_found : (number : ℕ) (page : List ℕ) (es : Entries) → lookup (nat_eq number) ((number, page) ∷ es) ≡ Some page
first_is_found number page es = lookup_head (nat_eq number) (number, page) es (nat_eq_equiv.refl number)

take-first : (n : ℕ) (e : ℕ × List ℕ) (es : Entries) → 1 ≤ n → take n (e ∷ es) ≡ e ∷ take (n - 1) es
take-first zero e es some = absurd (omega arith)
take-first (suc n) e es some = ap (λ k. e ∷ take k es) (omega arith)

module _ (pages : Pages) (cache : IsCache pages) (number : ℕ) where
  abbrev pub es : Entries
  es = pages.entries

  -- with `number` at the front there is still room, where it was there before
  with_first-fits : (page old : List ℕ) → lookup (nat_eq number) es ≡ Some old → length (with_first number page es) ≤ pages.capacity
  with_first-fits page old found = omega (arith, length-without-found number es old found, cache.fits)

  module _ (page : List ℕ) where
    abbrev after : Option (ℕ × List ℕ) → Entries
    after o = option_map_or (λ e. (e.0, page) ∷ remove_entry (nat_eq number) es) o ((number, page) ∷ take (pages.capacity - 1) es)

    put-cases : (o : Option (List ℕ)) → lookup (nat_eq number) es ≡ o → after (lookup_entry (nat_eq number) es) ≡ take pages.capacity (with_first number page es)
    put-cases None none = let absent = lookup_entry-None number es none in
        ap after absent.0 ∙ sym (take-first pages.capacity (number, page) es cache.some)
        ∙ ap (λ l. take pages.capacity ((number, page) ∷ l)) (sym (without-absent number es absent.1))
    put-cases (Some old) found =
        ap after (lookup_entry-Some number es old found) ∙ ap (λ l. (number, page) ∷ l) (remove_entry-without number es cache.different)
        ∙ sym (take_all pages.capacity (with_first number page es) (with_first-fits page old found))

    pub put_entries-is : put_entries nat_eq (lru_cache es pages.capacity) number page ≡ (after_put pages number page).entries
    put_entries-is = put-cases (lookup (nat_eq number) es) refl

    pub IsCache-put : IsCache (after_put pages number page)
    IsCache-put = record {
      different = subst (IsDistinct nat_eq) (take-map (λ e. e.0) pages.capacity (with_first number page es))
          (IsDistinct-take pages.capacity _ (IsDistinct-with_first number page es cache.different));
      fits = omega (arith, length-take pages.capacity (with_first number page es));
      some = cache.some;
    }

    pub Stores-put : Stores pages (after_put pages number page) number page
    Stores-put = record {
      stored = ap (lookup (nat_eq number)) (take-first pages.capacity (number, page) (without number es) cache.some) ∙ first_is_found number page _;
      others = λ other another. subst (λ o. IfSome (page_at (after_put pages number page) other) (λ found. o ≡ Some found)) (lookup-with_first number other page es another)
          (lookup-take (nat_eq other) pages.capacity (with_first number page es));
    }

  abbrev pub promoted-by : Option (ℕ × List ℕ) → Pages
  promoted-by o = record { entries = option_map_or (λ e. e ∷ remove_entry (nat_eq number) es) o es; capacity = pages.capacity }

  used-cases : (o : Option (List ℕ)) → lookup (nat_eq number) es ≡ o → promoted-by (lookup_entry (nat_eq number) es) ≡ found_first pages number o
  used-cases None none = ap promoted-by (lookup_entry-None number es none).0
  used-cases (Some page) found =
      ap promoted-by (lookup_entry-Some number es page found)
      ∙ ap (λ l. record { entries = (number, page) ∷ l; capacity = pages.capacity }) (remove_entry-without number es cache.different)

  pub promoted-is : promoted-by (lookup_entry (nat_eq number) es) ≡ after_use pages number
  promoted-is = used-cases (page_at pages number) refl

  IsCache-cases : (o : Option (List ℕ)) → lookup (nat_eq number) es ≡ o → IsCache (found_first pages number o)
  IsCache-cases None none = cache
  IsCache-cases (Some page) found = record { different = IsDistinct-with_first number page es cache.different; fits = with_first-fits page page found; some = cache.some }

  pub IsCache-used : IsCache (after_use pages number)
  IsCache-used = IsCache-cases (page_at pages number) refl

  same-cases : (o : Option (List ℕ)) → lookup (nat_eq number) es ≡ o → SamePages pages (found_first pages number o)
  same-cases None none = record { each = λ other. refl }
  same-cases (Some page) found = record {
    each = λ other. elim (eqb_tells other number) [
      | inl same ↦ lookup_head (nat_eq other) (number, page) (without number es) same.0 ∙ sym found ∙ ap (λ n. lookup (nat_eq n) es) (sym same.1)
      | inr apart ↦ lookup-with_first number other page es apart.1
    ];
  }

  pub SamePages-used : SamePages pages (after_use pages number)
  SamePages-used = same-cases (page_at pages number) refl

pub IsSized-same : (size : ℕ) (old new : Pages) → SamePages old new → IsSized size old → IsSized size new
IsSized-same size old new same sized = record { each = λ number. rw (same.each number) (sized.each number) }

-- what is found as before has the length that it had
sized_before : (size : ℕ) (before found : Option (List ℕ)) → IfSome before (λ page. length page ≡ size) → IfSome found (λ page. before ≡ Some page) → IfSome found (λ page. length page ≡ size)
sized_before size before None sized same = tt
sized_before size before (Some page) sized same = rw same at sized

pub IsSized-stores : (size number : ℕ) (page : List ℕ) (old new : Pages) → Stores old new number page → length page ≡ size → IsSized size old → IsSized size new
IsSized-stores size number page old new stores long sized = record {
  each = λ other. elim (eqb_tells other number) [
    | inl same ↦ rw (ap (page_at new) same.1 ∙ stores.stored) long
    | inr apart ↦ sized_before size (page_at old other) (page_at new other) (sized.each other) (stores.others other apart.1)
  ];
}
