-- What a page given to a freelist leaves.
use Rattle.std.proofs.Common.{◌≡◌, ◌≢◌, ◌⊎◌, inl, inr, ℕ, ◌+◌, ◌-◌, ◌*◌, ◌≤◌, ◌<◌, nat_lt, min, Bool, true, false}
use Rattle.std.proofs.Common.{if◌then◌else◌, List, [], ◌∷◌, ◌++◌, length, slice_index, get_or, replicate, refl, sym, ap, ◌∙◌, subst, arith, length-append}
use Rattle.std.proofs.lemmas.List.{get_or_append_left, get_or-append_right, length-replicate}
use Rattle.std.proofs.lemmas.Bool.{cases_lt, eq-eqb, ne_eqb, lt-ltb, le-ltb}
use Rattle.byte_base.specs.Numbers.{number_at, with_number}
use Rattle.page_list.specs.Pages.{Pages, HasPage, times, Among, AreSized}
use Rattle.page_list.specs.Freelist.{Trunk, IsTrunk, AreTrunks, IsFreelist, first_trunk, free_count, next_trunk}
use Rattle.page_list.specs.Freelist.{leaf_count, leaf_at, free_pages, full, most_leaves, give_to, with_leaf}
use Rattle.page_list.specs.Edits.{cleared, count_more, leaf_given, trunk_given, after_give}
use Rattle.page_list.specs.Laws.{LeavesFreelist, GivesOne, Gives}
use Rattle.page_list.proofs.TimesLemmas.{same_or_other, times-append, among-here}
use Rattle.page_list.proofs.NumberLemmas.{with-long, with-there, with-other, cleared-number, zeros-number}
use Rattle.page_list.proofs.EditLemmas.{HeadFrom, head_counted, head_named, Edited, edited_both, other_page}
use Rattle.page_list.proofs.FreelistLemmas.{times-first, free-long, trunks-free, first_of, next_fits, few_free, trunks_stay}

-- what giving says, of what the freelist is then and of the pages
record Given (page_size : ℕ) (old : Pages) (trunks grown : List Trunk) (number : ℕ) (new : Pages) : Type 0 where
  count : (n : ℕ) → times n (free_pages grown) ≡ times n (number ∷ free_pages trunks)
  size : new.size ≡ old.size
  leaves : LeavesFreelist page_size old new trunks grown (number ∷ [])

gives_one : (page_size : ℕ) (old : Pages) (trunks grown : List Trunk) (number : ℕ) (new : Pages) → after_give page_size number old ≡ new
    → give_to old.usable number trunks ≡ grown → Given page_size old trunks grown number new → GivesOne page_size old trunks number
gives_one page_size old trunks grown number new new_is grown_is given =
    let P : Pages → Type 0 = λ p. Given page_size old trunks grown number p in
    let Q : List Trunk → Type 0 = λ l. Given page_size old trunks l number (after_give page_size number old) in
    let g = subst Q (sym grown_is) (subst P (sym new_is) given) in
    record { count = g.count; size = g.size; leaves = g.leaves }

-- the freelist has the page besides those that it had
record More (trunks grown : List Trunk) (number : ℕ) : Type 0 where
  counts : (n : ℕ) → times n (free_pages grown) ≡ times n (number ∷ []) + times n (free_pages trunks)
  long : length (free_pages grown) ≡ length (free_pages trunks) + 1

-- a page that can be given: it is there, is not page 1 and is not free
record CanGive (pages : Pages) (trunks : List Trunk) (number : ℕ) : Type 0 where
  there : HasPage pages number
  behind : 2 ≤ number
  fresh : ¬ (Among (free_pages trunks) number)

given_from : (page_size : ℕ) (old new : Pages) (trunks grown : List Trunk) (number at : ℕ) → old.size < 4294967296 → Edited page_size old new at
    → IsFreelist old trunks → CanGive old trunks number → More trunks grown number → (at ≡ number) ⊎ Among (free_pages trunks) at
    → AreTrunks new (first_trunk new) grown
    → (min (free_count old + 1) 4294967295 < 4294967296 → free_count new ≡ min (free_count old + 1) 4294967295) → Given page_size old trunks grown number new
given_from page_size old new trunks grown number at few edited is can more touched linked count =
    let joined = more.counts in
    let freelist : IsFreelist new grown = record {
      linked = linked;
      within = λ n inside. elim (same_or_other n number) as (λ _. HasPage new n × (2 ≤ n)) [
        | inl same ↦
            let P : ℕ → Type 0 = λ m. HasPage new m × (2 ≤ m) in
            let there = can.there in
            subst P same.0 (record { least = there.least; most = omega (arith, there.most, edited.size) }, can.behind)
        | inr other ↦
            let was = is.within n (omega (arith, joined n, inside, other.1)) in
            (record { least = was.0.least; most = omega (arith, was.0.most, edited.size) }, was.1)
      ];
      different = record {
        once = λ n. elim (same_or_other n number) as (λ _. times n (free_pages grown) ≤ 1) [
          | inl same ↦
              let P : ℕ → Type 0 = λ m. ¬ (Among (free_pages trunks) m) in
              let none = subst P same.0 can.fresh in omega (arith, joined n, same.1, none)
          | inr other ↦ omega (arith, joined n, other.1, is.different.once n)
        ];
      };
    } in
    record {
      count = λ n. omega (arith, joined n);
      size = edited.size;
      leaves = record {
        freelist = freelist;
        used = edited.used;
        others = λ n not_1 out beside. edited.each n not_1 (λ e. elim touched as (λ _. ⊥) [
          | inl given ↦ let P : ℕ → Type 0 = λ m. Among (number ∷ []) m in beside (subst P (sym (e ∙ given)) (among-here number []))
          | inr free ↦ let P : ℕ → Type 0 = λ m. Among (free_pages trunks) m in out (subst P (sym e) free)
        ]);
        good = edited.good;
        first = edited.first;
        counts = λ counted.
            let bound = few_free new grown freelist in
            omega (arith, counted, more.long, bound, few, edited.size, count (omega arith));
        sized = edited.sized;
      };
    }

-- a new first trunk
gave_trunk : (page_size : ℕ) (old : Pages) (trunks : List Trunk) (number : ℕ) → AreSized page_size old → IsFreelist old trunks → CanGive old trunks number
    → Given page_size old trunks (record { number = number; leaves = [] } ∷ trunks) number (trunk_given page_size number old)
gave_trunk page_size old trunks number sized is can =
    let least = sized.least in
    let behind = can.behind in
    let there = can.there in
    let most = there.most in
    let some : 1 ≤ old.size = omega arith in
    let long = sized.each 1 (record { least = omega arith; most = some }) in
    let room : old.usable ≤ length (old.bytes 1) = omega (arith, sized.most, long) in
    let other : number ≢ 1 = λ e. omega arith in
    let next : ℕ = first_trunk old in
    let fits : next < 4294967296 = next_fits old next trunks sized.few is.linked (λ n inside. (is.within n inside).0) in
    let zeros : List ℕ = replicate page_size 0 in
    let zeros_long : length zeros ≡ page_size = length-replicate page_size 0 in
    let content : List ℕ = with_number 4 0 next zeros in
    let zeros_room : old.usable ≤ length zeros = omega (arith, sized.most) in
    let content_long : length content ≡ length zeros = with-long 0 next zeros (omega arith) in
    let content_room : old.usable ≤ length content = omega arith in
    let count : ℕ = min (free_count old + 1) 4294967295 in
    let head : HeadFrom old.usable (old.bytes 1) (cleared old.usable (count_more old (with_number 4 32 number (old.bytes 1)))) number count =
    head_named old.usable (old.bytes 1) number count (omega arith) room (omega (arith, sized.few)) in
    let new : Pages = trunk_given page_size number old in
    let edited : Edited page_size old new number =
    edited_both page_size old number content (count_more old (with_number 4 32 number (old.bytes 1))) number count sized some (content_long ∙ zeros_long) head in
    let at : (place : ℕ) → place + 4 ≤ old.usable → number_at 4 (new.bytes number) place ≡ number_at 4 content place =
    λ place below. ap (λ (b : List ℕ). number_at 4 b place) (other_page old number content (count_more old (with_number 4 32 number (old.bytes 1))) other)
    ∙ cleared-number old.usable content place content_room below in
    let trunk : Trunk = record { number = number; leaves = [] } in
    let P : ℕ → Type 0 = λ n. AreTrunks new n trunks in
    let next_is : next ≡ next_trunk new number = sym (at 0 (omega arith) ∙ with-there 0 next zeros fits (omega arith)) in
    given_from page_size old new trunks (trunk ∷ trunks) number number sized.few edited is can
    (record { counts = λ n. omega (arith, times-first n trunk trunks); long = omega (arith, free-long trunk trunks) })
    (inl refl) (
      sym head.trunk_is,
      record {
        counted = at 4 (omega arith) ∙ with-other 0 next zeros 4 (omega arith) (inr (omega arith)) ∙ zeros-number page_size 4;
        few = omega arith;
        each = λ i within. absurd (omega arith);
      },
      subst P next_is (trunks_stay old new next trunks refl
          (λ n inside.
          let free = trunks-free n trunks inside in
          let low = (is.within n free).1 in
          (edited.each n (λ e. omega arith) (λ e. let Q : ℕ → Type 0 = λ m. Among (free_pages trunks) m in can.fresh (subst Q e free))).bytes_stay)
          is.linked),
    )
    head.count_is

-- a leaf more of the first trunk
leaf_room : (usable leaves : ℕ) → 480 ≤ usable → leaves < full usable → (8 + 4 * leaves + 4 ≤ usable) × (leaves + 1 ≤ most_leaves usable)
leaf_room usable leaves least few = (omega arith, omega arith)

gave_leaf : (page_size : ℕ) (old : Pages) (trunk : Trunk) (more : List Trunk) (number : ℕ) → AreSized page_size old → IsFreelist old (trunk ∷ more)
    → length trunk.leaves < full old.usable → CanGive old (trunk ∷ more) number
    → Given page_size old (trunk ∷ more) (with_leaf trunk number ∷ more) number (leaf_given trunk.number number old)
gave_leaf page_size old trunk more number sized is few can =
    let first = first_of old trunk more is in
    let trunk_is = is.linked.1 in
    let least = sized.least in
    let some : 1 ≤ old.size = omega (arith, first.there.least, first.there.most) in
    let long = sized.each 1 (record { least = omega arith; most = some }) in
    let room : old.usable ≤ length (old.bytes 1) = omega (arith, sized.most, long) in
    let leaves : ℕ = leaf_count old trunk.number in
    let leaves_are : leaves ≡ length trunk.leaves = trunk_is.counted in
    let place : ℕ = 8 + 4 * leaves in
    let rooms = leaf_room old.usable leaves least (omega arith) in
    let place_room : place + 4 ≤ old.usable = rooms.0 in
    let page : List ℕ = old.bytes trunk.number in
    let page_long = sized.each trunk.number first.there in
    let page_room : old.usable ≤ length page = omega (arith, sized.most, page_long) in
    let mid : List ℕ = with_number 4 4 (leaves + 1) page in
    let mid_long : length mid ≡ length page = with-long 4 (leaves + 1) page (omega arith) in
    let content : List ℕ = with_number 4 place number mid in
    let content_long : length content ≡ length mid = with-long place number mid (omega arith) in
    let content_room : old.usable ≤ length content = omega arith in
    let other : trunk.number ≢ 1 = λ e. let behind = first.behind_first in omega arith in
    let count : ℕ = min (free_count old + 1) 4294967295 in
    let head : HeadFrom old.usable (old.bytes 1) (cleared old.usable (count_more old (old.bytes 1))) (first_trunk old) count =
    head_counted old.usable (old.bytes 1) count (omega arith) room in
    let new : Pages = leaf_given trunk.number number old in
    let edited : Edited page_size old new trunk.number =
    edited_both page_size old trunk.number content (count_more old (old.bytes 1)) (first_trunk old) count sized some (content_long ∙ mid_long ∙ page_long) head in
    let at : (p : ℕ) → p + 4 ≤ old.usable → number_at 4 (new.bytes trunk.number) p ≡ number_at 4 content p =
    λ p below. ap (λ (b : List ℕ). number_at 4 b p) (other_page old trunk.number content (count_more old (old.bytes 1)) other)
    ∙ cleared-number old.usable content p content_room below in
    let beside : (p : ℕ) → p + 4 ≤ place → (p + 4 ≤ 4) ⊎ (4 + 4 ≤ p) → number_at 4 (new.bytes trunk.number) p ≡ number_at 4 page p =
    λ p before out. at p (omega arith) ∙ with-other place number mid p (omega arith) (inl before) ∙ with-other 4 (leaves + 1) page p (omega arith) out in
    let next_stays : next_trunk old trunk.number ≡ next_trunk new trunk.number = sym (beside 0 (omega arith) (inl (omega arith))) in
    let one_more : length (trunk.leaves ++ number ∷ []) ≡ length trunk.leaves + 1 = length-append trunk.leaves (number ∷ []) in
    let grown : IsTrunk new (with_leaf trunk number) = record {
      counted = at 4 (omega arith) ∙ with-other place number mid 4 (omega arith) (inl (omega arith))
          ∙ with-there 4 (leaves + 1) page (omega (arith, sized.most, sized.short)) (omega arith) ∙ ap (λ n. n + 1) leaves_are ∙ sym one_more;
      few = omega (arith, one_more, rooms.1);
      each = λ i within. elim (cases_lt i (length trunk.leaves)) as (λ _. leaf_at new trunk.number i ≡ slice_index (trunk.leaves ++ number ∷ []) i) [
        | inl before ↦ beside (8 + 4 * i) (omega arith) (inr (omega arith)) ∙ trunk_is.each i before ∙ sym (get_or_append_left trunk.leaves (number ∷ []) 0 i before)
        | inr behind ↦
            let last : i ≡ length trunk.leaves = omega (arith, within, one_more, behind) in
            let zero_left : i - length trunk.leaves ≡ 0 = omega arith in
            ap (λ n. leaf_at new trunk.number n) (last ∙ sym leaves_are) ∙ at place place_room
            ∙ with-there place number mid (omega (arith, sized.few, can.there.most)) (omega arith)
            ∙ sym (ap (λ n. get_or (number ∷ []) n 0) zero_left)
            ∙ sym (get_or-append_right trunk.leaves (number ∷ []) (length trunk.leaves) i 0 refl behind)
      ];
    } in
    let P : ℕ → Type 0 = λ n. AreTrunks new n more in
    given_from page_size old new (trunk ∷ more) (with_leaf trunk number ∷ more) number trunk.number sized.few edited is can
    (record {
      counts = λ n. omega (arith, times-first n trunk more, times-first n (with_leaf trunk number) more, times-append n trunk.leaves (number ∷ []));
      long = omega (arith, free-long trunk more, free-long (with_leaf trunk number) more, one_more);
    })
    (inr (among-here trunk.number (trunk.leaves ++ free_pages more))) (
      is.linked.0 ∙ sym head.trunk_is,
      grown,
      subst P next_stays (trunks_stay old new (next_trunk old trunk.number) more refl
          (λ n inside.
          let free = trunks-free n more inside in
          let low = first.rest_behind n free in
          (edited.each n (λ e. omega arith)
          (λ e. let Q : ℕ → Type 0 = λ m. Among (free_pages more) m in let met = subst Q e free in let alone = first.alone in omega arith)).bytes_stay)
          is.linked.2),
    )
    head.count_is

-- which of the two it is
none_case : (page_size number : ℕ) (old : Pages) → first_trunk old ≡ 0 → after_give page_size number old ≡ trunk_given page_size number old
unfolding after_give
none_case page_size number old none = let e = eq-eqb (first_trunk old) 0 none in rw e refl

leaf_case : (page_size number : ℕ) (old : Pages) → first_trunk old ≢ 0 → leaf_count old (first_trunk old) < full old.usable
    → after_give page_size number old ≡ leaf_given (first_trunk old) number old
unfolding after_give
leaf_case page_size number old some few =
    let a = ne_eqb (first_trunk old) 0 some in
    let b = lt-ltb (leaf_count old (first_trunk old)) (full old.usable) few in
    rw (a, b) refl

full_case : (page_size number : ℕ) (old : Pages) → first_trunk old ≢ 0 → full old.usable ≤ leaf_count old (first_trunk old)
    → after_give page_size number old ≡ trunk_given page_size number old
unfolding after_give
full_case page_size number old some many =
    let a = ne_eqb (first_trunk old) 0 some in
    let b = le-ltb (leaf_count old (first_trunk old)) (full old.usable) many in
    rw (a, b) refl

pub give_keeps_holds : Gives
give_keeps_holds page_size old [] number sized good is there behind fresh =
    gives_one page_size old [] (record { number = number; leaves = [] } ∷ []) number (trunk_given page_size number old)
    (none_case page_size number old is.linked) refl
    (gave_trunk page_size old [] number sized is (record { there = there; behind = behind; fresh = fresh }))
give_keeps_holds page_size old (trunk ∷ more) number sized good is there behind fresh =
    let first = first_of old trunk more is in
    let named : trunk.number ≡ first_trunk old = is.linked.0 in
    let low = first.behind_first in
    let is_some : first_trunk old ≢ 0 = λ e. omega arith in
    let count : leaf_count old (first_trunk old) ≡ length trunk.leaves = ap (λ n. leaf_count old n) (sym named) ∙ is.linked.1.counted in
    let can : CanGive old (trunk ∷ more) number = record { there = there; behind = behind; fresh = fresh } in
    let new : Trunk = record { number = number; leaves = [] } in
    elim (cases_lt (length trunk.leaves) (full old.usable)) as (λ _. GivesOne page_size old (trunk ∷ more) number) [
      | inl few ↦
          let e : nat_lt (length trunk.leaves) (full old.usable) ≡ true = lt-ltb (length trunk.leaves) (full old.usable) few in
          gives_one page_size old (trunk ∷ more) (with_leaf trunk number ∷ more) number (leaf_given trunk.number number old)
          (leaf_case page_size number old is_some (omega arith) ∙ ap (λ n. leaf_given n number old) (sym named))
          (ap (λ (b : Bool). if b then with_leaf trunk number ∷ more else new ∷ trunk ∷ more) e)
          (gave_leaf page_size old trunk more number sized is few can)
      | inr many ↦
          let e : nat_lt (length trunk.leaves) (full old.usable) ≡ false = le-ltb (length trunk.leaves) (full old.usable) many in
          gives_one page_size old (trunk ∷ more) (new ∷ trunk ∷ more) number (trunk_given page_size number old)
          (full_case page_size number old is_some (omega arith))
          (ap (λ (b : Bool). if b then with_leaf trunk number ∷ more else new ∷ trunk ∷ more) e)
          (gave_trunk page_size old (trunk ∷ more) number sized is can)
    ]
