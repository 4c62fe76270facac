-- What a page taken from a freelist leaves.
use Rattle.std.proofs.Common.{◌≡◌, ◌≢◌, ◌⊎◌, inl, inr, ℕ, ◌+◌, ◌-◌, ◌*◌, ◌≤◌, ◌<◌, nat_lt, Bool, true, false, if◌then◌else◌}
use Rattle.std.proofs.Common.{List, [], ◌∷◌, ◌++◌, length, slice_index, take, drop, replicate, refl, sym, ap, ◌∙◌, subst, arith}
use Rattle.std.proofs.lemmas.List.{length-take-le, get_or-take, length-replicate}
use Rattle.std.proofs.lemmas.Bool.{cases_lt, eq-eqb, ne_eqb, lt-ltb, le-ltb}
use Rattle.byte_base.specs.Numbers.{number_at, with_number}
use Rattle.page_list.specs.Pages.{Pages, HasPage, IsGood, SamePage, times, Among, AreSized}
use Rattle.page_list.specs.Freelist.{Trunk, IsTrunk, AreTrunks, IsFreelist, first_trunk, free_count, next_trunk}
use Rattle.page_list.specs.Freelist.{leaf_count, leaf_at, free_pages, most_leaves, taken_page, take_from, without_last}
use Rattle.page_list.specs.Edits.{cleared, count_less, grown, leaf_taken, trunk_taken, taken_number, after_take}
use Rattle.page_list.specs.Laws.{LeavesFreelist, TakesOne, Takes}
use Rattle.page_list.proofs.TimesLemmas.{times-same, times-other, times-last, among-here}
use Rattle.page_list.proofs.NumberLemmas.{with-long, with-there, with-other, cleared-number}
use Rattle.page_list.proofs.EditLemmas.{HeadFrom, head_counted, head_named, Edited, edited_one, edited_both, other_page, page-beside, page-good, page-long}
use Rattle.page_list.proofs.FreelistLemmas.{times-first, free-long, trunks-free, first_of, next_fits, few_free, trunks_stay}

-- what taking says, of this page and of what is left of the freelist and of the pages
record Taken (page_size : ℕ) (old : Pages) (trunks left : List Trunk) (number : ℕ) (new : Pages) : Type 0 where
  behind : 2 ≤ number
  there : HasPage new number
  came : Among (free_pages trunks) number ⊎ ((trunks ≡ []) × (number ≡ old.size + 1))
  apart : ¬ (Among (free_pages left) number)
  rest : (n : ℕ) → n ≢ number → times n (free_pages left) ≡ times n (free_pages trunks)
  size : ((trunks ≡ []) × (new.size ≡ old.size + 1)) ⊎ ((trunks ≢ []) × (new.size ≡ old.size))
  leaves : LeavesFreelist page_size old new trunks left (number ∷ [])

takes_one : (page_size : ℕ) (old : Pages) (trunks left : List Trunk) (number : ℕ) (new : Pages) → taken_number old ≡ number → after_take page_size old ≡ new
    → take_from trunks ≡ left → number ≡ taken_page old.size trunks → Taken page_size old trunks left number new → TakesOne page_size old trunks
takes_one page_size old trunks left number new number_is new_is left_is is taken =
    let P : ℕ → Type 0 = λ n. Taken page_size old trunks left n new in
    let Q : Pages → Type 0 = λ p. Taken page_size old trunks left (taken_number old) p in
    let R : List Trunk → Type 0 = λ l. Taken page_size old trunks l (taken_number old) (after_take page_size old) in
    let t = subst R (sym left_is) (subst Q (sym new_is) (subst P (sym number_is) taken)) in
    record {
      is = number_is ∙ is;
      behind = t.behind;
      there = t.there;
      came = t.came;
      apart = t.apart;
      rest = t.rest;
      size = t.size;
      leaves = t.leaves;
    }

-- the page was free: what is left are the other pages
record Fewer (trunks left : List Trunk) (number : ℕ) : Type 0 where
  counts : (n : ℕ) → times n (free_pages trunks) ≡ times n (free_pages left) + times n (number ∷ [])
  long : length (free_pages trunks) ≡ length (free_pages left) + 1

taken_from : (page_size : ℕ) (old new : Pages) (trunks left : List Trunk) (number at : ℕ) → old.size < 4294967296 → Edited page_size old new at
    → IsFreelist old trunks → trunks ≢ [] → Fewer trunks left number → (at ≡ 1) ⊎ Among (free_pages trunks) at
    → AreTrunks new (first_trunk new) left → (free_count old - 1 < 4294967296 → free_count new ≡ free_count old - 1) → Taken page_size old trunks left number new
taken_from page_size old new trunks left number at few edited is some fewer touched linked count =
    let split = fewer.counts in
    let one = times-same number in
    let among : Among (free_pages trunks) number = omega (arith, split number) in
    let was = is.within number among in
    record {
      behind = was.1;
      there = record { least = was.0.least; most = omega (arith, was.0.most, edited.size) };
      came = inl among;
      apart = λ again. omega (arith, again, split number, is.different.once number);
      rest = λ n other. omega (arith, split n, times-other n number (λ e. other (sym e)));
      size = inr (some, edited.size);
      leaves = record {
        freelist = record {
          linked = linked;
          within = λ n inside.
              let before = is.within n (omega (arith, split n, inside)) in
              (record { least = before.0.least; most = omega (arith, before.0.most, edited.size) }, before.1);
          different = record { once = λ n. omega (arith, split n, is.different.once n) };
        };
        used = edited.used;
        others = λ n not_1 out beside. edited.each n not_1 (λ e. elim touched as (λ _. ⊥) [
          | inl first ↦ not_1 (e ∙ first)
          | inr free ↦ let P : ℕ → Type 0 = λ m. Among (free_pages trunks) m in out (subst P (sym e) free)
        ]);
        good = edited.good;
        first = edited.first;
        counts = λ counted.
            let bound = few_free old trunks is in
            omega (arith, counted, fewer.long, count (omega (arith, counted, bound, few)));
        sized = edited.sized;
      };
    }

-- the trunk is taken
took_trunk : (page_size : ℕ) (old : Pages) (trunk : Trunk) (more : List Trunk) → AreSized page_size old → IsFreelist old (trunk ∷ more)
    → length trunk.leaves ≡ 0 → Taken page_size old (trunk ∷ more) more trunk.number (trunk_taken trunk.number old)
took_trunk page_size old trunk more sized is none =
    let first = first_of old trunk more is in
    let some : 1 ≤ old.size = omega (arith, first.there.least, first.there.most) in
    let long = sized.each 1 (record { least = omega arith; most = some }) in
    let room : old.usable ≤ length (old.bytes 1) = omega (arith, sized.most, long) in
    let next : ℕ = next_trunk old trunk.number in
    let fits : next < 4294967296 = next_fits old next more sized.few is.linked.2
    (λ n inside. (is.within n (omega (arith, times-first n trunk more, inside))).0) in
    let head : HeadFrom old.usable (old.bytes 1) (cleared old.usable (count_less old (with_number 4 32 next (old.bytes 1)))) next (free_count old - 1) =
    head_named old.usable (old.bytes 1) next (free_count old - 1) (omega (arith, sized.least)) room fits in
    let new : Pages = trunk_taken trunk.number old in
    let edited : Edited page_size old new 1 =
    edited_one page_size old (count_less old (with_number 4 32 next (old.bytes 1))) next (free_count old - 1) sized some head in
    let P : ℕ → Type 0 = λ n. AreTrunks new n more in
    taken_from page_size old new (trunk ∷ more) more trunk.number 1 sized.few edited is (λ e. absurd (omega (arith, ap (λ (l : List Trunk). length l) e)))
    (record { counts = λ n. omega (arith, times-first n trunk more, times-none n trunk.leaves none); long = omega (arith, free-long trunk more, none) })
    (inl refl)
    (subst P (sym head.trunk_is) (trunks_stay old new next more refl
    (λ n inside. let behind = first.rest_behind n (trunks-free n more inside) in (edited.each n (λ e. omega arith) (λ e. omega arith)).bytes_stay) is.linked.2))
    head.count_is
  where
    times-none : (n : ℕ) (l : List ℕ) → length l ≡ 0 → times n l ≡ 0
    times-none n [] none = refl
    times-none n (x ∷ l) none = absurd (omega arith)

-- the last leaf is taken
leaf_place : (usable leaves i : ℕ) → leaves ≤ most_leaves usable → i < leaves → 8 + 4 * i + 4 ≤ usable
leaf_place usable leaves i few within = omega arith

took_leaf : (page_size : ℕ) (old : Pages) (trunk : Trunk) (more : List Trunk) → AreSized page_size old → IsFreelist old (trunk ∷ more)
    → 1 ≤ length trunk.leaves
    → Taken page_size old (trunk ∷ more) (without_last trunk ∷ more) (slice_index trunk.leaves (length trunk.leaves - 1)) (leaf_taken trunk.number old)
took_leaf page_size old trunk more sized is some_leaf =
    let first = first_of old trunk more is in
    let trunk_is = is.linked.1 in
    let least = sized.least in
    let some : 1 ≤ old.size = omega (arith, first.there.least, first.there.most) in
    let long = sized.each 1 (record { least = omega arith; most = some }) in
    let room : old.usable ≤ length (old.bytes 1) = omega (arith, sized.most, long) in
    let less : ℕ = leaf_count old trunk.number - 1 in
    let page : List ℕ = old.bytes trunk.number in
    let page_long = sized.each trunk.number first.there in
    let content : List ℕ = with_number 4 4 less page in
    let page_room : old.usable ≤ length page = omega (arith, sized.most, page_long) in
    let content_long : length content ≡ length page = with-long 4 less page (omega arith) in
    let content_room : old.usable ≤ length content = omega arith in
    let other : trunk.number ≢ 1 = λ e. let behind = first.behind_first in omega arith in
    let head : HeadFrom old.usable (old.bytes 1) (cleared old.usable (count_less old (old.bytes 1))) (first_trunk old) (free_count old - 1) =
    head_counted old.usable (old.bytes 1) (free_count old - 1) (omega arith) room in
    let new : Pages = leaf_taken trunk.number old in
    let edited : Edited page_size old new trunk.number =
    edited_both page_size old trunk.number content (count_less old (old.bytes 1)) (first_trunk old) (free_count old - 1) sized some (content_long ∙ page_long) head in
    let at : (place : ℕ) → place + 4 ≤ old.usable → number_at 4 (new.bytes trunk.number) place ≡ number_at 4 content place =
    λ place below. ap (λ (b : List ℕ). number_at 4 b place) (other_page old trunk.number content (count_less old (old.bytes 1)) other)
    ∙ cleared-number old.usable content place content_room below in
    let next_stays : next_trunk old trunk.number ≡ next_trunk new trunk.number =
    sym (at 0 (omega arith) ∙ with-other 4 less page 0 (omega arith) (inl (omega arith))) in
    let left_long : length (take (length trunk.leaves - 1) trunk.leaves) ≡ length trunk.leaves - 1 = length-take-le (length trunk.leaves - 1) trunk.leaves (omega arith) in
    let few_leaves = trunk_is.few in
    let left : IsTrunk new (without_last trunk) = record {
      counted = at 4 (omega arith) ∙ with-there 4 less page (omega (arith, trunk_is.counted, sized.most, sized.short)) (omega arith)
          ∙ ap (λ n. n - 1) trunk_is.counted ∙ sym left_long;
      few = omega (arith, left_long);
      each = λ i within.
          let inside : i < length trunk.leaves - 1 = omega (arith, left_long) in
          let place = leaf_place old.usable (length trunk.leaves) i few_leaves (omega arith) in
          at (8 + 4 * i) place ∙ with-other 4 less page (8 + 4 * i) (omega arith) (inr (omega arith))
          ∙ trunk_is.each i (omega arith)
          ∙ sym (get_or-take (length trunk.leaves - 1) trunk.leaves i 0 inside);
    } in
    let P : ℕ → Type 0 = λ n. AreTrunks new n more in
    taken_from page_size old new (trunk ∷ more) (without_last trunk ∷ more) (slice_index trunk.leaves (length trunk.leaves - 1)) trunk.number sized.few edited is
    (λ e. absurd (omega (arith, ap (λ (l : List Trunk). length l) e)))
    (record {
      counts = λ n. omega (arith, times-first n trunk more, times-first n (without_last trunk) more, times-last n trunk.leaves some_leaf);
      long = omega (arith, free-long trunk more, free-long (without_last trunk) more, left_long);
    })
    (inr (among-here trunk.number (trunk.leaves ++ free_pages more))) (
      is.linked.0 ∙ sym head.trunk_is,
      left,
      subst P next_stays (trunks_stay old new (next_trunk old trunk.number) more refl
          (λ n inside.
          let free = trunks-free n more inside in
          let low = first.rest_behind n free in
          (edited.each n (λ e. omega arith)
          (λ e. let Q : ℕ → Type 0 = λ m. Among (free_pages more) m in let met = subst Q e free in let alone = first.alone in omega arith)).bytes_stay)
          is.linked.2),
    )
    head.count_is

-- the freelist is empty: a page more
took_new : (page_size : ℕ) (old : Pages) → AreSized page_size old → 1 ≤ old.size → IsGood old 1 → IsFreelist old [] → Taken page_size old [] [] (old.size + 1) (grown page_size old)
took_new page_size old sized some good is =
    let new : Pages = grown page_size old in
    let zeros : List ℕ = replicate page_size 0 in
    let stays : (n : ℕ) → n ≢ old.size + 1 → SamePage old new n = λ n other.
    let page = page-beside (old.size + 1) zeros old n other in
    record { bytes_stay = page.bytes_stay; mark_stays = page.mark_stays } in
    let first = stays 1 (λ e. omega arith) in
    record {
      behind = omega arith;
      there = record { least = omega arith; most = omega arith };
      came = inr (refl, refl);
      apart = λ free. omega arith;
      rest = λ n other. refl;
      size = inl (refl, refl);
      leaves = record {
        freelist = record {
          linked = ap (λ (b : List ℕ). number_at 4 b 32) first.bytes_stay ∙ is.linked;
          within = λ n inside. absurd (omega arith);
          different = record { once = λ n. omega arith };
        };
        used = refl;
        others = λ n not_1 out beside. stays n (λ e. beside (let P : ℕ → Type 0 = λ m. Among ((old.size + 1) ∷ []) m in subst P (sym e) (among-here (old.size + 1) [])));
        good = λ n was. page-good (old.size + 1) zeros old n was;
        first = record {
          good = first.mark_stays ∙ good;
          long = ap (λ (b : List ℕ). length b) first.bytes_stay;
          front = ap (λ (b : List ℕ). take 32 b) first.bytes_stay;
          rest = ap (λ (b : List ℕ). drop 40 (take old.usable b)) first.bytes_stay;
        };
        counts = λ counted. ap (λ (b : List ℕ). number_at 4 b 36) first.bytes_stay ∙ counted;
        sized = λ n there. page-long (old.size + 1) zeros old n page_size (length-replicate page_size 0)
            (λ other. sized.each n (let most = there.most in record { least = there.least; most = omega arith }));
      };
    }

-- which of the three it is
new_case : (page_size : ℕ) (old : Pages) → first_trunk old ≡ 0 → (taken_number old ≡ old.size + 1) × (after_take page_size old ≡ grown page_size old)
unfolding taken_number after_take
new_case page_size old none = let e = eq-eqb (first_trunk old) 0 none in (rw e refl, rw e refl)

trunk_case : (page_size : ℕ) (old : Pages) → first_trunk old ≢ 0 → leaf_count old (first_trunk old) ≡ 0
    → (taken_number old ≡ first_trunk old) × (after_take page_size old ≡ trunk_taken (first_trunk old) old)
unfolding taken_number after_take
trunk_case page_size old some none =
    let a = ne_eqb (first_trunk old) 0 some in
    let b = eq-eqb (leaf_count old (first_trunk old)) 0 none in
    (rw (a, b) refl, rw (a, b) refl)

leaf_case : (page_size : ℕ) (old : Pages) → first_trunk old ≢ 0 → leaf_count old (first_trunk old) ≢ 0
    → (taken_number old ≡ leaf_at old (first_trunk old) (leaf_count old (first_trunk old) - 1)) × (after_take page_size old ≡ leaf_taken (first_trunk old) old)
unfolding taken_number after_take
leaf_case page_size old some leaf =
    let a = ne_eqb (first_trunk old) 0 some in
    let b = ne_eqb (leaf_count old (first_trunk old)) 0 leaf in
    (rw (a, b) refl, rw (a, b) refl)

pub take_keeps_holds : Takes
take_keeps_holds page_size old [] sized some good is =
    let which = new_case page_size old is.linked in
    takes_one page_size old [] [] (old.size + 1) (grown page_size old) which.0 which.1 refl refl (took_new page_size old sized some good is)
take_keeps_holds page_size old (trunk ∷ more) sized some good is =
    let first = first_of old trunk more is in
    let named : trunk.number ≡ first_trunk old = is.linked.0 in
    let low = first.behind_first in
    let is_some : first_trunk old ≢ 0 = λ e. omega arith in
    let count : leaf_count old (first_trunk old) ≡ length trunk.leaves = ap (λ n. leaf_count old n) (sym named) ∙ is.linked.1.counted in
    elim (cases_lt 0 (length trunk.leaves)) as (λ _. TakesOne page_size old (trunk ∷ more)) [
      | inl leaf ↦
          let which = leaf_case page_size old is_some (λ e. omega arith) in
          let last : ℕ = slice_index trunk.leaves (length trunk.leaves - 1) in
          let e : nat_lt 0 (length trunk.leaves) ≡ true = lt-ltb 0 (length trunk.leaves) leaf in
          let number_is : taken_number old ≡ last =
          which.0 ∙ ap (λ n. leaf_at old (first_trunk old) (n - 1)) count ∙ ap (λ n. leaf_at old n (length trunk.leaves - 1)) (sym named)
          ∙ is.linked.1.each (length trunk.leaves - 1) (omega arith) in
          takes_one page_size old (trunk ∷ more) (without_last trunk ∷ more) last (leaf_taken trunk.number old)
          number_is
          (which.1 ∙ ap (λ n. leaf_taken n old) (sym named))
          (ap (λ (b : Bool). if b then without_last trunk ∷ more else more) e)
          (sym (ap (λ (b : Bool). if b then last else trunk.number) e))
          (took_leaf page_size old trunk more sized is leaf)
      | inr none ↦
          let which = trunk_case page_size old is_some (omega arith) in
          let e : nat_lt 0 (length trunk.leaves) ≡ false = le-ltb 0 (length trunk.leaves) none in
          takes_one page_size old (trunk ∷ more) more trunk.number (trunk_taken trunk.number old)
          (which.0 ∙ sym named)
          (which.1 ∙ ap (λ n. trunk_taken n old) (sym named))
          (ap (λ (b : Bool). if b then without_last trunk ∷ more else more) e)
          (sym (ap (λ (b : Bool). if b then slice_index trunk.leaves (length trunk.leaves - 1) else trunk.number) e))
          (took_trunk page_size old trunk more sized is (omega arith))
    ]

-- a page taken is good where the free pages are: a new one is not bad
grown_good : (page_size number : ℕ) (old : Pages) → number ≡ old.size + 1 → IsGood (grown page_size old) number
grown_good page_size number old is = let e = eq-eqb number (old.size + 1) is in rw e refl

pub taken_is_good : (page_size : ℕ) (old : Pages) (trunks : List Trunk) → IsFreelist old trunks → ((n : ℕ) → Among (free_pages trunks) n → IsGood old n)
    → TakesOne page_size old trunks → IsGood (after_take page_size old) (taken_number old)
taken_is_good page_size old trunks is free one = elim one.came as (λ _. IsGood (after_take page_size old) (taken_number old)) [
  | inl was ↦ one.leaves.good (taken_number old) (free (taken_number old) was)
  | inr fresh ↦
      let T : List Trunk → Type 0 = λ t. AreTrunks old (first_trunk old) t in
      let P : Pages → Type 0 = λ p. IsGood p (taken_number old) in
      subst P (sym (new_case page_size old (subst T fresh.0 is.linked)).1) (grown_good page_size (taken_number old) old fresh.1)
]
