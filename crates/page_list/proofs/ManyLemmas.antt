-- What many pages, taken from a freelist or given to it one after the other, leave.
use Rattle.std.proofs.Common.{◌≡◌, ◌≢◌, ◌⊎◌, inl, inr, ℕ, zero, suc, ◌+◌, ◌≤◌, ◌<◌, List, [], ◌∷◌, length, take, drop, refl, sym, ap, ◌∙◌, subst, arith}
use Rattle.page_list.specs.Pages.{Pages, HasPage, IsGood, times, Among, AreSized}
use Rattle.page_list.specs.Freelist.{Trunk, IsFreelist, free_pages, taken_page, take_from, give_to, size_after, taken_pages, take_each, give_each}
use Rattle.page_list.specs.Edits.{taken_number, after_take, after_give, taken_numbers, after_takes, after_gives}
use Rattle.page_list.specs.Laws.{OnlyHead, LeavesFreelist, TakesOne, TakesMany, TakesEach, TakenGood, AreApart, GivesMany, GivesEach}
use Rattle.page_list.proofs.TimesLemmas.{same_or_other, among-here, among-cons, among-first, different-first}
use Rattle.page_list.proofs.EditLemmas.{same-on}
use Rattle.page_list.proofs.TakeLemmas.{take_keeps_holds, taken_is_good}
use Rattle.page_list.proofs.GiveLemmas.{give_keeps_holds}

-- nothing has changed yet
leaves-none : (page_size : ℕ) (pages : Pages) (trunks : List Trunk) (beside : List ℕ) → AreSized page_size pages → IsGood pages 1 → IsFreelist pages trunks
    → LeavesFreelist page_size pages pages trunks trunks beside
leaves-none page_size pages trunks beside sized good is = record {
  freelist = is;
  used = refl;
  others = λ n not_1 out other. record { bytes_stay = refl; mark_stays = refl };
  good = λ n was. was;
  first = record { good = good; long = refl; front = refl; rest = refl };
  counts = λ counted. counted;
  sized = sized.each;
}

-- one edit after another
head-on : (old mid new : Pages) → mid.usable ≡ old.usable → OnlyHead old mid → OnlyHead mid new → OnlyHead old new
head-on old mid new used a b =
    let P : ℕ → Type 0 = λ u. drop 40 (take u (new.bytes 1)) ≡ drop 40 (take u (mid.bytes 1)) in
    record { good = b.good; long = b.long ∙ a.long; front = b.front ∙ a.front; rest = subst P used b.rest ∙ a.rest }

leaves-on : (page_size : ℕ) (old mid new : Pages) (before between after : List Trunk) (some more all : List ℕ)
    → LeavesFreelist page_size old mid before between some → LeavesFreelist page_size mid new between after more
    → ((n : ℕ) → Among (free_pages between) n → Among (free_pages before) n ⊎ Among all n)
    → ((n : ℕ) → Among some n → Among all n) → ((n : ℕ) → Among more n → Among all n) → LeavesFreelist page_size old new before after all
leaves-on page_size old mid new before between after some more all a b came first_in rest_in = record {
  freelist = b.freelist;
  used = b.used ∙ a.used;
  others = λ n not_1 out beside. same-on old mid new n
      (a.others n not_1 out (λ met. beside (first_in n met)))
      (b.others n not_1 (λ free. elim (came n free) as (λ _. ⊥) [ inl was ↦ out was | inr given ↦ beside given ]) (λ met. beside (rest_in n met)));
  good = λ n was. b.good n (a.good n was);
  first = head-on old mid new a.used a.first b.first;
  counts = λ counted. b.counts (a.counts counted);
  sized = b.sized;
}

sized-on : (page_size : ℕ) (old mid : Pages) (before between : List Trunk) (beside : List ℕ) → AreSized page_size old
    → LeavesFreelist page_size old mid before between beside → mid.size < 4294967296 → AreSized page_size mid
sized-on page_size old mid before between beside sized leaves few = record {
  least = omega (arith, sized.least, leaves.used);
  most = omega (arith, sized.most, leaves.used);
  short = sized.short;
  few = few;
  each = leaves.sized;
}

-- pages are taken
list-same : (a b : ℕ) (more more' : List ℕ) → a ≡ b → more ≡ more' → a ∷ more ≡ b ∷ more'
list-same a b more more' p q = cc

size-is : (size now : ℕ) (trunks : List Trunk) → ((trunks ≡ []) × (now ≡ size + 1)) ⊎ ((trunks ≢ []) × (now ≡ size)) → now ≡ size_after size trunks
size-is size now [] (inl grew) = grew.1
size-is size now [] (inr stays) = absurd (stays.0 refl)
size-is size now (trunk ∷ more) (inl grew) = absurd (omega (arith, ap (λ (l : List Trunk). length l) grew.0))
size-is size now (trunk ∷ more) (inr stays) = stays.1

size-near : (size now : ℕ) (trunks : List Trunk) → ((trunks ≡ []) × (now ≡ size + 1)) ⊎ ((trunks ≢ []) × (now ≡ size)) → (size ≤ now) × (now ≤ size + 1)
size-near size now trunks (inl grew) = (omega (arith, grew.1), omega (arith, grew.1))
size-near size now trunks (inr stays) = (omega (arith, stays.1), omega (arith, stays.1))

-- what is free after a take was free before it, and is not the page taken
was_free : (page_size : ℕ) (old : Pages) (trunks : List Trunk) → TakesOne page_size old trunks → (n : ℕ) → Among (free_pages (take_from trunks)) n
    → (n ≢ taken_number old) × Among (free_pages trunks) n
was_free page_size old trunks one n free =
    let other : n ≢ taken_number old = λ e. let P : ℕ → Type 0 = λ m. Among (free_pages (take_from trunks)) m in one.apart (subst P e free) in
    (other, omega (arith, one.rest n other, free))

takes_more : (page_size count : ℕ) (old : Pages) (trunks : List Trunk) → TakesOne page_size old trunks
    → TakesMany page_size count (after_take page_size old) (take_from trunks) (taken_numbers page_size count (after_take page_size old))
    → TakesMany page_size (suc count) old trunks (taken_numbers page_size (suc count) old)
takes_more page_size count old trunks one rest =
    let mid : Pages = after_take page_size old in
    let n : ℕ = taken_number old in
    let left : List Trunk = take_from trunks in
    let more : List ℕ = taken_numbers page_size count mid in
    let near = size-near old.size mid.size trunks one.size in
    let low = near.0 in
    let grows = rest.no_fewer in
    let again : ¬ (Among more n) = λ met. elim (rest.each n met).2 as (λ _. ⊥) [
      | inl free ↦ one.apart free
      | inr beyond ↦ omega (arith, beyond, one.there.most)
    ] in
    record {
      are = list-same n (taken_page old.size trunks) more (taken_pages (size_after old.size trunks) count left) one.is
          (rest.are ∙ ap (λ s. taken_pages s count left) (size-is old.size mid.size trunks one.size));
      many = omega (arith, rest.many);
      different = different-first n more rest.different again;
      each = λ m among. elim (among-first m n more among) as (λ _. (2 ≤ m) × HasPage (after_takes page_size count mid) m
          × (Among (free_pages trunks) m ⊎ (old.size < m)) × ¬ (Among (free_pages (take_each count left)) m)) [
            | inl same ↦
                let P : ℕ → Type 0 = λ k. (2 ≤ k) × HasPage (after_takes page_size count mid) k
                × (Among (free_pages trunks) k ⊎ (old.size < k)) × ¬ (Among (free_pages (take_each count left)) k) in
                let there = one.there in
                subst P same (
                  one.behind,
                  record { least = there.least; most = omega (arith, there.most) },
                  elim one.came as (λ _. Among (free_pages trunks) n ⊎ (old.size < n)) [ inl free ↦ inl free | inr new ↦ inr (omega (arith, new.1)) ],
                  λ met. one.apart (omega (arith, met, rest.rest n again)),
                )
            | inr later ↦
                let was = rest.each m later in (
                  was.0,
                  was.1,
                  elim was.2 as (λ _. Among (free_pages trunks) m ⊎ (old.size < m)) [
                    | inl free ↦ inl (was_free page_size old trunks one m free).1
                    | inr beyond ↦ inr (omega (arith, beyond))
                  ],
                  was.3,
                )
          ];
      rest = λ m none. rest.rest m (λ met. none (among-cons m n more met))
          ∙ one.rest m (λ e. none (let P : ℕ → Type 0 = λ k. Among (n ∷ more) k in subst P (sym e) (among-here n more)));
      no_fewer = omega arith;
      leaves = leaves-on page_size old mid (after_takes page_size count mid) trunks left (take_each count left) (n ∷ []) more (n ∷ more) one.leaves rest.leaves
          (λ m free. inl (was_free page_size old trunks one m free).1)
          (λ m met. omega arith)
          (λ m met. among-cons m n more met);
    }

pub takes_keep_holds : TakesEach
takes_keep_holds page_size zero old trunks sized few some good is = record {
  are = refl;
  many = refl;
  different = record { once = λ n. omega arith };
  each = λ n none. absurd (omega arith);
  rest = λ n none. refl;
  no_fewer = omega arith;
  leaves = leaves-none page_size old trunks [] sized good is;
}
takes_keep_holds page_size (suc count) old trunks sized few some good is =
    let one = take_keeps_holds page_size old trunks sized some good is in
    let mid : Pages = after_take page_size old in
    let near = size-near old.size mid.size trunks one.size in
    let low = near.0 in
    let high = near.1 in
    let leaves = one.leaves in
    takes_more page_size count old trunks one
    (takes_keep_holds page_size count mid (take_from trunks) (sized-on page_size old mid trunks (take_from trunks) (taken_number old ∷ []) sized leaves (omega arith))
    (omega arith) (omega arith) leaves.first.good leaves.freelist)

-- none of them is bad
pub taken_good_holds : TakenGood
taken_good_holds page_size zero old trunks sized few some good is free n none = absurd (omega arith)
taken_good_holds page_size (suc count) old trunks sized few some good is free n among =
    let one = take_keeps_holds page_size old trunks sized some good is in
    let mid : Pages = after_take page_size old in
    let left : List Trunk = take_from trunks in
    let new : Pages = after_takes page_size count mid in
    let near = size-near old.size mid.size trunks one.size in
    let low = near.0 in
    let high = near.1 in
    let leaves = one.leaves in
    let mid_sized = sized-on page_size old mid trunks left (taken_number old ∷ []) sized leaves (omega arith) in
    elim (among-first n (taken_number old) (taken_numbers page_size count mid) among) as (λ _. IsGood new n) [
      | inl same ↦
          let rest = takes_keep_holds page_size count mid left mid_sized (omega arith) (omega arith) leaves.first.good leaves.freelist in
          let P : ℕ → Type 0 = λ m. IsGood new m in
          subst P same (rest.leaves.good (taken_number old) (taken_is_good page_size old trunks is free one))
      | inr later ↦
          taken_good_holds page_size count mid left mid_sized (omega arith) (omega arith) leaves.first.good leaves.freelist
          (λ m still. leaves.good m (free m (was_free page_size old trunks one m still).1)) n later
    ]

-- pages are given
apart-more : (page_size : ℕ) (old mid : Pages) (number : ℕ) (more : List ℕ) (trunks grown : List Trunk) → mid.size ≡ old.size
    → ((n : ℕ) → times n (free_pages grown) ≡ times n (number ∷ free_pages trunks)) → AreApart old (number ∷ more) trunks → AreApart mid more grown
apart-more page_size old mid number more trunks grown size count apart = record {
  each = λ n among.
      let was = apart.each n (among-cons n number more among) in
      let once = apart.different.once n in
      let now = count n in
      let there = was.1 in (
        was.0,
        record { least = there.least; most = omega (arith, there.most) },
        λ met. elim (same_or_other n number) as (λ _. ⊥) [
          | inl same ↦ omega (arith, same.1)
          | inr other ↦ was.2 (omega (arith, other.1))
        ],
      );
  different = record { once = λ n. omega (arith, apart.different.once n) };
}

gives_more : (page_size number : ℕ) (more : List ℕ) (old : Pages) (trunks : List Trunk) → (after_give page_size number old).size ≡ old.size
    → ((n : ℕ) → times n (free_pages (give_to old.usable number trunks)) ≡ times n (number ∷ free_pages trunks))
    → LeavesFreelist page_size old (after_give page_size number old) trunks (give_to old.usable number trunks) (number ∷ [])
    → GivesMany page_size (after_give page_size number old) (give_to old.usable number trunks) more → GivesMany page_size old trunks (number ∷ more)
gives_more page_size number more old trunks size count leaves rest =
    let mid : Pages = after_give page_size number old in
    let grown : List Trunk = give_to old.usable number trunks in
    let new : Pages = after_gives page_size more mid in
    let L : ℕ → Type 0 = λ u. LeavesFreelist page_size mid new grown (give_each u more grown) more in
    let C : ℕ → Type 0 = λ u. (n : ℕ) → times n (free_pages (give_each u more grown)) ≡ times n more + times n (free_pages grown) in
    let counts = subst C leaves.used rest.count in
    record {
      count = λ n. omega (arith, counts n, count n);
      size = rest.size ∙ size;
      leaves = leaves-on page_size old mid new trunks grown (give_each old.usable more grown) (number ∷ []) more (number ∷ more) leaves (subst L leaves.used rest.leaves)
          (λ n free. elim (among-first n number (free_pages trunks) (omega (arith, count n, free))) as (λ _. Among (free_pages trunks) n ⊎ Among (number ∷ more) n) [
            | inl same ↦ inr (let P : ℕ → Type 0 = λ k. Among (number ∷ more) k in subst P same (among-here number more))
            | inr was ↦ inl was
          ])
          (λ n met. omega arith)
          (λ n met. among-cons n number more met);
    }

pub gives_keep_holds : GivesEach
gives_keep_holds page_size old trunks [] sized good is apart = record {
  count = λ n. omega arith;
  size = refl;
  leaves = leaves-none page_size old trunks [] sized good is;
}
gives_keep_holds page_size old trunks (number ∷ more) sized good is apart =
    let can = apart.each number (among-here number more) in
    let one = give_keeps_holds page_size old trunks number sized good is can.1 can.0 can.2 in
    let mid : Pages = after_give page_size number old in
    let grown : List Trunk = give_to old.usable number trunks in
    gives_more page_size number more old trunks one.size one.count one.leaves
    (gives_keep_holds page_size mid grown more
    (sized-on page_size old mid trunks grown (number ∷ []) sized one.leaves (omega (arith, sized.few, one.size)))
    one.leaves.first.good one.leaves.freelist (apart-more page_size old mid number more trunks grown one.size one.count apart))
