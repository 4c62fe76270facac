-- Freelists: pages have one at most, it depends on no pages but its trunks, and its head is not damaged.
use Rattle.std.proofs.Common.{◌≡◌, inl, inr, ℕ, ◌+◌, ◌-◌, ◌*◌, ◌≤◌, ◌<◌, slice_index, List, [], ◌∷◌, ◌++◌, length, refl, sym, ap, ◌∙◌, subst, arith, length-append}
use Rattle.std.proofs.lemmas.Grind.{same_number_lists}
use Rattle.byte_base.specs.Numbers.{number_at}
use Rattle.page_list.specs.Pages.{Pages, HasPage, Among, times}
use Rattle.page_list.specs.Freelist.{Trunk, IsTrunk, AreTrunks, IsFreelist, free_pages, first_trunk, next_trunk, leaf_count}
use Rattle.page_list.specs.Freelist.{leaf_at, most_leaves, trunk_numbers, NoTrunk, BadTrunk, NoLeaf, OneFreelist}
use Rattle.page_list.specs.Laws.{FreelistStays, NotDamaged}
use Rattle.page_list.proofs.TimesLemmas.{times-append, times-same, among-here, among-cons, among-front, among-back, among-first, among-at, no_more_than}

-- no page of the freelist has the number 0
record NoneIsZero (trunks : List Trunk) : Type 0 where
  pub each : (n : ℕ) → Among (free_pages trunks) n → 1 ≤ n

behind : (trunk : Trunk) (more : List Trunk) → NoneIsZero (trunk ∷ more) → NoneIsZero more
behind trunk more none = record {
  each = λ n inside. none.each n (omega (arith, times-append n (trunk.number ∷ trunk.leaves) (free_pages more), inside));
}

in_front : (trunk : Trunk) (more : List Trunk) → NoneIsZero (trunk ∷ more) → 1 ≤ trunk.number
in_front trunk more none = none.each trunk.number (among-here trunk.number (trunk.leaves ++ free_pages more))

-- a page says the leaves of one trunk
one_trunk : (pages : Pages) (a b : Trunk) → a.number ≡ b.number → IsTrunk pages a → IsTrunk pages b → a ≡ b
one_trunk pages a b number is_a is_b =
    let count : length a.leaves ≡ length b.leaves = sym is_a.counted ∙ ap (leaf_count pages) number ∙ is_b.counted in
    let leaves : a.leaves ≡ b.leaves =
    same_number_lists a.leaves b.leaves count
    (λ i within. sym (is_a.each i within) ∙ ap (λ n. leaf_at pages n i) number ∙ is_b.each i (subst (λ m. i < m) count within)) in
    λ i. record { number = number i; leaves = leaves i }

-- and the trunks that are linked from a number on
one_chain : (pages : Pages) (next : ℕ) (a b : List Trunk) → NoneIsZero a → NoneIsZero b → AreTrunks pages next a → AreTrunks pages next b → a ≡ b
one_chain pages next [] [] none_a none_b linked_a linked_b = refl
one_chain pages next [] (u ∷ more) none_a none_b linked_a linked_b = absurd (omega (arith, in_front u more none_b, linked_a, linked_b.0))
one_chain pages next (t ∷ more) [] none_a none_b linked_a linked_b = absurd (omega (arith, in_front t more none_a, linked_b, linked_a.0))
one_chain pages next (t ∷ more) (u ∷ others) none_a none_b linked_a linked_b =
    let number : t.number ≡ u.number = linked_a.0 ∙ sym linked_b.0 in
    let first : t ≡ u = one_trunk pages t u number linked_a.1 linked_b.1 in
    let rest : more ≡ others =
    one_chain pages (next_trunk pages t.number) more others (behind t more none_a) (behind u others none_b) linked_a.2
    (subst (λ n. AreTrunks pages (next_trunk pages n) others) (sym number) linked_b.2) in
    λ i. first i ∷ rest i

none_is_zero : (pages : Pages) (trunks : List Trunk) → IsFreelist pages trunks → NoneIsZero trunks
none_is_zero pages trunks is = record { each = λ n inside. omega (arith, (is.within n inside).1) }

pub one : OneFreelist
one pages a b is_a is_b = one_chain pages (first_trunk pages) a b (none_is_zero pages a is_a) (none_is_zero pages b is_b) is_a.linked is_b.linked

-- a freelist depends on no pages but its trunks
pub trunk_stays : (old new : Pages) (trunk : Trunk) → new.usable ≡ old.usable → new.bytes trunk.number ≡ old.bytes trunk.number → IsTrunk old trunk → IsTrunk new trunk
trunk_stays old new trunk used stay is = record {
  counted = ap (λ (b : List ℕ). number_at 4 b 4) stay ∙ is.counted;
  few = let P : ℕ → Type 0 = λ u. length trunk.leaves ≤ most_leaves u in subst P (sym used) is.few;
  each = λ i within. ap (λ (b : List ℕ). number_at 4 b (8 + 4 * i)) stay ∙ is.each i within;
}

pub trunks_stay : (old new : Pages) (next : ℕ) (trunks : List Trunk) → new.usable ≡ old.usable
    → ((number : ℕ) → Among (trunk_numbers trunks) number → new.bytes number ≡ old.bytes number) → AreTrunks old next trunks → AreTrunks new next trunks
trunks_stay old new next [] used stay linked = linked
trunks_stay old new next (trunk ∷ more) used stay linked =
    let same = stay trunk.number (among-here trunk.number (trunk_numbers more)) in
    let P : ℕ → Type 0 = λ n. AreTrunks new n more in (
      linked.0,
      trunk_stays old new trunk used same linked.1,
      subst P (ap (λ (b : List ℕ). number_at 4 b 0) (sym same))
          (trunks_stay old new (next_trunk old trunk.number) more used (λ n some. stay n (among-cons n trunk.number (trunk_numbers more) some)) linked.2),
    )

pub freelist_stays_holds : FreelistStays
freelist_stays_holds old new trunks used more first stay free =
    let P : ℕ → Type 0 = λ n. AreTrunks new n trunks in
    record {
      linked = subst P (sym first) (trunks_stay old new (first_trunk old) trunks used stay free.linked);
      within = λ n some. let was = free.within n some in (record { least = was.0.least; most = omega (arith, was.0.most) }, was.1);
      different = free.different;
    }

-- of the first trunk, and of what is behind it
pub times-first : (n : ℕ) (trunk : Trunk) (more : List Trunk) → times n (free_pages (trunk ∷ more)) ≡ times n (trunk.number ∷ []) + times n trunk.leaves + times n (free_pages more)
times-first n trunk more = omega (arith, times-append n trunk.leaves (free_pages more))

pub free-long : (trunk : Trunk) (more : List Trunk) → length (free_pages (trunk ∷ more)) ≡ 1 + length trunk.leaves + length (free_pages more)
free-long trunk more = omega (arith, length-append trunk.leaves (free_pages more))

-- a trunk is free
pub trunks-free : (n : ℕ) (trunks : List Trunk) → Among (trunk_numbers trunks) n → Among (free_pages trunks) n
trunks-free n [] some = some
trunks-free n (trunk ∷ more) some = elim (among-first n trunk.number (trunk_numbers more) some) as (λ _. Among (free_pages (trunk ∷ more)) n) [
  | inl same ↦ let P : ℕ → Type 0 = λ m. Among (free_pages (trunk ∷ more)) m in subst P same (among-here trunk.number (trunk.leaves ++ free_pages more))
  | inr later ↦ among-back n (trunk.number ∷ trunk.leaves) (free_pages more) (trunks-free n more later)
]

-- what the freelist says of its first trunk and of the pages behind it
pub record FirstOf (pages : Pages) (trunk : Trunk) (more : List Trunk) : Type 0 where
  pub there : HasPage pages trunk.number
  pub behind_first : 2 ≤ trunk.number
  pub alone : times trunk.number (free_pages more) ≡ 0
  pub rest_behind : (n : ℕ) → Among (free_pages more) n → 2 ≤ n

pub first_of : (pages : Pages) (trunk : Trunk) (more : List Trunk) → IsFreelist pages (trunk ∷ more) → FirstOf pages trunk more
first_of pages trunk more is =
    let self = times-same trunk.number in
    let all = times-first trunk.number trunk more in
    let once = is.different.once trunk.number in
    let among : Among (free_pages (trunk ∷ more)) trunk.number = omega (arith, self, all) in
    record {
      there = (is.within trunk.number among).0;
      behind_first = (is.within trunk.number among).1;
      alone = omega (arith, self, all, once);
      rest_behind = λ n inside. (is.within n (omega (arith, times-first n trunk more, inside))).1;
    }

-- the number that links trunks fits four bytes
pub next_fits : (pages : Pages) (next : ℕ) (trunks : List Trunk) → pages.size < 4294967296 → AreTrunks pages next trunks
    → ((n : ℕ) → Among (free_pages trunks) n → HasPage pages n) → next < 4294967296
next_fits pages next [] few linked there = omega (arith, linked)
next_fits pages next (trunk ∷ more) few linked there = omega (arith, linked.0, (there trunk.number (among-here trunk.number (trunk.leaves ++ free_pages more))).most)

-- a freelist has no more pages than there are
pub few_free : (pages : Pages) (trunks : List Trunk) → IsFreelist pages trunks → length (free_pages trunks) ≤ pages.size
few_free pages trunks is =
    no_more_than pages.size (free_pages trunks) is.different
    (λ n some. let there = (is.within n some).0 in (there.least, there.most))

-- the first trunk of a freelist is a page and well formed, and its last leaf is a page
no_trunk : (pages : Pages) (trunks : List Trunk) (page : ℕ) → IsFreelist pages trunks → ¬ (NoTrunk pages page)
no_trunk pages [] page free why = why.1 free.linked
no_trunk pages (trunk ∷ more) page free why =
    let P : ℕ → Type 0 = λ n. HasPage pages n in
    why.2 (subst P free.linked.0 (free.within trunk.number (among-here trunk.number (trunk.leaves ++ free_pages more))).0)

bad_trunk : (pages : Pages) (trunks : List Trunk) (page : ℕ) → IsFreelist pages trunks → ¬ (BadTrunk pages page)
bad_trunk pages [] page free why = let is = why.3 in let none = free.linked in let least = why.1.least in absurd (omega arith)
bad_trunk pages (trunk ∷ more) page free why =
    let P : ℕ → Type 0 = λ n. most_leaves pages.usable < leaf_count pages n in
    let many : most_leaves pages.usable < leaf_count pages trunk.number = subst P (why.3 ∙ sym free.linked.0) why.4 in
    let few = free.linked.1.few in
    let counted = free.linked.1.counted in absurd (omega arith)

no_leaf : (pages : Pages) (trunks : List Trunk) (page : ℕ) → IsFreelist pages trunks → ¬ (NoLeaf pages page)
no_leaf pages [] page free why = let is = why.1.named in let none = free.linked in let least = why.1.there.least in absurd (omega arith)
no_leaf pages (trunk ∷ more) page free why =
    let same : page ≡ trunk.number = why.1.named ∙ sym free.linked.0 in
    let P : ℕ → Type 0 = λ n. (1 ≤ leaf_count pages n) × ¬ (HasPage pages (leaf_at pages n (leaf_count pages n - 1))) in
    let gone = subst P same (why.2, why.3) in
    let counted = free.linked.1.counted in
    let some = gone.0 in
    let i : ℕ = leaf_count pages trunk.number - 1 in
    let below : i < length trunk.leaves = omega arith in
    let Q : ℕ → Type 0 = λ n. HasPage pages n in
    let leaf : ℕ = slice_index trunk.leaves i in
    let there : HasPage pages leaf = (free.within leaf (among-cons leaf trunk.number (trunk.leaves ++ free_pages more)
    (among-front leaf trunk.leaves (free_pages more) (among-at i trunk.leaves leaf below refl)))).0 in
    gone.1 (subst Q (sym (free.linked.1.each i below)) there)

pub not_damaged_holds : NotDamaged
not_damaged_holds pages trunks page free (inl (inl none)) = no_trunk pages trunks page free none
not_damaged_holds pages trunks page free (inl (inr bad)) = bad_trunk pages trunks page free bad
not_damaged_holds pages trunks page free (inr leaf) = no_leaf pages trunks page free leaf
