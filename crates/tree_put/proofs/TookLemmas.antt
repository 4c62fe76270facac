-- Pages taken from whole pages: how many there are then.
use Rattle.std.proofs.Common.{◌≡◌, ◌⊎◌, inl, inr, ℕ, zero, suc, ◌+◌, ◌-◌, ◌*◌, ◌≤◌, ◌<◌, nat_eq, nat_lt, Bool, true, false, if◌then◌else◌, List, [], ◌∷◌, length, take, refl, ap}
use Rattle.std.proofs.Common.{◌∙◌, arith, length-append, length-take, mul-le-mul_left, subst, sym}
use Rattle.std.proofs.lemmas.Bool.{cases_lt}
use Rattle.std.proofs.lemmas.Bool.Decides.{nat_tests}
use Rattle.db_format.specs.Header.{page_of, IsPageSize, greatest_length}
use Rattle.page_list.specs.Pages.{Pages, IsGood, AreSized, times, Among}
use Rattle.page_list.specs.Freelist.{Trunk, IsFreelist, free_pages, take_from, take_each, first_trunk, leaf_count, without_last}
use Rattle.page_list.specs.Edits.{taken_number, after_take, taken_numbers, after_takes}
use Rattle.page_list.specs.Laws.{TakesOne, TakesMany}
use Rattle.page_list.proofs.TakeLemmas.{take_keeps_holds}
use Rattle.page_list.proofs.TimesLemmas.{among-cons, among-here}
use Rattle.page_list.proofs.ManyLemmas.{takes_keep_holds}
use Rattle.tree_page.specs.Laws.{FrontApart}
use Rattle.tree_model.specs.Tree.{Tree}
use Rattle.tree_model.specs.Whole.{IsWholeFor, unsized_header, named_pages}
use Rattle.tree_laws.specs.Whole.{AreUnnamed}
use Rattle.tree_laws.proofs.TakeLemmas.{whole_takes}
use Rattle.tree_laws.proofs.SizeLemmas.{header_size}
use Rattle.tree_laws.proofs.CountLemmas.{pages_add_up}

-- there are no fewer pages after a take

no_fewer_if : (b c : Bool) (x y z : Pages) (size : ℕ) → size ≤ x.size → size ≤ y.size → size ≤ z.size → size ≤ (if b then x else if c then y else z).size
no_fewer_if true c x y z size p q r = p
no_fewer_if false true x y z size p q r = q
no_fewer_if false false x y z size p q r = r

one_mono : (page_size : ℕ) (pages : Pages) → pages.size ≤ (after_take page_size pages).size
unfolding after_take
one_mono page_size pages =
    no_fewer_if (nat_eq (first_trunk pages) 0) (nat_eq (leaf_count pages (first_trunk pages)) 0) _ _ _ pages.size (omega arith) (omega arith) (omega arith)

pub takes_mono : (page_size count : ℕ) (pages : Pages) → pages.size ≤ (after_takes page_size count pages).size
takes_mono page_size zero pages = omega arith
takes_mono page_size (suc count) pages = omega (arith, one_mono page_size pages, takes_mono page_size count (after_take page_size pages))

pub as_many_taken : (page_size count : ℕ) (pages : Pages) → length (taken_numbers page_size count pages) ≡ count
as_many_taken page_size zero pages = refl
as_many_taken page_size (suc count) pages = ap suc (as_many_taken page_size count (after_take page_size pages))

-- the freelist has one page less

one_less : (trunk : Trunk) (more : List Trunk) → length (free_pages (take_from (trunk ∷ more))) + 1 ≡ length (free_pages (trunk ∷ more))
one_less trunk more = elim (cases_lt 0 (length trunk.leaves)) [
  | inl some ↦
      let test : nat_lt 0 (length trunk.leaves) ≡ true = is_true (length trunk.leaves) some in
      let C : Bool → ℕ = λ b. length (free_pages (if b then without_last trunk ∷ more else more)) in
      omega (
        arith,
        ap C test,
        some,
        length-append (trunk.number ∷ take (length trunk.leaves - 1) trunk.leaves) (free_pages more),
        length-append (trunk.number ∷ trunk.leaves) (free_pages more),
        length-take (length trunk.leaves - 1) trunk.leaves,
      )
  | inr none ↦
      let test : nat_lt 0 (length trunk.leaves) ≡ false = is_false (length trunk.leaves) (omega (arith, none)) in
      let C : Bool → ℕ = λ b. length (free_pages (if b then without_last trunk ∷ more else more)) in
      omega (arith, ap C test, none, length-append (trunk.number ∷ trunk.leaves) (free_pages more))
]
  where
    is_true : (n : ℕ) → 0 < n → nat_lt 0 n ≡ true
    is_true n some = grind (arith, nat_tests, some)

    is_false : (n : ℕ) → n ≤ 0 → nat_lt 0 n ≡ false
    is_false n none = grind (arith, nat_tests, none)

one_count : (page_size : ℕ) (old : Pages) (trunks : List Trunk) → TakesOne page_size old trunks
    → 1 + length (free_pages (take_from trunks)) + old.size ≡ length (free_pages trunks) + (after_take page_size old).size
one_count page_size old [] one = elim one.size [ inl grew ↦ omega (arith, grew.1) | inr stays ↦ absurd (stays.0 refl) ]
one_count page_size old (trunk ∷ more) one = elim one.size [
  | inl grew ↦ absurd (omega (arith, ap (λ (l : List Trunk). length l) grew.0))
  | inr stays ↦ omega (arith, stays.1, one_less trunk more)
]

none_left : (count : ℕ) → take_each count [] ≡ []
none_left zero = refl
none_left (suc count) = none_left count

-- so many pages taken, those left in the freelist and those before are the pages of the freelist and all then; and there
-- are more only where nothing is left
pub takes_count : (page_size count : ℕ) (old : Pages) (trunks : List Trunk) → AreSized page_size old → 1 ≤ old.size → IsGood old 1 → IsFreelist old trunks
    → (after_takes page_size count old).size < 4294967296
    → (count + length (free_pages (take_each count trunks)) + old.size ≡ length (free_pages trunks) + (after_takes page_size count old).size)
    × ((take_each count trunks ≡ []) ⊎ ((after_takes page_size count old).size ≡ old.size))
takes_count page_size zero old trunks sized some good is few = (omega arith, inr refl)
takes_count page_size (suc count) old trunks sized some good is few =
    let one = take_keeps_holds page_size old trunks sized some good is in
    let mid : Pages = after_take page_size old in
    let grows = one_mono page_size old in
    let mid_sized : AreSized page_size mid = record {
      least = omega (arith, sized.least, one.leaves.used);
      most = omega (arith, sized.most, one.leaves.used);
      short = sized.short;
      few = omega (arith, few, takes_mono page_size count mid);
      each = one.leaves.sized;
    } in
    let rest = takes_count page_size count mid (take_from trunks) mid_sized (omega (arith, some, grows)) (one.leaves.good 1 good) one.leaves.freelist few in
    let left : (take_each (suc count) trunks ≡ []) ⊎ ((after_takes page_size (suc count) old).size ≡ old.size) = elim rest.1 [
      | inl none ↦ inl none
      | inr same ↦ elim one.size [
        | inl grew ↦ inl (ap (λ (l : List Trunk). take_each count (take_from l)) grew.0 ∙ none_left count)
        | inr stays ↦ inr (same ∙ stays.1)
      ]
    ] in
    (omega (arith, rest.0, one_count page_size old trunks one), left)

pub none_after : (count : ℕ) (trunks : List Trunk) → trunks ≡ [] → take_each count trunks ≡ []
none_after count trunks none = ap (take_each count) none ∙ none_left count

-- each page that has come is one that was taken
one_added : (page_size : ℕ) (old : Pages) (trunks : List Trunk) → TakesOne page_size old trunks → (n : ℕ) → old.size < n → n ≤ (after_take page_size old).size
    → n ≡ taken_number old
one_added page_size old trunks one n more there = elim one.size [
  | inl grew ↦ elim one.came [
    | inl free ↦ absurd (omega (arith, free, ap (λ (l : List Trunk). times (taken_number old) (free_pages l)) grew.0))
    | inr new ↦ omega (arith, more, there, grew.1, new.1)
  ]
  | inr stays ↦ absurd (omega (arith, more, there, stays.1))
]

takes_added : (page_size count : ℕ) (old : Pages) (trunks : List Trunk) → AreSized page_size old → 1 ≤ old.size → IsGood old 1 → IsFreelist old trunks
    → (after_takes page_size count old).size < 4294967296 → (n : ℕ) → old.size < n → n ≤ (after_takes page_size count old).size → Among (taken_numbers page_size count old) n
takes_added page_size zero old trunks sized some good is few n more there = absurd (omega (arith, more, there))
takes_added page_size (suc count) old trunks sized some good is few n more there =
    let one = take_keeps_holds page_size old trunks sized some good is in
    let mid : Pages = after_take page_size old in
    let grows = one_mono page_size old in
    let mid_sized : AreSized page_size mid = record {
      least = omega (arith, sized.least, one.leaves.used);
      most = omega (arith, sized.most, one.leaves.used);
      short = sized.short;
      few = omega (arith, few, takes_mono page_size count mid);
      each = one.leaves.sized;
    } in
    elim (cases_lt mid.size n) [
      | inl later ↦ among-cons n (taken_number old) _
          (takes_added page_size count mid (take_from trunks) mid_sized (omega (arith, some, grows)) (one.leaves.good 1 good) one.leaves.freelist few n later there)
      | inr here ↦ let P : ℕ → Type 0 = λ m. Among (taken_number old ∷ taken_numbers page_size count mid) m in
          subst P (sym (one_added page_size old trunks one n more here)) (among-here (taken_number old) (taken_numbers page_size count mid))
    ]

-- pages taken from whole pages
pub record Took (page_size count : ℕ) (old : Pages) (roots : List ℕ) (trees : List Tree) (trunks : List Trunk) : Type 0 where
  pub many : TakesMany page_size count old trunks (taken_numbers page_size count old)
  pub whole : IsWholeFor (after_takes page_size count old) roots trees (take_each count trunks)
  pub unnamed : AreUnnamed (after_takes page_size count old) (named_pages roots trees (take_each count trunks)) (taken_numbers page_size count old)
  pub sized : AreSized page_size (after_takes page_size count old)
  pub counted : count + length (free_pages (take_each count trunks)) + old.size ≡ length (free_pages trunks) + (after_takes page_size count old).size
  pub left : (take_each count trunks ≡ []) ⊎ ((after_takes page_size count old).size ≡ old.size)
  pub added : (n : ℕ) → old.size < n → n ≤ (after_takes page_size count old).size → Among (taken_numbers page_size count old) n

few_pages : (size page_size : ℕ) → 512 ≤ page_size → size * page_size ≤ greatest_length → size ≤ 2097152
few_pages size page_size least few = omega (arith, few, mul-le-mul_left size least)

pub took : FrontApart → (page_size count : ℕ) (old : Pages) (roots : List ℕ) (trees : List Tree) (trunks : List Trunk) → IsPageSize page_size → page_size ≤ old.usable + 255
    → AreSized page_size old → IsWholeFor old roots trees trunks → (after_takes page_size count old).size * page_size ≤ greatest_length
    → Took page_size count old roots trees trunks
took front_apart page_size count old roots trees trunks size spare sized whole few =
    let new : Pages = after_takes page_size count old in
    let small = few_pages new.size page_size size.least few in
    let counts = takes_count page_size count old trunks sized whole.header.there.most whole.header.good whole.freelist (omega (arith, small)) in
    let grows = takes_mono page_size count old in
    let enough : old.size + count < 4294967296 = omega (arith, counts.0, small, grows, pages_add_up old roots trees trunks whole) in
    let same : page_of (unsized_header old) ≡ page_size = header_size old page_size whole.header size sized.most spare in
    let admits : page_of (unsized_header old) * new.size ≤ greatest_length = let turned = ap (λ p. p * new.size) same in omega (arith, turned, few) in
    let many = takes_keep_holds page_size count old trunks sized enough whole.header.there.most whole.header.good whole.freelist in
    let both = whole_takes front_apart takes_keep_holds page_size count old roots trees trunks sized enough whole (grows, admits) in
    record {
      many = many;
      whole = both.0;
      unnamed = both.1;
      sized = record {
        least = omega (arith, sized.least, many.leaves.used);
        most = omega (arith, sized.most, many.leaves.used);
        short = sized.short;
        few = omega (arith, small);
        each = many.leaves.sized;
      };
      counted = counts.0;
      left = counts.1;
      added = takes_added page_size count old trunks sized whole.header.there.most whole.header.good whole.freelist (omega (arith, small));
    }
