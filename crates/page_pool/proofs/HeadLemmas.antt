-- What was read of the head of the freelist says which page is taken and where one is given.
use Rattle.std.proofs.Common.{◌≡◌, ◌≢◌, ℕ, ◌+◌, ◌-◌, ◌*◌, ◌≤◌, ◌<◌, min, List, IsTrue, None, MatchOption, Result, Ok, Err, refl, sym, ap, ◌∙◌, subst, inl, inr, arith, rules}
use Rattle.std.proofs.Math.ListN.{replicate}
use Rattle.std.specs.Result.{IfOk}
use Rattle.std.proofs.lemmas.Bool.{cases_eq, eq-eqb, ne_eqb, lt-ltb, le-ltb}
use Rattle.byte_base.specs.Numbers.{number_at, with_number}
use Rattle.page_list.specs.Pages.{Pages, HasPage}
use Rattle.page_list.specs.Freelist.{first_trunk, leaf_count, leaf_at, full, HasHead}
use Rattle.page_list.specs.Edits.{cleared, rewritten, grown, trunk_taken, leaf_taken, leaf_given, trunk_given, taken_number, after_take, after_give}
use Rattle.page_pool.specs.Space.{SpaceState, IsLarge, Put, Grew, GrowCause, GrowLeaves}
use Rattle.page_pool.specs.Pool.{Taken, Given, HasNoRoom}
use Rattle.page_pool.specs.Steps.{Same, ReadsPage, ReadsTrunk, ReadsHead, Wrote}
use Rattle.db_format.specs.declared.fault.SpaceFault.{SpaceFault}
use Rattle.page_pool.specs.declared.head.Head.{Head}
use Rattle.page_pool.specs.declared.head.TrunkPage.{TrunkPage}

-- the three ways to take a page, and the two to give one
takes_new : (pages : Pages) (page_size : ℕ) → first_trunk pages ≡ 0 → (taken_number pages ≡ pages.size + 1) × (after_take page_size pages ≡ grown page_size pages)
unfolding taken_number after_take
takes_new pages page_size none = rw (eq-eqb (first_trunk pages) 0 none) (refl, refl)

takes_trunk : (pages : Pages) (page_size : ℕ) → first_trunk pages ≢ 0 → leaf_count pages (first_trunk pages) ≡ 0
    → (taken_number pages ≡ first_trunk pages) × (after_take page_size pages ≡ trunk_taken (first_trunk pages) pages)
unfolding taken_number after_take
takes_trunk pages page_size some none = rw (ne_eqb (first_trunk pages) 0 some, eq-eqb (leaf_count pages (first_trunk pages)) 0 none) (refl, refl)

takes_leaf : (pages : Pages) (page_size : ℕ) → first_trunk pages ≢ 0 → 1 ≤ leaf_count pages (first_trunk pages)
    → (taken_number pages ≡ leaf_at pages (first_trunk pages) (leaf_count pages (first_trunk pages) - 1)) × (after_take page_size pages ≡ leaf_taken (first_trunk pages) pages)
unfolding taken_number after_take
takes_leaf pages page_size some leaf =
    rw (ne_eqb (first_trunk pages) 0 some, ne_eqb (leaf_count pages (first_trunk pages)) 0 (λ e. omega (arith, leaf, e))) (refl, refl)

gives_leaf : (pages : Pages) (page_size number : ℕ) → first_trunk pages ≢ 0 → leaf_count pages (first_trunk pages) < full pages.usable
    → after_give page_size number pages ≡ leaf_given (first_trunk pages) number pages
unfolding after_give
gives_leaf pages page_size number some room = rw (ne_eqb (first_trunk pages) 0 some, lt-ltb (leaf_count pages (first_trunk pages)) (full pages.usable) room) refl

gives_trunk : (pages : Pages) (page_size number : ℕ) → HasNoRoom pages → after_give page_size number pages ≡ trunk_given page_size number pages
unfolding after_give
gives_trunk pages page_size number (inl none) = rw (eq-eqb (first_trunk pages) 0 none) refl
gives_trunk pages page_size number (inr whole) = elim (cases_eq (first_trunk pages) 0) [
  | inl none ↦ rw (eq-eqb (first_trunk pages) 0 none) refl
  | inr some ↦ rw (ne_eqb (first_trunk pages) 0 some, le-ltb (leaf_count pages (first_trunk pages)) (full pages.usable) whole) refl
]

-- what was read, as the pages have it
record Told (pages : Pages) (first : List ℕ) (trunk : TrunkPage) : Type 0 where
  some : first_trunk pages ≢ 0
  head : HasHead pages
  first_is : first ≡ pages.bytes 1
  named : trunk.number ≡ first_trunk pages
  page_is : trunk.page ≡ pages.bytes (first_trunk pages)
  counted : trunk.leaves ≡ leaf_count pages (first_trunk pages)

told_of : (s : SpaceState) (first : List ℕ) (trunk : TrunkPage) → ReadsPage s 1 first → ReadsTrunk s first trunk → IsTrue s.tells → Told s.pages first trunk
told_of s first trunk holds read told =
    let first_is = holds.is_page told in
    let named : trunk.number ≡ first_trunk s.pages = read.named ∙ ap (λ x. number_at 4 x 32) first_is in
    let page_is : trunk.page ≡ s.pages.bytes (first_trunk s.pages) = read.holds.is_page told ∙ ap s.pages.bytes named in
    let counted : trunk.leaves ≡ leaf_count s.pages (first_trunk s.pages) = read.counted ∙ ap (λ x. number_at 4 x 4) page_is in
    record {
      some = λ none. omega (arith, read.there.least, named, none);
      head = record {
        first_good = holds.good told;
        trunk = inr (record {
          named = refl;
          there = record { least = omega (arith, read.there.least, named); most = omega (arith, read.there.most, named) };
          good = ap s.pages.bad (sym named) ∙ read.holds.good told;
          few = omega (arith, read.few, counted);
        });
      };
      first_is = first_is;
      named = named;
      page_is = page_is;
      counted = counted;
    }

pub trunk_is_taken : (old new : SpaceState) (first last : List ℕ) (trunk : TrunkPage) → ReadsPage old 1 first → ReadsTrunk old first trunk → trunk.leaves ≡ 0
    → last ≡ with_number 4 36 (number_at 4 first 36 - 1) (with_number 4 32 (number_at 4 trunk.page 0) first)
    → Put old new 1 (cleared old.pages.usable last) → Taken old new trunk.number
trunk_is_taken old new first last trunk holds read empty last_is put =
    let is : IsTrue old.tells → Told old.pages first trunk = told_of old first trunk holds read in
    let takes = λ (told : IsTrue old.tells). takes_trunk old.pages old.page_size (is told).some (sym (is told).counted ∙ empty) in
    record {
      within = record { least = read.there.least; most = omega (arith, read.there.most, put.size) };
      grows = inl put.size;
      change = put.change;
      head = λ told. (is told).head;
      is = λ told. (is told).named ∙ sym (takes told).0;
      pages_are = λ told.
          put.pages_are told
          ∙ ap (λ x. rewritten 1 x old.pages) last_is
          ∙ (λ i. rewritten 1 (with_number 4 36 (number_at 4 ((is told).first_is i) 36 - 1) (with_number 4 32 (number_at 4 ((is told).page_is i) 0) ((is told).first_is i))) old.pages)
          ∙ sym (takes told).1;
    }

pub leaf_is_taken : (old new : SpaceState) (first last page : List ℕ) (trunk : TrunkPage) (leaf : ℕ) → ReadsPage old 1 first → ReadsTrunk old first trunk → 1 ≤ trunk.leaves
    → leaf ≡ number_at 4 trunk.page (8 + 4 * (trunk.leaves - 1)) → HasPage old.pages leaf → page ≡ with_number 4 4 (trunk.leaves - 1) trunk.page
    → last ≡ with_number 4 36 (number_at 4 first 36 - 1) first → Wrote old new trunk.number page last → Taken old new leaf
leaf_is_taken old new first last page trunk leaf holds read some leaf_is there page_is last_is wrote =
    let is : IsTrue old.tells → Told old.pages first trunk = told_of old first trunk holds read in
    let takes = λ (told : IsTrue old.tells). takes_leaf old.pages old.page_size (is told).some (omega (arith, some, (is told).counted)) in
    record {
      within = record { least = there.least; most = omega (arith, there.most, wrote.size) };
      grows = inl wrote.size;
      change = wrote.change;
      head = λ told. (is told).head;
      is = λ told. leaf_is ∙ (λ i. number_at 4 ((is told).page_is i) (8 + 4 * ((is told).counted i - 1))) ∙ sym (takes told).0;
      pages_are = λ told.
          wrote.pages_are told
          ∙ (λ i. rewritten 1 (last_is i) (rewritten trunk.number (page_is i) old.pages))
          ∙ (λ i. rewritten 1 (with_number 4 36 (number_at 4 ((is told).first_is i) 36 - 1) ((is told).first_is i))
          (rewritten ((is told).named i) (with_number 4 4 ((is told).counted i - 1) ((is told).page_is i)) old.pages))
          ∙ sym (takes told).1;
    }

pub leaf_is_given : (old new : SpaceState) (first last page : List ℕ) (trunk : TrunkPage) (number : ℕ) → ReadsPage old 1 first → ReadsTrunk old first trunk
    → trunk.leaves < full old.pages.usable → page ≡ with_number 4 (8 + 4 * trunk.leaves) number (with_number 4 4 (trunk.leaves + 1) trunk.page)
    → last ≡ with_number 4 36 (min (number_at 4 first 36 + 1) 4294967295) first → Wrote old new trunk.number page last → Given old new number
leaf_is_given old new first last page trunk number holds read room page_is last_is wrote =
    let is : IsTrue old.tells → Told old.pages first trunk = told_of old first trunk holds read in
    record {
      size = wrote.size;
      change = wrote.change;
      head = λ told. (is told).head;
      good = λ told whole. elim whole [
        | inl none ↦ absurd ((is told).some none)
        | inr few ↦ absurd (omega (arith, few, room, (is told).counted))
      ];
      pages_are = λ told.
          wrote.pages_are told
          ∙ (λ i. rewritten 1 (last_is i) (rewritten trunk.number (page_is i) old.pages))
          ∙ (λ i. rewritten 1 (with_number 4 36 (min (number_at 4 ((is told).first_is i) 36 + 1) 4294967295) ((is told).first_is i))
          (rewritten ((is told).named i)
          (with_number 4 (8 + 4 * (is told).counted i) number (with_number 4 4 ((is told).counted i + 1) ((is told).page_is i))) old.pages))
          ∙ sym (gives_leaf old.pages old.page_size number (is told).some (omega (arith, room, (is told).counted)));
    }

pub trunk_is_given : (old new : SpaceState) (first last page : List ℕ) (number : ℕ) → ReadsPage old 1 first → (IsTrue old.tells → HasHead old.pages)
    → (IsTrue old.tells → HasNoRoom old.pages) → page ≡ with_number 4 0 (number_at 4 first 32) (replicate old.page_size 0)
    → last ≡ with_number 4 36 (min (number_at 4 first 36 + 1) 4294967295) (with_number 4 32 number first) → Wrote old new number page last → Given old new number
trunk_is_given old new first last page number holds head whole page_is last_is wrote = record {
  size = wrote.size;
  change = wrote.change;
  head = head;
  good = λ told _. wrote.good told;
  pages_are = λ told.
      wrote.pages_are told
      ∙ (λ i. rewritten 1 (last_is i) (rewritten number (page_is i) old.pages))
      ∙ (λ i. let first_now = holds.is_page told i in
      rewritten 1 (with_number 4 36 (min (number_at 4 first_now 36 + 1) 4294967295) (with_number 4 32 number first_now))
      (rewritten number (with_number 4 0 (number_at 4 first_now 32) (replicate old.page_size 0)) old.pages))
      ∙ sym (gives_trunk old.pages old.page_size number (whole told));
}

-- page 1 names no trunk, and the space grew
pub page_is_new : (old new : SpaceState) (first : List ℕ) (number : ℕ) → ReadsPage old 1 first → number_at 4 first 32 ≡ 0 → ¬ (IsLarge old) → Grew old new number
    → Taken old new number
page_is_new old new first number holds none small grew =
    let empty : IsTrue old.tells → first_trunk old.pages ≡ 0 = λ told. ap (λ x. number_at 4 x 32) (sym (holds.is_page told)) ∙ none in
    let takes = λ (told : IsTrue old.tells). takes_new old.pages old.page_size (empty told) in
    record {
      within = record { least = omega (arith, grew.next); most = omega (arith, grew.next, grew.size) };
      grows = inr (grew.size, small);
      change = grew.change;
      head = λ told. record { first_good = holds.good told; trunk = inl (empty told) };
      is = λ told. grew.next ∙ sym (takes told).0;
      pages_are = λ told. grew.pages_are told ∙ sym (takes told).1;
    }

-- what was taken after a read was taken before it
taken_before : (old mid new : SpaceState) (number : ℕ) → Same old mid → Taken mid new number → Taken old new number
taken_before old mid new number same taken = search rules

-- a space grew after a read that found no trunk
pub page_is_grown : (old mid new : SpaceState) (head : Head) (result : Result ℕ SpaceFault) → Same old mid → ReadsHead mid head → head.trunk ≡ None
    → GrowCause mid new result → GrowLeaves mid new result → IfOk result (Taken old new)
page_is_grown old mid new head (Ok number) same reads none cause grew =
    let named : number_at 4 head.first 32 ≡ 0 = subst (λ trunk. MatchOption trunk (number_at 4 head.first 32 ≡ 0) (ReadsTrunk mid head.first)) none reads.trunk_holds in
    taken_before old mid new number same (page_is_new mid new head.first number reads.first_holds named cause grew)
page_is_grown old mid new head (Err _) same reads none cause grew = tt
