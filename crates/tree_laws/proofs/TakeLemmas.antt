-- Pages stay whole while pages are taken from the freelist and given to it.
use Rattle.std.proofs.Common.{◌≡◌, ◌⊎◌, inl, inr, ℕ, ◌*◌, ◌-◌, ◌≤◌, ◌<◌, nat_lt, false, List, take, drop, slice_index, None, sym, ap, ◌∙◌, arith}
use Rattle.std.proofs.lemmas.Bool.{cases_lt}
use Rattle.std.proofs.lemmas.Grind.{common_steps}
use Rattle.std.proofs.lemmas.List.{get_or-drop, get_or-take, drop-drop}
use Rattle.db_format.specs.Header.{page_of, greatest_length, fields_of}
use Rattle.db_format.proofs.HeaderLemmas.{none_accepted}
use Rattle.page_list.specs.Pages.{Pages, HasPage, IsGood, times, Among}
use Rattle.page_list.specs.Freelist.{Trunk, free_pages, take_each, give_each}
use Rattle.page_list.specs.Edits.{taken_numbers, after_takes, after_gives}
use Rattle.page_list.specs.Laws.{OnlyHead, LeavesFreelist, TakesEach, GivesEach}
use Rattle.page_list.proofs.ChainLemmas.{times-append, among-front, among-back}
use Rattle.tree_page.specs.Laws.{FrontApart}
use Rattle.tree_model.specs.Tree.{Tree}
use Rattle.tree_model.specs.Whole.{HasHeader, IsWholeFor, unsized_header, used_pages, named_pages}
use Rattle.tree_model.specs.Laws.{Admits}
use Rattle.tree_model.proofs.SizeLemmas.{no_fault}
use Rattle.tree_laws.specs.Front.{FrontChanges}
use Rattle.tree_laws.specs.Whole.{WholeTakes, WholeGives}
use Rattle.tree_laws.proofs.FrontLemmas.{whole_front}
use Rattle.tree_laws.proofs.RangeLemmas.{used_there}

-- where no more of page 1 changes than the head of the freelist, the fields of its header stay
pub byte_before : (a b : List ℕ) (k : ℕ) → take 32 a ≡ take 32 b → k < 32 → slice_index a k ≡ slice_index b k
byte_before a b k same within = sym (get_or-take 32 a k 0 within) ∙ ap (λ (l : List ℕ). slice_index l k) same ∙ get_or-take 32 b k 0 within

pub byte_after : (usable : ℕ) (a b : List ℕ) (k : ℕ) → drop 40 (take usable a) ≡ drop 40 (take usable b) → 40 ≤ k → k < usable → slice_index a k ≡ slice_index b k
byte_after usable a b k same behind within = one a ∙ ap (λ (l : List ℕ). slice_index l (k - 40)) same ∙ sym (one b)
  where
    one : (l : List ℕ) → slice_index l k ≡ slice_index (drop 40 (take usable l)) (k - 40)
    one l = sym (get_or-take usable l k 0 within) ∙ ap (λ n. slice_index (take usable l) n) (omega (arith, behind)) ∙ sym (get_or-drop 40 (take usable l) (k - 40) 0)

head_changes : (old new : Pages) → OnlyHead old new → HasPage new 1 → 480 ≤ old.usable → FrontChanges old new
head_changes old new head there least = record {
  there = there;
  good = head.good;
  fields = record {
    long = head.long;
    same = λ place stays. elim stays [
      | inl before ↦ byte_before (new.bytes 1) (old.bytes 1) place head.front (omega (arith, before))
      | inr between ↦ byte_after old.usable (new.bytes 1) (old.bytes 1) place head.rest (omega (arith, between.0)) (omega (arith, between.1, least))
    ];
  };
  behind = sym (drop-drop 60 40 (take old.usable (new.bytes 1))) ∙ ap (λ (l : List ℕ). drop 60 l) head.rest ∙ drop-drop 60 40 (take old.usable (old.bytes 1));
}

-- the pages of a header that is accepted are not too many
not_greater : (n : ℕ) → nat_lt greatest_length n ≡ false → n ≤ greatest_length
not_greater n e = grind (arith, common_steps)

pub not_too_long : (pages : Pages) → HasHeader pages → page_of (unsized_header pages) * pages.size ≤ greatest_length
not_too_long pages has =
    let len : ℕ = page_of (unsized_header pages) * pages.size in
    not_greater len (none_accepted (unsized_header pages) len None (no_fault _ (fields_of (unsized_header pages) len) has.accepted)).small

-- no page is used and free
pub apart : (pages : Pages) (roots : List ℕ) (trees : List Tree) (trunks : List Trunk) → IsWholeFor pages roots trees trunks → (n : ℕ) → Among (used_pages roots trees) n
    → ¬ (Among (free_pages trunks) n)
apart pages roots trees trunks whole n used free = omega (arith, used, free, whole.different.once n, times-append n (used_pages roots trees) (free_pages trunks))

-- pages stay whole with another freelist, of pages that were free or are given, where all stays beside page 1, the free pages and these
with_freelist : FrontApart → (page_size : ℕ) (old new : Pages) (roots : List ℕ) (trees : List Tree) (trunks trunks' : List Trunk) (numbers : List ℕ) → 480 ≤ old.usable
    → IsWholeFor old roots trees trunks → Admits old new → LeavesFreelist page_size old new trunks trunks' numbers
    → ((n : ℕ) → Among numbers n → ¬ (Among (used_pages roots trees) n))
    → ((n : ℕ) → Among (free_pages trunks') n → Among (free_pages trunks) n ⊎ (Among numbers n × IsGood old n)) → IsWholeFor new roots trees trunks'
with_freelist front_apart page_size old new roots trees trunks trunks' numbers least whole admits leaves beside came =
    let grows : (n : ℕ) → HasPage old n → HasPage new n = λ n has. record { least = has.least; most = omega (arith, has.most, admits.0) } in
    whole_front front_apart old new roots trees trunks trunks' whole
    record {
      used = leaves.used;
      there = λ n is. grows n;
      same = λ n is. leaves.others n is.1 (apart old roots trees trunks whole n is.0) (λ some. beside n some is.0);
    }
    (head_changes old new leaves.first (grows 1 whole.header.there) least) admits leaves.freelist
    (λ n some. elim (came n some) [
      | inl free ↦ (leaves.good n (whole.good_free n free), λ used. apart old roots trees trunks whole n used free)
      | inr given ↦ (leaves.good n given.1, beside n given.0)
    ])
    (leaves.counts whole.counted)

pub whole_takes : FrontApart → TakesEach → WholeTakes
whole_takes front_apart takes page_size count old roots trees trunks sized few whole admits =
    let new : Pages = after_takes page_size count old in
    let numbers : List ℕ = taken_numbers page_size count old in
    let left : List Trunk = take_each count trunks in
    let taken = takes page_size count old trunks sized few whole.header.there.most whole.header.good whole.freelist in
    let not_used : (n : ℕ) → Among numbers n → ¬ (Among (used_pages roots trees) n) = λ n some used. elim (taken.each n some).2 [
      | inl free ↦ apart old roots trees trunks whole n used free
      | inr fresh ↦ omega (arith, fresh, (used_there old roots trees trunks whole n used).most)
    ] in
    let still : (n : ℕ) → Among (free_pages left) n → Among (free_pages trunks) n = λ n some.
    omega (arith, some, taken.rest n (λ among. (taken.each n among).3 some)) in (
      with_freelist front_apart page_size old new roots trees trunks left numbers sized.least whole admits taken.leaves not_used (λ n some. inl (still n some)),
      record {
        each = λ n some. (
          (taken.each n some).0,
          (taken.each n some).1,
          λ named. elim (cases_lt 0 (times n (used_pages roots trees))) [
            | inl used ↦ not_used n some (omega (arith, used))
            | inr none ↦ (taken.each n some).3 (omega (arith, none, named, times-append n (used_pages roots trees) (free_pages left)))
          ],
        );
        different = taken.different;
      },
    )

pub whole_gives : FrontApart → GivesEach → WholeGives
whole_gives front_apart gives page_size old roots trees trunks numbers sized whole unnamed good =
    let new : Pages = after_gives page_size numbers old in
    let more : List Trunk = give_each old.usable numbers trunks in
    let used_named : (n : ℕ) → Among (used_pages roots trees) n → Among (named_pages roots trees trunks) n =
    λ n some. among-front n (used_pages roots trees) (free_pages trunks) some in
    let free_named : (n : ℕ) → Among (free_pages trunks) n → Among (named_pages roots trees trunks) n =
    λ n some. among-back n (used_pages roots trees) (free_pages trunks) some in
    let given = gives page_size old trunks numbers sized whole.header.good whole.freelist record {
      each = λ n some. ((unnamed.each n some).0, (unnamed.each n some).1, λ free. (unnamed.each n some).2 (free_named n free));
      different = unnamed.different;
    } in
    let enough : page_of (unsized_header old) * new.size ≤ greatest_length =
    omega (arith, not_too_long old whole.header, ap (λ size. page_of (unsized_header old) * size) given.size) in
    let came : (n : ℕ) → Among (free_pages more) n → Among (free_pages trunks) n ⊎ (Among numbers n × IsGood old n) = λ n some. elim (cases_lt 0 (times n (free_pages trunks))) [
      | inl free ↦ inl (omega (arith, free))
      | inr none ↦ let is : Among numbers n = omega (arith, none, some, given.count n) in inr (is, good n is)
    ] in
    with_freelist front_apart page_size old new roots trees trunks more numbers sized.least whole (omega (arith, given.size), enough) given.leaves
    (λ n some used. (unnamed.each n some).2 (used_named n used)) came
