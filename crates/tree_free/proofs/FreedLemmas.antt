-- A tree given back in whole pages.
use Rattle.std.proofs.Common.{◌≡◌, ◌≢◌, ℕ, zero, suc, ◌≤◌, List, ◌∷◌, ◌++◌, length, IsTrue, refl, sym, ap, subst, ◌∙◌, arith, length-append}
use Rattle.page_list.specs.Pages.{Pages, HasPage, IsGood, AreSized, times, Among}
use Rattle.page_list.specs.Freelist.{Trunk, free_pages, give_each}
use Rattle.page_list.specs.Edits.{after_gives}
use Rattle.page_list.specs.Laws.{GivesEach, GivesMany}
use Rattle.page_list.proofs.TimesLemmas.{times-append, among-back}
use Rattle.page_pool.specs.Space.{SpaceState, HasSizes}
use Rattle.tree_model.specs.Tree.{Tree, pages_of}
use Rattle.tree_model.specs.Whole.{IsWholeFor, used_pages, named_pages}
use Rattle.tree_model.specs.Laws.{OneTree}
use Rattle.tree_model.proofs.WholeLemmas.{one_named}
use Rattle.tree_laws.specs.Whole.{AreUnnamed, WholeGives}
use Rattle.tree_laws.proofs.CountLemmas.{tally, tally_all}
use Rattle.tree_laws.proofs.KeptLemmas.{head_front}
use Rattle.tree_laws.proofs.RangeLemmas.{in_both}
use Rattle.tree_laws.proofs.RootLemmas.{removed_count, root_removed}
use Rattle.tree_free.specs.Free.{TreeFreed, IsRootFreed, RemovesRoot}
use Rattle.tree_free.proofs.HeldLemmas.{held_good, whole_holds}

-- what lists of the same numbers share
tally_same : (a b : List ℕ) (size : ℕ) → ((n : ℕ) → times n a ≡ times n b) → tally a size ≡ tally b size
tally_same a b zero same = refl
tally_same a b (suc n) same = omega (arith, same (suc n), tally_same a b n same)

as_many : (pages : Pages) (a b : List ℕ) → ((n : ℕ) → times n a ≡ times n b) → ((n : ℕ) → Among b n → HasPage pages n) → length a ≡ length b
as_many pages a b same there =
    omega (
      arith,
      tally_all a pages.size (λ n some. let has = there n (omega (arith, some, same n)) in (has.least, has.most)),
      tally_all b pages.size (λ n some. let has = there n some in (has.least, has.most)),
      tally_same a b pages.size same,
    )

-- pages of a tree that is no longer named
pub record IsLoose (pages : Pages) (front back : List ℕ) (root : ℕ) (before behind : List Tree) (tree : Tree) (trunks : List Trunk) : Type 0 where
  pub whole : IsWholeFor pages (front ++ back) (before ++ behind) trunks
  pub unnamed : AreUnnamed pages (named_pages (front ++ back) (before ++ behind) trunks) (pages_of tree)
  pub good : (n : ℕ) → Among (pages_of tree) n → IsGood pages n

pub loose : (pages : Pages) (front back : List ℕ) (root : ℕ) (before behind : List Tree) (tree : Tree) (trunks : List Trunk) → length front ≡ length before → root ≢ 1
    → IsWholeFor pages (front ++ root ∷ back) (before ++ tree ∷ behind) trunks → IsLoose pages front back root before behind tree trunks
loose pages front back root before behind tree trunks long other whole =
    let left = root_removed pages front back root before behind tree trunks long other whole in
    let holds = whole_holds pages front back root before behind tree trunks long other whole in
    record {
      whole = left.0;
      unnamed = record {
        each = λ n some. (
          above_one n (held_good pages tree holds.held n some).0.least
              (λ is_one. let P : ℕ → Type 0 = λ m. ¬ (Among (named_pages (front ++ back) (before ++ behind) trunks) m) in
              subst P is_one (left.1 n some) (one_named pages (front ++ back) (before ++ behind) trunks left.0.each_tree)),
          (held_good pages tree holds.held n some).0,
          left.1 n some,
        );
        different = record { once = λ n. omega (arith, holds.different.once n) };
      };
      good = λ n some. (held_good pages tree holds.held n some).1;
    }
  where
    above_one : (n : ℕ) → 1 ≤ n → ¬ (n ≡ 1) → 2 ≤ n
    above_one n least other = grind (arith, least, other)

-- what the gives leave
pub gives_loose : GivesEach → (page_size : ℕ) (pages : Pages) (roots : List ℕ) (trees : List Tree) (trunks : List Trunk) (numbers : List ℕ) → AreSized page_size pages
    → IsWholeFor pages roots trees trunks → AreUnnamed pages (named_pages roots trees trunks) numbers → GivesMany page_size pages trunks numbers
gives_loose gives page_size pages roots trees trunks numbers sized whole unnamed =
    gives page_size pages trunks numbers sized whole.header.good whole.freelist
    (record {
      each = λ n some.
          let u = unnamed.each n some in (u.0, u.1, λ free. u.2 (among-back n (used_pages roots trees) (free_pages trunks) free));
      different = unnamed.different;
    })

root_freed : GivesEach → WholeGives → (page_size : ℕ) (pages : Pages) (front back : List ℕ) (root : ℕ) (before behind : List Tree) (tree : Tree) (trunks : List Trunk)
    → AreSized page_size pages → length front ≡ length before → root ≢ 1 → IsWholeFor pages (front ++ root ∷ back) (before ++ tree ∷ behind) trunks
    → IsRootFreed pages (after_gives page_size (pages_of tree) pages) front back root before behind tree trunks
root_freed gives whole_gives page_size pages front back root before behind tree trunks sized long other whole =
    let numbers : List ℕ = pages_of tree in
    let new : Pages = after_gives page_size numbers pages in
    let more : List Trunk = give_each pages.usable numbers trunks in
    let old_named : List ℕ = named_pages (front ++ root ∷ back) (before ++ tree ∷ behind) trunks in
    let new_named : List ℕ = named_pages (front ++ back) (before ++ behind) more in
    let l = loose pages front back root before behind tree trunks long other whole in
    let given = gives_loose gives page_size pages (front ++ back) (before ++ behind) trunks numbers sized l.whole l.unnamed in
    let counts : (n : ℕ) → times n new_named ≡ times n old_named =
    λ n. omega (
      arith,
      times-append n (used_pages (front ++ back) (before ++ behind)) (free_pages more),
      times-append n (used_pages (front ++ back) (before ++ behind)) (free_pages trunks),
      given.count n,
      removed_count front back root before behind tree trunks n other,
    ) in
    let free_same : (n : ℕ) → times n (free_pages more) ≡ times n (numbers ++ free_pages trunks) = λ n. given.count n ∙ sym (times-append n numbers (free_pages trunks)) in
    let free_there : (n : ℕ) → Among (numbers ++ free_pages trunks) n → HasPage pages n =
    in_both (HasPage pages) numbers (free_pages trunks) (λ n some. (l.unnamed.each n some).1) (λ n some. (whole.freelist.within n some).0) in
    record {
      trunks' = more;
      whole = whole_gives page_size pages (front ++ back) (before ++ behind) trunks numbers sized l.whole l.unnamed l.good;
      more_free = omega (arith, as_many pages (free_pages more) (numbers ++ free_pages trunks) free_same free_there, length-append numbers (free_pages trunks));
      unnamed = λ n has none. record {
        unnamed = λ named. none (omega (arith, named, counts n));
        same = given.leaves.others n
            (λ is_one. let P : ℕ → Type 0 = λ m. Among old_named m in
            none (subst P (sym is_one) (one_named pages (front ++ root ∷ back) (before ++ tree ∷ behind) trunks whole.each_tree)))
            (λ free. none (among-back n (used_pages (front ++ root ∷ back) (before ++ tree ∷ behind)) (free_pages trunks) free))
            (λ some. none (omega (arith, some, removed_count front back root before behind tree trunks n other)));
      };
      none_lost = λ n has none. (record { least = has.least; most = omega (arith, has.most, given.size) }, λ named. none (omega (arith, named, counts n)));
      size = given.size;
      front = head_front pages new given.leaves.first sized.least;
    }

pub removes_root : GivesEach → WholeGives → OneTree → (old new : SpaceState) (root : ℕ) → IsTrue old.tells → HasSizes old → root ≢ 1 → TreeFreed old new root
    → RemovesRoot old.pages new.pages root
removes_root gives whole_gives one old new root told sizes other freed front back before behind tree trunks long whole =
    let holds = whole_holds old.pages front back root before behind tree trunks long other whole in
    let from = freed.from told in
    let same : freed.tree ≡ tree = one old.pages freed.tree tree from.held holds.held (from.rooted ∙ sym holds.rooted) in
    let is : new.pages ≡ after_gives old.page_size (pages_of tree) old.pages =
    freed.gave.pages_are told ∙ ap (λ (t : Tree). after_gives old.page_size (pages_of t) old.pages) same in
    let P : Pages → Type 0 = λ p. IsRootFreed old.pages p front back root before behind tree trunks in
    subst P (sym is) (root_freed gives whole_gives old.page_size old.pages front back root before behind tree trunks (sizes.each told) long other whole)
