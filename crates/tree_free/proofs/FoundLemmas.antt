-- All pages of a tree, collected and given.
use Rattle.std.proofs.Common.{◌≡◌, inl, inr, ℕ, ◌≤◌, List, [], ◌∷◌, ◌++◌, length, IsTrue, sym, ap, subst, ◌∙◌, arith}
use Rattle.std.specs.BTreeSet.{BTreeSet}
use Rattle.db_format.specs.declared.fault.SpaceFault.{SpaceFault}
use Rattle.page_list.specs.Pages.{Pages, Among}
use Rattle.page_list.proofs.TimesLemmas.{times_one}
use Rattle.page_pool.specs.Space.{SpaceState, Steady, Stays}
use Rattle.payload_chain.specs.Chains.{HasEach, GaveEach, GaveAll, StopsGivingEach}
use Rattle.payload_chain.proofs.GiveLemmas.{gave-later, stops-later}
use Rattle.tree_model.specs.Tree.{root_of, pages_of}
use Rattle.tree_model.specs.Whole.{most_depth}
use Rattle.tree_model.specs.declared.ends.Fault.{Fault}
use Rattle.tree_model.proofs.WholeLemmas.{root_named}
use Rattle.tree_search.specs.Search.{SearchRefused}
use Rattle.tree_search.proofs.StateLemmas.{refused_as}
use Rattle.tree_free.specs.Free.{TreeFreed, StopsGiving, FreeMeets, TreeRefused}
use Rattle.tree_free.specs.declared.collect.Collected.{Collected}
use Rattle.tree_free.specs.Steps.{MetMore, MeetRefused, GoneOver, WalkMeets, HasTree, FreeFails, FreeStops}
use Rattle.tree_free.proofs.MetLemmas.{met_none, met_once, meets_refused}

-- page 1 is not met yet
pub first_refused : (old new : SpaceState) (A : Fault → Type 0) (met : BTreeSet ℕ) (fault : SpaceFault) → met.keys ≡ [] → MeetRefused met (1 ∷ []) fault
    → SearchRefused old new A fault
first_refused old new A met fault none refused =
    meets_refused old new A met (1 ∷ []) fault (λ t n some two. absurd (omega (arith, two, met_none met n none, times_one n 1))) refused

pub tree_found : {s : SpaceState} {root : ℕ} {walk new : Collected} (met : BTreeSet ℕ) → met.keys ≡ [] → MetMore met walk.met (1 ∷ []) → walk.numbers.items ≡ []
    → GoneOver s most_depth root walk new → HasTree s root new.numbers.items
tree_found {s = s} {root = root} {walk = walk} {new = new} met none first empty gone =
    let is : new.numbers.items ≡ pages_of gone.tree = gone.grown.behind ∙ ap (λ (l : List ℕ). l ++ pages_of gone.tree) empty in
    let E : List ℕ → Type 0 = λ l. HasEach s.pages l in
    record {
      tree = gone.tree;
      all = is;
      there = subst E (sym is) gone.there;
      from = λ t. record {
        rooted = gone.rooted;
        held = gone.held t;
        shallow = gone.shallow;
        different = record { once = λ n. omega (arith, gone.grown.met_more.each n, first.each n, met_none met n none, met_once new.met n) };
      };
    }

free_fails : (pages : Pages) (root : ℕ) (met now : BTreeSet ℕ) (fault : Fault) → met.keys ≡ [] → MetMore met now (1 ∷ []) → WalkMeets most_depth pages root root now fault
    → FreeFails pages root fault
free_fails pages root met now fault none first walked = record {
  meets = elim walked.meets [
    | inl tree ↦ inl tree
    | inr twice ↦ inr (
      twice.number,
      twice.named,
      record {
        there = twice.there;
        none = λ tree holds.
            omega (arith, twice.twice tree holds.held holds.rooted, first.each twice.number, met_none met twice.number none, holds.different.once twice.number);
      },
    )
  ];
}

pub walk_refused : (old new : SpaceState) (root : ℕ) (met now : BTreeSet ℕ) (fault : SpaceFault) → met.keys ≡ [] → MetMore met now (1 ∷ [])
    → SearchRefused old new (WalkMeets most_depth old.pages root root now) fault → SearchRefused old new (FreeFails old.pages root) fault
walk_refused old new root met now fault none first refused =
    refused_as old new (WalkMeets most_depth old.pages root root now) (FreeFails old.pages root) fault (λ t f walked. free_fails old.pages root met now f none first walked) refused

-- the pages are given
pub tree_freed : {old mid new : SpaceState} {root : ℕ} {numbers : List ℕ} → Steady old mid → Stays old mid → HasTree old root numbers → GaveAll mid new numbers
    → TreeFreed old new root
tree_freed {old = old} {new = new} steady stays has gave =
    let G : List ℕ → Type 0 = λ l. GaveEach old new l in
    record { tree = has.tree; from = has.from; gave = subst G has.all (gave-later steady stays gave.gave) }

-- there is one at least
pub tree_changed : (old : SpaceState) {mid new : SpaceState} (root : ℕ) {numbers : List ℕ} → HasTree old root numbers → GaveAll mid new numbers → IsTrue new.changed
tree_changed old root has gave = gave.change (let some = some_pages (root_of has.tree) (pages_of has.tree) (root_named has.tree) in omega (arith, some, ap (λ (l : List ℕ). length l) has.all))
  where
    some_pages : (n : ℕ) (l : List ℕ) → Among l n → 1 ≤ length l
    some_pages n [] some = absurd (omega (arith, some))
    some_pages n (x ∷ l) some = omega arith

pub tree_stops : {old mid new : SpaceState} {root : ℕ} {numbers : List ℕ} (fault : SpaceFault) → Steady old mid → Stays old mid → HasTree old root numbers
    → StopsGivingEach mid new numbers fault → StopsGiving old new root fault
tree_stops fault steady stays has stops =
    let later = stops-later fault steady stays stops in
    record {
      tree = has.tree;
      from = has.from;
      given = later.given;
      number = later.number;
      more = later.more;
      all = sym has.all ∙ later.are;
      met = later.met;
      gave = later.gave;
      refused = later.refused;
    }

pub tree_refused : (old new : SpaceState) (root : ℕ) (fault : SpaceFault) → FreeStops old new root fault → TreeRefused old new root fault
tree_refused old new root fault (inl read) = inl (read.0, refused_as old new (FreeFails old.pages root) (FreeMeets old.pages root) fault (λ t f fails. fails.meets) read.1)
tree_refused old new root fault (inr stops) = inr stops
