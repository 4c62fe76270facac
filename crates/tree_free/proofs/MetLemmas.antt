-- Pages that are met.
use Rattle.std.proofs.Common.{◌≡◌, ◌≢◌, inl, inr, ℕ, ◌+◌, ◌≤◌, Bool, true, false, not, cond, if◌then◌else◌, List, [], ◌∷◌, ◌++◌, IsTrue, refl, sym, ap, subst, ◌∙◌, arith, append_assoc, append-nil}
use Rattle.std.proofs.lemmas.Bool.Decides.{nat_tests}
use Rattle.std.specs.List.{list_any}
use Rattle.std.specs.Ordering.{nat_cmp}
use Rattle.std.specs.BTreeMap.{is_at}
use Rattle.std.specs.BTreeSet.{BTreeSet, contains, Updates}
use Rattle.db_format.specs.declared.fault.SpaceFault.{SpaceFault}
use Rattle.db_format.specs.declared.fault.SpaceFault.TheVariants.{Failed, Memory, Bad, Corrupt, Large}
use Rattle.page_list.specs.Pages.{times, Among}
use Rattle.page_list.proofs.TimesLemmas.{times-append, times-same, same_or_other, among-here}
use Rattle.page_pool.specs.Space.{SpaceState}
use Rattle.tree_model.specs.declared.ends.Fault.{Fault}
use Rattle.tree_model.specs.declared.ends.Fault.TheVariants.{Broken}
use Rattle.tree_search.specs.Search.{SearchRefused}
use Rattle.tree_free.specs.declared.collect.Collected.{Collected}
use Rattle.tree_free.specs.Steps.{met_in, MetMore, Grown, MeetRefused}

at_same : (x q : ℕ) → x ≡ q → is_at (nat_cmp x) q ≡ true
at_same x q same = grind (arith, nat_tests)

at_other : (x q : ℕ) → x ≢ q → is_at (nat_cmp x) q ≡ false
at_other x q other = grind (arith, nat_tests)

-- what a set says of a number that is put into it
pub had : (has added : Bool) → added ≡ not has → added ≡ false → has ≡ true
had true added is none = refl
had false added is none = cc

pub had_not : (has added : Bool) → added ≡ not has → added ≡ true → has ≡ false
had_not true added is one = cc
had_not false added is one = refl

-- a number that a set gained
pub met_one : (old now : BTreeSet ℕ) (x : ℕ) → Updates nat_cmp old now x true → contains nat_cmp old x ≡ false → MetMore old now (x ∷ [])
unfolding met_in
met_one old now x updates new = record {
  each = λ q. elim (same_or_other q x) as (λ _. met_in now q ≡ met_in old q + times q (x ∷ [])) [
    | inl same ↦
        let P : ℕ → Type 0 = λ n. contains nat_cmp old n ≡ false in
        let has : contains nat_cmp now q ≡ true = updates.0 q ∙ ap (λ (b : Bool). cond b true (contains nat_cmp old q)) (at_same x q same.0) in
        let had : contains nat_cmp old q ≡ false = subst P same.0 new in
        let one : met_in now q ≡ 1 = ap (λ (b : Bool). if b then 1 else 0) has in
        let none : met_in old q ≡ 0 = ap (λ (b : Bool). if b then 1 else 0) had in
        omega (arith, one, none, same.1)
    | inr other ↦
        let as_before : contains nat_cmp now q ≡ contains nat_cmp old q = updates.0 q ∙ ap (λ (b : Bool). cond b true (contains nat_cmp old q)) (at_other x q other.0) in
        let still : met_in now q ≡ met_in old q = ap (λ (b : Bool). if b then 1 else 0) as_before in
        omega (arith, still, other.1)
  ];
}

-- one that it has is met
pub met_again : (old : BTreeSet ℕ) (x : ℕ) → contains nat_cmp old x ≡ true → MeetRefused old (x ∷ []) (Corrupt x)
unfolding met_in
met_again old x has =
    let one : met_in old x ≡ 1 = ap (λ (b : Bool). if b then 1 else 0) has in
    (among-here x [], omega (arith, one, times-same x))

pub met_none : (met : BTreeSet ℕ) (n : ℕ) → met.keys ≡ [] → met_in met n ≡ 0
unfolding met_in
met_none met n none = ap (λ (l : List ℕ). if list_any (is_at (nat_cmp n)) l then 1 else 0) none

at_most_one : (b : Bool) → (if b then 1 else 0) ≤ 1
at_most_one true = omega arith
at_most_one false = omega arith

pub met_once : (met : BTreeSet ℕ) (n : ℕ) → met_in met n ≤ 1
unfolding met_in
met_once met n = at_most_one (contains nat_cmp met n)

pub met_on : (a b c : BTreeSet ℕ) (xs ys : List ℕ) → MetMore a b xs → MetMore b c ys → MetMore a c (xs ++ ys)
met_on a b c xs ys p q = record { each = λ n. omega (arith, p.each n, q.each n, times-append n xs ys) }

pub grown_none : (a : Collected) → Grown a a []
grown_none a = record { behind = sym (append-nil a.numbers.items); met_more = record { each = λ n. omega arith }; as_long = refl }

pub grown_on : (a b c : Collected) (xs ys : List ℕ) → Grown a b xs → Grown b c ys → Grown a c (xs ++ ys)
grown_on a b c xs ys p q = record {
  behind = q.behind ∙ ap (λ (l : List ℕ). l ++ ys) p.behind ∙ append_assoc a.numbers.items xs ys;
  met_more = met_on a.met b.met c.met xs ys p.met_more q.met_more;
  as_long = q.as_long ∙ p.as_long;
}

-- of numbers that are met one after the other, one is refused
pub meet_on : (met now : BTreeSet ℕ) (numbers front : List ℕ) (x : ℕ) (back : List ℕ) (fault : SpaceFault) → MetMore met now front → numbers ≡ front ++ x ∷ back
    → MeetRefused now (x ∷ []) fault → MeetRefused met numbers fault
meet_on met now numbers front x back Failed more are refused = refused
meet_on met now numbers front x back Memory more are refused = tt
meet_on met now numbers front x back (Bad page kept found) more are refused = refused
meet_on met now numbers front x back (Corrupt page) more are refused =
    let count : times page numbers ≡ times page front + times page (x ∷ back) = ap (times page) are ∙ times-append page front (x ∷ back) in
    (omega (arith, count, refused.0), omega (arith, count, more.each page, refused.1))
meet_on met now numbers front x back (Large pages) more are refused = refused

pub meets_refused : (old new : SpaceState) (A : Fault → Type 0) (met : BTreeSet ℕ) (numbers : List ℕ) (fault : SpaceFault)
    → (IsTrue old.tells → (n : ℕ) → Among numbers n → 2 ≤ met_in met n + times n numbers → A (Broken n)) → MeetRefused met numbers fault → SearchRefused old new A fault
meets_refused old new A met numbers Failed at refused = absurd refused
meets_refused old new A met numbers Memory at refused = tt
meets_refused old new A met numbers (Bad page kept found) at refused = absurd refused
meets_refused old new A met numbers (Corrupt page) at refused = λ t. at t page refused.0 refused.1
meets_refused old new A met numbers (Large pages) at refused = absurd refused
