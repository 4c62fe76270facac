-- Lists of cases: what they allow, the first that is due, and what holds of each.
use Rattle.std.proofs.Common.{◌≡◌, Bool, true, false, cond, IsTrue, ◌⊎◌, inl, inr, List, [], ◌∷◌, Option, Some, None, refl, ap, sym, ◌∙◌, subst}
use Rattle.std.specs.Prelude.{MatchBool}
use Rattle.std.proofs.lemmas.Bool.{cases_Bool}
use Rattle.shell_lang.specs.declared.reply.Reply.{Reply}
use Rattle.shell_model.specs.State.{State}
use Rattle.shell_model.specs.Cases.{Case, due, may, Allows}
use Rattle.shell_model.specs.Step.{is_free, first_due}

-- an option has one value
pub same_from_some : {A : Type 0} (a b : A) → Some a ≡ Some b → a ≡ b
same_from_some a b e = cc

-- what is true is not false
pub never : {A : Type 0} {b : Bool} → b ≡ true → b ≡ false → A
never is not = absurd (let e : true ≡ false = sym is ∙ not in cc)

-- ---- the first that is due

-- what may come and what is due are told apart by a test of the reply
abbrev pub FreeBy : (Reply → Bool) → List Case → Type 0
FreeBy test [] = Unit {0}
FreeBy test (due holds r s ∷ cases) = FreeBy test cases
FreeBy test (may holds r s ∷ cases) = (test r ≡ true) × FreeBy test cases

-- a reply that is none of those that may come is the first that is due
pub due_is_first : (cases : List Case) (answer : Reply) (next : State) → FreeBy is_free cases → Allows cases answer next → is_free answer ≡ false → first_due cases ≡ Some (answer, next)
due_is_first [] answer next free allowed bound = absurd allowed
due_is_first (due true r s ∷ cases) answer next free allowed bound = cc
due_is_first (due false r s ∷ cases) answer next free allowed bound = due_is_first cases answer next free allowed bound
due_is_first (may holds r s ∷ cases) answer next free allowed bound = elim allowed [
  | inl here ↦ absurd (let e : true ≡ false = cc (free.0, here.1, bound) in cc)
  | inr rest ↦ due_is_first cases answer next free.1 rest bound
]

-- the first that is due is allowed
pub first_is_allowed : (cases : List Case) (answer : Reply) (next : State) → first_due cases ≡ Some (answer, next) → Allows cases answer next
first_is_allowed [] answer next first = absurd (cc)
first_is_allowed (due true r s ∷ cases) answer next first = let e = same_from_some (r, s) (answer, next) first in (sym (ap (λ p. p.0) e), sym (ap (λ p. p.1) e))
first_is_allowed (due false r s ∷ cases) answer next first = first_is_allowed cases answer next first
first_is_allowed (may holds r s ∷ cases) answer next first = inr (first_is_allowed cases answer next first)

-- its reply
abbrev pub first_reply : List Case → Option Reply
first_reply [] = None
first_reply (due holds r s ∷ cases) = cond holds (Some r) (first_reply cases)
first_reply (may holds r s ∷ cases) = first_reply cases

pub first_reply-first_due : (cases : List Case) (answer : Reply) (next : State) → first_due cases ≡ Some (answer, next) → first_reply cases ≡ Some answer
first_reply-first_due [] answer next first = absurd (cc)
first_reply-first_due (due true r s ∷ cases) answer next first = ap (λ p. Some p.0) (same_from_some (r, s) (answer, next) first)
first_reply-first_due (due false r s ∷ cases) answer next first = first_reply-first_due cases answer next first
first_reply-first_due (may holds r s ∷ cases) answer next first = first_reply-first_due cases answer next first

-- whether the last case is due in any event
abbrev pub ends : List Case → Bool
ends [] = false
ends (due holds r s ∷ []) = holds
ends (may holds r s ∷ []) = false
ends (due holds r s ∷ case ∷ cases) = ends (case ∷ cases)
ends (may holds r s ∷ case ∷ cases) = ends (case ∷ cases)

-- then some case is due
pub some_first : (cases : List Case) → ends cases ≡ true → (answer : Reply) × (next : State) × (first_due cases ≡ Some (answer, next))
some_first [] e = absurd (cc)
some_first (due true r s ∷ cases) e = (r, s, refl)
some_first (due false r s ∷ []) e = absurd (cc)
some_first (due false r s ∷ case ∷ cases) e = some_first (case ∷ cases) e
some_first (may holds r s ∷ []) e = absurd (cc)
some_first (may holds r s ∷ case ∷ cases) e = some_first (case ∷ cases) e

-- ---- what a reply leads to

-- what a list of cases comes to for a reply that passes a test: each case due before it whose reply fails the test does
-- not hold
abbrev pub LeadsTo : (Reply → Bool) → List Case → Reply → State → Type 0
LeadsTo test [] answer next = ⊥
LeadsTo test (due holds r s ∷ cases) answer next =
    MatchBool (test r) (MatchBool holds ((answer ≡ r) × (next ≡ s)) (LeadsTo test cases answer next)) ((holds ≡ false) × LeadsTo test cases answer next)
LeadsTo test (may holds r s ∷ cases) answer next =
    MatchBool (test r) ((IsTrue holds × (answer ≡ r) × (next ≡ s)) ⊎ LeadsTo test cases answer next) (LeadsTo test cases answer next)

match_at_true : (b : Bool) (P Q : Type 0) → b ≡ true → P → MatchBool b P Q
match_at_true true P Q is p = p
match_at_true false P Q is p = absurd (cc)

match_at_false : (b : Bool) (P Q : Type 0) → b ≡ false → Q → MatchBool b P Q
match_at_false true P Q is q = absurd (cc)
match_at_false false P Q is q = q

-- a reply fails a test that another passes, so they differ
differ : (test : Reply → Bool) (r answer : Reply) → test r ≡ false → test answer ≡ true → answer ≡ r → ⊥
differ test r answer fails passes same = never passes (ap test same ∙ fails)

pub leads : (test : Reply → Bool) (cases : List Case) (answer : Reply) (next : State) → Allows cases answer next → test answer ≡ true → LeadsTo test cases answer next
leads test [] answer next allowed passes = absurd allowed
leads test (due true r s ∷ cases) answer next allowed passes = elim (cases_Bool (test r)) [
  | inl is ↦ match_at_true (test r) _ _ is allowed
  | inr not ↦ absurd (differ test r answer not passes allowed.0)
]
leads test (due false r s ∷ cases) answer next allowed passes = elim (cases_Bool (test r)) [
  | inl is ↦ match_at_true (test r) _ _ is (leads test cases answer next allowed passes)
  | inr not ↦ match_at_false (test r) _ _ not (refl, leads test cases answer next allowed passes)
]
leads test (may holds r s ∷ cases) answer next allowed passes = elim allowed [
  | inl here ↦ (elim (cases_Bool (test r)) [
    | inl is ↦ match_at_true (test r) _ _ is (inl here)
    | inr not ↦ absurd (differ test r answer not passes here.1)
  ])
  | inr rest ↦ (elim (cases_Bool (test r)) [
    | inl is ↦ match_at_true (test r) _ _ is (inr (leads test cases answer next rest passes))
    | inr not ↦ match_at_false (test r) _ _ not (leads test cases answer next rest passes)
  ])
]

-- ---- what holds of each

-- the reply and the state of each case have a property where it holds, and where those due before it do not
abbrev pub Each : (Reply → State → Type 0) → List Case → Type 0
Each P [] = Unit {0}
Each P (due holds r s ∷ cases) = (holds ≡ true → P r s) × (holds ≡ false → Each P cases)
Each P (may holds r s ∷ cases) = P r s × Each P cases

pub each_holds : (P : Reply → State → Type 0) (cases : List Case) (answer : Reply) (next : State) → Each P cases → Allows cases answer next → P answer next
each_holds P [] answer next each allowed = absurd allowed
each_holds P (due true r s ∷ cases) answer next each allowed = subst (λ (a : Reply). P a next) (sym allowed.0) (subst (λ (n : State). P r n) (sym allowed.1) (each.0 refl))
each_holds P (due false r s ∷ cases) answer next each allowed = each_holds P cases answer next (each.1 refl) allowed
each_holds P (may holds r s ∷ cases) answer next each allowed = elim allowed [
  | inl here ↦ subst (λ (a : Reply). P a next) (sym here.1) (subst (λ (n : State). P r n) (sym here.2) each.0)
  | inr rest ↦ each_holds P cases answer next each.1 rest
]
