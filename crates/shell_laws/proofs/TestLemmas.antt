-- Tests that hold together.
use Rattle.std.proofs.Common.{◌≡◌, ℕ, ◌&&◌, Bool, true, false, not, refl}
use Rattle.std.specs.Prelude.{MatchBool}
use Rattle.vfs_model.specs.declared.level.Level.TheVariants.{Shared, Reserved}
use Rattle.shell_model.specs.State.{State, is_refused}
use Rattle.shell_laws.specs.Free.{may_write}

pub goes : (b : Bool) → b ≡ false → not b ≡ true
goes b is = cc

pub both : (a b : Bool) → a ≡ true → b ≡ true → (a && b) ≡ true
both a b p q = cc

pub and_first : (a b : Bool) → (a && b) ≡ true → a ≡ true
and_first true b e = refl
and_first false b e = absurd (cc)

pub and_second : (a b : Bool) → (a && b) ≡ true → b ≡ true
and_second true b e = e
and_second false b e = absurd (cc)

pub not_true : (b : Bool) → not b ≡ true → b ≡ false
not_true true e = absurd (cc)
not_true false e = refl

pub not_false : (b : Bool) → not b ≡ false → b ≡ true
not_false true e = refl
not_false false e = absurd (cc)

pub true_not : (b : Bool) → b ≡ true → not b ≡ false
true_not true e = refl
true_not false e = absurd (cc)

pub at_false : (b : Bool) (P Q : Type 0) → b ≡ false → MatchBool b P Q → Q
at_false true P Q is l = absurd (cc)
at_false false P Q is l = l

pub finds_of : (p f : Bool) → (not p && not f) ≡ false → f ≡ false → (p && not f) ≡ true
finds_of true false none other = refl
finds_of true true none other = absurd (cc)
finds_of false true none other = absurd (cc)
finds_of false false none other = absurd (cc)

pub writes_of : (s : State) (who : ℕ) → s.stopped ≡ false → is_refused s.levels who Shared ≡ false → is_refused s.levels who Reserved ≡ false → may_write s who ≡ true
writes_of s who live shared reserved =
    both (not s.stopped) (not (is_refused s.levels who Shared) && not (is_refused s.levels who Reserved)) (goes s.stopped live)
    (both (not (is_refused s.levels who Shared)) (not (is_refused s.levels who Reserved)) (goes (is_refused s.levels who Shared) shared) (goes (is_refused s.levels who Reserved) reserved))
