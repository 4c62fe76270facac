-- What does not begin as a journal, or is too short for its header, is not hot.
use Rattle.std.proofs.Common.{arith, rules, ◌≡◌, ◌≢◌, ℕ, ◌<◌, nat_eq, nat_le, ◌&&◌, Bool, true, false, cond, [], ◌∷◌, length, Some, refl}
use Rattle.std.proofs.lemmas.Grind.{common_steps}
use Rattle.std.proofs.lemmas.Bool.Decides.{nat_tests}
use Rattle.journal_format.specs.Journal.{Hot, hot}
use Rattle.journal_format.specs.Laws.{ClosedIsCold, ShortIsCold}

not_first : (b : ℕ) → Some b ≢ Some 217 → nat_eq 217 b ≡ false
not_first b other = grind (arith, common_steps, other)

shut : (a b c : Bool) (x y : Hot) → b ≡ false → cond (a && (b && c)) x y ≡ y
shut true true c x y e = absurd (search (rules, e))
shut true false c x y e = refl
shut false b c x y e = refl

pub closed_is_cold_holds : ClosedIsCold
unfolding hot
closed_is_cold_holds exists [] closed = refl
closed_is_cold_holds exists (b ∷ bytes) closed = shut _ _ _ _ _ (not_first b closed)

shut_by_length : (a b : Bool) (x y : Hot) → a ≡ false → cond (a && b) x y ≡ y
shut_by_length true b x y e = absurd (search (rules, e))
shut_by_length false b x y e = refl

too_short : (n : ℕ) → n < 28 → nat_le 28 n ≡ false
too_short n h = grind (arith, nat_tests, h)

pub short_is_cold_holds : ShortIsCold
unfolding hot
short_is_cold_holds exists bytes short = shut_by_length (nat_le 28 (length bytes)) _ _ _ (too_short (length bytes) short)
