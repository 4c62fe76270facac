-- What a judgement says of the reply that was given.
use Rattle.std.proofs.Common.{◌≡◌, ◌↔◌, ℕ, Bool, true, false, IsTrue, IfOk, Result, Ok, Err, refl, sym, subst, ◌∙◌}
use Rattle.std.specs.declared.alloc.AllocError.{AllocError}
use Rattle.shell_lang.specs.declared.command.Command.{Command}
use Rattle.shell_lang.specs.declared.reply.Reply.{Reply}
use Rattle.shell_lang.specs.declared.reply.Reply.TheVariants as reply
use Rattle.shell_model.specs.State.{State}
use Rattle.shell_model.specs.Step.{is_free}
use Rattle.shell_laws.specs.Free.{SomeStep}

-- a test that tells a law's fact tells whether there is a step
pub by_test : (s : State) (who : ℕ) (asked : Command) (given free : Reply) (told may : Bool) → given ≡ free → told ≡ may → SomeStep s who asked free ↔ IsTrue may → IsTrue told ↔ SomeStep s who asked given
by_test s who asked given free told may is same law = (
  λ yes. subst (λ (r : Reply). SomeStep s who asked r) (sym is) (law.1 (sym same ∙ yes)),
  λ some. same ∙ law.0 (subst (λ (r : Reply). SomeStep s who asked r) is some),
)

-- what tells one of two facts of which each gives the other tells the other
pub through : (r : Result Bool AllocError) (P Q : Type 0) → P ↔ Q → IfOk r (λ told. IsTrue told ↔ Q) → IfOk r (λ told. IsTrue told ↔ P)
through (Ok b) P Q law told = (λ yes. law.1 (told.0 yes), λ p. told.1 (law.0 p))
through (Err e) P Q law told = told

-- the same reply, by another name
pub renamed : (s : State) (who : ℕ) (asked : Command) (given seen : Reply) (r : Result Bool AllocError) → given ≡ seen → IfOk r (λ told. IsTrue told ↔ SomeStep s who asked seen) → IfOk r (λ told. IsTrue told ↔ SomeStep s who asked given)
renamed s who asked given seen r is told = subst (λ (x : Reply). IfOk r (λ b. IsTrue b ↔ SomeStep s who asked x)) (sym is) told

-- a reply that is free only where it is want of memory, and is not that, is not free
bound_by : (free : Bool) → ¬ (free ≡ true) → free ≡ false
bound_by true out = absurd (out refl)
bound_by false out = refl

pub bound : (r : Reply) → (is_free r ≡ true → r ≡ reply.Memory) → ¬ (r ≡ reply.Memory) → is_free r ≡ false
bound r only other = bound_by (is_free r) (λ free. other (only free))
