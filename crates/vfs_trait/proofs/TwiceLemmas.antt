-- Two calls one after the other.
use Rattle.std.proofs.Common.{◌≡◌, ℕ, ◌≤◌, List, [], ◌∷◌, ◌++◌, IsTrue, IsSome, refl, sym, ap, ◌∙◌, subst, arith}
use Rattle.byte_base.specs.Count.{Rose}
use Rattle.vfs_model.specs.Laws.{LooserTwice}
use Rattle.vfs_trait.specs.State.{StackState, Steady, Rests, OpenStays, BrokenStays}
use Rattle.vfs_trait.specs.Calls.{FilesLeft}
use Rattle.vfs_trait.specs.Log.{Ring, RingsGrow, with_calls}
use Rattle.vfs_trait.specs.declared.log.Call.{Call}
use Rattle.vfs_trait.specs.declared.log.Outcome.{Outcome}

pub steady_twice : (a b c : StackState) → Steady a b → Steady b c → Steady a c
steady_twice a b c h k = record { tells = k.tells ∙ h.tells; layers = k.layers ∙ h.layers; faults = omega (arith, h.faults, k.faults) }

opens_twice : (a b c : StackState) → OpenStays a b → OpenStays b c → OpenStays a c
opens_twice a b c h k = record { names = λ fid. k.names fid ∙ h.names fid; delicate = λ name. k.delicate name ∙ h.delicate name }

broken_twice : (a b c : StackState) → OpenStays a b → BrokenStays a b → BrokenStays b c → BrokenStays a c
broken_twice a b c same h k = record { each = λ fid is. k.each fid (subst IsSome (sym (same.names fid)) is) ∙ h.each fid is }

pub rests_twice : (a b c : StackState) → Rests a b → Rests b c → Rests a c
rests_twice a b c h k = record {
  limits = k.limits ∙ h.limits;
  levels = record { each = λ fid. k.levels.each fid ∙ h.levels.each fid };
  opens = opens_twice a b c h.opens k.opens;
  lengths = k.lengths ∙ h.lengths;
  broken = broken_twice a b c h.opens h.broken k.broken;
}

pub files_twice : LooserTwice → (a b c : StackState) → Steady a b → FilesLeft a b → FilesLeft b c → FilesLeft a c
files_twice twice a b c steady h k told = record {
  each = λ name. twice (a.files name) (b.files name) (c.files name) ((h told).each name) ((k (subst IsTrue (sym steady.tells) told)).each name);
}

calls_twice : (x y : List (Call × Outcome)) (ring : Ring) → with_calls (x ++ y) ring ≡ with_calls y (with_calls x ring)
calls_twice [] y ring = refl
calls_twice (call ∷ x) y ring = calls_twice x y _

pub rings_twice : (a b c : List Ring) → RingsGrow a b → RingsGrow b c → RingsGrow a c
rings_twice [] [] [] h k = tt
rings_twice [] [] (ring ∷ c) h k = absurd k
rings_twice [] (ring ∷ b) c h k = absurd h
rings_twice (ring ∷ a) [] c h k = absurd h
rings_twice (ring ∷ a) (ring' ∷ b) [] h k = absurd k
rings_twice (ring ∷ a) (ring' ∷ b) (ring'' ∷ c) h k =
    ((h.0.0 ++ k.0.0, k.0.1 ∙ ap (with_calls k.0.0) h.0.1 ∙ sym (calls_twice h.0.0 k.0.0 ring)), rings_twice a b c h.1 k.1)

pub rose_first : (a b c : ℕ) → Rose a b → b ≤ c → Rose a c
rose_first a b c h k = omega (arith, h, k)

pub rose_second : (a b c : ℕ) → a ≤ b → Rose b c → Rose a c
rose_second a b c h k = omega (arith, h, k)
