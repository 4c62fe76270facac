-- What a run leaves of the files of its stack.
use Rattle.std.specs.Prelude.{◌≡◌, ◌≢◌, ℕ, false, List, IsTrue}
use Rattle.vfs_model.specs.Effect.{NoLooser, OpenFailed}
use Rattle.vfs_model.specs.Store.{OthersStay}
use Rattle.vfs_trait.specs.State.{StackState, Steady}
use Rattle.shell_top.specs.declared.reply.Reply.{Reply}
use Rattle.shell_top.specs.declared.reply.Reply.TheVariants.{Open, NotADatabase}

-- the calls were steady, and where content is told each name that is apart from this one has the file that it had
pub record OnlyTouches (name : List ℕ) (old new : StackState) : Type 0 where
  pub steady : Steady old new
  pub others : IsTrue old.tells → OthersStay old.layers old.files new.files name

-- a file that was refused since it is not empty is as it was: a read finds it as before, and a stop may change no more of it
abbrev pub RefusedStays : Reply → StackState → StackState → List ℕ → Type 0
RefusedStays opening old new name = opening ≡ NotADatabase → IsTrue old.tells → (old.files name).wild ≡ false → NoLooser (old.files name) (new.files name)

-- whatever else than `open` an opening is answered, it leaves the file as one that failed does: a file that was there is no
-- looser, and one that was not there is now not there or empty, and a stop leaves of it no more than before
abbrev pub UnopenedStays : Reply → StackState → StackState → List ℕ → Type 0
UnopenedStays opening old new name = opening ≢ Open → IsTrue old.tells → (old.files name).wild ≡ false → OpenFailed (old.files name) (new.files name)
