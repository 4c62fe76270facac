-- What one read or write leaves of a stack, as the clauses of its call say it, for the steps of which a call is made.
use Rattle.std.specs.Prelude.{ℕ, List, length, IsTrue, Result, IfOk, OnErr}
use Rattle.vfs_trait.specs.State.{StackState, Steady, Rests, RestsBut, Stands, name_at, file_at}
use Rattle.vfs_trait.specs.Log.{RingsGrow, Logs, outcome_of}
use Rattle.vfs_trait.specs.declared.log.Call.TheVariants.{Read, Write}
use Rattle.vfs_trait.specs.declared.log.Outcome.TheVariants.{Ok as Done, Bytes as Count}
use Rattle.vfs_trait.specs.Calls.{ReadCaused, FillsUp, Reads, AllZero, FilesLeft, WriteCaused, WriteCounts, WriteLeaves, Leaves}
use Rattle.vfs_trait.specs.Follows.{Follows, WriteUnsettles}
use Rattle.vfs_trait.specs.declared.fault.VfsFault.{VfsFault}
use Rattle.vfs_model.specs.declared.level.Fid.{Fid}

-- a read changed nothing, and the stack stands before and after it
pub record IsUnchanged (old new : StackState) : Type 0 where
  pub was : Stands old
  pub steady : Steady old new
  pub rests : Rests old new
  pub files : FilesLeft old new
  pub rings : RingsGrow old.log new.log
  pub stands : Stands new

-- what it gave of a part of a file
pub record IsRead (old new : StackState) (name : List ℕ) (off : ℕ) (buf : List ℕ) (result : Result ℕ VfsFault) : Type 0 where
  pub cause : ReadCaused old new name off (length buf) result
  pub fills : IfOk result (FillsUp buf)
  pub reads : IsTrue old.tells → IfOk result (Reads (old.files name).now.bytes off buf)

-- a file was written
pub record IsWritten (old new : StackState) (fid : Fid) (off : ℕ) (bytes : List ℕ) (result : Result Unit VfsFault) : Type 0 where
  pub steady : Steady old new
  pub cause : WriteCaused old new (name_at old fid.0) off (length bytes) result
  pub rests : RestsBut old new fid.0
  pub counts : WriteCounts old new fid.0 (name_at old fid.0) off (length bytes) result
  pub leaves : Leaves old new (name_at old fid.0) (λ a b. WriteLeaves (old.delicate (name_at old fid.0)) a b off bytes result)
  pub follows : Follows old new result (WriteUnsettles old new fid.0 off (length bytes))
  pub logs : Logs old.layers old.log new.log (Write fid off (length bytes)) (outcome_of (λ _. Done) result)
  pub stands : Stands new

-- a read was answered
pub record IsAnswered (old new : StackState) (fid : Fid) (off : ℕ) (buf : List ℕ) (result : Result ℕ VfsFault) : Type 0 where
  pub steady : Steady old new
  pub cause : ReadCaused old new (name_at old fid.0) off (length buf) result
  pub rests : Rests old new
  pub fills : IfOk result (FillsUp buf)
  pub reads : IsTrue old.tells → IfOk result (Reads (file_at old fid.0).now.bytes off buf)
  pub refused : OnErr result (AllZero buf)
  pub files : FilesLeft old new
  pub follows : Follows old new result (λ _. Unit {0})
  pub logs : Logs old.layers old.log new.log (Read fid off (length buf)) (outcome_of Count result)
  pub stands : Stands new
