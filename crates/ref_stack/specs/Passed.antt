-- How a write passes.
use Rattle.vfs_model.specs.Pass.{Passing as Way, Passes as Through, IsFull as Refused}
use Rattle.ref_stack.specs.declared.write.Passing.{Passing}
use Rattle.ref_stack.specs.declared.write.Passing.TheVariants.{Passes, IsFull}

-- how a write passes, as a value of the model
abbrev pub way_of : Passing → Way
way_of (Passes lengths) = Through lengths.items
way_of (IsFull total limit) = Refused total limit
