-- A stack below a trace layer, as it is seen above that layer.
use Rattle.std.specs.Prelude.{◌≡◌, ℕ, zero, suc, Bool, true, false, List, [], ◌∷◌, map, Option, Some, None, Result, Ok, Err}
use Rattle.vfs_model.specs.declared.layer.Layer.{Layer}
use Rattle.vfs_model.specs.declared.layer.Layer.TheVariants.{Trace as TraceLayer}
use Rattle.vfs_trait.specs.Log.{Ring, with_call, emptied, entry_text}
use Rattle.vfs_trait.specs.State.{StackState}
use Rattle.vfs_trait.specs.declared.log.Call.{Call}
use Rattle.vfs_trait.specs.declared.log.Outcome.{Outcome}
use Rattle.vfs_trait.specs.declared.control.TraceList.{TraceList}
use Rattle.vfs_trait.specs.declared.control.Control.{Control}
use Rattle.vfs_trait.specs.declared.control.Control.TheVariants.{Totals as AskTotals, SetLimit, TakeTrace}
use Rattle.vfs_trait.specs.declared.control.Answer.{Answer}
use Rattle.vfs_trait.specs.declared.control.Answer.TheVariants.{Unknown, Done, Totals, Trace as Lines}
use Rattle.vfs_trait.specs.declared.fault.VfsFault.{VfsFault}
use Rattle.vfs_trait.specs.declared.fault.VfsFault.TheVariants.{Memory}

-- a ring without calls, with room for so many
abbrev pub fresh : ℕ → Ring
fresh room = record { entries = []; room = room; dropped = 0; next = 1 }

-- the lines of a ring were taken from it
pub record Taken (old new : Ring) (list : TraceList) : Type 0 where
  pub dropped : list.dropped ≡ old.dropped
  pub lines : list.lines ≡ map entry_text old.entries
  pub rest : new ≡ emptied old

-- a layer that is on has a ring, and stands on top of the layers; one that is off is not seen
abbrev pub layers_of : Option Ring → List Layer → List Layer
layers_of None layers = layers
layers_of (Some ring) layers = TraceLayer ∷ layers

abbrev pub log_of : Option Ring → List Ring → List Ring
log_of None log = log
log_of (Some ring) log = ring ∷ log

abbrev pub traced : Option Ring → StackState → StackState
traced ring s = record s { layers = layers_of ring s.layers; log = log_of ring s.log }

-- a call is recorded by a layer that is on
abbrev pub after_call : Call → Outcome → Option Ring → Option Ring
after_call call outcome None = None
after_call call outcome (Some ring) = Some (with_call call outcome ring)

abbrev pub is_on : Option Ring → Bool
is_on None = false
is_on (Some ring) = true

-- what a layer answers that is asked for its calls
abbrev pub TakenFrom : Ring → Ring → Result Answer VfsFault → Type 0
TakenFrom old new (Ok Unknown) = ⊥
TakenFrom old new (Ok Done) = ⊥
TakenFrom old new (Ok (Totals totals)) = ⊥
TakenFrom old new (Ok (Lines list)) = Taken old new list
TakenFrom old new (Err fault) = (fault ≡ Memory) × (new ≡ old)

-- a layer that is on answers an order to take the calls of trace layer 1, and hands down one to take those of a further
-- layer with a number that is 1 less; the number 0 stays
abbrev pub is_own : Control → Bool
is_own (TakeTrace zero) = false
is_own (TakeTrace (suc zero)) = true
is_own (TakeTrace (suc (suc layer))) = false
is_own (AskTotals layer) = false
is_own (SetLimit layer group limit) = false

abbrev pub handed_down : Control → Control
handed_down (TakeTrace zero) = TakeTrace zero
handed_down (TakeTrace (suc layer)) = TakeTrace layer
handed_down (AskTotals layer) = AskTotals layer
handed_down (SetLimit layer group limit) = SetLimit layer group limit
