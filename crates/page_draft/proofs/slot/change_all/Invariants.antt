use Rattle.std.proofs.Common.{◌≡◌}
use Rattle.page_draft.specs.Slots.{changed_slot}
use Rattle.page_draft.proofs.ListLemmas.{front}
use Rattle.page_draft.proofs.slot.change_all.Given as goal

abbrev pub invariant-loop-slot : goal.invariant-loop-slot
invariant-loop-slot l = l.slot-items ≡ front (changed_slot l.change) l.fn.slots.items l.slot-index
