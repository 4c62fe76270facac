use Rattle.std.proofs.Common.{◌∙◌, ap, set, get_or, subst, length, ◌<◌, ◌≤◌}
use Rattle.std.proofs.lemmas.List.{with_items_is}
use Rattle.page_draft.specs.Slots.{changed_slot}
use Rattle.page_draft.proofs.ListLemmas.{front-none, front-step, front-all}
use Rattle.page_draft.proofs.slot.change_all.Goals as goal

pub loop-slot-init : goal.loop-slot-init
loop-slot-init c = c.deref_mut-slot-items.ensures.value ∙ front-none (changed_slot c.args.change) c.args.slots.now.items

pub loop-slot-preserved : goal.loop-slot-preserved
loop-slot-preserved c =
    ap (λ slot. set c.loop-slot.slot-items c.loop-slot.slot-index slot) c.change.ensures
    ∙ ap (λ slots. set slots c.loop-slot.slot-index (changed_slot c.args.change (get_or slots c.loop-slot.slot-index c.slot-item.result))) c.loop-slot.invariant
    ∙ front-step (changed_slot c.args.change) c.args.slots.now.items c.loop-slot.slot-index c.slot-item.result
    (subst (λ xs. c.loop-slot.slot-index < length xs) c.deref_mut-slot-items.ensures.value c.loop-slot-test.true)

pub returns : goal.returns
returns c =
    with_items_is c.args.slots.now c.loop-slot.slot-items (c.loop-slot.auto.slot-items ∙ c.deref_mut-slot-items.ensures.len)
    ∙ c.loop-slot.invariant
    ∙ front-all (changed_slot c.args.change) c.args.slots.now.items c.loop-slot.slot-index
    (subst (λ xs. length xs ≤ c.loop-slot.slot-index) c.deref_mut-slot-items.ensures.value c.loop-slot-test.false)
