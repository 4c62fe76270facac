use Rattle.std.proofs.Common.{[], ◌∷◌, ◌++◌, take, subst, sym, ap, ◌∙◌}
use Rattle.std.proofs.lemmas.List.{take_more}
use Rattle.db_format.specs.declared.value.Value.{Value}
use Rattle.db_format.specs.Writing.{AreTypes}
use Rattle.db_format.proofs.WritingLemmas.{types-push}
use Rattle.db_format.proofs.record.serial_types.Goals as goal

pub loop-value-preserved : goal.loop-value-preserved
loop-value-preserved c =
    let l = c.loop-value in
    let values = c.args.values.now in
    let value = c.value-item.result in
    let more = take_more values l.value-index value c.loop-value-test.true ∙ ap (λ (v : Value). take l.value-index values ++ v ∷ []) (sym c.value-item.is) in
    subst (AreTypes c.push_varint.new.out.items) (sym more)
    (types-push l.types.items c.push_varint.new.out.items (take l.value-index values) value c.in_ok-serial_type.field-0 l.invariant c.in_ok-serial_type.ensures c.in_ok-push_varint.ensures)
