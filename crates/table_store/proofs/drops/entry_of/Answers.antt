use Rattle.std.proofs.Common.{rules}
use Rattle.table_store.proofs.DropEntryLemmas.{made_same, none_more}
use Rattle.table_store.proofs.drops.entry_of.Goals as goal

pub loop-place-preserved : goal.loop-place-preserved
loop-place-preserved c =
    let rows = c.args.schema.now.rows.items in
    none_more c.args.pages rows c.args.table.now.name c.loop-place.place (search rules) c.loop-place.invariant
    (made_same c.args.pages rows c.deref.result.now c.args.table.now.name c.as_slice-name.result.now c.loop-place.place _ _ c.deref.ensures.value c.as_slice-name.ensures c.if-branch.false
    c.in_ok-makes_table.ensures)
