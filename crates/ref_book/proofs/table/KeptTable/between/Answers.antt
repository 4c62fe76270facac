use Rattle.std.proofs.Common.{◌∙◌}
use Rattle.ref_book.proofs.Named.{start_between}
use Rattle.ref_book.proofs.table.KeptTable.between.Goals as goal

pub returns : goal.returns
returns c = rw (← c.self.view_is) (start_between c.args.low.now c.args.high.now c.self.inside.rows.items c.deref.result.now c.from_vec-rows.result c.push_between.new.all c.self.invariant
    (c.from_vec-rows.ensures ∙ c.new.ensures.items) c.deref.ensures.value c.in_ok-push_between.ensures)
