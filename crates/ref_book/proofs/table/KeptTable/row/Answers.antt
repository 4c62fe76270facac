use Rattle.std.proofs.Common.{int_cmp}
use Rattle.std.specs.FinMap.{get-from_sorted}
use Rattle.ref_book.proofs.table.KeptTable.row.Goals as goal

pub returns : goal.returns
returns c = rw (← c.self.view_is) (let e = get-from_sorted int_cmp c.self.inside.rows.items c.args.rowid.now c.self.invariant in cc)
