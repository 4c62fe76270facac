use Rattle.std.proofs.Common.{int_cmp, arith}
use Rattle.ref_book.proofs.Maps.{long}
use Rattle.ref_book.proofs.table.KeptTable.count.Goals as goal

pub returns : goal.returns
returns c = rw (← c.self.view_is) (let e = long int_cmp c.self.inside.rows.items c.self.invariant in omega (arith, e))
