use Rattle.std.proofs.Common.{nat_cmp}
use Rattle.std.specs.Cmp.Lexicographic.{slice_cmp}
use Rattle.std.specs.FinMap.{get-from_sorted}
use Rattle.ref_book.proofs.shelf.MapShelf.table.Goals as goal

pub returns : goal.returns
returns c = let e = get-from_sorted (slice_cmp nat_cmp) c.args.self.now.tables.items c.args.name.now c.args.self.now.tables_rise in cc
