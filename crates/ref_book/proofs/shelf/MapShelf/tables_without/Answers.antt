use Rattle.std.specs.Cmp.Lexicographic.{nat_list_cmp_total}
use Rattle.std.specs.FinMap.{slice_cmp-IsAntisymmetric, nat_cmp-IsAntisymmetric}
use Rattle.ref_book.proofs.Maps.{out_rises, out_is}
use Rattle.ref_book.proofs.shelf.MapShelf.tables_without.Goals as goal

pub returns-clause-rise : goal.returns-clause-rise
returns-clause-rise c =
    out_rises nat_list_cmp_total c.args.self.now.tables.items c.deref.result.now c.in_ok-all.all.items c.in_ok-name.name c.args.self.now.tables_rise c.deref.ensures.value c.in_ok-all.ensures

pub returns-clause-are : goal.returns-clause-are
returns-clause-are c =
    out_is nat_list_cmp_total (slice_cmp-IsAntisymmetric nat_cmp-IsAntisymmetric) c.args.self.now.tables.items c.deref.result.now c.in_ok-all.all.items c.in_ok-name.name c.args.name.now c.args.self.now.tables_rise c.deref.ensures.value c.in_ok-name.ensures c.in_ok-all.ensures
