use Rattle.std.proofs.Common.{refl}
use Rattle.std.specs.Cmp.Lexicographic.{nat_list_cmp_total}
use Rattle.ref_book.proofs.Maps.{put_rises, put_is}
use Rattle.ref_book.proofs.shelf.MapShelf.tables_with.Goals as goal

pub returns-clause-rise : goal.returns-clause-rise
returns-clause-rise c =
    put_rises nat_list_cmp_total c.args.self.now.tables.items c.deref.result.now c.in_ok-all.all.items c.in_ok-name.name c.args.table c.args.self.now.tables_rise c.deref.ensures.value c.in_ok-all.ensures

pub returns-clause-are : goal.returns-clause-are
returns-clause-are c =
    put_is nat_list_cmp_total c.args.self.now.tables.items c.deref.result.now c.in_ok-all.all.items c.in_ok-name.name c.args.name.now c.args.table c.args.table c.args.self.now.tables_rise c.deref.ensures.value c.in_ok-name.ensures refl c.in_ok-all.ensures
