use Rattle.std.proofs.Common.{◌∙◌}
use Rattle.ref_book.proofs.Named.{foreign_is}
use Rattle.ref_book.proofs.shelf.MapShelfShelf.is_foreign.Goals as goal

pub returns : goal.returns
returns c =
    c.is_foreign_name.ensures ∙ foreign_is c.args.self.now.tables.items c.deref.result.now c.args.self.now.foreign c.as_slice.result.now c.args.name.now c.as_slice-2.result.now
    c.args.self.now.tables_rise c.deref.ensures.value c.as_slice.ensures c.as_slice-2.ensures
