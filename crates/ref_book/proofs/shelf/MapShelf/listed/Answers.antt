use Rattle.ref_book.proofs.Named.{listed_is}
use Rattle.ref_book.proofs.shelf.MapShelf.listed.Goals as goal

pub returns : goal.returns
returns c =
    listed_is c.args.self.now.tables.items c.deref.result.now c.deref-2.result.now c.args.self.now.foreign c.as_slice.result.now c.new-all.result.items c.push_plain.new.all.items c.push_foreign.new.all.items
    c.args.self.now.tables_rise c.new-all.ensures.items c.deref.ensures.value c.in_ok-push_plain.ensures c.as_slice.ensures c.deref-2.ensures.value c.in_ok-push_foreign.ensures
