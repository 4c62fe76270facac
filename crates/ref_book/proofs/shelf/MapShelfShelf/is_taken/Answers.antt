use Rattle.std.proofs.Common.{◌∙◌}
use Rattle.ref_book.proofs.Named.{taken_is}
use Rattle.ref_book.proofs.shelf.MapShelfShelf.is_taken.Goals as goal

pub returns : goal.returns
returns c =
    c.is_taken_name.ensures ∙ taken_is c.args.self.now.schema.items c.deref.result.now c.args.name.now c.as_slice.result.now c.args.self.now.schema_rises c.deref.ensures.value c.as_slice.ensures
