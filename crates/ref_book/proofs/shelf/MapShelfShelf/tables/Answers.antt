use Rattle.std.proofs.Common.{ap, ◌∙◌}
use Rattle.shell_lang.specs.declared.reply.Reply.TheVariants.{TableLines}
use Rattle.ref_book.proofs.Named.{ordered_is}
use Rattle.ref_book.proofs.shelf.MapShelfShelf.tables.Goals as goal

pub returns : goal.returns
returns c =
    ap TableLines (ordered_is c.from_vec-tables.result c.push_values.new.all c.deref-2.result.now c.in_ok-ordered.ordered.items c.deref.result.now c.in_ok-listed.listed.items _
    (c.from_vec-tables.ensures ∙ c.new.ensures.items) c.in_ok-push_values.ensures c.deref-2.ensures.value c.in_ok-ordered.ensures c.deref.ensures.value c.in_ok-listed.ensures)
