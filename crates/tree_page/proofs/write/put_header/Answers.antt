use Rattle.std.proofs.Common.{ap, ◌∙◌}
use Rattle.tree_page.specs.Page.{type_byte}
use Rattle.tree_page.proofs.FillLemmas.{lay_header}
use Rattle.tree_page.proofs.write.put_header.Goals as goal

pub returns-in-Interior-clause-lays : goal.returns-in-Interior-clause-lays
returns-in-Interior-clause-lays c = lay_header c.args.page.now c.put_front.new.page c.put_number.new.page c.args.begin c.type_byte.result c.len.result c.args.content c.in-Interior.right c.args.cells.now c.in-Interior.cells
    c.in-Interior.is (c.type_byte.ensures ∙ ap type_byte c.kind.ensures) c.len.ensures c.put_front.ensures c.put_number.ensures
