use Rattle.std.proofs.Common.{subst}
use Rattle.tree_page.specs.Steps.{Owns}
use Rattle.tree_page.proofs.PageLemmas.{reads_as}
use Rattle.tree_page.proofs.read.read_cells.Goals as goal

pub returns-clause-found : goal.returns-clause-found
returns-clause-found c =
    reads_as c.args.bytes.now c.args.head c.args.marks.now c.find_cells.new.marks c.in_ok-found.found.items c.in_ok-cells.cells c.in_ok-found.ensures.found
    (c.mark_free.ensures.sound c.if-not-mark_free.false)
    (subst (λ xs. Owns c.args.bytes.now c.args.head xs c.in_ok-cells.cells) c.deref.ensures.value c.in_ok-cells.ensures)
