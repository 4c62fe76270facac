use Rattle.std.proofs.Common.{◌∙◌}
use Rattle.tree_page.proofs.PageLemmas.{page_reads}
use Rattle.tree_page.proofs.read.read_page.Goals as goal

pub returns-clause-corrupt : goal.returns-clause-corrupt
returns-clause-corrupt c = λ corrupt cells page.
    c.read_cells.ensures.corrupt corrupt
    (page_reads _ c.args.number _ c.in-Some.head c.deref_mut.result.now cells c.in-Some.ensures.found (c.deref_mut.ensures.value ∙ c.in_ok-marks.ensures.items_if_clones_equal (λ y same. same)) page)
