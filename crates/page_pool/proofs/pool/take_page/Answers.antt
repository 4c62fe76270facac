use Rattle.page_pool.proofs.HeadLemmas.{page_is_grown}
use Rattle.page_pool.proofs.pool.take_page.Goals as goal

pub returns-in-None-clause-taken : goal.returns-in-None-clause-taken
returns-in-None-clause-taken g c =
    page_is_grown _ _ _ c.in_ok-first.field-0 c.grow.result c.read_head.ensures.same c.in_ok-first.ensures.holds c.in-None.is c.grow.ensures.cause c.grow.ensures.leaves
