use Rattle.std.proofs.Common.{◌≡◌, rules}
use Rattle.table_store.specs.MakeSteps.{BeginsWith}
use Rattle.table_store.proofs.FirstPageLemmas.{begins_after, begin_stops}
use Rattle.table_store.proofs.begin.begin.Goals as goal

pub returns-clause-begins : goal.returns-clause-begins
returns-clause-begins g c =
    let state = g.S.PageSpace.state in
    let old = state c.args.space.now in
    let none : old.pages.size ≡ 0 = search rules in
    let begins : BeginsWith old.page_size old.pages.usable c.deref.result.now = search rules in
    begins_after c.in_ok-number.number c.deref.result.now c.put.result c.size.ensures.sizes none c.in_ok-number.ensures.steady c.put.ensures.steady c.in_ok-number.ensures.leaves c.put.ensures.leaves begins

pub returns-clause-refused : goal.returns-clause-refused
returns-clause-refused g c =
    let state = g.S.PageSpace.state in
    let old = state c.args.space.now in
    let none : old.pages.size ≡ 0 = search rules in
    begin_stops (state c.put.new.self) c.in_ok-number.number c.deref.result.now c.put.result none c.in_ok-number.ensures.steady c.in_ok-number.ensures.leaves c.put.ensures.leaves c.put.ensures.cause
