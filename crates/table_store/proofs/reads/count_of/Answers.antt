use Rattle.std.proofs.Common.{IsTrue, sym, subst}
use Rattle.std.proofs.lemmas.Result.{err_from_is_err_and}
use Rattle.page_list.specs.Pages.{Pages}
use Rattle.table_rows.specs.Rows.{CountsRows}
use Rattle.table_store.proofs.ReadLemmas.{count_refused, rows_counted}
use Rattle.table_store.proofs.reads.count_of.Goals as goal

pub returns-in_err-count-clause-refused : goal.returns-in_err-count-clause-refused
returns-in_err-count-clause-refused g c =
    let state = g.S.PageSpace.state in
    let old = state c.args.space.now in
    let mid = state c.find_table.new.space in
    let new = state c.count_rows.new.space in
    let place = c.in_ok-place.place in
    let p = err_from_is_err_and c.from_residual-in_err-count.result c.from_residual-in_err-count.ensures.1 in
    rw (p.1, p.2)
    (count_refused old mid new c.args.name.now place c.in_err-count.field-0.0 c.in_ok-place.ensures.steady c.in_ok-place.ensures.stays c.in_ok-place.ensures.found
    c.in_err-count.ensures.refused)

pub returns-clause-found : goal.returns-clause-found
returns-clause-found g c = λ t.
    let state = g.S.PageSpace.state in
    let old = state c.args.space.now in
    let mid = state c.find_table.new.space in
    let place = c.in_ok-place.place in
    let P : Pages → Type 0 = λ p. CountsRows place.columns p place.root c.in_ok-count.count in
    let here = subst P (c.in_ok-place.ensures.stays.pages_stay t) (c.in_ok-count.ensures.found (subst IsTrue (sym c.in_ok-place.ensures.steady.told) t)) in
    rows_counted old.pages c.args.name.now place c.in_ok-count.count (c.in_ok-place.ensures.found t) here
