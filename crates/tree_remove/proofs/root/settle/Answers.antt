use Rattle.std.proofs.Common.{◌∙◌, inl, refl}
use Rattle.std.proofs.lemmas.Result.{on_ok_weaker, IfErr-weaker, err_from_is_err_and}
use Rattle.payload_chain.proofs.StateLemmas.{steady-same, steady-on, stays-same}
use Rattle.db_format.specs.declared.fault.SpaceFault.TheVariants.{Memory}
use Rattle.tree_join.specs.Join.{listed}
use Rattle.tree_remove.proofs.SettleLemmas.{all_there, rewritten, settled_is, notes_settled, stops_writing, stops_taking_over, stops_giving, given_seen}
use Rattle.tree_remove.proofs.root.settle.Goals as goal

pub returns-in_err-write_sheets-clause-refused : goal.returns-in_err-write_sheets-clause-refused
returns-in_err-write_sheets-clause-refused g c =
    let state = g.S.PageSpace.state in
    let e = c.in_err-write_sheets.ensures in
    let p = err_from_is_err_and c.from_residual.result c.from_residual.ensures.1 in
    rw (p.1, p.2) (stops_writing (state c.args.space.now) (state c.write_sheets.new.space) c.args.root c.args.shrunk _ c.in_err-write_sheets.field-0.0 c.as_slice.ensures.value e.size e.leaves e.cause)

pub returns-in_err-also-clause-refused : goal.returns-in_err-also-clause-refused
returns-in_err-also-clause-refused g c =
    let state = g.S.PageSpace.state in
    let w = c.in_ok-write_sheets.ensures in
    let e = c.in_err-also.ensures in
    let p = err_from_is_err_and c.from_residual-in_err-also.result c.from_residual-in_err-also.ensures.1 in
    rw (p.1, p.2)
    (stops_taking_over (state c.args.space.now) (state c.write_sheets.new.space) (state c.take_over.new.space) c.args.root c.args.shrunk _ c.in_err-also.field-0.0 w.steady w.size e.steady
    c.as_slice.ensures.value w.leaves e.refused)

pub returns-in_err-lost-clause-refused : goal.returns-in_err-lost-clause-refused
returns-in_err-lost-clause-refused g c =
    let state = g.S.PageSpace.state in
    let old = state c.args.space.now in
    let b = state c.take_over.new.space in
    let w = c.in_ok-write_sheets.ensures in
    let o = c.in_ok-also.ensures in
    let was = rewritten old (state c.write_sheets.new.space) b c.args.root c.args.shrunk _ (listed c.in_ok-also.also) w.steady c.as_slice.ensures.value w.leaves o.taken in
    let p = err_from_is_err_and c.from_residual-in_err-lost.result c.from_residual-in_err-lost.ensures.1 in
    rw (p.1, p.2)
    (stops_giving old b b c.args.root c.args.shrunk (listed c.in_ok-also.also) Memory (steady-on w.steady o.steady) (o.size ∙ w.size) (steady-same o.steady.sizes) was
    (inl (refl, stays-same)))

pub give_pages-requires-clause-there : goal.give_pages-requires-clause-there
give_pages-requires-clause-there g c =
    let state = g.S.PageSpace.state in
    all_there (state c.args.space.now) (state c.write_sheets.new.space) (state c.take_over.new.space) c.args.shrunk.lost.items _ c.in_ok-lost.lost.items c.in_ok-also.also
    c.in_ok-write_sheets.ensures.size c.in_ok-also.ensures.size c.requires.there c.in_ok-also.ensures.there c.as_slice-2.ensures.value c.in_ok-lost.ensures

pub returns-clause-settled : goal.returns-clause-settled
returns-clause-settled g c = λ t.
    let state = g.S.PageSpace.state in
    let old = state c.args.space.now in
    let b = state c.take_over.new.space in
    let w = c.in_ok-write_sheets.ensures in
    let o = c.in_ok-also.ensures in
    let was = rewritten old (state c.write_sheets.new.space) b c.args.root c.args.shrunk _ (listed c.in_ok-also.also) w.steady c.as_slice.ensures.value w.leaves o.taken in
    on_ok_weaker c.give_pages.result
    (λ gave. settled_is old b (state c.give_pages.new.space) c.args.root c.args.shrunk _ c.in_ok-lost.lost.items c.in_ok-also.also t (steady-on w.steady o.steady) was
    c.as_slice-2.ensures.value c.in_ok-lost.ensures gave)
    c.give_pages.ensures.gave

pub returns-clause-size : goal.returns-clause-size
returns-clause-size g c =
    let w = c.in_ok-write_sheets.ensures in
    let o = c.in_ok-also.ensures in
    on_ok_weaker c.give_pages.result (λ gave. gave.gave.size ∙ o.size ∙ w.size) c.give_pages.ensures.gave

pub returns-clause-refused : goal.returns-clause-refused
returns-clause-refused g c =
    let state = g.S.PageSpace.state in
    let old = state c.args.space.now in
    let b = state c.take_over.new.space in
    let new = state c.give_pages.new.space in
    let w = c.in_ok-write_sheets.ensures in
    let o = c.in_ok-also.ensures in
    let was = rewritten old (state c.write_sheets.new.space) b c.args.root c.args.shrunk _ (listed c.in_ok-also.also) w.steady c.as_slice.ensures.value w.leaves o.taken in
    IfErr-weaker c.give_pages.result _ _
    (λ fault stops. stops_giving old b new c.args.root c.args.shrunk (listed c.in_ok-also.also) fault (steady-on w.steady o.steady) (o.size ∙ w.size) c.give_pages.ensures.steady was
    (given_seen b new c.args.shrunk.lost.items _ c.in_ok-lost.lost.items c.in_ok-also.also fault c.as_slice-2.ensures.value c.in_ok-lost.ensures stops))
    c.give_pages.ensures.refused

pub returns-clause-changed : goal.returns-clause-changed
returns-clause-changed g c =
    let state = g.S.PageSpace.state in
    let w = c.in_ok-write_sheets.ensures in
    let o = c.in_ok-also.ensures in
    on_ok_weaker c.give_pages.result
    (λ gave. notes_settled (state c.args.space.now) (state c.write_sheets.new.space) (state c.take_over.new.space) (state c.give_pages.new.space) c.args.root c.args.shrunk _ _
    c.in_ok-lost.lost.items c.in_ok-also.also c.as_slice.ensures.value w.size w.changed o.changed o.noted c.give_pages.ensures.noted c.as_slice-2.ensures.value c.in_ok-lost.ensures gave)
    c.give_pages.ensures.gave
