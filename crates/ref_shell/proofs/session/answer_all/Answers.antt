use Rattle.std.proofs.Common.{◌≢◌, [], length, ap, sym, ◌∙◌}
use Rattle.std.proofs.lemmas.Bool.{eqb-true, eqb-false}
use Rattle.ref_shell.specs.Machine.{state_of}
use Rattle.ref_shell.proofs.SessionLemmas.{run_goes, run_ends, run_ends_unfed, on_ok, no_length}
use Rattle.ref_shell.proofs.session.answer_all.Goals as goal

pub loop-line-preserved : goal.loop-line-preserved
loop-line-preserved g c = λ book whole sofar. run_goes book whole c.loop-line.rest.now c.in-Some.more.now c.in-Some.line.now c.loop-line.text c.answer.new.text
    (state_of g.S.Shelf.book c.loop-line.machine) (state_of g.S.Shelf.book c.answer.new.machine) (c.loop-line.invariant book whole sofar) c.in-Some.ensures.found c.in_ok-answer.ensures

pub returns-then-is_empty : goal.returns-then-is_empty
returns-then-is_empty g c =
    let none = no_length c.loop-line.rest.now (eqb-true (length c.loop-line.rest.now) 0 (sym c.is_empty.ensures ∙ c.if-is_empty.true)) in
    λ book whole sofar. run_ends book whole c.loop-line.rest.now c.loop-line.text (state_of g.S.Shelf.book c.loop-line.machine) (c.loop-line.invariant book whole sofar) none

pub returns : goal.returns
returns g c =
    let some : c.loop-line.rest.now ≢ [] = λ is. absurd (eqb-false (length c.loop-line.rest.now) 0 (sym c.is_empty.ensures ∙ c.if-is_empty.false) (ap length is)) in
    on_ok c.answer-2.result (λ ran book whole sofar. run_ends_unfed book whole c.loop-line.rest.now c.loop-line.text c.answer-2.new.text (state_of g.S.Shelf.book c.loop-line.machine)
    (state_of g.S.Shelf.book c.answer-2.new.machine) (c.loop-line.invariant book whole sofar) some c.in_default.ensures.none ran) c.answer-2.ensures
