use Rattle.std.proofs.Common.{List, ℕ, subst}
use Rattle.shell_top.specs.Ran.{Ran}
use Rattle.shell_top.proofs.RanLemmas.{one_name, ran_of}
use Rattle.shell_top.proofs.top.vfsh_run.Goals as goal

pub returns-clause-ran : goal.returns-clause-ran
returns-clause-ran g c name words =
    let stack = g.V.Vfs.state in
    let source = g.I.Source.state in
    let sink = g.O.Sink.state in
    let P : List ℕ → Type 0 = λ n.
    Ran n (stack c.args.stack.now) (stack c.close.new.stack) (source c.args.input.now) (source c.answer_all-status.new.input) (sink c.args.output.now)
    (sink c.answer_all-status.new.output) c.answer_all-status.result in
    subst P (one_name _ c.in-Some.name name c.in-Some.ensures words)
    (ran_of c.looser_twice.ensures c.in-Some.name (stack c.args.stack.now) (stack c.start-session.new.stack) (stack c.answer_all-status.new.stack)
    (stack c.close.new.stack) c.start-session.result.0 c.answer_all-status.new.session (source c.args.input.now) (source c.answer_all-status.new.input)
    (sink c.args.output.now) (sink c.answer_all-status.new.output) c.answer_all-status.result c.start-session.result.1
    c.start-session.ensures.named c.start-session.ensures.opens c.answer_all-status.ensures.went c.answer_all-status.ensures.stands
    c.start-session.ensures.touches c.start-session.ensures.refused c.start-session.ensures.unopened c.answer_all-status.ensures.keeps c.close.ensures.steady c.close.ensures.leaves c.view_holds.ensures.stands)

pub returns-in_default-clause-ran : goal.returns-in_default-clause-ran
returns-in_default-clause-ran g c name words = absurd (c.in_default.ensures.each name words)
