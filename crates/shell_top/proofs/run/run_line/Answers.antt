use Rattle.std.proofs.Common.{[]}
use Rattle.std.proofs.lemmas.Result.{on_ok_weaker, on_err_weaker}
use Rattle.shell_top.specs.Reply.{text_of}
use Rattle.shell_top.specs.Stands.{machine}
use Rattle.shell_top.proofs.RunLemmas.{one_run, one_stopped, took_as, took_some_as}
use Rattle.shell_top.proofs.run.run_line.Goals as goal

pub returns-clause-ok : goal.returns-clause-ok
returns-clause-ok g c =
    let old = machine c.args.session.now (g.V.Vfs.state c.args.stack.now) in
    let new = machine c.step-reply.new.self (g.V.Vfs.state c.step-reply.new.stack) in
    let out0 = g.O.Sink.state c.args.output.now in
    let out1 = g.O.Sink.state c.write_all.new.output in
    on_ok_weaker c.write_all.result
    (λ took. one_run old new out0 out1 c.args.line.now c.step-reply.result c.step-reply.ensures.step (took_as out0 out1 c.text.result.now (text_of c.step-reply.result) [] c.text.ensures took))
    c.write_all.ensures.ok

pub returns-clause-err : goal.returns-clause-err
returns-clause-err g c =
    let old = machine c.args.session.now (g.V.Vfs.state c.args.stack.now) in
    let new = machine c.step-reply.new.self (g.V.Vfs.state c.step-reply.new.stack) in
    let out0 = g.O.Sink.state c.args.output.now in
    let out1 = g.O.Sink.state c.write_all.new.output in
    on_err_weaker c.write_all.result
    (λ some. one_stopped old new out0 out1 c.args.line.now c.step-reply.result c.step-reply.ensures.step (took_some_as out0 out1 c.text.result.now (text_of c.step-reply.result) c.text.ensures some))
    c.write_all.ensures.err
