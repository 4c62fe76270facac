use Rattle.std.proofs.Common.{List, ℕ, [], ◌∷◌, subst, sym}
use Rattle.shell_top.specs.Running.{BytesRun}
use Rattle.shell_top.specs.Stands.{machine}
use Rattle.shell_top.proofs.RunLemmas.{byte_in_line, feed_stopped, none_stopped, on_err}
use Rattle.shell_top.proofs.run.run_byte.Goals as goal

pub returns-in_err-run_line-clause-err : goal.returns-in_err-run_line-clause-err
returns-in_err-run_line-clause-err g c =
    on_err c.from_residual.result
    (feed_stopped (machine c.args.session.now (g.V.Vfs.state c.args.stack.now)) (machine c.run_line.new.session (g.V.Vfs.state c.run_line.new.stack))
    (g.O.Sink.state c.args.output.now) (g.O.Sink.state c.run_line.new.output) c.args.line.now.items c.deref.result.now c.args.byte
    c.deref.ensures.value c.if-byte-eq10.true c.requires.no_feed c.in_err-run_line.ensures.err)

pub returns-in-Ok-clause-ok : goal.returns-in-Ok-clause-ok
returns-in-Ok-clause-ok g c =
    let here = machine c.args.session.now (g.V.Vfs.state c.args.stack.now) in
    let out = g.O.Sink.state c.args.output.now in
    let P : List ℕ → Type 0 = λ after. BytesRun here here out out c.args.line.now.items (c.args.byte ∷ []) after in
    subst P (sym c.in-Ok.ensures.items) (byte_in_line here out c.args.line.now.items c.args.byte c.requires.no_feed c.if-byte-eq10.false)

pub returns-in-Err-clause-err : goal.returns-in-Err-clause-err
returns-in-Err-clause-err g c =
    none_stopped (machine c.args.session.now (g.V.Vfs.state c.args.stack.now)) (g.O.Sink.state c.args.output.now) c.args.line.now.items (c.args.byte ∷ []) c.requires.no_feed
