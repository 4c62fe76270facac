use Rattle.std.proofs.Common.{arith}
use Rattle.shell_top.specs.Stands.{machine}
use Rattle.shell_top.proofs.TouchLemmas.{keeps_same, keeps_on}
use Rattle.shell_top.proofs.RunLemmas.{bytes_none, bytes_on_piece, stopped_on_piece, on_err, sink_same, sink_on}
use Rattle.shell_top.proofs.run.run_bytes.Goals as goal

pub returns-in_err-run_byte-clause-err : goal.returns-in_err-run_byte-clause-err
returns-in_err-run_byte-clause-err g c =
    let stack = g.V.Vfs.state in
    let sink = g.O.Sink.state in
    on_err c.from_residual.result
    (stopped_on_piece
    (machine c.args.session.now (stack c.args.stack.now)) (machine c.loop-b.session (stack c.loop-b.stack)) (machine c.run_byte.new.session (stack c.run_byte.new.stack))
    (sink c.args.output.now) (sink c.loop-b.output) (sink c.run_byte.new.output)
    c.args.line.now.items c.args.piece.now c.loop-b.b-index c.loop-b.line.items c.loop-b-test.true c.loop-b.invariant.sink c.loop-b.invariant.ran c.in_err-run_byte.ensures.err)

pub loop-b-init : goal.loop-b-init
loop-b-init g c =
    let stack = g.V.Vfs.state c.args.stack.now in
    let sink = g.O.Sink.state c.args.output.now in
    record {
      stands = c.requires.stands;
      keeps = keeps_same c.args.session.now stack;
      sink = sink_same sink;
      no_feed = c.requires.no_feed;
      grows = omega arith;
      within = omega arith;
      ran = bytes_none (machine c.args.session.now stack) sink c.args.line.now.items c.requires.no_feed;
    }

pub loop-b-preserved : goal.loop-b-preserved
loop-b-preserved g c =
    let stack = g.V.Vfs.state in
    let sink = g.O.Sink.state in
    record {
      stands = c.run_byte.ensures.stands;
      keeps = keeps_on c.looser_twice.ensures c.args.session.now c.loop-b.session c.run_byte.new.session (stack c.args.stack.now) (stack c.loop-b.stack)
          (stack c.run_byte.new.stack) c.loop-b.invariant.keeps c.run_byte.ensures.keeps;
      sink = sink_on (sink c.args.output.now) (sink c.loop-b.output) (sink c.run_byte.new.output) c.loop-b.invariant.sink c.run_byte.ensures.sink;
      no_feed = c.in_ok-run_byte.ensures.no_feed;
      grows = omega (arith, c.in_ok-run_byte.ensures.grows, c.loop-b.invariant.grows);
      within = omega (arith, c.loop-b-test.true);
      ran = bytes_on_piece
          (machine c.args.session.now (stack c.args.stack.now)) (machine c.loop-b.session (stack c.loop-b.stack)) (machine c.run_byte.new.session (stack c.run_byte.new.stack))
          (sink c.args.output.now) (sink c.loop-b.output) (sink c.run_byte.new.output)
          c.args.line.now.items c.args.piece.now c.loop-b.b-index c.loop-b.line.items c.run_byte.new.line.items c.loop-b-test.true c.loop-b.invariant.sink c.loop-b.invariant.ran c.in_ok-run_byte.ensures.ok;
    }
