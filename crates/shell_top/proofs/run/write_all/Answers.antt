use Rattle.std.proofs.Common.{refl}
use Rattle.shell_top.proofs.RunLemmas.{sink_on, took_on}
use Rattle.shell_top.proofs.run.write_all.Goals as goal

pub loop-rest-preserved : goal.loop-rest-preserved
loop-rest-preserved g c =
    let state = g.O.Sink.state in
    let old = state c.args.output.now in
    let now = state c.loop-rest.output in
    let new = state c.write.new.self in
    record {
      sink = sink_on old now new c.loop-rest.invariant.sink c.write.ensures.steady;
      took = took_on old now new c.args.bytes.now c.loop-rest.rest.now _ c.in-Ok.count c.loop-rest.invariant.sink c.loop-rest.invariant.took c.in-Ok.ensures.takes refl;
    }
