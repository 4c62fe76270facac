use Rattle.std.proofs.Common.{length}
use Rattle.shell_lang.specs.Ends.{SinkSteady}
use Rattle.shell_top.specs.Running.{Took}
use Rattle.shell_top.proofs.run.write_all.Given as goal

abbrev pub invariant-loop-rest : goal.invariant-loop-rest
invariant-loop-rest g l =
    let state = g.O.Sink.state in
    record {
      sink : SinkSteady (state l.initial.output) (state l.output);
      took : Took (state l.initial.output) (state l.output) l.bytes l.rest;
    }

abbrev pub decreases-loop-rest : goal.decreases-loop-rest
decreases-loop-rest g l = length l.rest
