use Rattle.std.proofs.Common.{◌+◌, ◌*◌, ◌≤◌, length, take}
use Rattle.shell_lang.specs.Ends.{SinkSteady}
use Rattle.shell_top.specs.Line.{HasNoFeed}
use Rattle.shell_top.specs.Running.{BytesRun}
use Rattle.shell_top.specs.Stands.{machine, Stands, Keeps, rows_len}
use Rattle.shell_top.proofs.run.run_bytes.Given as goal

abbrev pub invariant-loop-b : goal.invariant-loop-b
invariant-loop-b g l =
    let of_stack = g.V.Vfs.state in
    let of_sink = g.O.Sink.state in
    record {
      stands : Stands l.session (of_stack l.stack);
      keeps : Keeps l.initial.session l.session (of_stack l.initial.stack) (of_stack l.stack);
      sink : SinkSteady (of_sink l.initial.output) (of_sink l.output);
      no_feed : HasNoFeed l.line.items;
      grows : 2 * rows_len l.session + 3 * length l.line.items ≤ 2 * rows_len l.initial.session + 3 * (length l.initial.line.items + l.b-index);
      within : l.b-index ≤ length l.piece;
      ran : BytesRun (machine l.initial.session (of_stack l.initial.stack)) (machine l.session (of_stack l.stack)) (of_sink l.initial.output) (of_sink l.output) l.initial.line.items (take l.b-index l.piece) l.line.items;
    }
