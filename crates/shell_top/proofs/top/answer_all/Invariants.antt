use Rattle.std.proofs.Common.{◌-◌, ◌+◌, ◌*◌, ◌≤◌, length}
use Rattle.shell_top.specs.Line.{HasNoFeed}
use Rattle.shell_top.proofs.ReadLemmas.{ReadOn}
use Rattle.shell_top.specs.Stands.{machine, Stands, Keeps, rows_len}
use Rattle.shell_top.proofs.top.answer_all.Given as goal

abbrev pub invariant-loop-taken : goal.invariant-loop-taken
invariant-loop-taken g l =
    let of_stack = g.V.Vfs.state in
    let source = g.I.Source.state in
    let sink = g.O.Sink.state in
    record {
      stands : Stands l.session (of_stack l.stack);
      keeps : Keeps l.fn.session l.session (of_stack l.fn.stack) (of_stack l.stack);
      no_feed : HasNoFeed l.line.items;
      room : 2 * rows_len l.session + 3 * length l.line.items ≤ 3 * l.taken;
      within : l.taken ≤ 1073741824;
      ran : ReadOn l.fn.opening (machine l.fn.session (of_stack l.fn.stack)) (machine l.session (of_stack l.stack)) (source l.fn.input) (source l.input) (sink l.fn.output) (sink l.output) l.taken l.line.items;
    }

abbrev pub decreases-loop-taken : goal.decreases-loop-taken
decreases-loop-taken g l = 1073741824 - l.taken
