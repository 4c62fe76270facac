use Rattle.std.proofs.Common.{ℕ, List, [], drop, ◌++◌, length-take, rules, sym, subst, ap, arith, Err}
use Rattle.std.proofs.lemmas.List.{take-append-le}
use Rattle.shell_top.specs.Line.{last_line}
use Rattle.shell_lang.specs.Ends.{Gives}
use Rattle.shell_top.specs.Reply.{text_of}
use Rattle.shell_top.specs.Running.{AllRun, SomeRun, BytesRun, BytesStopped}
use Rattle.shell_top.specs.Stands.{machine, end_status}
use Rattle.shell_top.specs.Status.{halt_status}
use Rattle.shell_top.proofs.TouchLemmas.{keeps_same, keeps_on}
use Rattle.shell_top.proofs.RunLemmas.{took_as, took_some_as}
use Rattle.shell_top.proofs.ReadLemmas.{ReadOn, read_begin, read_more, opening_cut, piece_cut, last_cut, ended_went, went_by, no_feed_in_none, nil_length}
use Rattle.shell_top.proofs.top.answer_all.Goals as goal

pub returns-in-Err-clause-went : goal.returns-in-Err-clause-went
returns-in-Err-clause-went g c =
    let source = g.I.Source.state c.args.input.now in
    let start = machine c.args.session.now (g.V.Vfs.state c.args.stack.now) in
    let out0 = g.O.Sink.state c.args.output.now in
    let out1 = g.O.Sink.state c.write_all.new.output in
    went_by c.status.result (halt_status c.in-Err.halt) source source c.args.opening start start out0 out1 c.status.ensures
    (opening_cut c.in-Err.halt source c.args.opening start out0 out1
    (took_some_as out0 out1 c.text.result.now (text_of c.args.opening) c.text.ensures c.in-Err.ensures.err)
    (λ is. c.in-Err.ensures.cause (ap (λ h. Err h) is)))

pub loop-taken-init : goal.loop-taken-init
loop-taken-init g c =
    let source = g.I.Source.state c.args.input.now in
    let start = machine c.args.session.now (g.V.Vfs.state c.args.stack.now) in
    let out0 = g.O.Sink.state c.args.output.now in
    let out1 = g.O.Sink.state c.write_all.new.output in
    record {
      stands = c.requires.stands;
      keeps = keeps_same c.args.session.now (g.V.Vfs.state c.args.stack.now);
      no_feed = no_feed_in_none c.new-line.result.items c.new-line.ensures.items;
      room = omega (arith, c.requires.empty, nil_length c.new-line.result.items c.new-line.ensures.items);
      within = omega arith;
      ran = let P : List ℕ → Type 0 = λ line. ReadOn c.args.opening start start source source out0 out1 0 line in
          subst P (sym c.new-line.ensures.items)
          (read_begin c.args.opening start source out0 out1 c.write_all.ensures.sink
          (took_as out0 out1 c.text.result.now (text_of c.args.opening) [] c.text.ensures c.in_default.ensures.ok));
    }

pub returns-in-Err-run_last-clause-went : goal.returns-in-Err-run_last-clause-went
returns-in-Err-run_last-clause-went g c =
    let source = g.I.Source.state in
    let sink = g.O.Sink.state in
    let start = machine c.args.session.now (g.V.Vfs.state c.args.stack.now) in
    let mid = machine c.loop-taken.session (g.V.Vfs.state c.loop-taken.stack) in
    let end = machine c.run_last.new.session (g.V.Vfs.state c.run_last.new.stack) in
    let Given : ℕ → Type 0 = λ count. Gives (source c.loop-taken.input) (source c.read.new.self) c.read.new.buf count in
    let Last : List ℕ → Type 0 = λ line. SomeRun mid end (sink c.loop-taken.output) (sink c.run_last.new.output) (last_line line) in
    went_by c.status-in-Err-run_last.result (halt_status c.in-Err-run_last.halt) (source c.args.input.now) (source c.read.new.self) c.args.opening start end
    (sink c.args.output.now) (sink c.run_last.new.output) c.status-in-Err-run_last.ensures
    (last_cut c.in-Err-run_last.halt c.args.opening start mid end (source c.args.input.now) (source c.loop-taken.input) (source c.read.new.self)
    (sink c.args.output.now) (sink c.loop-taken.output) (sink c.run_last.new.output) c.loop-taken.taken c.loop-taken.line.items c.read.new.buf
    c.loop-taken.invariant.ran (subst Given c.if-count-eq0.true c.in-Ok.ensures.gives) (subst Last c.deref.ensures.value c.in-Err-run_last.ensures.err)
    (λ is. c.in-Err-run_last.ensures.cause (ap (λ h. Err h) is)))

pub returns-then-count-eq0-clause-went : goal.returns-then-count-eq0-clause-went
returns-then-count-eq0-clause-went g c =
    let source = g.I.Source.state in
    let sink = g.O.Sink.state in
    let start = machine c.args.session.now (g.V.Vfs.state c.args.stack.now) in
    let mid = machine c.loop-taken.session (g.V.Vfs.state c.loop-taken.stack) in
    let end = machine c.run_last.new.session (g.V.Vfs.state c.run_last.new.stack) in
    let Given : ℕ → Type 0 = λ count. Gives (source c.loop-taken.input) (source c.read.new.self) c.read.new.buf count in
    let Last : List ℕ → Type 0 = λ line. AllRun mid end (sink c.loop-taken.output) (sink c.run_last.new.output) (last_line line) in
    went_by c.status-then-count-eq0.result (end_status c.run_last.new.session.table) (source c.args.input.now) (source c.read.new.self) c.args.opening start end
    (sink c.args.output.now) (sink c.run_last.new.output) c.status-then-count-eq0.ensures
    (ended_went c.run_last.new.session.table (g.V.Vfs.state c.run_last.new.stack).faults c.args.opening start mid
    (source c.args.input.now) (source c.loop-taken.input) (source c.read.new.self)
    (sink c.args.output.now) (sink c.loop-taken.output) (sink c.run_last.new.output) c.loop-taken.taken c.loop-taken.line.items c.read.new.buf
    c.loop-taken.invariant.ran c.loop-taken-test.true (subst Given c.if-count-eq0.true c.in-Ok.ensures.gives)
    (subst Last c.deref.ensures.value c.in_default-run_last.ensures.ok))

pub returns-in-Err-run_bytes-clause-went : goal.returns-in-Err-run_bytes-clause-went
returns-in-Err-run_bytes-clause-went g c =
    let source = g.I.Source.state in
    let sink = g.O.Sink.state in
    let start = machine c.args.session.now (g.V.Vfs.state c.args.stack.now) in
    let mid = machine c.loop-taken.session (g.V.Vfs.state c.loop-taken.stack) in
    let end = machine c.run_bytes.new.session (g.V.Vfs.state c.run_bytes.new.stack) in
    let Stopped : List ℕ → Type 0 = λ piece. BytesStopped mid end (sink c.loop-taken.output) (sink c.run_bytes.new.output) c.loop-taken.line.items piece in
    went_by c.status-in-Err-run_bytes.result (halt_status c.in-Err-run_bytes.halt) (source c.args.input.now) (source c.read.new.self) c.args.opening start end
    (sink c.args.output.now) (sink c.run_bytes.new.output) c.status-in-Err-run_bytes.ensures
    (piece_cut c.in-Err-run_bytes.halt c.args.opening start mid end (source c.args.input.now) (source c.loop-taken.input) (source c.read.new.self)
    (sink c.args.output.now) (sink c.loop-taken.output) (sink c.run_bytes.new.output) c.loop-taken.taken c.loop-taken.line.items c.read.new.buf c.in-Ok.count
    c.loop-taken.invariant.ran c.in-Ok.ensures.gives (subst Stopped (take-append-le c.in-Ok.count c.read.new.buf _ c.in-Ok.ensures.gives.within) c.in-Err-run_bytes.ensures.err)
    (λ is. c.in-Err-run_bytes.ensures.cause (ap (λ h. Err h) is)))

pub loop-taken-preserved : goal.loop-taken-preserved
loop-taken-preserved g c =
    let of_stack = g.V.Vfs.state in
    let source = g.I.Source.state in
    let sink = g.O.Sink.state in
    let start = machine c.args.session.now (g.V.Vfs.state c.args.stack.now) in
    let mid = machine c.loop-taken.session (g.V.Vfs.state c.loop-taken.stack) in
    let end = machine c.run_bytes.new.session (g.V.Vfs.state c.run_bytes.new.stack) in
    let Runs : List ℕ → Type 0 = λ piece. BytesRun mid end (sink c.loop-taken.output) (sink c.run_bytes.new.output) c.loop-taken.line.items piece c.run_bytes.new.line.items in
    record {
      stands = c.run_bytes.ensures.stands;
      keeps = keeps_on c.looser_twice.ensures c.args.session.now c.loop-taken.session c.run_bytes.new.session (of_stack c.args.stack.now) (of_stack c.loop-taken.stack)
          (of_stack c.run_bytes.new.stack) c.loop-taken.invariant.keeps c.run_bytes.ensures.keeps;
      no_feed = c.in_default-run_bytes.ensures.no_feed;
      room = omega (arith, c.in_default-run_bytes.ensures.grows, c.loop-taken.invariant.room, length-take c.in-Ok.count (c.read.new.buf ++ drop c.min-room.result c.loop-taken.buf));
      within = search rules;
      ran = read_more c.args.opening start mid end (source c.args.input.now) (source c.loop-taken.input) (source c.read.new.self)
          (sink c.args.output.now) (sink c.loop-taken.output) (sink c.run_bytes.new.output) c.loop-taken.taken c.loop-taken.line.items c.read.new.buf c.in-Ok.count
          c.run_bytes.new.line.items c.loop-taken.invariant.ran c.read.ensures.steady c.in-Ok.ensures.gives c.run_bytes.ensures.sink
          (subst Runs (take-append-le c.in-Ok.count c.read.new.buf _ c.in-Ok.ensures.gives.within) c.in_default-run_bytes.ensures.ok);
    }
