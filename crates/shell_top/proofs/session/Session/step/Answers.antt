use Rattle.std.proofs.Common.{sym, subst}
use Rattle.shell_top.specs.declared.reply.Reply.{Reply}
use Rattle.shell_top.specs.Machine.{Step}
use Rattle.shell_top.specs.Stands.{machine, halted}
use Rattle.shell_top.proofs.SessionLemmas.{step_refused, room_left, grows_by_line}
use Rattle.shell_top.proofs.session.Session.step.Goals as goal

pub put-requires-clause-room : goal.put-requires-clause-room
put-requires-clause-room g c =
    room_left c.args.self.now.table c.in-Some-table.table c.args.line.now c.in-Some.rowid c.in-Some.text.now c.in-Some-table.is c.in-Some.ensures c.requires.room

pub returns-in-Ok-true-clause-grows : goal.returns-in-Ok-true-clause-grows
returns-in-Ok-true-clause-grows g c =
    grows_by_line c.args.self.now.table c.in-Some-table.table c.put.new.self c.args.line.now c.in-Some.rowid c.in-Some.text.now c.in-Some-table.is c.in-Some.ensures
    c.in-Ok-true.ensures.rows

pub returns-in-Ok-false-clause-grows : goal.returns-in-Ok-false-clause-grows
returns-in-Ok-false-clause-grows g c =
    grows_by_line c.args.self.now.table c.in-Some-table.table c.put.new.self c.args.line.now c.in-Some.rowid c.in-Some.text.now c.in-Some-table.is c.in-Some.ensures
    c.in-Ok-false.ensures.rows

pub returns-in-Err-Stack-clause-step : goal.returns-in-Err-Stack-clause-step
returns-in-Err-Stack-clause-step g c =
    let state = g.V.Vfs.state in
    let P : Reply → Type 0 = λ r. Step (machine c.args.self.now (state c.args.stack.now)) c.args.line.now r (halted (state c.close.new.self).faults) in
    subst P (sym c.reply_for.ensures)
    (step_refused c.args.self.now.table c.in-Some-table.table (state c.args.stack.now).faults (state c.put.new.stack).faults (state c.close.new.self).faults
    c.args.line.now c.in-Some.rowid c.in-Some.text.now c.in-Err-Stack.fault c.in-Some-table.is c.in-Some.ensures c.if-text-gt-MAX_TEXT.false
    (c.in-Err-Stack.ensures.cause c.in-Err-Stack.fault c.in-Err-Stack.field-0-is) c.close.ensures.steady.faults)
