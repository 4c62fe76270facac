use Rattle.std.proofs.Common.{◌↔◌, IsTrue, IfOk, sym, subst}
use Rattle.shell_lang.specs.declared.reply.Reply.TheVariants as reply
use Rattle.shell_lang.specs.declared.reply.ScanEnd.{ScanEnd}
use Rattle.shell_lang.specs.declared.reply.ScanEnd.TheVariants as last
use Rattle.shell_laws.specs.Free.{SomeStep, MayCut}
use Rattle.ref_shell.specs.Machine.{state_of}
use Rattle.ref_shell.proofs.Judged.{through, renamed}
use Rattle.ref_shell.proofs.machine.Machine.allows_rows.Goals as goal

pub returns-in-Fault : goal.returns-in-Fault
returns-in-Fault g c =
    let s = state_of g.S.Shelf.book c.args.self.now in
    subst (λ (e : ScanEnd). IfOk c.may_cut.result (λ told. IsTrue told ↔ SomeStep s c.args.who c.args.command (reply.Rows c.args.rows.now e))) (sym c.in-Fault.is)
    (through c.may_cut.result (SomeStep s c.args.who c.args.command (reply.Rows c.args.rows.now last.Fault)) (MayCut s c.args.who c.args.command c.args.rows.now) (c.free_replies.ensures.cut_by_fault s c.args.who c.args.command c.args.rows.now) c.may_cut.ensures)

pub returns-in-Memory : goal.returns-in-Memory
returns-in-Memory g c =
    let s = state_of g.S.Shelf.book c.args.self.now in
    subst (λ (e : ScanEnd). IfOk c.may_cut-in-Memory.result (λ told. IsTrue told ↔ SomeStep s c.args.who c.args.command (reply.Rows c.args.rows.now e))) (sym c.in-Memory.is)
    (through c.may_cut-in-Memory.result (SomeStep s c.args.who c.args.command (reply.Rows c.args.rows.now last.Memory)) (MayCut s c.args.who c.args.command c.args.rows.now) (c.free_replies.ensures.cut_by_memory s c.args.who c.args.command c.args.rows.now) c.may_cut-in-Memory.ensures)

pub returns-in_default : goal.returns-in_default
returns-in_default g c =
    let s = state_of g.S.Shelf.book c.args.self.now in
    renamed s c.args.who c.args.command (reply.Rows c.args.rows.now c.args.last) c.args.said.now c.is_due.result (sym c.requires) c.is_due.ensures
