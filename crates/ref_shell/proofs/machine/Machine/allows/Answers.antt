use Rattle.shell_lang.specs.declared.reply.Reply.TheVariants as reply
use Rattle.shell_laws.specs.Free.{SomeStep, MayPass, may_want, may_fail, may_break_off}
use Rattle.ref_shell.specs.Machine.{state_of}
use Rattle.ref_shell.proofs.Judged.{by_test, through, renamed}
use Rattle.ref_shell.proofs.machine.Machine.allows.Goals as goal

pub returns-in-Memory : goal.returns-in-Memory
returns-in-Memory g c =
    let s = state_of g.S.Shelf.book c.args.self.now in
    by_test s c.args.who c.args.command c.args.reply.now reply.Memory c.may_want.result (may_want s c.args.who c.args.command) c.in-Memory.is c.may_want.ensures (c.free_replies.ensures.memory s c.args.who c.args.command)

pub returns-in-MemoryStopped : goal.returns-in-MemoryStopped
returns-in-MemoryStopped g c =
    let s = state_of g.S.Shelf.book c.args.self.now in
    by_test s c.args.who c.args.command c.args.reply.now reply.MemoryStopped c.may_break_off.result (may_break_off s c.args.who c.args.command) c.in-MemoryStopped.is c.may_break_off.ensures
    (c.free_replies.ensures.broken_off s c.args.who c.args.command)

pub returns-in-Fault : goal.returns-in-Fault
returns-in-Fault g c =
    let s = state_of g.S.Shelf.book c.args.self.now in
    by_test s c.args.who c.args.command c.args.reply.now reply.Fault c.may_fail.result (may_fail s c.args.who c.args.command) c.in-Fault.is c.may_fail.ensures (c.free_replies.ensures.fault s c.args.who c.args.command)

pub returns-in-Large : goal.returns-in-Large
returns-in-Large g c =
    let s = state_of g.S.Shelf.book c.args.self.now in
    let pages = c.in-Large.pages in
    renamed s c.args.who c.args.command c.args.reply.now (reply.Large pages) c.may_pass.result c.in-Large.is
    (through c.may_pass.result (SomeStep s c.args.who c.args.command (reply.Large pages)) (MayPass s c.args.who c.args.command pages) (c.free_replies.ensures.large s c.args.who c.args.command pages) c.may_pass.ensures)

pub returns-in-Rows : goal.returns-in-Rows
returns-in-Rows g c =
    let s = state_of g.S.Shelf.book c.args.self.now in
    renamed s c.args.who c.args.command c.args.reply.now (reply.Rows c.in-Rows.rows c.in-Rows.last) c.allows_rows.result c.in-Rows.is c.allows_rows.ensures
