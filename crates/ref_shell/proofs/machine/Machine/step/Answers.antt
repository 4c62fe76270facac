use Rattle.std.proofs.Common.{refl, sym, subst, rules}
use Rattle.std.proofs.lemmas.Int.{to_z-of_z}
use Rattle.std.specs.Prelude.{FitsSigned}
use Rattle.std.specs.Int.{w64}
use Rattle.shell_lang.specs.declared.reply.Reply.{Reply}
use Rattle.shell_lang.specs.declared.reply.Reply.TheVariants as reply
use Rattle.shell_lang.specs.declared.command.Command.{Command}
use Rattle.shell_lang.specs.declared.command.Command.TheVariants as command
use Rattle.shell_model.specs.State.{State}
use Rattle.shell_model.specs.Step.{Step}
use Rattle.shell_laws.proofs.CommandLemmas.{reopen_step}
use Rattle.ref_shell.specs.Machine.{state_of}
use Rattle.ref_shell.proofs.Parts.{said_step, plain_step}
use Rattle.ref_shell.proofs.machine.Machine.step.Goals as goal

pub returns-in-Begin-clause-allowed : goal.returns-in-Begin-clause-allowed
returns-in-Begin-clause-allowed g c = plain_step (state_of g.S.Shelf.book c.args.self.now) (state_of g.S.Shelf.book c.begin.new.self) c.args.who c.args.command command.Begin c.begin.result c.in-Begin.is c.begin.ensures.allowed

pub returns-in-Commit-clause-allowed : goal.returns-in-Commit-clause-allowed
returns-in-Commit-clause-allowed g c = plain_step (state_of g.S.Shelf.book c.args.self.now) (state_of g.S.Shelf.book c.commit.new.self) c.args.who c.args.command command.Commit c.commit.result c.in-Commit.is c.commit.ensures.allowed

pub returns-in-Rollback-clause-allowed : goal.returns-in-Rollback-clause-allowed
returns-in-Rollback-clause-allowed g c = plain_step (state_of g.S.Shelf.book c.args.self.now) (state_of g.S.Shelf.book c.rollback.new.self) c.args.who c.args.command command.Rollback c.rollback.result c.in-Rollback.is c.rollback.ensures.allowed

pub returns-in-Create-clause-allowed : goal.returns-in-Create-clause-allowed
returns-in-Create-clause-allowed g c =
    said_step g.S.Shelf.book c.args.self.now c.create.new.self c.args.who c.args.command (command.Create c.in-Create.table c.in-Create.columns) c.or_memory.result c.create.result c.in-Create.is c.or_memory.ensures refl c.create.ensures.ok c.create.ensures.err

pub returns-in-Drop-clause-allowed : goal.returns-in-Drop-clause-allowed
returns-in-Drop-clause-allowed g c =
    said_step g.S.Shelf.book c.args.self.now c.drop_table.new.self c.args.who c.args.command (command.Drop c.in-Drop.table) c.or_memory-in-Drop.result c.drop_table.result c.in-Drop.is c.or_memory-in-Drop.ensures refl c.drop_table.ensures.ok c.drop_table.ensures.err

pub returns-in-Tables-clause-allowed : goal.returns-in-Tables-clause-allowed
returns-in-Tables-clause-allowed g c =
    said_step g.S.Shelf.book c.args.self.now c.tables.new.self c.args.who c.args.command command.Tables c.or_memory-in-Tables.result c.tables.result c.in-Tables.is c.or_memory-in-Tables.ensures refl c.tables.ensures.ok c.tables.ensures.err

pub returns-in-Put-clause-allowed : goal.returns-in-Put-clause-allowed
returns-in-Put-clause-allowed g c =
    let fits_rowid : FitsSigned w64 c.in-Put.rowid = search rules in
    said_step g.S.Shelf.book c.args.self.now c.put.new.self c.args.who c.args.command (command.Put c.in-Put.table c.in-Put.rowid c.in-Put.values) c.or_memory-in-Put.result c.put.result c.in-Put.is c.or_memory-in-Put.ensures refl (simp to_z-of_z at c.put.ensures.ok) c.put.ensures.err

pub returns-in-Get-clause-allowed : goal.returns-in-Get-clause-allowed
returns-in-Get-clause-allowed g c =
    let fits_rowid : FitsSigned w64 c.in-Get.rowid = search rules in
    said_step g.S.Shelf.book c.args.self.now c.get.new.self c.args.who c.args.command (command.Get c.in-Get.table c.in-Get.rowid) c.or_memory-in-Get.result c.get.result c.in-Get.is c.or_memory-in-Get.ensures refl (simp to_z-of_z at c.get.ensures.ok) c.get.ensures.err

pub returns-in-Del-clause-allowed : goal.returns-in-Del-clause-allowed
returns-in-Del-clause-allowed g c =
    let fits_rowid : FitsSigned w64 c.in-Del.rowid = search rules in
    said_step g.S.Shelf.book c.args.self.now c.del.new.self c.args.who c.args.command (command.Del c.in-Del.table c.in-Del.rowid) c.or_memory-in-Del.result c.del.result c.in-Del.is c.or_memory-in-Del.ensures refl (simp to_z-of_z at c.del.ensures.ok) c.del.ensures.err

pub returns-in-Scan-clause-allowed : goal.returns-in-Scan-clause-allowed
returns-in-Scan-clause-allowed g c =
    let fits_low : FitsSigned w64 c.in-Scan.low = search rules in
    let fits_high : FitsSigned w64 c.in-Scan.high = search rules in
    said_step g.S.Shelf.book c.args.self.now c.scan.new.self c.args.who c.args.command (command.Scan c.in-Scan.table c.in-Scan.low c.in-Scan.high) c.or_memory-in-Scan.result c.scan.result c.in-Scan.is c.or_memory-in-Scan.ensures refl (simp to_z-of_z at c.scan.ensures.ok) c.scan.ensures.err

pub returns-in-Count-clause-allowed : goal.returns-in-Count-clause-allowed
returns-in-Count-clause-allowed g c =
    said_step g.S.Shelf.book c.args.self.now c.count.new.self c.args.who c.args.command (command.Count c.in-Count.table) c.or_memory-in-Count.result c.count.result c.in-Count.is c.or_memory-in-Count.ensures refl c.count.ensures.ok c.count.ensures.err

pub returns-in-Reopen-clause-allowed : goal.returns-in-Reopen-clause-allowed
returns-in-Reopen-clause-allowed g c =
    let s = state_of g.S.Shelf.book c.args.self.now in
    subst (λ (a : Command). Step s c.args.who a c.reopen.result (state_of g.S.Shelf.book c.reopen.new.self)) (sym c.in-Reopen.is)
    (subst (λ (r : Reply). Step s c.args.who command.Reopen r (state_of g.S.Shelf.book c.reopen.new.self)) (sym c.reopen.ensures.said)
    (subst (λ (n : State). Step s c.args.who command.Reopen (reply.Open s.kept.counter) n) (sym c.reopen.ensures.state) (reopen_step s c.args.who)))
