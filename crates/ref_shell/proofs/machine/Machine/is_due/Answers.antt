use Rattle.std.proofs.Common.{inl, refl, subst}
use Rattle.shell_lang.specs.declared.reply.Reply.{Reply}
use Rattle.shell_model.specs.State.{State}
use Rattle.shell_model.specs.Step.{Step}
use Rattle.ref_shell.specs.Machine.{state_of}
use Rattle.ref_shell.proofs.Judged.{bound}
use Rattle.ref_shell.proofs.machine.Machine.is_due.Goals as goal

pub returns : goal.returns
returns g c =
    let s = state_of g.S.Shelf.book c.args.self.now in
    let next = state_of g.S.Shelf.book c.step-due.new.self in
    let due = c.step-due.result in
    let allowed : Step s c.args.who c.args.command due next = subst (λ (m : State). Step m c.args.who c.args.command due next) c.in_ok-twin.ensures c.step-due.ensures.allowed in (
      λ yes. (next, subst (λ (r : Reply). Step s c.args.who c.args.command r next) (c.same.ensures.0 yes) allowed),
      λ some. c.same.ensures.1 (c.replies_are_determined.ensures s c.args.who c.args.command due c.args.reply.now next some.0 (inl refl) allowed some.1 (bound due c.step-due.ensures.due c.in_default.not-Memory) c.requires),
    )
