use Rattle.std.proofs.Common.{◌∷◌, sym, ◌∙◌}
use Rattle.vfs_model.specs.declared.level.Level.TheVariants.{Reserved}
use Rattle.shell_lang.specs.declared.reply.Reply.TheVariants.{Busy}
use Rattle.shell_model.specs.State.{is_refused}
use Rattle.shell_model.specs.Cases.{due}
use Rattle.ref_shell.specs.Machine.{state_of}
use Rattle.ref_shell.proofs.Parts.{is_due, not_due}
use Rattle.ref_shell.proofs.machine.Machine.refused_writing.Goals as goal

pub returns-then-is_refused-clause-through : goal.returns-then-is_refused-clause-through
returns-then-is_refused-clause-through g c =
    let s = state_of g.S.Shelf.book c.args.self.now in
    let refused = is_refused s.levels c.args.who Reserved in
    λ cases. c.in_default.ensures.through (due refused Busy s ∷ cases) Busy s (is_due refused Busy s cases (sym c.is_refused.ensures ∙ c.if-is_refused.true))

pub returns-clause-through : goal.returns-clause-through
returns-clause-through g c =
    let s = state_of g.S.Shelf.book c.args.self.now in
    let refused = is_refused s.levels c.args.who Reserved in
    λ cases answer next allowed. c.in_default.ensures.through (due refused Busy s ∷ cases) answer next
    (not_due refused Busy s cases answer next (sym c.is_refused.ensures ∙ c.if-is_refused.false) allowed)
