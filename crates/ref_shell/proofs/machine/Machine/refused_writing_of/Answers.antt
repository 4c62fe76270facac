use Rattle.std.proofs.Common.{sym, subst}
use Rattle.vfs_model.specs.declared.level.Level.TheVariants.{Reserved}
use Rattle.shell_model.specs.State.{State, reached, seen}
use Rattle.shell_model.specs.Cases.{looking, Allows}
use Rattle.ref_shell.specs.Machine.{state_of}
use Rattle.ref_shell.specs.Part.{write_table}
use Rattle.ref_shell.proofs.machine.Machine.refused_writing_of.Goals as goal

pub returns-in-Some-refused_table-clause-through : goal.returns-in-Some-refused_table-clause-through
returns-in-Some-refused_table-clause-through g c =
    let s = state_of g.S.Shelf.book c.args.self.now in
    let after = reached s c.args.who Reserved in
    let reply = c.in-Some-refused_table.reply in
    λ cases. subst (λ (n : State). Allows (write_table s c.args.who c.args.name.now cases) reply n) (sym c.reach.ensures)
    (c.in_default.ensures.through (looking after (seen s c.args.who) c.args.name.now cases) reply after (c.in-Some-refused_table.ensures.through after cases))

pub returns-clause-through : goal.returns-clause-through
returns-clause-through g c =
    let s = state_of g.S.Shelf.book c.args.self.now in
    let after = reached s c.args.who Reserved in
    λ cases answer next allowed. c.in_default.ensures.through (looking after (seen s c.args.who) c.args.name.now cases) answer next
    (c.in_default-refused_table.ensures.through after cases answer next allowed)
