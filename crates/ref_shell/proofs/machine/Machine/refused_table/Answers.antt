use Rattle.std.proofs.Common.{ap, sym, ◌∙◌}
use Rattle.book_model.specs.Book.{Book, is_plain}
use Rattle.shell_model.specs.State.{seen}
use Rattle.ref_shell.specs.Machine.{state_of}
use Rattle.ref_shell.proofs.Parts.{is_there}
use Rattle.ref_shell.proofs.machine.Machine.refused_table.Goals as goal

pub returns-then-is_plain-clause-through : goal.returns-then-is_plain-clause-through
returns-then-is_plain-clause-through g c =
    let book = seen (state_of g.S.Shelf.book c.args.self.now) c.args.who in
    let plain = sym (ap (λ (b : Book). is_plain b c.args.name.now) c.seen-shelf.ensures) ∙ (sym c.is_plain.ensures ∙ c.if-is_plain.true) in
    λ after. is_there after book c.args.name.now plain
