use Rattle.shell_laws.proofs.StepLemmas.{is_printed}
use Rattle.ref_shell.specs.Machine.{state_of}
use Rattle.ref_shell.proofs.session.answer_command.Goals as goal

pub returns-in-Some-clause-printable : goal.returns-in-Some-clause-printable
returns-in-Some-clause-printable g c = is_printed (state_of g.S.Shelf.book c.args.machine.now) c.in-Some.who c.args.command c.step.result (state_of g.S.Shelf.book c.step.new.self) c.step.ensures.allowed
