use Rattle.shell_model.specs.Run.{said}
use Rattle.ref_shell.proofs.session.reply_to.Goals as goal

pub returns-in-Ok-clause-answered : goal.returns-in-Ok-clause-answered
returns-in-Ok-clause-answered g c = record { line = said c.in-Ok.number c.in-Ok.command; is = c.in-Ok.ensures.found; answered = c.answer_command.ensures.answered }
