use Rattle.shell_laws.proofs.TextLemmas.{texts_agree}
use Rattle.shell_laws.proofs.texts_agree.Goals as goal

pub returns : goal.returns
returns c = texts_agree c.one_command.ensures c.one_cut.ensures
