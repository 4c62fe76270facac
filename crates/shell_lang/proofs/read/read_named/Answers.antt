use Rattle.shell_lang.proofs.ReadLemmas.{no_named_blank, no_named_number}
use Rattle.shell_lang.proofs.read.read_named.Goals as goal

pub returns-in_default : goal.returns-in_default
returns-in_default c = no_named_blank c.args.named.now c.in_default.ensures

pub returns-in-None : goal.returns-in-None
returns-in-None c = no_named_number c.args.named.now c.in-Some.word.now c.in-Some.text.now c.in-Some.ensures.0 c.in-Some.ensures.1 c.in-None.ensures
