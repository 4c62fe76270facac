use Rattle.shell_lang.proofs.ReadLemmas.{after_front}
use Rattle.shell_lang.proofs.read.after.Goals as goal

pub returns : goal.returns
returns c = after_front c.args.text.now c.args.front.now c.strip_prefix.result c.strip_prefix.ensures.cases
