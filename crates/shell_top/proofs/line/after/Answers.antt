use Rattle.shell_top.proofs.LineLemmas.{after_front}
use Rattle.shell_top.proofs.line.after.Goals as goal

pub returns : goal.returns
returns c = after_front c.args.text.now c.args.front.now c.strip_prefix.result c.strip_prefix.ensures.cases
