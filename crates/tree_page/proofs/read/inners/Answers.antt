use Rattle.std.proofs.Common.{arith}
use Rattle.std.proofs.lemmas.Grind.{common_steps}
use Rattle.tree_page.proofs.read.inners.Goals as goal

pub loop-one-preserved : goal.loop-one-preserved
loop-one-preserved c = λ bytes. let so_far = c.loop-one.invariant bytes in grind (arith, common_steps)

pub returns : goal.returns
returns c = λ bytes. let so_far = c.loop-one.invariant bytes in grind (arith, common_steps)
