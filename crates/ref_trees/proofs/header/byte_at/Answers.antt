use Rattle.std.proofs.Common.{arith}
use Rattle.ref_trees.proofs.HeaderLemmas.{before_size, at_size, behind_size}
use Rattle.ref_trees.proofs.header.byte_at.Goals as goal

pub returns-then-at-lt28 : goal.returns-then-at-lt28
returns-then-at-lt28 c = before_size c.args.bytes.now c.args.at (omega arith) (omega arith)

pub returns-then-at-lt32 : goal.returns-then-at-lt32
returns-then-at-lt32 c = at_size c.args.bytes.now c.args.at (omega arith) (omega arith) (omega arith)

pub returns-else-at-lt32 : goal.returns-else-at-lt32
returns-else-at-lt32 c = behind_size c.args.bytes.now c.args.at (omega arith) (omega arith)
