use Rattle.std.proofs.Common.{arith}
use Rattle.ref_pages.proofs.DifferentLemmas.{different_of}
use Rattle.ref_pages.proofs.different.first_twice.Goals as goal

pub returns-clause-none : goal.returns-clause-none
returns-clause-none c = different_of c.args.numbers.now (λ k within. c.loop-number.invariant k (omega (arith, c.loop-number-test.false)))
