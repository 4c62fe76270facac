use Rattle.std.proofs.Common.{◌≡◌, pos, rules}
use Rattle.std.specs.Prelude.{FitsSigned}
use Rattle.std.specs.Int.{w64}
use Rattle.shell_lang.proofs.ReadLemmas.{small_fits, small_is, not_above, not_below}
use Rattle.shell_lang.proofs.read.read_small.Goals as goal
use Rattle.shell_lang.proofs.read.read_small.Goals.{else-number-ge0-via-then-number-ge0+else-number-le-GREATEST_NUMBER, else-number-ge0-via-else-number-ge0}

pub returns-in_default : goal.returns-in_default
returns-in_default c = λ n small is. c.in_default.ensures (pos n) (small_fits n small) is

pub returns-else-number-ge0 : goal.returns-else-number-ge0
returns-else-number-ge0 c = λ n small is.
    let fits : FitsSigned w64 c.in-Some.number = search rules in
    let same : c.in-Some.number ≡ pos n = small_is c.args.word.now c.in-Some.number n fits small c.in-Some.ensures is in
    elim c.else-number-ge0.branch [
      | else-number-ge0-via-then-number-ge0+else-number-le-GREATEST_NUMBER w ↦ not_above c.in-Some.number n fits same small w.if-number-le-GREATEST_NUMBER.false
      | else-number-ge0-via-else-number-ge0 w ↦ not_below c.in-Some.number n fits same w.if-number-ge0.false
    ]
