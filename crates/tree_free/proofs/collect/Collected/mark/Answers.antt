use Rattle.std.specs.Ordering.{nat_cmp}
use Rattle.std.specs.BTreeSet.{contains}
use Rattle.tree_free.proofs.MetLemmas.{had, had_not, met_one, met_again}
use Rattle.tree_free.proofs.collect.Collected.mark.Goals as goal

pub returns-then-not-branch-clause-cause : goal.returns-then-not-branch-clause-cause
returns-then-not-branch-clause-cause c =
    let met = c.args.self.now.met in
    met_again met c.args.number (had (contains nat_cmp met c.args.number) c.in_ok-insert.field-0 c.in_ok-insert.ensures.added c.if-not-branch.true)

pub returns-clause-marked : goal.returns-clause-marked
returns-clause-marked c =
    let met = c.args.self.now.met in
    met_one met c.insert.new.self c.args.number c.in_ok-insert.ensures.updates
    (had_not (contains nat_cmp met c.args.number) c.in_ok-insert.field-0 c.in_ok-insert.ensures.added c.if-not-branch.false)
