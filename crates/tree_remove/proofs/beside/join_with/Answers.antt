use Rattle.std.proofs.Common.{inr, refl, subst, Option}
use Rattle.tree_join.specs.declared.pair.JoinPlan.{JoinPlan}
use Rattle.tree_join.specs.Join.{IsJoinResult}
use Rattle.tree_remove.proofs.ShrinkLemmas.{after_few, after_planned}
use Rattle.tree_remove.proofs.beside.join_with.Goals as goal

pub returns-clause-joined : goal.returns-clause-joined
returns-clause-joined c =
    let P : Option JoinPlan → Type 0 = λ o. IsJoinResult c.args.usable c.args.level c.args.child c.in-Interior.cells c.in-Interior.right o in
    inr (record {
      inner = c.in-Interior.cells;
      right = c.in-Interior.right;
      of = c.in-Interior.is;
      plan = c.in-Some.plan;
      is = subst P c.in-Some.is c.in_ok-plan.ensures;
      sheets = refl;
      lost = refl;
      next = refl;
    })

pub returns-clause-few : goal.returns-clause-few
returns-clause-few c =
    let P : Option JoinPlan → Type 0 = λ o. IsJoinResult c.args.usable c.args.level c.args.child c.in-Interior.cells c.in-Interior.right o in
    let is = subst P c.in-Some.is c.in_ok-plan.ensures in
    after_few c.args.usable c.args.level is.front c.args.child c.in-Some.plan.left is.after

pub returns-clause-planned : goal.returns-clause-planned
returns-clause-planned c =
    let P : Option JoinPlan → Type 0 = λ o. IsJoinResult c.args.usable c.args.level c.args.child c.in-Interior.cells c.in-Interior.right o in
    let is = subst P c.in-Some.is c.in_ok-plan.ensures in
    after_planned c.args.usable c.args.level is.front c.in-Some.plan.left is.after
