use Rattle.std.proofs.Common.{◌≡◌, Option, [], subst, arith}
use Rattle.std.proofs.lemmas.List.{nil_from_length}
use Rattle.std.proofs.lemmas.Result.{err_from_is_err_and, IfOk-weaker, IfErr-weaker}
use Rattle.page_cut.specs.declared.parts.Sheets.{Sheets}
use Rattle.tree_write.specs.Steps.{StepsUp}
use Rattle.tree_write.proofs.ClimbLemmas.{climbs-begin, climbs-on, climbs-end, climbs-top, climb-stops}
use Rattle.tree_write.proofs.path.climb.Goals as goal

pub loop-level-init : goal.loop-level-init
loop-level-init g c =
    rw c.new-out.ensures.items (record {
      along = climbs-begin (g.S.PageSpace.state c.args.space.now) c.args.number c.args.plan c.args.levels.items c.size-pages.ensures.sizes c.requires.plan c.requires.each;
    })

pub returns-in_err-next-clause-refused : goal.returns-in_err-next-clause-refused
returns-in_err-next-clause-refused g c =
    let p = err_from_is_err_and c.from_residual.result c.from_residual.ensures.1 in
    rw (p.1, p.2) (climb-stops (g.S.PageSpace.state c.step_up.new.space) _ c.in_err-next.field-0.0 c.loop-level.invariant.along c.in_err-next.ensures.refused (omega arith))

pub returns-in_default-2-clause-climbed : goal.returns-in_default-2-clause-climbed
returns-in_default-2-clause-climbed g c =
    let state = g.S.PageSpace.state in
    let P : Option Sheets → Type 0 = λ next. StepsUp (state c.loop-level.space) (state c.step_up.new.space) c.loop-level.number (state c.loop-level.space).pages.usable
    c.loop-level.sheets c.in-Some.level c.loop-level.out.items c.step_up.new.out.items next in
    climbs-end (state c.step_up.new.space) c.pop.new.self.items c.in-Some.level c.step_up.new.out.items c.loop-level.invariant.along c.in-Some.ensures.items
    (subst P c.in_default-2.is c.in_ok-next.ensures.stepped)

pub loop-level-preserved : goal.loop-level-preserved
loop-level-preserved g c =
    let state = g.S.PageSpace.state in
    let P : Option Sheets → Type 0 = λ next. StepsUp (state c.loop-level.space) (state c.step_up.new.space) c.loop-level.number (state c.loop-level.space).pages.usable
    c.loop-level.sheets c.in-Some.level c.loop-level.out.items c.step_up.new.out.items next in
    record {
      along = climbs-on (state c.step_up.new.space) c.pop.new.self.items c.in-Some.level c.step_up.new.out.items c.in-Some-2.next c.loop-level.invariant.along
          c.in-Some.ensures.items c.in_ok-next.ensures.noted (subst P c.in-Some-2.is c.in_ok-next.ensures.stepped);
    }

pub returns-clause-climbed : goal.returns-clause-climbed
returns-clause-climbed g c =
    let none : c.loop-level.levels.items ≡ [] = nil_from_length c.loop-level.levels.items (omega (arith, c.in_default.ensures.cases.0, c.loop-level.levels.ok.0)) in
    IfOk-weaker c.settle_root.result _ _
    (λ sheets settled. climbs-top (g.S.PageSpace.state c.settle_root.new.space) sheets.items c.loop-level.invariant.along none settled) c.settle_root.ensures.settled

pub returns-clause-refused : goal.returns-clause-refused
returns-clause-refused g c =
    IfErr-weaker c.settle_root.result _ _
    (λ fault stops. climb-stops (g.S.PageSpace.state c.settle_root.new.space) _ fault c.loop-level.invariant.along stops (omega arith)) c.settle_root.ensures.refused
