use Rattle.std.proofs.Common.{◌≡◌, ℕ, [], arith, sym, subst}
use Rattle.std.specs.List.{AllByRecursion}
use Rattle.std.proofs.lemmas.List.{nil_from_length}
use Rattle.std.proofs.lemmas.Result.{err_from_is_err_and, IfOk-weaker, IfErr-weaker}
use Rattle.payload_chain.proofs.StateLemmas.{steady-same, steady-on, stays-same, stays-on}
use Rattle.tree_write.specs.Climb.{MayClimb}
use Rattle.tree_remove.proofs.ShrinkLemmas.{shrinks-begin, shrinks-on, shrinks-end, shrinks-top, shrinks-climb, shrink-meets, shrink-stops, climbs-begin, climbs-on, along-within, next_few, may_climb, some_there, next_planned, step_now, level_there, popped}
use Rattle.tree_remove.proofs.upward.shrink.Goals as goal

pub loop-child-init : goal.loop-child-init
loop-child-init g c =
    let old = g.S.PageSpace.state c.args.space.now in
    let s = c.nothing_yet-shrunk in
    record {
      steady = steady-same c.size-pages.ensures.sizes;
      stays = stays-same;
      each = c.requires.each;
      there = c.requires.there;
      planned = c.requires.planned;
      few = climbs-begin c.args.levels.items c.args.left c.requires.leaf;
      along = shrinks-begin old c.args.number c.args.left c.args.levels.items s.result s.ensures.out s.ensures.lost s.ensures.over;
    }

pub climb_on-requires-clause-each : goal.climb_on-requires-clause-each
climb_on-requires-clause-each g c =
    let old = g.S.PageSpace.state c.args.space.now in
    let P : ℕ → Type 0 = λ u. AllByRecursion (MayClimb u) c.loop-child.levels.items in
    subst P (sym c.loop-child.invariant.steady.used) (may_climb old.pages.size old.pages.usable c.loop-child.levels.items c.loop-child.invariant.each)

pub returns-in-Err-clause-shrunk : goal.returns-in-Err-clause-shrunk
returns-in-Err-clause-shrunk g c =
    let i = c.loop-child.invariant in
    IfOk-weaker c.climb_on.result _ _
    (λ shrunk climbed. shrinks-climb (g.S.PageSpace.state c.climb_on.new.space) c.in-Err.sheets shrunk i.along i.steady i.stays c.in-Err.ensures climbed) c.climb_on.ensures.climbed

pub returns-in-Err-clause-refused : goal.returns-in-Err-clause-refused
returns-in-Err-clause-refused g c =
    let i = c.loop-child.invariant in
    IfErr-weaker c.climb_on.result _ _ (λ fault stops. shrink-stops (g.S.PageSpace.state c.climb_on.new.space) c.in-Err.sheets fault i.along i.steady i.stays i.few c.in-Err.ensures stops) c.climb_on.ensures.refused

pub returns-in_default-clause-shrunk : goal.returns-in_default-clause-shrunk
returns-in_default-clause-shrunk g c =
    let i = c.loop-child.invariant in
    let none : c.loop-child.levels.items ≡ [] = nil_from_length c.loop-child.levels.items (omega (arith, c.in_default.ensures.cases.0, c.loop-child.levels.ok.0)) in
    let r = c.in_ok-at_root in
    shrinks-top c.in-Ok.child r.field-0 i.along i.steady i.stays none c.in-Ok.ensures r.ensures.out r.ensures.lost r.ensures.over

pub rise-requires-clause-level : goal.rise-requires-clause-level
rise-requires-clause-level g c =
    let state = g.S.PageSpace.state in
    let old = state c.args.space.now in
    let i = c.loop-child.invariant in
    step_now old (state c.loop-child.space) c.in-Some.level i.steady i.stays
    (popped old.pages.size old.pages.usable c.loop-child.levels.items c.pop.new.self.items c.in-Some.level i.each c.in-Some.ensures.items).1

pub returns-in_err-sheets-clause-refused : goal.returns-in_err-sheets-clause-refused
returns-in_err-sheets-clause-refused g c =
    let i = c.loop-child.invariant in
    let p = err_from_is_err_and c.from_residual-in_err-sheets.result c.from_residual-in_err-sheets.ensures.1 in
    let e = c.in_err-sheets.ensures in
    rw (p.1, p.2) (shrink-meets (g.S.PageSpace.state c.rise.new.space) c.pop.new.self.items c.in-Some.level c.in_err-sheets.field-0.0 i.along i.steady i.stays e.stays c.in-Some.ensures.items e.refused)

pub returns-in_default-next-clause-shrunk : goal.returns-in_default-next-clause-shrunk
returns-in_default-next-clause-shrunk g c =
    let state = g.S.PageSpace.state in
    let old = state c.args.space.now in
    let now = state c.loop-child.space in
    let i = c.loop-child.invariant in
    let e = c.in_ok-sheets.ensures in
    let b = c.in_ok-put_behind.ensures in
    let risen = c.in_ok-sheets.field-0 in
    shrinks-end (state c.rise.new.space) c.pop.new.self.items c.in-Some.level c.in-Ok.child risen c.put_behind.new.shrunk i.along i.steady i.stays e.steady e.stays c.in-Some.ensures.items c.in-Ok.ensures e.risen
    (some_there old now risen.lost i.stays e.lost) c.in_default-next.is b.out b.lost b.over

pub loop-child-preserved : goal.loop-child-preserved
loop-child-preserved g c =
    let state = g.S.PageSpace.state in
    let old = state c.args.space.now in
    let now = state c.loop-child.space in
    let i = c.loop-child.invariant in
    let e = c.in_ok-sheets.ensures in
    let b = c.in_ok-put_behind.ensures in
    let risen = c.in_ok-sheets.field-0 in
    let all = popped old.pages.size old.pages.usable c.loop-child.levels.items c.pop.new.self.items c.in-Some.level i.each c.in-Some.ensures.items in
    record {
      steady = steady-on i.steady e.steady;
      stays = stays-on i.steady i.stays e.stays;
      each = all.0;
      there = level_there old.pages c.in-Some.level all.1;
      planned = next_planned old now c.in-Some.level.number risen.next c.in-Some-next.next i.steady e.planned c.in-Some-next.is;
      few = climbs-on c.args.levels.items c.loop-child.levels.items c.pop.new.self.items c.in-Some.level c.in-Ok.child c.loop-child.left c.in-Some-next.next i.few c.in-Some.ensures.items
          (along-within i.along) c.in-Ok.ensures (next_few c.in-Ok.child risen.next c.in-Some-next.next e.few c.in-Some-next.is);
      along = shrinks-on c.pop.new.self.items c.in-Some.level c.in-Ok.child risen c.in-Some-next.next c.put_behind.new.shrunk i.along i.steady i.stays c.in-Some.ensures.items c.in-Ok.ensures e.risen
          (some_there old now risen.lost i.stays e.lost) c.in-Some-next.is b.out b.lost b.over;
    }
