use Rattle.std.proofs.Common.{◌≡◌, refl, rules, SFits, w64, to_z, ◌≤ℤ◌, ◌<ℤ◌, arith, pos, ◌+ℤ◌, ◌++◌, ◌∷◌, []}
use Rattle.std.proofs.lemmas.Int.{to_z-of_z, ints}
use Rattle.ref_pages.specs.AsPages.{pages_of}
use Rattle.ref_trees.specs.Steps.{HasGone, EndsWalk, GivesRow}
use Rattle.ref_trees.proofs.WalkStepLemmas.{gone_row, gone_last, gone_end, gap_falls, next_fits}
use Rattle.ref_trees.proofs.walk.walk_of.Goals as goal

pub returns-in-Ends : goal.returns-in-Ends
returns-in-Ends c =
    let pages = pages_of c.args.pages.now in
    let key = to_z w64 c.loop-key.key-bits in
    let low_fits = c.ranges.low in
    let high_fits = c.ranges.high in
    let within : key ≤ℤ c.args.high = omega (arith, ints, c.loop-key-test.true) in
    let gone : HasGone c.args.columns pages c.args.root c.args.low c.args.high c.loop-key.rows key = simp to_z-of_z at c.loop-key.invariant in
    let step : EndsWalk c.args.columns pages c.args.root c.args.high key c.in-Ends.end = simp to_z-of_z at (rw c.in-Ends.is at c.in_ok-rowid.ensures) in
    gone_end c.args.columns pages c.args.root c.args.low c.args.high c.loop-key.rows key c.in-Ends.end gone within step

pub returns-then-high-rowid : goal.returns-then-high-rowid
returns-then-high-rowid c =
    let pages = pages_of c.args.pages.now in
    let key = to_z w64 c.loop-key.key-bits in
    let rowid = c.in-Row.rowid in
    let low_fits = c.ranges.low in
    let high_fits = c.ranges.high in
    let rowid_fits : SFits w64 rowid = search rules in
    let within : key ≤ℤ c.args.high = omega (arith, ints, c.loop-key-test.true) in
    let gone : HasGone c.args.columns pages c.args.root c.args.low c.args.high c.loop-key.rows key = simp to_z-of_z at c.loop-key.invariant in
    let step : GivesRow c.args.columns pages c.args.root c.args.high key rowid c.in-Row.payload = simp to_z-of_z at (rw c.in-Row.is at c.in_ok-rowid.ensures) in
    let last : c.args.high ≤ℤ rowid = omega (arith, ints, c.if-high-rowid.true) in
    let pushed : c.push.new.self ≡ c.loop-key.rows ++ (rowid, c.in-Row.payload) ∷ [] = simp to_z-of_z at c.in_ok-push.ensures.ok in
    gone_last c.args.columns pages c.args.root c.args.low c.args.high c.loop-key.rows c.push.new.self key rowid c.in-Row.payload gone within step last pushed

pub loop-key-smaller : goal.loop-key-smaller
loop-key-smaller c =
    let key = to_z w64 c.loop-key.key-bits in
    let rowid = c.in-Row.rowid in
    let high_fits = c.ranges.high in
    let rowid_fits : SFits w64 rowid = search rules in
    let within : key ≤ℤ c.args.high = omega (arith, ints, c.loop-key-test.true) in
    let below : rowid <ℤ c.args.high = omega (arith, ints, c.if-high-rowid.false) in
    let more_fits : SFits w64 (rowid +ℤ pos 1) = next_fits rowid c.args.high rowid_fits high_fits below in
    let step = rw c.in-Row.is at c.in_ok-rowid.ensures in
    let behind : key ≤ℤ rowid = omega (arith, ints, step.keyed, step.sought.behind.0) in
    simp to_z-of_z (gap_falls key rowid (rowid +ℤ pos 1) c.args.high behind below refl)

pub loop-key-preserved : goal.loop-key-preserved
loop-key-preserved c =
    let pages = pages_of c.args.pages.now in
    let key = to_z w64 c.loop-key.key-bits in
    let rowid = c.in-Row.rowid in
    let low_fits = c.ranges.low in
    let high_fits = c.ranges.high in
    let rowid_fits : SFits w64 rowid = search rules in
    let within : key ≤ℤ c.args.high = omega (arith, ints, c.loop-key-test.true) in
    let gone : HasGone c.args.columns pages c.args.root c.args.low c.args.high c.loop-key.rows key = simp to_z-of_z at c.loop-key.invariant in
    let step : GivesRow c.args.columns pages c.args.root c.args.high key rowid c.in-Row.payload = simp to_z-of_z at (rw c.in-Row.is at c.in_ok-rowid.ensures) in
    let below : rowid <ℤ c.args.high = omega (arith, ints, c.if-high-rowid.false) in
    let more_fits : SFits w64 (rowid +ℤ pos 1) = next_fits rowid c.args.high rowid_fits high_fits below in
    let pushed : c.push.new.self ≡ c.loop-key.rows ++ (rowid, c.in-Row.payload) ∷ [] = simp to_z-of_z at c.in_ok-push.ensures.ok in
    simp to_z-of_z
    (gone_row c.args.columns pages c.args.root c.args.low c.args.high c.loop-key.rows c.push.new.self key rowid (rowid +ℤ pos 1) c.in-Row.payload gone within step below
    pushed refl)
