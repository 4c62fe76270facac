use Rattle.std.proofs.Common.{rules, SFits, w64, ◌≤ℤ◌, ◌<ℤ◌, arith}
use Rattle.std.proofs.lemmas.Int.{to_z-of_z, ints}
use Rattle.tree_model.specs.Whole.{most_depth}
use Rattle.ref_pages.specs.AsPages.{pages_of}
use Rattle.ref_trees.specs.Steps.{HasSought}
use Rattle.ref_trees.proofs.WalkStepLemmas.{ends_nothing, ends_fault, ends_above, ends_unreadable, gives_row}
use Rattle.ref_trees.proofs.walk.next_row.Goals as goal

pub returns-in-Nothing : goal.returns-in-Nothing
returns-in-Nothing c =
    let pages = pages_of c.args.pages.now in
    let key_fits = c.ranges.key in
    let sought : HasSought most_depth pages c.args.key c.args.root c.args.key c.args.root c.in_ok-leaf.field-0 = simp to_z-of_z at c.in_ok-leaf.ensures in
    ends_nothing c.args.columns pages c.args.root c.args.high c.args.key c.in_ok-leaf.field-0 sought c.in-Nothing.is

pub returns-in-Meets : goal.returns-in-Meets
returns-in-Meets c =
    let pages = pages_of c.args.pages.now in
    let key_fits = c.ranges.key in
    let sought : HasSought most_depth pages c.args.key c.args.root c.args.key c.args.root c.in_ok-leaf.field-0 = simp to_z-of_z at c.in_ok-leaf.ensures in
    ends_fault c.args.columns pages c.args.root c.args.high c.args.key c.in_ok-leaf.field-0 c.in-Meets.fault sought c.in-Meets.is

pub returns-then-high-cell : goal.returns-then-high-cell
returns-then-high-cell c =
    let pages = pages_of c.args.pages.now in
    let key_fits = c.ranges.key in
    let sought : HasSought most_depth pages c.args.key c.args.root c.args.key c.args.root c.in_ok-leaf.field-0 = simp to_z-of_z at c.in_ok-leaf.ensures in
    let high_fits = c.ranges.high in
    let rowid_fits : SFits w64 c.in-Found.cell.rowid = search rules in
    let above : c.args.high <ℤ c.in-Found.cell.rowid = omega (arith, ints) in
    ends_above c.args.columns pages c.args.root c.args.high c.args.key c.in_ok-leaf.field-0 c.in-Found.leaf c.in-Found.cell sought c.in-Found.is above _ c.in_ok-end_past.ensures

pub returns-in-Ok : goal.returns-in-Ok
returns-in-Ok c =
    let pages = pages_of c.args.pages.now in
    let key_fits = c.ranges.key in
    let sought : HasSought most_depth pages c.args.key c.args.root c.args.key c.args.root c.in_ok-leaf.field-0 = simp to_z-of_z at c.in_ok-leaf.ensures in
    let high_fits = c.ranges.high in
    let rowid_fits : SFits w64 c.in-Found.cell.rowid = search rules in
    let within : c.in-Found.cell.rowid ≤ℤ c.args.high = omega (arith, ints) in
    gives_row c.args.columns pages c.args.root c.args.high c.args.key c.in_ok-leaf.field-0 c.in-Found.leaf c.in-Found.cell _ c.in-Ok.payload sought c.in-Found.is
    (to_z-of_z w64 c.in-Found.cell.rowid rowid_fits) within (rw c.in-Ok.is at c.in_ok-payload.ensures)

pub returns : goal.returns
returns c =
    let pages = pages_of c.args.pages.now in
    let key_fits = c.ranges.key in
    let sought : HasSought most_depth pages c.args.key c.args.root c.args.key c.args.root c.in_ok-leaf.field-0 = simp to_z-of_z at c.in_ok-leaf.ensures in
    let high_fits = c.ranges.high in
    let rowid_fits : SFits w64 c.in-Found.cell.rowid = search rules in
    let within : c.in-Found.cell.rowid ≤ℤ c.args.high = omega (arith, ints) in
    ends_unreadable c.args.columns pages c.args.root c.args.high c.args.key c.in_ok-leaf.field-0 c.in-Found.leaf c.in-Found.cell c.in-Err.fault sought c.in-Found.is
    within (rw c.in-Err.is at c.in_ok-payload.ensures)
