use Rattle.std.specs.Int.{w64}
use Rattle.std.proofs.lemmas.List.{take_rest}
use Rattle.std.proofs.lemmas.Int.{to_z-of_z}
use Rattle.tree_page.proofs.ReadLemmas.{inner_none, inner_only, inner_is}
use Rattle.tree_page.proofs.read.inner_at.Goals as goal

pub returns-in_default-clause-none : goal.returns-in_default-clause-none
returns-in_default-clause-none c =
    let none = simp take_rest at c.in_default.ensures.none in
    inner_none c.args.bytes.now c.args.place none

pub returns-clause-stands : goal.returns-clause-stands
returns-clause-stands c =
    let found = simp take_rest at c.in-Some.ensures.found in
    let child = simp take_rest at c.read_u32-child.ensures in
    let room = simp take_rest at c.if-rest-lt4.false in
    rw (to_z-of_z w64 c.in-Some.rowid (search c))
    (inner_is c.args.bytes.now c.args.place c.in-Some.size c.read_u32-child.result c.in-Some.rowid room child found)

pub returns-clause-only : goal.returns-clause-only
returns-clause-only c =
    let found = simp take_rest at c.in-Some.ensures.found in
    let child = simp take_rest at c.read_u32-child.ensures in
    rw (to_z-of_z w64 c.in-Some.rowid (search c))
    (inner_only c.args.bytes.now c.args.place c.in-Some.size c.read_u32-child.result c.in-Some.rowid child found)
