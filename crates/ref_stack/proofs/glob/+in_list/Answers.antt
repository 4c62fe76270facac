use Rattle.std.proofs.Common.{arith, ◌-◌, length, drop, length-drop}
use Rattle.std.proofs.lemmas.Grind.{common_steps}
use Rattle.std.proofs.lemmas.List.{take_all}
use Rattle.ref_stack.proofs.GlobLemmas.{range_in, other_in}
use Rattle.ref_stack.proofs.glob.+in_list.Goals as goal

pub returns-else-is_between : goal.returns-else-is_between
returns-else-is_between t c =
    let h = range_in c.args.list.now c.args.b (c.is_range.ensures.yes c.if-is_range.true).0 (c.is_range.ensures.yes c.if-is_range.true).1 in
    let rest = take_all (length c.args.list.now - 3) (drop 3 c.args.list.now) (omega (arith, length-drop 3 c.args.list.now)) in
    grind (arith, common_steps, h, rest)

pub returns-else-is_same : goal.returns-else-is_same
returns-else-is_same t c =
    let h = other_in c.args.list.now c.args.b (grind (arith, common_steps)) (c.is_range.ensures.no c.if-is_range.false) in
    let rest = take_all (length c.args.list.now - 1) (drop 1 c.args.list.now) (omega (arith, length-drop 1 c.args.list.now)) in
    grind (arith, common_steps, h, rest)
