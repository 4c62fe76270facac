use Rattle.std.proofs.Common.{◌≡◌, max, subst, sym, ◌∙◌, arith}
use Rattle.std.specs.Int.{w64}
use Rattle.std.proofs.lemmas.Int.{to_z-of_z}
use Rattle.tree_page.specs.Steps.{cell_of, IsAbove, IsClear, Marks}
use Rattle.tree_page.proofs.CellLemmas.{found_kind}
use Rattle.tree_page.proofs.NextLemmas.{next_none, next_long, next_low, next_taken, next_takes}
use Rattle.tree_page.proofs.read.next_cell.Goals as goal

pub returns-in_default-clause-none : goal.returns-in_default-clause-none
returns-in_default-clause-none c = next_none c.args.bytes.now c.args.head.content c.args.place c.args.head.kind c.args.last c.args.marks.now c.in_default.ensures.none

pub returns-then-bytes-place-clause-none : goal.returns-then-bytes-place-clause-none
returns-then-bytes-place-clause-none c =
    next_long c.args.bytes.now c.args.head.content c.args.place c.in-Some.size c.args.head.kind c.args.last c.args.marks.now (cell_of c.args.bytes.now c.in-Some.found)
    (record { only = c.in-Some.ensures.only }) (omega arith)

pub returns-then-not-is_above-clause-none : goal.returns-then-not-is_above-clause-none
returns-then-not-is_above-clause-none c =
    let key = to_z-of_z w64 c.rowid-rowid.result (search c) ∙ c.rowid-rowid.ensures in
    next_low c.args.bytes.now c.args.head.content c.args.place c.in-Some.size c.args.head.kind c.args.last c.args.marks.now (cell_of c.args.bytes.now c.in-Some.found)
    (record { only = c.in-Some.ensures.only }) (λ above. c.is_above.ensures.no c.if-not-is_above.true (subst (IsAbove c.args.last) (sym key) above))

pub returns-else-mark-clause-none : goal.returns-else-mark-clause-none
returns-else-mark-clause-none c =
    let e : c.max-extent.result ≡ max 4 c.in-Some.size = omega arith in
    next_taken c.args.bytes.now c.args.head.content c.args.place c.in-Some.size c.args.head.kind c.args.last c.args.marks.now (cell_of c.args.bytes.now c.in-Some.found)
    (record { only = c.in-Some.ensures.only })
    (λ clear. c.mark.ensures.taken c.if-mark.false (subst (λ n. IsClear c.args.marks.now (record { place = c.args.place; size = n })) (sym e) clear))

pub returns-then-mark-clause-takes : goal.returns-then-mark-clause-takes
returns-then-mark-clause-takes c =
    let e : c.max-extent.result ≡ max 4 c.in-Some.size = omega arith in
    let key = to_z-of_z w64 c.rowid-rowid.result (search c) ∙ c.rowid-rowid.ensures in
    next_takes c.args.bytes.now c.args.head.content c.args.place c.in-Some.size c.args.head.kind c.args.last c.args.marks.now c.mark.new.marks (cell_of c.args.bytes.now c.in-Some.found)
    (record { only = c.in-Some.ensures.only }) (found_kind _ _ c.in-Some.found c.in-Some.ensures.found) c.in-Some.ensures.stands (omega arith) (omega arith) (omega arith)
    (subst (IsAbove c.args.last) key (c.is_above.ensures.yes c.if-not-is_above.false))
    (subst (λ n. IsClear c.args.marks.now (record { place = c.args.place; size = n })) e (c.mark.ensures.marked c.if-mark.true))
    (subst (λ n. Marks c.args.marks.now c.mark.new.marks (record { place = c.args.place; size = n })) e (c.mark.ensures.after c.if-mark.true))
