use Rattle.std.proofs.lemmas.Result.{err_from_is_err_and}
use Rattle.tree_write.proofs.WriteLemmas.{writes-next, refused-leaves, refused-cause}
use Rattle.tree_write.proofs.write.write_sheets.Goals as goal

pub returns-in_err-write_sheet-clause-leaves : goal.returns-in_err-write_sheet-clause-leaves
returns-in_err-write_sheet-clause-leaves g c =
    let state = g.S.PageSpace.state in
    let l = c.loop-sheet in
    let p = err_from_is_err_and c.from_residual-in_err-write_sheet.result c.from_residual-in_err-write_sheet.ensures.1 in
    rw p.1 (refused-leaves (state c.args.space.now) (state l.space) (state c.write_sheet.new.space) c.args.sheets.now l.sheet-index c.sheet-item.result
    c.loop-sheet-test.true c.sheet-item.is l.invariant.along c.in_err-write_sheet.ensures.leaves)

pub returns-in_err-write_sheet-clause-cause : goal.returns-in_err-write_sheet-clause-cause
returns-in_err-write_sheet-clause-cause g c =
    let state = g.S.PageSpace.state in
    let l = c.loop-sheet in
    let p = err_from_is_err_and c.from_residual-in_err-write_sheet.result c.from_residual-in_err-write_sheet.ensures.1 in
    rw (p.1, p.2) (refused-cause (state c.args.space.now) (state l.space) (state c.write_sheet.new.space) c.args.sheets.now l.sheet-index c.sheet-item.result
    c.in_err-write_sheet.field-0.0 c.loop-sheet-test.true c.sheet-item.is l.invariant.along c.in_err-write_sheet.ensures.cause)

pub loop-sheet-preserved : goal.loop-sheet-preserved
loop-sheet-preserved g c =
    let state = g.S.PageSpace.state in
    let l = c.loop-sheet in
    let e = c.in_ok-write_sheet.ensures in
    record {
      along = writes-next (state c.args.space.now) (state l.space) (state c.write_sheet.new.space) c.args.sheets.now l.sheet-index c.sheet-item.result
          c.loop-sheet-test.true c.sheet-item.is l.invariant.along e.steady e.size e.noted e.changed e.leaves;
      one_page = l.invariant.one_page;
    }
