use Rattle.std.proofs.Common.{◌-◌, slice_get, arith}
use Rattle.tree_page.specs.Page.{cells_of, leaf}
use Rattle.tree_page.specs.Steps.{LaysNext}
use Rattle.tree_page.proofs.CellLemmas.{some_is, is_some}
use Rattle.tree_page.proofs.FitLemmas.{cell_at}
use Rattle.tree_page.proofs.FillLemmas.{lays_next}
use Rattle.tree_page.proofs.write.put_next.Goals as goal

pub written_size-requires-clause-short : goal.written_size-requires-clause-short
written_size-requires-clause-short c = λ cell here. omega (arith, c.requires.room (leaf cell) here)

pub overflow_sub-place : goal.overflow_sub-place
overflow_sub-place c =
    let here = cell_at (cells_of c.args.cells.now) c.args.at c.requires.at in
    omega (arith, c.requires.room here.0 here.1, c.written_size.ensures.value here.0 here.1)

pub put_short-requires : goal.put_short-requires
put_short-requires c =
    let here = cell_at (cells_of c.args.cells.now) c.args.at c.requires.at in
    omega (arith, c.requires.room here.0 here.1)

pub returns : goal.returns
returns c =
    let here = cell_at (cells_of c.args.cells.now) c.args.at c.requires.at in
    let cell = here.0 in
    let room = c.requires.room cell here.1 in
    let size = c.written_size.ensures.value cell here.1 in
    let place = c.args.end - c.max.result in
    some_is (LaysNext c.args.page.now c.put_cell.new.page c.args.pointer c.args.end place) (slice_get (cells_of c.args.cells.now) c.args.at) cell here.1
    (lays_next c.args.page.now c.put_short.new.page c.put_cell.new.page c.args.pointer place c.args.end cell c.requires.blank c.requires.within
    (omega arith) (omega arith) c.put_short.ensures (is_some _ _ cell here.1 c.put_cell.ensures))
