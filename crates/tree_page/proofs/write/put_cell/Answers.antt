use Rattle.std.proofs.Common.{slice_get}
use Rattle.tree_page.specs.Page.{cells_of, leaf}
use Rattle.tree_page.specs.Steps.{LaysCell}
use Rattle.tree_page.proofs.CellLemmas.{leaf_read, inner_read, some_is}
use Rattle.tree_page.proofs.write.put_cell.Goals as goal

pub put_leaf-requires : goal.put_leaf-requires
put_leaf-requires c = c.requires.room (leaf c.index-as_slice-at.result)
    (leaf_read c.args.at c.args.cells.now c.in-Leaf.cells c.as_slice.result.now c.index-as_slice-at.result c.in-Leaf.is c.as_slice.ensures c.index-as_slice-at.is c.requires.at)

pub put_inner-requires : goal.put_inner-requires
put_inner-requires c = c.requires.room _
    (inner_read c.args.at c.in-Interior.right c.args.cells.now c.in-Interior.cells c.as_slice-in-Interior.result.now _ c.in-Interior.is c.as_slice-in-Interior.ensures c.requires.at)

pub returns-in-Leaf : goal.returns-in-Leaf
returns-in-Leaf c = some_is (LaysCell c.args.page.now c.put_leaf.new.page c.args.place) (slice_get (cells_of c.args.cells.now) c.args.at) (leaf c.index-as_slice-at.result)
    (leaf_read c.args.at c.args.cells.now c.in-Leaf.cells c.as_slice.result.now c.index-as_slice-at.result c.in-Leaf.is c.as_slice.ensures c.index-as_slice-at.is c.requires.at) c.put_leaf.ensures

pub returns-in-Interior : goal.returns-in-Interior
returns-in-Interior c = some_is (LaysCell c.args.page.now c.put_inner.new.page c.args.place) (slice_get (cells_of c.args.cells.now) c.args.at) _
    (inner_read c.args.at c.in-Interior.right c.args.cells.now c.in-Interior.cells c.as_slice-in-Interior.result.now _ c.in-Interior.is c.as_slice-in-Interior.ensures c.requires.at) c.put_inner.ensures
