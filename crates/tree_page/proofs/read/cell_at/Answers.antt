use Rattle.tree_page.proofs.CellLemmas.{leaf_kinds, leaf_nones, inner_kinds, inner_nones}
use Rattle.tree_page.proofs.read.cell_at.Goals as goal

pub returns-in-Leaf-clause-only : goal.returns-in-Leaf-clause-only
returns-in-Leaf-clause-only c = rw c.in-Leaf.is (leaf_kinds c.args.bytes.now c.args.place c.leaf_at.result c.leaf_at.ensures.only)

pub returns-in-Leaf-clause-none : goal.returns-in-Leaf-clause-none
returns-in-Leaf-clause-none c = rw c.in-Leaf.is (leaf_nones c.args.bytes.now c.args.place c.leaf_at.result c.leaf_at.ensures.none)

pub returns-in-Interior-clause-only : goal.returns-in-Interior-clause-only
returns-in-Interior-clause-only c = rw c.in-Interior.is (inner_kinds c.args.bytes.now c.args.place c.inner_at.result c.inner_at.ensures.only)

pub returns-in-Interior-clause-none : goal.returns-in-Interior-clause-none
returns-in-Interior-clause-none c = rw c.in-Interior.is (inner_nones c.args.bytes.now c.args.place c.inner_at.result c.inner_at.ensures.none)
