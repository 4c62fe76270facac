use Rattle.std.proofs.Common.{◌≡◌, ◌+◌, ◌*◌, max, length, map, take}
use Rattle.tree_model.specs.Need.{chains_pages}
use Rattle.ref_trees.proofs.need.need_of_tree.Given as goal

-- two pages for each row, and the chains of those so far
abbrev pub invariant-loop-row : goal.invariant-loop-row
invariant-loop-row l = l.count ≡ 2 * max 1 (length l.rows) + chains_pages l.usable (map (λ row. length row.payload) (take l.row-index l.rows))
