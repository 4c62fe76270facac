use Rattle.std.proofs.Common.{ℕ, ◌+◌, ◌*◌, max, List, length, map, take, sym, ap, ap₂, ◌∙◌, add_assoc}
use Rattle.tree_model.specs.Tree.{Row}
use Rattle.tree_model.specs.Need.{chain_pages, chains_pages}
use Rattle.ref_trees.proofs.ForestLemmas.{chains_more}
use Rattle.ref_trees.proofs.need.need_of_tree.Goals as goal

pub loop-row-preserved : goal.loop-row-preserved
loop-row-preserved c =
    let rows = c.args.rows.now in
    let base = 2 * max 1 (length rows) in
    let before = chains_pages c.args.usable (map (λ (r : Row). length r.payload) (take c.loop-row.row-index rows)) in
    c.in_ok-count-2.ensures
    ∙ ap₂ (λ (m n : ℕ). m + n) c.loop-row.invariant (c.chain_pages.ensures ∙ ap (λ (l : List ℕ). chain_pages c.args.usable (length l)) c.payload.ensures)
    ∙ add_assoc base before (chain_pages c.args.usable (length c.row-item.result.payload))
    ∙ ap (λ n. base + n) (sym (chains_more c.args.usable c.loop-row.row-index rows c.row-item.result c.loop-row-test.true c.row-item.is))
