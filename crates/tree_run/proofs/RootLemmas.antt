-- A root over a run.
use Rattle.std.proofs.Common.{◌≡◌, ◌⊎◌, inl, inr, ℕ, zero, suc, ◌≤◌, List, [], ◌∷◌, length, refl, arith}
use Rattle.page_list.specs.Pages.{Pages}
use Rattle.tree_model.specs.Tree.{Tree, Right, HasDepth}
use Rattle.tree_model.specs.Whole.{below_all, greatest, most_depth, IsWholeTree}
use Rattle.tree_run.specs.Node.{Piece, join}
use Rattle.tree_run.specs.Run.{Run, IsRun}
use Rattle.tree_run.specs.Laws.{HasRun, RootOver, StandsOver, RootUnder}
use Rattle.tree_run.proofs.RunLemmas.{run_over}

root_from : (pages : Pages) (depth root : ℕ) (front : List Piece) (last : Tree) → IsRun pages below_all greatest depth (record { front = front; last = last })
    → HasRun pages root (record { front = front; last = last }) → (1 ≤ length front) ⊎ (root ≡ 1) → suc depth ≤ most_depth
    → IsWholeTree pages root (join front (Right root last))
root_from pages depth root [] last is cells some shallow =
    let one : root ≡ 1 = elim some [ inl more ↦ absurd (omega (arith, more)) | inr one ↦ one ] in
    record {
      rooted = refl;
      held = (cells, is.last_child.held);
      ordered = is.last_child.ordered;
      depth = suc depth;
      level = is.last_child.level;
      shallow = shallow;
      filled = (one, is.last_child.filled);
    }
root_from pages depth root (p ∷ more) last is cells some shallow =
    let run : Run = record { front = p ∷ more; last = last } in
    let up = run_over.up pages below_all greatest depth root run is cells (omega arith) in
    record {
      rooted = run_over.rooted root run;
      held = up.held;
      ordered = up.ordered;
      depth = suc depth;
      level = up.level;
      shallow = shallow;
      filled = up.filled;
    }

pub root_over : RootOver
root_over pages depth root run is cells some shallow = root_from pages depth root run.front run.last is cells some shallow

root_below : (pages : Pages) (depth root : ℕ) (front : List Piece) (last : Tree) → (whole : IsWholeTree pages root (join front (Right root last)))
    → HasDepth depth (join front (Right root last)) → depth ≤ most_depth → StandsOver pages root (record { front = front; last = last })
root_below pages zero root [] last whole level shallow = absurd level
root_below pages (suc depth) root [] last whole level shallow = record {
  depth = depth;
  is = record { children = tt; last_child = record { held = whole.held.1; ordered = whole.ordered; level = level; filled = whole.filled.1 } };
  has = whole.held.0;
  some = inr whole.filled.0;
  shallow = shallow;
}
root_below pages zero root (p ∷ more) last whole level shallow = absurd level
root_below pages (suc depth) root (p ∷ more) last whole level shallow =
    let down = run_over.down pages below_all greatest depth root (record { front = p ∷ more; last = last })
    (record { held = whole.held; ordered = whole.ordered; level = level; filled = whole.filled }) in
    record { depth = depth; is = down.0; has = down.1; some = inl down.2; shallow = shallow }

pub root_under : RootUnder
root_under pages root run whole = root_below pages whole.depth root run.front run.last whole whole.level whole.shallow
