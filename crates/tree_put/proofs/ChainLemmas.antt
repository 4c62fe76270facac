-- The chain of the row that is replaced, and the depth of a tree.
use Rattle.std.proofs.Common.{◌≡◌, ℕ, suc, ◌+◌, ◌≤◌, ℤ, List, [], ◌∷◌, ◌++◌, refl, sym, ap, subst, ◌∙◌, arith}
use Rattle.page_list.specs.Pages.{Pages, times}
use Rattle.page_list.specs.Freelist.{Trunk}
use Rattle.page_list.proofs.TimesLemmas.{times-append}
use Rattle.tree_page.specs.declared.cell.PageCells.TheVariants.{Interior as InteriorPage}
use Rattle.tree_page.specs.Page.{OnePage}
use Rattle.tree_model.specs.Tree.{Row, Tree, Right, rowid, root_of, rows_of, HasDepth}
use Rattle.tree_model.specs.Held.{HasCells}
use Rattle.tree_model.specs.Whole.{below_all, greatest, most_depth, IsWholeFor}
use Rattle.tree_model.specs.Laws.{chains_of}
use Rattle.tree_model.proofs.IntLemmas.{by_le}
use Rattle.tree_model.proofs.ReplaceLemmas.{chains_append}
use Rattle.tree_run.specs.Node.{Piece, join, rows_in}
use Rattle.tree_run.specs.Run.{AreChildren, Run, one, within, behind_rows}
use Rattle.tree_run.specs.Edit.{put_row, chain_at, without, Puts}
use Rattle.tree_run.proofs.RunLemmas.{run_within, run_over}
use Rattle.tree_run.proofs.EditLemmas.{edit_within}
use Rattle.tree_plan.proofs.LawLemmas.{row_here, row_before, row_past, chains_put}
use Rattle.tree_laws.proofs.DeepLemmas.{deep_is_large}
use Rattle.tree_put.specs.Way.{Beside, with_child, tree_over, low_at, high_at, depth_over, IsBeside, AreBeside, Stands, AreStanding}
use Rattle.tree_put.proofs.ClimbLemmas.{FewAt}

-- the chains of rows are that of one of them and those of the others
pub without_count : (n : ℕ) (row : Row) (rows : List Row) → times n (chains_of (without (rowid row) rows)) + times n (chain_at (rowid row) rows) ≡ times n (chains_of rows)
without_count n row [] = refl
without_count n row (r ∷ more) =
    let inner = without_count n row more in
    let C : List Row → ℕ = λ l. times n (chains_of l) in
    by_le (rowid row) (rowid r)
    (λ at. by_le (rowid r) (rowid row)
    (λ back. let h = row_here row r more at back in omega (arith, ap C h.1, ap (times n) h.2, times-append n r.chain (chains_of more)))
    (λ above. let h = row_before row r more above in omega (arith, ap C h.1, ap (times n) h.2)))
    (λ past. let h = row_past row r more past in
    omega (arith, inner, ap C h.1, ap (times n) h.2, times-append n r.chain (chains_of (without (rowid row) more)), times-append n r.chain (chains_of more)))

-- the chain of a row of an interior page is that in the child that the search takes
chain_up : (n : ℕ) (old : Pages) (row : Row) (low high : ℤ) (depth : ℕ) (child : Tree) (step : Beside) → IsBeside low high (rowid row) child step
    → Stands old low high depth child step
    → times n (chain_at (rowid row) (rows_of (with_child child step))) ≡ times n (chain_at (rowid row) (rows_of child))
chain_up n old row low high depth child step beside stands =
    let whole : List Row = rows_of (with_child child step) in
    let run : Run = within step.before (one child) step.behind in
    let C : List Row → ℕ = λ l. times n (chains_of l) in
    let before : List Row = rows_in step.before in
    let behind : List Row = behind_rows step.behind in
    omega (
      arith,
      chains_put n row whole,
      chains_put n row (rows_of child),
      ap C (run_over.rows step.level.number run ∙ run_within.rows step.before (one child) step.behind),
      ap (λ l. C (put_row row l)) (run_over.rows step.level.number run),
      ap C (edit_within old low high depth step.before (one child) step.behind (Puts row) stands.is beside.above beside.below),
      chains_append n before (rows_of child ++ behind),
      chains_append n (rows_of child) behind,
      chains_append n before (put_row row (rows_of child) ++ behind),
      chains_append n (put_row row (rows_of child)) behind,
    )

pub chain_over : (n : ℕ) (old : Pages) (row : Row) (low high : ℤ) (depth : ℕ) (child : Tree) (steps : List Beside) → AreBeside low high (rowid row) child steps
    → AreStanding old low high depth child steps → times n (chain_at (rowid row) (rows_of (tree_over child steps))) ≡ times n (chain_at (rowid row) (rows_of child))
chain_over n old row low high depth child [] beside standing = refl
chain_over n old row low high depth child (step ∷ steps) beside standing =
    chain_over n old row low high (suc depth) (with_child child step) steps beside.1 standing.2
    ∙ chain_up n old row (low_at low steps) (high_at high steps) depth child step beside.0 standing.0

-- depth

deep_join : (pages : Pages) (low : ℤ) (depth page : ℕ) (front : List Piece) (last : Tree) → AreChildren pages low depth front → HasDepth depth last
    → HasDepth (suc depth) (join front (Right page last))
deep_join pages low depth page [] last are level = level
deep_join pages low depth page (p ∷ more) last are level = (are.0.level, deep_join pages p.key depth page more last are.1 level)

depth_least : (depth : ℕ) (steps : List Beside) → depth ≤ depth_over depth steps
depth_least depth [] = omega arith
depth_least depth (step ∷ steps) = omega (arith, depth_least (suc depth) steps)

-- a root of the greatest depth has few cells
pub few_at : OnePage → (old : Pages) (roots : List ℕ) (before behind : List Tree) (tree : Tree) (trunks : List Trunk) → IsWholeFor old roots (before ++ tree ∷ behind) trunks
    → (depth : ℕ) (child : Tree) (steps : List Beside) → tree ≡ tree_over child steps → AreStanding old below_all greatest depth child steps
    → depth_over depth steps ≤ most_depth → FewAt depth steps
few_at one_page old roots before behind tree trunks whole depth child [] is standing shallow = tt
few_at one_page old roots before behind tree trunks whole depth child (step ∷ s ∷ more) is standing shallow = (
  λ deepest. absurd (omega (arith, deepest, shallow, depth_least (suc (suc depth)) more)),
  few_at one_page old roots before behind tree trunks whole (suc depth) (with_child child step) (s ∷ more) is standing.2 shallow,
)
few_at one_page old roots before behind tree trunks whole depth child (step ∷ []) is standing shallow = (
  λ deepest.
      let run : Run = within step.before (one child) step.behind in
      let H : Tree → Type 0 = λ t. HasDepth most_depth t in
      let D : ℕ → Type 0 = λ d. HasDepth d (with_child child step) in
      let P : ℕ → Type 0 = λ n. HasCells old n (InteriorPage step.level.cells step.level.right) in
      let level : HasDepth (suc depth) (with_child child step) =
      deep_join old below_all depth step.level.number run.front run.last standing.0.is.children standing.0.is.last_child.level in
      deep_is_large one_page old roots before behind tree trunks step.level.cells step.level.right whole (subst H (sym is) (subst D deepest level))
      (subst P (sym (run_over.rooted step.level.number run) ∙ ap root_of (sym is)) standing.0.page),
  tt,
)
