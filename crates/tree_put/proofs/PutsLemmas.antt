-- A row is put into a whole tree.
use Rattle.std.proofs.Common.{◌≡◌, inl, inr, ℕ, ◌+◌, ◌≤◌, List, [], ◌∷◌, ◌++◌, length, map, sym, ap, subst, ◌∙◌, arith}
use Rattle.page_list.specs.Pages.{Pages, times, Among}
use Rattle.page_list.specs.Freelist.{Trunk}
use Rattle.tree_page.specs.declared.cell.LeafCell.{LeafCell}
use Rattle.tree_page.specs.declared.cell.PageCells.{PageCells}
use Rattle.tree_page.specs.declared.cell.PageCells.TheVariants.{Leaf as LeafPage}
use Rattle.tree_page.specs.Page.{OnePage}
use Rattle.tree_page.specs.Written.{Fits}
use Rattle.tree_model.specs.Tree.{Row, Tree, Leaf, rowid, root_of, rows_of, pages_of}
use Rattle.tree_model.specs.Whole.{below_all, greatest, IsWholeFor}
use Rattle.tree_model.specs.Laws.{Keeps, chains_of}
use Rattle.tree_model.specs.declared.level.Level.{Level}
use Rattle.tree_model.proofs.OthersLemmas.{split_named}
use Rattle.page_cut.specs.declared.parts.Sheet.{Sheet}
use Rattle.page_cut.specs.declared.parts.Sheets.{Sheets}
use Rattle.page_cut.specs.Cut.{IsCut}
use Rattle.tree_level.specs.Level.{numbers}
use Rattle.tree_plan.specs.Plan.{put_cell, IsLeafPlan}
use Rattle.tree_run.specs.Edit.{chain_at, without}
use Rattle.tree_plan.specs.Climb.{AreClimbed}
use Rattle.tree_plan.proofs.LawLemmas.{leaf_planned}
use Rattle.tree_laws.proofs.DeepLemmas.{whole_one}
use Rattle.tree_put.specs.Way.{Beside, tree_over, low_at, high_at, around}
use Rattle.tree_put.specs.Puts.{AreFresh, ClimbPuts}
use Rattle.tree_put.proofs.WayLemmas.{held_from}
use Rattle.tree_put.proofs.CountLemmas.{levels_of, out_count, levels_around, way_pages}
use Rattle.tree_put.proofs.KeptLemmas.{Rooted, keeps_less}
use Rattle.tree_put.proofs.ClimbLemmas.{HasParts, climb}
use Rattle.tree_put.proofs.ChainLemmas.{without_count, chain_over, few_at}

pub leaf_parts : (usable number : ℕ) (cells : List LeafCell) (sheets : Sheets) → IsCut number usable (LeafPage cells) sheets → HasParts usable number sheets
leaf_parts usable number cells sheets (inl is) =
    let P : PageCells → Type 0 = λ c. Fits c number usable in
    record { few = omega (arith, ap (λ (l : List Sheet). length l) is.none); alone = λ none above. subst P (sym is.all) is.fits }
leaf_parts usable number cells sheets (inr up) = record {
  few = elim up.few [ inl one ↦ omega (arith, one) | inr (inl two) ↦ omega (arith, two.0) | inr (inr none) ↦ omega (arith, none.0) ];
  alone = λ none above. up.last.fits number above;
}

-- how often the pages of the tree are named, and that they are apart from those taken
pub tree_once : (pages : Pages) (roots : List ℕ) (before behind : List Tree) (tree : Tree) (trunks : List Trunk) → IsWholeFor pages roots (before ++ tree ∷ behind) trunks
    → (n : ℕ)
    → times n (pages_of tree) ≤ 1
tree_once pages roots before behind tree trunks whole n = omega (arith, whole.different.once n, split_named roots before behind tree trunks n)

pub way_apart : (n : ℕ) (leaf : ℕ) (rows : List Row) (steps : List Beside) (tree : Tree) (taken : List ℕ) → tree ≡ tree_over (Leaf leaf rows) steps → times n (pages_of tree) ≤ 1
    → AreFresh (pages_of tree) taken → times n (pages_of tree) + times n taken ≤ 1
way_apart n leaf rows steps tree taken is once fresh = helper (times n (pages_of tree)) (times n taken) once (fresh.different.once n) (λ some. (fresh.each n some).1)
  where
    helper : (a b : ℕ) → a ≤ 1 → b ≤ 1 → (1 ≤ b → ¬ (1 ≤ a)) → a + b ≤ 1
    helper a b x y apart = grind (arith, x, y, apart)

pub climb_puts : OnePage → ClimbPuts
climb_puts one_page old new roots before behind tree trunks row plan taken out c has all keeps =
    let whole = whole_one old roots before behind tree c.whole.each_tree in
    let way = c.way in
    let rows : List Row = way.rows in
    let steps : List Beside = way.steps in
    let leaf : ℕ = c.leaf in
    let child : Tree = Leaf leaf rows in
    let held = held_from old whole.0 tree (rowid row) c.levels leaf c.cells whole.1 way in
    let once : (n : ℕ) → times n (pages_of tree) ≤ 1 = tree_once old roots before behind tree trunks c.whole in
    let pages : (n : ℕ) → times n (pages_of tree) ≡ times n (leaf ∷ []) + times n (chains_of rows) + times n (around steps) =
    λ n. omega (arith, ap (λ t. times n (pages_of t)) way.is, way_pages n child steps) in
    let L : List Level → Type 0 = λ l. AreClimbed old.usable leaf plan.sheets l taken out in
    let climbed = subst L way.levels_are c.climbed in
    let counts = out_count old.usable leaf plan.sheets (levels_of steps) taken out climbed in
    let apart : (n : ℕ) → times n (pages_of tree) + times n taken ≤ 1 = λ n. way_apart n leaf rows steps tree taken way.is (once n) c.fresh in
    let replaced : (n : ℕ) → times n (chain_at (rowid row) (rows_of tree)) ≡ times n (chain_at (rowid row) rows) = λ n.
    ap (λ t. times n (chain_at (rowid row) (rows_of t))) way.is ∙ chain_over n old row below_all greatest 1 child steps way.beside held.standing in
    let P : List LeafCell → Type 0 = λ l. IsLeafPlan leaf old.usable l row.cell plan in
    let planned = subst P way.cells_are c.planned in
    let chains : Keeps old new (Among (chains_of (without (rowid row) rows))) = keeps_less old new _ _ (λ n some.
    record {
      named = omega (arith, some, pages n, without_count n row rows);
      unwritten = λ written. omega (arith, some, written, counts n, apart n, pages n, without_count n row rows, levels_around n steps);
      unreplaced = λ gone. omega (arith, some, gone, replaced n, once n, pages n, without_count n row rows);
    }) keeps in
    let beside : Keeps old new (λ n. Among (around steps) n × ¬ (Among (numbers out) n)) = keeps_less old new _ _ (λ n q.
    record {
      named = omega (arith, q.0, pages n);
      unwritten = q.1;
      unreplaced = λ gone. omega (arith, q.0, gone, replaced n, once n, pages n, without_count n row rows);
    }) keeps in
    let made = climb old new old.usable row c.least 1 child steps plan.sheets row.chain (chain_at (rowid row) rows) taken out way.beside held.standing held.shallow
    (few_at one_page old roots before behind tree trunks c.whole 1 child steps way.is held.standing held.shallow)
    (λ front page on. leaf_planned old new (low_at below_all steps) (high_at greatest steps) leaf page leaf old.usable row rows plan front
    held.rows_are way.above way.below planned has chains on)
    (leaf_parts old.usable leaf (put_cell row.cell (map (λ r. r.cell) rows)) plan.sheets planned.cut)
    (λ top over. omega arith)
    climbed all beside (λ n. omega (arith, apart n, pages n)) in
    let G : Tree → Type 0 = λ t. Rooted new (root_of t) row t (row.chain ++ taken) (chain_at (rowid row) rows) in
    let there = subst G (sym way.is) made in
    record { tree = there.tree; whole = there.whole; rows = there.rows; named = λ n. omega (arith, there.named n, replaced n) }
