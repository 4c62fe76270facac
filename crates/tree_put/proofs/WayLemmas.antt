-- The way of a search in a whole tree.
use Rattle.std.proofs.Common.{◌≡◌, inl, inr, ℕ, zero, suc, ◌≤◌, ℤ, ◌<ℤ◌, ◌≤ℤ◌, List, [], ◌∷◌, ◌++◌, length, map, reverse, refl, sym, ap, ap₂, subst, ◌∙◌, arith}
use Rattle.std.proofs.lemmas.List.{map-append, length-map}
use Rattle.std.proofs.lemmas.Grind.{reverse_onto}
use Rattle.page_list.specs.Pages.{Pages}
use Rattle.tree_page.specs.declared.cell.LeafCell.{LeafCell}
use Rattle.tree_page.specs.declared.cell.InnerCell.{InnerCell}
use Rattle.tree_page.specs.declared.cell.PageCells.{PageCells}
use Rattle.tree_page.specs.declared.cell.PageCells.TheVariants.{Leaf as LeafPage, Interior as InteriorPage}
use Rattle.tree_page.specs.Page.{OnePage}
use Rattle.tree_model.specs.Tree.{Row, Tree, Leaf, Child, Right, root_of}
use Rattle.tree_model.specs.Held.{HasCells, Holds}
use Rattle.tree_model.specs.Walk.{child_for}
use Rattle.tree_model.specs.Whole.{below_all, greatest, most_depth, IsWholeTree}
use Rattle.tree_model.specs.declared.level.Level.{Level}
use Rattle.tree_model.proofs.IntLemmas.{le_is, not_le_is, by_le, lt_le_ℤ}
use Rattle.tree_model.proofs.OnePathLemmas.{same_cells, leaf_not_inner}
use Rattle.tree_model.proofs.PathLemmas.{IsInner, no_depth, inner_behind, inner_top}
use Rattle.tree_model.proofs.RiseLemmas.{whole_rises}
use Rattle.tree_run.specs.Node.{Piece, join, cell_of, cells_of, last_key}
use Rattle.tree_run.specs.Run.{IsChild, Run, IsRun, one, over, Behind, Nothing, Next, within, bound}
use Rattle.tree_run.specs.Laws.{HasRun}
use Rattle.tree_run.proofs.RunLemmas.{run_within, run_over, child_strict}
use Rattle.tree_run.proofs.LeafLemmas.{leaf_over, rises_to}
use Rattle.tree_run.proofs.RootLemmas.{root_under}
use Rattle.tree_search.specs.Search.{place_for, Descends}
use Rattle.tree_put.specs.Way.{Beside, with_child, tree_over, low_at, high_at, depth_over, IsBeside, AreBeside, IsWay, IsSome, AreStanding, HoldWay, PathSteps}

-- where the search goes among the children of an interior page

record Located (key : ℤ) (front : List Piece) (last : Tree) : Type 0 where
  before : List Piece
  child : Tree
  behind : Behind
  is : within before (one child) behind ≡ record { front = front; last = last }
  at : place_for key (cells_of front) ≡ length before
  child_is : child_for key (cells_of front) (root_of last) ≡ root_of child
  above : (low : ℤ) → low <ℤ key → last_key low before <ℤ key
  below : (high : ℤ) → key ≤ℤ high → key ≤ℤ bound high behind

located_here : (key : ℤ) (p : Piece) (more : List Piece) (last : Tree) → key ≤ℤ p.key → Located key (p ∷ more) last
located_here key p more last less =
    let a = le_is key p.key less in
    record {
      before = [];
      child = p.tree;
      behind = Next p.key (record { front = more; last = last });
      is = refl;
      at = cc;
      child_is = cc;
      above = λ low h. h;
      below = λ high h. less;
    }

located_later : (key : ℤ) (p : Piece) (more : List Piece) (last : Tree) → p.key <ℤ key → Located key more last → Located key (p ∷ more) last
located_later key p more last past inner =
    let a = not_le_is key p.key past in
    let b = inner.at in
    let c = inner.child_is in
    record {
      before = p ∷ inner.before;
      child = inner.child;
      behind = inner.behind;
      is = ap (λ (run : Run). record { front = p ∷ run.front; last = run.last }) inner.is;
      at = cc;
      child_is = cc;
      above = λ low h. inner.above p.key past;
      below = inner.below;
    }

locate : (key : ℤ) (front : List Piece) (last : Tree) → Located key front last
locate key [] last = record {
  before = [];
  child = last;
  behind = Nothing;
  is = refl;
  at = refl;
  child_is = refl;
  above = λ low h. h;
  below = λ high h. h;
}
locate key (p ∷ more) last = by_le key p.key (located_here key p more last) (λ past. located_later key p more last past (locate key more last))

-- one interior page of the way

record Stepped (pages : Pages) (low high : ℤ) (depth : ℕ) (key : ℤ) (level : Level) (more : List Level) (leaf : ℕ) (cells : List LeafCell) (run : Run) : Type 0 where
  step : Beside
  child : Tree
  run_is : within step.before (one child) step.behind ≡ run
  level_is : step.level ≡ level
  beside : IsBeside low high key child step
  child_is : IsChild pages (last_key low step.before) (bound high step.behind) depth child
  descends : Descends pages key (root_of child) more leaf cells

stepped : (pages : Pages) (low high : ℤ) (depth : ℕ) (key : ℤ) (level : Level) (more : List Level) (leaf : ℕ) (cells : List LeafCell) (run : Run) → IsRun pages low high depth run
    → level.cells ≡ cells_of run.front → level.right ≡ root_of run.last → level.at ≡ place_for key level.cells → low <ℤ key → key ≤ℤ high
    → Descends pages key (child_for key level.cells level.right) more leaf cells → Stepped pages low high depth key level more leaf cells run
stepped pages low high depth key level more leaf cells run is cells_are right_is at above below descends =
    let loc = locate key run.front run.last in
    let step : Beside = record { before = loc.before; behind = loc.behind; level = level } in
    let R : Run → Type 0 = λ r. IsRun pages low high depth r in
    let D : ℕ → Type 0 = λ page. Descends pages key page more leaf cells in
    let parts = (run_within.parts pages low high depth loc.before (one loc.child) loc.behind).0 (subst R (sym loc.is) is) in
    let child_at : child_for key level.cells level.right ≡ root_of loc.child = ap₂ (child_for key) cells_are right_is ∙ loc.child_is in
    record {
      step = step;
      child = loc.child;
      run_is = loc.is;
      level_is = refl;
      beside = record {
        has = record { cells_are = ap (λ (r : Run). cells_of r.front) loc.is ∙ sym cells_are; right_is = ap (λ (r : Run). root_of r.last) loc.is ∙ sym right_is };
        at = at ∙ ap (place_for key) cells_are ∙ loc.at;
        above = loc.above low above;
        below = loc.below high below;
      };
      child_is = parts.1.last_child;
      descends = subst D child_at descends;
    }

-- pages one behind the other on the way

over_append : (child : Tree) (steps : List Beside) (step : Beside) → tree_over child (steps ++ step ∷ []) ≡ with_child (tree_over child steps) step
over_append child [] step = refl
over_append child (s ∷ steps) step = over_append (with_child child s) steps step

low_append : (low : ℤ) (steps : List Beside) (step : Beside) → low_at low (steps ++ step ∷ []) ≡ low_at (last_key low step.before) steps
low_append low [] step = refl
low_append low (s ∷ steps) step = ap (λ k. last_key k s.before) (low_append low steps step)

high_append : (high : ℤ) (steps : List Beside) (step : Beside) → high_at high (steps ++ step ∷ []) ≡ high_at (bound high step.behind) steps
high_append high [] step = refl
high_append high (s ∷ steps) step = ap (λ k. bound k s.behind) (high_append high steps step)

beside_append : (low high key : ℤ) (child : Tree) (steps : List Beside) (step : Beside) → AreBeside (last_key low step.before) (bound high step.behind) key child steps
    → IsBeside low high key (tree_over child steps) step → AreBeside low high key child (steps ++ step ∷ [])
beside_append low high key child [] step are is = (is, tt)
beside_append low high key child (s ∷ steps) step are is =
    let P : ℤ → Type 0 = λ l. IsBeside l (high_at high (steps ++ step ∷ [])) key child s in
    let Q : ℤ → Type 0 = λ h. IsBeside (low_at (last_key low step.before) steps) h key child s in (
      subst P (sym (low_append low steps step)) (subst Q (sym (high_append high steps step)) are.0),
      beside_append low high key (with_child child s) steps step are.1 is,
    )

-- the way below some bounds

record Below (low high key : ℤ) (tree : Tree) (levels : List Level) (leaf : ℕ) (cells : List LeafCell) : Type 0 where
  rows : List Row
  steps : List Beside
  is : tree ≡ tree_over (Leaf leaf rows) steps
  cells_are : cells ≡ map (λ row. row.cell) rows
  levels_are : reverse levels ≡ map (λ step. step.level) steps
  beside : AreBeside low high key (Leaf leaf rows) steps
  above : low_at low steps <ℤ key
  below : key ≤ℤ high_at high steps

-- what stands at the top of a tree

leaf_of : OnePage → (pages : Pages) (tree : Tree) (leaf : ℕ) (cells : List LeafCell) → Holds pages tree → leaf ≡ root_of tree → HasCells pages leaf (LeafPage cells)
    → (rows : List Row) × (tree ≡ Leaf leaf rows) × (cells ≡ map (λ row. row.cell) rows)
leaf_of one_page pages (Leaf page rows) leaf cells holds top has =
    let P : ℕ → Type 0 = λ n. HasCells pages n (LeafPage cells) in
    let same : LeafPage cells ≡ LeafPage (map (λ row. row.cell) rows) = same_cells one_page pages page _ _ (subst P top has) holds.1 in
    (rows, ap (λ n. Leaf n rows) (sym top), cc)
leaf_of one_page pages (Child child key more) leaf cells holds top has =
    let P : ℕ → Type 0 = λ n. HasCells pages n (LeafPage cells) in
    let x : InnerCell = record { child = root_of child; rowid = key } in
    absurd (leaf_not_inner one_page pages (root_of more) cells _ _ (subst P top has) (inner_top pages (Child child key more) (inner_behind pages [] x more holds.1) holds))
leaf_of one_page pages (Right page child) leaf cells holds top has =
    let P : ℕ → Type 0 = λ n. HasCells pages n (LeafPage cells) in
    absurd (leaf_not_inner one_page pages page cells _ _ (subst P top has) holds.0)

over_of : (tree : Tree) → IsInner tree → (page : ℕ) × (run : Run) × (tree ≡ over page run)
over_of (Leaf page rows) inner = absurd inner
over_of (Child child key more) inner =
    let rest = over_of more inner in
    (rest.0, record { front = record { tree = child; key = key } ∷ rest.1.front; last = rest.1.last }, ap (Child child key) rest.2)
over_of (Right page child) inner = (page, one child, refl)

inner_over : (page : ℕ) (front : List Piece) (last : Tree) → IsInner (join front (Right page last))
inner_over page [] last = tt
inner_over page (p ∷ front) last = inner_over page front last

inner_of : OnePage → (pages : Pages) (tree : Tree) (cells : List InnerCell) (right : ℕ) → Holds pages tree → HasCells pages (root_of tree) (InteriorPage cells right)
    → IsInner tree
inner_of one_page pages (Leaf page rows) cells right holds has = absurd (leaf_not_inner one_page pages page _ cells right holds.1 has)
inner_of one_page pages (Child child key more) cells right holds has =
    let x : InnerCell = record { child = root_of child; rowid = key } in
    inner_behind pages [] x more holds.1
inner_of one_page pages (Right page child) cells right holds has = tt

same_inner : (a b : List InnerCell) (r s : ℕ) → InteriorPage a r ≡ InteriorPage b s → (a ≡ b) × (r ≡ s)
same_inner a b r s e = (cc, cc)

reversed : (level : Level) (more : List Level) (steps : List Beside) (step : Beside) → step.level ≡ level → reverse more ≡ map (λ (s : Beside). s.level) steps
    → reverse (level ∷ more) ≡ map (λ (s : Beside). s.level) (steps ++ step ∷ [])
reversed level more steps step is rest =
    reverse_onto more level []
    ∙ ap₂ (λ (l : List Level) (x : Level). l ++ x ∷ []) rest (sym is)
    ∙ sym (map-append (λ (s : Beside). s.level) steps (step ∷ []))

-- a step on top of a way
topped : (low high key : ℤ) (tree : Tree) (page : ℕ) (run : Run) (level : Level) (more : List Level) (leaf : ℕ) (cells : List LeafCell) (child : Tree) (step : Beside)
    → tree ≡ over page run → level.number ≡ page → within step.before (one child) step.behind ≡ run → step.level ≡ level → IsBeside low high key child step
    → Below (last_key low step.before) (bound high step.behind) key child more leaf cells → Below low high key tree (level ∷ more) leaf cells
topped low high key tree page run level more leaf cells child step tree_is number run_is level_is beside inner =
    let P : Tree → Type 0 = λ t. IsBeside low high key t step in
    let A : ℤ → Type 0 = λ k. k <ℤ key in
    let B : ℤ → Type 0 = λ k. key ≤ℤ k in
    record {
      rows = inner.rows;
      steps = inner.steps ++ step ∷ [];
      is = tree_is ∙ ap₂ over (sym number ∙ sym (ap (λ (l : Level). l.number) level_is)) (sym run_is) ∙ ap (λ (t : Tree). with_child t step) inner.is
          ∙ sym (over_append (Leaf leaf inner.rows) inner.steps step);
      cells_are = inner.cells_are;
      levels_are = reversed level more inner.steps step level_is inner.levels_are;
      beside = beside_append low high key (Leaf leaf inner.rows) inner.steps step inner.beside (subst P inner.is beside);
      above = subst A (sym (low_append low inner.steps step)) inner.above;
      below = subst B (sym (high_append high inner.steps step)) inner.below;
    }

below_from : OnePage → (levels : List Level) (pages : Pages) (low high : ℤ) (depth : ℕ) (key : ℤ) (tree : Tree) (leaf : ℕ) (cells : List LeafCell)
    → IsChild pages low high depth tree
    → low <ℤ key → key ≤ℤ high → Descends pages key (root_of tree) levels leaf cells → Below low high key tree levels leaf cells
below_from one_page [] pages low high depth key tree leaf cells is above below descends =
    let top = leaf_of one_page pages tree leaf cells is.held descends.0 descends.1 in
    record { rows = top.0; steps = []; is = top.1; cells_are = top.2; levels_are = refl; beside = tt; above = above; below = below }
below_from one_page (level ∷ more) pages low high zero key tree leaf cells is above below descends =
    absurd (no_depth tree (inner_of one_page pages tree level.cells level.right is.held descends.1) is.level)
below_from one_page (level ∷ more) pages low high (suc depth) key tree leaf cells is above below descends =
    let top = over_of tree (inner_of one_page pages tree level.cells level.right is.held descends.1) in
    let page : ℕ = top.0 in
    let run : Run = top.1 in
    let C : Tree → Type 0 = λ t. IsChild pages low high (suc depth) t in
    let down = run_over.down pages low high depth page run (subst C top.2 is) in
    let page_is : root_of tree ≡ page = ap root_of top.2 ∙ run_over.rooted page run in
    let P : ℕ → Type 0 = λ n. HasCells pages n (InteriorPage level.cells level.right) in
    let same = same_inner _ _ _ _ (same_cells one_page pages page _ _ (subst P page_is descends.1) down.1) in
    let s = stepped pages low high depth key level more leaf cells run down.0 same.0 same.1 descends.2 above below descends.3 in
    let inner = below_from one_page more pages (last_key low s.step.before)
    (bound high s.step.behind) depth key s.child leaf cells s.child_is s.beside.above s.beside.below s.descends in
    topped low high key tree page run level more leaf cells s.child s.step top.2 (descends.0 ∙ page_is) s.run_is s.level_is s.beside inner

as_way : (key : ℤ) (tree : Tree) (levels : List Level) (leaf : ℕ) (cells : List LeafCell) → Below below_all greatest key tree levels leaf cells → IsWay key tree levels leaf cells
as_way key tree levels leaf cells b = record {
  rows = b.rows;
  steps = b.steps;
  is = b.is;
  cells_are = b.cells_are;
  levels_are = b.levels_are;
  beside = b.beside;
  above = b.above;
  below = b.below;
}

pub way_from : OnePage → (levels : List Level) (pages : Pages) (root : ℕ) (tree : Tree) (key : ℤ) (leaf : ℕ) (cells : List LeafCell) → IsWholeTree pages root tree
    → below_all <ℤ key → key ≤ℤ greatest → Descends pages key root levels leaf cells → IsWay key tree levels leaf cells
way_from one_page [] pages root tree key leaf cells whole above below descends =
    let top = leaf_of one_page pages tree leaf cells whole.held (descends.0 ∙ sym whole.rooted) descends.1 in
    record { rows = top.0; steps = []; is = top.1; cells_are = top.2; levels_are = refl; beside = tt; above = above; below = below }
way_from one_page (level ∷ more) pages root tree key leaf cells whole above below descends =
    let P : ℕ → Type 0 = λ n. HasCells pages n (InteriorPage level.cells level.right) in
    let top = over_of tree (inner_of one_page pages tree level.cells level.right whole.held (subst P (sym whole.rooted) descends.1)) in
    let page : ℕ = top.0 in
    let run : Run = top.1 in
    let W : Tree → Type 0 = λ t. IsWholeTree pages root t in
    let under = root_under pages root run (subst W (top.2 ∙ ap (λ n. over n run) (sym (run_over.rooted page run) ∙ ap root_of (sym top.2) ∙ whole.rooted)) whole) in
    let same = same_inner _ _ _ _ (same_cells one_page pages root _ _ descends.1 under.has) in
    let s = stepped pages below_all greatest under.depth key level more leaf cells run under.is same.0 same.1 descends.2 above below descends.3 in
    let inner = below_from one_page more pages (last_key below_all s.step.before)
    (bound greatest s.step.behind) under.depth key s.child leaf cells s.child_is s.beside.above s.beside.below s.descends in
    as_way key tree (level ∷ more) leaf cells (topped below_all greatest key tree page run level more leaf cells s.child s.step top.2
    (descends.0 ∙ sym whole.rooted ∙ ap root_of top.2 ∙ run_over.rooted page run) s.run_is s.level_is s.beside inner)

-- pages with a whole tree hold what stands along a way

record Down (pages : Pages) (child : Tree) (steps : List Beside) : Type 0 where
  depth : ℕ
  child_is : IsChild pages (low_at below_all steps) (high_at greatest steps) depth child
  standing : AreStanding pages below_all greatest depth child steps
  shallow : depth_over depth steps ≤ most_depth

page_has : (pages : Pages) (page : ℕ) (child : Tree) (low high key : ℤ) (step : Beside) → IsBeside low high key child step → page ≡ step.level.number
    → HasRun pages page (within step.before (one child) step.behind) → HasCells pages step.level.number (InteriorPage step.level.cells step.level.right)
page_has pages page child low high key step beside number has =
    let P : ℕ → Type 0 = λ n. HasCells pages n (InteriorPage step.level.cells step.level.right) in
    let Q : PageCells → Type 0 = λ c. HasCells pages page c in
    subst P number (subst Q (ap₂ InteriorPage beside.has.cells_are beside.has.right_is) has)

cells_long : (child : Tree) (low high key : ℤ) (step : Beside) → IsBeside low high key child step → 1 ≤ length (within step.before (one child) step.behind).front
    → 1 ≤ length step.level.cells
cells_long child low high key step beside some =
    let run : Run = within step.before (one child) step.behind in
    omega (arith, some, ap (λ (l : List InnerCell). length l) beside.has.cells_are, length-map run.front cell_of)

step_down : (pages : Pages) (depth : ℕ) (key : ℤ) (child : Tree) (step s : Beside) (more : List Beside)
    → IsBeside (low_at below_all (s ∷ more)) (high_at greatest (s ∷ more)) key child step
    → IsChild pages (low_at below_all (s ∷ more)) (high_at greatest (s ∷ more)) depth (with_child child step)
    → AreStanding pages below_all greatest depth (with_child child step) (s ∷ more) → depth_over depth (s ∷ more) ≤ most_depth → Down pages child (step ∷ s ∷ more)
step_down pages zero key child step s more beside is standing shallow =
    absurd (no_depth (with_child child step) (inner_over step.level.number (within step.before (one child) step.behind).front
    (within step.before (one child) step.behind).last) is.level)
step_down pages (suc depth) key child step s more beside is standing shallow =
    let low : ℤ = low_at below_all (s ∷ more) in
    let high : ℤ = high_at greatest (s ∷ more) in
    let down = run_over.down pages low high depth step.level.number (within step.before (one child) step.behind) is in
    let parts = (run_within.parts pages low high depth step.before (one child) step.behind).0 down.0 in
    record {
      depth = depth;
      child_is = parts.1.last_child;
      standing = (
        record { is = down.0; page = page_has pages step.level.number child low high key step beside refl down.1 },
        inl (cells_long child low high key step beside down.2),
        standing,
      );
      shallow = shallow;
    }

way_down : (pages : Pages) (root : ℕ) (key : ℤ) (child : Tree) (step : Beside) (steps : List Beside) → AreBeside below_all greatest key child (step ∷ steps)
    → IsWholeTree pages root (tree_over child (step ∷ steps)) → Down pages child (step ∷ steps)
way_down pages root key child step [] beside whole =
    let run : Run = within step.before (one child) step.behind in
    let number : step.level.number ≡ root = sym (run_over.rooted step.level.number run) ∙ whole.rooted in
    let W : ℕ → Type 0 = λ n. IsWholeTree pages root (over n run) in
    let under = root_under pages root run (subst W number whole) in
    let parts = (run_within.parts pages below_all greatest under.depth step.before (one child) step.behind).0 under.is in
    let S : Type 0 = IsSome step [] in
    let some : S = elim under.some [ inl more ↦ inl (cells_long child below_all greatest key step beside.0 more) | inr first ↦ inr (refl, number ∙ first) ] in
    record {
      depth = under.depth;
      child_is = parts.1.last_child;
      standing = (record { is = under.is; page = page_has pages root child below_all greatest key step beside.0 (sym number) under.has }, some, tt);
      shallow = under.shallow;
    }
way_down pages root key child step (s ∷ more) beside whole =
    let up = way_down pages root key (with_child child step) s more beside.1 whole in
    step_down pages up.depth key child step s more beside.0 up.child_is up.standing up.shallow

way_held : (pages : Pages) (root : ℕ) (key : ℤ) (leaf : ℕ) (rows : List Row) (steps : List Beside) → AreBeside below_all greatest key (Leaf leaf rows) steps
    → IsWholeTree pages root (tree_over (Leaf leaf rows) steps) → HoldWay pages rows leaf steps
way_held pages root key leaf rows [] beside whole =
    let rise = rises_to below_all greatest rows (whole_rises pages root (Leaf leaf rows) whole) in
    record {
      leaf_has = whole.held.1;
      rows_are = record { each = whole.held.2; rises = rise.0; most = rise.1 };
      standing = tt;
      shallow = omega arith;
    }
way_held pages root key leaf rows (step ∷ steps) beside whole =
    let down = way_down pages root key (Leaf leaf rows) step steps beside whole in
    let low : ℤ = low_at below_all (step ∷ steps) in
    let high : ℤ = high_at greatest (step ∷ steps) in
    let one_deep : down.depth ≡ 1 = down.child_is.level in
    let C : ℕ → Type 0 = λ d. IsChild pages low high d (Leaf leaf rows) in
    let S : ℕ → Type 0 = λ d. AreStanding pages below_all greatest d (Leaf leaf rows) (step ∷ steps) × (depth_over d (step ∷ steps) ≤ most_depth) in
    let is = subst C one_deep down.child_is in
    let stands = subst S one_deep (down.standing, down.shallow) in
    record {
      leaf_has = is.held.1;
      rows_are = leaf_over.down pages low high leaf rows (lt_le_ℤ low high (child_strict pages low high 1 (Leaf leaf rows) is)) is;
      standing = stands.0;
      shallow = stands.1;
    }

pub held_from : (pages : Pages) (root : ℕ) (tree : Tree) (key : ℤ) (levels : List Level) (leaf : ℕ) (cells : List LeafCell) → IsWholeTree pages root tree
    → (way : IsWay key tree levels leaf cells) → HoldWay pages way.rows leaf way.steps
held_from pages root tree key levels leaf cells whole way =
    let W : Tree → Type 0 = λ t. IsWholeTree pages root t in
    way_held pages root key leaf way.rows way.steps way.beside (subst W way.is whole)

pub path_steps : OnePage → PathSteps
path_steps one_page = record {
  way = λ pages root tree key levels leaf cells whole above below descends. way_from one_page levels pages root tree key leaf cells whole above below descends;
  held = held_from;
}
