-- What pages that hold a tree say of its pages, and what is the same in all such pages.
use Rattle.std.proofs.Common.{◌≡◌, inl, inr, ℕ, suc, ◌≤◌, ℤ, List, [], ◌∷◌, length, Option, sym, subst, arith}
use Rattle.std.specs.List.{AllByRecursion}
use Rattle.page_list.specs.Pages.{Pages, HasPage, IsGood, Among}
use Rattle.page_list.proofs.TimesLemmas.{same_or_other}
use Rattle.tree_page.specs.declared.cell.InnerCell.{InnerCell}
use Rattle.tree_page.specs.declared.cell.PageCells.{PageCells}
use Rattle.tree_page.specs.declared.cell.PageCells.TheVariants.{Interior as InteriorPage}
use Rattle.tree_page.specs.Page.{OnePage}
use Rattle.tree_model.specs.Tree.{Row, Tree, Leaf, Child, Right, root_of, pages_of}
use Rattle.tree_model.specs.Held.{HasCells, HasRow, HoldsBehind, Holds}
use Rattle.tree_model.specs.Laws.{chains_of}
use Rattle.tree_model.proofs.OnePathLemmas.{same_cells}
use Rattle.tree_run.specs.Run.{Run, IsRun}
use Rattle.tree_run.proofs.RunLemmas.{run_within}
use Rattle.page_cut.specs.declared.parts.Sheet.{Sheet}
use Rattle.tree_plan.specs.Climb.{AreClimbed}
use Rattle.tree_laws.proofs.RangeLemmas.{in_both}
use Rattle.tree_shrink.specs.Join.{pair_of}
use Rattle.tree_shrink.specs.Root.{content_behind, content_of}
use Rattle.tree_join.specs.declared.level.Left.{Left}
use Rattle.tree_join.specs.declared.level.Left.TheVariants.{Parts, Over, Nothing}
use Rattle.tree_join.specs.Join.{sibling_of, IsLeftOut, IsJoin}
use Rattle.tree_put.specs.Way.{Beside, with_child, low_at, high_at, IsBeside, AreBeside, Stands, AreStanding}
use Rattle.tree_put.proofs.CountLemmas.{levels_of}
use Rattle.tree_remove.specs.Shrink.{CannotJoin, AreShrunk}
use Rattle.tree_removed.proofs.PairLemmas.{Paired, paired, numbered}
use Rattle.tree_removed.proofs.ShrinkLemmas.{up_number}

-- the pages of a tree are there and good

pub in_one : (P : ℕ → Type 0) (page : ℕ) → P page → (n : ℕ) → Among (page ∷ []) n → P n
in_one P page holds n some = elim (same_or_other n page) [
  | inl same ↦ subst P same.0 holds
  | inr other ↦ absurd (omega (arith, other.1, some))
]

chains_good : (pages : Pages) (rows : List Row) → AllByRecursion (HasRow pages) rows → (n : ℕ) → Among (chains_of rows) n → HasPage pages n × IsGood pages n
chains_good pages [] has n some = absurd (omega (arith, some))
chains_good pages (row ∷ more) has n some =
    in_both (λ m. HasPage pages m × IsGood pages m) row.chain (chains_of more) has.0.chained.walked.each (chains_good pages more has.1) n some

pub tree_good : (pages : Pages) (front : List InnerCell) (tree : Tree) → HoldsBehind pages front tree → (n : ℕ) → Among (pages_of tree) n → HasPage pages n × IsGood pages n
tree_good pages front (Leaf page rows) holds =
    in_both (λ n. HasPage pages n × IsGood pages n) (page ∷ []) (chains_of rows) (in_one (λ n. HasPage pages n × IsGood pages n) page (holds.1.there, holds.1.good))
    (chains_good pages rows holds.2)
tree_good pages front (Child child key more) holds =
    in_both (λ n. HasPage pages n × IsGood pages n) (pages_of child) (pages_of more) (tree_good pages [] child holds.0) (tree_good pages _ more holds.1)
tree_good pages front (Right page child) holds =
    in_both (λ n. HasPage pages n × IsGood pages n) (page ∷ []) (pages_of child) (in_one (λ n. HasPage pages n × IsGood pages n) page (holds.0.there, holds.0.good))
    (tree_good pages [] child holds.1)

-- what stands on the page of a tree

has_behind : (pages : Pages) (front : List InnerCell) (tree : Tree) → HoldsBehind pages front tree → HasCells pages (root_of tree) (content_behind front tree)
has_behind pages front (Leaf page rows) holds = holds.1
has_behind pages front (Child child key more) holds = has_behind pages _ more holds.1
has_behind pages front (Right page child) holds = holds.0

pub has_content : (pages : Pages) (tree : Tree) → Holds pages tree → HasCells pages (root_of tree) (content_of tree)
has_content pages tree holds = has_behind pages [] tree holds

same_content : OnePage → (old new : Pages) (tree : Tree) (cells : PageCells) → Holds old tree → Holds new tree → HasCells old (root_of tree) cells → HasCells new (root_of tree) cells
same_content one_page old new tree cells was is has =
    let P : PageCells → Type 0 = HasCells new (root_of tree) in
    subst P (sym (same_cells one_page old (root_of tree) cells (content_of tree) has (has_content old tree was))) (has_content new tree is)

pub other_held : (pages : Pages) (low high : ℤ) (depth : ℕ) (child : Tree) (step : Beside) (p : Paired child step) → Stands pages low high depth child step → Holds pages p.other
other_held pages low high depth child step p stands =
    let R : Run → Type 0 = IsRun pages low high depth in
    let H : Tree → Type 0 = Holds pages in
    let two = ((run_within.parts pages low high depth p.before (pair_of p.a p.k p.b) p.behind).0 (subst R (sym p.is) stands.is)).1 in
    elim p.side [ inl l ↦ subst H l.other_is two.last_child.held | inr r ↦ subst H r.other_is two.children.0.held ]

pub sibling_moves : OnePage → (old new : Pages) (low high : ℤ) (depth : ℕ) (key : ℤ) (child : Tree) (step : Beside) (cells : PageCells) → IsBeside low high key child step
    → 1 ≤ length step.level.cells → Stands old low high depth child step → Stands new low high depth child step → HasCells old (sibling_of step.level) cells
    → HasCells new (sibling_of step.level) cells
sibling_moves one_page old new low high depth key child step cells beside some was is has =
    let p = paired low high key child step beside some in
    let n = numbered low high key child step p beside in
    let O : ℕ → Type 0 = λ m. HasCells old m cells in
    let N : ℕ → Type 0 = λ m. HasCells new m cells in
    subst N (sym n.other) (same_content one_page old new p.other cells (other_held old low high depth child step p was) (other_held new low high depth child step p is) (subst O n.other has))

-- so what a removal makes of the pages of a way is the same in all pages that hold the tree

pub shrunk_moves : OnePage → (old new : Pages) → new.usable ≡ old.usable → (low high key : ℤ) (depth : ℕ) (child : Tree) (left : Left) (steps : List Beside) (taken : List ℕ)
    (out : List Sheet) (lost : List ℕ) (above : Option ℕ) → AreBeside low high key child steps → AreStanding old low high depth child steps → AreStanding new low high depth child steps
    → AreShrunk old (root_of child) left (levels_of steps) taken out lost above → AreShrunk new (root_of child) left (levels_of steps) taken out lost above
shrunk_moves one_page old new used low high key depth child (Parts sheets) steps taken out lost above beside was is shrunk =
    let U : ℕ → Type 0 = λ u. AreClimbed u (root_of child) sheets (levels_of steps) taken out in
    (subst U (sym used) shrunk.0, shrunk.1, shrunk.2)
shrunk_moves one_page old new used low high key depth child Nothing [] taken out lost above beside was is shrunk = shrunk
shrunk_moves one_page old new used low high key depth child (Over c) [] taken out lost above beside was is shrunk = shrunk
shrunk_moves one_page old new used low high key depth child Nothing (step ∷ steps) taken out lost above beside was is (next, more, left_out, lost_is, rest) =
    let U : ℕ → Type 0 = λ u. IsLeftOut u step.level next in
    let O : ℕ → Type 0 = λ m. AreShrunk old m next (levels_of steps) taken out more above in
    let N : ℕ → Type 0 = λ m. AreShrunk new m next (levels_of steps) taken out more above in
    let number = up_number child step in (
      next,
      more,
      subst U (sym used) left_out,
      lost_is,
      subst N number (shrunk_moves one_page old new used low high key (suc depth) (with_child child step) next steps taken out more above beside.1 was.2 is.2 (subst O (sym number) rest)),
    )
shrunk_moves one_page old new used low high key depth child (Over c) (step ∷ steps) taken out lost above beside was is (inl (others, more, only, rest)) =
    let O : ℕ → Type 0 = λ m. AreShrunk old m (Over c) (levels_of steps) taken others more above in
    let N : ℕ → Type 0 = λ m. AreShrunk new m (Over c) (levels_of steps) taken others more above in
    let number = up_number child step in
    inl (
      others,
      more,
      only,
      subst N number (shrunk_moves one_page old new used low high key (suc depth) (with_child child step) (Over c) steps taken others more above beside.1 was.2 is.2 (subst O (sym number) rest)),
    )
shrunk_moves one_page old new used low high key depth child (Over c) (step ∷ steps) taken out lost above beside was is (inr (inl (plan, others, more, joined, rest))) =
    let U : ℕ → Type 0 = λ u. IsJoin u step.level c joined.cells joined.right plan in
    let O : ℕ → Type 0 = λ m. AreShrunk old m plan.left (levels_of steps) taken others more above in
    let N : ℕ → Type 0 = λ m. AreShrunk new m plan.left (levels_of steps) taken others more above in
    let number = up_number child step in
    inr (inl (
      plan,
      others,
      more,
      record {
        some = joined.some;
        cells = joined.cells;
        right = joined.right;
        beside = sibling_moves one_page old new (low_at low steps) (high_at high steps) depth key child step (InteriorPage joined.cells joined.right) beside.0 joined.some was.0 is.0
            joined.beside;
        is = subst U (sym used) joined.is;
        out_are = joined.out_are;
        lost_are = joined.lost_are;
      },
      subst N number (shrunk_moves one_page old new used low high key (suc depth) (with_child child step) plan.left steps taken others more above beside.1 was.2 is.2 (subst O (sym number) rest)),
    ))
shrunk_moves one_page old new used low high key depth child (Over c) (step ∷ steps) taken out lost above beside was is (inr (inr (alone, taken_is, lost_is, above_is))) =
    let C : ℕ → Type 0 = λ u. CannotJoin u (root_of child) c step.level alone.cells in
    inr (inr (
      record {
        some = alone.some;
        cells = alone.cells;
        beside = sibling_moves one_page old new (low_at low steps) (high_at high steps) depth key child step alone.cells beside.0 alone.some was.0 is.0 alone.beside;
        cannot = subst C (sym used) alone.cannot;
        out_are = alone.out_are;
      },
      taken_is,
      lost_is,
      above_is,
    ))
