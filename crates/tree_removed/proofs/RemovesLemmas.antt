-- A row is taken out of a whole tree.
use Rattle.std.proofs.Common.{◌≡◌, inl, inr, ℕ, suc, ◌+◌, ◌≤◌, ◌<◌, ℤ, ◌≤ℤ◌, List, [], ◌∷◌, ◌++◌, length, map, Option, Some, None, refl, sym, ap, subst, ◌∙◌, arith}
use Rattle.std.specs.List.{AllByRecursion}
use Rattle.std.proofs.lemmas.List.{length-map}
use Rattle.page_list.specs.Pages.{Pages, times, Among}
use Rattle.page_list.proofs.TimesLemmas.{times-append}
use Rattle.tree_page.specs.declared.cell.LeafCell.{LeafCell}
use Rattle.tree_page.specs.declared.cell.InnerCell.{InnerCell}
use Rattle.tree_page.specs.declared.cell.PageCells.TheVariants.{Leaf as LeafPage}
use Rattle.tree_page.specs.Page.{OnePage}
use Rattle.tree_model.specs.Tree.{Row, Tree, Leaf, rowid, root_of, rows_of, pages_of}
use Rattle.tree_model.specs.Held.{HasCells}
use Rattle.tree_model.specs.Whole.{below_all, greatest, most_depth}
use Rattle.tree_model.specs.Laws.{Keeps, chains_of}
use Rattle.tree_model.specs.declared.level.Level.{Level}
use Rattle.tree_model.proofs.IntLemmas.{le_is, not_le_is, by_le, le_trans_ℤ, lt_le_ℤ}
use Rattle.tree_run.specs.Node.{Piece, cell_of, last_key}
use Rattle.tree_run.specs.Run.{Run, one, over, Behind, Nothing as NoneBehind, Next, within, bound}
use Rattle.tree_run.specs.Edit.{chain_at, without, Removes}
use Rattle.tree_run.specs.Laws.{AreRows}
use Rattle.page_cut.specs.declared.parts.Sheet.{Sheet}
use Rattle.tree_level.specs.Level.{numbers}
use Rattle.tree_plan.specs.Climb.{on}
use Rattle.tree_laws.proofs.DeepLemmas.{whole_one}
use Rattle.tree_shrink.specs.Rest.{Below, Gone}
use Rattle.tree_shrink.specs.Level.{Less}
use Rattle.tree_shrink.specs.Root.{RootLeft}
use Rattle.tree_shrink.proofs.LevelLemmas.{leaf_less}
use Rattle.tree_shrink.proofs.RootLemmas.{less_root_left, no_sibling, root_empty}
use Rattle.tree_join.specs.declared.level.Left.{Left}
use Rattle.tree_join.specs.declared.level.Left.TheVariants.{Parts, Over, Nothing}
use Rattle.tree_join.specs.Join.{sibling_of, listed, IsLeafLeft}
use Rattle.tree_join.specs.Leaf.{other_cells}
use Rattle.tree_put.specs.Way.{Beside, with_child, tree_over, low_at, high_at, depth_over, around, IsBeside, AreBeside, Stands, AreStanding}
use Rattle.tree_put.proofs.WayLemmas.{held_from}
use Rattle.tree_put.proofs.CountLemmas.{levels_of, beside_of, numbers_append, around_first, way_pages}
use Rattle.tree_put.proofs.KeptLemmas.{keeps_less}
use Rattle.tree_put.proofs.ClimbLemmas.{all_front, all_behind, FewAt}
use Rattle.tree_put.proofs.PutsLemmas.{leaf_parts, tree_once, way_apart}
use Rattle.tree_put.proofs.ChainLemmas.{without_count, chain_over, few_at}
use Rattle.tree_remove.specs.Shrink.{AreShrunk}
use Rattle.tree_removed.specs.Removes.{HasRemoved, IsOver, ShrinkRemoves}
use Rattle.tree_removed.proofs.ClimbLemmas.{climb}
use Rattle.tree_removed.proofs.PairLemmas.{paired}
use Rattle.tree_removed.proofs.JoinLemmas.{StaysBeside, joins, none_alone}
use Rattle.tree_removed.proofs.ShrinkLemmas.{join_count, sibling_count, up_number, shrunk_count, OneLeft, IsLeft, left_same, over_same, less_same, whole_left, loses, next_left}

-- at the root

over_none : (new : Pages) (key : ℤ) (was : Tree) (taken gone lost : List ℕ) (above : Option ℕ) → lost ≡ [] → above ≡ None → HasRemoved new key was taken gone
    → IsOver new key was taken (gone ++ lost) above
over_none new key was taken gone lost above none is has =
    let O : Option ℕ → Type 0 = λ o. IsOver new key was taken (gone ++ lost) o in
    subst O (sym is) (record { tree = has.tree; whole = has.whole; rows = has.rows; named = λ n. omega (arith, has.named n, times-append n gone lost, ap (times n) none) })

root_nothing : (new : Pages) (depth : ℕ) (key : ℤ) (child : Tree) (gone taken : List ℕ) (out : List Sheet) (lost : List ℕ) (above : Option ℕ)
    → Less new below_all greatest depth key child Gone (gone ++ root_of child ∷ []) → taken ≡ [] → out ≡ on (root_of child) (LeafPage []) ∷ [] → lost ≡ [] → above ≡ None
    → AllByRecursion (λ sheet. HasCells new sheet.number sheet.cells) out → IsOver new key child taken (gone ++ lost) above
root_nothing new depth key child gone taken out lost above less none out_is lost_is above_is all =
    let A : List Sheet → Type 0 = λ l. AllByRecursion (λ sheet. HasCells new sheet.number sheet.cells) l in
    let made = root_empty new new depth key child gone less (subst A out_is all).0 in
    over_none new key child taken gone lost above lost_is above_is
    (record { tree = Leaf (root_of child) []; whole = made.whole; rows = made.rows; named = λ n. omega (arith, made.named n, ap (times n) none) })

over_some : (new : Pages) (key : ℤ) (was tree : Tree) (c : ℕ) (taken gone gone' : List ℕ) (above : Option ℕ) → taken ≡ [] → ((n : ℕ) → times n gone ≡ times n gone')
    → above ≡ Some c → root_of tree ≡ c → RootLeft new key was tree gone → IsOver new key was taken gone' above
over_some new key was tree c taken gone gone' above none same is rooted left =
    let O : Option ℕ → Type 0 = λ o. IsOver new key was taken gone' o in
    subst O (sym is) (none, (tree, rooted, left_same new key was tree gone gone' same left))

-- page 1 over one page

bare : (child : Tree) (before : List Piece) (behind : Behind) → length (within before (one child) behind).front < 1
    → (within before (one child) behind ≡ one child) × ((low : ℤ) → last_key low before ≡ low) × ((high : ℤ) → bound high behind ≡ high)
bare child [] NoneBehind short = (refl, λ low. refl, λ high. refl)
bare child [] (Next key rest) short = absurd (omega (arith, short))
bare child (p ∷ before) behind short = absurd (omega (arith, short))

root_bare : (new : Pages) (key : ℤ) (child : Tree) (step : Beside) (c : ℕ) (depth : ℕ) (gone taken lost more : List ℕ) (above : Option ℕ) → IsBeside below_all greatest key child step
    → step.level.cells ≡ [] → OneLeft new (last_key below_all step.before) (bound greatest step.behind) depth key child c gone → suc depth ≤ most_depth → taken ≡ []
    → lost ≡ root_of child ∷ more → more ≡ [] → above ≡ Some c → IsOver new key (with_child child step) taken (gone ++ lost) above
root_bare new key child step c depth gone taken lost more above beside none left shallow taken_is lost_is more_is above_is =
    let run : Run = within step.before (one child) step.behind in
    let is = bare child step.before step.behind (omega (
      arith,
      ap (λ (l : List InnerCell). length l) none,
      ap (λ (l : List InnerCell). length l) beside.has.cells_are,
      length-map run.front cell_of,
    )) in
    let L : ℤ → ℤ → Type 0 = λ x y. Less new x y (suc left.below) key child (Below left.tree) (gone ++ root_of child ∷ []) in
    let less = subst (λ y. L below_all y) (is.2 greatest) (subst (λ x. L x (bound greatest step.behind)) (is.1 below_all) left.less) in
    let R : Run → Type 0 = λ r. RootLeft new key (over step.level.number r) left.tree (gone ++ root_of child ∷ []) in
    over_some new key (with_child child step) left.tree c taken (gone ++ root_of child ∷ []) (gone ++ lost) above taken_is
    (λ n. omega (arith, times-append n gone (root_of child ∷ []), times-append n gone lost, ap (times n) lost_is, ap (times n) more_is)) above_is left.rooted
    (subst R (sym is.0) (no_sibling new left.below step.level.number key child left.tree gone less (omega (arith, shallow, left.deep))))

-- how often pages are named on the next page up

abbrev Apart : Tree → List Beside → List ℕ → Type 0
Apart child steps taken = (n : ℕ) → times n (root_of child ∷ around steps) + times n taken ≤ 1

apart_up : (child : Tree) (step : Beside) (steps : List Beside) (taken : List ℕ) → Apart child (step ∷ steps) taken → Apart (with_child child step) steps taken
apart_up child step steps taken apart n = omega (arith, apart n, around_first n step steps, ap (λ m. times n (m ∷ [])) (up_number child step))

-- so often pages are written, and lost, above
record Above (child : Tree) (step : Beside) (out others : List Sheet) (lost more : List ℕ) : Type 0 where
  written : (n : ℕ) → times n (numbers out) ≤ times n (root_of child ∷ []) + times n (beside_of step) + times n (numbers others)
  gone : (n : ℕ) → times n lost ≤ times n (root_of child ∷ []) + times n (beside_of step) + times n more

abbrev Kept : Pages → Pages → List Beside → List Sheet → List ℕ → Type 0
Kept old new steps out lost = Keeps old new (λ n. Among (around steps) n × ¬ (Among (numbers out) n) × ¬ (Among lost n))

keeps_up : (old new : Pages) (child : Tree) (step : Beside) (steps : List Beside) (taken : List ℕ) (out others : List Sheet) (lost more : List ℕ) → Above child step out others lost more
    → Apart child (step ∷ steps) taken → Kept old new (step ∷ steps) out lost → Kept old new steps others more
keeps_up old new child step steps taken out others lost more up apart keeps = keeps_less old new _ _ (λ n q. (
  omega (arith, q.0, around_first n step steps),
  λ written. q.1 (omega (arith, written, q.0, up.written n, apart n, around_first n step steps)),
  λ is_gone. q.2 (omega (arith, is_gone, q.0, up.gone n, apart n, around_first n step steps)),
)) keeps

-- the pages beside the child stay, or all but the page of the one that is joined
stays_beside : (old new : Pages) (child : Tree) (step : Beside) (steps : List Beside) (taken : List ℕ) (out : List Sheet) (lost : List ℕ)
    → ((n : ℕ) → times n (numbers out) + times n lost
    ≤ times n (root_of child ∷ []) + times n (sibling_of step.level ∷ []) + times n taken + times n (step.level.number ∷ []) + times n (around steps))
    → Apart child (step ∷ steps) taken → Kept old new (step ∷ steps) out lost → StaysBeside old new step
stays_beside old new child step steps taken out lost count apart keeps = keeps_less old new _ _ (λ n less. (
  omega (arith, less, around_first n step steps),
  λ written. omega (arith, less, written, count n, apart n, around_first n step steps),
  λ is_gone. omega (arith, less, is_gone, count n, apart n, around_first n step steps),
)) keeps

all_beside : (old new : Pages) (child : Tree) (step : Beside) (steps : List Beside) (taken : List ℕ) (out : List Sheet) (lost : List ℕ)
    → ((n : ℕ) → times n (numbers out) + times n lost ≤ times n (root_of child ∷ []) + times n taken + times n (step.level.number ∷ []) + times n (around steps))
    → Apart child (step ∷ steps) taken → Kept old new (step ∷ steps) out lost → Keeps old new (Among (beside_of step))
all_beside old new child step steps taken out lost count apart keeps = keeps_less old new _ _ (λ n some. (
  omega (arith, some, around_first n step steps),
  λ written. omega (arith, some, written, count n, apart n, around_first n step steps),
  λ is_gone. omega (arith, some, is_gone, count n, apart n, around_first n step steps),
)) keeps

-- all of it, by induction along the way

pub shrink : OnePage → (old new : Pages) (key : ℤ) → 480 ≤ old.usable → (left : Left) (depth : ℕ) (child : Tree) (steps : List Beside) (gone taken : List ℕ) (out : List Sheet)
    (lost : List ℕ) (above : Option ℕ) → AreBeside below_all greatest key child steps → AreStanding old below_all greatest depth child steps → depth_over depth steps ≤ most_depth
    → FewAt depth steps → IsLeft new old.usable (low_at below_all steps) (high_at greatest steps) depth key child left steps gone
    → AreShrunk old (root_of child) left (levels_of steps) taken out lost above → AllByRecursion (λ sheet. HasCells new sheet.number sheet.cells) out
    → Kept old new steps out lost → Apart child steps taken → IsOver new key (tree_over child steps) taken (gone ++ lost) above
shrink one_page old new key least (Parts sheets) depth child steps gone taken out lost above beside standing shallow few left shrunk all keeps apart =
    let rooted = climb old new old.usable (Removes key) least depth child steps sheets [] gone taken out beside standing shallow few left.plans left.parts left.deep shrunk.0 all
    (keeps_less old new _ _ (λ n q. (q.0, q.1, λ is_gone. omega (arith, is_gone, ap (times n) shrunk.1))) keeps) apart in
    over_none new key (tree_over child steps) taken gone lost above shrunk.1 shrunk.2
    (record { tree = rooted.tree; whole = rooted.whole; rows = rooted.rows; named = λ n. omega (arith, rooted.named n) })
shrink one_page old new key least Nothing depth child [] gone taken out lost above beside standing shallow few left shrunk all keeps apart =
    root_nothing new depth key child gone taken out lost above left shrunk.0 shrunk.1 shrunk.2 shrunk.3 all
shrink one_page old new key least (Over c) depth child [] gone taken out lost above beside standing shallow few left shrunk all keeps apart =
    over_some new key child left.tree c taken gone (gone ++ lost) above shrunk.0 (λ n. omega (arith, times-append n gone lost, ap (times n) shrunk.2)) shrunk.3 left.rooted
    (less_root_left new left.below key child left.tree gone left.less (omega (arith, shallow, left.deep)))
shrink one_page old new key least Nothing depth child (step ∷ steps) gone taken out lost above beside standing shallow few left (next, more, left_out, lost_is, rest) all keeps apart =
    let S : ℕ → Type 0 = λ m. AreShrunk old m next (levels_of steps) taken out more above in
    let number = up_number child step in
    let up = subst S (sym number) rest in
    let count = shrunk_count old below_all greatest key (with_child child step) next steps taken out more above beside.1 up in
    let near = all_beside old new child step steps taken out lost
    (λ n. omega (arith, count n, ap (times n) lost_is, ap (λ m. times n (m ∷ [])) number)) apart keeps in
    over_same new key (tree_over child (step ∷ steps)) taken ((gone ++ root_of child ∷ []) ++ more) (gone ++ lost) above
    (λ n. omega (arith, times-append n (gone ++ root_of child ∷ []) more, times-append n gone (root_of child ∷ []), times-append n gone lost, ap (times n) lost_is))
    (shrink one_page old new key least next (suc depth) (with_child child step) steps (gone ++ root_of child ∷ []) taken out more above beside.1 standing.2 shallow few.1
    (loses old new old.usable (low_at below_all steps) (high_at greatest steps) depth key child step next steps gone beside.0 standing.0 near left left_out)
    up all
    (keeps_up old new child step steps taken out out lost more
    (record { written = λ n. omega arith; gone = λ n. omega (arith, ap (times n) lost_is) }) apart keeps)
    (apart_up child step steps taken apart))
shrink one_page old new key least (Over c) depth child (step ∷ s ∷ steps) gone taken out lost above beside standing shallow few left (inl (others, more, only, rest)) all keeps apart =
    absurd (elim standing.1 [
      | inl some ↦ omega (arith, some, ap (λ (l : List InnerCell). length l) only.none)
      | inr top ↦ omega (arith, ap (λ (l : List Beside). length l) top.0)
    ])
shrink one_page old new key least (Over c) depth child (step ∷ []) gone taken out lost above beside standing shallow few left (inl (others, more, only, rest)) all keeps apart =
    root_bare new key child step c depth gone taken lost more above beside.0 only.none left shallow rest.0 only.lost_are rest.2 rest.3
shrink one_page old new key least (Over c) depth child (step ∷ steps) gone taken out lost above beside standing shallow few left
    (inr (inl (plan, others, more, joined, rest))) all keeps apart =
    let low : ℤ = low_at below_all steps in
    let high : ℤ = high_at greatest steps in
    let below : ℕ = left.below in
    let S : ℕ → Type 0 = λ m. AreShrunk old m plan.left (levels_of steps) taken others more above in
    let A : List Sheet → Type 0 = λ l. AllByRecursion (λ sheet. HasCells new sheet.number sheet.cells) l in
    let T : ℕ → Type 0 = λ d. Stands old low high d child step in
    let F : ℕ → Type 0 = λ d. (suc d ≡ most_depth → length step.level.cells ≤ 3) × (depth_over (suc d) steps ≤ most_depth) in
    let I : ℕ → Type 0 = λ d. IsLeft new old.usable low high (suc d) key (with_child child step) plan.left steps (gone ++ listed plan.lost) in
    let number = up_number child step in
    let up = subst S (sym number) rest in
    let stands = subst T left.deep standing.0 in
    let at_depth = subst F left.deep (few.0, shallow) in
    let there = subst A joined.out_are all in
    let pair = λ (n : ℕ). sibling_count n low high key child step beside.0 joined.some in
    let both = λ (n : ℕ). join_count n old.usable step.level c joined.cells joined.right plan joined.is in
    let count = shrunk_count old below_all greatest key (with_child child step) plan.left steps taken others more above beside.1 up in
    let out_count : (n : ℕ) → times n (numbers out) ≡ times n (numbers plan.sheets.items) + times n (numbers others) = λ n.
    omega (arith, ap (λ (l : List Sheet). times n (numbers l)) joined.out_are, numbers_append n plan.sheets.items others) in
    let lost_count : (n : ℕ) → times n lost ≡ times n (listed plan.lost) + times n more = λ n. omega (arith, ap (times n) joined.lost_are, times-append n (listed plan.lost) more) in
    let stays = stays_beside old new child step steps taken out lost
    (λ n. omega (arith, out_count n, lost_count n, both n, (pair n).0, count n, ap (λ m. times n (m ∷ [])) number)) apart keeps in
    let p = paired low high key child step beside.0 joined.some in
    let j = joins one_page old new low high below key child left.tree step c joined.cells joined.right gone p beside.0 stands left.rooted left.less joined.beside stays in
    let next = next_left old new old.usable low high below key child step steps c joined.cells joined.right gone p plan plan.left least beside.0 stands stays j joined.is
    (all_front (λ sheet. HasCells new sheet.number sheet.cells) plan.sheets.items others there) joined.is.after at_depth.0 (λ top. top_depth below steps top at_depth.1) in
    over_same new key (tree_over child (step ∷ steps)) taken ((gone ++ listed plan.lost) ++ more) (gone ++ lost) above
    (λ n. omega (arith, times-append n (gone ++ listed plan.lost) more, times-append n gone (listed plan.lost), times-append n gone lost, lost_count n))
    (shrink one_page old new key least plan.left (suc depth) (with_child child step) steps (gone ++ listed plan.lost) taken others more above beside.1 standing.2 shallow few.1
    (subst I (sym left.deep) next) up (all_behind (λ sheet. HasCells new sheet.number sheet.cells) plan.sheets.items others there)
    (keeps_up old new child step steps taken out others lost more
    (record {
      written = λ n. omega (arith, out_count n, both n, (pair n).0, (pair n).1);
      gone = λ n. omega (arith, lost_count n, both n, (pair n).0, (pair n).1);
    }) apart keeps)
    (apart_up child step steps taken apart))
  where
    top_depth : (depth : ℕ) (steps : List Beside) → steps ≡ [] → depth_over (suc (suc depth)) steps ≤ most_depth → suc (suc depth) ≤ most_depth
    top_depth depth [] top shallow = shallow
    top_depth depth (s ∷ more) top shallow = absurd (omega (arith, ap (λ (l : List Beside). length l) top))
shrink one_page old new key least (Over c) depth child (step ∷ steps) gone taken out lost above beside standing shallow few left
    (inr (inr (alone, taken_is, lost_is, above_is))) all keeps apart =
    let low : ℤ = low_at below_all steps in
    let high : ℤ = high_at greatest steps in
    let T : ℕ → Type 0 = λ d. Stands old low high d child step in
    let stands = subst T left.deep standing.0 in
    let stays = stays_beside old new child step steps taken out lost
    (λ n. omega (arith, ap (λ (l : List Sheet). times n (numbers l)) alone.out_are, ap (times n) lost_is)) apart keeps in
    let p = paired low high key child step beside.0 alone.some in
    absurd (none_alone one_page old new low high left.below key child left.tree step c gone p beside.0 stands left.rooted left.less stays alone.cells alone.beside alone.cannot)

-- the leaf

pub cells_without : (key : ℤ) (rows : List Row) → other_cells key (map (λ r. r.cell) rows) ≡ map (λ r. r.cell) (without key rows)
cells_without key [] = refl
cells_without key (r ∷ more) =
    let inner = cells_without key more in
    by_le key (rowid r)
    (λ at. let a = le_is key (rowid r) at in
    by_le (rowid r) key
    (λ back. let b = le_is (rowid r) key back in cc)
    (λ above. let b = not_le_is (rowid r) key above in cc))
    (λ past. let a = not_le_is key (rowid r) past in cc)

none_left : (rows : List Row) → map (λ r. r.cell) rows ≡ [] → rows ≡ []
none_left [] none = refl
none_left (r ∷ more) none = absurd (omega (arith, ap (λ (l : List LeafCell). length l) none))

leaf_left : (old new : Pages) (usable : ℕ) (low high : ℤ) (page : ℕ) (key : ℤ) (rows : List Row) (cells : List LeafCell) (left : Left) (steps : List Beside)
    → AreRows old low high rows → low ≤ℤ high → Keeps old new (Among (chains_of (without key rows))) → cells ≡ map (λ r. r.cell) (without key rows)
    → IsLeafLeft page usable cells left → IsLeft new usable low high 1 key (Leaf page rows) left steps (chain_at key rows)
leaf_left old new usable low high page key rows cells Nothing steps are less keeps cells_are is =
    less_same new low high 1 key (Leaf page rows) Gone (page ∷ chain_at key rows) (chain_at key rows ++ page ∷ [])
    (λ n. omega (arith, times-append n (chain_at key rows) (page ∷ []), times-append n (page ∷ []) (chain_at key rows)))
    (leaf_less.goes new low high page key rows (none_left (without key rows) (sym cells_are ∙ is)))
leaf_left old new usable low high page key rows cells (Over c) steps are less keeps cells_are is = absurd is
leaf_left old new usable low high page key rows cells (Parts sheets) steps are less keeps cells_are is =
    let H : List LeafCell → Type 0 = λ l. HasCells new page (LeafPage l) in
    let f : Row → LeafCell = λ r. r.cell in
    let some : 1 ≤ length (without key rows) = omega (arith, is.0, ap (λ (l : List LeafCell). length l) cells_are, length-map (without key rows) f) in
    whole_left new usable low high 1 page key (Leaf page rows) (Leaf page (without key rows)) (LeafPage cells) sheets steps (chain_at key rows) (chain_at key rows) is.1
    (leaf_parts usable page cells sheets (inl is.1)) refl refl (λ n. refl)
    (λ has. leaf_less.stays old new low high page key rows are less some (subst H cells_are has) keeps)

-- a row of this rowid
abbrev pub row_at_key : ℤ → Row
row_at_key key = record { cell = record { payload_len = 0; rowid = key; local = []; overflow = 0 }; chain = []; payload = [] }

pub shrink_removes : OnePage → ShrinkRemoves
shrink_removes one_page old new roots before behind tree trunks key taken out lost above c all keeps =
    let row : Row = row_at_key key in
    let whole = whole_one old roots before behind tree c.whole.each_tree in
    let way = c.way in
    let rows : List Row = way.rows in
    let steps : List Beside = way.steps in
    let leaf : ℕ = c.leaf in
    let child : Tree = Leaf leaf rows in
    let held = held_from old whole.0 tree key c.levels leaf c.cells whole.1 way in
    let once : (n : ℕ) → times n (pages_of tree) ≤ 1 = tree_once old roots before behind tree trunks c.whole in
    let pages : (n : ℕ) → times n (pages_of tree) ≡ times n (leaf ∷ []) + times n (chains_of rows) + times n (around steps) =
    λ n. omega (arith, ap (λ t. times n (pages_of t)) way.is, way_pages n child steps) in
    let L : List Level → Type 0 = λ l. AreShrunk old leaf c.left l taken out lost above in
    let shrunk = subst L way.levels_are c.shrunk in
    let counts = shrunk_count old below_all greatest key child c.left steps taken out lost above way.beside shrunk in
    let apart : (n : ℕ) → times n (pages_of tree) + times n taken ≤ 1 = λ n. way_apart n leaf rows steps tree taken way.is (once n) c.fresh in
    let removed : (n : ℕ) → times n (chain_at key (rows_of tree)) ≡ times n (chain_at key rows) = λ n.
    ap (λ t. times n (chain_at key (rows_of t))) way.is ∙ chain_over n old row below_all greatest 1 child steps way.beside held.standing in
    let without_chain : (n : ℕ) → times n (chains_of (without key rows)) + times n (chain_at key rows) ≡ times n (chains_of rows) = λ n. without_count n row rows in
    let chains : Keeps old new (Among (chains_of (without key rows))) = keeps_less old new _ _ (λ n some.
    record {
      named = omega (arith, some, pages n, without_chain n);
      unwritten = λ written. omega (arith, some, written, counts n, apart n, pages n, without_chain n);
      unlost = λ gone. omega (arith, some, gone, counts n, apart n, pages n, without_chain n);
      unremoved = λ gone. omega (arith, some, gone, removed n, once n, pages n, without_chain n);
    }) keeps in
    let beside : Kept old new steps out lost = keeps_less old new _ _ (λ n q.
    record {
      named = omega (arith, q.0, pages n);
      unwritten = q.1;
      unlost = q.2;
      unremoved = λ gone. omega (arith, q.0, gone, removed n, once n, pages n, without_chain n);
    }) keeps in
    let low : ℤ = low_at below_all steps in
    let high : ℤ = high_at greatest steps in
    let made = shrink one_page old new key c.least c.left 1 child steps (chain_at key rows) taken out lost above way.beside held.standing held.shallow
    (few_at one_page old roots before behind tree trunks c.whole 1 child steps way.is held.standing held.shallow)
    (leaf_left old new old.usable low high leaf key rows (other_cells key c.cells) c.left steps held.rows_are (le_trans_ℤ low key high (lt_le_ℤ low key way.above) way.below) chains
    (ap (other_cells key) way.cells_are ∙ cells_without key rows) c.left_is)
    shrunk all beside (λ n. omega (arith, apart n, pages n)) in
    let G : Tree → Type 0 = λ t. IsOver new key t taken (chain_at key rows ++ lost) above in
    over_same new key tree taken (chain_at key rows ++ lost) (chain_at key (rows_of tree) ++ lost) above
    (λ n. omega (arith, times-append n (chain_at key rows) lost, times-append n (chain_at key (rows_of tree)) lost, removed n))
    (subst G (sym way.is) made)
