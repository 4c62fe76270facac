-- Where no cell comes up, the pages above stay, whatever is done to the rows.
use Rattle.std.proofs.Common.{◌≡◌, inl, inr, ℕ, suc, ◌+◌, ◌≤◌, ◌<◌, ℤ, List, [], ◌∷◌, ◌++◌, length, refl, sym, ap, ap₂, subst, ◌∙◌, arith}
use Rattle.std.proofs.lemmas.Bool.{cases_lt}
use Rattle.std.proofs.lemmas.List.{length-map}
use Rattle.page_list.specs.Pages.{Pages, times, Among}
use Rattle.page_list.proofs.TimesLemmas.{times-append, times-same}
use Rattle.tree_page.specs.declared.cell.InnerCell.{InnerCell}
use Rattle.tree_page.specs.declared.cell.PageCells.{PageCells}
use Rattle.tree_page.specs.declared.cell.PageCells.TheVariants.{Interior as InteriorPage}
use Rattle.tree_model.specs.Tree.{Tree, root_of, rows_of, pages_of}
use Rattle.tree_model.specs.Held.{HasCells}
use Rattle.tree_model.specs.Whole.{below_all, greatest, most_depth, IsWholeTree}
use Rattle.tree_model.specs.Laws.{Keeps}
use Rattle.tree_model.proofs.StayLemmas.{cells_stay}
use Rattle.tree_run.specs.Node.{Piece, cell_of, cells_of, pages_in, last_key}
use Rattle.tree_run.specs.Run.{Run, one, over, Behind, Nothing, Next, within, bound}
use Rattle.tree_run.specs.Edit.{Edit, key_of, edited}
use Rattle.tree_run.proofs.RunLemmas.{run_over}
use Rattle.tree_run.proofs.RootLemmas.{root_over}
use Rattle.tree_level.specs.Level.{Instead}
use Rattle.tree_level.proofs.StepLemmas.{inner_kept, root_stays}
use Rattle.tree_put.specs.Way.{Beside, with_child, tree_over, low_at, high_at, depth_over, around, IsBeside, AreBeside, Stands, AreStanding}
use Rattle.tree_put.proofs.CountLemmas.{beside_of, around_first}
use Rattle.tree_put.proofs.KeptLemmas.{no_pieces, keeps_less}

-- what stands at the root then
pub record Rooted (new : Pages) (root : ℕ) (edit : Edit) (was : Tree) (fresh gone : List ℕ) : Type 0 where
  pub tree : Tree
  pub whole : IsWholeTree new root tree
  pub rows : rows_of tree ≡ edited edit (rows_of was)
  pub named : (n : ℕ) → times n (pages_of tree) + times n gone ≡ times n (pages_of was) + times n fresh

-- the root keeps its page
pub root_kept : (new : Pages) (edit : Edit) (depth : ℕ) (child : Tree) (fresh gone : List ℕ) → depth ≤ most_depth
    → Instead new below_all greatest depth edit child [] (root_of child) fresh gone → Rooted new (root_of child) edit child fresh gone
root_kept new edit depth child fresh gone shallow instead =
    let stays = root_stays new depth (root_of child) edit child fresh gone instead shallow in
    let run : Run = instead.run in
    let none : pages_in run.front ≡ [] = ap pages_in (no_pieces run.front instead.named_by) in
    record {
      tree = run.last;
      whole = stays.0;
      rows = stays.1;
      named = λ n. omega (arith, instead.named n, times-append n (pages_in run.front) (pages_of run.last), ap (times n) none);
    }

-- page 1 over one tree
bare_root : (old new : Pages) (edit : Edit) (depth : ℕ) (child : Tree) (before : List Piece) (behind : Behind) (step : Beside) (fresh gone : List ℕ)
    → step.before ≡ before → step.behind ≡ behind → length (within before (one child) behind).front < 1 → length step.level.cells < 1 → step.level.number ≡ 1
    → root_of (within before (one child) behind).last ≡ step.level.right → suc depth ≤ most_depth
    → HasCells new step.level.number (InteriorPage step.level.cells step.level.right)
    → Instead new (last_key below_all step.before) (bound greatest step.behind) depth edit child [] (root_of child) fresh gone
    → Rooted new step.level.number edit (over step.level.number (within step.before (one child) step.behind)) fresh gone
bare_root old new edit depth child [] Nothing step fresh gone b h short none first right shallow has instead =
    let I : List Piece → Behind → Type 0 = λ xs ys. Instead new (last_key below_all xs) (bound greatest ys) depth edit child [] (root_of child) fresh gone in
    let R : List Piece → Behind → Type 0 = λ xs ys. Rooted new step.level.number edit (over step.level.number (within xs (one child) ys)) fresh gone in
    let there : I [] Nothing = subst (λ xs. I xs Nothing) b (subst (λ ys. I step.before ys) h instead) in
    let run : Run = there.run in
    let root : ℕ = step.level.number in
    let C : PageCells → Type 0 = λ c. HasCells new root c in
    let bare : step.level.cells ≡ [] = none_of step.level.cells none in
    let cells : InteriorPage step.level.cells step.level.right ≡ InteriorPage (cells_of run.front) (root_of run.last) =
    ap₂ InteriorPage (bare ∙ sym there.named_by) (sym right ∙ sym there.top) in
    let made : R [] Nothing = record {
      tree = over root run;
      whole = root_over new depth root run there.is (subst C cells has) (inr first) shallow;
      rows = run_over.rows root run ∙ there.rows;
      named = λ n. omega (arith, run_over.named n root run, there.named n);
    } in
    subst (λ xs. R xs step.behind) (sym b) (subst (λ ys. R [] ys) (sym h) made)
  where
    none_of : (cells : List InnerCell) → length cells < 1 → cells ≡ []
    none_of [] short = refl
    none_of (c ∷ more) short = absurd (omega (arith, short))
bare_root old new edit depth child [] (Next key rest) step fresh gone b h short none first right shallow has instead = absurd (omega (arith, short))
bare_root old new edit depth child (p ∷ before) behind step fresh gone b h short none first right shallow has instead = absurd (omega (arith, short))

-- one page up
kept_above : (old new : Pages) (edit : Edit) (low high : ℤ) (depth : ℕ) (child : Tree) (step : Beside) (fresh gone : List ℕ) → IsBeside low high (key_of edit) child step
    → Stands old low high depth child step → 1 ≤ length step.level.cells → Keeps old new (Among (step.level.number ∷ beside_of step))
    → Instead new (last_key low step.before) (bound high step.behind) depth edit child [] (root_of child) fresh gone
    → Instead new low high (suc depth) edit (with_child child step) [] (root_of (with_child child step)) (fresh ++ []) gone
kept_above old new edit low high depth child step fresh gone beside stands some keeps instead =
    let run : Run = within step.before (one child) step.behind in
    let P : ℕ → Type 0 = λ page. Instead new low high (suc depth) edit (with_child child step) [] page (fresh ++ []) gone in
    subst P (sym (run_over.rooted step.level.number run))
    (inner_kept old new low high depth step.level.number step.level.right edit step.before child step.behind step.level.cells fresh gone
    stands.is beside.has some stands.page beside.above beside.below instead keeps)

unpadded : (new : Pages) (root : ℕ) (edit : Edit) (was : Tree) (fresh gone : List ℕ) → Rooted new root edit was (fresh ++ []) gone → Rooted new root edit was fresh gone
unpadded new root edit was fresh gone rooted = record {
  tree = rooted.tree;
  whole = rooted.whole;
  rows = rooted.rows;
  named = λ n. omega (arith, rooted.named n, times-append n fresh []);
}

pub stay_up : (old new : Pages) (edit : Edit) (depth : ℕ) (child : Tree) (steps : List Beside) (fresh gone : List ℕ) → AreBeside below_all greatest (key_of edit) child steps
    → AreStanding old below_all greatest depth child steps → depth_over depth steps ≤ most_depth → Keeps old new (Among (around steps))
    → Instead new (low_at below_all steps) (high_at greatest steps) depth edit child [] (root_of child) fresh gone
    → Rooted new (root_of (tree_over child steps)) edit (tree_over child steps) fresh gone
stay_up old new edit depth child [] fresh gone beside standing shallow keeps instead = root_kept new edit depth child fresh gone shallow instead
stay_up old new edit depth child (step ∷ s ∷ more) fresh gone beside standing shallow keeps instead =
    let steps : List Beside = s ∷ more in
    let some : 1 ≤ length step.level.cells = elim standing.1 [ inl some ↦ some | inr top ↦ absurd (omega (arith, ap (λ (l : List Beside). length l) top.0)) ] in
    let up = kept_above old new edit (low_at below_all steps) (high_at greatest steps) depth child step fresh gone beside.0 standing.0 some
    (keeps_less old new _ _ (λ n q. omega (arith, around_first n step steps, q)) keeps) instead in
    unpadded new _ edit _ fresh gone
    (stay_up old new edit (suc depth) (with_child child step) (s ∷ more) (fresh ++ []) gone beside.1 standing.2 shallow
    (keeps_less old new _ _ (λ n q. omega (arith, around_first n step steps, q)) keeps) up)
stay_up old new edit depth child (step ∷ []) fresh gone beside standing shallow keeps instead =
    let run : Run = within step.before (one child) step.behind in
    let top : Keeps old new (Among (step.level.number ∷ beside_of step)) = keeps_less old new _ _ (λ n q. omega (arith, around_first n step [], q)) keeps in
    let R : ℕ → Type 0 = λ root. Rooted new root edit (with_child child step) fresh gone in
    elim (cases_lt 0 (length step.level.cells)) [
      | inl some ↦ unpadded new _ edit _ fresh gone
          (root_kept new edit (suc depth) (with_child child step) (fresh ++ []) gone shallow
          (kept_above old new edit below_all greatest depth child step fresh gone beside.0 standing.0 (omega (arith, some)) top instead))
      | inr none ↦ subst R (sym (run_over.rooted step.level.number run))
          (bare_root old new edit depth child step.before step.behind step fresh gone refl refl
          (omega (arith, none, ap (λ (l : List InnerCell). length l) beside.0.has.cells_are, length-map run.front cell_of))
          (omega (arith, none))
          (elim standing.1 [ inl some ↦ absurd (omega (arith, none, some)) | inr first ↦ first.1 ])
          beside.0.has.right_is shallow
          (cells_stay old new (Among (step.level.number ∷ beside_of step)) step.level.number _ top (omega (arith, times-same step.level.number)) standing.0.page)
          instead)
    ]
