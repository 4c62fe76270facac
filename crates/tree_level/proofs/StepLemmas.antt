-- One level, and the root.
use Rattle.std.proofs.Common.{◌≡◌, ◌⊎◌, ℕ, ◌≤◌, ℤ, List, [], ◌∷◌, ◌++◌, length, map, take, drop, refl, sym, ap, ap₂, subst, ◌∙◌, arith, append-nil}
use Rattle.std.proofs.lemmas.List.{map-append, length-map, take-append-drop}
use Rattle.std.proofs.Math.Seq.{take-append_seam, drop-append_seam}
use Rattle.page_list.specs.Pages.{Pages, times, Among}
use Rattle.page_list.proofs.TimesLemmas.{times-append, among-here, among-front, among-back}
use Rattle.tree_page.specs.declared.cell.InnerCell.{InnerCell}
use Rattle.tree_page.specs.declared.cell.PageCells.{PageCells}
use Rattle.tree_page.specs.declared.cell.PageCells.TheVariants.{Interior as InteriorPage}
use Rattle.tree_model.specs.Tree.{Row, Tree, Leaf, Child, Right, root_of, rows_of, pages_of, IsFilled, IsFilledRoot}
use Rattle.tree_model.specs.Held.{HasCells}
use Rattle.tree_model.specs.Whole.{below_all, greatest, most_depth, IsWholeTree}
use Rattle.tree_model.specs.Laws.{Keeps}
use Rattle.tree_model.proofs.StayLemmas.{cells_stay}
use Rattle.tree_page.specs.Page.{inner}
use Rattle.tree_run.specs.Node.{Piece, cells_of, rows_in, pages_in}
use Rattle.tree_run.specs.Run.{Run, IsRun, one, Behind, Nothing, Next, within, IsBehind, behind_rows, behind_pages}
use Rattle.tree_run.specs.Edit.{edited}
use Rattle.tree_run.proofs.RunLemmas.{run_within, run_over, children_stay, run_stays_where}
use Rattle.tree_run.proofs.EditLemmas.{edit_within}
use Rattle.tree_run.proofs.RootLemmas.{root_over}
use Rattle.tree_level.proofs.PartLemmas.{root_join}
use Rattle.tree_level.specs.Level.{numbers, LeafStep, with_ups, InnerStep, InnerKept, RootGrows, RootStays}
use Rattle.tree_level.proofs.PartLemmas.{leaf_parts, inner_parts}

pub leaf_step : LeafStep
leaf_step new low high root page edit was rows front last fresh gone are done chains parts on =
    let raised = leaf_parts new low high page front last rows (map (λ row. row.cell) rows) refl are parts on in
    record {
      run = raised.run;
      is = raised.is;
      named_by = raised.named_by;
      top = raised.top;
      rows = raised.rows_are ∙ done;
      named = λ n. omega (arith, raised.named_are n, chains n, times-append n fresh (numbers front));
    }

-- the cells of the longer run: those from below in front of the child that the path took

f : Piece → InnerCell
f piece = record { child = root_of piece.tree; rowid = piece.key }

cells_before : (before : List Piece) (rest : List InnerCell) (at : ℕ) (ups : List InnerCell) → at ≡ length before →
    with_ups at ups (cells_of before ++ rest) ≡ cells_of before ++ (ups ++ rest)
cells_before before rest at ups is =
    let C : List InnerCell = cells_of before in
    let e : at ≡ length C = is ∙ sym (length-map before (λ (piece : Piece). record { child = root_of piece.tree; rowid = piece.key })) in
    ap (λ k. take k (C ++ rest) ++ (ups ++ drop k (C ++ rest))) e
    ∙ ap₂ (λ (a b : List InnerCell). a ++ (ups ++ b)) (take-append_seam C rest) (drop-append_seam C rest)

pub cells_within : (before : List Piece) (run : Run) (child : Tree) (behind : Behind) (at : ℕ) → at ≡ length before → root_of run.last ≡ root_of child →
    cells_of (within before run behind).front ≡ with_ups at (cells_of run.front) (cells_of (within before (one child) behind).front)
cells_within before run child Nothing at is top =
    map-append _ before run.front
    ∙ ap (λ (l : List InnerCell). cells_of before ++ l) (sym (append-nil (cells_of run.front)))
    ∙ sym (cells_before before [] at (cells_of run.front) is)
    ∙ ap (with_ups at (cells_of run.front)) (sym (map-append _ before []))
cells_within before run child (Next key rest) at is top =
    let g : ℕ → List InnerCell = λ k. record { child = k; rowid = key } ∷ cells_of rest.front in
    map-append _ before (run.front ++ record { tree = run.last; key = key } ∷ rest.front)
    ∙ ap (λ (l : List InnerCell). cells_of before ++ l) (map-append _ run.front (record { tree = run.last; key = key } ∷ rest.front) ∙ ap (λ k. cells_of run.front ++ g k) top)
    ∙ sym (cells_before before (g (root_of child)) at (cells_of run.front) is)
    ∙ ap (with_ups at (cells_of run.front)) (sym (map-append _ before (record { tree = child; key = key } ∷ rest.front)))

pub right_within : (before : List Piece) (run : Run) (child : Tree) (behind : Behind) → root_of run.last ≡ root_of child → root_of (within before run behind).last ≡ root_of (within before (one child) behind).last
right_within before run child Nothing top = top
right_within before run child (Next key rest) top = refl

pub behind_stays : (old new : Pages) (kept : ℕ → Type 0) (high : ℤ) (depth : ℕ) (behind : Behind) → Keeps old new kept → ((n : ℕ) → Among (behind_pages behind) n → kept n) →
    IsBehind old high depth behind → IsBehind new high depth behind
behind_stays old new kept high depth Nothing keeps among is = tt
behind_stays old new kept high depth (Next key rest) keeps among is = run_stays_where old new kept key high depth rest keeps among is

pub inner_step : InnerStep
inner_step old new low high depth root page at right edit before child behind cells ups front last fresh gone is has at_is above less instead keeps parts on =
    let was : Run = within before (one child) behind in
    let old_parts = (run_within.parts old low high depth before (one child) behind).0 is in
    let kept : ℕ → Type 0 = Among (pages_in before ++ behind_pages behind) in
    let run : Run = instead.run in
    let mid : Run = within before run behind in
    let mid_is : IsRun new low high depth mid = (run_within.parts new low high depth before run behind).1 (
      children_stay old new kept low depth before keeps (λ n some. among-front n (pages_in before) (behind_pages behind) some) old_parts.0,
      instead.is,
      behind_stays old new kept high depth behind keeps (λ n some. among-back n (pages_in before) (behind_pages behind) some) old_parts.2,
    ) in
    let same : cells_of mid.front ≡ with_ups at ups cells =
    cells_within before run child behind at at_is instead.top ∙ ap₂ (with_ups at) instead.named_by has.cells_are in
    let raised = inner_parts new low high depth page right front last mid.front mid.last (with_ups at ups cells) same (right_within before run child behind instead.top ∙ has.right_is) mid_is parts on in
    record {
      run = raised.run;
      is = raised.is;
      named_by = raised.named_by;
      top = raised.top;
      rows = raised.rows_are ∙ run_within.rows before run behind
          ∙ ap (λ (l : List Row). rows_in before ++ (l ++ behind_rows behind)) instead.rows
          ∙ edit_within old low high depth before (one child) behind edit is above less
          ∙ ap (edited edit) (sym (run_over.rows root was));
      named = λ n. omega (
        arith,
        raised.named_are n,
        run_within.named n before run behind,
        run_within.named n before (one child) behind,
        instead.named n,
        run_over.named n root was,
        times-append n (pages_in mid.front) (pages_of mid.last),
        times-append n fresh (numbers front),
        ap (λ k. times n (k ∷ [])) (root_join was.front (Right root was.last)),
      );
    }

pub inner_kept : InnerKept
inner_kept old new low high depth root right edit before child behind cells fresh gone is has some page_has above less instead keeps =
    let C : PageCells = InteriorPage cells right in
    let inside : (n : ℕ) → Among (pages_in before ++ behind_pages behind) n → Among (root ∷ (pages_in before ++ behind_pages behind)) n =
    λ n h. among-back n (root ∷ []) (pages_in before ++ behind_pages behind) h in
    inner_step old new low high depth root root (length before) right edit before child behind cells [] [] C fresh gone is has refl above less instead
    (record { used = keeps.used; there = λ n h. keeps.there n (inside n h); same = λ n h. keeps.same n (inside n h) })
    (ap (λ (l : List InnerCell). InteriorPage l right) (sym (take-append-drop (length before) cells)))
    (record {
      some = tt;
      some_last = omega (arith, some, length-map cells inner);
      each = tt;
      last_has = cells_stay old new (Among (root ∷ (pages_in before ++ behind_pages behind))) root C keeps (among-here root (pages_in before ++ behind_pages behind)) page_has;
    })

pub root_grows : RootGrows
root_grows = record {
  whole = λ new depth root page edit was ups fresh gone instead has some shallow.
      let P : List InnerCell → Type 0 = λ l. HasCells new root (InteriorPage l page) in
      let Q : ℕ → Type 0 = λ k. HasCells new root (InteriorPage (cells_of instead.run.front) k) in
      let long = ap (λ (l : List InnerCell). length l) instead.named_by in
      let S : ℕ → Type 0 = λ k. (1 ≤ k) ⊎ (root ≡ 1) in (
        root_over new depth root instead.run instead.is (subst Q (sym instead.top) (subst P (sym instead.named_by) has))
            (subst S (sym long ∙ length-map instead.run.front _) some) shallow,
        run_over.rows root instead.run ∙ instead.rows,
      );
  named = λ new depth root page n edit was ups fresh gone instead is_root.
      omega (arith, run_over.named n root instead.run, instead.named n, ap (λ k. times n (k ∷ [])) is_root, times-append n fresh (page ∷ []));
}

pub as_root : (tree : Tree) → IsFilled 0 tree → IsFilledRoot tree
as_root (Leaf page rows) filled = tt
as_root (Child child key more) filled = filled
as_root (Right page child) filled = absurd (omega (arith, filled.0))

root_kept : (new : Pages) (depth root : ℕ) (front : List Piece) (last : Tree) → IsRun new below_all greatest depth (record { front = front; last = last }) → cells_of front ≡ [] → root_of last ≡ root →
    depth ≤ most_depth → IsWholeTree new root last × (rows_in front ++ rows_of last ≡ rows_of last)
root_kept new depth root [] last is none top shallow = (
  record {
    rooted = top;
    held = is.last_child.held;
    ordered = is.last_child.ordered;
    depth = depth;
    level = is.last_child.level;
    shallow = shallow;
    filled = as_root last is.last_child.filled;
  },
  refl,
)
root_kept new depth root (p ∷ more) last is none top shallow = absurd (omega (arith, ap (λ (l : List InnerCell). length l) none))

pub root_stays : RootStays
root_stays new depth root edit was fresh gone instead shallow =
    let kept = root_kept new depth root instead.run.front instead.run.last instead.is instead.named_by instead.top shallow in
    (kept.0, sym kept.1 ∙ instead.rows)
