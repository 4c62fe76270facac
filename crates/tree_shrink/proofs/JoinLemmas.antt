-- Two pages side by side whose children become one list.
use Rattle.std.proofs.Common.{◌≡◌, ◌⊎◌, inl, inr, ℕ, suc, ◌+◌, ℤ, ◌<ℤ◌, ◌≤ℤ◌, List, [], ◌∷◌, ◌++◌, length, refl, sym, ap, ap₂, subst, ◌∙◌, arith, append-nil, length-append}
use Rattle.std.proofs.lemmas.List.{map-append, length-map}
use Rattle.page_list.specs.Pages.{Pages, times}
use Rattle.page_list.proofs.TimesLemmas.{times-append}
use Rattle.tree_page.specs.declared.cell.InnerCell.{InnerCell}
use Rattle.tree_page.specs.declared.cell.PageCells.{PageCells}
use Rattle.tree_model.specs.Tree.{Row, Tree, root_of, rows_of, pages_of}
use Rattle.tree_model.specs.Held.{HasCells}
use Rattle.tree_model.proofs.IntLemmas.{lt_trans_ℤ, le_trans_ℤ, lt_le_ℤ}
use Rattle.tree_run.specs.Node.{Piece, cell_of, cells_of, rows_in, pages_in, last_key}
use Rattle.tree_run.specs.Run.{IsChild, Run, IsRun, run_rows, run_pages, one, over, Behind, Nothing, Next, within, bound, behind_rows}
use Rattle.tree_run.specs.Edit.{without, Removes}
use Rattle.tree_run.proofs.RunLemmas.{child_strict, run_within, run_over, run_stays}
use Rattle.tree_run.proofs.EditLemmas.{edit_within}
use Rattle.page_cut.specs.declared.parts.Sheet.{Sheet}
use Rattle.tree_level.specs.Level.{numbers, up_cells, Has}
use Rattle.tree_level.proofs.PartLemmas.{inner_parts}
use Rattle.tree_level.proofs.StepLemmas.{right_within}
use Rattle.tree_shrink.specs.Rest.{Below}
use Rattle.tree_shrink.specs.Level.{Less}
use Rattle.tree_shrink.specs.Join.{pair_of, joined_run, LeftLess, RightLess, OnLeft, joined_lost, Pair, joined_cells, InnerJoins}
use Rattle.tree_shrink.proofs.RunLemmas.{run_replaced, joined, seam}

-- the children of both pages, as a run

record Children (new : Pages) (low high : ℤ) (depth : ℕ) (key : ℤ) (a : Tree) (k : ℤ) (b : Tree) (left right : Run) (gone : List ℕ) : Type 0 where
  is : IsRun new low high depth (joined_run left k right)
  rows : run_rows (joined_run left k right) ≡ without key (run_rows (pair_of a k b))
  named : (n : ℕ) → times n (run_pages (joined_run left k right)) + times n gone + times n (root_of a ∷ []) + times n (root_of b ∷ []) ≡ times n (run_pages (pair_of a k b))
  above : low <ℤ key
  below : key ≤ℤ high

pair_pages : (n : ℕ) (a : Tree) (k : ℤ) (b : Tree) → times n (run_pages (pair_of a k b)) ≡ times n (pages_of a) + times n (pages_of b)
pair_pages n a k b = omega (arith, times-append n (pages_of a ++ []) (pages_of b), times-append n (pages_of a) [])

left_less : (old new : Pages) (low high : ℤ) (depth : ℕ) (key : ℤ) (a : Tree) (k : ℤ) (b : Tree) (left right : Run) (gone : List ℕ)
    → IsRun old low high (suc depth) (pair_of a k b) → LeftLess old new low high depth key a k b left right gone → Children new low high depth key a k b left right gone
left_less old new low high depth key a k b left right gone is half =
    let C : Run → Type 0 = λ l. Children new low high depth key a k b l right gone in
    let T : Tree → Type 0 = IsChild old k high (suc depth) in
    let down = run_over.down old k high depth (root_of b) right (subst T half.right_is is.last_child) in
    subst C (sym half.left_is) (record {
      is = joined.is new low k high depth (one half.child) right (record { children = tt; last_child = half.less.is }) (run_stays old new k high depth right half.stays down.0);
      rows = joined.rows k (one half.child) right
          ∙ ap₂ (λ (xs ys : List Row). xs ++ ys) half.less.rows (sym (run_over.rows (root_of b) right) ∙ ap rows_of (sym half.right_is))
          ∙ edit_within old low high (suc depth) [] (one a) (Next k (one b)) (Removes key) is half.above half.below;
      named = λ n. omega (
        arith,
        joined.named n k (one half.child) right,
        half.less.named n,
        times-append n gone (root_of a ∷ []),
        run_over.named n (root_of b) right,
        ap (λ t. times n (pages_of t)) half.right_is,
        pair_pages n a k b,
      );
      above = half.above;
      below = le_trans_ℤ key k high half.below (lt_le_ℤ k high (child_strict old k high (suc depth) b is.last_child));
    })

right_less : (old new : Pages) (low high : ℤ) (depth : ℕ) (key : ℤ) (a : Tree) (k : ℤ) (b : Tree) (left right : Run) (gone : List ℕ)
    → IsRun old low high (suc depth) (pair_of a k b) → RightLess old new low high depth key a k b left right gone → Children new low high depth key a k b left right gone
right_less old new low high depth key a k b left right gone is half =
    let C : Run → Type 0 = λ r. Children new low high depth key a k b left r gone in
    let T : Tree → Type 0 = IsChild old low k (suc depth) in
    let down = run_over.down old low k depth (root_of a) left (subst T half.left_is is.children.0) in
    subst C (sym half.right_is) (record {
      is = joined.is new low k high depth left (one half.child) (run_stays old new low k depth left half.stays down.0) (record { children = tt; last_child = half.less.is });
      rows = joined.rows k left (one half.child)
          ∙ ap₂ (λ (xs ys : List Row). xs ++ ys)
          (sym (run_over.rows (root_of a) left) ∙ ap rows_of (sym half.left_is) ∙ sym (append-nil (rows_of a)))
          (half.less.rows ∙ sym (append-nil (without key (rows_of b))))
          ∙ edit_within old low high (suc depth) (record { tree = a; key = k } ∷ []) (one b) Nothing (Removes key) is half.above half.below;
      named = λ n. omega (
        arith,
        joined.named n k left (one half.child),
        half.less.named n,
        times-append n gone (root_of b ∷ []),
        run_over.named n (root_of a) left,
        ap (λ t. times n (pages_of t)) half.left_is,
        pair_pages n a k b,
      );
      above = lt_trans_ℤ low k key (child_strict old low k (suc depth) a is.children.0) half.above;
      below = half.below;
    })

one_less : (old new : Pages) (low high : ℤ) (depth : ℕ) (key : ℤ) (a : Tree) (k : ℤ) (b : Tree) (left right : Run) (gone : List ℕ) → IsRun old low high (suc depth) (pair_of a k b)
    → LeftLess old new low high depth key a k b left right gone ⊎ RightLess old new low high depth key a k b left right gone → Children new low high depth key a k b left right gone
one_less old new low high depth key a k b left right gone is (inl half) = left_less old new low high depth key a k b left right gone is half
one_less old new low high depth key a k b left right gone is (inr half) = right_less old new low high depth key a k b left right gone is half

-- their parts, on their pages, in place of the two

record Cut (new : Pages) (low high : ℤ) (depth : ℕ) (key : ℤ) (a : Tree) (k : ℤ) (b : Tree) (gone : List ℕ) (parts : List Sheet) : Type 0 where
  run : Run
  is : IsRun new low high (suc depth) run
  named_by : cells_of run.front ≡ up_cells parts
  top : root_of run.last ≡ root_of b
  rows : run_rows run ≡ without key (run_rows (pair_of a k b))
  named : (n : ℕ) → times n (run_pages run) + times n (gone ++ joined_lost (root_of a) parts) ≡ times n (run_pages (pair_of a k b))

lost : (n page : ℕ) (parts : List Sheet) → OnLeft page parts → times n (numbers parts) + times n (joined_lost page parts) ≡ times n (page ∷ [])
lost n page [] on = omega arith
lost n page (sheet ∷ more) on = omega (arith, ap (λ m. times n (m ∷ [])) on.0, ap (λ (l : List Sheet). times n (numbers l)) on.1)

children_of : (old new : Pages) (low high : ℤ) (depth : ℕ) (key : ℤ) (before : List Piece) (a : Tree) (k : ℤ) (b : Tree) (behind : Behind) (left right : Run) (gone : List ℕ)
    (parts : List Sheet) → Pair old new low high depth key before a k b behind left right gone parts
    → Children new (last_key low before) (bound high behind) depth key a k b left right gone
children_of old new low high depth key before a k b behind left right gone parts pair =
    let inside = (run_within.parts old low high (suc depth) before (pair_of a k b) behind).0 pair.is in
    one_less old new (last_key low before) (bound high behind) depth key a k b left right gone inside.1 pair.one_less

cut_of : (old new : Pages) (low high : ℤ) (depth : ℕ) (key : ℤ) (before : List Piece) (a : Tree) (k : ℤ) (b : Tree) (behind : Behind) (left right : Run) (gone : List ℕ)
    (parts : List Sheet) → Pair old new low high depth key before a k b behind left right gone parts
    → Cut new (last_key low before) (bound high behind) depth key a k b gone parts
cut_of old new low high depth key before a k b behind left right gone parts pair =
    let all : Run = joined_run left k right in
    let children = children_of old new low high depth key before a k b behind left right gone parts pair in
    let raised = inner_parts new (last_key low before) (bound high behind) depth (root_of b) (root_of all.last) parts pair.last all.front all.last (cells_of all.front) refl refl
    children.is pair.are pair.on in
    record {
      run = raised.run;
      is = raised.is;
      named_by = raised.named_by;
      top = raised.top;
      rows = raised.rows_are ∙ children.rows;
      named = λ n. omega (
        arith,
        raised.named_are n,
        children.named n,
        lost n (root_of a) parts pair.on_left,
        times-append n gone (joined_lost (root_of a) parts),
        times-append n (pages_in all.front) (pages_of all.last),
      );
    }

-- the cells of the page then

abbrev cells_behind : ℕ → Behind → List InnerCell
cells_behind child Nothing = []
cells_behind child (Next key rest) = record { child = child; rowid = key } ∷ cells_of rest.front

cells_around : (before : List Piece) (run : Run) (behind : Behind)
    → cells_of (within before run behind).front ≡ cells_of before ++ (cells_of run.front ++ cells_behind (root_of run.last) behind)
cells_around before run Nothing = map-append cell_of before run.front ∙ ap (λ (l : List InnerCell). cells_of before ++ l) (sym (append-nil (cells_of run.front)))
cells_around before run (Next key rest) =
    map-append cell_of before (run.front ++ record { tree = run.last; key = key } ∷ rest.front)
    ∙ ap (λ (l : List InnerCell). cells_of before ++ l) (map-append cell_of run.front (record { tree = run.last; key = key } ∷ rest.front))

cells_joined : (before : List Piece) (a : Tree) (k : ℤ) (b : Tree) (behind : Behind) (cells ups : List InnerCell) (right at : ℕ) → Has cells right (within before (pair_of a k b) behind)
    → at ≡ length before → cells_of before ++ (ups ++ cells_behind (root_of b) behind) ≡ joined_cells at ups cells
cells_joined before a k b behind cells ups right at has is =
    let rest : List InnerCell = cells_behind (root_of b) behind in
    let gone : InnerCell = record { child = root_of a; rowid = k } in
    let cut = seam (cells_of before) rest gone at (is ∙ sym (length-map before cell_of)) in
    ap₂ (λ (xs ys : List InnerCell). xs ++ (ups ++ ys)) (sym cut.0) (sym cut.1) ∙ ap (joined_cells at ups) (sym (cells_around before (pair_of a k b) behind) ∙ has.cells_are)

-- the page has no cell left: the children of the two are below the right one of them

inner_alone : (old new : Pages) (low high : ℤ) (depth root : ℕ) (key : ℤ) (before : List Piece) (a : Tree) (k : ℤ) (b : Tree) (behind : Behind) (lefts rights : Run) (gone : List ℕ)
    (parts : List Sheet) → Pair old new low high depth key before a k b behind lefts rights gone parts → cells_of before ++ (up_cells parts ++ cells_behind (root_of b) behind) ≡ []
    → Less new low high (suc (suc depth)) key (over root (within before (pair_of a k b) behind)) (Below (over (root_of b) (joined_run lefts k rights)))
    ((gone ++ root_of a ∷ []) ++ root ∷ [])
inner_alone old new low high depth root key [] a k b Nothing lefts rights gone [] pair none =
    let two : Run = pair_of a k b in
    let all : Run = joined_run lefts k rights in
    let children = children_of old new low high depth key [] a k b Nothing lefts rights gone [] pair in
    let P : PageCells → Type 0 = HasCells new (root_of b) in
    record {
      is = run_over.up new low high depth (root_of b) all children.is (subst P pair.are pair.on.last_has)
          (omega (arith, length-append lefts.front (record { tree = lefts.last; key = k } ∷ rights.front)));
      rows = run_over.rows (root_of b) all ∙ children.rows ∙ ap (without key) (sym (run_over.rows root two));
      named = λ n. omega (
        arith,
        children.named n,
        run_over.named n (root_of b) all,
        run_over.named n root two,
        times-append n (gone ++ root_of a ∷ []) (root ∷ []),
        times-append n gone (root_of a ∷ []),
      );
    }
inner_alone old new low high depth root key (p ∷ before) a k b behind lefts rights gone parts pair none = absurd (omega (arith, ap (λ (l : List InnerCell). length l) none))
inner_alone old new low high depth root key [] a k b behind lefts rights gone (sheet ∷ more) pair none = absurd (omega (arith, ap (λ (l : List InnerCell). length l) none))
inner_alone old new low high depth root key [] a k b (Next key' rest) lefts rights gone [] pair none = absurd (omega (arith, ap (λ (l : List InnerCell). length l) none))

pub inner_joins : InnerJoins
inner_joins = record {
  stands = λ old new low high depth root page right at key before a k b behind lefts rights cells gone parts front last pair has at_is keeps are on.
      let two : Run = pair_of a k b in
      let was : Run = within before two behind in
      let cut = cut_of old new low high depth key before a k b behind lefts rights gone parts pair in
      let children = children_of old new low high depth key before a k b behind lefts rights gone parts pair in
      let run : Run = cut.run in
      let mid : Run = within before run behind in
      let all : List InnerCell = joined_cells at (up_cells parts) cells in
      let same : cells_of mid.front ≡ all = cells_around before run behind
      ∙ ap₂ (λ (ups : List InnerCell) (m : ℕ). cells_of before ++ (ups ++ cells_behind m behind)) cut.named_by cut.top
      ∙ cells_joined before a k b behind cells (up_cells parts) right at has at_is in
      let right_is : root_of mid.last ≡ right = right_within before run b behind cut.top ∙ sym (right_within before two b behind refl) ∙ has.right_is in
      let raised = inner_parts new low high (suc depth) page right front last mid.front mid.last all same right_is
      (run_replaced old new low high (suc depth) before two run behind pair.is keeps cut.is) are on in
      record {
        run = raised.run;
        is = raised.is;
        named_by = raised.named_by;
        top = raised.top;
        rows = raised.rows_are ∙ run_within.rows before run behind
            ∙ ap (λ (l : List Row). rows_in before ++ (l ++ behind_rows behind)) cut.rows
            ∙ edit_within old low high (suc depth) before two behind (Removes key) pair.is children.above children.below
            ∙ ap (without key) (sym (run_over.rows root was));
        named = λ n. omega (
          arith,
          raised.named_are n,
          run_within.named n before run behind,
          run_within.named n before two behind,
          cut.named n,
          run_over.named n root was,
          ap (λ m. times n (m ∷ [])) (run_over.rooted root was),
          times-append n (pages_in mid.front) (pages_of mid.last),
        );
      };
  alone = λ old new low high depth root right at key before a k b behind lefts rights cells gone parts pair has at_is none.
      inner_alone old new low high depth root key before a k b behind lefts rights gone parts pair
      (cells_joined before a k b behind cells (up_cells parts) right at has at_is ∙ none);
}
