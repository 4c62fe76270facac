-- What comes of a page when a row is taken out below it.
use Rattle.std.proofs.Common.{◌≡◌, ℕ, suc, ◌+◌, ℤ, List, [], ◌∷◌, ◌++◌, length, Option, Some, None, IfSome, refl, sym, ap, subst, ◌∙◌, arith}
use Rattle.std.proofs.lemmas.List.{length-map, take-append-drop}
use Rattle.page_list.specs.Pages.{Pages, times, Among}
use Rattle.page_list.proofs.TimesLemmas.{times-append, among-back, among-here}
use Rattle.tree_page.specs.declared.cell.InnerCell.{InnerCell}
use Rattle.tree_page.specs.declared.cell.PageCells.TheVariants.{Interior as InteriorPage}
use Rattle.tree_model.specs.Tree.{Row, Tree, root_of}
use Rattle.tree_model.specs.Held.{HasCells}
use Rattle.tree_model.specs.Laws.{Keeps, chains_of}
use Rattle.tree_model.proofs.StayLemmas.{cells_stay, rows_stay}
use Rattle.tree_run.specs.Node.{Piece, cell_of, cells_of, rows_in, pages_in}
use Rattle.tree_run.specs.Run.{Run, IsRun, run_rows, run_pages, one, over, Behind, Nothing, Next, within, behind_rows, behind_pages}
use Rattle.tree_run.specs.Edit.{chain_at, without, Removes}
use Rattle.tree_run.specs.Laws.{AreRows}
use Rattle.tree_run.proofs.RunLemmas.{run_within, run_over, run_stays_where}
use Rattle.tree_run.proofs.LeafLemmas.{leaf_over}
use Rattle.tree_run.proofs.EditLemmas.{edit_within}
use Rattle.tree_level.proofs.StepLemmas.{cells_within, right_within}
use Rattle.tree_shrink.specs.Rest.{Trees, left_of, cells_left, rest_over}
use Rattle.tree_shrink.specs.Level.{Less, LessInstead, LeafLess, InnerStays, lost_page, HasLeft, InnerLoses}
use Rattle.tree_shrink.proofs.RowLemmas.{row_taken_out}
use Rattle.tree_shrink.proofs.RunLemmas.{run_replaced, child_left_out}

pub less_instead : LessInstead
less_instead new low high depth key was tree gone less same = record {
  run = one tree;
  is = less.is;
  named_by = refl;
  top = same;
  rows = less.rows;
  named = λ n. omega (arith, less.named n);
}

pub leaf_less : LeafLess
leaf_less = record {
  stays = λ old new low high page key rows are less some has keeps.
      let taken : AreRows old low high (without key rows) = row_taken_out.are old low high key rows are less in
      let left : AreRows new low high (without key rows) = record {
        each = rows_stay old new (Among (chains_of (without key rows))) (without key rows) keeps (λ n among. among) taken.each;
        rises = taken.rises;
        most = taken.most;
      } in
      record {
        is = record { children = tt; last_child = leaf_over.up new low high page (without key rows) left has some };
        rows = refl;
        named = λ n. omega (arith, row_taken_out.chains n key rows, times-append n (page ∷ []) (chains_of rows), times-append n (page ∷ []) (chains_of (without key rows)));
      };
  goes = λ new low high page key rows none. record {
    is = tt;
    rows = sym none;
    named = λ n. omega (
      arith,
      row_taken_out.chains n key rows,
      ap (λ (l : List Row). times n (chains_of l)) none,
      times-append n (page ∷ []) (chains_of rows),
      times-append n (page ∷ []) (chain_at key rows),
    );
  };
}

-- a child that stays on its page: the cells of the page above are the same

same_cells : (before : List Piece) (child child' : Tree) (behind : Behind) (cells : List InnerCell) → root_of child' ≡ root_of child
    → cells_of (within before (one child) behind).front ≡ cells → cells_of (within before (one child') behind).front ≡ cells
same_cells before child child' behind cells top are =
    cells_within before (one child') child behind (length before) refl top ∙ take-append-drop (length before) (cells_of (within before (one child) behind).front) ∙ are

pub inner_stays : InnerStays
inner_stays old new low high depth page right key before child child' behind cells gone is has some page_has above below top less keeps =
    let was : Run = within before (one child) behind in
    let mid : Run = within before (one child') behind in
    let beside : List ℕ = pages_in before ++ behind_pages behind in
    let inside : (n : ℕ) → Among beside n → Among (page ∷ beside) n = λ n h. among-back n (page ∷ []) beside h in
    let keeps' : Keeps old new (Among beside) = record { used = keeps.used; there = λ n h. keeps.there n (inside n h); same = λ n h. keeps.same n (inside n h) } in
    let same : cells_of mid.front ≡ cells = same_cells before child child' behind cells top has.cells_are in
    let P : List InnerCell → Type 0 = λ l. HasCells new page (InteriorPage l (root_of mid.last)) in
    let Q : ℕ → Type 0 = λ k. HasCells new page (InteriorPage cells k) in
    let stays : HasCells new page (InteriorPage cells right) = cells_stay old new (Among (page ∷ beside)) page (InteriorPage cells right) keeps (among-here page beside) page_has in
    record {
      is = record {
        children = tt;
        last_child = run_over.up new low high depth page mid (run_replaced old new low high depth before (one child) (one child') behind is keeps' less.is)
            (subst P (sym same) (subst Q (sym (right_within before (one child') child behind top ∙ has.right_is)) stays))
            (omega (arith, some, length-map mid.front cell_of, ap (λ (l : List InnerCell). length l) same));
      };
      rows = run_over.rows page mid ∙ run_within.rows before (one child') behind
          ∙ ap (λ (l : List Row). rows_in before ++ (l ++ behind_rows behind)) less.rows
          ∙ edit_within old low high depth before (one child) behind (Removes key) is above below
          ∙ ap (without key) (sym (run_over.rows page was));
      named = λ n. omega (
        arith,
        run_over.named n page mid,
        run_over.named n page was,
        run_within.named n before (one child') behind,
        run_within.named n before (one child) behind,
        less.named n,
      );
    }

-- a child that is gone: what is left, by the run of the other children

abbrev rows_left : Option Run → List Row
rows_left None = []
rows_left (Some run) = run_rows run

abbrev pages_left : Option Run → List ℕ
pages_left None = []
pages_left (Some run) = run_pages run

record IsLeft (new : Pages) (low high : ℤ) (depth : ℕ) (key : ℤ) (was : Run) (gone : List ℕ) (left : Option Run) (cells : Option (List InnerCell × ℕ)) : Type 0 where
  is : IfSome left (IsRun new low high depth)
  has : IfSome left (λ run. cells ≡ Some (cells_of run.front, root_of run.last))
  rows : rows_left left ≡ without key (run_rows was)
  named : (n : ℕ) → times n (pages_left left) + times n gone ≡ times n (run_pages was)

over_left : (new : Pages) (low high : ℤ) (depth page : ℕ) (key : ℤ) (was : Run) (gone : List ℕ) (front : List Piece) (last : Tree) (cells : Option (List InnerCell × ℕ))
    → IsLeft new low high depth key was gone (Some (record { front = front; last = last })) cells
    → HasLeft new page (rest_over (over page) (Some (record { front = front; last = last }))) cells
    → Less new low high (suc depth) key (over page was) (rest_over (over page) (Some (record { front = front; last = last })))
    (gone ++ lost_page page (rest_over (over page) (Some (record { front = front; last = last }))))
over_left new low high depth page key was gone [] last cells left has = record {
  is = left.is.last_child;
  rows = left.rows ∙ ap (without key) (sym (run_over.rows page was));
  named = λ n. omega (arith, left.named n, run_over.named n page was, times-append n gone (page ∷ []));
}
over_left new low high depth page key was gone (p ∷ more) last cells left has =
    let run : Run = record { front = p ∷ more; last = last } in
    let P : Option (List InnerCell × ℕ) → Type 0 = HasLeft new page (Trees (one (over page run))) in
    record {
      is = record { children = tt; last_child = run_over.up new low high depth page run left.is (subst P left.has has) (omega arith) };
      rows = run_over.rows page run ∙ left.rows ∙ ap (without key) (sym (run_over.rows page was));
      named = λ n. omega (arith, left.named n, run_over.named n page run, run_over.named n page was, times-append n gone []);
    }

loses : (new : Pages) (low high : ℤ) (depth page : ℕ) (key : ℤ) (was : Run) (gone : List ℕ) (left : Option Run) (cells : Option (List InnerCell × ℕ))
    → IsLeft new low high depth key was gone left cells → HasLeft new page (rest_over (over page) left) cells
    → Less new low high (suc depth) key (over page was) (rest_over (over page) left) (gone ++ lost_page page (rest_over (over page) left))
loses new low high depth page key was gone None cells left has = record {
  is = tt;
  rows = left.rows ∙ ap (without key) (sym (run_over.rows page was));
  named = λ n. omega (arith, left.named n, run_over.named n page was, times-append n gone (page ∷ []));
}
loses new low high depth page key was gone (Some run) cells left has = over_left new low high depth page key was gone run.front run.last cells left has

-- the others are a run on the new pages too

others_rows : (before : List Piece) (behind : Behind) → rows_left (left_of before behind) ≡ rows_in before ++ behind_rows behind
others_rows before (Next key rest) = child_left_out.rows before (Next key rest)
others_rows [] Nothing = refl
others_rows (p ∷ more) Nothing = child_left_out.rows (p ∷ more) Nothing

others_named : (n : ℕ) (before : List Piece) (behind : Behind) → times n (pages_left (left_of before behind)) ≡ times n (pages_in before) + times n (behind_pages behind)
others_named n before (Next key rest) = child_left_out.named n before (Next key rest)
others_named n [] Nothing = omega arith
others_named n (p ∷ more) Nothing = child_left_out.named n (p ∷ more) Nothing

left_stays : (old new : Pages) (kept : ℕ → Type 0) (low high : ℤ) (depth : ℕ) (left : Option Run) → Keeps old new kept → ((n : ℕ) → Among (pages_left left) n → kept n)
    → IfSome left (IsRun old low high depth) → IfSome left (IsRun new low high depth)
left_stays old new kept low high depth None keeps among is = tt
left_stays old new kept low high depth (Some run) keeps among is = run_stays_where old new kept low high depth run keeps among is

pub inner_loses : InnerLoses
inner_loses old new low high depth page right at key before child behind cells gone is has at_is above below less keeps left_has =
    let was : Run = within before (one child) behind in
    let beside : List ℕ = pages_in before ++ behind_pages behind in
    let left : Option Run = left_of before behind in
    loses new low high depth page key was gone left (cells_left at cells right)
    (record {
      is = left_stays old new (Among beside) low high depth left keeps
          (λ n some. omega (arith, some, others_named n before behind, times-append n (pages_in before) (behind_pages behind)))
          (child_left_out.is old low high depth before child behind is);
      has = (child_left_out.cells before child behind cells right at has at_is).1;
      rows = others_rows before behind
          ∙ ap (λ (l : List Row). rows_in before ++ (l ++ behind_rows behind)) less.rows
          ∙ edit_within old low high depth before (one child) behind (Removes key) is above below;
      named = λ n. omega (arith, others_named n before behind, run_within.named n before (one child) behind, less.named n);
    })
    left_has
