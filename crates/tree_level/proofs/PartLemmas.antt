-- The parts of a page, on their pages, as trees.
use Rattle.std.proofs.Common.{◌≡◌, ℕ, suc, ◌+◌, ◌≤◌, ℤ, List, [], ◌∷◌, ◌++◌, length, map, refl, sym, ap, ap₂, subst, ◌∙◌, arith, append_assoc}
use Rattle.std.proofs.lemmas.List.{length-map}
use Rattle.page_list.specs.Pages.{Pages, times}
use Rattle.page_list.proofs.TimesLemmas.{times-append}
use Rattle.tree_page.specs.declared.cell.LeafCell.{LeafCell}
use Rattle.tree_page.specs.declared.cell.InnerCell.{InnerCell}
use Rattle.tree_page.specs.declared.cell.PageCells.{PageCells}
use Rattle.tree_page.specs.declared.cell.PageCells.TheVariants.{Leaf as LeafPage, Interior as InteriorPage}
use Rattle.tree_page.specs.Page.{leaf, inner, cells_of as page_cells}
use Rattle.tree_model.specs.Tree.{Row, Tree, Leaf, Right, rowid, root_of, rows_of, pages_of}
use Rattle.tree_model.specs.Held.{HasCells}
use Rattle.tree_model.specs.Laws.{chains_of}
use Rattle.tree_run.specs.Node.{Piece, join, cells_of, rows_in, pages_in}
use Rattle.std.proofs.lemmas.Grind.{flat_map-append}
use Rattle.tree_run.specs.Run.{Run, IsRun, run_rows, run_pages, one, over, Next}
use Rattle.tree_run.specs.Laws.{AreRows, last_rowid}
use Rattle.tree_run.proofs.RunLemmas.{run_within, run_over}
use Rattle.tree_run.proofs.LeafLemmas.{leaf_over}
use Rattle.page_cut.specs.declared.parts.Sheet.{Sheet}
use Rattle.page_cut.specs.Cut.{last_id, AreLeafParts, AreInnerParts}
use Rattle.tree_level.specs.Level.{numbers, up_cells, AreOnPages}

pub root_join : (pieces : List Piece) (rest : Tree) → root_of (join pieces rest) ≡ root_of rest
root_join [] rest = refl
root_join (piece ∷ more) rest = root_join more rest

-- the parts as a run
pub record Raised (new : Pages) (low high : ℤ) (depth : ℕ) (front : List Sheet) (page : ℕ) (rows : List Row) (named : ℕ → ℕ) : Type 0 where
  pub run : Run
  pub is : IsRun new low high depth run
  pub named_by : cells_of run.front ≡ up_cells front
  pub top : root_of run.last ≡ page
  pub rows_are : run_rows run ≡ rows
  pub named_are : (n : ℕ) → times n (run_pages run) ≡ named n + times n (numbers front) + times n (page ∷ [])

-- a list whose images are two lists, one behind the other, is two lists
pub record Split {A B : Type 0} (f : A → B) (xs : List A) (ys zs : List B) : Type 0 where
  pub first : List A
  pub second : List A
  pub joined : xs ≡ first ++ second
  pub first_is : map f first ≡ ys
  pub second_is : map f second ≡ zs

pub split : {A B : Type 0} (f : A → B) (xs : List A) (ys zs : List B) → map f xs ≡ ys ++ zs → Split f xs ys zs
split f xs [] zs same = record { first = []; second = xs; joined = refl; first_is = refl; second_is = same }
split f [] (y ∷ ys) zs same = absurd (let long = ap (λ l. length l) same in omega (arith, long))
split f (x ∷ xs) (y ∷ ys) zs same =
    let rest : map f xs ≡ ys ++ zs = cc in
    let head : f x ≡ y = cc in
    let inner = split f xs ys zs rest in
    record { first = x ∷ inner.first; second = inner.second; joined = ap (λ l. x ∷ l) inner.joined; first_is = ap₂ (λ a l. a ∷ l) head inner.first_is; second_is = inner.second_is }

some_of : {A B : Type 0} (f : A → B) (xs : List A) (ys : List B) → map f xs ≡ ys → 1 ≤ length ys → 1 ≤ length xs
some_of f [] ys same some = omega (arith, ap (λ l. length l) same, some)
some_of f (x ∷ xs) ys same some = omega arith

-- leaves

rowids : (low : ℤ) (rows : List Row) → last_id low (map (λ row. row.cell) rows) ≡ last_rowid low rows
rowids low [] = refl
rowids low (row ∷ more) = rowids (rowid row) more

chains_split : (n : ℕ) (xs ys : List Row) → times n (chains_of (xs ++ ys)) ≡ times n (chains_of xs) + times n (chains_of ys)
chains_split n xs ys = ap (times n) (flat_map-append (λ (row : Row). row.chain) xs ys) ∙ times-append n (chains_of xs) (chains_of ys)

pub leaf_parts : (new : Pages) (low high : ℤ) (page : ℕ) (front : List Sheet) (last : PageCells) (rows : List Row) (cells : List LeafCell) →
    map (λ row. row.cell) rows ≡ cells → AreRows new low high rows → AreLeafParts front last cells → AreOnPages new front page last →
    Raised new low high 1 front page rows (λ n. times n (chains_of rows))
leaf_parts new low high page [] last rows cells same are parts on =
    let P : PageCells → Type 0 = λ c. HasCells new page c in
    let Q : PageCells → Type 0 = λ c. 1 ≤ length (page_cells c) in
    let some : 1 ≤ length cells = omega (arith, subst Q parts on.some_last, length-map cells leaf) in
    record {
      run = one (Leaf page rows);
      is = record { children = tt; last_child = leaf_over.up new low high page rows are (subst P (parts ∙ ap LeafPage (sym same)) on.last_has) (some_of (λ (row : Row). row.cell) rows cells same some) };
      named_by = refl;
      top = refl;
      rows_are = refl;
      named_are = λ n. omega arith;
    }
leaf_parts new low high page (sheet ∷ more) last rows cells same are parts on =
    let head = parts.1 in
    let cut = split (λ (row : Row). row.cell) rows head.part parts.0 (same ∙ head.joined) in
    let key : last_rowid low cut.first ≡ sheet.key = sym (rowids low cut.first) ∙ ap (last_id low) cut.first_is ∙ head.keyed low in
    let A : List Row → Type 0 = AreRows new low high in
    let B : ℤ → Type 0 = λ k. AreRows new low k cut.first × AreRows new k high cut.second in
    let P : PageCells → Type 0 = λ c. HasCells new sheet.number c in
    let Q : PageCells → Type 0 = λ c. 1 ≤ length (page_cells c) in
    let both = subst B key (leaf_over.cut new low high cut.first cut.second (subst A cut.joined are)) in
    let some : 1 ≤ length head.part = omega (arith, subst Q head.is on.some.0, length-map head.part leaf) in
    let inner = leaf_parts new sheet.key high page more last cut.second parts.0 cut.second_is both.1 parts.2
    (record { some = on.some.1; some_last = on.some_last; each = on.each.1; last_has = on.last_has }) in
    let child = leaf_over.up new low sheet.key sheet.number cut.first both.0 (subst P (head.is ∙ ap LeafPage (sym cut.first_is)) on.each.0)
    (some_of (λ (row : Row). row.cell) cut.first head.part cut.first_is some) in
    let piece : Piece = record { tree = Leaf sheet.number cut.first; key = sheet.key } in
    record {
      run = record { front = piece ∷ inner.run.front; last = inner.run.last };
      is = record { children = (child, inner.is.children); last_child = inner.is.last_child };
      named_by = ap (λ (l : List InnerCell). record { child = sheet.number; rowid = sheet.key } ∷ l) inner.named_by;
      top = inner.top;
      rows_are = append_assoc cut.first (rows_in inner.run.front) (rows_of inner.run.last) ∙ ap (λ (l : List Row). cut.first ++ l) inner.rows_are ∙ sym cut.joined;
      named_are = λ n. omega (
        arith,
        inner.named_are n,
        chains_split n cut.first cut.second,
        ap (λ l. times n (chains_of l)) cut.joined,
        times-append n (sheet.number ∷ chains_of cut.first ++ pages_in inner.run.front) (pages_of inner.run.last),
        times-append n (chains_of cut.first) (pages_in inner.run.front),
        times-append n (pages_in inner.run.front) (pages_of inner.run.last),
      );
    }

-- interior pages

cell_of : Piece → InnerCell
cell_of piece = record { child = root_of piece.tree; rowid = piece.key }

-- the child whose cell goes up
pub record AtCell (pieces : List Piece) (cell : InnerCell) (rest : List InnerCell) : Type 0 where
  pub cut : Piece
  pub more : List Piece
  pub is : pieces ≡ cut ∷ more
  pub child_is : root_of cut.tree ≡ cell.child
  pub key_is : cut.key ≡ cell.rowid
  pub rest_is : cells_of more ≡ rest

at_cell : (pieces : List Piece) (cell : InnerCell) (rest : List InnerCell) → cells_of pieces ≡ cell ∷ rest → AtCell pieces cell rest
at_cell [] cell rest same = absurd (omega (arith, ap (λ (l : List InnerCell). length l) same))
at_cell (p ∷ more) cell rest same =
    let head : record { child = root_of p.tree; rowid = p.key } ≡ cell = cc in
    record { cut = p; more = more; is = refl; child_is = ap (λ (c : InnerCell). c.child) head; key_is = ap (λ (c : InnerCell). c.rowid) head; rest_is = cc }

pub inner_parts : (new : Pages) (low high : ℤ) (depth page right : ℕ) (front : List Sheet) (last : PageCells) (pieces : List Piece) (tree : Tree) (cells : List InnerCell) →
    cells_of pieces ≡ cells → root_of tree ≡ right → IsRun new low high depth (record { front = pieces; last = tree }) → AreInnerParts front last cells right → AreOnPages new front page last →
    Raised new low high (suc depth) front page (rows_in pieces ++ rows_of tree) (λ n. times n (pages_in pieces) + times n (pages_of tree))
inner_parts new low high depth page right [] last pieces tree cells same top is parts on =
    let run : Run = record { front = pieces; last = tree } in
    let P : PageCells → Type 0 = λ c. HasCells new page c in
    let Q : PageCells → Type 0 = λ c. 1 ≤ length (page_cells c) in
    let some : 1 ≤ length cells = omega (arith, subst Q parts on.some_last, length-map cells inner) in
    record {
      run = one (over page run);
      is = record {
        children = tt;
        last_child = run_over.up new low high depth page run is
            (subst P (parts ∙ ap₂ InteriorPage (sym same) (sym top)) on.last_has) (some_of (λ (piece : Piece). record { child = root_of piece.tree; rowid = piece.key }) pieces cells same some);
      };
      named_by = refl;
      top = root_join pieces (Right page tree);
      rows_are = run_over.rows page run;
      named_are = λ n. omega (arith, run_over.named n page run, times-append n (pages_in pieces) (pages_of tree));
    }
inner_parts new low high depth page right (sheet ∷ more) last pieces tree cells same top is parts on =
    let head = parts.1 in
    let up : InnerCell = record { child = head.child; rowid = sheet.key } in
    let halves = split (λ (piece : Piece). record { child = root_of piece.tree; rowid = piece.key }) pieces head.part (up ∷ parts.0) (same ∙ head.joined) in
    let at = at_cell halves.second up parts.0 halves.second_is in
    let xs : List Piece = halves.first in
    let ys : List Piece = at.more in
    let whole : pieces ≡ xs ++ (at.cut ∷ ys) = halves.joined ∙ ap (λ (l : List Piece). xs ++ l) at.is in
    let R : List Piece → Type 0 = λ l. IsRun new low high depth (record { front = l; last = tree }) in
    let rest : Run = record { front = ys; last = tree } in
    let cut_off = (run_within.parts new low high depth xs (one at.cut.tree) (Next at.cut.key rest)).0 (subst R whole is) in
    let first : Run = record { front = xs; last = at.cut.tree } in
    let K : ℤ → Type 0 = λ k. IsRun new low k depth first × IsRun new k high depth rest in
    let both = subst K at.key_is (record { children = cut_off.0; last_child = cut_off.1.last_child }, cut_off.2) in
    let P : PageCells → Type 0 = λ c. HasCells new sheet.number c in
    let Q : PageCells → Type 0 = λ c. 1 ≤ length (page_cells c) in
    let some : 1 ≤ length head.part = omega (arith, subst Q head.is on.some.0, length-map head.part inner) in
    let child = run_over.up new low sheet.key depth sheet.number first both.0
    (subst P (head.is ∙ ap₂ InteriorPage (sym halves.first_is) (sym at.child_is)) on.each.0)
    (some_of (λ (piece : Piece). record { child = root_of piece.tree; rowid = piece.key }) xs head.part halves.first_is some) in
    let deeper = inner_parts new sheet.key high depth page right more last ys tree parts.0 at.rest_is top both.1 parts.2
    (record { some = on.some.1; some_last = on.some_last; each = on.each.1; last_has = on.last_has }) in
    let piece : Piece = record { tree = over sheet.number first; key = sheet.key } in
    let inside : Run = deeper.run in
    record {
      run = record { front = piece ∷ inside.front; last = inside.last };
      is = record { children = (child, deeper.is.children); last_child = deeper.is.last_child };
      named_by = ap₂ (λ (k : ℕ) (l : List InnerCell). record { child = k; rowid = sheet.key } ∷ l) (root_join xs (Right sheet.number at.cut.tree)) deeper.named_by;
      top = deeper.top;
      rows_are =
          append_assoc (rows_of (over sheet.number first)) (rows_in inside.front) (rows_of inside.last)
          ∙ ap₂ (λ (k l : List Row). k ++ l) (run_over.rows sheet.number first) deeper.rows_are
          ∙ append_assoc (rows_in xs) (rows_of at.cut.tree) (run_rows rest)
          ∙ sym (run_within.rows xs (one at.cut.tree) (Next at.cut.key rest))
          ∙ ap (λ (l : List Piece). rows_in l ++ rows_of tree) (sym whole);
      named_are = λ n. omega (
        arith,
        deeper.named_are n,
        run_over.named n sheet.number first,
        run_within.named n xs (one at.cut.tree) (Next at.cut.key rest),
        ap (λ (l : List Piece). times n (pages_in l)) whole,
        times-append n (pages_in (xs ++ (at.cut ∷ ys))) (pages_of tree),
        times-append n (pages_in xs) (pages_of at.cut.tree),
        times-append n (pages_in ys) (pages_of tree),
        times-append n (pages_in (piece ∷ inside.front)) (pages_of inside.last),
        times-append n (pages_of (over sheet.number first)) (pages_in inside.front),
        times-append n (pages_in inside.front) (pages_of inside.last),
      );
    }
