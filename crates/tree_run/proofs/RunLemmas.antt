-- Runs: within longer ones, and under an interior page.
use Rattle.std.proofs.Common.{◌≡◌, ℕ, suc, ◌+◌, ◌≤◌, ℤ, ◌<ℤ◌, List, [], ◌∷◌, ◌++◌, length, refl, sym, ap, subst, ◌∙◌, arith, append_assoc, append-nil}
use Rattle.std.specs.List.{flat_map}
use Rattle.std.proofs.lemmas.Grind.{flat_map-append}
use Rattle.page_list.specs.Pages.{Pages, times, Among}
use Rattle.page_list.proofs.TimesLemmas.{times-append, among-front, among-back}
use Rattle.tree_page.specs.declared.cell.InnerCell.{InnerCell}
use Rattle.tree_page.specs.declared.cell.PageCells.TheVariants.{Interior as InteriorPage}
use Rattle.tree_model.specs.Tree.{Row, Tree, Leaf, Child, Right, root_of, rows_of, pages_of, Within, IsOrdered, HasDepth, IsFilled}
use Rattle.tree_model.specs.Held.{HasCells, HoldsBehind}
use Rattle.tree_model.specs.Laws.{Keeps}
use Rattle.tree_model.proofs.IntLemmas.{lt_trans_ℤ, lt_le_ℤ}
use Rattle.tree_model.proofs.StayLemmas.{tree_behind_stays}
use Rattle.tree_run.specs.Node.{Piece, join, cell_of, cells_of, rows_in, pages_in, last_key}
use Rattle.tree_run.specs.Run.{IsChild, AreChildren, Run, IsRun, run_pages, one, over, Behind, Nothing, Next, with_behind, within, bound, IsBehind, behind_pages}
use Rattle.tree_run.specs.Laws.{Strict, RunWithin, RunStays, HasRun, RunOver}

-- bounds are apart

filled_strict : (low high : ℤ) (cells : ℕ) (tree : Tree) → IsOrdered low high tree → IsFilled cells tree → low <ℤ high
filled_strict low high cells (Leaf page []) ordered filled = absurd (omega (arith, filled))
filled_strict low high cells (Leaf page (row ∷ more)) ordered filled = let a = ordered.0.0 in let b = ordered.0.1 in grind (arith, a, b)
filled_strict low high cells (Child child key more) ordered filled = let a = ordered.0.0 in let b = ordered.0.1 in grind (arith, a, b)
filled_strict low high cells (Right page child) ordered filled = filled_strict low high 0 child ordered filled.1

pub child_strict : (pages : Pages) (low high : ℤ) (depth : ℕ) (tree : Tree) → IsChild pages low high depth tree → low <ℤ high
child_strict pages low high depth tree is = filled_strict low high 0 tree is.ordered is.filled

run_strict : (pages : Pages) (low high : ℤ) (depth : ℕ) (front : List Piece) (last : Tree) → AreChildren pages low depth front
    → IsChild pages (last_key low front) high depth last → low <ℤ high
run_strict pages low high depth [] last are is = child_strict pages low high depth last is
run_strict pages low high depth (p ∷ more) last are is =
    lt_trans_ℤ low p.key high (child_strict pages low p.key depth p.tree are.0) (run_strict pages p.key high depth more last are.1 is)

pub strict : Strict
strict pages low high depth run is = run_strict pages low high depth run.front run.last is.children is.last_child

-- lists of children one behind the other

last_append : (low : ℤ) (xs ys : List Piece) → last_key low (xs ++ ys) ≡ last_key (last_key low xs) ys
last_append low [] ys = refl
last_append low (x ∷ xs) ys = last_append x.key xs ys

children_append : (pages : Pages) (low : ℤ) (depth : ℕ) (xs ys : List Piece) → AreChildren pages low depth (xs ++ ys)
    → AreChildren pages low depth xs × AreChildren pages (last_key low xs) depth ys
children_append pages low depth [] ys h = (tt, h)
children_append pages low depth (x ∷ xs) ys h = let inner = children_append pages x.key depth xs ys h.1 in ((h.0, inner.0), inner.1)

append_children : (pages : Pages) (low : ℤ) (depth : ℕ) (xs ys : List Piece) → AreChildren pages low depth xs
    → AreChildren pages (last_key low xs) depth ys → AreChildren pages low depth (xs ++ ys)
append_children pages low depth [] ys a b = b
append_children pages low depth (x ∷ xs) ys a b = (a.0, append_children pages x.key depth xs ys a.1 b)

-- a run with children in front of it

cut_front : (pages : Pages) (low high : ℤ) (depth : ℕ) (before : List Piece) (run : Run) → IsRun pages low high depth (within before run Nothing)
    → AreChildren pages low depth before × IsRun pages (last_key low before) high depth run
cut_front pages low high depth before run is =
    let parts = children_append pages low depth before run.front is.children in
    let P : ℤ → Type 0 = λ k. IsChild pages k high depth run.last in
    (parts.0, record { children = parts.1; last_child = subst P (last_append low before run.front) is.last_child })

with_front : (pages : Pages) (low high : ℤ) (depth : ℕ) (before : List Piece) (run : Run) → AreChildren pages low depth before
    → IsRun pages (last_key low before) high depth run → IsRun pages low high depth (within before run Nothing)
with_front pages low high depth before run are is =
    let P : ℤ → Type 0 = λ k. IsChild pages k high depth run.last in
    record { children = append_children pages low depth before run.front are is.children; last_child = subst P (sym (last_append low before run.front)) is.last_child }

-- and with a key and others behind it, which the last tree and these are

abbrev from_last : Tree → ℤ → Run → Run
from_last tree key rest = record { front = record { tree = tree; key = key } ∷ rest.front; last = rest.last }

cut_behind : (pages : Pages) (low high : ℤ) (depth : ℕ) (run : Run) (behind : Behind) → IsRun pages low high depth (with_behind run behind)
    → IsRun pages low (bound high behind) depth run × IsBehind pages high depth behind
cut_behind pages low high depth run Nothing is = (is, tt)
cut_behind pages low high depth run (Next key rest) is =
    let parts = cut_front pages low high depth run.front (from_last run.last key rest) is in
    let tail = parts.1.children in
    (record { children = parts.0; last_child = tail.0 }, record { children = tail.1; last_child = parts.1.last_child })

join_behind : (pages : Pages) (low high : ℤ) (depth : ℕ) (run : Run) (behind : Behind) → IsRun pages low (bound high behind) depth run → IsBehind pages high depth behind
    → IsRun pages low high depth (with_behind run behind)
join_behind pages low high depth run Nothing is tail = is
join_behind pages low high depth run (Next key rest) is tail =
    with_front pages low high depth run.front (from_last run.last key rest) is.children (record { children = (is.last_child, tail.children); last_child = tail.last_child })

-- the rows or the pages of a run, and those of a longer one

abbrev flat : {A : Type 0} → (Tree → List A) → List Piece → Tree → List A
flat f front last = flat_map (λ piece. f piece.tree) front ++ f last

abbrev flat_behind : {A : Type 0} → (Tree → List A) → Behind → List A
flat_behind f Nothing = []
flat_behind f (Next key rest) = flat f rest.front rest.last

flat_front : {A : Type 0} (f : Tree → List A) (before front : List Piece) (last : Tree)
    → flat f (before ++ front) last ≡ flat_map (λ piece. f piece.tree) before ++ flat f front last
flat_front f before front last =
    let g : Piece → List _ = λ piece. f piece.tree in
    ap (λ l. l ++ f last) (flat_map-append g before front) ∙ append_assoc (flat_map g before) (flat_map g front) (f last)

flat_with : {A : Type 0} (f : Tree → List A) (run : Run) (behind : Behind)
    → flat f (with_behind run behind).front (with_behind run behind).last ≡ flat f run.front run.last ++ flat_behind f behind
flat_with f run Nothing = sym (append-nil (flat f run.front run.last))
flat_with f run (Next key rest) =
    let g : Piece → List _ = λ piece. f piece.tree in
    flat_front f run.front (record { tree = run.last; key = key } ∷ rest.front) rest.last
    ∙ ap (λ l. flat_map g run.front ++ l) (append_assoc (f run.last) (flat_map g rest.front) (f rest.last))
    ∙ sym (append_assoc (flat_map g run.front) (f run.last) (flat f rest.front rest.last))

flat_within : {A : Type 0} (f : Tree → List A) (before : List Piece) (run : Run) (behind : Behind)
    → flat f (within before run behind).front (within before run behind).last
    ≡ flat_map (λ piece. f piece.tree) before ++ (flat f run.front run.last ++ flat_behind f behind)
flat_within f before run behind =
    flat_front f before (with_behind run behind).front (with_behind run behind).last ∙ ap (λ l. flat_map (λ piece. f piece.tree) before ++ l) (flat_with f run behind)

pub run_within : RunWithin
run_within = record {
  parts = λ pages low high depth before run behind. (
    λ is.
        let a = cut_front pages low high depth before (with_behind run behind) is in
        let b = cut_behind pages (last_key low before) high depth run behind a.1 in
        (a.0, b.0, b.1),
    λ h. with_front pages low high depth before (with_behind run behind) h.0 (join_behind pages (last_key low before) high depth run behind h.1 h.2),
  );
  rows = flat_within rows_of;
  named = λ n before run behind.
      omega (
        arith,
        ap (times n) (flat_within pages_of before run behind),
        times-append n (pages_in before) (run_pages run ++ behind_pages behind),
        times-append n (run_pages run) (behind_pages behind),
      );
}

-- a run stays

child_stays : (old new : Pages) (kept : ℕ → Type 0) (low high : ℤ) (depth : ℕ) (tree : Tree) → Keeps old new kept → ((n : ℕ) → Among (pages_of tree) n → kept n)
    → IsChild old low high depth tree → IsChild new low high depth tree
child_stays old new kept low high depth tree keeps among is = record {
  held = tree_behind_stays old new kept [] tree keeps among is.held;
  ordered = is.ordered;
  level = is.level;
  filled = is.filled;
}

pub children_stay : (old new : Pages) (kept : ℕ → Type 0) (low : ℤ) (depth : ℕ) (pieces : List Piece) → Keeps old new kept
    → ((n : ℕ) → Among (pages_in pieces) n → kept n) → AreChildren old low depth pieces → AreChildren new low depth pieces
children_stay old new kept low depth [] keeps among are = tt
children_stay old new kept low depth (p ∷ more) keeps among are = (
  child_stays old new kept low p.key depth p.tree keeps (λ n some. among n (among-front n (pages_of p.tree) _ some)) are.0,
  children_stay old new kept p.key depth more keeps (λ n some. among n (among-back n (pages_of p.tree) _ some)) are.1,
)

pub run_stays_where : (old new : Pages) (kept : ℕ → Type 0) (low high : ℤ) (depth : ℕ) (run : Run) → Keeps old new kept
    → ((n : ℕ) → Among (run_pages run) n → kept n) → IsRun old low high depth run → IsRun new low high depth run
run_stays_where old new kept low high depth run keeps among is = record {
  children = children_stay old new kept low depth run.front keeps (λ n some. among n (among-front n (pages_in run.front) _ some)) is.children;
  last_child = child_stays old new kept (last_key low run.front) high depth run.last keeps (λ n some. among n (among-back n (pages_in run.front) _ some)) is.last_child;
}

pub run_stays : RunStays
run_stays old new low high depth run keeps is = run_stays_where old new (Among (run_pages run)) low high depth run keeps (λ n some. some) is

-- the interior page over a run. Of its children some may already be passed: their cells, and how many there are

record IsRest (pages : Pages) (passed : List InnerCell) (cells : ℕ) (low high : ℤ) (depth : ℕ) (tree : Tree) : Type 0 where
  held : HoldsBehind pages passed tree
  ordered : IsOrdered low high tree
  level : HasDepth depth tree
  filled : IsFilled cells tree

rest_up : (pages : Pages) (passed : List InnerCell) (cells : ℕ) (low high : ℤ) (depth page : ℕ) (front : List Piece) (last : Tree) → AreChildren pages low depth front
    → IsChild pages (last_key low front) high depth last → HasCells pages page (InteriorPage (passed ++ cells_of front) (root_of last)) → 1 ≤ cells + length front
    → IsRest pages passed cells low high (suc depth) (join front (Right page last))
rest_up pages passed cells low high depth page [] last are is has some =
    let P : List InnerCell → Type 0 = λ l. HasCells pages page (InteriorPage l (root_of last)) in
    record { held = (subst P (append-nil passed) has, is.held); ordered = is.ordered; level = is.level; filled = (omega (arith, some), is.filled) }
rest_up pages passed cells low high depth page (p ∷ more) last are is has some =
    let P : List InnerCell → Type 0 = λ l. HasCells pages page (InteriorPage l (root_of last)) in
    let cell : InnerCell = cell_of p in
    let rest = rest_up pages (passed ++ cell ∷ []) (cells + 1) p.key high depth page more last are.1 is
    (subst P (sym (append_assoc passed (cell ∷ []) (cells_of more))) has) (omega (arith, some)) in
    let key : Within low high p.key = (child_strict pages low p.key depth p.tree are.0, lt_le_ℤ p.key high (run_strict pages p.key high depth more last are.1 is)) in
    record { held = (are.0.held, rest.held); ordered = (key, are.0.ordered, rest.ordered); level = (are.0.level, rest.level); filled = (are.0.filled, rest.filled) }

rest_down : (pages : Pages) (passed : List InnerCell) (cells : ℕ) (low high : ℤ) (depth page : ℕ) (front : List Piece) (last : Tree)
    → IsRest pages passed cells low high (suc depth) (join front (Right page last)) → AreChildren pages low depth front × IsChild pages (last_key low front) high depth last
    × HasCells pages page (InteriorPage (passed ++ cells_of front) (root_of last)) × (1 ≤ cells + length front)
rest_down pages passed cells low high depth page [] last is =
    let P : List InnerCell → Type 0 = λ l. HasCells pages page (InteriorPage l (root_of last)) in (
      tt,
      record { held = is.held.1; ordered = is.ordered; level = is.level; filled = is.filled.1 },
      subst P (sym (append-nil passed)) is.held.0,
      omega (arith, is.filled.0),
    )
rest_down pages passed cells low high depth page (p ∷ more) last is =
    let P : List InnerCell → Type 0 = λ l. HasCells pages page (InteriorPage l (root_of last)) in
    let cell : InnerCell = cell_of p in
    let rest = rest_down pages (passed ++ cell ∷ []) (cells + 1) p.key high depth page more last
    (record { held = is.held.1; ordered = is.ordered.2; level = is.level.1; filled = is.filled.1 }) in (
      (record { held = is.held.0; ordered = is.ordered.1; level = is.level.0; filled = is.filled.0 }, rest.0),
      rest.1,
      subst P (append_assoc passed (cell ∷ []) (cells_of more)) rest.2,
      omega (arith, rest.3),
    )

run_up : (pages : Pages) (low high : ℤ) (depth page : ℕ) (run : Run) → IsRun pages low high depth run → HasRun pages page run → 1 ≤ length run.front
    → IsChild pages low high (suc depth) (over page run)
run_up pages low high depth page run is has some =
    let up = rest_up pages [] 0 low high depth page run.front run.last is.children is.last_child has (omega (arith, some)) in
    record { held = up.held; ordered = up.ordered; level = up.level; filled = up.filled }

run_down : (pages : Pages) (low high : ℤ) (depth page : ℕ) (run : Run) → IsChild pages low high (suc depth) (over page run)
    → IsRun pages low high depth run × HasRun pages page run × (1 ≤ length run.front)
run_down pages low high depth page run is =
    let down = rest_down pages [] 0 low high depth page run.front run.last (record { held = is.held; ordered = is.ordered; level = is.level; filled = is.filled }) in
    (record { children = down.0; last_child = down.1 }, down.2, omega (arith, down.3))

is_over : (depth : ℕ) (tree : Tree) → HasDepth (suc (suc depth)) tree → (page : ℕ) × (run : Run) × (tree ≡ over page run)
is_over depth (Leaf page rows) level = absurd (omega (arith, level))
is_over depth (Child child key more) level =
    let rest = is_over depth more level.1 in
    (rest.0, from_last child key rest.1, ap (Child child key) rest.2)
is_over depth (Right page child) level = (page, one child, refl)

root_join : (pieces : List Piece) (rest : Tree) → root_of (join pieces rest) ≡ root_of rest
root_join [] rest = refl
root_join (p ∷ more) rest = root_join more rest

rows_join : (pieces : List Piece) (rest : Tree) → rows_of (join pieces rest) ≡ flat rows_of pieces rest
rows_join [] rest = refl
rows_join (p ∷ more) rest = ap (λ (l : List Row). rows_of p.tree ++ l) (rows_join more rest) ∙ sym (append_assoc (rows_of p.tree) (rows_in more) (rows_of rest))

count_join : (n : ℕ) (pieces : List Piece) (rest : Tree) → times n (pages_of (join pieces rest)) ≡ times n (pages_in pieces) + times n (pages_of rest)
count_join n [] rest = omega arith
count_join n (p ∷ more) rest =
    omega (arith, count_join n more rest, times-append n (pages_of p.tree) (pages_of (join more rest)), times-append n (pages_of p.tree) (pages_in more))

pub run_over : RunOver
run_over = record {
  up = run_up;
  down = run_down;
  is_over = is_over;
  rooted = λ page run. root_join run.front (Right page run.last);
  rows = λ page run. rows_join run.front (Right page run.last);
  named = λ n page run. omega (arith, count_join n run.front (Right page run.last), times-append n (pages_in run.front) (pages_of run.last));
}
