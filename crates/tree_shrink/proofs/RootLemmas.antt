-- What comes of a root when a row is taken out below it.
use Rattle.std.proofs.Common.{◌≡◌, inr, ℕ, zero, suc, ◌+◌, ◌≤◌, ◌<◌, ℤ, List, [], ◌∷◌, ◌++◌, map, refl, ap, ◌∙◌, arith, rules}
use Rattle.page_list.specs.Pages.{Pages, times, Among}
use Rattle.page_list.proofs.TimesLemmas.{times-append}
use Rattle.tree_page.specs.declared.cell.InnerCell.{InnerCell}
use Rattle.tree_page.specs.declared.cell.PageCells.TheVariants.{Leaf as LeafPage}
use Rattle.tree_model.specs.Tree.{Row, Tree, Leaf, Child, Right, root_of, rows_of, pages_of, IsOrdered, HasDepth, IsFilled, IsFilledRoot}
use Rattle.tree_model.specs.Held.{HasCells, HoldsBehind}
use Rattle.tree_model.specs.Whole.{below_all, greatest, IsWholeTree}
use Rattle.tree_model.specs.Laws.{Keeps, chains_of}
use Rattle.tree_model.proofs.StayLemmas.{tree_behind_stays, rows_stay}
use Rattle.tree_run.specs.Run.{one}
use Rattle.tree_run.specs.Edit.{without}
use Rattle.tree_run.specs.Laws.{AreRows}
use Rattle.tree_run.proofs.RunLemmas.{run_stays}
use Rattle.tree_run.proofs.LeafLemmas.{leaf_over}
use Rattle.tree_run.proofs.RootLemmas.{root_over}
use Rattle.tree_shrink.specs.Root.{LessRootLeft, NoSibling, content_behind, moved, RootTakes, RootOverOne, RootEmpty, RootLeafLess}
use Rattle.tree_shrink.proofs.RowLemmas.{row_taken_out}

pub less_root_left : LessRootLeft
less_root_left new depth key was child gone less shallow = record {
  depth = depth;
  is = less.is;
  shallow = shallow;
  rows = less.rows;
  named = λ n. omega (arith, less.named n, times-append n gone (root_of was ∷ []));
}

pub no_sibling : NoSibling
no_sibling new depth root key was child gone less shallow = record {
  depth = depth;
  is = less.is;
  shallow = shallow;
  rows = less.rows;
  named = λ n. omega (arith, less.named n, times-append n gone (root_of was ∷ []));
}

-- a tree on another page

moved_root : (page : ℕ) (tree : Tree) → root_of (moved page tree) ≡ page
moved_root page (Leaf own rows) = refl
moved_root page (Child child key more) = moved_root page more
moved_root page (Right own child) = refl

moved_rows : (page : ℕ) (tree : Tree) → rows_of (moved page tree) ≡ rows_of tree
moved_rows page (Leaf own rows) = refl
moved_rows page (Child child key more) = ap (λ (l : List Row). rows_of child ++ l) (moved_rows page more)
moved_rows page (Right own child) = refl

moved_pages : (n page : ℕ) (tree : Tree) → times n (pages_of (moved page tree)) + times n (root_of tree ∷ []) ≡ times n (pages_of tree) + times n (page ∷ [])
moved_pages n page (Leaf own rows) = omega arith
moved_pages n page (Child child key more) =
    omega (arith, moved_pages n page more, times-append n (pages_of child) (pages_of (moved page more)), times-append n (pages_of child) (pages_of more))
moved_pages n page (Right own child) = omega arith

moved_ordered : (low high : ℤ) (page : ℕ) (tree : Tree) → IsOrdered low high tree → IsOrdered low high (moved page tree)
moved_ordered low high page (Leaf own rows) is = is
moved_ordered low high page (Child child key more) is = (is.0, is.1, moved_ordered key high page more is.2)
moved_ordered low high page (Right own child) is = is

moved_level : (depth page : ℕ) (tree : Tree) → HasDepth depth tree → HasDepth depth (moved page tree)
moved_level depth page (Leaf own rows) is = is
moved_level zero page (Child child key more) is = is
moved_level (suc depth) page (Child child key more) is = (is.0, moved_level (suc depth) page more is.1)
moved_level zero page (Right own child) is = is
moved_level (suc depth) page (Right own child) is = is

moved_filled : (cells page : ℕ) (tree : Tree) → IsFilled cells tree → IsFilled cells (moved page tree)
moved_filled cells page (Leaf own rows) is = is
moved_filled cells page (Child child key more) is = (is.0, moved_filled (cells + 1) page more is.1)
moved_filled cells page (Right own child) is = is

moved_as_root : (page : ℕ) (tree : Tree) → IsFilled 0 tree → IsFilledRoot (moved page tree)
moved_as_root page (Leaf own rows) is = tt
moved_as_root page (Child child key more) is = (is.0, moved_filled 1 page more is.1)
moved_as_root page (Right own child) is = absurd (omega (arith, is.0))

moved_held : (old new : Pages) (kept : ℕ → Type 0) (front : List InnerCell) (page : ℕ) (tree : Tree) → Keeps old new kept
    → ((n : ℕ) → times n (root_of tree ∷ []) < times n (pages_of tree) → kept n) → HasCells new page (content_behind front tree)
    → HoldsBehind old front tree → HoldsBehind new front (moved page tree)
moved_held old new kept front page (Leaf own rows) keeps inside has held =
    (held.0, has, rows_stay old new kept rows keeps (λ n some. inside n (omega (arith, some))) held.2)
moved_held old new kept front page (Child child key more) keeps inside has held = (
  tree_behind_stays old new kept [] child keeps (λ n some. inside n (omega (arith, some, root_within n more, times-append n (pages_of child) (pages_of more)))) held.0,
  moved_held old new kept _ page more keeps (λ n less. inside n (omega (arith, less, times-append n (pages_of child) (pages_of more)))) has held.1,
)
  where
    root_within : (n : ℕ) (tree : Tree) → times n (root_of tree ∷ []) ≤ times n (pages_of tree)
    root_within n (Leaf own rows) = omega arith
    root_within n (Child child key more) = omega (arith, root_within n more, times-append n (pages_of child) (pages_of more))
    root_within n (Right own child) = omega arith
moved_held old new kept front page (Right own child) keeps inside has held =
    (has, tree_behind_stays old new kept [] child keeps (λ n some. inside n (omega (arith, some))) held.1)

pub root_takes : RootTakes
root_takes old new key was child gone left has keeps =
    let root : ℕ = root_of was in
    record {
      whole = record {
        rooted = moved_root root child;
        held = moved_held old new _ [] root child keeps (λ n less. less) has left.is.held;
        ordered = moved_ordered below_all greatest root child left.is.ordered;
        depth = left.depth;
        level = moved_level left.depth root child left.is.level;
        shallow = omega (arith, left.shallow);
        filled = moved_as_root root child left.is.filled;
      };
      rows = moved_rows root child ∙ left.rows;
      named = λ n. omega (arith, moved_pages n root child, left.named n, times-append n gone (root_of child ∷ []));
    }

pub root_over_one : RootOverOne
root_over_one old new key was child gone left first has keeps = record {
  whole = root_over new left.depth 1 (one child)
      (run_stays old new below_all greatest left.depth (one child) keeps (record { children = tt; last_child = left.is })) has (inr refl) left.shallow;
  rows = left.rows;
  named = λ n. omega (arith, left.named n, ap (λ m. times n (m ∷ [])) first);
}

-- a root that is a leaf

leaf_root : (pages : Pages) (root : ℕ) (rows : List Row) → AreRows pages below_all greatest rows → HasCells pages root (LeafPage (map (λ row. row.cell) rows))
    → IsWholeTree pages root (Leaf root rows)
leaf_root pages root rows are has = record {
  rooted = refl;
  held = (refl, has, are.each);
  ordered = ordered rows are has;
  depth = 1;
  level = refl;
  shallow = omega arith;
  filled = tt;
}
  where
    ordered : (rows : List Row) → AreRows pages below_all greatest rows → HasCells pages root (LeafPage (map (λ row. row.cell) rows)) → IsOrdered below_all greatest (Leaf root rows)
    ordered [] are has = tt
    ordered (row ∷ more) are has = (leaf_over.up pages below_all greatest root (row ∷ more) are has (omega arith)).ordered

pub root_empty : RootEmpty
root_empty old new depth key was gone less has = record {
  whole = leaf_root new (root_of was) [] (record { each = tt; rises = tt; most = search rules }) has;
  rows = less.rows;
  named = λ n. omega (arith, less.named n, times-append n gone (root_of was ∷ []));
}

pub root_leaf_less : RootLeafLess
root_leaf_less old new root key rows are has keeps =
    let left : List Row = without key rows in
    let taken : AreRows old below_all greatest left = row_taken_out.are old below_all greatest key rows are (search rules) in
    record {
      whole = leaf_root new root left (record {
        each = rows_stay old new (Among (chains_of left)) left keeps (λ n among. among) taken.each;
        rises = taken.rises;
        most = taken.most;
      }) has;
      rows = refl;
      named = λ n. omega (
        arith,
        row_taken_out.chains n key rows,
        times-append n (root ∷ []) (chains_of rows),
        times-append n (root ∷ []) (chains_of left),
      );
    }
