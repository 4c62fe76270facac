-- Trees beside each other, as an interior page has them: a run.
use Rattle.std.specs.Prelude.{ℕ, ℤ, List, [], ◌∷◌, ◌++◌, ⊤}
use Rattle.page_list.specs.Pages.{Pages}
use Rattle.tree_model.specs.Tree.{Row, Tree, Right, rows_of, pages_of, IsOrdered, HasDepth, IsFilled}
use Rattle.tree_model.specs.Held.{Holds}
use Rattle.tree_run.specs.Node.{Piece, join, rows_in, pages_in, last_key}

-- a tree below an interior page: what is asked of it by itself
pub record IsChild (pages : Pages) (low high : ℤ) (depth : ℕ) (tree : Tree) : Type 0 where
  pub held : Holds pages tree
  pub ordered : IsOrdered low high tree
  pub level : HasDepth depth tree
  pub filled : IsFilled 0 tree

-- children, each above the key before it and up to its own
abbrev pub AreChildren : Pages → ℤ → ℕ → List Piece → Type 0
AreChildren pages low depth [] = ⊤
AreChildren pages low depth (piece ∷ more) = IsChild pages low piece.key depth piece.tree × AreChildren pages piece.key depth more

-- A run: trees beside each other, each but the last with the key behind it. A tree by itself is a run, and so are
-- the children of an interior page, and what came of a page that was cut.
pub record Run : Type 0 where
  pub front : List Piece
  pub last : Tree

-- the trees are children within these bounds
pub record IsRun (pages : Pages) (low high : ℤ) (depth : ℕ) (run : Run) : Type 0 where
  pub children : AreChildren pages low depth run.front
  pub last_child : IsChild pages (last_key low run.front) high depth run.last

abbrev pub run_rows : Run → List Row
run_rows run = rows_in run.front ++ rows_of run.last

abbrev pub run_pages : Run → List ℕ
run_pages run = pages_in run.front ++ pages_of run.last

-- the run of one tree
abbrev pub one : Tree → Run
one tree = record { front = []; last = tree }

-- the interior page over a run
abbrev pub over : ℕ → Run → Tree
over page run = join run.front (Right page run.last)

-- what stands behind a run within a longer one: nothing, or the key behind it and the rest
pub data Behind : Type 0 where
  Nothing : Behind
  Next : ℤ → Run → Behind

-- the longer run
abbrev pub with_behind : Run → Behind → Run
with_behind run Nothing = run
with_behind run (Next key rest) = record { front = run.front ++ record { tree = run.last; key = key } ∷ rest.front; last = rest.last }

abbrev pub within : List Piece → Run → Behind → Run
within before run behind = record { front = before ++ (with_behind run behind).front; last = (with_behind run behind).last }

-- the bound above a run that stands within a longer one
abbrev pub bound : ℤ → Behind → ℤ
bound high Nothing = high
bound high (Next key rest) = key

-- what stands behind is a run above its key
abbrev pub IsBehind : Pages → ℤ → ℕ → Behind → Type 0
IsBehind pages high depth Nothing = ⊤
IsBehind pages high depth (Next key rest) = IsRun pages key high depth rest

abbrev pub behind_rows : Behind → List Row
behind_rows Nothing = []
behind_rows (Next key rest) = run_rows rest

abbrev pub behind_pages : Behind → List ℕ
behind_pages Nothing = []
behind_pages (Next key rest) = run_pages rest
