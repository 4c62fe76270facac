-- What is left of a tree within an interior page when a row below it is taken out.
-- After sqlite.org, "Database File Format", section 1.6, "B-tree Pages".
use Rattle.std.specs.Prelude.{ℕ, zero, suc, nat_lt, if◌then◌else◌, ℤ, List, [], ◌∷◌, ◌++◌, length, take, drop, Option, Some, None, slice_index_or}
use Rattle.page_list.specs.Pages.{Pages}
use Rattle.tree_page.specs.declared.cell.InnerCell.{InnerCell}
use Rattle.tree_model.specs.Tree.{Row, Tree, rows_of, pages_of}
use Rattle.tree_run.specs.Node.{Piece}
use Rattle.tree_run.specs.Run.{IsChild, Run, IsRun, run_rows, run_pages, Behind, Nothing, Next}

-- trees of the same depth; or one of the depth below, since the page over it would have no other child; or nothing
pub data Rest : Type 0 where
  Trees : Run → Rest
  Below : Tree → Rest
  Gone : Rest

abbrev pub IsRest : Pages → ℤ → ℤ → ℕ → Rest → Type 0
IsRest pages low high depth (Trees run) = IsRun pages low high depth run
IsRest pages low high zero (Below tree) = ⊥
IsRest pages low high (suc depth) (Below tree) = IsChild pages low high depth tree
IsRest pages low high depth Gone = Unit {0}

abbrev pub rest_rows : Rest → List Row
rest_rows (Trees run) = run_rows run
rest_rows (Below tree) = rows_of tree
rest_rows Gone = []

abbrev pub rest_pages : Rest → List ℕ
rest_pages (Trees run) = run_pages run
rest_pages (Below tree) = pages_of tree
rest_pages Gone = []

-- the children of a page without the one between these: the key behind it goes with it, or, of the last one, the key before it
abbrev pub without_last : Piece → List Piece → Run
without_last piece [] = record { front = []; last = piece.tree }
without_last piece (next ∷ more) = record { front = piece ∷ (without_last next more).front; last = (without_last next more).last }

abbrev pub left_of : List Piece → Behind → Option Run
left_of before (Next key rest) = Some (record { front = before ++ rest.front; last = rest.last })
left_of [] Nothing = None
left_of (piece ∷ more) Nothing = Some (without_last piece more)

-- the same of the cells of a page and its right-most child, by the place of the child that goes
abbrev pub no_cell : InnerCell
no_cell = record { child = 0; rowid = ℤ.pos 0 }

abbrev pub cells_left : ℕ → List InnerCell → ℕ → Option (List InnerCell × ℕ)
cells_left at [] right = None
cells_left at (cell ∷ more) right =
    if nat_lt at (length (cell ∷ more)) then Some (take at (cell ∷ more) ++ drop (suc at) (cell ∷ more), right)
    else Some (take (length more) (cell ∷ more), (slice_index_or (cell ∷ more) (length more) no_cell).child)

-- a page over so many children is a tree, over one that child is left alone, and over none nothing is
abbrev pub rest_over : (Run → Tree) → Option Run → Rest
rest_over page None = Gone
rest_over page (Some run) = alone run.front where
  alone : List Piece → Rest
  alone [] = Below run.last
  alone (piece ∷ more) = Trees (record { front = []; last = page run })
