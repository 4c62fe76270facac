-- What one page on the way down a tree has, or why a search cannot go on there.
-- After sqlite.org, "Database File Format", section 1.6, "B-tree Pages".
use Rattle.std.specs.Prelude.{ℕ, ◌≤◌, Result, Ok, Err}
use Rattle.page_list.specs.Pages.{Pages}
use Rattle.tree_page.specs.declared.cell.PageCells.{PageCells}
use Rattle.tree_model.specs.Held.{HasCells}
use Rattle.tree_model.specs.declared.ends.Fault.{Fault}
use Rattle.tree_model.specs.Walk.{IsFault}

-- a page whose number stands on the page `above`, so many pages from the greatest depth, has these cells, or this fault
abbrev pub IsEntered : Pages → ℕ → ℕ → ℕ → Result PageCells Fault → Type 0
IsEntered pages left above page (Ok cells) = (1 ≤ left) × HasCells pages page cells
IsEntered pages left above page (Err fault) = IsFault pages left above page fault
