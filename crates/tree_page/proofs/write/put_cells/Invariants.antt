use Rattle.std.proofs.Common.{ℕ, ◌+◌, ◌*◌, ◌≤◌, List, take, drop}
use Rattle.std.specs.List.{AllByRecursion}
use Rattle.tree_page.specs.Page.{cells_of}
use Rattle.tree_page.specs.Written.{IsSound, space_of}
use Rattle.tree_page.specs.Steps.{Fills, IsBlank}
use Rattle.tree_page.proofs.write.put_cells.Given as goal

-- what fills the page with the cells from here on fills it with all
abbrev pub invariant-loop-at : goal.invariant-loop-at
invariant-loop-at l = record {
  order : l.end ≤ l.usable;
  room : l.first + 2 * l.at + space_of (drop l.at (cells_of l.cells)) ≤ l.end;
  sound : AllByRecursion (IsSound l.usable) (drop l.at (cells_of l.cells));
  blank : IsBlank l.page (l.first + 2 * l.at) l.end;
  fills : (content : ℕ) (final : List ℕ) → Fills l.usable (l.first + 2 * l.at) l.end (take (l.first + 2 * l.at) l.page) (drop l.end l.page) (drop l.at (cells_of l.cells)) content final
      → Fills l.usable l.first l.usable (take l.first l.fn.page) (drop l.usable l.fn.page) (cells_of l.cells) content final;
}
