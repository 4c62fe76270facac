-- Leaves, their rows, and a row put among them.
use Rattle.std.proofs.Common.{ℕ, ◌≤◌, ℤ, ◌≤ℤ◌, List, [], ◌∷◌, ◌++◌, length, map, refl}
use Rattle.std.specs.List.{AllByRecursion}
use Rattle.std.specs.Int.Signed.{≤ℤ_refl}
use Rattle.page_list.specs.Pages.{Pages}
use Rattle.tree_page.specs.declared.cell.PageCells.TheVariants.{Leaf as LeafPage}
use Rattle.tree_model.specs.Tree.{Row, Leaf, rowid, Within}
use Rattle.tree_model.specs.Held.{HasCells, HasRow}
use Rattle.tree_model.specs.Laws.{Rises}
use Rattle.tree_model.proofs.IntLemmas.{le_lt_ℤ, le_trans_ℤ, lt_le_ℤ}
use Rattle.tree_model.proofs.PathLemmas.{all_front, all_behind}
use Rattle.tree_model.proofs.RiseLemmas.{RisesTo, tree_rises}
use Rattle.tree_run.specs.Run.{IsChild}
use Rattle.tree_run.specs.Laws.{last_rowid, AreRows, LeafOver}

-- rows that rise reach their last rowid

reach : (low : ℤ) (rows : List Row) → Rises low rows → low ≤ℤ last_rowid low rows
reach low [] rises = ≤ℤ_refl low
reach low (row ∷ more) rises = le_trans_ℤ low (rowid row) (last_rowid (rowid row) more) (lt_le_ℤ low (rowid row) rises.0) (reach (rowid row) more rises.1)

rows_bounded : (least low high : ℤ) (rows : List Row) → least ≤ℤ low → Rises low rows → last_rowid low rows ≤ℤ high
    → AllByRecursion (λ row. Within least high (rowid row)) rows
rows_bounded least low high [] less rises most = tt
rows_bounded least low high (row ∷ more) less rises most =
    let a = le_lt_ℤ least low (rowid row) less rises.0 in (
      (a, le_trans_ℤ (rowid row) (last_rowid (rowid row) more) high (reach (rowid row) more rises.1) most),
      rows_bounded least (rowid row) high more (lt_le_ℤ least (rowid row) a) rises.1 most,
    )

leaf_up : (pages : Pages) (low high : ℤ) (page : ℕ) (rows : List Row) → AreRows pages low high rows → HasCells pages page (LeafPage (map (λ row. row.cell) rows))
    → 1 ≤ length rows → IsChild pages low high 1 (Leaf page rows)
leaf_up pages low high page rows are has some = record {
  held = (refl, has, are.each);
  ordered = rows_bounded low low high rows (≤ℤ_refl low) are.rises are.most;
  level = refl;
  filled = some;
}

pub rises_to : (low high : ℤ) (rows : List Row) → RisesTo low high rows → Rises low rows × (last_rowid low rows ≤ℤ high)
rises_to low high [] rise = (tt, rise)
rises_to low high (row ∷ more) rise = let inner = rises_to (rowid row) high more rise.1 in ((rise.0, inner.0), inner.1)

leaf_down : (pages : Pages) (low high : ℤ) (page : ℕ) (rows : List Row) → low ≤ℤ high → IsChild pages low high 1 (Leaf page rows) → AreRows pages low high rows
leaf_down pages low high page rows less is =
    let rise = rises_to low high rows (tree_rises pages [] low high (Leaf page rows) less is.held is.ordered) in
    record { each = is.held.2; rises = rise.0; most = rise.1 }

rises_cut : (low high : ℤ) (rows more : List Row) → Rises low (rows ++ more) → last_rowid low (rows ++ more) ≤ℤ high
    → Rises low rows × Rises (last_rowid low rows) more × (last_rowid (last_rowid low rows) more ≤ℤ high)
rises_cut low high [] more rises most = (tt, rises, most)
rises_cut low high (row ∷ rows) more rises most = let inner = rises_cut (rowid row) high rows more rises.1 most in ((rises.0, inner.0), inner.1, inner.2)

rows_cut : (pages : Pages) (low high : ℤ) (rows more : List Row) → AreRows pages low high (rows ++ more)
    → AreRows pages low (last_rowid low rows) rows × AreRows pages (last_rowid low rows) high more
rows_cut pages low high rows more are =
    let cut = rises_cut low high rows more are.rises are.most in (
      record { each = all_front (HasRow pages) rows more are.each; rises = cut.0; most = ≤ℤ_refl (last_rowid low rows) },
      record { each = all_behind (HasRow pages) rows more are.each; rises = cut.1; most = cut.2 },
    )

pub leaf_over : LeafOver
leaf_over = record { up = leaf_up; down = leaf_down; cut = rows_cut }
