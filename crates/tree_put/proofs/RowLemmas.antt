-- The row that is replaced, and the rows as a caller sees them.
use Rattle.std.proofs.Common.{◌≡◌, ◌↔◌, ℕ, suc, ◌+◌, Bool, true, false, ℤ, List, [], ◌∷◌, ◌++◌, length, map, Option, Some, None, is_some, IsTrue, refl, sym, ap, ◌∙◌, arith}
use Rattle.std.proofs.Common.{length-append}
use Rattle.std.specs.List.{AllByRecursion}
use Rattle.page_list.specs.Pages.{Pages}
use Rattle.tree_page.specs.declared.cell.LeafCell.{LeafCell}
use Rattle.tree_model.specs.Tree.{Row, Tree, rowid, rows_of}
use Rattle.tree_model.specs.Held.{HasRow}
use Rattle.tree_model.specs.Laws.{shown, row_at}
use Rattle.tree_model.specs.declared.ends.PathEnd.{PathEnd}
use Rattle.tree_model.specs.declared.ends.PathEnd.TheVariants.{HasPayload, NoRow, Ends}
use Rattle.tree_model.proofs.IntLemmas.{le_is, not_le_is, by_le}
use Rattle.tree_run.specs.Node.{rows_in}
use Rattle.tree_run.specs.Run.{one, within, behind_rows}
use Rattle.tree_run.specs.Edit.{put_row, chain_at, Puts}
use Rattle.tree_run.proofs.RunLemmas.{run_within, run_over}
use Rattle.tree_run.proofs.EditLemmas.{edit_within}
use Rattle.tree_plan.specs.Plan.{cell_of}
use Rattle.tree_plan.proofs.LawLemmas.{row_here, row_before, row_past}
use Rattle.tree_put.specs.Way.{Beside, with_child, tree_over, low_at, high_at, IsBeside, AreBeside, Stands, AreStanding}
use Rattle.tree_put.specs.Keeps.{put_shown}

-- rows as they are shown, with one put in

pub shown_put : (row : Row) (rows : List Row) → map shown (put_row row rows) ≡ put_shown (rowid row, row.payload) (map shown rows)
shown_put row [] = refl
shown_put row (r ∷ more) =
    let inner = shown_put row more in
    by_le (rowid row) (rowid r)
    (λ at. let a = le_is (rowid row) (rowid r) at in
    by_le (rowid r) (rowid row)
    (λ back. let b = le_is (rowid r) (rowid row) back in cc)
    (λ above. let b = not_le_is (rowid r) (rowid row) above in cc))
    (λ past. let a = not_le_is (rowid row) (rowid r) past in cc)

-- whether a rowid has a row, as a number

abbrev pub found : PathEnd → ℕ
found (HasPayload payload) = 1
found NoRow = 0
found (Ends fault) = 0

abbrev pub has_at : ℤ → List Row → ℕ
has_at key rows = found (row_at key rows)

pub length_put : (row : Row) (rows : List Row) → length (put_row row rows) + has_at (rowid row) rows ≡ length rows + 1
length_put row [] = refl
length_put row (r ∷ more) =
    let inner = length_put row more in
    by_le (rowid row) (rowid r)
    (λ at. let a = le_is (rowid row) (rowid r) at in
    by_le (rowid r) (rowid row)
    (λ back. let b = le_is (rowid r) (rowid row) back in
    let e : row_at (rowid row) (r ∷ more) ≡ HasPayload r.payload = cc in
    omega (arith, ap (λ (l : List Row). length l) (row_here row r more at back).0, ap found e))
    (λ above. let b = not_le_is (rowid r) (rowid row) above in
    let e : row_at (rowid row) (r ∷ more) ≡ NoRow = cc in
    omega (arith, ap (λ (l : List Row). length l) (row_before row r more above).0, ap found e)))
    (λ past. let a = not_le_is (rowid row) (rowid r) past in
    let e : row_at (rowid row) (r ∷ more) ≡ row_at (rowid row) more = cc in
    omega (arith, inner, ap (λ (l : List Row). length l) (row_past row r more past).0, ap found e))

-- an interior page has a row of a rowid where the child that the search takes does
has_up : (old : Pages) (row : Row) (low high : ℤ) (depth : ℕ) (child : Tree) (step : Beside) → IsBeside low high (rowid row) child step → Stands old low high depth child step
    → has_at (rowid row) (rows_of (with_child child step)) ≡ has_at (rowid row) (rows_of child)
has_up old row low high depth child step beside stands =
    let whole : List Row = rows_of (with_child child step) in
    let C : List Row → ℕ = λ l. length l in
    let before : List Row = rows_in step.before in
    let behind : List Row = behind_rows step.behind in
    omega (
      arith,
      length_put row whole,
      length_put row (rows_of child),
      ap C (run_over.rows step.level.number (within step.before (one child) step.behind) ∙ run_within.rows step.before (one child) step.behind),
      ap (λ l. C (put_row row l)) (run_over.rows step.level.number (within step.before (one child) step.behind)),
      ap C (edit_within old low high depth step.before (one child) step.behind (Puts row) stands.is beside.above beside.below),
      length-append before (rows_of child ++ behind),
      length-append (rows_of child) behind,
      length-append before (put_row row (rows_of child) ++ behind),
      length-append (put_row row (rows_of child)) behind,
    )

pub has_over : (old : Pages) (row : Row) (low high : ℤ) (depth : ℕ) (child : Tree) (steps : List Beside) → AreBeside low high (rowid row) child steps
    → AreStanding old low high depth child steps → has_at (rowid row) (rows_of (tree_over child steps)) ≡ has_at (rowid row) (rows_of child)
has_over old row low high depth child [] beside standing = refl
has_over old row low high depth child (step ∷ steps) beside standing =
    has_over old row low high (suc depth) (with_child child step) steps beside.1 standing.2
    ∙ has_up old row (low_at low steps) (high_at high steps) depth child step beside.0 standing.0

-- a leaf has a row of a rowid where it has a cell of it
abbrev as_number : Bool → ℕ
as_number true = 1
as_number false = 0

has_cell : (key : ℤ) (rows : List Row) → has_at key rows ≡ as_number (is_some (cell_of key (map (λ r. r.cell) rows)))
has_cell key [] = refl
has_cell key (r ∷ more) =
    let inner = has_cell key more in
    by_le key (rowid r)
    (λ at. let a = le_is key (rowid r) at in
    by_le (rowid r) key
    (λ back. let b = le_is (rowid r) key back in
    let e : row_at key (r ∷ more) ≡ HasPayload r.payload = cc in
    let g : cell_of key (map (λ (r : Row). r.cell) (r ∷ more)) ≡ Some r.cell = cc in
    ap found e ∙ sym (ap (λ (c : Option LeafCell). as_number (is_some c)) g))
    (λ above. let b = not_le_is (rowid r) key above in
    let e : row_at key (r ∷ more) ≡ NoRow = cc in
    let g : cell_of key (map (λ (r : Row). r.cell) (r ∷ more)) ≡ None = cc in
    ap found e ∙ sym (ap (λ (c : Option LeafCell). as_number (is_some c)) g)))
    (λ past. let a = not_le_is key (rowid r) past in
    let e : row_at key (r ∷ more) ≡ row_at key more = cc in
    let g : cell_of key (map (λ (r : Row). r.cell) (r ∷ more)) ≡ cell_of key (map (λ (r : Row). r.cell) more) = cc in
    ap found e ∙ inner ∙ sym (ap (λ (c : Option LeafCell). as_number (is_some c)) g))

found_is : (end : PathEnd) → found end ≡ 1 → (was : List ℕ) × (end ≡ HasPayload was)
found_is (HasPayload payload) is = (payload, refl)
found_is NoRow is = absurd (omega (arith, is))
found_is (Ends fault) is = absurd (omega (arith, is))

is_true : (b : Bool) → IsTrue b → as_number b ≡ 1
is_true b is = ap as_number is

true_is : (b : Bool) → as_number b ≡ 1 → IsTrue b
true_is true is = refl
true_is false is = absurd (omega (arith, is))

pub told_of : (old : Pages) (row : Row) (depth : ℕ) (child tree : Tree) (rows : List Row) (low high : ℤ) (steps : List Beside) (b : Bool)
    → AreBeside low high (rowid row) child steps
    → AreStanding old low high depth child steps → tree ≡ tree_over child steps → rows_of child ≡ rows → b ≡ is_some (cell_of (rowid row) (map (λ r. r.cell) rows))
    → IsTrue b ↔ ((was : List ℕ) × (row_at (rowid row) (rows_of tree) ≡ HasPayload was))
told_of old row depth child tree rows low high steps b beside standing is rows_are told =
    let key : ℤ = rowid row in
    let number : has_at key (rows_of tree) ≡ as_number b =
    ap (λ (t : Tree). has_at key (rows_of t)) is ∙ has_over old row low high depth child steps beside standing ∙ ap (has_at key) rows_are ∙ has_cell key rows ∙ sym
    (ap as_number told) in (
      λ yes. found_is (row_at key (rows_of tree)) (number ∙ is_true b yes),
      λ has. true_is b (sym number ∙ ap found has.1),
    )

-- the row of a cell
pub record RowOf (pages : Pages) (key : ℤ) (rows : List Row) (cell : LeafCell) : Type 0 where
  pub row : Row
  pub cell_is : row.cell ≡ cell
  pub chain_is : chain_at key rows ≡ row.chain
  pub has : HasRow pages row

pub row_of : (pages : Pages) (key : ℤ) (rows : List Row) (cell : LeafCell) → AllByRecursion (HasRow pages) rows → cell_of key (map (λ r. r.cell) rows) ≡ Some cell
    → RowOf pages key rows cell
row_of pages key [] cell all is = absurd (omega (arith, ap (λ (c : Option LeafCell). number c) is))
  where
    number : Option LeafCell → ℕ
    number None = 0
    number (Some c) = 1
row_of pages key (r ∷ more) cell all is =
    by_le key (rowid r)
    (λ at. let a = le_is key (rowid r) at in
    by_le (rowid r) key
    (λ back. let b = le_is (rowid r) key back in
    let g : cell_of key (map (λ (r : Row). r.cell) (r ∷ more)) ≡ Some r.cell = cc in
    let same : r.cell ≡ cell = cc in
    record { row = r; cell_is = same; chain_is = cc; has = all.0 })
    (λ above. let b = not_le_is (rowid r) key above in
    let g : cell_of key (map (λ (r : Row). r.cell) (r ∷ more)) ≡ None = cc in
    absurd (none_some cell (sym g ∙ is))))
    (λ past. let a = not_le_is key (rowid r) past in
    let g : cell_of key (map (λ (r : Row). r.cell) (r ∷ more)) ≡ cell_of key (map (λ (r : Row). r.cell) more) = cc in
    let c : chain_at key (r ∷ more) ≡ chain_at key more = cc in
    let rest = row_of pages key more cell all.1 (sym g ∙ is) in
    record { row = rest.row; cell_is = rest.cell_is; chain_is = c ∙ rest.chain_is; has = rest.has })
  where
    none_some : (c : LeafCell) → None ≡ Some c → ⊥
    none_some c e = cc

-- no cell, no chain
pub no_chain : (key : ℤ) (rows : List Row) → cell_of key (map (λ r. r.cell) rows) ≡ None → chain_at key rows ≡ []
no_chain key [] none = refl
no_chain key (r ∷ more) none =
    by_le key (rowid r)
    (λ at. let a = le_is key (rowid r) at in
    by_le (rowid r) key
    (λ back. let b = le_is (rowid r) key back in
    let g : cell_of key (map (λ (r : Row). r.cell) (r ∷ more)) ≡ Some r.cell = cc in
    absurd (some_none r.cell (sym g ∙ none)))
    (λ above. let b = not_le_is (rowid r) key above in cc))
    (λ past. let a = not_le_is key (rowid r) past in
    let g : cell_of key (map (λ (r : Row). r.cell) (r ∷ more)) ≡ cell_of key (map (λ (r : Row). r.cell) more) = cc in
    let c : chain_at key (r ∷ more) ≡ chain_at key more = cc in
    c ∙ no_chain key more (sym g ∙ none))
  where
    some_none : (c : LeafCell) → Some c ≡ None → ⊥
    some_none c e = cc
