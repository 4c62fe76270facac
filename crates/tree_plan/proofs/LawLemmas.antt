-- The plan of one level, on its pages.
use Rattle.std.proofs.Common.{◌≡◌, inl, inr, ℕ, ◌+◌, ◌≤◌, ℤ, ◌<ℤ◌, ◌≤ℤ◌, List, [], ◌∷◌, ◌++◌, length, map, take, drop, refl, sym, ap, subst, ◌∙◌, arith, length-append}
use Rattle.std.specs.List.{AllByRecursion}
use Rattle.std.proofs.lemmas.List.{length-map}
use Rattle.page_list.specs.Pages.{Pages, times, Among}
use Rattle.page_list.proofs.TimesLemmas.{times-append, among-front, among-back}
use Rattle.tree_page.specs.declared.cell.LeafCell.{LeafCell}
use Rattle.tree_page.specs.declared.cell.InnerCell.{InnerCell}
use Rattle.tree_page.specs.declared.cell.PageCells.{PageCells}
use Rattle.tree_page.specs.declared.cell.PageCells.TheVariants.{Leaf as LeafPage, Interior as InteriorPage}
use Rattle.tree_page.specs.Page.{leaf, inner, cells_of as page_cells}
use Rattle.tree_model.specs.Tree.{Row, rowid}
use Rattle.tree_model.specs.Held.{HasRow}
use Rattle.tree_model.specs.Laws.{Keeps, Rises, chains_of}
use Rattle.tree_model.proofs.IntLemmas.{le_is, not_le_is, by_le, antisym_ℤ}
use Rattle.tree_model.proofs.StayLemmas.{row_stays}
use Rattle.tree_run.specs.Edit.{put_row, chain_at, without, Puts}
use Rattle.tree_run.specs.Laws.{AreRows, last_rowid}
use Rattle.page_cut.specs.declared.parts.Sheet.{Sheet}
use Rattle.page_cut.specs.declared.parts.Sheets.{Sheets}
use Rattle.page_cut.specs.Cut.{AreLeafParts, AreInnerParts, IsPart, IsCut}
use Rattle.tree_level.specs.Level.{up_cells, AreOnPages, with_ups}
use Rattle.tree_level.proofs.StepLemmas.{leaf_step, inner_step}
use Rattle.tree_plan.specs.Plan.{put_cell}
use Rattle.tree_plan.specs.Law.{RowPut, AreNumbered, AreOn, LeafPlanned, InnerPlanned}

-- a row among rows, by cases

pub row_here : (row r : Row) (more : List Row) → rowid row ≤ℤ rowid r → rowid r ≤ℤ rowid row →
    (put_row row (r ∷ more) ≡ row ∷ more) × (without (rowid row) (r ∷ more) ≡ more) × (chain_at (rowid row) (r ∷ more) ≡ r.chain)
row_here row r more at back = let a = le_is (rowid row) (rowid r) at in let b = le_is (rowid r) (rowid row) back in (cc, cc, cc)

pub row_before : (row r : Row) (more : List Row) → rowid row <ℤ rowid r →
    (put_row row (r ∷ more) ≡ row ∷ r ∷ more) × (without (rowid row) (r ∷ more) ≡ r ∷ more) × (chain_at (rowid row) (r ∷ more) ≡ [])
row_before row r more above = let a = le_is (rowid row) (rowid r) (grind (arith, above)) in let b = not_le_is (rowid r) (rowid row) above in (cc, cc, cc)

pub row_past : (row r : Row) (more : List Row) → rowid r <ℤ rowid row →
    (put_row row (r ∷ more) ≡ r ∷ put_row row more) × (without (rowid row) (r ∷ more) ≡ r ∷ without (rowid row) more) × (chain_at (rowid row) (r ∷ more) ≡ chain_at (rowid row) more)
row_past row r more past = let a = not_le_is (rowid row) (rowid r) past in (cc, cc, cc)

pub cells_put : (row : Row) (rows : List Row) → map (λ (r : Row). r.cell) (put_row row rows) ≡ put_cell row.cell (map (λ (r : Row). r.cell) rows)
cells_put row [] = refl
cells_put row (r ∷ more) =
    let inner = cells_put row more in
    by_le (rowid row) (rowid r)
    (λ at. let a = le_is (rowid row) (rowid r) at in
    by_le (rowid r) (rowid row)
    (λ back. let b = le_is (rowid r) (rowid row) back in cc)
    (λ above. let b = not_le_is (rowid r) (rowid row) above in cc))
    (λ past. let a = not_le_is (rowid row) (rowid r) past in cc)

pub chains_put : (n : ℕ) (row : Row) (rows : List Row) → times n (chains_of (put_row row rows)) + times n (chain_at (rowid row) rows) ≡ times n (chains_of rows) + times n row.chain
chains_put n row [] = omega (arith, times-append n row.chain [])
chains_put n row (r ∷ more) =
    let inner = chains_put n row more in
    let C : List Row → ℕ = λ l. times n (chains_of l) in
    by_le (rowid row) (rowid r)
    (λ at. by_le (rowid r) (rowid row)
    (λ back. let h = row_here row r more at back in
    omega (arith, ap C h.0, ap (times n) h.2, times-append n row.chain (chains_of more), times-append n r.chain (chains_of more)))
    (λ above. let h = row_before row r more above in
    omega (arith, ap C h.0, ap (times n) h.2, times-append n row.chain (r.chain ++ chains_of more))))
    (λ past. let h = row_past row r more past in
    omega (arith, ap C h.0, ap (times n) h.2, times-append n r.chain (chains_of (put_row row more)), times-append n r.chain (chains_of more), inner))

-- rows within bounds, with one put in

Fit : Pages → ℤ → ℤ → List Row → Type 0
Fit pages low high rows = AllByRecursion (HasRow pages) rows × Rises low rows × (last_rowid low rows ≤ℤ high)

all_rows_stay : (old new : Pages) (kept : ℕ → Type 0) (rows : List Row) → Keeps old new kept → ((n : ℕ) → Among (chains_of rows) n → kept n) → AllByRecursion (HasRow old) rows → AllByRecursion (HasRow new) rows
all_rows_stay old new kept [] keeps among all = tt
all_rows_stay old new kept (r ∷ more) keeps among all = (
  row_stays old new kept r keeps (λ n some. among n (among-front n r.chain _ some)) all.0,
  all_rows_stay old new kept more keeps (λ n some. among n (among-back n r.chain _ some)) all.1,
)

rises_less : (low last : ℤ) (rows : List Row) → low ≤ℤ last → Rises last rows → Rises low rows
rises_less low last [] less rises = tt
rises_less low last (r ∷ more) less rises = (let a = rises.0 in grind (arith, a, less), rises.1)

rows_put : (old new : Pages) (kept : ℕ → Type 0) (low high : ℤ) (row : Row) (rows : List Row) → AllByRecursion (HasRow old) rows → Rises low rows → last_rowid low rows ≤ℤ high → HasRow new row →
    low <ℤ rowid row → rowid row ≤ℤ high → Keeps old new kept → ((n : ℕ) → Among (chains_of (without (rowid row) rows)) n → kept n) → AreRows new low high (put_row row rows)
rows_put old new kept low high row [] each rises most has above less keeps among = record { each = (has, tt); rises = (above, tt); most = less }
rows_put old new kept low high row (r ∷ more) each rises most has above less keeps among =
    let G : List Row → Type 0 = AreRows new low high in
    let K : List Row → Type 0 = λ l. (n : ℕ) → Among (chains_of l) n → kept n in
    let deeper = λ (past : rowid r <ℤ rowid row) (inside : (n : ℕ) → Among (chains_of (without (rowid row) more)) n → kept n).
    rows_put old new kept (rowid r) high row more each.1 rises.1 most has past less keeps inside in
    by_le (rowid row) (rowid r)
    (λ at. by_le (rowid r) (rowid row)
    (λ back.
    let h = row_here row r more at back in
    let same = antisym_ℤ (rowid r) (rowid row) back at in
    let P : ℤ → Type 0 = λ k. Rises k more × (last_rowid k more ≤ℤ high) in
    let moved = subst P same (rises.1, most) in
    subst G (sym h.0) (record { each = (has, all_rows_stay old new kept more keeps (subst K h.1 among) each.1); rises = (above, moved.0); most = moved.1 }))
    (λ before.
    let h = row_before row r more before in
    subst G (sym h.0) (record { each = (has, all_rows_stay old new kept (r ∷ more) keeps (subst K h.1 among) each); rises = (above, (before, rises.1)); most = most })))
    (λ past.
    let h = row_past row r more past in
    let all = subst K h.1 among in
    let inner = deeper past (λ n some. all n (among-back n r.chain _ some)) in
    subst G (sym h.0) (record {
      each = (row_stays old new kept r keeps (λ n some. all n (among-front n r.chain _ some)) each.0, inner.each);
      rises = (rises.0, inner.rises);
      most = inner.most;
    }))

pub row_put : RowPut
row_put = record {
  cells = cells_put;
  are = λ old new low high row rows are has above less keeps.
      rows_put old new (Among (chains_of (without (rowid row) rows))) low high row rows are.each are.rises are.most has above less keeps (λ n some. some);
  chains = chains_put;
}

-- numbers change nothing of what the parts are

leaf_numbered : (front numbered : List Sheet) (last : PageCells) (cells : List LeafCell) → AreNumbered front numbered → AreLeafParts front last cells → AreLeafParts numbered last cells
leaf_numbered [] [] last cells same parts = parts
leaf_numbered [] (t ∷ others) last cells same parts = absurd same
leaf_numbered (s ∷ more) [] last cells same parts = absurd same
leaf_numbered (s ∷ more) (t ∷ others) last cells same parts =
    (parts.0, record { part = parts.1.part; is = same.0 ∙ parts.1.is; keyed = λ low. parts.1.keyed low ∙ sym same.1; joined = parts.1.joined }, leaf_numbered more others last parts.0 same.2 parts.2)

inner_numbered : (front numbered : List Sheet) (last : PageCells) (cells : List InnerCell) (right : ℕ) → AreNumbered front numbered → AreInnerParts front last cells right → AreInnerParts numbered last cells right
inner_numbered [] [] last cells right same parts = parts
inner_numbered [] (t ∷ others) last cells right same parts = absurd same
inner_numbered (s ∷ more) [] last cells right same parts = absurd same
inner_numbered (s ∷ more) (t ∷ others) last cells right same parts =
    let head = parts.1 in
    let P : ℤ → Type 0 = λ k. cells ≡ head.part ++ (record { child = head.child; rowid = k } ∷ parts.0) in
    (parts.0, record { part = head.part; child = head.child; is = same.0 ∙ head.is; joined = subst P (sym same.1) head.joined }, inner_numbered more others last parts.0 right same.2 parts.2)

some_numbered : (usable : ℕ) (front numbered : List Sheet) → AreNumbered front numbered → AllByRecursion (λ sheet. IsPart usable sheet.cells) front → AllByRecursion (λ sheet. 1 ≤ length (page_cells sheet.cells)) numbered
some_numbered usable [] [] same all = tt
some_numbered usable [] (t ∷ others) same all = absurd same
some_numbered usable (s ∷ more) [] same all = absurd same
some_numbered usable (s ∷ more) (t ∷ others) same all =
    let P : PageCells → Type 0 = λ c. 1 ≤ length (page_cells c) in
    (subst P (sym same.0) all.0.some, some_numbered usable more others same.2 all.1)

-- the parts of a page that has a cell, on their pages
pub on_pages : (pages : Pages) (number usable page : ℕ) (whole : PageCells) (sheets : Sheets) (front : List Sheet) → 1 ≤ length (page_cells whole) → IsCut number usable whole sheets → AreOn pages sheets front page →
    AreOnPages pages front page sheets.last
on_pages pages number usable page whole sheets front some (inl is) on =
    let P : PageCells → Type 0 = λ c. 1 ≤ length (page_cells c) in
    let Q : List Sheet → Type 0 = λ l. AreNumbered l front in
    record { some = some_numbered usable [] front (subst Q is.none on.numbered) tt; some_last = subst P (sym is.all) some; each = on.each; last_has = on.last }
on_pages pages number usable page whole sheets front some (inr up) on =
    record { some = some_numbered usable sheets.front.items front on.numbered up.each; some_last = up.last.some; each = on.each; last_has = on.last }

leaf_cut_parts : (number usable : ℕ) (cells : List LeafCell) (sheets : Sheets) → IsCut number usable (LeafPage cells) sheets → AreLeafParts sheets.front.items sheets.last cells
leaf_cut_parts number usable cells sheets (inl is) = let P : List Sheet → Type 0 = λ l. AreLeafParts l sheets.last cells in subst P (sym is.none) is.all
leaf_cut_parts number usable cells sheets (inr up) = up.parts

inner_cut_parts : (number usable right : ℕ) (cells : List InnerCell) (sheets : Sheets) → IsCut number usable (InteriorPage cells right) sheets → AreInnerParts sheets.front.items sheets.last cells right
inner_cut_parts number usable right cells sheets (inl is) = let P : List Sheet → Type 0 = λ l. AreInnerParts l sheets.last cells right in subst P (sym is.none) is.all
inner_cut_parts number usable right cells sheets (inr up) = up.parts

pub put_some : (row : Row) (rows : List Row) → 1 ≤ length (put_row row rows)
put_some row [] = omega arith
put_some row (r ∷ more) =
    let P : List Row → Type 0 = λ l. 1 ≤ length l in
    by_le (rowid row) (rowid r)
    (λ at. by_le (rowid r) (rowid row)
    (λ back. subst P (sym (row_here row r more at back).0) (omega arith))
    (λ above. subst P (sym (row_before row r more above).0) (omega arith)))
    (λ past. subst P (sym (row_past row r more past).0) (omega arith))

pub leaf_planned : LeafPlanned
leaf_planned old new low high root page number usable row rows plan front are above less is has keeps on =
    let all : List Row = put_row row rows in
    let f : Row → LeafCell = λ r. r.cell in
    let same = cells_put row rows in
    let C : List LeafCell → Type 0 = λ l. IsCut number usable (LeafPage l) plan.sheets in
    let cut = subst C (sym same) is.cut in
    let some : 1 ≤ length (page_cells (LeafPage (map f all))) = omega (arith, put_some row rows, length-map all f, length-map (map f all) leaf) in
    leaf_step new low high root page (Puts row) rows all front plan.sheets.last row.chain (chain_at (rowid row) rows)
    (row_put.are old new low high row rows are has above less keeps) refl (λ n. chains_put n row rows)
    (leaf_numbered plan.sheets.front.items front plan.sheets.last (map f all) on.numbered (leaf_cut_parts number usable (map f all) plan.sheets cut))
    (on_pages new number usable page (LeafPage (map f all)) plan.sheets front some cut on)

pub inner_planned : InnerPlanned
inner_planned old new low high depth root page usable edit before child behind level ups sheets front fresh gone is has at above less instead plan ups_some keeps on =
    let cells : List InnerCell = with_ups level.at (up_cells ups) level.cells in
    let g : Sheet → InnerCell = λ s. record { child = s.number; rowid = s.key } in
    let some : 1 ≤ length (page_cells (InteriorPage cells level.right)) =
    omega (arith, length-map cells inner, length-append (take level.at level.cells) (up_cells ups ++ drop level.at level.cells), length-append (up_cells ups) (drop level.at level.cells), length-map ups g, ups_some) in
    inner_step old new low high depth root page level.at level.right edit before child behind level.cells (up_cells ups) front sheets.last fresh gone is has at above less instead keeps
    (inner_numbered sheets.front.items front sheets.last cells level.right on.numbered (inner_cut_parts level.number usable level.right cells sheets plan))
    (on_pages new level.number usable page (InteriorPage cells level.right) sheets front some plan on)
