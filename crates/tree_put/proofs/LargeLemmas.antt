-- How many pages a put needs at most.
use Rattle.std.proofs.Common.{◌≡◌, ◌⊎◌, inl, inr, ℕ, suc, ◌+◌, ◌*◌, ◌≤◌, ℤ, List, [], ◌∷◌, ◌++◌, length, map, drop, refl, sym, ap, subst, ◌∙◌, arith, length-append, length-drop}
use Rattle.std.specs.List.{AllByRecursion}
use Rattle.std.proofs.lemmas.List.{length-map, length-reverse}
use Rattle.db_format.specs.Header.{greatest_length}
use Rattle.db_format.specs.Spill.{local_size}
use Rattle.page_list.specs.Pages.{Pages}
use Rattle.page_list.specs.Freelist.{Trunk, IsFreelist, free_pages, first_trunk, take_each}
use Rattle.page_list.specs.Chain.{pages_needed}
use Rattle.page_list.specs.Edits.{after_takes}
use Rattle.page_list.proofs.TimesLemmas.{among-here}
use Rattle.tree_page.specs.declared.cell.LeafCell.{LeafCell}
use Rattle.tree_page.specs.declared.cell.InnerCell.{InnerCell}
use Rattle.tree_page.specs.declared.cell.PageCells.{PageCells}
use Rattle.tree_page.specs.declared.cell.PageCells.TheVariants.{Leaf as LeafPage}
use Rattle.tree_page.specs.Laws.{FrontApart}
use Rattle.tree_page.specs.Page.{leaf, cells_of as page_cells, OnePage}
use Rattle.tree_model.specs.Tree.{Row, Tree, Leaf, Child, Right, root_of, rows_of, IsFilled}
use Rattle.tree_model.specs.Whole.{below_all, greatest, IsWholeTree, IsWholeFor, named_pages}
use Rattle.tree_model.specs.Laws.{shown, row_at}
use Rattle.tree_model.specs.declared.ends.PathEnd.{PathEnd}
use Rattle.tree_model.specs.declared.ends.PathEnd.TheVariants.{HasPayload, NoRow, Ends}
use Rattle.tree_model.specs.Need.{chain_pages, chains_pages, use_of}
use Rattle.tree_model.specs.declared.level.Level.{Level}
use Rattle.tree_model.proofs.IntLemmas.{le_is, not_le_is, by_le}
use Rattle.tree_run.specs.Node.{Piece, cell_of, rows_in}
use Rattle.tree_run.specs.Run.{AreChildren, Run, IsRun, run_rows, one, Behind, Nothing, Next, within, IsBehind, behind_rows}
use Rattle.tree_run.specs.Edit.{put_row}
use Rattle.tree_run.proofs.RunLemmas.{run_within, run_over}
use Rattle.page_cut.specs.declared.parts.Sheet.{Sheet}
use Rattle.page_cut.specs.declared.parts.Sheets.{Sheets}
use Rattle.page_cut.specs.Cut.{AreLeafParts, IsPart, IsCut}
use Rattle.tree_plan.specs.declared.leaf.LeafPlan.{LeafPlan}
use Rattle.tree_plan.specs.Plan.{put_cell, IsLeafPlan}
use Rattle.tree_plan.proofs.LawLemmas.{cells_put, put_some}
use Rattle.tree_laws.specs.Whole.{missing_in}
use Rattle.tree_laws.proofs.CountLemmas.{pages_add_up}
use Rattle.tree_laws.proofs.DeepLemmas.{whole_one}
use Rattle.tree_put.specs.Way.{Beside, with_child, tree_over, low_at, high_at, IsBeside, AreBeside, IsWay, Stands, AreStanding}
use Rattle.tree_put.specs.Keeps.{put_shown}
use Rattle.tree_put.specs.Large.{need_put, NeedsForChain, NeedsForParts, PutStops, PutMayBeLarge}
use Rattle.tree_put.proofs.WayLemmas.{way_from, held_from}
use Rattle.tree_put.proofs.TookLemmas.{took}
use Rattle.tree_put.proofs.PreparedLemmas.{chain_count, prepared}
use Rattle.tree_put.proofs.RowLemmas.{found, shown_put, has_at, length_put, has_over}

-- page 1 names no trunk where no page is free
pub no_trunk : (pages : Pages) (trunks : List Trunk) → IsFreelist pages trunks → first_trunk pages ≡ 0 → trunks ≡ []
no_trunk pages [] is none = refl
no_trunk pages (trunk ∷ more) is none =
    absurd (omega (arith, (is.within trunk.number (among-here trunk.number _)).1, is.linked.0, none))

-- the row that is put needs its chain
put_chain : (usable : ℕ) (key : ℤ) (payload : List ℕ) (rows : List (ℤ × List ℕ))
    → chain_pages usable (length payload) ≤ chains_pages usable (map (λ row. length row.1) (put_shown (key, payload) rows))
put_chain usable key payload [] = omega arith
put_chain usable key payload (r ∷ more) =
    let inner = put_chain usable key payload more in
    let C : List (ℤ × List ℕ) → ℕ = λ l. chains_pages usable (map (λ row. length row.1) l) in
    by_le key r.0
    (λ at. let a = le_is key r.0 at in
    by_le r.0 key
    (λ back. let b = le_is r.0 key back in
    let e : put_shown (key, payload) (r ∷ more) ≡ (key, payload) ∷ more = cc in omega (arith, ap C e))
    (λ above. let b = not_le_is r.0 key above in
    let e : put_shown (key, payload) (r ∷ more) ≡ (key, payload) ∷ r ∷ more = cc in omega (arith, ap C e)))
    (λ past. let a = not_le_is key r.0 past in
    let e : put_shown (key, payload) (r ∷ more) ≡ r ∷ put_shown (key, payload) more = cc in omega (arith, inner, ap C e))

-- each tree below an interior page has a row
filled_some : (cells : ℕ) (tree : Tree) → IsFilled cells tree → 1 ≤ length (rows_of tree)
filled_some cells (Leaf page rows) filled = filled
filled_some cells (Child child key more) filled = omega (arith, filled_some 0 child filled.0, length-append (rows_of child) (rows_of more))
filled_some cells (Right page child) filled = filled_some 0 child filled.1

pieces_some : (pages : Pages) (low : ℤ) (depth : ℕ) (pieces : List Piece) → AreChildren pages low depth pieces → length pieces ≤ length (rows_in pieces)
pieces_some pages low depth [] are = omega arith
pieces_some pages low depth (p ∷ more) are =
    omega (arith, filled_some 0 p.tree are.0.filled, pieces_some pages p.key depth more are.1, length-append (rows_of p.tree) (rows_in more))

run_some : (pages : Pages) (low high : ℤ) (depth : ℕ) (run : Run) → IsRun pages low high depth run → length run.front + 1 ≤ length (run_rows run)
run_some pages low high depth run is =
    omega (arith, pieces_some pages low depth run.front is.children, filled_some 0 run.last is.last_child.filled, length-append (rows_in run.front) (rows_of run.last))

-- an interior page has the rows of the child that the search takes, and one more for each of the others
behind_some : (pages : Pages) (high : ℤ) (depth : ℕ) (before : List Piece) (child : Tree) (behind : Behind) → IsBehind pages high depth behind
    → length (within before (one child) behind).front ≤ length before + length (behind_rows behind)
behind_some pages high depth before child Nothing is = omega (arith, length-append before [])
behind_some pages high depth before child (Next key rest) is =
    omega (arith, run_some pages key high depth rest is, length-append before (record { tree = child; key = key } ∷ rest.front))

rows_up : (pages : Pages) (low high key : ℤ) (depth : ℕ) (child : Tree) (step : Beside) → IsBeside low high key child step → Stands pages low high depth child step
    → length (rows_of child) + length step.level.cells ≤ length (rows_of (with_child child step))
rows_up pages low high key depth child step beside stands =
    let run : Run = within step.before (one child) step.behind in
    let parts = (run_within.parts pages low high depth step.before (one child) step.behind).0 stands.is in
    omega (
      arith,
      pieces_some pages low depth step.before parts.0,
      behind_some pages high depth step.before child step.behind parts.2,
      ap (λ (l : List Row). length l) (run_over.rows step.level.number run ∙ run_within.rows step.before (one child) step.behind),
      length-append (rows_in step.before) (rows_of child ++ behind_rows step.behind),
      length-append (rows_of child) (behind_rows step.behind),
      ap (λ (l : List InnerCell). length l) beside.has.cells_are,
      length-map run.front cell_of,
    )

-- so a tree has a row at least for each page of the way but one
pub rows_over : (pages : Pages) (low high key : ℤ) (depth : ℕ) (child : Tree) (steps : List Beside) → AreBeside low high key child steps
    → AreStanding pages low high depth child steps
    → (length (rows_of child) ≤ length (rows_of (tree_over child steps))) × (length (rows_of child) + length steps ≤ length (rows_of (tree_over child steps)) + 1)
rows_over pages low high key depth child [] beside standing = (omega arith, omega arith)
rows_over pages low high key depth child (step ∷ []) beside standing =
    let up = rows_up pages low high key depth child step beside.0 standing.0 in
    (omega (arith, up), omega (arith, up))
rows_over pages low high key depth child (step ∷ s ∷ more) beside standing =
    let up = rows_up pages (low_at low (s ∷ more)) (high_at high (s ∷ more)) key depth child step beside.0 standing.0 in
    let some : 1 ≤ length step.level.cells = elim standing.1 [ inl some ↦ some | inr top ↦ absurd (omega (arith, ap (λ (l : List Beside). length l) top.0)) ] in
    let rest = rows_over pages low high key (suc depth) (with_child child step) (s ∷ more) beside.1 standing.2 in
    (omega (arith, up, rest.0), omega (arith, up, some, rest.1))

pub leaf_some : (pages : Pages) (low high : ℤ) (depth : ℕ) (child : Tree) (steps : List Beside) → AreStanding pages low high depth child steps
    → (steps ≡ []) ⊎ (1 ≤ length (rows_of child))
leaf_some pages low high depth child [] standing = inl refl
leaf_some pages low high depth child (step ∷ steps) standing =
    let parts = (run_within.parts pages (low_at low steps) (high_at high steps) depth step.before (one child) step.behind).0 standing.0.is in
    inr (filled_some 0 child parts.1.last_child.filled)

-- the parts of a leaf have a row each
parts_many : (usable : ℕ) (front : List Sheet) (last : PageCells) (cells : List LeafCell) → AllByRecursion (λ sheet. IsPart usable sheet.cells) front
    → 1 ≤ length (page_cells last)
    → AreLeafParts front last cells → length front + 1 ≤ length cells
parts_many usable [] last cells all some parts =
    let P : PageCells → Type 0 = λ c. 1 ≤ length (page_cells c) in
    omega (arith, subst P parts some, length-map cells leaf)
parts_many usable (sheet ∷ more) last cells all some parts =
    let head = parts.1 in
    let P : PageCells → Type 0 = λ c. 1 ≤ length (page_cells c) in
    omega (
      arith,
      subst P head.is all.0.some,
      length-map head.part leaf,
      ap (λ (l : List LeafCell). length l) head.joined,
      length-append head.part parts.0,
      parts_many usable more last parts.0 all.1 some parts.2,
    )

cut_many : (number usable : ℕ) (cells : List LeafCell) (sheets : Sheets) → 1 ≤ length cells → IsCut number usable (LeafPage cells) sheets
    → length sheets.front.items + 1 ≤ length cells
cut_many number usable cells sheets some (inl is) = omega (arith, some, ap (λ (l : List Sheet). length l) is.none)
cut_many number usable cells sheets some (inr up) = parts_many usable sheets.front.items sheets.last cells up.each up.last.some up.parts

found_few : (end : PathEnd) → found end ≤ 1
found_few (HasPayload payload) = omega arith
found_few NoRow = omega arith
found_few (Ends fault) = omega arith

-- so the tree with the row has as many rows as the leaf has parts, and as the way has interior pages
many_rows : (old : Pages) (root : ℕ) (tree : Tree) (cell : LeafCell) (levels : List Level) (page usable : ℕ) (cells : List LeafCell) (plan : LeafPlan) (payload : List ℕ)
    → IsWholeTree old root tree
    → IsWay cell.rowid tree levels page cells → IsLeafPlan page usable cells cell plan
    → length plan.sheets.front.items + length levels + 1 ≤ 2 * length (put_shown (cell.rowid, payload) (map shown (rows_of tree)))
many_rows old root tree cell levels page usable cells plan payload whole way planned =
    let row : Row = record { cell = cell; chain = []; payload = payload } in
    let rows : List Row = way.rows in
    let all : List Row = rows_of tree in
    let steps : List Beside = way.steps in
    let child : Tree = Leaf page rows in
    let held = held_from old root tree cell.rowid levels page cells whole way in
    let P : List LeafCell → Type 0 = λ l. IsCut page usable (LeafPage (put_cell cell l)) plan.sheets in
    let Q : List LeafCell → Type 0 = λ l. IsCut page usable (LeafPage l) plan.sheets in
    let cut = subst Q (sym (cells_put row rows)) (subst P way.cells_are planned.cut) in
    let f : Row → LeafCell = λ r. r.cell in
    let parts : length plan.sheets.front.items + 1 ≤ length (put_row row rows) =
    omega (
      arith,
      cut_many page usable (map f (put_row row rows)) plan.sheets (omega (arith, put_some row rows, length-map (put_row row rows) f)) cut,
      length-map
          (put_row row rows) f,
    ) in
    let over = rows_over old below_all greatest cell.rowid 1 child steps way.beside held.standing in
    let tree_is : length all ≡ length (rows_of (tree_over child steps)) = ap (λ (t : Tree). length (rows_of t)) way.is in
    let same : has_at cell.rowid all ≡ has_at cell.rowid rows =
    ap (λ (t : Tree). has_at cell.rowid (rows_of t)) way.is ∙ has_over old row below_all greatest 1 child steps way.beside held.standing in
    let h : Beside → Level = λ s. s.level in
    let long : length levels ≡ length steps = sym (length-reverse levels) ∙ ap (λ (l : List Level). length l) way.levels_are ∙ length-map steps h in
    let tall : length steps ≤ length all = elim (leaf_some old below_all greatest 1 child steps held.standing) [
      | inl none ↦ omega (arith, ap (λ (l : List Beside). length l) none)
      | inr some ↦ omega (arith, some, over.1, tree_is)
    ] in
    let shown_long : length (put_shown (cell.rowid, payload) (map shown all)) ≡ length (put_row row all) =
    ap (λ (l : List (ℤ × List ℕ)). length l) (sym (shown_put row all)) ∙ length-map (put_row row all) shown in
    omega (arith, parts, over.0, tree_is, same, long, tall, shown_long, length_put row all, length_put row rows, found_few (row_at cell.rowid all))

-- the chain of a payload has as many pages as it needs
chain_is : (old : Pages) (payload : List ℕ) → chain_count old (drop (local_size old.usable (length payload)) payload) ≡ chain_pages old.usable (length payload)
chain_is old payload = ap (λ len. pages_needed old.usable len) (length-drop (local_size old.usable (length payload)) payload)

for_chain : FrontApart → (page_size : ℕ) (old stopped : Pages) (root : ℕ) (key : ℤ) (payload : List ℕ) (roots : List ℕ) (before behind : List Tree)
    (tree : Tree) (trunks : List Trunk) → PutStops page_size old stopped root key payload → NeedsForChain page_size old stopped payload
    → IsWholeFor old roots (before ++ tree ∷ behind) trunks
    → stopped.size + 1 ≤ length (missing_in (named_pages roots (before ++ tree ∷ behind) trunks) old.size) + use_of roots (before ++ tree ∷ behind)
    + need_put old.usable roots before tree behind key payload
for_chain front_apart page_size old stopped root key payload roots before behind tree trunks s n whole =
    let trees : List Tree = before ++ tree ∷ behind in
    let E : Pages → Type 0 = λ p. p.size * page_size ≤ greatest_length in
    let Z : Pages → Type 0 = λ p. first_trunk p ≡ 0 in
    let t = took front_apart page_size n.count old roots trees trunks s.size_of_page s.spare s.sized whole (subst E n.pages_are s.few) in
    let none = no_trunk (after_takes page_size n.count old) (take_each n.count trunks) t.whole.freelist (subst Z n.pages_are s.none_free) in
    omega (
      arith,
      t.counted,
      ap (λ (l : List Trunk). length (free_pages l)) none,
      ap (λ (p : Pages). p.size) n.pages_are,
      pages_add_up old roots trees trunks whole,
      n.fewer,
      chain_is old payload,
      put_chain old.usable key payload (map shown (rows_of tree)),
    )

for_parts : FrontApart → OnePage → (page_size : ℕ) (old stopped : Pages) (root : ℕ) (key : ℤ) (payload : List ℕ) (roots : List ℕ) (before behind : List Tree)
    (tree : Tree) (trunks : List Trunk) → PutStops page_size old stopped root key payload → NeedsForParts page_size old stopped root key payload
    → IsWholeFor old roots (before ++ tree ∷ behind) trunks
    → root_of tree ≡ root
    → stopped.size + 1 ≤ length (missing_in (named_pages roots (before ++ tree ∷ behind) trunks) old.size) + use_of roots (before ++ tree ∷ behind)
    + need_put old.usable roots before tree behind key payload
for_parts front_apart one_page page_size old stopped root key payload roots before behind tree trunks s n whole rooted =
    let trees : List Tree = before ++ tree ∷ behind in
    let rest : List ℕ = drop (local_size old.usable (length payload)) payload in
    let grown : Pages = after_takes page_size n.count n.chained in
    let left : List Trunk = take_each n.count (take_each (chain_count old rest) trunks) in
    let E : Pages → Type 0 = λ p. p.size * page_size ≤ greatest_length in
    let Z : Pages → Type 0 = λ p. first_trunk p ≡ 0 in
    let p = prepared front_apart page_size n.count old n.chained rest n.first roots before behind tree trunks s.size_of_page s.spare s.sized n.chain_sized whole n.chain
    (subst E n.pages_are s.few) in
    let none = no_trunk grown left p.whole.freelist (subst Z n.pages_are s.none_free) in
    let one = whole_one old roots before behind tree whole.each_tree in
    let T : ℕ → Type 0 = λ r. IsWholeTree old r tree in
    let tree_whole : IsWholeTree old root tree = subst T (sym one.1.rooted ∙ rooted) one.1 in
    let K : ℤ → Type 0 = λ k. IsWay k tree n.levels n.leaf n.cells in
    let way = subst K (sym n.cell_of.keyed) (way_from one_page n.levels old root tree key n.leaf n.cells tree_whole n.above n.below n.descends) in
    let many = many_rows old root tree n.cell n.levels n.leaf old.usable n.cells n.plan payload tree_whole way n.planned in
    let rows : List (ℤ × List ℕ) = map shown (rows_of tree) in
    let lens : length (map (λ (row : ℤ × List ℕ). length row.1) (put_shown (key, payload) rows)) ≡ length (put_shown (n.cell.rowid, payload) rows) =
    length-map (put_shown (key, payload) rows) (λ (row : ℤ × List ℕ). length row.1) ∙ ap (λ k. length (put_shown (k, payload) rows)) (sym n.cell_of.keyed) in
    omega (
      arith,
      p.counted,
      ap (λ (l : List Trunk). length (free_pages l)) none,
      ap (λ (p : Pages). p.size) n.pages_are,
      pages_add_up old roots trees trunks whole,
      n.fewer,
      many,
      lens,
      chain_is old payload,
      put_chain old.usable key payload rows,
    )

pub put_may_be_large : FrontApart → OnePage → PutMayBeLarge
put_may_be_large front_apart one_page page_size old stopped root key payload roots before behind tree trunks s whole rooted = elim s.needs [
  | inl n ↦ for_chain front_apart page_size old stopped root key payload roots before behind tree trunks s n whole
  | inr n ↦ for_parts front_apart one_page page_size old stopped root key payload roots before behind tree trunks s n whole rooted
]
