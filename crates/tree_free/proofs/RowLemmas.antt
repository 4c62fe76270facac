-- A leaf and the chains of its rows, gone over.
use Rattle.std.proofs.Common.{◌≡◌, inl, inr, ℕ, ◌+◌, ◌≤◌, List, [], ◌∷◌, ◌++◌, length, map, IsTrue, refl, sym, ap, ap₂, subst, ◌∙◌, arith, length-append}
use Rattle.std.proofs.lemmas.List.{map-append, flat_map_more}
use Rattle.std.proofs.lemmas.Bool.Decides.{nat_tests}
use Rattle.std.specs.List.{AllByRecursion}
use Rattle.std.specs.BTreeSet.{BTreeSet}
use Rattle.page_list.specs.Pages.{Pages, HasPage, times, Among}
use Rattle.page_list.specs.Chain.{OneChain}
use Rattle.page_list.proofs.TimesLemmas.{times-append, same_or_other}
use Rattle.page_pool.specs.Space.{SpaceState}
use Rattle.payload_chain.specs.Chains.{HasEach, HasPages}
use Rattle.db_format.specs.Spill.{local_size}
use Rattle.tree_page.specs.Page.{OnePage, leaf}
use Rattle.tree_page.specs.Written.{IsSound}
use Rattle.tree_page.specs.declared.cell.LeafCell.{LeafCell}
use Rattle.tree_page.specs.declared.cell.PageCells.TheVariants.{Leaf as LeafPage}
use Rattle.tree_model.specs.Tree.{Row, Tree, Leaf, pages_of}
use Rattle.tree_model.specs.Held.{HasCells, HasRow}
use Rattle.tree_model.specs.Laws.{chains_of}
use Rattle.tree_model.specs.Walk.{rest_of}
use Rattle.tree_model.specs.declared.ends.Fault.{Fault}
use Rattle.tree_model.specs.declared.ends.Fault.TheVariants.{Broken}
use Rattle.tree_model.proofs.OneTreeLemmas.{same_row}
use Rattle.tree_model.proofs.PathLemmas.{all_append}
use Rattle.tree_model.proofs.ReplaceLemmas.{chains_append}
use Rattle.tree_laws.proofs.RangeLemmas.{in_both}
use Rattle.tree_free.specs.declared.collect.Collected.{Collected}
use Rattle.tree_free.specs.Steps.{met_in, Grown, IsTwice, LeafGone, RowsTwice}
use Rattle.tree_free.proofs.MetLemmas.{grown_on}
use Rattle.tree_free.proofs.TopLemmas.{leaf_tree}

-- pages that are there
pub each_both : (pages : Pages) (a b : List ℕ) → HasEach pages a → HasEach pages b → HasEach pages (a ++ b)
each_both pages a b first second = record { each = in_both (HasPage pages) a b first.each second.each }

pub each_one : (pages : Pages) (x : ℕ) → HasPage pages x → HasEach pages (x ∷ [])
each_one pages x there = record {
  each = λ n some. let P : ℕ → Type 0 = HasPage pages in subst P (is_number n x some) there;
}
  where
    is_number : (n k : ℕ) → Among (k ∷ []) n → k ≡ n
    is_number n k some = elim (same_or_other n k) as (λ _. k ≡ n) [
      | inl same ↦ same.0
      | inr other ↦ absurd (omega (arith, some, other.1))
    ]

-- the page alone
pub leaf_none : (s : SpaceState) (page : ℕ) (old new : Collected) → HasPage s.pages page → Grown old new (page ∷ []) → LeafGone s page [] old new
leaf_none s page old new there grown = record { rows = []; cells_are = refl; grown = grown; there = each_one s.pages page there; held = λ t. tt }

-- the row of a cell whose chain has these pages
abbrev pub row_of : {s : SpaceState} (cell : LeafCell) {numbers : List ℕ} → HasPages s cell.overflow (rest_of cell) numbers → Row
row_of cell {numbers = numbers} has = record { cell = cell; chain = numbers; payload = cell.local ++ has.payload }

pub has_row : {s : SpaceState} (cell : LeafCell) {numbers : List ℕ} (has : HasPages s cell.overflow (rest_of cell) numbers) → length cell.local ≤ cell.payload_len → IsTrue s.tells
    → HasRow s.pages (row_of cell has)
has_row cell has kept told = record {
  rest = has.payload;
  joined = refl;
  whole = omega (arith, length-append cell.local has.payload, has.long, kept);
  chained = has.chain told;
}

-- one row more
pub leaf_more : {s : SpaceState} {page : ℕ} {front : List LeafCell} {old mid : Collected} (new : Collected) (cell : LeafCell) (numbers : List ℕ) → LeafGone s page front old mid
    → HasPages s cell.overflow (rest_of cell) numbers → length cell.local ≤ cell.payload_len → Grown mid new numbers → LeafGone s page (front ++ cell ∷ []) old new
leaf_more {s = s} {page = page} {front = front} {old = old} {mid = mid} new cell numbers gone has kept grown =
    let row : Row = row_of cell has in
    let pages_are : pages_of (Leaf page gone.rows) ++ numbers ≡ pages_of (Leaf page (gone.rows ++ row ∷ [])) =
    flat_map_more (λ (r : Row). r.chain) (page ∷ []) gone.rows row in
    let G : List ℕ → Type 0 = λ l. Grown old new l in
    let E : List ℕ → Type 0 = λ l. HasEach s.pages l in
    record {
      rows = gone.rows ++ row ∷ [];
      cells_are = map-append (λ (r : Row). r.cell) gone.rows (row ∷ []) ∙ ap (λ (l : List LeafCell). l ++ cell ∷ []) gone.cells_are;
      grown = subst G pages_are (grown_on old mid new (pages_of (Leaf page gone.rows)) numbers gone.grown grown);
      there = subst E pages_are (each_both s.pages (pages_of (Leaf page gone.rows)) numbers gone.there has.there);
      held = λ t. all_append (HasRow s.pages) gone.rows (row ∷ []) (gone.held t) (has_row cell has kept t, tt);
    }

-- other rows of the same cells begin with these
record Begins (pages : Pages) (done rows : List Row) (back : List LeafCell) : Type 0 where
  pub more : List Row
  pub are : rows ≡ done ++ more
  pub cells_are : map (λ row. row.cell) more ≡ back
  pub held : AllByRecursion (HasRow pages) more

begins : OneChain → (pages : Pages) (done rows : List Row) (back : List LeafCell) → map (λ row. row.cell) rows ≡ map (λ row. row.cell) done ++ back
    → AllByRecursion (HasRow pages) done → AllByRecursion (HasRow pages) rows → Begins pages done rows back
begins one pages [] rows back are all_done all_rows = record { more = rows; are = refl; cells_are = are; held = all_rows }
begins one pages (d ∷ done) [] back are all_done all_rows = absurd (omega (arith, ap (λ (l : List LeafCell). length l) are))
begins one pages (d ∷ done) (r ∷ rows) back are all_done all_rows =
    let heads : r.cell ≡ d.cell = cc in
    let tails : map (λ row. row.cell) rows ≡ map (λ row. row.cell) done ++ back = cc in
    let rest = begins one pages done rows back tails all_done.1 all_rows.1 in
    record {
      more = rest.more;
      are = ap₂ (λ (x : Row) (l : List Row). x ∷ l) (same_row one pages r d heads all_rows.0 all_done.0) rest.are;
      cells_are = rest.cells_are;
      held = rest.held;
    }

record First (pages : Pages) (cell : LeafCell) (rows : List Row) : Type 0 where
  pub row : Row
  pub rest : List Row
  pub are : rows ≡ row ∷ rest
  pub of_cell : row.cell ≡ cell
  pub held : HasRow pages row

first : (pages : Pages) (cell : LeafCell) (back : List LeafCell) (rows : List Row) → map (λ row. row.cell) rows ≡ cell ∷ back → AllByRecursion (HasRow pages) rows
    → First pages cell rows
first pages cell back [] are all = absurd (omega (arith, ap (λ (l : List LeafCell). length l) are))
first pages cell back (r ∷ rows) are all = let head : r.cell ≡ cell = cc in record { row = r; rest = rows; are = refl; of_cell = head; held = all.0 }

-- how often a page stands in the chains of rows
counted : (n : ℕ) (done rows more rest : List Row) (row : Row) → rows ≡ done ++ more → more ≡ row ∷ rest
    → times n (chains_of rows) ≡ times n (chains_of done) + (times n row.chain + times n (chains_of rest))
counted n done rows more rest row are first =
    omega (
      arith,
      ap (λ (l : List Row). times n (chains_of l)) are,
      ap (λ (l : List Row). times n (chains_of l)) (ap (λ (l : List Row). done ++ l) first),
      chains_append n done (row ∷ rest),
      times-append n row.chain (chains_of rest),
    )

-- a page of the chain of the next row was met before, or stands in it twice
pub row_twice : {s : SpaceState} {page : ℕ} {front : List LeafCell} {old mid : Collected} → OneChain → (cells : List LeafCell) (cell : LeafCell) (back : List LeafCell)
    (numbers : List ℕ) (number : ℕ) → IsTrue s.tells → LeafGone s page front old mid → cells ≡ front ++ cell ∷ back → HasPages s cell.overflow (rest_of cell) numbers
    → length cell.local ≤ cell.payload_len → Among numbers number → 2 ≤ met_in mid.met number + times number numbers → RowsTwice s.pages page cells old.met (Broken number)
row_twice {s = s} {page = page} {front = front} {old = old} {mid = mid} one cells cell back numbers number told gone are has kept some two = record {
  number = number;
  named = refl;
  there = has.there.each number some;
  twice = λ rows cells_are held.
      let split : map (λ row. row.cell) rows ≡ map (λ row. row.cell) gone.rows ++ cell ∷ back =
      cells_are ∙ are ∙ ap (λ (l : List LeafCell). l ++ cell ∷ back) (sym gone.cells_are) in
      let b = begins one s.pages gone.rows rows (cell ∷ back) split (gone.held told) held in
      let f = first s.pages cell back b.more b.cells_are b.held in
      let same : f.row ≡ row_of cell has = same_row one s.pages f.row (row_of cell has) f.of_cell f.held (has_row cell has kept told) in
      let chain : f.row.chain ≡ numbers = ap (λ (r : Row). r.chain) same in
      omega (arith, two, gone.grown.met_more.each number, counted number gone.rows rows b.more f.rest f.row b.are f.are, ap (times number) chain);
}

-- the page itself was met before
pub leaf_twice : (s : SpaceState) (page : ℕ) (cells : List LeafCell) (met : BTreeSet ℕ) (number : ℕ) → HasPage s.pages page → Among (page ∷ []) number
    → 2 ≤ met_in met number + times number (page ∷ []) → RowsTwice s.pages page cells met (Broken number)
leaf_twice s page cells met number there some two = record {
  number = number;
  named = refl;
  there = (each_one s.pages page there).each number some;
  twice = λ rows cells_are held. omega (arith, two);
}

-- so of the tree
pub leaf_shared : OnePage → (pages : Pages) (page : ℕ) (cells : List LeafCell) (met : BTreeSet ℕ) (fault : Fault) → HasCells pages page (LeafPage cells)
    → RowsTwice pages page cells met fault → IsTwice pages page met fault
leaf_shared one pages page cells met fault has twice = record {
  number = twice.number;
  named = twice.named;
  there = twice.there;
  twice = λ tree held rooted.
      let l = leaf_tree one pages page cells tree has held rooted in
      let P : Tree → Type 0 = λ t. 2 ≤ met_in met twice.number + times twice.number (pages_of t) in
      subst P (sym l.is) (twice.twice l.rows l.cells_are l.held);
}

-- a cell keeps no more than its payload
local_within : (usable len : ℕ) → local_size usable len ≤ len
local_within usable len = grind (arith, nat_tests)

pub kept_at : (usable : ℕ) (front : List LeafCell) (cell : LeafCell) (back : List LeafCell) → AllByRecursion (IsSound usable) (map leaf (front ++ cell ∷ back))
    → length cell.local ≤ cell.payload_len
kept_at usable [] cell back all = omega (arith, all.0.kept, local_within usable cell.payload_len)
kept_at usable (x ∷ front) cell back all = kept_at usable front cell back all.1
