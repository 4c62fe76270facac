-- Rows are counted: each is of a cell of its own, and pages have fewer cells than a counter of 64 bits can count.
use Rattle.std.proofs.Common.{◌≡◌, ◌⊎◌, ℕ, zero, suc, ◌+◌, ◌*◌, ◌<◌, ◌≤◌, Bool, true, false, ℤ, pos, ◌+ℤ◌, ◌≤ℤ◌, ◌<ℤ◌, int_le, if◌then◌else◌, List, [], ◌∷◌, ◌++◌, length, min, map, IsTrue, length-append, Option, None, Some, inl, inr, refl, sym, ap, ◌∙◌, subst, arith}
use Rattle.std.specs.List.{slice_get}
use Rattle.std.proofs.lemmas.Int.{ints}
use Rattle.std.proofs.lemmas.List.{length-map, length-take}
use Rattle.std.proofs.lemmas.Slice.Zip.{AllZip-long}
use Rattle.std.proofs.Math.Nat.{mul-le-mul_left}
use Rattle.page_list.specs.Pages.{Pages, Among, AllDifferent}
use Rattle.page_list.proofs.TimesLemmas.{among-first, different-first, no_more_than}
use Rattle.page_pool.specs.Space.{SpaceState, HasSizes, Steady, Stays}
use Rattle.db_format.specs.declared.value.Value.{Value}
use Rattle.db_format.specs.declared.fault.SpaceFault.{SpaceFault}
use Rattle.tree_page.specs.Page.{IsPage, OnePage}
use Rattle.tree_page.specs.declared.cell.LeafCell.{LeafCell}
use Rattle.tree_page.specs.declared.cell.PageCells.TheVariants.{Leaf as LeafPage}
use Rattle.tree_model.specs.Held.{HasCells}
use Rattle.tree_model.specs.declared.ends.Next.{Next}
use Rattle.tree_model.specs.declared.ends.Next.TheVariants.{Found}
use Rattle.tree_model.specs.declared.ends.WalkEnd.TheVariants.{End, StopsAt}
use Rattle.tree_model.specs.Whole.{most_depth, greatest}
use Rattle.tree_model.specs.Walk.{Seeks, FirstOf, IsNext, Walk, first_from, in_leaf, children_from}
use Rattle.tree_search.specs.Search.{SearchRefused}
use Rattle.tree_search.proofs.StateLemmas.{refused_on, refused_as}
use Rattle.table_rows.specs.Rows.{IsNextRecord, least, CountsRows, WalksOver, StopsAfter}
use Rattle.table_rows.specs.Steps.{HasRows}
use Rattle.table_rows.proofs.WalkLemmas.{rows_none, rows_more, rows_last, rows_end}

-- ---- the cell of a row that was found

-- a leaf of the pages has a cell at a place
pub record IsOn (pages : Pages) (leaf : ℕ) (cell : LeafCell) : Type 0 where
  pub cells : List LeafCell
  pub has : HasCells pages leaf (LeafPage cells)
  pub at : ℕ
  pub at_is : slice_get cells at ≡ Some cell

found_at : (key : ℤ) (c cell : LeafCell) (more : List LeafCell) (test : Bool) → (if test then Some c else first_from key more) ≡ Some cell
    → (first_from key more ≡ Some cell → (at : ℕ) × (slice_get more at ≡ Some cell)) → (at : ℕ) × (slice_get (c ∷ more) at ≡ Some cell)
found_at key c cell more true is rest = (0, is)
found_at key c cell more false is rest = let found = rest is in (suc found.0, found.1)

first_at : (key : ℤ) (cells : List LeafCell) (cell : LeafCell) → first_from key cells ≡ Some cell → (at : ℕ) × (slice_get cells at ≡ Some cell)
first_at key [] cell is = cc
first_at key (c ∷ more) cell is = found_at key c cell more (int_le key c.rowid) is (first_at key more cell)

on_leaf : (pages : Pages) (page leaf : ℕ) (cell : LeafCell) (key : ℤ) (cells : List LeafCell) (first : Option LeafCell) → HasCells pages page (LeafPage cells)
    → first_from key cells ≡ first → Found leaf cell ≡ in_leaf page first → IsOn pages leaf cell
on_leaf pages page leaf cell key cells None has first is = cc
on_leaf pages page leaf cell key cells (Some c) has first is =
    let same : leaf ≡ page = cc in
    let P : ℕ → Type 0 = λ n. HasCells pages n (LeafPage cells) in
    let this : first_from key cells ≡ Some cell = cc in
    let found = first_at key cells cell this in
    record { cells = cells; has = subst P (sym same) has; at = found.0; at_is = found.1 }

on_first : (Below : ℤ → ℕ → Next → Type 0) (pages : Pages) (leaf : ℕ) (cell : LeafCell) → ((from : ℤ) (child : ℕ) → Below from child (Found leaf cell) → IsOn pages leaf cell)
    → (from : ℤ) (children : List ℕ) → FirstOf Below from children (Found leaf cell) → IsOn pages leaf cell
on_first Below pages leaf cell each from [] is = cc
on_first Below pages leaf cell each from (child ∷ more) (inl first) = each from child first.0
on_first Below pages leaf cell each from (child ∷ more) (inr rest) = on_first Below pages leaf cell each _ more rest.1

is_on : (left : ℕ) (pages : Pages) (key : ℤ) (above : ℕ) (from : ℤ) (page leaf : ℕ) (cell : LeafCell) → Seeks left pages key above from page (Found leaf cell) → IsOn pages leaf cell
is_on zero pages key above from page leaf cell (fault, is, met) = cc
is_on (suc left) pages key above from page leaf cell (inl (fault, is, met)) = cc
is_on (suc left) pages key above from page leaf cell (inr (inl (cells, has, met))) = on_leaf pages page leaf cell key cells (first_from key cells) has refl met
is_on (suc left) pages key above from page leaf cell (inr (inr (cells, right, has, first))) =
    on_first (Seeks left pages key page) pages leaf cell (λ f child below. is_on left pages key page f child leaf cell below) from (children_from from cells right) first

-- ---- a number for each cell

-- the number is that of the cell of a row
pub record IsCell (pages : Pages) (number : ℕ) (rowid : ℤ) : Type 0 where
  pub leaf : ℕ
  pub cell : LeafCell
  pub on : IsOn pages leaf cell
  pub keyed : rowid ≡ cell.rowid
  pub small : on.at < 65536
  pub number_is : number ≡ leaf * 65536 + on.at

got_within : {A : Type 0} (items : List A) (at : ℕ) (item : A) → slice_get items at ≡ Some item → at < length items
got_within [] at item is = cc
got_within (x ∷ more) zero item is = omega arith
got_within (x ∷ more) (suc at) item is = omega (arith, got_within more at item is)

long_map : {A B C : Type 0} (f : A → C) (g : B → C) (xs : List A) (ys : List B) → map f xs ≡ map g ys → length xs ≡ length ys
long_map f g xs ys is = sym (length-map xs f) ∙ ap length is ∙ length-map ys g

few_cells : (page : List ℕ) (number usable : ℕ) (cells : List LeafCell) → IsPage page number usable (LeafPage cells) → 2 * length cells ≤ usable
few_cells page number usable cells is =
    omega (arith, is.pointers_within, length-take usable page, long_map _ _ cells is.placed is.cells_are)

cell_of : (pages : Pages) (leaf : ℕ) (cell : LeafCell) (rowid : ℤ) → pages.usable ≤ 65536 → rowid ≡ cell.rowid → IsOn pages leaf cell → (number : ℕ) × IsCell pages number rowid
cell_of pages leaf cell rowid usable keyed on =
    let few = few_cells (pages.bytes leaf) leaf pages.usable on.cells on.has.reads in (
      leaf * 65536 + on.at,
      record {
        leaf = leaf;
        cell = cell;
        on = on;
        keyed = keyed;
        small = omega (arith, few, got_within on.cells on.at cell on.at_is);
        number_is = refl;
      },
    )

next_cell : (columns : Option ℕ) (pages : Pages) (root : ℕ) (high key : ℤ) (row : ℤ × List ℕ) → pages.usable ≤ 65536 → IsNext columns pages root high key row
    → (number : ℕ) × IsCell pages number row.0
next_cell columns pages root high key row usable next =
    cell_of pages next.leaf next.cell row.0 usable next.keyed (is_on most_depth pages key root key root next.leaf next.cell next.sought)

-- the cell of a number has one rowid
same_cells : (cells others : List LeafCell) → LeafPage cells ≡ LeafPage others → cells ≡ others
same_cells cells others is = cc

one_rowid : OnePage → (pages : Pages) (number : ℕ) (a b : ℤ) → IsCell pages number a → IsCell pages number b → a ≡ b
one_rowid one pages number a b p q =
    let leaves : p.leaf ≡ q.leaf = omega (arith, p.number_is, q.number_is, p.small, q.small) in
    let places : p.on.at ≡ q.on.at = omega (arith, p.number_is, q.number_is, p.small, q.small) in
    let P : ℕ → Type 0 = λ n. HasCells pages n (LeafPage p.on.cells) in
    let moved = subst P leaves p.on.has in
    let same = same_cells p.on.cells q.on.cells (one (pages.bytes q.leaf) q.leaf pages.usable (LeafPage p.on.cells) (LeafPage q.on.cells) moved.reads q.on.has.reads) in
    let found : Some p.cell ≡ Some q.cell = sym p.on.at_is ∙ ap (λ (l : List LeafCell). slice_get l p.on.at) same ∙ ap (slice_get q.on.cells) places ∙ q.on.at_is in
    let cell : p.cell ≡ q.cell = cc in
    p.keyed ∙ ap (λ (c : LeafCell). c.rowid) cell ∙ sym q.keyed

-- ---- the numbers of the rows so far

-- the number is that of a cell whose rowid is before a key
pub record IsBefore (pages : Pages) (key : ℤ) (number : ℕ) : Type 0 where
  pub rowid : ℤ
  pub of_cell : IsCell pages number rowid
  pub before : rowid <ℤ key

pub record AreBefore (pages : Pages) (key : ℤ) (numbers : List ℕ) : Type 0 where
  pub different : AllDifferent numbers
  pub each : (number : ℕ) → Among numbers number → IsBefore pages key number

before_on : (pages : Pages) (key rowid next : ℤ) (new : ℕ) (numbers : List ℕ) (number : ℕ) → key ≤ℤ rowid → next ≡ rowid +ℤ pos 1 → IsCell pages new rowid
    → AreBefore pages key numbers → (new ≡ number) ⊎ Among numbers number → IsBefore pages next number
before_on pages key rowid next new numbers number behind is of before (inl same) =
    let P : ℕ → Type 0 = λ n. IsCell pages n rowid in
    record { rowid = rowid; of_cell = subst P same of; before = omega (arith, ints) }
before_on pages key rowid next new numbers number behind is of before (inr among) =
    let old = before.each number among in
    record { rowid = old.rowid; of_cell = old.of_cell; before = omega (arith, ints, old.before) }

before_more : OnePage → (pages : Pages) (key rowid next : ℤ) (new : ℕ) (numbers : List ℕ) → key ≤ℤ rowid → next ≡ rowid +ℤ pos 1 → IsCell pages new rowid
    → AreBefore pages key numbers → AreBefore pages next (new ∷ numbers)
before_more one pages key rowid next new numbers behind is of before = record {
  different = different-first new numbers before.different
      (λ among.
      let old = before.each new among in
      omega (arith, ints, old.before, one_rowid one pages new old.rowid rowid old.of_cell of));
  each = λ number among. before_on pages key rowid next new numbers number behind is of before (among-first number new numbers among);
}

in_pages : (pages : Pages) (number : ℕ) (rowid : ℤ) → IsCell pages number rowid → (1 ≤ number) × (number ≤ pages.size * 65536 + 65535)
in_pages pages number rowid of =
    (omega (arith, of.number_is, of.on.has.there.least), omega (arith, of.number_is, of.small, of.on.has.there.most))

few_rows : (s : SpaceState) (key : ℤ) (numbers : List ℕ) → HasSizes s → AreBefore s.pages key numbers → length numbers < 18446744073709551615
few_rows s key numbers sizes before =
    let few = no_more_than (s.pages.size * 65536 + 65535) numbers before.different
    (λ number among. let old = before.each number among in in_pages s.pages number old.rowid old.of_cell) in
    let size : s.pages.size * 1 ≤ s.pages.size * s.page_size = mul-le-mul_left s.pages.size (omega (arith, sizes.size_of_page.least)) in
    omega (arith, few, size, sizes.few)

-- ---- the count

-- a walk over all rowids has given so many rows, and goes on at a key
pub record HasCounted (columns : ℕ) (pages : Pages) (root count : ℕ) (key : ℤ) : Type 0 where
  pub rows : List (ℤ × List Value)
  pub has : HasRows columns pages root least greatest rows key
  pub counted : count ≡ length rows
  pub numbers : List ℕ
  pub as_long : count ≡ length numbers
  pub before : AreBefore pages key numbers

pub counted_none : (columns : ℕ) (pages : Pages) (root : ℕ) → HasCounted columns pages root 0 least
counted_none columns pages root = record {
  rows = [];
  has = rows_none columns pages root least greatest;
  counted = refl;
  numbers = [];
  as_long = refl;
  before = record { different = record { once = λ n. omega arith }; each = λ n among. absurd (omega arith) };
}

-- the numbers with that of the next row
record OneMore (pages : Pages) (count : ℕ) (next : ℤ) : Type 0 where
  pub numbers : List ℕ
  pub as_long : length numbers ≡ count + 1
  pub before : AreBefore pages next numbers

number_more : OnePage → (columns : ℕ) (s : SpaceState) (root count : ℕ) (key next : ℤ) (row : ℤ × List Value) → HasSizes s → HasCounted columns s.pages root count key
    → IsNextRecord columns s.pages root key greatest row → key ≤ℤ row.0 → next ≡ row.0 +ℤ pos 1 → OneMore s.pages count next
number_more one columns s root count key next row sizes has follows behind is =
    let new = next_cell (Some columns) s.pages root greatest key (row.0, follows.payload) (omega (arith, sizes.most, sizes.size_of_page.most)) follows.next in
    record {
      numbers = new.0 ∷ has.numbers;
      as_long = omega (arith, has.as_long);
      before = before_more one s.pages key row.0 next new.0 has.numbers behind is new.1 has.before;
    }

-- so one more can be counted
not_full : (s : SpaceState) (count new : ℕ) (next : ℤ) → HasSizes s → OneMore s.pages count next → new ≡ min (count + 1) 18446744073709551615 → new ≡ count + 1
not_full s count new next sizes more is = omega (arith, few_rows s next more.numbers sizes more.before, more.as_long)

long_more : {A : Type 0} (items : List A) (item : A) → length (items ++ item ∷ []) ≡ length items + 1
long_more items item = length-append items (item ∷ [])

pub counted_more : OnePage → (columns : ℕ) (s : SpaceState) (root count new : ℕ) (key next : ℤ) (row : ℤ × List Value) → HasSizes s → HasCounted columns s.pages root count key
    → IsNextRecord columns s.pages root key greatest row → key ≤ℤ row.0 → row.0 <ℤ greatest → new ≡ min (count + 1) 18446744073709551615 → next ≡ row.0 +ℤ pos 1
    → HasCounted columns s.pages root new next
counted_more one columns s root count new key next row sizes has follows behind below new_is next_is =
    let more = number_more one columns s root count key next row sizes has follows behind next_is in
    let is = not_full s count new next sizes more new_is in
    record {
      rows = has.rows ++ row ∷ [];
      has = rows_more columns s.pages root least greatest has.rows (has.rows ++ row ∷ []) key next row has.has follows below refl next_is;
      counted = omega (arith, is, has.counted, long_more has.rows row);
      numbers = more.numbers;
      as_long = is ∙ sym more.as_long;
      before = more.before;
    }

as_stored : (columns : ℕ) (pages : Pages) (root count : ℕ) (rows : List (ℤ × List Value)) → count ≡ length rows → WalksOver columns pages root least greatest rows End
    → CountsRows columns pages root count
as_stored columns pages root count rows is over = record { rows = rows; over = over; counted = is ∙ AllZip-long _ over.stored rows over.records }

pub counted_last : OnePage → (columns : ℕ) (s : SpaceState) (root count new : ℕ) (key : ℤ) (row : ℤ × List Value) → HasSizes s → HasCounted columns s.pages root count key
    → IsNextRecord columns s.pages root key greatest row → key ≤ℤ row.0 → row.0 ≡ greatest → new ≡ min (count + 1) 18446744073709551615 → CountsRows columns s.pages root new
counted_last one columns s root count new key row sizes has follows behind last new_is =
    let more = number_more one columns s root count key (row.0 +ℤ pos 1) row sizes has follows behind refl in
    let is = not_full s count new (row.0 +ℤ pos 1) sizes more new_is in
    as_stored columns s.pages root new (has.rows ++ row ∷ []) (omega (arith, is, has.counted, long_more has.rows row))
    (rows_last columns s.pages root least greatest has.rows (has.rows ++ row ∷ []) key row has.has follows last refl)

pub counted_end : (columns : ℕ) (pages : Pages) (root count : ℕ) (key : ℤ) → HasCounted columns pages root count key → Walk (Some columns) pages root key greatest [] End
    → CountsRows columns pages root count
counted_end columns pages root count key has ends =
    as_stored columns pages root count has.rows has.counted (rows_end columns pages root least greatest has.rows key End has.has ends)

pub counted_refused : (columns : ℕ) (old mid new : SpaceState) (root count : ℕ) (key : ℤ) (fault : SpaceFault) → Steady old mid → Stays old mid
    → (IsTrue old.tells → HasCounted columns old.pages root count key)
    → SearchRefused mid new (λ f. Walk (Some columns) mid.pages root key greatest [] (StopsAt f)) fault
    → SearchRefused old new (StopsAfter columns old.pages root least greatest) fault
counted_refused columns old mid new root count key fault steady stays has refused =
    refused_as old new (λ f. Walk (Some columns) old.pages root key greatest [] (StopsAt f)) (StopsAfter columns old.pages root least greatest) fault
    (λ t f stops. record { rows = (has t).rows; over = rows_end columns old.pages root least greatest (has t).rows key (StopsAt f) (has t).has stops })
    (refused_on old mid new (λ p f. Walk (Some columns) p root key greatest [] (StopsAt f)) fault steady stays refused)
