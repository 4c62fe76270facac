-- Rows that are records, and rows that are none.
use Rattle.std.proofs.Common.{◌≡◌, ◌⊎◌, ℕ, ◌≤◌, ◌<◌, ℤ, ◌≤ℤ◌, ◌<ℤ◌, List, [], length, None, Some, IsTrue, inl, inr, refl, sym, subst, arith}
use Rattle.std.proofs.lemmas.Int.{ints}
use Rattle.page_list.specs.Pages.{Pages}
use Rattle.page_pool.specs.Space.{SpaceState}
use Rattle.db_format.specs.Record.{IsRecord, OneRecord}
use Rattle.db_format.specs.Schema.{IsRecordOf}
use Rattle.db_format.specs.declared.value.Value.{Value}
use Rattle.db_format.specs.declared.fault.SpaceFault.{SpaceFault}
use Rattle.db_format.specs.declared.fault.SpaceFault.TheVariants.{Failed, Memory, Bad, Corrupt, Large}
use Rattle.tree_page.specs.declared.cell.LeafCell.{LeafCell}
use Rattle.tree_model.specs.declared.ends.Fault.{Fault}
use Rattle.tree_model.specs.declared.ends.Fault.TheVariants.{Broken}
use Rattle.tree_model.specs.declared.ends.PathEnd.TheVariants.{HasPayload, Ends}
use Rattle.tree_model.specs.declared.ends.WalkEnd.TheVariants.{End, StopsAt}
use Rattle.tree_model.specs.declared.ends.Next.TheVariants.{Found, Nothing, Meets}
use Rattle.tree_model.specs.Walk.{IsReadable, IsUnreadable, Path, IsLast, Walk, NextFrom}
use Rattle.tree_search.specs.declared.row.OnLeaf.{OnLeaf}
use Rattle.tree_search.specs.Search.{EndsAlways, LeadsToRow, FindsOnLeaf, NextMeets, SearchRefused}
use Rattle.tree_search.proofs.StateLemmas.{refused_as}
use Rattle.table_rows.specs.Rows.{FindsRecord, IsNextRecord}
use Rattle.table_rows.specs.Steps.{IsNoRecord}

-- ---- a payload

-- one that is a record of too many values is none of so many
pub too_many : OneRecord → (columns : ℕ) (payload : List ℕ) (values : List Value) → IsRecord payload values → columns < length values → ¬ (IsRecordOf columns payload)
too_many one columns payload values is many of =
    let P : List Value → Type 0 = λ l. length l ≤ columns in
    let few : length values ≤ columns = subst P (one payload of.values values of.is_record is) of.few in
    omega arith

pub no_record : (columns : ℕ) (payload seen : List ℕ) → seen ≡ payload → ((values : List Value) → ¬ (IsRecord seen values)) → ¬ (IsRecordOf columns payload)
no_record columns payload seen is none of =
    let P : List ℕ → Type 0 = λ l. IsRecord l of.values in
    none of.values (subst P (sym is) of.is_record)

readable : (columns : ℕ) (pages : Pages) (cell : LeafCell) (payload : List ℕ) (values : List Value) → IsReadable None pages cell payload → IsRecord payload values
    → length values ≤ columns → IsReadable (Some columns) pages cell payload
readable columns pages cell payload values read is few = record {
  chain = read.chain;
  has_row = read.has_row;
  accepted = record { values = values; is_record = is; few = few };
}

unreadable : (columns : ℕ) (pages : Pages) (leaf : ℕ) (cell : LeafCell) (payload : List ℕ) → IsReadable None pages cell payload → ¬ (IsRecordOf columns payload)
    → IsUnreadable (Some columns) pages leaf cell (Broken leaf)
unreadable columns pages leaf cell payload read none =
    inr (inr (record { row = record { cell = cell; chain = read.chain; payload = payload }; of_cell = refl; has_row = read.has_row; refused = none; named = refl }))

-- what cannot be read at all is no record either
never_readable : (columns : ℕ) (pages : Pages) (leaf : ℕ) (cell : LeafCell) (fault : Fault) → IsUnreadable None pages leaf cell fault → IsUnreadable (Some columns) pages leaf cell fault
never_readable columns pages leaf cell fault (inl breaks) = inl breaks
never_readable columns pages leaf cell fault (inr (inl fails)) = inr (inl fails)
never_readable columns pages leaf cell fault (inr (inr refused)) = absurd (refused.refused tt)

-- ---- the row of a rowid

pub way_refused : (columns : ℕ) (old new : SpaceState) (root : ℕ) (key : ℤ) (fault : SpaceFault) → SearchRefused old new (λ f. EndsAlways old.pages root key (Ends f)) fault
    → SearchRefused old new (λ f. Path (Some columns) old.pages root key (Ends f)) fault
way_refused columns old new root key fault refused =
    refused_as old new (λ f. EndsAlways old.pages root key (Ends f)) (λ f. Path (Some columns) old.pages root key (Ends f)) fault (λ t f ends. ends.path (Some columns)) refused

pub row_found : (columns : ℕ) (pages : Pages) (root : ℕ) (key : ℤ) (row : OnLeaf) (values : List Value) → LeadsToRow pages root key row → IsRecord row.payload values
    → length values ≤ columns → FindsRecord columns pages root key (Some values)
row_found columns pages root key row values leads is few =
    let read = readable columns pages leads.cell row.payload values leads.readable is few in
    (row.payload, leads.path (Some columns) (HasPayload row.payload) (inr (leads.of_key, inl (row.payload, read, refl))), is)

pub row_refused : (columns : ℕ) (old new : SpaceState) (root : ℕ) (key : ℤ) (row : OnLeaf) (fault : SpaceFault) → (IsTrue old.tells → LeadsToRow old.pages root key row)
    → IsNoRecord columns row fault → SearchRefused old new (λ f. Path (Some columns) old.pages root key (Ends f)) fault
row_refused columns old new root key row Failed leads is = absurd is
row_refused columns old new root key row Memory leads is = tt
row_refused columns old new root key row (Bad page kept found) leads is = absurd is
row_refused columns old new root key row (Corrupt page) leads is = λ t.
    let P : ℕ → Type 0 = λ n. Path (Some columns) old.pages root key (Ends (Broken n)) in
    let way = leads t in
    let none = unreadable columns old.pages row.leaf way.cell row.payload way.readable is.1 in
    subst P (sym is.0) (way.path (Some columns) (Ends (Broken row.leaf)) (inr (way.of_key, inr (Broken row.leaf, none, refl))))
row_refused columns old new root key row (Large pages) leads is = absurd is

-- ---- the next row

-- a walk that ends before any row
pub none_left : (columns : ℕ) (pages : Pages) (root : ℕ) (from to : ℤ) → from ≤ℤ to → NextFrom pages root from Nothing → Walk (Some columns) pages root from to [] End
none_left columns pages root from to within sought = inr (within, (Nothing, sought, refl))

pub row_past : (columns : ℕ) (pages : Pages) (root : ℕ) (from to : ℤ) (row : OnLeaf) → from ≤ℤ to → FindsOnLeaf pages root from row → to <ℤ row.rowid
    → Walk (Some columns) pages root from to [] End
row_past columns pages root from to row within finds past =
    let above : to <ℤ finds.cell.rowid = omega (arith, ints, finds.keyed) in
    inr (within, (Found row.leaf finds.cell, finds.sought, inl (above, inl (row.payload, finds.readable, refl))))

pub next_found : (columns : ℕ) (pages : Pages) (root : ℕ) (from to : ℤ) (row : OnLeaf) (values : List Value) → from ≤ℤ to → FindsOnLeaf pages root from row → row.rowid ≤ℤ to
    → IsRecord row.payload values → length values ≤ columns → IsNextRecord columns pages root from to (row.rowid, values)
next_found columns pages root from to row values within finds below is few = record {
  in_range = within;
  payload = row.payload;
  next = record {
    leaf = row.leaf;
    cell = finds.cell;
    sought = finds.sought;
    keyed = finds.keyed;
    within = omega (arith, ints, finds.keyed);
    readable = readable columns pages finds.cell row.payload values finds.readable is few;
  };
  is_record = is;
}

-- the search meets a fault, on its way or in the chain of the row
chain_stops : (columns : ℕ) (pages : Pages) (to : ℤ) (leaf : ℕ) (cell : LeafCell) (fault : Fault) → (to <ℤ cell.rowid) ⊎ (cell.rowid ≤ℤ to)
    → IsUnreadable None pages leaf cell fault → IsLast (Some columns) pages to (Found leaf cell) (StopsAt fault)
chain_stops columns pages to leaf cell fault (inl past) none = inl (past, inr (fault, none, refl))
chain_stops columns pages to leaf cell fault (inr within) none = inr (within, (fault, never_readable columns pages leaf cell fault none, refl))

past_or_within : (a b : ℤ) → (b <ℤ a) ⊎ (a ≤ℤ b)
past_or_within a b = grind (arith, ints)

search_stops : (columns : ℕ) (pages : Pages) (root : ℕ) (from to : ℤ) (fault : Fault) → from ≤ℤ to → NextMeets pages root from fault
    → Walk (Some columns) pages root from to [] (StopsAt fault)
search_stops columns pages root from to fault within (inl met) = inr (within, (Meets fault, met, refl))
search_stops columns pages root from to fault within (inr finds) =
    inr (within, (Found finds.leaf finds.cell, finds.sought, chain_stops columns pages to finds.leaf finds.cell fault (past_or_within finds.cell.rowid to) finds.unreadable))

pub search_refused : (columns : ℕ) (old new : SpaceState) (root : ℕ) (from to : ℤ) (fault : SpaceFault) → from ≤ℤ to → SearchRefused old new (NextMeets old.pages root from) fault
    → SearchRefused old new (λ f. Walk (Some columns) old.pages root from to [] (StopsAt f)) fault
search_refused columns old new root from to fault within refused =
    refused_as old new (NextMeets old.pages root from) (λ f. Walk (Some columns) old.pages root from to [] (StopsAt f)) fault
    (λ t f meets. search_stops columns old.pages root from to f within meets) refused

-- the row is no record
pub next_refused : (columns : ℕ) (old new : SpaceState) (root : ℕ) (from to : ℤ) (row : OnLeaf) (fault : SpaceFault) → from ≤ℤ to
    → (IsTrue old.tells → FindsOnLeaf old.pages root from row) → row.rowid ≤ℤ to → IsNoRecord columns row fault
    → SearchRefused old new (λ f. Walk (Some columns) old.pages root from to [] (StopsAt f)) fault
next_refused columns old new root from to row Failed within finds below is = absurd is
next_refused columns old new root from to row Memory within finds below is = tt
next_refused columns old new root from to row (Bad page kept found) within finds below is = absurd is
next_refused columns old new root from to row (Corrupt page) within finds below is = λ t.
    let found = finds t in
    let P : ℕ → Type 0 = λ n. Walk (Some columns) old.pages root from to [] (StopsAt (Broken n)) in
    let here : found.cell.rowid ≤ℤ to = omega (arith, ints, found.keyed) in
    let none = unreadable columns old.pages row.leaf found.cell row.payload found.readable is.1 in
    subst P (sym is.0) (inr (within, (Found row.leaf found.cell, found.sought, inr (here, (Broken row.leaf, none, refl)))))
next_refused columns old new root from to row (Large pages) within finds below is = absurd is
