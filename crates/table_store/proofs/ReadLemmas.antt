-- Reads of the schema, and of the table that a name finds there.
use Rattle.std.proofs.Common.{◌≡◌, inl, inr, ℕ, suc, ◌≤◌, ℤ, List, [], ◌∷◌, map, length, Option, Some, None, IsTrue, refl, sym, ap, subst, ◌∙◌}
use Rattle.std.specs.Prelude.{option_map}
use Rattle.std.specs.List.{AllZip}
use Rattle.page_list.specs.Pages.{Pages}
use Rattle.page_pool.specs.Space.{SpaceState, Steady, Stays}
use Rattle.db_format.specs.declared.value.Value.{Value}
use Rattle.db_format.specs.declared.fault.SpaceFault.{SpaceFault}
use Rattle.db_format.specs.declared.plain.PlainTable.{PlainTable}
use Rattle.tree_model.specs.Whole.{greatest}
use Rattle.tree_model.specs.declared.ends.Fault.{Fault}
use Rattle.tree_model.specs.declared.ends.PathEnd.TheVariants.{Ends}
use Rattle.tree_model.specs.declared.ends.WalkEnd.{WalkEnd}
use Rattle.tree_model.specs.declared.ends.WalkEnd.TheVariants.{End, StopsAt}
use Rattle.tree_model.specs.Walk.{Path, Walk}
use Rattle.tree_search.specs.Search.{SearchRefused}
use Rattle.tree_search.proofs.StateLemmas.{refused_on, refused_as}
use Rattle.table_rows.specs.Rows.{AreRecords, WalksOver, StopsAfter, CountsRows, FindsRecord, HasNextRecord}
use Rattle.book_model.specs.Book.{Name}
use Rattle.book_model.specs.Pages.{filled}
use Rattle.book_reads.specs.Reads.{least, ReadsAs, ReadsRows, HasRowOf, SchemaMeets, Says}
use Rattle.table_store.specs.declared.fault.TableFault.{TableFault}
use Rattle.table_store.specs.declared.fault.TableFault.TheVariants.{NoTable, Foreign, Exists, Columns, TooLong, Space}
use Rattle.table_store.specs.declared.schema.Place.{Place}
use Rattle.table_store.specs.Tables.{ReadMeets, ReadRefused, GetsRow, RowMeets, NextOf, ScansNext, NextMeets, Counts, CountMeets}
use Rattle.table_store.specs.Steps.{IsSchema, FindsPlace, FindsIn, NotFoundIn}

-- ---- rows as they are stored, and filled up

abbrev pub full_row : ℕ → ℤ × List Value → ℤ × List Value
full_row columns row = (row.0, filled columns row.1)

all_read : (columns : ℕ) (stored : List (ℤ × List ℕ)) (rows : List (ℤ × List Value)) → AreRecords stored rows → AllZip (ReadsAs columns) stored (map (full_row columns) rows)
all_read columns [] [] all = tt
all_read columns [] (row ∷ rows) all = absurd all
all_read columns (s ∷ stored) [] all = absurd all
all_read columns (s ∷ stored) (row ∷ rows) all =
    (record { keyed = all.0.0; values = row.1; is_record = all.0.1; filled_up = refl }, all_read columns stored rows all.1)

pub reads_over : (columns : ℕ) (pages : Pages) (root : ℕ) (low high : ℤ) (rows : List (ℤ × List Value)) (end : WalkEnd) → WalksOver columns pages root low high rows end
    → ReadsRows columns pages root low high (map (full_row columns) rows) end
reads_over columns pages root low high rows end over = record { stored = over.stored; walks = over.walks; each = all_read columns over.stored rows over.records }

-- ---- the schema

keys_stay : (rows : List (ℤ × List Value)) → map (λ row. row.0) rows ≡ map (λ (row : ℤ × List Value). row.0) (map (full_row 5) rows)
keys_stay [] = refl
keys_stay (row ∷ rows) = ap (λ (l : List ℤ). row.0 ∷ l) (keys_stay rows)

values_full : (rows : List (ℤ × List Value)) → map (λ row. filled 5 row.1) rows ≡ map (λ (row : ℤ × List Value). row.1) (map (full_row 5) rows)
values_full [] = refl
values_full (row ∷ rows) = ap (λ (l : List (List Value)). filled 5 row.1 ∷ l) (values_full rows)

pub no_schema : (pages : Pages) → pages.size ≡ 0 → (rowids : List ℤ) (values : List (List Value)) → rowids ≡ [] → values ≡ [] → IsSchema pages rowids values
no_schema pages none rowids values p q = record { items = []; has = inl (none, refl); rowids_are = p; rows_are = q }

pub is_schema : (pages : Pages) (rows : List (ℤ × List Value)) (rowids : List ℤ) (values : List (List Value)) → 1 ≤ pages.size → WalksOver 5 pages 1 least greatest rows End
    → rowids ≡ map (λ row. row.0) rows → values ≡ map (λ row. filled 5 row.1) rows → IsSchema pages rowids values
is_schema pages rows rowids values some over p q = record {
  items = map (full_row 5) rows;
  has = inr (some, reads_over 5 pages 1 least greatest rows End over);
  rowids_are = p ∙ keys_stay rows;
  rows_are = q ∙ values_full rows;
}

pub schema_refused : (old new : SpaceState) (fault : SpaceFault) → 1 ≤ old.pages.size → SearchRefused old new (StopsAfter 5 old.pages 1 least greatest) fault
    → SearchRefused old new (SchemaMeets old.pages) fault
schema_refused old new fault some refused =
    refused_as old new (StopsAfter 5 old.pages 1 least greatest) (SchemaMeets old.pages) fault
    (λ t f stops. (some, (map (full_row 5) stops.rows, reads_over 5 old.pages 1 least greatest stops.rows (StopsAt f) stops.over))) refused

-- ---- the table of a name

pub table_refused : (old new : SpaceState) (name : Name) (AtFault : PlainTable → Fault → Type 0) (fault : SpaceFault) → SearchRefused old new (SchemaMeets old.pages) fault
    → ReadRefused old new name AtFault (Space fault)
table_refused old new name AtFault fault refused = refused_as old new (SchemaMeets old.pages) (ReadMeets old.pages name AtFault) fault (λ t f meets. inl meets) refused

pub place_found : (pages : Pages) (rowids : List ℤ) (rows : List (List Value)) (name : Name) (place : Place) → IsSchema pages rowids rows → FindsIn pages.size rows name place → FindsPlace pages name place
place_found pages rowids rows name place schema f =
    let P : List (List Value) → Type 0 = λ l. Says pages.size l f.plain f.foreign f.taken in
    record {
      table = f.place_is.table;
      finds = record {
        plain = f.plain;
        foreign = f.foreign;
        taken = f.taken;
        says = record { rows = schema.items; has = schema.has; says = subst P schema.rows_are f.says };
        finds = f.place_is.finds;
      };
      rooted = f.place_is.rooted;
      columned = f.place_is.columned;
    }

pub place_refused : (old new : SpaceState) (rowids : List ℤ) (rows : List (List Value)) (name : Name) (AtFault : PlainTable → Fault → Type 0) (fault : TableFault)
    → (IsTrue old.tells → IsSchema old.pages rowids rows) → NotFoundIn old.pages.size rows name fault → ReadRefused old new name AtFault fault
place_refused old new rowids rows name AtFault NoTable schema none = λ t.
    let P : List (List Value) → Type 0 = λ l. Says old.pages.size l none.plain none.foreign none.taken in
    record {
      plain = none.plain;
      foreign = none.foreign;
      taken = none.taken;
      says = record { rows = (schema t).items; has = (schema t).has; says = subst P (schema t).rows_are none.says };
      none = none.none;
      unnamed = none.unnamed;
    }
place_refused old new rowids rows name AtFault Foreign schema none = λ t.
    let P : List (List Value) → Type 0 = λ l. Says old.pages.size l none.plain none.foreign none.taken in
    record {
      plain = none.plain;
      foreign = none.foreign;
      taken = none.taken;
      says = record { rows = (schema t).items; has = (schema t).has; says = subst P (schema t).rows_are none.says };
      none = none.none;
      named = none.named;
    }
place_refused old new rowids rows name AtFault Exists schema none = none
place_refused old new rowids rows name AtFault Columns schema none = none
place_refused old new rowids rows name AtFault TooLong schema none = none
place_refused old new rowids rows name AtFault (Space fault) schema none =
    let P : SpaceFault → Type 0 = λ f. SearchRefused old new (ReadMeets old.pages name AtFault) f in subst P (sym none) tt

pub read_refused : (old new : SpaceState) (name : Name) (AtFault : PlainTable → Fault → Type 0) (fault : TableFault) → ReadRefused old new name (λ _ _. ⊥) fault → ReadRefused old new name AtFault fault
read_refused old new name AtFault NoTable is = is
read_refused old new name AtFault Foreign is = is
read_refused old new name AtFault Exists is = is
read_refused old new name AtFault Columns is = is
read_refused old new name AtFault TooLong is = is
read_refused old new name AtFault (Space fault) is =
    refused_as old new (ReadMeets old.pages name (λ _ _. ⊥)) (ReadMeets old.pages name AtFault) fault (λ t. none) is
  where
    none : (f : Fault) → ReadMeets old.pages name (λ _ _. ⊥) f → ReadMeets old.pages name AtFault f
    none f (inl meets) = inl meets
    none f (inr there) = absurd there.met

-- a fault that is met in the table
in_table : (old mid new : SpaceState) (name : Name) (place : Place) (AtFault : Pages → ℕ → ℕ → Fault → Type 0) (fault : SpaceFault) → Steady old mid → Stays old mid
    → (IsTrue old.tells → FindsPlace old.pages name place) → SearchRefused mid new (AtFault mid.pages place.columns place.root) fault
    → ReadRefused old new name (λ table. AtFault old.pages (length table.create.columns) table.root) (Space fault)
in_table old mid new name place AtFault fault steady stays finds refused =
    refused_as old new (AtFault old.pages place.columns place.root) (ReadMeets old.pages name (λ table. AtFault old.pages (length table.create.columns) table.root)) fault
    (λ t f met.
    let found = finds t in
    let P : ℕ → ℕ → Type 0 = λ c r. AtFault old.pages c r f in
    inr (record { table = found.table; found = found.finds; met = subst (P (length found.table.create.columns)) found.rooted (subst (λ (c : ℕ). P c place.root) found.columned met) }))
    (refused_on old mid new (λ p f. AtFault p place.columns place.root f) fault steady stays refused)

-- ---- the row of a rowid

pub row_refused : (old mid new : SpaceState) (name : Name) (place : Place) (rowid : ℤ) (fault : SpaceFault) → Steady old mid → Stays old mid → (IsTrue old.tells → FindsPlace old.pages name place)
    → SearchRefused mid new (λ f. Path (Some place.columns) mid.pages place.root rowid (Ends f)) fault → ReadRefused old new name (RowMeets old.pages rowid) (Space fault)
row_refused old mid new name place rowid fault steady stays finds refused =
    in_table old mid new name place (λ p c r f. Path (Some c) p r rowid (Ends f)) fault steady stays finds refused

row_filled : (columns : ℕ) (pages : Pages) (root : ℕ) (rowid : ℤ) (row : Option (List Value)) → FindsRecord columns pages root rowid row → HasRowOf columns pages root rowid (option_map (filled columns) row)
row_filled columns pages root rowid None path = path
row_filled columns pages root rowid (Some values) finds = (finds.0, finds.1, record { keyed = refl; values = values; is_record = finds.2; filled_up = refl })

pub row_got : (pages : Pages) (name : Name) (place : Place) (rowid : ℤ) (row full : Option (List Value)) → FindsPlace pages name place → FindsRecord place.columns pages place.root rowid row
    → full ≡ option_map (filled place.columns) row → GetsRow pages name rowid full
row_got pages name place rowid row full found finds is =
    let P : ℕ → ℕ → Type 0 = λ c r. HasRowOf c pages r rowid full in
    let Q : Option (List Value) → Type 0 = λ f. HasRowOf place.columns pages place.root rowid f in
    let has = subst Q (sym is) (row_filled place.columns pages place.root rowid row finds) in
    record { table = found.table; finds = found.finds; row = subst (P (length found.table.create.columns)) found.rooted (subst (λ (c : ℕ). P c place.root) found.columned has) }

-- ---- the next row

reads_none : (columns : ℕ) (pages : Pages) (root : ℕ) (low high : ℤ) (end : WalkEnd) → Walk (Some columns) pages root low high [] end → ReadsRows columns pages root low high [] end
reads_none columns pages root low high end walks = record { stored = []; walks = walks; each = tt }

pub next_refused : (old mid new : SpaceState) (name : Name) (place : Place) (low high : ℤ) (fault : SpaceFault) → Steady old mid → Stays old mid → (IsTrue old.tells → FindsPlace old.pages name place)
    → SearchRefused mid new (λ f. Walk (Some place.columns) mid.pages place.root low high [] (StopsAt f)) fault → ReadRefused old new name (NextMeets old.pages low high) (Space fault)
next_refused old mid new name place low high fault steady stays finds refused =
    in_table old mid new name place (λ p c r f. ReadsRows c p r low high [] (StopsAt f)) fault steady stays finds
    (refused_as mid new (λ f. Walk (Some place.columns) mid.pages place.root low high [] (StopsAt f)) (λ f. ReadsRows place.columns mid.pages place.root low high [] (StopsAt f)) fault
    (λ t f walks. reads_none place.columns mid.pages place.root low high (StopsAt f) walks) refused)

next_filled : (columns : ℕ) (pages : Pages) (root : ℕ) (low high : ℤ) (row : Option (ℤ × List Value)) → HasNextRecord columns pages root low high row
    → NextOf columns pages root low high (option_map (full_row columns) row)
next_filled columns pages root low high None walks = reads_none columns pages root low high End walks
next_filled columns pages root low high (Some row) is = (
  is.in_range,
  record { stored = (row.0, is.payload); next = is.next; reads = record { keyed = refl; values = row.1; is_record = is.is_record; filled_up = refl } },
)

pub next_scanned : (pages : Pages) (name : Name) (place : Place) (low high : ℤ) (row full : Option (ℤ × List Value)) → FindsPlace pages name place → HasNextRecord place.columns pages place.root low high row
    → full ≡ option_map (full_row place.columns) row → ScansNext pages name low high full
next_scanned pages name place low high row full found finds is =
    let P : ℕ → ℕ → Type 0 = λ c r. NextOf c pages r low high full in
    let Q : Option (ℤ × List Value) → Type 0 = λ f. NextOf place.columns pages place.root low high f in
    let has = subst Q (sym is) (next_filled place.columns pages place.root low high row finds) in
    record { table = found.table; finds = found.finds; next = subst (P (length found.table.create.columns)) found.rooted (subst (λ (c : ℕ). P c place.root) found.columned has) }

-- ---- how many rows

as_many : (columns : ℕ) (stored : List (ℤ × List ℕ)) (rows : List (ℤ × List Value)) → AreRecords stored rows → length stored ≡ length (map (full_row columns) rows)
as_many columns [] [] all = refl
as_many columns [] (row ∷ rows) all = absurd all
as_many columns (s ∷ stored) [] all = absurd all
as_many columns (s ∷ stored) (row ∷ rows) all = ap suc (as_many columns stored rows all.1)

pub rows_counted : (pages : Pages) (name : Name) (place : Place) (count : ℕ) → FindsPlace pages name place → CountsRows place.columns pages place.root count → Counts pages name count
rows_counted pages name place count found counts =
    let P : ℕ → ℕ → Type 0 = λ c r. ReadsRows c pages r least greatest (map (full_row place.columns) counts.rows) End in
    let walk = reads_over place.columns pages place.root least greatest counts.rows End counts.over in
    record {
      table = found.table;
      finds = found.finds;
      rows = map (full_row place.columns) counts.rows;
      walk = subst (P (length found.table.create.columns)) found.rooted (subst (λ (c : ℕ). P c place.root) found.columned walk);
      counted = counts.counted ∙ as_many place.columns counts.over.stored counts.rows counts.over.records;
    }

pub count_refused : (old mid new : SpaceState) (name : Name) (place : Place) (fault : SpaceFault) → Steady old mid → Stays old mid → (IsTrue old.tells → FindsPlace old.pages name place)
    → SearchRefused mid new (StopsAfter place.columns mid.pages place.root least greatest) fault → ReadRefused old new name (CountMeets old.pages) (Space fault)
count_refused old mid new name place fault steady stays finds refused =
    in_table old mid new name place (λ p c r f. (rows : List (ℤ × List Value)) × ReadsRows c p r least greatest rows (StopsAt f)) fault steady stays finds
    (refused_as mid new (StopsAfter place.columns mid.pages place.root least greatest) (λ f. (rows : List (ℤ × List Value)) × ReadsRows place.columns mid.pages place.root least greatest rows (StopsAt f)) fault
    (λ t f stops. (map (full_row place.columns) stops.rows, reads_over place.columns mid.pages place.root least greatest stops.rows (StopsAt f) stops.over)) refused)
