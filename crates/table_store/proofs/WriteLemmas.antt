-- Rows put and taken out after the reads that find their table.
use Rattle.std.proofs.Common.{◌≡◌, inl, inr, ℕ, suc, ◌<◌, ℤ, Bool, true, false, List, [], ◌∷◌, get_or, IsTrue, subst, ◌∙◌, Option, refl}
use Rattle.std.specs.Prelude.{option_map}
use Rattle.db_format.specs.Record.{IsRecord, IsShortest, AreBytes}
use Rattle.db_format.specs.declared.value.Value.{Value}
use Rattle.db_format.specs.declared.fault.SpaceFault.{SpaceFault}
use Rattle.page_list.specs.Pages.{Pages}
use Rattle.page_pool.specs.Space.{SpaceState, Steady, Stays}
use Rattle.payload_chain.proofs.StateLemmas.{here, steady-on, stays-on}
use Rattle.tree_remove.specs.Remove.{RemoveDone, RemoveRefused}
use Rattle.tree_remove.proofs.MoveLemmas.{moved-to}
use Rattle.rowid_tree.specs.Puts.{PutDone, PutRefused, PutsRow, MayBeLarge, IsSoundlyRefused, HasWholeTree}
use Rattle.rowid_tree.specs.Removes.{RemovesRow, MayBeLargeWithout}
use Rattle.table_rows.specs.Rows.{FindsRecord}
use Rattle.book_model.specs.Book.{Name}
use Rattle.book_model.specs.Pages.{filled}
use Rattle.table_store.specs.declared.fault.TableFault.{TableFault}
use Rattle.table_store.specs.declared.fault.TableFault.TheVariants.{NoTable, Foreign, Exists, Columns, TooLong, Space}
use Rattle.table_store.specs.declared.schema.Place.{Place}
use Rattle.table_store.specs.Tables.{ReadRefused, RowMeets}
use Rattle.table_store.specs.Steps.{FindsPlace}
use Rattle.table_store.specs.Writes.{FindsTable, RowIsRead, Fit, Misfit, MisfitIn, RowPutIn, PutFails, PlaceFails, RowTakenFrom, RemoveFails}
use Rattle.table_store.proofs.ReadLemmas.{row_got}
use Rattle.table_store.proofs.MoveLemmas.{stays-met, done-moved, put_refused-moved, remove_refused-moved}

pub all_bytes : (xs : List ℕ) → ((i : ℕ) → get_or xs i 0 < 256) → AreBytes xs
all_bytes [] each = tt
all_bytes (x ∷ xs) each = (each 0, all_bytes xs (λ i. each (suc i)))

finds_table : {pages : Pages} {name : Name} {place : Place} → FindsPlace pages name place → FindsTable pages name place.root place.columns
finds_table f = record { table = f.table; finds = f.finds; rooted = f.rooted; columned = f.columned }

-- a row that was found, or none, could be read
pub row_is_read : {old mid : SpaceState} {name : Name} {rowid : ℤ} (place : Place) (row : Option (List Value)) → Steady old mid → Stays old mid → (IsTrue old.tells → FindsPlace old.pages name place)
    → (IsTrue mid.tells → FindsRecord place.columns mid.pages place.root rowid row) → IsTrue old.tells → RowIsRead old.pages name rowid
row_is_read {old = old} {name = name} {rowid = rowid} place row first stays found finds t =
    let P : Pages → Type 0 = λ pages. FindsRecord place.columns pages place.root rowid row in
    let full : Option (List Value) = option_map (filled place.columns) row in
    record { row = full; gets = row_got old.pages name place rowid row full (found t) (subst P (stays.pages_stay t) (finds (first.told ∙ t))) refl }

-- ---- refusals before anything changed

pub place_fails : (old new : SpaceState) (name : Name) (rowid : ℤ) (values : List Value) (fault : TableFault) → ReadRefused old new name (RowMeets old.pages rowid) fault
    → PlaceFails old new name rowid values fault
place_fails old new name rowid values NoTable is = is
place_fails old new name rowid values Foreign is = is
place_fails old new name rowid values Exists is = is
place_fails old new name rowid values Columns is = absurd is
place_fails old new name rowid values TooLong is = absurd is
place_fails old new name rowid values (Space fault) is = is

misfit_in : (pages : Pages) (name : Name) (place : Place) (values : List Value) (fault : TableFault) → FindsPlace pages name place → Misfit place.columns values fault → MisfitIn pages name values fault
misfit_in pages name place values fault f misfit =
    let P : ℕ → Type 0 = λ columns. Misfit columns values fault in record { table = f.table; found = f.finds; misfit = subst P f.columned misfit }

pub misfit_fails : (old new : SpaceState) (name : Name) (rowid : ℤ) (place : Place) (values : List Value) (fault : TableFault) → (IsTrue old.tells → FindsPlace old.pages name place)
    → Misfit place.columns values fault → PlaceFails old new name rowid values fault
misfit_fails old new name rowid place values NoTable f misfit = absurd misfit
misfit_fails old new name rowid place values Foreign f misfit = absurd misfit
misfit_fails old new name rowid place values Exists f misfit = misfit
misfit_fails old new name rowid place values Columns f misfit = λ t. misfit_in old.pages name place values Columns (f t) misfit
misfit_fails old new name rowid place values TooLong f misfit = λ t. misfit_in old.pages name place values TooLong (f t) misfit
misfit_fails old new name rowid place values (Space fault) f misfit = absurd misfit

pub put_fails : (old new : SpaceState) (name : Name) (rowid : ℤ) (values : List Value) (fault : TableFault) → Stays old new → PlaceFails old new name rowid values fault
    → PutFails old new name rowid values fault
put_fails old new name rowid values NoTable stays is = (stays, is)
put_fails old new name rowid values Foreign stays is = (stays, is)
put_fails old new name rowid values Exists stays is = is
put_fails old new name rowid values Columns stays is = (stays, is)
put_fails old new name rowid values TooLong stays is = (stays, is)
put_fails old new name rowid values (Space fault) stays is = inl (stays, is)

pub remove_fails : (old new : SpaceState) (name : Name) (rowid : ℤ) (fault : TableFault) → Stays old new → ReadRefused old new name (RowMeets old.pages rowid) fault
    → RemoveFails old new name rowid fault
remove_fails old new name rowid NoTable stays is = (stays, is)
remove_fails old new name rowid Foreign stays is = (stays, is)
remove_fails old new name rowid Exists stays is = is
remove_fails old new name rowid Columns stays is = is
remove_fails old new name rowid TooLong stays is = is
remove_fails old new name rowid (Space fault) stays is = inl (stays, is)

-- ---- a row put

pub row_put_in : {old mid new : SpaceState} {name : Name} {rowid : ℤ} {values : List Value} {replaced : Bool} (place : Place) (payload : List ℕ) → Steady old mid → Stays old mid → Steady mid new
    → (IsTrue old.tells → FindsPlace old.pages name place) → (IsTrue old.tells → RowIsRead old.pages name rowid) → Fit place.columns values → AreBytes payload → IsRecord payload values → IsShortest payload values
    → PutDone mid new place.root rowid payload replaced → (IsTrue mid.tells → PutsRow mid.pages new.pages place.root rowid payload replaced)
    → (IsTrue mid.tells → HasWholeTree mid.pages place.root → IsTrue new.changed) → RowPutIn old new name rowid values replaced
row_put_in {mid = mid} place payload first stays second found read fit bytes is_record shortest done puts changes = record {
  root = place.root;
  columns = place.columns;
  found = λ t. finds_table (found t);
  read = read;
  fit = fit;
  payload = payload;
  bytes = bytes;
  is_record = is_record;
  shortest = shortest;
  met = here mid;
  stays = stays-met stays;
  done = done-moved (moved-to first (steady-on first second)) done;
  puts = λ t. puts (first.told ∙ t);
  changes = λ t. changes (first.told ∙ t);
}

pub stops_putting : (old mid new : SpaceState) (name : Name) (rowid : ℤ) (values : List Value) (place : Place) (payload : List ℕ) (fault : SpaceFault) → Steady old mid → Stays old mid → Steady mid new
    → (IsTrue old.tells → FindsPlace old.pages name place) → (IsTrue old.tells → RowIsRead old.pages name rowid) → Fit place.columns values → AreBytes payload → IsRecord payload values → IsShortest payload values
    → PutRefused mid new place.root rowid payload fault → (IsTrue mid.tells → MayBeLarge mid.pages place.root rowid payload mid.page_size fault)
    → (IsTrue mid.tells → IsSoundlyRefused mid.pages place.root fault) → PutFails old new name rowid values (Space fault)
stops_putting old mid new name rowid values place payload fault first stays second found read fit bytes is_record shortest refused large clean =
    let L : ℕ → Type 0 = λ k. MayBeLarge mid.pages place.root rowid payload k fault in
    inr (record {
      root = place.root;
      columns = place.columns;
      found = λ t. finds_table (found t);
      read = read;
      fit = fit;
      payload = payload;
      bytes = bytes;
      is_record = is_record;
      shortest = shortest;
      met = here mid;
      stays = stays-met stays;
      refused = put_refused-moved place.root rowid payload fault (moved-to first (steady-on first second)) refused;
      large = λ t. subst L first.sized (large (first.told ∙ t));
      clean = λ t. clean (first.told ∙ t);
    })

-- ---- a row taken out

pub row_taken : {old mid new : SpaceState} {name : Name} {rowid : ℤ} {removed : Bool} (place : Place) → Steady old mid → Stays old mid → (IsTrue old.tells → FindsPlace old.pages name place)
    → (IsTrue old.tells → RowIsRead old.pages name rowid) → (IsTrue mid.tells → RemoveDone mid.page_size mid.pages new.pages new.changed place.root rowid removed) → (removed ≡ false → Stays mid new)
    → (IsTrue mid.tells → RemovesRow mid.pages new.pages place.root rowid removed)
    → (removed ≡ true → IsTrue mid.tells → HasWholeTree mid.pages place.root → IsTrue new.changed) → RowTakenFrom old new name rowid removed
row_taken {mid = mid} {new = new} {rowid = rowid} {removed = removed} place first stays found read done nothing removes changes =
    let D : ℕ → Type 0 = λ k. RemoveDone k mid.pages new.pages new.changed place.root rowid removed in
    record {
      root = place.root;
      columns = place.columns;
      found = λ t. finds_table (found t);
      read = read;
      met = here mid;
      stays = stays-met stays;
      done = λ t. subst D first.sized (done (first.told ∙ t));
      nothing = λ none. stays-on first stays (nothing none);
      removes = λ t. removes (first.told ∙ t);
      changes = λ was t. changes was (first.told ∙ t);
    }

pub stops_taking : (old mid new : SpaceState) (name : Name) (rowid : ℤ) (place : Place) (fault : SpaceFault) → Steady old mid → Stays old mid → Steady mid new
    → (IsTrue old.tells → FindsPlace old.pages name place) → (IsTrue old.tells → RowIsRead old.pages name rowid) → RemoveRefused mid new place.root rowid fault
    → (IsTrue mid.tells → MayBeLargeWithout mid.pages place.root rowid mid.page_size fault) → (IsTrue mid.tells → IsSoundlyRefused mid.pages place.root fault)
    → RemoveFails old new name rowid (Space fault)
stops_taking old mid new name rowid place fault first stays second found read refused large clean =
    let L : ℕ → Type 0 = λ k. MayBeLargeWithout mid.pages place.root rowid k fault in
    inr (record {
      root = place.root;
      columns = place.columns;
      found = λ t. finds_table (found t);
      read = read;
      met = here mid;
      stays = stays-met stays;
      refused = remove_refused-moved place.root rowid fault (moved-to first (steady-on first second)) refused;
      large = λ t. subst L first.sized (large (first.told ∙ t));
      clean = λ t. clean (first.told ∙ t);
    })
