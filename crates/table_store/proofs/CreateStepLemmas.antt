-- A table made, step by step, said of the state before.
use Rattle.std.proofs.Common.{◌≡◌, inl, inr, ℕ, ℤ, ◌-◌, ◌≤◌, List, [], ◌∷◌, Option, Some, None, Bool, IsTrue, Err, sym, subst, ◌∙◌, arith}
use Rattle.page_list.specs.Edits.{grown, after_take}
use Rattle.page_pool.specs.Space.{SpaceState, Steady, Stays, Grew, GrowCause}
use Rattle.page_pool.specs.Pool.{Grows, Taken}
use Rattle.payload_chain.specs.Chains.{midway}
use Rattle.payload_chain.proofs.StateLemmas.{here, steady-on}
use Rattle.db_format.specs.Record.{IsRecord, IsShortest, AreBytes}
use Rattle.db_format.specs.declared.create.Create.{Create}
use Rattle.db_format.specs.declared.value.Value.{Value}
use Rattle.db_format.specs.declared.fault.SpaceFault.{SpaceFault}
use Rattle.db_format.specs.declared.fault.SpaceFault.TheVariants.{Failed, Memory, Bad, Corrupt, Large}
use Rattle.tree_page.specs.declared.cell.LeafCell.{LeafCell}
use Rattle.tree_remove.proofs.MoveLemmas.{Moved, moved-midway, moved-to, within, back, stays-moved, take_refused-moved, put_refused-moved as page_refused-moved}
use Rattle.rowid_tree.specs.Steps.{RestWritten, ReplacedFreed}
use Rattle.rowid_tree.specs.Puts.{PutDone, MayBeLarge}
use Rattle.rowid_tree.specs.Roots.{EmptyLeaf, RootMade, RootRefused, AddsRoot}
use Rattle.book_model.specs.Book.{Name, entry_row}
use Rattle.book_changes.specs.First.{IsFirstPage}
use Rattle.table_store.specs.declared.fault.TableFault.TheVariants.{Space}
use Rattle.table_store.specs.Cookie.{CookieRaised, CookieRefused}
use Rattle.table_store.specs.Made.{IsFreeIn, NameFree, Begins, BeginRefused, IsEntryRecord, EntryPut, EntryRefused, Begun, Rooted, Entered, MakeDone, MakeFails}
use Rattle.table_store.proofs.MoveLemmas.{stays-met, done-moved, put_refused-moved}
use Rattle.table_store.proofs.DropStepLemmas.{raised-moved, cause-moved, cookie_refused-moved}

-- ---- a put takes no page away

rest_no_fewer : {old new : SpaceState} (rest : List ℕ) (first : ℕ) → RestWritten old new rest first → old.pages.size ≤ new.pages.size
rest_no_fewer rest first (inl none) = let e = none.2.number in omega (arith, e)
rest_no_fewer rest first (inr wrote) = let w = wrote.1 in omega (arith, w.took.no_fewer, w.size)

freed_as_many : (old new : SpaceState) (was : Option LeafCell) → ReplacedFreed old new was → new.pages.size ≡ old.pages.size
freed_as_many old new None stays = stays.number
freed_as_many old new (Some cell) freed = freed.gave.size

pub put_no_fewer : {old new : SpaceState} {root : ℕ} {rowid : ℤ} {payload : List ℕ} {replaced : Bool} → PutDone old new root rowid payload replaced → old.pages.size ≤ new.pages.size
put_no_fewer {old = old} {new = new} done =
    let placed = done.before in
    let wrote = placed.before in
    let found = wrote.way.stays.number in
    let chain = rest_no_fewer _ placed.cell.overflow wrote.wrote.rest in
    let took = placed.placed.climbed.took.no_fewer in
    let sheets = placed.placed.size in
    let freed = freed_as_many (midway old done.placed) new done.was done.freed in
    omega (arith, found, chain, took, sheets, freed)

-- ---- the record of the row

pub entry_record : (table : Create) (number : ℕ) (values : List Value) (payload bytes : List ℕ) → bytes ≡ payload → values ≡ (entry_row table.name table.columns number).values → AreBytes bytes
    → IsRecord payload values → IsShortest payload values → IsEntryRecord table number bytes
entry_record table number values payload bytes same are all is_record shortest =
    let R : List ℕ → List Value → Type 0 = λ b v. IsRecord b v in
    let S : List ℕ → List Value → Type 0 = λ b v. IsShortest b v in
    record {
      bytes = all;
      is_record = subst (λ (v : List Value). R bytes v) are (subst (λ (b : List ℕ). R b values) (sym same) is_record);
      shortest = subst (λ (v : List Value). S bytes v) are (subst (λ (b : List ℕ). S b values) (sym same) shortest);
    }

-- ---- steps, said of states midway from another

grows-moved : {a b a' : SpaceState} (c : SpaceState) → Moved a b a' → Grows b c → Grows (midway a (here b)) (midway a' (here c))
grows-moved c m (inl same) = inl same
grows-moved c m (inr more) = let few = more.1 in let e = m.sized in inr (more.0, rw e at few)

begins-moved : {a b a' : SpaceState} (c : SpaceState) → Moved a b a' → Begins b c → Begins (midway a (here b)) (midway a' (here c))
begins-moved c m (inl some) = inl (some.0, stays-moved m some.1)
begins-moved {b = b} c m (inr made) =
    let F : ℕ → Type 0 = λ k. IsFirstPage k (k - b.pages.usable) c.pages in
    inr (record { none = made.none; size = made.size; change = made.change; first = λ t. subst F m.sized (made.first (m.told ∙ t)) })

made-moved : {a b a' : SpaceState} (c : SpaceState) (number : ℕ) → Moved a b a' → RootMade b c number → RootMade (midway a (here b)) (midway a' (here c)) number
made-moved {b = b} c number m made =
    let L : ℕ → Type 0 = λ k. EmptyLeaf (after_take k b.pages) c.pages number in
    record {
      within = made.within;
      grows = grows-moved c m made.grows;
      head = λ t. made.head (m.told ∙ t);
      is = λ t. made.is (m.told ∙ t);
      leaf = λ t. subst L m.sized (made.leaf (m.told ∙ t));
    }

entry_put-moved : {a b a' : SpaceState} (c : SpaceState) (table : Create) (number : ℕ) (entry : ℤ) → Moved a b a' → EntryPut b c table number entry
    → EntryPut (midway a (here b)) (midway a' (here c)) table number entry
entry_put-moved c table number entry m put = record {
  payload = put.payload;
  is = put.is;
  replaced = put.replaced;
  done = done-moved m put.done;
  puts = λ t. put.puts (m.told ∙ t);
}

-- ---- steps refused

grow_cause-moved : {a b a' : SpaceState} (c : SpaceState) (fault : SpaceFault) → Moved a b a' → GrowCause {T = ℕ} b c (Err fault)
    → GrowCause {T = ℕ} (midway a (here b)) (midway a' (here c)) (Err fault)
grow_cause-moved c Failed m is = is
grow_cause-moved c Memory m is = is
grow_cause-moved c (Bad page kept found) m is = is
grow_cause-moved c (Corrupt page) m is = is
grow_cause-moved c (Large pages) m is = let large = is.0 in let e = m.sized in (rw e at large, is.1)

grew-moved : {a b a' : SpaceState} (c : SpaceState) (number : ℕ) → Moved a b a' → Grew b c number → Grew (midway a (here b)) (midway a' (here c)) number
grew-moved {b = b} c number m grew =
    let G : ℕ → Type 0 = λ k. c.pages ≡ grown k b.pages in
    record { next = grew.next; size = grew.size; change = grew.change; pages_are = λ t. subst G m.sized (grew.pages_are (m.told ∙ t)) }

begin_refused-moved : {a b c : SpaceState} (fault : SpaceFault) → Moved a b c → BeginRefused b c fault → BeginRefused (midway a (here b)) c fault
begin_refused-moved {a = a} {b = b} {c = c} fault m is = (
  is.0,
  elim is.1 [
    | inl nothing ↦ inl (stays-moved m nothing.0, grow_cause-moved c fault m nothing.1)
    | inr zeros ↦ inr (record {
      met = zeros.met;
      grew = grew-moved _ 1 (back m) zeros.grew;
      stays = stays-moved (within zeros.met m) zeros.stays;
      cause = cause-moved a (midway b zeros.met) c fault m.told zeros.cause;
    })
  ],
)

taken-moved : {a b a' : SpaceState} (c : SpaceState) (number : ℕ) → Moved a b a' → Taken b c number → Taken (midway a (here b)) (midway a' (here c)) number
taken-moved {b = b} c number m taken =
    let T : ℕ → Type 0 = λ k. c.pages ≡ after_take k b.pages in
    record {
      within = taken.within;
      grows = grows-moved c m taken.grows;
      change = taken.change;
      head = λ t. taken.head (m.told ∙ t);
      is = λ t. taken.is (m.told ∙ t);
      pages_are = λ t. subst T m.sized (taken.pages_are (m.told ∙ t));
    }

root_refused-moved : {a b c : SpaceState} (fault : SpaceFault) → Moved a b c → RootRefused b c fault → RootRefused (midway a (here b)) c fault
root_refused-moved {c = c} fault m (inl none) = inl (take_refused-moved c fault m none)
root_refused-moved {c = c} fault m (inr stops) =
    inr (record {
      number = stops.number;
      met = stops.met;
      taken = taken-moved _ stops.number (back m) stops.taken;
      refused = record {
        size = stops.refused.size;
        only = λ t. stops.refused.only (m.told ∙ t);
        refused = page_refused-moved c (stops.number ∷ []) fault (within stops.met m) stops.refused.refused;
      };
    })

entry_refused-moved : {a b c : SpaceState} (table : Create) (number : ℕ) (entry : ℤ) (fault : SpaceFault) → Moved a b c → EntryRefused b c table number entry fault
    → EntryRefused (midway a (here b)) c table number entry fault
entry_refused-moved table number entry fault m (inl nothing) = inl (stays-moved m nothing.0, nothing.1)
entry_refused-moved {b = b} table number entry fault m (inr stops) =
    let L : ℕ → Type 0 = λ k. MayBeLarge b.pages 1 entry stops.payload k fault in
    inr (record {
      payload = stops.payload;
      is = stops.is;
      refused = put_refused-moved 1 entry stops.payload fault m stops.refused;
      large = λ t. subst L m.sized (stops.large (m.told ∙ t));
      clean = λ t. stops.clean (m.told ∙ t);
    })

-- ---- what was done

pub name_free : {old mid : SpaceState} {name : Name} {entry : ℤ} → Stays old mid → (IsTrue old.tells → IsFreeIn old.pages name entry) → NameFree old (here mid) name entry
name_free stays free = record { is = free; stays = stays-met stays }

pub begun : {old mid new : SpaceState} {name : Name} {entry : ℤ} → Steady old mid → NameFree old (here mid) name entry → Begins mid new → Begun old (here new) name entry
begun {mid = mid} {new = new} first free begins = record { met = here mid; free = free; begins = begins-moved new (moved-midway first) begins }

pub rooted : {old mid new : SpaceState} {name : Name} {entry : ℤ} {number : ℕ} → Steady old mid → Begun old (here mid) name entry → RootMade mid new number
    → (IsTrue mid.tells → AddsRoot mid.pages new.pages number) → Rooted old (here new) name entry number
rooted {mid = mid} {new = new} {number = number} first before made adds = record {
  begun = here mid;
  before = before;
  made = made-moved new number (moved-midway first) made;
  adds = λ t. adds (first.told ∙ t);
}

pub entered : {old mid new : SpaceState} {table : Create} {entry : ℤ} {number : ℕ} → Steady old mid → Rooted old (here mid) table.name entry number → EntryPut mid new table number entry
    → Entered old (here new) table entry number
entered {mid = mid} {new = new} {table = table} {entry = entry} {number = number} first before put =
    record { rooted = here mid; before = before; put = entry_put-moved new table number entry (moved-midway first) put }

pub make_done : {old mid new : SpaceState} {table : Create} {entry : ℤ} {number : ℕ} → Steady old mid → Entered old (here mid) table entry number → CookieRaised mid new → MakeDone old new table
make_done {mid = mid} {entry = entry} {number = number} first before raised =
    record { entry = entry; number = number; entered = here mid; before = before; raised = raised-moved first raised }

-- ---- why it was not

pub stops_at_first : {old mid new : SpaceState} {entry : ℤ} (table : Create) (fault : SpaceFault) → Steady old mid → Steady mid new → NameFree old (here mid) table.name entry → BeginRefused mid new fault
    → MakeFails old new table (Space fault)
stops_at_first {mid = mid} {entry = entry} table fault first second free refused =
    inr (inl (record { entry = entry; met = here mid; free = free; refused = begin_refused-moved fault (moved-to first (steady-on first second)) refused }))

pub stops_at_new_root : {old mid new : SpaceState} {entry : ℤ} (table : Create) (fault : SpaceFault) → Steady old mid → Steady mid new → Begun old (here mid) table.name entry → RootRefused mid new fault
    → MakeFails old new table (Space fault)
stops_at_new_root {mid = mid} {entry = entry} table fault first second before refused =
    inr (inr (inl (record { entry = entry; begun = here mid; before = before; refused = root_refused-moved fault (moved-to first (steady-on first second)) refused })))

pub stops_at_entry : {old mid new : SpaceState} {entry : ℤ} {number : ℕ} (table : Create) (fault : SpaceFault) → Steady old mid → Steady mid new → Rooted old (here mid) table.name entry number
    → EntryRefused mid new table number entry fault → MakeFails old new table (Space fault)
stops_at_entry {mid = mid} {entry = entry} {number = number} table fault first second before refused =
    inr (inr (inr (inl (record {
      entry = entry;
      number = number;
      rooted = here mid;
      before = before;
      refused = entry_refused-moved table number entry fault (moved-to first (steady-on first second)) refused;
    }))))

pub stops_at_new_cookie : {old mid new : SpaceState} {entry : ℤ} {number : ℕ} (table : Create) (fault : SpaceFault) → Steady old mid → Entered old (here mid) table entry number
    → CookieRefused mid new fault → MakeFails old new table (Space fault)
stops_at_new_cookie {mid = mid} {entry = entry} {number = number} table fault first before refused =
    inr (inr (inr (inr (record { entry = entry; number = number; entered = here mid; before = before; refused = cookie_refused-moved fault first refused }))))
