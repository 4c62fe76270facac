-- A table dropped, step by step, said of the state before.
use Rattle.std.proofs.Common.{◌≡◌, inl, inr, ℕ, ℤ, Bool, false, IsTrue, Err, refl, subst, ◌∙◌, arith}
use Rattle.page_list.specs.Pages.{Pages}
use Rattle.page_pool.specs.Space.{SpaceState, Steady, Stays, PageCause}
use Rattle.payload_chain.specs.Chains.{midway}
use Rattle.payload_chain.proofs.StateLemmas.{here, steady-on, stays-on}
use Rattle.db_format.specs.declared.fault.SpaceFault.{SpaceFault}
use Rattle.db_format.specs.declared.fault.SpaceFault.TheVariants.{Failed, Memory, Bad, Corrupt, Large}
use Rattle.tree_model.specs.declared.ends.Fault.{Fault}
use Rattle.tree_model.specs.declared.ends.Fault.TheVariants.{Broken}
use Rattle.tree_search.proofs.StateLemmas.{refused_as}
use Rattle.tree_remove.specs.Remove.{RemoveDone, RemoveRefused}
use Rattle.tree_remove.proofs.MoveLemmas.{Moved, moved-to, back, within, stays-moved, gave-moved, give_refused-moved}
use Rattle.tree_free.specs.Free.{TreeFreed, RemovesRoot, FreeMeets, TreeRefused, IsSoundlyRefused as IsTreeSoundlyRefused}
use Rattle.rowid_tree.specs.Puts.{IsSoundlyRefused}
use Rattle.rowid_tree.specs.Removes.{RemovesRow, MayBeLargeWithout}
use Rattle.book_model.specs.Book.{Name}
use Rattle.book_reads.specs.Reads.{SchemaMeets}
use Rattle.table_store.specs.declared.fault.TableFault.{TableFault}
use Rattle.table_store.specs.declared.fault.TableFault.TheVariants.{NoTable, Foreign, Exists, Columns, TooLong, Space}
use Rattle.table_store.specs.Tables.{ReadMeets, ReadRefused}
use Rattle.table_store.specs.Cookie.{CookieRaised, CookieRefused}
use Rattle.table_store.specs.Dropped.{FindsEntry, EntryFound, EntryTaken, TreeGiven, DropDone, DropFails}
use Rattle.table_store.proofs.MoveLemmas.{stays-met, search-moved, remove_refused-moved}

-- ---- the tree of a database of no pages

pub no_tree : (pages : Pages) (root : ℕ) → pages.size ≡ 0 → FreeMeets pages root (Broken root)
no_tree pages root none = inl (inl (inl ((λ there. omega (arith, there.least, there.most, none)), refl)))

pub none_whole : (pages : Pages) (root page : ℕ) → pages.size ≡ 0 → IsTreeSoundlyRefused pages root (Corrupt page)
none_whole pages root page none = record { each = λ front back before behind tree trunks long whole. omega (arith, whole.header.there.least, whole.header.there.most, none) }

-- ---- steps, said of states midway from another

freed-moved : {a b a' : SpaceState} (c : SpaceState) (root : ℕ) → Moved a b a' → TreeFreed b c root → TreeFreed (midway a (here b)) (midway a' (here c)) root
freed-moved c root m f = record { tree = f.tree; from = λ t. f.from (m.told ∙ t); gave = gave-moved c _ m f.gave }

tree_refused-moved : {a b a' : SpaceState} (c : SpaceState) (root : ℕ) (fault : SpaceFault) → Moved a b a' → TreeRefused b c root fault → TreeRefused (midway a (here b)) (midway a' (here c)) root fault
tree_refused-moved {b = b} c root fault m (inl none) = inl (stays-moved m none.0, search-moved c (FreeMeets b.pages root) fault m none.1)
tree_refused-moved {b = b} c root fault m (inr stops) = inr (record {
  tree = stops.tree;
  from = λ t. stops.from (m.told ∙ t);
  given = stops.given;
  number = stops.number;
  more = stops.more;
  all = stops.all;
  met = stops.met;
  gave = gave-moved (midway b stops.met) stops.given (back m) stops.gave;
  refused = give_refused-moved c stops.number fault (within stops.met m) stops.refused;
})

pub raised-moved : {a b c : SpaceState} → Steady a b → CookieRaised b c → CookieRaised (midway a (here b)) c
raised-moved s r = record { some = r.some; size = r.size; change = r.change; good = λ t. r.good (s.told ∙ t); pages_are = λ t. r.pages_are (s.told ∙ t) }

pub cause-moved : (a b c : SpaceState) (fault : SpaceFault) → b.tells ≡ a.tells → PageCause {T = Unit} b c 1 (Err fault) → PageCause {T = Unit} (midway a (here b)) c 1 (Err fault)
cause-moved a b c Failed told is = is
cause-moved a b c Memory told is = is
cause-moved a b c (Bad page kept found) told is = (is.0, λ t. is.1 (told ∙ t))
cause-moved a b c (Corrupt page) told is = is
cause-moved a b c (Large pages) told is = is

pub cookie_refused-moved : {a b c : SpaceState} (fault : SpaceFault) → Steady a b → CookieRefused b c fault → CookieRefused (midway a (here b)) c fault
cookie_refused-moved {a = a} {b = b} {c = c} fault s is = (record { number = is.0.number; change = is.0.change; pages_stay = λ t. is.0.pages_stay (s.told ∙ t) }, cause-moved a b c fault s.told is.1)

-- ---- what was done

pub entry_found : {old mid : SpaceState} {name : Name} {root : ℕ} {entry : ℤ} → Stays old mid → (IsTrue old.tells → FindsEntry old.pages name root entry) → EntryFound old (here mid) name root entry
entry_found stays found = record { is = found; stays = stays-met stays }

pub entry_taken : {old mid new : SpaceState} {name : Name} {root : ℕ} {entry : ℤ} (removed : Bool) → Steady old mid → Stays old mid → EntryFound old (here mid) name root entry
    → (IsTrue mid.tells → RemoveDone mid.page_size mid.pages new.pages new.changed 1 entry removed) → (removed ≡ false → Stays mid new)
    → (IsTrue mid.tells → RemovesRow mid.pages new.pages 1 entry removed) → EntryTaken old (here new) name root entry
entry_taken {mid = mid} {new = new} {entry = entry} removed first stays found done nothing removes =
    let D : ℕ → Type 0 = λ k. RemoveDone k mid.pages new.pages new.changed 1 entry removed in
    record {
      met = here mid;
      found = found;
      removed = removed;
      done = λ t. subst D first.sized (done (first.told ∙ t));
      nothing = λ none. stays-met (stays-on first stays (nothing none));
      removes = λ t. removes (first.told ∙ t);
    }

pub tree_given : {old mid new : SpaceState} {name : Name} {root : ℕ} {entry : ℤ} → Steady old mid → EntryTaken old (here mid) name root entry → TreeFreed mid new root
    → (IsTrue mid.tells → RemovesRoot mid.pages new.pages root) → TreeGiven old (here new) name root entry
tree_given {old = old} {mid = mid} {new = new} {root = root} first before freed gives =
    let same : Moved old mid old = record { told = first.told; sized = first.sized; told_on = refl; sized_on = refl; ready = λ h. h; writable = λ h. h } in
    record { taken = here mid; before = before; freed = freed-moved new root same freed; gives = λ t. gives (first.told ∙ t) }

pub drop_done : {old mid new : SpaceState} {name : Name} {root : ℕ} {entry : ℤ} → Steady old mid → TreeGiven old (here mid) name root entry → CookieRaised mid new → DropDone old new name
drop_done {mid = mid} {root = root} {entry = entry} first before raised = record { root = root; entry = entry; given = here mid; before = before; raised = raised-moved first raised }

-- ---- why it was not

pub reads_fail : (old new : SpaceState) (name : Name) (fault : TableFault) → Stays old new → ReadRefused old new name (λ _ _. ⊥) fault → DropFails old new name fault
reads_fail old new name NoTable stays is = (stays, is)
reads_fail old new name Foreign stays is = (stays, is)
reads_fail old new name Exists stays is = is
reads_fail old new name Columns stays is = is
reads_fail old new name TooLong stays is = is
reads_fail old new name (Space fault) stays is = inl (stays, refused_as old new (ReadMeets old.pages name (λ _ _. ⊥)) (SchemaMeets old.pages) fault (λ t. only) is)
  where
    only : (f : Fault) → ReadMeets old.pages name (λ _ _. ⊥) f → SchemaMeets old.pages f
    only f (inl meets) = meets
    only f (inr there) = absurd there.met

pub stops_at_row : (old mid new : SpaceState) (name : Name) (root : ℕ) (entry : ℤ) (fault : SpaceFault) → Steady old mid → Steady mid new → EntryFound old (here mid) name root entry
    → RemoveRefused mid new 1 entry fault → (IsTrue mid.tells → MayBeLargeWithout mid.pages 1 entry mid.page_size fault) → (IsTrue mid.tells → IsSoundlyRefused mid.pages 1 fault)
    → DropFails old new name (Space fault)
stops_at_row old mid new name root entry fault first second found refused large clean =
    let L : ℕ → Type 0 = λ k. MayBeLargeWithout mid.pages 1 entry k fault in
    inr (inl (record {
      root = root;
      entry = entry;
      met = here mid;
      found = found;
      refused = remove_refused-moved 1 entry fault (moved-to first (steady-on first second)) refused;
      large = λ t. subst L first.sized (large (first.told ∙ t));
      clean = λ t. clean (first.told ∙ t);
    }))

pub stops_at_tree : (old mid new : SpaceState) (name : Name) (root : ℕ) (entry : ℤ) (fault : SpaceFault) → Steady old mid → Steady mid new → EntryTaken old (here mid) name root entry
    → TreeRefused mid new root fault → (IsTrue mid.tells → IsTreeSoundlyRefused mid.pages root fault) → DropFails old new name (Space fault)
stops_at_tree old mid new name root entry fault first second before refused clean =
    inr (inr (inl (record {
      root = root;
      entry = entry;
      taken = here mid;
      before = before;
      refused = tree_refused-moved new root fault (moved-to first (steady-on first second)) refused;
      clean = λ t. clean (first.told ∙ t);
    })))

pub stops_at_cookie : (old mid new : SpaceState) (name : Name) (root : ℕ) (entry : ℤ) (fault : SpaceFault) → Steady old mid → TreeGiven old (here mid) name root entry → CookieRefused mid new fault
    → DropFails old new name (Space fault)
stops_at_cookie old mid new name root entry fault first before refused =
    inr (inr (inr (record { root = root; entry = entry; given = here mid; before = before; refused = cookie_refused-moved fault first refused })))
