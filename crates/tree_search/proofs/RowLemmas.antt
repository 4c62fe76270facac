-- The row of a rowid.
use Rattle.std.proofs.Common.{◌≡◌, ◌≢◌, ℕ, zero, suc, ℤ, Bool, true, false, if◌then◌else◌, int_le, List, [], ◌∷◌, Option, Some, None, subst, sym, inl, inr, refl, IsTrue}
use Rattle.std.specs.Option.{option_map}
use Rattle.page_list.specs.Pages.{Pages}
use Rattle.page_pool.specs.Space.{SpaceState, Steady, Stays}
use Rattle.db_format.specs.declared.fault.SpaceFault.{SpaceFault}
use Rattle.db_format.specs.declared.fault.SpaceFault.TheVariants.{Failed, Memory, Bad, Corrupt, Large}
use Rattle.tree_page.specs.declared.cell.LeafCell.{LeafCell}
use Rattle.tree_model.specs.declared.ends.Fault.{Fault}
use Rattle.tree_model.specs.declared.ends.Fault.TheVariants.{BadPage, Broken}
use Rattle.tree_model.specs.declared.ends.PathEnd.{PathEnd}
use Rattle.tree_model.specs.declared.ends.PathEnd.TheVariants.{HasPayload, NoRow, Ends}
use Rattle.tree_model.specs.Tree.{Row, Tree, rowid, rows_of}
use Rattle.tree_model.specs.Whole.{most_depth, IsWholeTree}
use Rattle.tree_model.specs.Laws.{row_at, AreAccepted, OnePath, PathFinds}
use Rattle.tree_model.specs.Walk.{Path, LeadsTo, AtKey, IsReadable, IsUnreadable, first_from, child_for}
use Rattle.tree_search.specs.declared.path.Descent.{Descent}
use Rattle.tree_search.specs.declared.row.OnLeaf.{OnLeaf}
use Rattle.tree_search.specs.Search.{Descends, IsDescent, EndsAlways, LeadsToRow, PathIs, path_end, SearchRefused, IsNoDamage}
use Rattle.tree_search.specs.Steps.{Leads}
use Rattle.tree_search.proofs.PathLemmas.{way_leads}
use Rattle.tree_search.proofs.StateLemmas.{refused_on, refused_as}

-- ---- a fault that a path meets before it asks for a record, it meets whichever payloads it accepts

unreadable_always : (columns : Option ℕ) (pages : Pages) (leaf : ℕ) (cell : LeafCell) (fault : Fault) → IsUnreadable None pages leaf cell fault → IsUnreadable columns pages leaf cell fault
unreadable_always columns pages leaf cell fault (inl breaks) = inl breaks
unreadable_always columns pages leaf cell fault (inr (inl fails)) = inr (inl fails)
unreadable_always columns pages leaf cell fault (inr (inr refused)) = absurd (refused.refused tt)

at_always : (columns : Option ℕ) (pages : Pages) (leaf : ℕ) (key : ℤ) (first : Option LeafCell) (fault : Fault) → AtKey None pages leaf key first (Ends fault)
    → AtKey columns pages leaf key first (Ends fault)
at_always columns pages leaf key None fault at = at
at_always columns pages leaf key (Some cell) fault (inl at) = inl at
at_always columns pages leaf key (Some cell) fault (inr (keyed, inl (payload, readable, is))) = cc
at_always columns pages leaf key (Some cell) fault (inr (keyed, inr (met, unreadable, is))) = inr (keyed, inr (met, unreadable_always columns pages leaf cell met unreadable, is))

leads_always : (left : ℕ) (columns : Option ℕ) (pages : Pages) (above page : ℕ) (key : ℤ) (fault : Fault) → LeadsTo left None pages above page key (Ends fault)
    → LeadsTo left columns pages above page key (Ends fault)
leads_always zero columns pages above page key fault leads = leads
leads_always (suc left) columns pages above page key fault (inl leads) = inl leads
leads_always (suc left) columns pages above page key fault (inr (inl (cells, has, at))) =
    inr (inl (cells, has, at_always columns pages page key (first_from key cells) fault at))
leads_always (suc left) columns pages above page key fault (inr (inr (cells, right, has, leads))) =
    inr (inr (cells, right, has, leads_always left columns pages page (child_for key cells right) key fault leads))

pub way_refused : (old new : SpaceState) (root : ℕ) (key : ℤ) (fault : SpaceFault) → SearchRefused old new (λ f. Path None old.pages root key (Ends f)) fault
    → SearchRefused old new (λ f. EndsAlways old.pages root key (Ends f)) fault
way_refused old new root key fault refused =
    refused_as old new (λ f. Path None old.pages root key (Ends f)) (λ f. EndsAlways old.pages root key (Ends f)) fault
    (λ t f path. record { path = λ columns. leads_always most_depth columns old.pages root root key f path }) refused

-- ---- the way down, and what the first cell of its leaf from the key on says of the row

row_leads : (columns : Option ℕ) (pages : Pages) (size usable root : ℕ) (key : ℤ) (d : Descent) (first : Option LeafCell) (end : PathEnd) → IsDescent size usable d
    → Descends pages key root d.levels.items d.leaf d.cells → first_from key d.cells ≡ first → AtKey columns pages d.leaf key first end → Leads most_depth columns pages root root key end
row_leads columns pages size usable root key d first end sound way is at =
    let P : Option LeafCell → Type 0 = λ o. AtKey columns pages d.leaf key o end in
    way_leads d.levels.items most_depth columns pages root root d.leaf key end d.cells sound.few way (subst P (sym is) at)

pub no_cell : (pages : Pages) (size usable root : ℕ) (key : ℤ) (d : Descent) → IsDescent size usable d → Descends pages key root d.levels.items d.leaf d.cells
    → first_from key d.cells ≡ None → EndsAlways pages root key NoRow
no_cell pages size usable root key d sound way is =
    record { path = λ columns. (row_leads columns pages size usable root key d None NoRow sound way is refl).leads }

pub other_cell : (pages : Pages) (size usable root : ℕ) (key : ℤ) (d : Descent) (cell : LeafCell) → IsDescent size usable d → Descends pages key root d.levels.items d.leaf d.cells
    → first_from key d.cells ≡ Some cell → cell.rowid ≢ key → EndsAlways pages root key NoRow
other_cell pages size usable root key d cell sound way is other =
    record { path = λ columns. (row_leads columns pages size usable root key d (Some cell) NoRow sound way is (inl (other, refl))).leads }

-- the payload of that cell was read, or refused
pub row_found : (pages : Pages) (size usable root : ℕ) (key : ℤ) (d : Descent) (cell : LeafCell) (row : OnLeaf) → IsDescent size usable d
    → Descends pages key root d.levels.items d.leaf d.cells → first_from key d.cells ≡ Some cell → cell.rowid ≡ key → row.leaf ≡ d.leaf → row.rowid ≡ key
    → IsReadable None pages cell row.payload → LeadsToRow pages root key row
row_found pages size usable root key d cell row sound way is of_key on keyed readable = record {
  keyed = keyed;
  cell = cell;
  readable = readable;
  of_key = of_key;
  path = λ columns end at.
      let P : ℕ → Type 0 = λ n. AtKey columns pages n key (Some cell) end in
      (row_leads columns pages size usable root key d (Some cell) end sound way is (subst P on at)).leads;
}

pub row_refused : (old mid new : SpaceState) (size usable root : ℕ) (key : ℤ) (d : Descent) (cell : LeafCell) (fault : SpaceFault) → Steady old mid → Stays old mid
    → IsDescent size usable d → (IsTrue old.tells → Descends old.pages key root d.levels.items d.leaf d.cells) → first_from key d.cells ≡ Some cell → cell.rowid ≡ key
    → SearchRefused mid new (IsUnreadable None mid.pages d.leaf cell) fault → SearchRefused old new (λ f. EndsAlways old.pages root key (Ends f)) fault
row_refused old mid new size usable root key d cell fault steady stays sound way is keyed refused =
    refused_as old new (IsUnreadable None old.pages d.leaf cell) (λ f. EndsAlways old.pages root key (Ends f)) fault
    (λ t f unreadable. record {
      path = λ columns.
          let at : AtKey columns old.pages d.leaf key (Some cell) (Ends f) = inr (keyed, inr (f, unreadable_always columns old.pages d.leaf cell f unreadable, refl)) in
          (row_leads columns old.pages size usable root key d (Some cell) (Ends f) sound (way t) is at).leads;
    })
    (refused_on old mid new (λ p. IsUnreadable None p d.leaf cell) fault steady stays refused)

-- ---- a row without its leaf

pub path_is : (pages : Pages) (root : ℕ) (key : ℤ) (row : Option OnLeaf) → PathIs pages root key row → Leads most_depth None pages root root key (path_end (option_map (λ r. r.payload) row))
path_is pages root key None ends = record { leads = ends.path None }
path_is pages root key (Some row) leads = record { leads = leads.path None (HasPayload row.payload) (inr (leads.of_key, inl (row.payload, leads.readable, refl))) }

-- ---- in a whole tree

all_accepted : (rows : List Row) → AreAccepted None rows
all_accepted [] = tt
all_accepted (row ∷ more) = (tt, all_accepted more)

pub whole_row : OnePath → PathFinds → (pages : Pages) (root : ℕ) (key : ℤ) (end : PathEnd) → Leads most_depth None pages root root key end → (tree : Tree) → IsWholeTree pages root tree
    → end ≡ row_at key (rows_of tree)
whole_row once finds pages root key end path tree whole =
    once None pages root key end (row_at key (rows_of tree)) path.leads (finds None pages root tree whole (all_accepted (rows_of tree)) key)

-- its path does not end with a fault
no_fault : (f : Fault) (reached here : Bool) (payload : List ℕ) (more : PathEnd) → ¬ (Ends f ≡ more)
    → ¬ (Ends f ≡ (if reached then (if here then HasPayload payload else NoRow) else more))
no_fault f true true payload more rest is = cc
no_fault f true false payload more rest is = cc
no_fault f false here payload more rest is = rest is

row_ends : (f : Fault) (key : ℤ) (rows : List Row) → ¬ (Ends f ≡ row_at key rows)
row_ends f key [] is = cc
row_ends f key (row ∷ more) is = no_fault f (int_le key (rowid row)) (int_le (rowid row) key) row.payload (row_at key more) (row_ends f key more) is

pub row_clean : OnePath → PathFinds → (old new : SpaceState) (root : ℕ) (key : ℤ) (fault : SpaceFault) → IsTrue old.tells
    → SearchRefused old new (λ f. Leads most_depth None old.pages root root key (Ends f)) fault → (tree : Tree) → IsWholeTree old.pages root tree → IsNoDamage fault
row_clean once finds old new root key Failed t refused tree whole = tt
row_clean once finds old new root key Memory t refused tree whole = tt
row_clean once finds old new root key (Bad page kept found) t refused tree whole =
    row_ends (BadPage page) key (rows_of tree) (whole_row once finds old.pages root key (Ends (BadPage page)) (refused.1 t) tree whole)
row_clean once finds old new root key (Corrupt page) t refused tree whole =
    row_ends (Broken page) key (rows_of tree) (whole_row once finds old.pages root key (Ends (Broken page)) (refused t) tree whole)
row_clean once finds old new root key (Large pages) t refused tree whole = tt
