-- Rows looked for in the pages of a page space: the way down to a leaf, the row of a rowid, and the next row.
-- After sqlite.org, "Database File Format", section 1.6, "B-tree Pages".
use Rattle.std.specs.Prelude.{◌≡◌, ◌⊎◌, ℕ, suc, ◌≤◌, ◌<◌, ℤ, int_le, if◌then◌else◌, List, [], ◌∷◌, length, Option, Some, None, IsTrue}
use Rattle.std.specs.List.{AllByRecursion}
use Rattle.byte_base.specs.Count.{Rose}
use Rattle.page_list.specs.Pages.{Pages, HasPage}
use Rattle.page_pool.specs.Space.{SpaceState, Fails}
use Rattle.db_format.specs.declared.fault.SpaceFault.{SpaceFault}
use Rattle.db_format.specs.declared.fault.SpaceFault.TheVariants.{Failed, Memory, Bad, Corrupt, Large}
use Rattle.tree_page.specs.declared.cell.LeafCell.{LeafCell}
use Rattle.tree_page.specs.declared.cell.InnerCell.{InnerCell}
use Rattle.tree_page.specs.declared.cell.PageCells.TheVariants.{Leaf as LeafPage, Interior as InteriorPage}
use Rattle.tree_page.specs.Written.{Fits}
use Rattle.tree_model.specs.declared.level.Level.{Level}
use Rattle.tree_model.specs.Held.{HasCells}
use Rattle.tree_model.specs.Whole.{most_depth}
use Rattle.tree_model.specs.declared.ends.Fault.{Fault}
use Rattle.tree_model.specs.declared.ends.PathEnd.{PathEnd}
use Rattle.tree_model.specs.declared.ends.Fault.TheVariants.{BadPage, Broken}
use Rattle.tree_model.specs.declared.ends.PathEnd.TheVariants.{HasPayload, NoRow}
use Rattle.tree_model.specs.declared.ends.Next.TheVariants.{Found, Nothing, Meets}
use Rattle.tree_model.specs.Walk.{NextFrom, Path, AtKey, IsReadable, IsUnreadable, child_for}
use Rattle.tree_search.specs.declared.path.Descent.{Descent}
use Rattle.tree_search.specs.declared.row.OnLeaf.{OnLeaf}

-- the place of the first cell whose key is at least this one, or the number of cells
abbrev pub place_for : ℤ → List InnerCell → ℕ
place_for key [] = 0
place_for key (cell ∷ more) = if int_le key cell.rowid then 0 else suc (place_for key more)

-- from a page down to a leaf, by the interior pages on the way: each leads to the child of the first cell whose key is at
-- least this one
abbrev pub Descends : Pages → ℤ → ℕ → List Level → ℕ → List LeafCell → Type 0
Descends pages key page [] leaf cells = (leaf ≡ page) × HasCells pages leaf (LeafPage cells)
Descends pages key page (level ∷ more) leaf cells =
    (level.number ≡ page) × HasCells pages page (InteriorPage level.cells level.right) × (level.at ≡ place_for key level.cells)
    × Descends pages key (child_for key level.cells level.right) more leaf cells

-- Told or not: a page of the way is there, its cells fit it, and the way leaves it within its cells.
pub record IsStep (size usable : ℕ) (level : Level) : Type 0 where
  pub least : 1 ≤ level.number
  pub most : level.number ≤ size
  pub fits : Fits (InteriorPage level.cells level.right) level.number usable
  pub at : level.at ≤ length level.cells

-- each interior page of the way is so; there are fewer than the most pages from a root to a leaf; the leaf is there, and its
-- cells fit it
pub record IsDescent (size usable : ℕ) (descent : Descent) : Type 0 where
  pub each : AllByRecursion (IsStep size usable) descent.levels.items
  pub few : length descent.levels.items < most_depth
  pub least : 1 ≤ descent.leaf
  pub most : descent.leaf ≤ size
  pub fits : Fits (LeafPage descent.cells) descent.leaf usable

-- why a search was refused: Failed only where the count rose, Bad and Corrupt of the page whose fault the search meets;
-- want of memory needs no cause
abbrev pub SearchRefused : SpaceState → SpaceState → (Fault → Type 0) → SpaceFault → Type 0
SearchRefused old new AtFault Failed = Rose old.faults new.faults
SearchRefused old new AtFault Memory = Unit {0}
SearchRefused old new AtFault (Bad page kept found) = Fails old page kept found × (IsTrue old.tells → AtFault (BadPage page))
SearchRefused old new AtFault (Corrupt page) = IsTrue old.tells → AtFault (Broken page)
SearchRefused old new AtFault (Large pages) = ⊥

-- a chain that is broken at a page that is not there is a fault of the leaf; all else stays
abbrev pub IsOfLeaf : Pages → ℕ → SpaceFault → SpaceFault → Type 0
IsOfLeaf pages leaf (Corrupt page) after = (HasPage pages page × (after ≡ Corrupt page)) ⊎ (¬ (HasPage pages page) × (after ≡ Corrupt leaf))
IsOfLeaf pages leaf before after = after ≡ before

-- no page is at fault
abbrev pub IsNoDamage : SpaceFault → Type 0
IsNoDamage Failed = Unit {0}
IsNoDamage Memory = Unit {0}
IsNoDamage (Bad page kept found) = ⊥
IsNoDamage (Corrupt page) = ⊥
IsNoDamage (Large pages) = Unit {0}

-- how the search for one row ends, where it answers
abbrev pub path_end : Option (List ℕ) → PathEnd
path_end None = NoRow
path_end (Some payload) = HasPayload payload

-- the path of a key ends so, whichever payloads it accepts
pub record EndsAlways (pages : Pages) (root : ℕ) (key : ℤ) (end : PathEnd) : Type 0 where
  pub path : (columns : Option ℕ) → Path columns pages root key end

-- the path of a key comes to the cell of its row, on this leaf, with this payload: how that cell ends a path is how the
-- path of the key ends, whichever payloads it accepts
pub record LeadsToRow (pages : Pages) (root : ℕ) (key : ℤ) (row : OnLeaf) : Type 0 where
  pub keyed : row.rowid ≡ key
  pub cell : LeafCell
  pub readable : IsReadable None pages cell row.payload
  pub of_key : cell.rowid ≡ key
  pub path : (columns : Option ℕ) (end : PathEnd) → AtKey columns pages row.leaf key (Some cell) end → Path columns pages root key end

-- where the path of a key comes to its row, or that there is none
abbrev pub PathIs : Pages → ℕ → ℤ → Option OnLeaf → Type 0
PathIs pages root key None = EndsAlways pages root key NoRow
PathIs pages root key (Some row) = LeadsToRow pages root key row

-- the first cell that a search from a key on finds is that of this row
pub record FindsRow (pages : Pages) (root : ℕ) (from rowid : ℤ) (payload : List ℕ) : Type 0 where
  pub leaf : ℕ
  pub cell : LeafCell
  pub sought : NextFrom pages root from (Found leaf cell)
  pub keyed : rowid ≡ cell.rowid
  pub readable : IsReadable None pages cell payload

-- the next row from a key on, if there is one
abbrev pub NextIs : Pages → ℕ → ℤ → Option (ℤ × List ℕ) → Type 0
NextIs pages root from None = NextFrom pages root from Nothing
NextIs pages root from (Some row) = FindsRow pages root from row.0 row.1

-- the same with its leaf
pub record FindsOnLeaf (pages : Pages) (root : ℕ) (from : ℤ) (row : OnLeaf) : Type 0 where
  pub cell : LeafCell
  pub sought : NextFrom pages root from (Found row.leaf cell)
  pub keyed : row.rowid ≡ cell.rowid
  pub readable : IsReadable None pages cell row.payload

abbrev pub NextOnLeaf : Pages → ℕ → ℤ → Option OnLeaf → Type 0
NextOnLeaf pages root from None = NextFrom pages root from Nothing
NextOnLeaf pages root from (Some row) = FindsOnLeaf pages root from row

-- what a row is without its leaf
abbrev pub shown_of : OnLeaf → ℤ × List ℕ
shown_of row = (row.rowid, row.payload)

-- the payload of that cell cannot be read
pub record FindsUnreadable (pages : Pages) (root : ℕ) (from : ℤ) (fault : Fault) : Type 0 where
  pub leaf : ℕ
  pub cell : LeafCell
  pub sought : NextFrom pages root from (Found leaf cell)
  pub unreadable : IsUnreadable None pages leaf cell fault

-- the fault that the search for the next row meets, on its way or in the row that it finds
abbrev pub NextMeets : Pages → ℕ → ℤ → Fault → Type 0
NextMeets pages root from fault = NextFrom pages root from (Meets fault) ⊎ FindsUnreadable pages root from fault
