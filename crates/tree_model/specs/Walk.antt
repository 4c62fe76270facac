-- Looking for rows in any pages, whole or not: the row of a rowid, and the rows between two, each up to the first page
-- that cannot be gone over. Pages that loop are gone over down to a depth, so every search ends.
-- After sqlite.org, "Database File Format", section 1.6, "B-tree Pages".
use Rattle.std.specs.Prelude.{◌≡◌, ◌≢◌, ◌⊎◌, ℕ, zero, suc, ◌-◌, ◌≤◌, ℤ, pos, ◌+ℤ◌, ◌<ℤ◌, ◌≤ℤ◌, int_le, if◌then◌else◌, List, [], ◌∷◌, length, Option, Some, None, ⊤}
use Rattle.page_list.specs.Pages.{Pages, HasPage, IsGood}
use Rattle.page_list.specs.Chain.{BreaksAt, FailsAt}
use Rattle.tree_page.specs.Page.{IsPage}
use Rattle.tree_page.specs.declared.cell.LeafCell.{LeafCell}
use Rattle.tree_page.specs.declared.cell.InnerCell.{InnerCell}
use Rattle.tree_page.specs.declared.cell.PageCells.{PageCells}
use Rattle.tree_page.specs.declared.cell.PageCells.TheVariants.{Leaf as LeafPage, Interior as InteriorPage}
pub use Rattle.tree_model.specs.declared.ends.Fault.{Fault}
pub use Rattle.tree_model.specs.declared.ends.Fault.TheVariants.{BadPage, Broken}
pub use Rattle.tree_model.specs.declared.ends.PathEnd.{PathEnd}
pub use Rattle.tree_model.specs.declared.ends.PathEnd.TheVariants.{HasPayload, NoRow, Ends}
pub use Rattle.tree_model.specs.declared.ends.WalkEnd.{WalkEnd}
pub use Rattle.tree_model.specs.declared.ends.WalkEnd.TheVariants.{End, StopsAt}
pub use Rattle.tree_model.specs.declared.ends.Next.{Next}
pub use Rattle.tree_model.specs.declared.ends.Next.TheVariants.{Found, Nothing, Meets}
use Rattle.tree_model.specs.Tree.{Row}
use Rattle.tree_model.specs.Held.{HasCells, HasRow}
use Rattle.tree_model.specs.Whole.{below_all, most_depth}
use Rattle.db_format.specs.Schema.{IsRecordOf}

-- a payload is accepted: any, where rows are bytes; of a table, one that is a record of so many columns
abbrev pub Accepts : Option ℕ → List ℕ → Type 0
Accepts None payload = ⊤
Accepts (Some columns) payload = IsRecordOf columns payload

-- Why a search cannot go on: `BadPage` of a number, a page fails its checksum; `Broken`, it is not what it should be.
-- How the search for one row ends: `HasPayload`, `NoRow`, or with a fault, `Ends`. How a walk ends: `End`, or with a
-- fault, `StopsAt`. What the search for the next row meets: `Found`, on a leaf a cell, `Nothing`, or a fault, `Meets`.
-- a page whose number stands on the page `above`, so many pages from the greatest depth, cannot be gone over: it is not
-- there, which is a fault of the page above; it lies too deep; it fails; it is no b-tree page
abbrev pub IsFault : Pages → ℕ → ℕ → ℕ → Fault → Type 0
IsFault pages left above page fault =
    (¬ (HasPage pages page) × (fault ≡ Broken above))
    ⊎ ((HasPage pages page × (left ≡ 0) × (fault ≡ Broken page))
    ⊎ ((HasPage pages page × (1 ≤ left) × ¬ (IsGood pages page) × (fault ≡ BadPage page))
    ⊎ (HasPage pages page × (1 ≤ left) × IsGood pages page × ((cells : PageCells) → ¬ (IsPage (pages.bytes page) page pages.usable cells)) × (fault ≡ Broken page))))

-- the payload of a cell on a leaf cannot be read: its chain is broken, by the leaf itself where the number of its first
-- page is that of none; a page of it fails; or it is none that is accepted
abbrev pub rest_of : LeafCell → ℕ
rest_of cell = cell.payload_len - length cell.local

pub record BreaksChain (pages : Pages) (leaf : ℕ) (cell : LeafCell) (fault : Fault) : Type 0 where
  pub page : ℕ
  pub breaks : BreaksAt pages cell.overflow (rest_of cell) page
  pub named : (HasPage pages page × (fault ≡ Broken page)) ⊎ (¬ (HasPage pages page) × (fault ≡ Broken leaf))

pub record FailsChain (pages : Pages) (cell : LeafCell) (fault : Fault) : Type 0 where
  pub page : ℕ
  pub sums : ℕ × ℕ
  pub fails : FailsAt pages cell.overflow (rest_of cell) page sums
  pub named : fault ≡ BadPage page

pub record IsRefused (columns : Option ℕ) (pages : Pages) (leaf : ℕ) (cell : LeafCell) (fault : Fault) : Type 0 where
  pub row : Row
  pub of_cell : row.cell ≡ cell
  pub has_row : HasRow pages row
  pub refused : ¬ (Accepts columns row.payload)
  pub named : fault ≡ Broken leaf

abbrev pub IsUnreadable : Option ℕ → Pages → ℕ → LeafCell → Fault → Type 0
IsUnreadable columns pages leaf cell fault =
    BreaksChain pages leaf cell fault ⊎ (FailsChain pages cell fault ⊎ IsRefused columns pages leaf cell fault)

-- the payload of a cell is this one, and it is accepted
pub record IsReadable (columns : Option ℕ) (pages : Pages) (cell : LeafCell) (payload : List ℕ) : Type 0 where
  pub chain : List ℕ
  pub has_row : HasRow pages (record { cell = cell; chain = chain; payload = payload })
  pub accepted : Accepts columns payload

-- the first cell of a leaf whose rowid is at least a key
abbrev pub first_from : ℤ → List LeafCell → Option LeafCell
first_from key [] = None
first_from key (cell ∷ more) = if int_le key cell.rowid then Some cell else first_from key more

-- the children of an interior page from the first on whose key is at least this one
abbrev pub all_children : List InnerCell → ℕ → List ℕ
all_children [] right = right ∷ []
all_children (cell ∷ more) right = cell.child ∷ all_children more right

abbrev pub children_from : ℤ → List InnerCell → ℕ → List ℕ
children_from key [] right = right ∷ []
children_from key (cell ∷ more) right = if int_le key cell.rowid then all_children (cell ∷ more) right else children_from key more right

abbrev pub child_for : ℤ → List InnerCell → ℕ → ℕ
child_for key [] right = right
child_for key (cell ∷ more) right = if int_le key cell.rowid then cell.child else child_for key more right

-- what the first cell from a key on, on a leaf, says of the row of that key
abbrev pub AtKey : Option ℕ → Pages → ℕ → ℤ → Option LeafCell → PathEnd → Type 0
AtKey columns pages leaf key None end = end ≡ NoRow
AtKey columns pages leaf key (Some cell) end =
    ((cell.rowid ≢ key) × (end ≡ NoRow))
    ⊎ ((cell.rowid ≡ key) × (((payload : List ℕ) × IsReadable columns pages cell payload × (end ≡ HasPayload payload))
    ⊎ ((fault : Fault) × IsUnreadable columns pages leaf cell fault × (end ≡ Ends fault))))

-- from a page down to the child of the first cell whose key is at least this one, else to the right-most child
abbrev pub LeadsTo : ℕ → Option ℕ → Pages → ℕ → ℕ → ℤ → PathEnd → Type 0
LeadsTo zero columns pages above page key end = (fault : Fault) × IsFault pages 0 above page fault × (end ≡ Ends fault)
LeadsTo (suc left) columns pages above page key end =
    ((fault : Fault) × IsFault pages (suc left) above page fault × (end ≡ Ends fault))
    ⊎ (((cells : List LeafCell) × HasCells pages page (LeafPage cells) × AtKey columns pages page key (first_from key cells) end)
    ⊎ ((cells : List InnerCell) × (right : ℕ) × HasCells pages page (InteriorPage cells right) × LeadsTo left columns pages page (child_for key cells right) key end))

-- the path from a root to a rowid; where the root is no page, it names the root itself
abbrev pub Path : Option ℕ → Pages → ℕ → ℤ → PathEnd → Type 0
Path columns pages root key end = LeadsTo most_depth columns pages root root key end

-- what a search in a leaf meets
abbrev pub in_leaf : ℕ → Option LeafCell → Next
in_leaf leaf None = Nothing
in_leaf leaf (Some cell) = Found leaf cell

-- the first of these children that has more than nothing: the first one is searched from a key on, the others whole
abbrev pub FirstOf : (ℤ → ℕ → Next → Type 0) → ℤ → List ℕ → Next → Type 0
FirstOf Below from [] next = next ≡ Nothing
FirstOf Below from (child ∷ more) next =
    (Below from child next × (next ≢ Nothing)) ⊎ (Below from child Nothing × FirstOf Below below_all more next)

-- the first row with a rowid of at least a key, in the leaf on the path of `from`, then in the leaves after it
abbrev pub Seeks : ℕ → Pages → ℤ → ℕ → ℤ → ℕ → Next → Type 0
Seeks zero pages key above from page next = (fault : Fault) × IsFault pages 0 above page fault × (next ≡ Meets fault)
Seeks (suc left) pages key above from page next =
    ((fault : Fault) × IsFault pages (suc left) above page fault × (next ≡ Meets fault))
    ⊎ (((cells : List LeafCell) × HasCells pages page (LeafPage cells) × (next ≡ in_leaf page (first_from key cells)))
    ⊎ ((cells : List InnerCell) × (right : ℕ) × HasCells pages page (InteriorPage cells right) × FirstOf (Seeks left pages key page) from (children_from from cells right) next))

abbrev pub NextFrom : Pages → ℕ → ℤ → Next → Type 0
NextFrom pages root key next = Seeks most_depth pages key root key root next

-- a row is found whose rowid is past the last one: its chain is read all the same, and whether it is a record is not asked
abbrev pub IsPast : Pages → ℕ → LeafCell → WalkEnd → Type 0
IsPast pages leaf cell end =
    ((payload : List ℕ) × IsReadable None pages cell payload × (end ≡ End))
    ⊎ ((fault : Fault) × IsUnreadable None pages leaf cell fault × (end ≡ StopsAt fault))

-- no row up to a key follows where the search meets this, and so the walk ends
abbrev pub IsLast : Option ℕ → Pages → ℤ → Next → WalkEnd → Type 0
IsLast columns pages high Nothing end = end ≡ End
IsLast columns pages high (Meets fault) end = end ≡ StopsAt fault
IsLast columns pages high (Found leaf cell) end =
    ((high <ℤ cell.rowid) × IsPast pages leaf cell end)
    ⊎ ((cell.rowid ≤ℤ high) × ((fault : Fault) × IsUnreadable columns pages leaf cell fault × (end ≡ StopsAt fault)))

-- a row follows
pub record IsNext (columns : Option ℕ) (pages : Pages) (root : ℕ) (high key : ℤ) (row : ℤ × List ℕ) : Type 0 where
  pub leaf : ℕ
  pub cell : LeafCell
  pub sought : NextFrom pages root key (Found leaf cell)
  pub keyed : row.0 ≡ cell.rowid
  pub within : cell.rowid ≤ℤ high
  pub readable : IsReadable columns pages cell row.1

-- the rows from a key on, up to another, and the end of the walk
abbrev pub WalksFrom : Option ℕ → Pages → ℕ → ℤ → ℤ → List (ℤ × List ℕ) → WalkEnd → Type 0
WalksFrom columns pages root high key [] end = (next : Next) × NextFrom pages root key next × IsLast columns pages high next end
WalksFrom columns pages root high key (row ∷ more) end =
    IsNext columns pages root high key row
    × (((row.0 ≡ high) × (more ≡ []) × (end ≡ End)) ⊎ ((row.0 <ℤ high) × WalksFrom columns pages root high (row.0 +ℤ pos 1) more end))

-- the walk from a root over the rowids from a low one to a high one, both included
abbrev pub Walk : Option ℕ → Pages → ℕ → ℤ → ℤ → List (ℤ × List ℕ) → WalkEnd → Type 0
Walk columns pages root low high rows end =
    ((high <ℤ low) × (rows ≡ []) × (end ≡ End)) ⊎ ((low ≤ℤ high) × WalksFrom columns pages root high low rows end)
