-- Words that only the private steps of the plain program use: the payload of a row, and how far a search or a walk over
-- rows has come.
use Rattle.std.specs.Prelude.{◌≡◌, ◌⊎◌, ℕ, ◌≤◌, ℤ, ◌≤ℤ◌, ◌<ℤ◌, List, [], ◌++◌, length, Option, None, Some, Result, Ok, Err, ⊤}
use Rattle.page_list.specs.Pages.{Pages, HasPage}
use Rattle.tree_page.specs.declared.cell.LeafCell.{LeafCell}
use Rattle.tree_model.specs.Whole.{below_all, most_depth}
use Rattle.tree_model.specs.declared.ends.Fault.{Fault}
use Rattle.tree_model.specs.declared.ends.Fault.TheVariants.{Broken}
use Rattle.tree_model.specs.declared.ends.PathEnd.{PathEnd}
use Rattle.tree_model.specs.declared.ends.Next.{Next}
use Rattle.tree_model.specs.declared.ends.Next.TheVariants.{Found, Nothing, Meets}
use Rattle.tree_model.specs.declared.ends.WalkEnd.{WalkEnd}
use Rattle.tree_model.specs.Walk.{IsReadable, IsUnreadable, LeadsTo, Seeks, FirstOf, IsLast, WalksFrom, Walk}
use Rattle.ref_trees.specs.declared.walk.Step.{Step}
use Rattle.ref_trees.specs.declared.walk.Step.TheVariants as steps

-- a cell keeps no more than the payload
abbrev pub IsKept : LeafCell → Type 0
IsKept cell = length cell.local ≤ cell.payload_len

-- a chain that breaks at a page is a fault of the page, where it is there, else of the leaf
abbrev pub IsNamed : Pages → ℕ → ℕ → Fault → Type 0
IsNamed pages leaf page fault = (HasPage pages page × (fault ≡ Broken page)) ⊎ (¬ (HasPage pages page) × (fault ≡ Broken leaf))

-- the payload of a cell, or why it cannot be read
abbrev pub IsRead : Option ℕ → Pages → ℕ → LeafCell → Result (List ℕ) Fault → Type 0
IsRead columns pages leaf cell (Ok payload) = IsReadable columns pages cell payload
IsRead columns pages leaf cell (Err fault) = IsUnreadable columns pages leaf cell fault

-- the key that a search begins at
abbrev pub from_of : Option ℤ → ℤ
from_of None = below_all
from_of (Some key) = key

-- a row that is found is not before the key
abbrev pub IsBehind : ℤ → Next → Type 0
IsBehind key (Found leaf cell) = (key ≤ℤ cell.rowid) × IsKept cell
IsBehind key Nothing = ⊤
IsBehind key (Meets fault) = ⊤

-- the definitions of paths and searches, as records: at a depth that is a numeral they are not opened
pub record Leads (left : ℕ) (columns : Option ℕ) (pages : Pages) (above page : ℕ) (key : ℤ) (end : PathEnd) : Type 0 where
  pub leads : LeadsTo left columns pages above page key end

pub record HasSought (left : ℕ) (pages : Pages) (key : ℤ) (above : ℕ) (from : ℤ) (page : ℕ) (next : Next) : Type 0 where
  pub seeks : Seeks left pages key above from page next
  pub behind : IsBehind key next

pub record HasFirst (left : ℕ) (pages : Pages) (key : ℤ) (page : ℕ) (from : ℤ) (children : List ℕ) (next : Next) : Type 0 where
  pub first : FirstOf (Seeks left pages key page) from children next
  pub behind : IsBehind key next

-- the next row of a walk
pub record GivesRow (columns : Option ℕ) (pages : Pages) (root : ℕ) (high key rowid : ℤ) (payload : List ℕ) : Type 0 where
  pub leaf : ℕ
  pub cell : LeafCell
  pub sought : HasSought most_depth pages key root key root (Found leaf cell)
  pub keyed : rowid ≡ cell.rowid
  pub within : cell.rowid ≤ℤ high
  pub readable : IsReadable columns pages cell payload

-- or its end
pub record EndsWalk (columns : Option ℕ) (pages : Pages) (root : ℕ) (high key : ℤ) (end : WalkEnd) : Type 0 where
  pub next : Next
  pub sought : HasSought most_depth pages key root key root next
  pub last : IsLast columns pages high next end

abbrev pub IsStep : Option ℕ → Pages → ℕ → ℤ → ℤ → Step → Type 0
IsStep columns pages root high key (steps.Row rowid payload) = GivesRow columns pages root high key rowid payload
IsStep columns pages root high key (steps.Ends end) = EndsWalk columns pages root high key end

-- a walk has given these rows, and goes on at a key
pub record HasGone (columns : Option ℕ) (pages : Pages) (root : ℕ) (low high : ℤ) (rows : List (ℤ × List ℕ)) (key : ℤ) : Type 0 where
  pub none : high <ℤ key → (rows ≡ []) × (key ≡ low)
  pub on : (more : List (ℤ × List ℕ)) (end : WalkEnd) → key ≤ℤ high → WalksFrom columns pages root high key more end
      → Walk columns pages root low high (rows ++ more) end
