-- Words that only the private steps use. The definitions of paths and searches stand here as records: at a depth that is a
-- numeral they are not opened.
use Rattle.std.specs.Prelude.{◌≡◌, ℕ, ◌≤◌, ℤ, List, length, Option, Some, None, IsTrue}
use Rattle.std.specs.declared.cmp.Ordering.{Ordering}
use Rattle.std.specs.Ordering.{nat_cmp, ordering_then}
use Rattle.std.specs.BTreeSet.{BTreeSet, contains}
use Rattle.page_list.specs.Pages.{Pages}
use Rattle.tree_page.specs.declared.cell.LeafCell.{LeafCell}
use Rattle.tree_model.specs.Whole.{below_all}
use Rattle.tree_model.specs.declared.ends.PathEnd.{PathEnd}
use Rattle.tree_model.specs.declared.ends.Next.{Next}
use Rattle.tree_model.specs.declared.ends.Next.TheVariants.{Found, Nothing}
use Rattle.tree_model.specs.Walk.{LeadsTo, Seeks, FirstOf}
use Rattle.tree_search.specs.declared.next.Place.{Place}
use Rattle.tree_search.specs.declared.next.Search.{Search}

-- a cell keeps no more than the payload
abbrev pub IsKept : LeafCell → Type 0
IsKept cell = length cell.local ≤ cell.payload_len

-- the path from a page on
pub record Leads (left : ℕ) (columns : Option ℕ) (pages : Pages) (above page : ℕ) (key : ℤ) (end : PathEnd) : Type 0 where
  pub leads : LeadsTo left columns pages above page key end

-- the key that a search begins at
abbrev pub from_of : Option ℤ → ℤ
from_of None = below_all
from_of (Some key) = key

-- what a search meets, where it answers
abbrev pub next_of : Option Place → Next
next_of None = Nothing
next_of (Some place) = Found place.leaf place.cell

-- the search for the next row from a page on, and below the children of one
pub record HasSought (left : ℕ) (pages : Pages) (key : ℤ) (above : ℕ) (from : ℤ) (page : ℕ) (next : Next) : Type 0 where
  pub seeks : Seeks left pages key above from page next

pub record HasFirst (left : ℕ) (pages : Pages) (key : ℤ) (page : ℕ) (from : ℤ) (children : List ℕ) (next : Next) : Type 0 where
  pub first : FirstOf (Seeks left pages key page) from children next

-- the order of pages with how many more pages a path could go over there
abbrev pub depth_cmp : ℕ × ℕ → ℕ × ℕ → Ordering
depth_cmp a b = ordering_then (nat_cmp a.0 b.0) (nat_cmp a.1 b.1)

-- pages that were searched whole and have nothing, wherever their numbers stand
pub record AreEmpty (pages : Pages) (key : ℤ) (empty : BTreeSet (ℕ × ℕ)) : Type 0 where
  pub each : (left page above : ℕ) → IsTrue (contains depth_cmp empty (left, page)) → HasSought left pages key above below_all page Nothing

-- a search goes on with the same key, and a buffer as long as before
pub record GoesOn (old new : Search) : Type 0 where
  pub same_key : new.key ≡ old.key
  pub as_long : length new.buffer.items ≡ length old.buffer.items
