-- A put, from the first page that it takes to the last that it gives back, and what it leaves of whole pages.
-- After sqlite.org, "Database File Format", section 1.6, "B-tree Pages".
use Rattle.std.specs.Prelude.{◌≡◌, ◌⊎◌, ◌↔◌, ℕ, ◌+◌, ◌-◌, ◌*◌, ◌≤◌, max, Bool, ℤ, ◌<ℤ◌, ◌≤ℤ◌, int_le, if◌then◌else◌, List, [], ◌∷◌, ◌++◌, length, map, take, drop, reverse}
use Rattle.std.specs.Prelude.{Option, Some, None, is_some, IsTrue}
use Rattle.std.specs.List.{AllByRecursion}
use Rattle.db_format.specs.Header.{IsPageSize, greatest_length}
use Rattle.db_format.specs.Spill.{local_size}
use Rattle.page_list.specs.Pages.{Pages, HasPage, IsGood, SamePage, Among, AllDifferent, AreSized}
use Rattle.page_list.specs.Freelist.{Trunk}
use Rattle.page_list.specs.Chain.{IsChain, pages_needed}
use Rattle.page_list.specs.Edits.{taken_number, taken_numbers, after_takes, after_gives}
use Rattle.payload_chain.specs.Chains.{with_chain}
use Rattle.tree_page.specs.declared.cell.LeafCell.{LeafCell}
use Rattle.tree_page.specs.Written.{Fits}
use Rattle.tree_model.specs.Tree.{Tree, root_of, rows_of}
use Rattle.tree_model.specs.Held.{HasCells}
use Rattle.tree_model.specs.Whole.{below_all, greatest, IsWholeFor, named_pages}
use Rattle.tree_model.specs.Laws.{shown, row_at}
use Rattle.tree_model.specs.Need.{use_of}
use Rattle.tree_model.specs.declared.level.Level.{Level}
use Rattle.tree_model.specs.declared.ends.PathEnd.TheVariants.{HasPayload}
use Rattle.tree_laws.specs.Front.{FreelistFront}
use Rattle.tree_laws.specs.Whole.{StaysUnnamed, missing_in}
use Rattle.page_cut.specs.declared.parts.Sheet.{Sheet}
use Rattle.tree_level.specs.Level.{numbers}
use Rattle.tree_plan.specs.declared.leaf.LeafPlan.{LeafPlan}
use Rattle.tree_plan.specs.Plan.{IsLeafPlan}
use Rattle.tree_plan.specs.Climb.{AreClimbed}
use Rattle.tree_search.specs.Search.{Descends}

-- the bytes of a payload that its cell does not keep were written to as many pages as they need, of which this is the first
pub record IsSpilled (page_size : ℕ) (old new : Pages) (rest : List ℕ) (first : ℕ) : Type 0 where
  pub some : 1 ≤ length rest
  pub first_is : first ≡ taken_number old
  pub pages_are : new ≡ with_chain page_size (taken_numbers page_size (pages_needed old.usable (length rest)) old) rest
      (after_takes page_size (pages_needed old.usable (length rest)) old)

-- where there are none, nothing was written
abbrev pub IsChained : ℕ → Pages → Pages → List ℕ → ℕ → Type 0
IsChained page_size old new rest first = ((rest ≡ []) × (first ≡ 0) × (new ≡ old)) ⊎ IsSpilled page_size old new rest first

-- the cell of a row with this payload, of which the rest begins on a page
pub record IsCellOf (usable : ℕ) (key : ℤ) (payload : List ℕ) (first : ℕ) (cell : LeafCell) : Type 0 where
  pub keyed : cell.rowid ≡ key
  pub long : cell.payload_len ≡ length payload
  pub keeps : cell.local ≡ take (local_size usable (length payload)) payload
  pub begins : cell.overflow ≡ first

-- the sheets were written: where no two are for one page, each that fits on its page stands there. All other pages stay;
-- of page 1 the header of the database does
pub record AreWritten (page_size : ℕ) (old new : Pages) (out : List Sheet) : Type 0 where
  pub sized : AreSized page_size new
  pub size : new.size ≡ old.size
  pub used : new.usable ≡ old.usable
  pub each : AllDifferent (numbers out) → AllByRecursion (λ sheet. HasPage old sheet.number → Fits sheet.cells sheet.number old.usable
      → HasCells new sheet.number sheet.cells) out
  pub others : (n : ℕ) → ¬ (Among (numbers out) n) → SamePage old new n
  pub front : take 100 (new.bytes 1) ≡ take 100 (old.bytes 1)
  pub good : IsGood old 1 → IsGood new 1

-- the pages of a chain were given back
pub record IsFreed (page_size : ℕ) (old new : Pages) (first len : ℕ) : Type 0 where
  pub given : List ℕ
  pub bytes : List ℕ
  pub chain : IsChain old first given bytes
  pub long : length bytes ≡ len
  pub pages_are : new ≡ after_gives page_size given old

-- those of the cell that was replaced, if any
abbrev pub IsGiven : ℕ → Pages → Pages → Option LeafCell → Type 0
IsGiven page_size old new None = new ≡ old
IsGiven page_size old new (Some cell) =
    ((cell.payload_len ≤ length cell.local) × (new ≡ old)) ⊎ IsFreed page_size old new cell.overflow (cell.payload_len - length cell.local)

-- a put, done: the search, the chain of the payload, the plan of the leaf, the pages taken for its parts and what was
-- written, and the old chain given back; `replaced` tells whether there was a row
pub record PutDone (page_size : ℕ) (old new : Pages) (root : ℕ) (key : ℤ) (payload : List ℕ) (replaced : Bool) : Type 0 where
  pub size_of_page : IsPageSize page_size
  pub spare : page_size ≤ old.usable + 255
  pub sized : AreSized page_size old
  pub above : below_all <ℤ key
  pub below : key ≤ℤ greatest
  pub levels : List Level
  pub leaf : ℕ
  pub cells : List LeafCell
  pub descends : Descends old key root levels leaf cells
  pub chained : Pages
  pub first : ℕ
  pub chain : IsChained page_size old chained (drop (local_size old.usable (length payload)) payload) first
  pub chain_sized : AreSized page_size chained
  pub cell : LeafCell
  pub cell_of : IsCellOf old.usable key payload first cell
  pub plan : LeafPlan
  pub planned : IsLeafPlan leaf old.usable cells cell plan
  pub count : ℕ
  pub grown : Pages
  pub grown_is : grown ≡ after_takes page_size count chained
  pub few : grown.size * page_size ≤ greatest_length
  pub out : List Sheet
  pub climbed : AreClimbed old.usable leaf plan.sheets (reverse levels) (taken_numbers page_size count chained) out
  pub written : Pages
  pub write : AreWritten page_size grown written out
  pub give : IsGiven page_size written new plan.replaced
  pub told : replaced ≡ is_some plan.replaced

-- rows by key, with one put in: in place of the one of its key, or between its neighbours
abbrev pub put_shown : ℤ × List ℕ → List (ℤ × List ℕ) → List (ℤ × List ℕ)
put_shown row [] = row ∷ []
put_shown row (r ∷ more) =
    if int_le row.0 r.0 then (if int_le r.0 row.0 then row ∷ more else row ∷ r ∷ more) else r ∷ put_shown row more

-- What a put leaves of whole pages, where the tree is one of them: they are whole with another tree in its place, which
-- has its rows with the one that was put. There are no more pages than before, or than are used then, those used before and
-- those that nothing named
pub record IsPut (old new : Pages) (roots : List ℕ) (before : List Tree) (tree : Tree) (behind : List Tree) (trunks : List Trunk) (key : ℤ) (payload : List ℕ)
    (replaced : Bool) : Type 0 where
  pub tree' : Tree
  pub trunks' : List Trunk
  pub whole : IsWholeFor new roots (before ++ tree' ∷ behind) trunks'
  pub rooted : root_of tree' ≡ root_of tree
  pub rows : map shown (rows_of tree') ≡ put_shown (key, payload) (map shown (rows_of tree))
  pub told : IsTrue replaced ↔ ((was : List ℕ) × (row_at key (rows_of tree) ≡ HasPayload was))
  pub unnamed : (n : ℕ) → HasPage old n → ¬ (Among (named_pages roots (before ++ tree ∷ behind) trunks) n) →
      StaysUnnamed old new (named_pages roots (before ++ tree' ∷ behind) trunks') n
  -- and no page is lost: nothing named before what nothing names then
  pub none_lost : (n : ℕ) → HasPage new n → ¬ (Among (named_pages roots (before ++ tree' ∷ behind) trunks') n) →
      HasPage old n × ¬ (Among (named_pages roots (before ++ tree ∷ behind) trunks) n)
  -- of the header of the database the freelist alone has changed
  pub front : FreelistFront old new
  pub no_fewer : old.size ≤ new.size
  pub bound : new.size ≤ max old.size (length (missing_in (named_pages roots (before ++ tree ∷ behind) trunks) old.size)
      + use_of roots (before ++ tree ∷ behind) + use_of roots (before ++ tree' ∷ behind))
  -- nor more than with the root of the tree counted once: it is the same page before and after
  pub tight : new.size + 1 ≤ max (old.size + 1) (length (missing_in (named_pages roots (before ++ tree ∷ behind) trunks) old.size)
      + use_of roots (before ++ tree ∷ behind) + use_of roots (before ++ tree' ∷ behind))

abbrev pub PutKeepsWhole : Type 0
PutKeepsWhole = (page_size : ℕ) (old new : Pages) (root : ℕ) (key : ℤ) (payload : List ℕ) (replaced : Bool) (roots : List ℕ) (before behind : List Tree)
    (tree : Tree) (trunks : List Trunk) → PutDone page_size old new root key payload replaced → IsWholeFor old roots (before ++ tree ∷ behind) trunks → root_of tree ≡ root →
    IsPut old new roots before tree behind trunks key payload replaced
