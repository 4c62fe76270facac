-- Words that only the private steps use.
use Rattle.std.specs.Prelude.{◌≡◌, ℕ, ℤ, ◌≤ℤ◌, ◌<ℤ◌, List, [], ◌++◌, Some}
use Rattle.page_list.specs.Pages.{Pages}
use Rattle.db_format.specs.declared.value.Value.{Value}
use Rattle.db_format.specs.Schema.{IsRecordOf}
use Rattle.db_format.specs.declared.fault.SpaceFault.{SpaceFault}
use Rattle.db_format.specs.declared.fault.SpaceFault.TheVariants.{Failed, Memory, Bad, Corrupt, Large}
use Rattle.tree_model.specs.declared.ends.WalkEnd.{WalkEnd}
use Rattle.tree_model.specs.Walk.{WalksFrom, Walk}
use Rattle.tree_search.specs.declared.row.OnLeaf.{OnLeaf}
use Rattle.table_rows.specs.Rows.{AreRecords}

-- why a row was not read as a record: it is none of so many values, which is a fault of its leaf; want of memory needs no cause
abbrev pub IsNoRecord : ℕ → OnLeaf → SpaceFault → Type 0
IsNoRecord columns row Failed = ⊥
IsNoRecord columns row Memory = Unit {0}
IsNoRecord columns row (Bad page kept found) = ⊥
IsNoRecord columns row (Corrupt page) = (page ≡ row.leaf) × ¬ (IsRecordOf columns row.payload)
IsNoRecord columns row (Large pages) = ⊥

-- a walk has given these rows, and goes on at a key
pub record HasGone (columns : ℕ) (pages : Pages) (root : ℕ) (low high : ℤ) (stored : List (ℤ × List ℕ)) (key : ℤ) : Type 0 where
  pub none : high <ℤ key → (stored ≡ []) × (key ≡ low)
  pub on : (more : List (ℤ × List ℕ)) (end : WalkEnd) → key ≤ℤ high → WalksFrom (Some columns) pages root high key more end
      → Walk (Some columns) pages root low high (stored ++ more) end

-- those are these records
pub record HasRows (columns : ℕ) (pages : Pages) (root : ℕ) (low high : ℤ) (rows : List (ℤ × List Value)) (key : ℤ) : Type 0 where
  pub stored : List (ℤ × List ℕ)
  pub gone : HasGone columns pages root low high stored key
  pub records : AreRecords stored rows
