-- Root pages whose numbers take each size that they may take in a record.
-- After sqlite.org, "Database File Format", section 2.1, "Record Format".
use Rattle.std.specs.Prelude.{◌≡◌, ℕ, ◌^◌, List, [], ◌∷◌}
use Rattle.std.specs.List.{Contains}
use Rattle.book_model.specs.Book.{Name, entry_row}

-- of 0, 1, 2, 3, 4, 6 and 8 bytes
abbrev pub roots : List ℕ
roots = 0 ∷ 2 ∷ 2 ^ 7 ∷ 2 ^ 15 ∷ 2 ^ 23 ∷ 2 ^ 31 ∷ 2 ^ 47 ∷ []

-- the row of the schema for a table is as large with one of them for its root as with this one
pub record HasAlike (root : ℕ) : Type 0 where
  pub like : ℕ
  pub among : Contains roots like
  pub same : (name : Name) (columns : List Name) → (entry_row name columns like).size ≡ (entry_row name columns root).size

-- and so it is whichever the root is
abbrev pub RootsOfEachSize : Type 0
RootsOfEachSize = (root : ℕ) → HasAlike root
