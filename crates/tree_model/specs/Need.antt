-- How many pages trees use, and how many they may need.
-- After sqlite.org, "Database File Format", section 1.6, "B-tree Pages", for the pages of a payload.
use Rattle.std.specs.Prelude.{ℕ, ◌+◌, ◌*◌, ◌-◌, max, List, [], ◌∷◌, length, map}
use Rattle.db_format.specs.Spill.{local_size}
use Rattle.page_list.specs.Chain.{pages_needed}
use Rattle.tree_model.specs.Tree.{Tree, rows_of}
use Rattle.tree_model.specs.Whole.{first_page, used_pages}

-- the overflow pages of a payload of so many bytes
abbrev pub chain_pages : ℕ → ℕ → ℕ
chain_pages usable len = pages_needed usable (len - local_size usable len)

-- those of payloads of these lengths together
abbrev pub chains_pages : ℕ → List ℕ → ℕ
chains_pages usable [] = 0
chains_pages usable (len ∷ more) = chain_pages usable len + chains_pages usable more

-- what a tree whose rows have payloads of these lengths may need: two pages a row, and the chains
abbrev pub need_of_rows : ℕ → List ℕ → ℕ
need_of_rows usable lens = 2 * max 1 (length lens) + chains_pages usable lens

abbrev pub need_of_trees : ℕ → List Tree → ℕ
need_of_trees usable [] = 0
need_of_trees usable (tree ∷ more) = need_of_rows usable (map (λ row. length row.payload) (rows_of tree)) + need_of_trees usable more

-- what the trees of these roots may need, and the header page where it is no root of them
abbrev pub need : ℕ → List ℕ → List Tree → ℕ
need usable roots trees = length (first_page roots) + need_of_trees usable trees

-- the pages that are in use, where none is named twice: all but the free ones and those that nothing names
abbrev pub use_of : List ℕ → List Tree → ℕ
use_of roots trees = length (used_pages roots trees)
