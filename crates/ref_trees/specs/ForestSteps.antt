-- Trees and the freelist, looked at one by one. Only the steps of the plain program speak by these words.
use Rattle.std.specs.Prelude.{◌≡◌, ℕ, List, ◌∷◌, ◌++◌, length, take, drop}
use Rattle.std.specs.List.{AllZip, flat_map}
use Rattle.page_list.specs.Pages.{Pages, IsGood, Among}
use Rattle.page_list.specs.Freelist.{Trunk, IsFreelist, free_pages, free_count}
use Rattle.tree_model.specs.Tree.{Tree, pages_of, IsOrdered, HasDepth, IsFilledRoot}
use Rattle.tree_model.specs.Whole.{below_all, greatest, most_depth, IsWholeTree}
use Rattle.ref_trees.specs.Gathered.{HasTree, HasNoTree}
use Rattle.ref_trees.specs.declared.whole.Lacks.{Lacks}
use Rattle.ref_trees.specs.declared.whole.Lacks.TheVariants as lacks

-- a whole tree from a root names these pages
pub record IsWholeWith (pages : Pages) (root : ℕ) (named : List ℕ) : Type 0 where
  pub tree : Tree
  pub whole : IsWholeTree pages root tree
  pub named_are : named ≡ pages_of tree

-- the pages hold a tree from a root, of which this is said
pub record HasTreeThat (pages : Pages) (root : ℕ) (Said : Tree → Type 0) : Type 0 where
  pub tree : Tree
  pub has_tree : HasTree pages most_depth root tree
  pub said : Said tree

-- the point that fails for the tree from one root
abbrev pub IsTreeLack : Pages → ℕ → Lacks → Type 0
IsTreeLack pages root (lacks.Tree at) = (at ≡ root) × HasNoTree pages most_depth root
IsTreeLack pages root (lacks.Order at) = (at ≡ root) × HasTreeThat pages root (λ tree. ¬ (IsOrdered below_all greatest tree))
IsTreeLack pages root (lacks.Depth at) = (at ≡ root) × HasTreeThat pages root (λ tree. (depth : ℕ) → ¬ (HasDepth depth tree))
IsTreeLack pages root (lacks.Empty at) = (at ≡ root) × HasTreeThat pages root (λ tree. ¬ (IsFilledRoot tree))
IsTreeLack pages root _ = ⊥

-- the bytes of page 1 with zeros for the size at place 28
abbrev pub without_size : List ℕ → List ℕ
without_size bytes = take 28 bytes ++ 0 ∷ 0 ∷ 0 ∷ 0 ∷ drop 32 bytes

-- whole trees from these roots do
pub record AreWholeWith (pages : Pages) (roots named : List ℕ) : Type 0 where
  pub trees : List Tree
  pub each : AllZip (IsWholeTree pages) roots trees
  pub named_are : named ≡ flat_map pages_of trees

-- a freelist that is as it should be has these pages
pub record IsWholeFreelist (pages : Pages) (free : List ℕ) : Type 0 where
  pub trunks : List Trunk
  pub has : IsFreelist pages trunks
  pub good : (page : ℕ) → Among (free_pages trunks) page → IsGood pages page
  pub counted : free_count pages ≡ length (free_pages trunks)
  pub free_are : free ≡ free_pages trunks
