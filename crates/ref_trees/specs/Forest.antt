-- What the plain program says of the trees from a list of roots, and why pages are not whole for it.
-- After sqlite.org, "Database File Format", sections 1.3, 1.5 and 1.6.
use Rattle.std.specs.Prelude.{◌≢◌, ℕ, ◌≤◌, List, length}
use Rattle.std.specs.List.{AllZip}
use Rattle.page_list.specs.Pages.{Pages, IsGood, times, Among}
use Rattle.page_list.specs.Freelist.{Trunk, IsFreelist, free_pages, free_count}
use Rattle.tree_model.specs.Tree.{Tree, IsOrdered, HasDepth, IsFilledRoot}
use Rattle.tree_model.specs.Whole.{below_all, greatest, most_depth, HasHeader, IsWholeFor, named_pages}
use Rattle.ref_trees.specs.Gathered.{HasTree, HasNoTree}
use Rattle.ref_trees.specs.declared.whole.Lacks.{Lacks}
use Rattle.ref_trees.specs.declared.whole.Lacks.TheVariants as lacks

-- the pages hold a tree from each of the roots, of which this is said
pub record HasForest (pages : Pages) (roots : List ℕ) (Said : List Tree → Type 0) : Type 0 where
  pub trees : List Tree
  pub each : AllZip (HasTree pages most_depth) roots trees
  pub said : Said trees

-- they hold none from one of the roots
pub record LacksTree (pages : Pages) (roots : List ℕ) : Type 0 where
  pub root : ℕ
  pub among : Among roots root
  pub none : HasNoTree pages most_depth root

-- they have no freelist
abbrev pub HasNoFreelist : Pages → Type 0
HasNoFreelist pages = (trunks : List Trunk) → ¬ (IsFreelist pages trunks)

-- they have a freelist, of which this is said
pub record HasFreelist (pages : Pages) (Said : List Trunk → Type 0) : Type 0 where
  pub trunks : List Trunk
  pub has : IsFreelist pages trunks
  pub said : Said trunks

-- they hold a tree from one of the roots, of which this is said
pub record HasAmong (pages : Pages) (roots : List ℕ) (root : ℕ) (Said : Tree → Type 0) : Type 0 where
  pub among : Among roots root
  pub tree : Tree
  pub has_tree : HasTree pages most_depth root tree
  pub said : Said tree

-- the point of a whole tree that fails for the tree from a root
abbrev pub IsLack : Pages → List ℕ → Lacks → Type 0
IsLack pages roots lacks.Header = ¬ (HasHeader pages)
IsLack pages roots (lacks.Tree root) = Among roots root × HasNoTree pages most_depth root
IsLack pages roots (lacks.Order root) = HasAmong pages roots root (λ tree. ¬ (IsOrdered below_all greatest tree))
IsLack pages roots (lacks.Depth root) = HasAmong pages roots root (λ tree. (depth : ℕ) → ¬ (HasDepth depth tree))
IsLack pages roots (lacks.Empty root) = HasAmong pages roots root (λ tree. ¬ (IsFilledRoot tree))
IsLack pages roots lacks.Freelist = HasNoFreelist pages
IsLack pages roots (lacks.BadFree page) = HasFreelist pages (λ trunks. Among (free_pages trunks) page × ¬ (IsGood pages page))
IsLack pages roots lacks.Count = HasFreelist pages (λ trunks. free_count pages ≢ length (free_pages trunks))
IsLack pages roots (lacks.Twice page) = HasForest pages roots (λ trees. HasFreelist pages (λ trunks. 2 ≤ times page (named_pages roots trees trunks)))

-- the pages are whole for these roots
pub record AreWholeFor (pages : Pages) (roots : List ℕ) : Type 0 where
  pub trees : List Tree
  pub trunks : List Trunk
  pub whole : IsWholeFor pages roots trees trunks
