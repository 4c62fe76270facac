-- A tree of the greatest depth has many pages.
use Rattle.std.proofs.Common.{◌≡◌, ℕ, nat_lt, None, false, ℤ, zero, suc, ◌+◌, ◌*◌, ◌≤◌, List, [], ◌∷◌, ◌++◌, length, sym, ap, subst, arith, mul-le-mul_right}
use Rattle.std.specs.List.{AllZip}
use Rattle.db_format.specs.Header.{page_of, fields_of, greatest_length}
use Rattle.db_format.proofs.HeaderLemmas.{none_accepted, page_size_kept}
use Rattle.page_list.specs.Pages.{Pages, times}
use Rattle.page_list.specs.Freelist.{Trunk}
use Rattle.page_list.proofs.TimesLemmas.{no_more_than}
use Rattle.tree_page.specs.Page.{OnePage}
use Rattle.tree_page.specs.declared.cell.InnerCell.{InnerCell}
use Rattle.tree_page.specs.declared.cell.PageCells.TheVariants.{Interior as InteriorPage}
use Rattle.tree_model.specs.Tree.{Tree, Leaf, Child, Right, root_of, pages_of, HasDepth, IsFilled, IsFilledRoot}
use Rattle.tree_model.specs.Whole.{IsWholeTree, IsWholeFor, HasHeader, unsized_header, named_pages}
use Rattle.tree_model.proofs.SizeLemmas.{no_fault}
use Rattle.tree_model.proofs.OneTreeLemmas.{behind}
use Rattle.tree_model.proofs.PathLemmas.{IsInner, last_of, inner_top}
use Rattle.tree_model.proofs.OthersLemmas.{split_named}
use Rattle.tree_laws.specs.Replace.{DeepTooLarge}
use Rattle.tree_laws.proofs.NeedLemmas.{nodes, all_pages}
use Rattle.tree_laws.proofs.RangeLemmas.{named_there}

-- the pages that a tree of some depth has at least, below a root: 2 to the depth but one
abbrev least : ℕ → ℕ
least zero = 0
least (suc depth) = 1 + 2 * least depth

-- so many for each child of the page at the top
abbrev each_child : ℕ → Tree → ℕ
each_child n (Leaf page rows) = 0
each_child n (Child child key more) = n + each_child n more
each_child n (Right page child) = n

-- a tree has a depth, so behind a child there is another one
no_depth : (tree : Tree) → ¬ (HasDepth zero tree)
no_depth (Leaf page rows) level = omega (arith, level)
no_depth (Child child key more) level = level
no_depth (Right page child) level = level

one_more : (n depth : ℕ) (child more : Tree) → HasDepth depth child → HasDepth (suc depth) more → n ≤ each_child n more
one_more n zero child (Leaf page rows) level next = absurd (no_depth child level)
one_more n (suc depth) child (Leaf page rows) level next = absurd (omega (arith, next))
one_more n depth child (Child other key more) level next = omega arith
one_more n depth child (Right page other) level next = omega arith

leaf_least : (depth : ℕ) → depth ≡ 1 → least depth ≤ 1
leaf_least depth one = let P : ℕ → Type 0 = λ d. least d ≤ 1 in subst P (sym one) (omega arith)

both_least : (depth : ℕ) (child more : Tree) (key : ℤ) → HasDepth depth (Child child key more) → ((d : ℕ) → HasDepth d child → least d ≤ nodes child)
    → ((d : ℕ) → HasDepth (suc d) more → 1 + each_child (least d) more ≤ nodes more) → least depth ≤ nodes child + nodes more
both_least zero child more key level first rest = absurd level
both_least (suc depth) child more key level first rest =
    omega (arith, first depth level.0, rest depth level.1, one_more (least depth) depth child more level.0 level.1)

many : (tree : Tree) → ((depth : ℕ) → HasDepth depth tree → IsFilled 0 tree → least depth ≤ nodes tree)
    × ((depth cells : ℕ) → HasDepth (suc depth) tree → IsFilled cells tree → 1 + each_child (least depth) tree ≤ nodes tree)
many (Leaf page rows) = (λ depth level filled. leaf_least depth level, λ depth cells level filled. omega arith)
many (Child child key more) = (
  λ depth level filled. both_least depth child more key level (λ d l. (many child).0 d l filled.0) (λ d l. (many more).1 d (0 + 1) l filled.1),
  λ depth cells level filled. omega (arith, (many child).0 depth level.0 filled.0, (many more).1 depth (cells + 1) level.1 filled.1),
)
many (Right page child) = (λ depth level filled. absurd (omega (arith, filled.0)), λ depth cells level filled. omega (arith, (many child).0 depth level filled.1))

many_nodes : (depth : ℕ) (tree : Tree) → HasDepth (suc depth) tree → IsFilledRoot tree → 1 + each_child (least depth) tree ≤ nodes tree
many_nodes depth (Leaf page rows) level filled = omega arith
many_nodes depth (Child child key more) level filled = omega (arith, (many child).0 depth level.0 filled.0, (many more).1 depth 1 level.1 filled.1)
many_nodes depth (Right page child) level filled = omega (arith, (many child).0 depth level filled.1)

-- how many that are at depth 20
abbrev below_deep : ℕ
below_deep = 524287

is_inner : (depth : ℕ) (tree : Tree) → HasDepth (suc (suc depth)) tree → IsInner tree
is_inner depth (Leaf page rows) level = absurd (omega (arith, level))
is_inner depth (Child child key more) level = is_inner depth more level.1
is_inner depth (Right page child) level = tt

by_cells : (tree : Tree) → IsInner tree → each_child below_deep tree ≡ below_deep * length (behind tree) + below_deep
by_cells (Leaf page rows) inner = absurd inner
by_cells (Child child key more) inner = omega (arith, by_cells more inner)
by_cells (Right page child) inner = omega arith

-- a database has no more pages than the greatest length has pages of the least size
pub most_pages : (pages : Pages) → HasHeader pages → pages.size ≤ 2097152
most_pages pages has =
    let bytes : List ℕ = unsized_header pages in
    let len : ℕ = page_of bytes * pages.size in
    let accepted = none_accepted bytes len None (no_fault _ (fields_of bytes len) has.accepted) in
    let power = page_size_kept bytes None accepted.page in
    let small : len ≤ greatest_length = not_more len greatest_length accepted.small in
    omega (arith, small, mul-le-mul_right pages.size power.least)
  where
    not_more : (n k : ℕ) → nat_lt k n ≡ false → n ≤ k
    not_more n k e = grind (arith, e)

-- one of the trees is whole
pub whole_one : (pages : Pages) (roots : List ℕ) (before others : List Tree) (tree : Tree) → AllZip (IsWholeTree pages) roots (before ++ tree ∷ others)
    → (root : ℕ) × IsWholeTree pages root tree
whole_one pages [] [] others tree all = absurd all
whole_one pages [] (t ∷ before) others tree all = absurd all
whole_one pages (root ∷ roots) [] others tree all = (root, all.0)
whole_one pages (root ∷ roots) (t ∷ before) others tree all = whole_one pages roots before others tree all.1

-- its pages are different ones, and all there
pub tree_fits : (pages : Pages) (roots : List ℕ) (before others : List Tree) (tree : Tree) (trunks : List Trunk) → IsWholeFor pages roots (before ++ tree ∷ others) trunks
    → length (pages_of tree) ≤ pages.size
tree_fits pages roots before others tree trunks whole =
    let named : (n : ℕ) → times n (pages_of tree) ≤ times n (named_pages roots (before ++ tree ∷ others) trunks) =
    λ n. omega (arith, split_named roots before others tree trunks n) in
    no_more_than pages.size (pages_of tree) (record { once = λ n. omega (arith, named n, whole.different.once n) })
    (λ n some. let there = named_there pages roots (before ++ tree ∷ others) trunks whole n (omega (arith, some, named n)) in (there.least, there.most))

pub same_cells : (cells cells' : List InnerCell) (right right' : ℕ) → InteriorPage cells right ≡ InteriorPage cells' right' → cells ≡ cells'
same_cells cells cells' right right' e = cc

pub deep_is_large : OnePage → DeepTooLarge
deep_is_large one pages roots before others tree trunks cells right whole deep has =
    let is = whole_one pages roots before others tree whole.each_tree in
    let inner = is_inner 18 tree deep in
    let top = inner_top pages tree inner is.1.held in
    let same = same_cells cells (behind tree) right (last_of tree) (one (pages.bytes (root_of tree)) (root_of tree) pages.usable _ _ has.reads top.reads) in
    let long : length cells ≡ length (behind tree) = ap (λ (l : List InnerCell). length l) same in
    omega (
      arith,
      long,
      by_cells tree inner,
      many_nodes 19 tree deep is.1.filled,
      all_pages tree,
      tree_fits pages roots before others tree trunks whole,
      most_pages pages whole.header,
    )
