-- Page 1 and the freelist change, and the trees stay.
use Rattle.std.proofs.Common.{◌≡◌, ◌≢◌, inl, inr, ℕ, ◌+◌, ◌≤◌, List, [], ◌∷◌, ◌++◌, length, take, sym, ap, subst, arith, length-take}
use Rattle.std.specs.List.{flat_map, AllZip}
use Rattle.std.proofs.lemmas.Bool.{cases_order, cases_lt}
use Rattle.page_list.specs.Pages.{Pages, times, Among}
use Rattle.page_list.specs.Freelist.{Trunk, free_pages}
use Rattle.page_list.proofs.ChainLemmas.{times-append, among-front, among-back, among-here}
use Rattle.tree_page.specs.declared.cell.InnerCell.{InnerCell}
use Rattle.tree_page.specs.declared.cell.PageCells.{PageCells}
use Rattle.tree_page.specs.Page.{IsPage}
use Rattle.tree_page.specs.Laws.{FrontApart}
use Rattle.tree_model.specs.Tree.{Tree, Leaf, Child, Right, root_of, pages_of}
use Rattle.tree_model.specs.Held.{HasCells, HoldsBehind}
use Rattle.tree_model.specs.Whole.{IsWholeTree, IsWholeFor, first_page, used_pages}
use Rattle.tree_model.specs.Laws.{Keeps, chains_of}
use Rattle.tree_model.proofs.StayLemmas.{cells_stay, rows_stay, tree_behind_stays}
use Rattle.tree_model.proofs.WholeLemmas.{first_here}
use Rattle.tree_laws.specs.Front.{FrontChanges, WholeFront}
use Rattle.tree_laws.proofs.HeaderLemmas.{header_stays}

-- the pages of a tree but the one at its top
abbrev pub below_top : Tree → List ℕ
below_top (Leaf page rows) = chains_of rows
below_top (Child child key more) = pages_of child ++ below_top more
below_top (Right page child) = pages_of child

-- the b-tree page on page 1 stays
one_stays : FrontApart → (old new : Pages) (cells : PageCells) → new.usable ≡ old.usable → FrontChanges old new → HasCells old 1 cells → HasCells new 1 cells
one_stays apart old new cells used front has =
    let P : ℕ → Type 0 = λ u. IsPage (new.bytes 1) 1 u cells in
    let long : length (take old.usable (new.bytes 1)) ≡ length (take old.usable (old.bytes 1)) =
    omega (arith, length-take old.usable (new.bytes 1), length-take old.usable (old.bytes 1), front.fields.long) in
    record { there = front.there; good = front.good; reads = subst P (sym used) (apart (old.bytes 1) (new.bytes 1) old.usable cells long front.behind has.reads) }

-- a tree whose page at the top stays is held where all that is below it is kept
top_held : (old new : Pages) (kept : ℕ → Type 0) (front : List InnerCell) (tree : Tree) → HoldsBehind old front tree
    → ((cells : PageCells) → HasCells old (root_of tree) cells → HasCells new (root_of tree) cells) → Keeps old new kept
    → ((n : ℕ) → Among (below_top tree) n → kept n) → HoldsBehind new front tree
top_held old new kept front (Leaf page rows) holds top keeps among = (holds.0, top _ holds.1, rows_stay old new kept rows keeps among holds.2)
top_held old new kept front (Child child key more) holds top keeps among = (
  tree_behind_stays old new kept [] child keeps (λ n some. among n (among-front n (pages_of child) _ some)) holds.0,
  top_held old new kept _ more holds.1 top keeps (λ n some. among n (among-back n (pages_of child) _ some)),
)
top_held old new kept front (Right page child) holds top keeps among = (top _ holds.0, tree_behind_stays old new kept [] child keeps among holds.1)

tree_front : FrontApart → (old new : Pages) (kept : ℕ → Type 0) (root : ℕ) (tree : Tree) → Keeps old new kept → FrontChanges old new
    → ((n : ℕ) → Among (below_top tree) n → kept n) → (root ≢ 1 → kept root) → IsWholeTree old root tree → IsWholeTree new root tree
tree_front apart old new kept root tree keeps front among top whole =
    let P : ℕ → Type 0 = λ r. (cells : PageCells) → HasCells old r cells → HasCells new r cells in
    let other : root ≢ 1 → P root = λ not_one cells has. cells_stay old new kept root cells keeps (top not_one) has in
    let stays : P root = elim (cases_order root 1) [
      | inl same ↦ subst P (sym same) (λ cells has. one_stays apart old new cells keeps.used front has)
      | inr (inl less) ↦ other (λ e. omega (arith, less, e))
      | inr (inr more) ↦ other (λ e. omega (arith, more, e))
    ] in
    record {
      rooted = whole.rooted;
      held = top_held old new kept [] tree whole.held (subst P (sym whole.rooted) stays) keeps among;
      ordered = whole.ordered;
      depth = whole.depth;
      level = whole.level;
      shallow = whole.shallow;
      filled = whole.filled;
    }

trees_front : FrontApart → (old new : Pages) (kept : ℕ → Type 0) (roots : List ℕ) (trees : List Tree) → Keeps old new kept → FrontChanges old new
    → ((n : ℕ) → Among (flat_map below_top trees) n → kept n) → ((n : ℕ) → Among roots n → n ≢ 1 → kept n)
    → AllZip (IsWholeTree old) roots trees → AllZip (IsWholeTree new) roots trees
trees_front apart old new kept [] [] keeps front among tops whole = tt
trees_front apart old new kept [] (tree ∷ trees) keeps front among tops whole = whole
trees_front apart old new kept (root ∷ roots) [] keeps front among tops whole = whole
trees_front apart old new kept (root ∷ roots) (tree ∷ trees) keeps front among tops whole = (
  tree_front apart old new kept root tree keeps front (λ n some. among n (among-front n (below_top tree) _ some)) (tops root (among-here root roots)) whole.0,
  trees_front apart old new kept roots trees keeps front (λ n some. among n (among-back n (below_top tree) _ some))
      (λ n some. tops n (among-back n (root ∷ []) roots some)) whole.1,
)

-- a tree names its top, and what is below
pub top_count : (n : ℕ) (tree : Tree) → times n (pages_of tree) ≡ times n (root_of tree ∷ []) + times n (below_top tree)
top_count n (Leaf page rows) = omega arith
top_count n (Child child key more) = omega (arith, top_count n more, times-append n (pages_of child) (pages_of more), times-append n (pages_of child) (below_top more))
top_count n (Right page child) = omega arith

tops_count : (n : ℕ) (pages : Pages) (roots : List ℕ) (trees : List Tree) → AllZip (IsWholeTree pages) roots trees
    → times n (flat_map pages_of trees) ≡ times n roots + times n (flat_map below_top trees)
tops_count n pages [] [] whole = omega arith
tops_count n pages [] (tree ∷ trees) whole = absurd whole
tops_count n pages (root ∷ roots) [] whole = absurd whole
tops_count n pages (root ∷ roots) (tree ∷ trees) whole =
    omega (
      arith,
      top_count n tree,
      ap (λ r. times n (r ∷ [])) whole.0.rooted,
      tops_count n pages roots trees whole.1,
      times-append n (pages_of tree) (flat_map pages_of trees),
      times-append n (below_top tree) (flat_map below_top trees),
    )

-- page 1 is named by the header or as a root, so it stands in no tree below its top
pub none_below : (pages : Pages) (roots : List ℕ) (trees : List Tree) (trunks : List Trunk) → IsWholeFor pages roots trees trunks → times 1 (flat_map below_top trees) ≡ 0
none_below pages roots trees trunks whole =
    let a = tops_count 1 pages roots trees whole.each_tree in
    let b = times-append 1 (used_pages roots trees) (free_pages trunks) in
    let c = times-append 1 (first_page roots) (flat_map pages_of trees) in
    let d = whole.different.once 1 in
    elim (cases_lt 0 (times 1 roots)) [
      | inl some ↦ omega (arith, a, b, c, d, some)
      | inr none ↦ omega (arith, a, b, c, d, first_here roots (omega (arith, none)))
    ]

both_once : (used free : ℕ) → used ≤ 1 → free ≤ 1 → (1 ≤ free → ¬ (1 ≤ used)) → used + free ≤ 1
both_once used free a b apart = elim (cases_lt 0 free) [
  | inl some ↦ elim (cases_lt 0 used) [
    | inl more ↦ absurd (apart (omega (arith, some)) (omega (arith, more)))
    | inr none ↦ omega (arith, b, none)
  ]
  | inr none ↦ omega (arith, a, none)
]

pub whole_front : FrontApart → WholeFront
whole_front apart old new roots trees trunks trunks' whole keeps front admits freelist free counted =
    let kept : ℕ → Type 0 = λ n. Among (used_pages roots trees) n × (n ≢ 1) in
    let none = none_below old roots trees trunks whole in
    let used : (n : ℕ) → 1 ≤ times n roots + times n (flat_map below_top trees) → Among (used_pages roots trees) n = λ n some.
    among-back n (first_page roots) (flat_map pages_of trees) (omega (arith, some, tops_count n old roots trees whole.each_tree)) in
    let P : ℕ → Type 0 = λ m. Among (flat_map below_top trees) m in
    record {
      header = header_stays old new whole.header keeps.used front admits;
      each_tree = trees_front apart old new kept roots trees keeps front
          (λ n some. (used n (omega (arith, some)), λ e. omega (arith, subst P e some, none)))
          (λ n some other. (used n (omega (arith, some)), other)) whole.each_tree;
      freelist = freelist;
      good_free = λ n some. (free n some).0;
      counted = counted;
      different = record {
        once = λ n.
            let a = times-append n (used_pages roots trees) (free_pages trunks) in
            let b = times-append n (used_pages roots trees) (free_pages trunks') in
            let c = both_once (times n (used_pages roots trees)) (times n (free_pages trunks'))
            (omega (arith, a, whole.different.once n)) (freelist.different.once n) (λ some. (free n some).1) in
            omega (arith, b, c);
      };
    }
