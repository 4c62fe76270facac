-- A tree that pages hold can be gone over, and its pages are good.
use Rattle.std.proofs.Common.{◌≡◌, ◌≢◌, inl, inr, ℕ, zero, suc, ◌≤◌, List, [], ◌∷◌, ◌++◌, length, map, sym, ap, subst, ◌∙◌, arith, append_assoc, append-nil, length-append}
use Rattle.std.specs.List.{AllByRecursion, AllZip}
use Rattle.page_list.specs.Pages.{Pages, HasPage, IsGood, times, Among}
use Rattle.page_list.specs.Freelist.{Trunk}
use Rattle.page_list.specs.Chain.{IsChain, OneChain, BreaksAt, FailsAt}
use Rattle.page_list.proofs.TimesLemmas.{same_or_other, among-first}
use Rattle.tree_page.specs.Page.{OnePage}
use Rattle.tree_page.specs.declared.cell.LeafCell.{LeafCell}
use Rattle.tree_page.specs.declared.cell.InnerCell.{InnerCell}
use Rattle.tree_page.specs.declared.cell.PageCells.{PageCells}
use Rattle.tree_page.specs.declared.cell.PageCells.TheVariants.{Interior as InteriorPage}
use Rattle.tree_model.specs.Tree.{Row, Tree, Leaf, Child, Right, root_of, pages_of, HasDepth}
use Rattle.tree_model.specs.Held.{HasCells, HasRow, HoldsBehind, Holds}
use Rattle.tree_model.specs.Whole.{most_depth, IsWholeTree, IsWholeFor, named_pages}
use Rattle.tree_model.specs.Laws.{chains_of}
use Rattle.tree_model.specs.Walk.{IsFault, all_children, rest_of}
use Rattle.tree_model.specs.declared.ends.Fault.{Fault}
use Rattle.tree_model.proofs.OneTreeLemmas.{cells_at, top_cells}
use Rattle.tree_model.proofs.WholeLemmas.{one_named}
use Rattle.tree_laws.proofs.RangeLemmas.{in_both}
use Rattle.tree_laws.proofs.RootLemmas.{removed_count, root_removed}
use Rattle.tree_free.specs.Free.{IsShallow, HoldsFrom, ChainMeets, TreeMeets, FreeMeets}
use Rattle.tree_free.proofs.TopLemmas.{leaf_tree, next_of, last_of}

-- ---- its pages are good

in_one : (P : ℕ → Type 0) (page : ℕ) → P page → (n : ℕ) → Among (page ∷ []) n → P n
in_one P page holds n some = elim (same_or_other n page) [
  | inl same ↦ subst P same.0 holds
  | inr other ↦ absurd (omega (arith, other.1, some))
]

chains_good : (pages : Pages) (rows : List Row) → AllByRecursion (HasRow pages) rows → (n : ℕ) → Among (chains_of rows) n → HasPage pages n × IsGood pages n
chains_good pages [] has n some = absurd (omega (arith, some))
chains_good pages (row ∷ more) has n some =
    in_both (λ m. HasPage pages m × IsGood pages m) row.chain (chains_of more) has.0.chained.walked.each (chains_good pages more has.1) n some

tree_good : (pages : Pages) (front : List InnerCell) (tree : Tree) → HoldsBehind pages front tree → (n : ℕ) → Among (pages_of tree) n → HasPage pages n × IsGood pages n
tree_good pages front (Leaf page rows) holds =
    in_both (λ n. HasPage pages n × IsGood pages n) (page ∷ []) (chains_of rows) (in_one (λ n. HasPage pages n × IsGood pages n) page (holds.1.there, holds.1.good))
    (chains_good pages rows holds.2)
tree_good pages front (Child child key more) holds =
    in_both (λ n. HasPage pages n × IsGood pages n) (pages_of child) (pages_of more) (tree_good pages [] child holds.0) (tree_good pages _ more holds.1)
tree_good pages front (Right page child) holds =
    in_both (λ n. HasPage pages n × IsGood pages n) (page ∷ []) (pages_of child) (in_one (λ n. HasPage pages n × IsGood pages n) page (holds.0.there, holds.0.good))
    (tree_good pages [] child holds.1)

pub held_good : (pages : Pages) (tree : Tree) → Holds pages tree → (n : ℕ) → Among (pages_of tree) n → HasPage pages n × IsGood pages n
held_good pages tree holds = tree_good pages [] tree holds

-- ---- it can be gone over

no_bad_top : (pages : Pages) (left above page : ℕ) (cells : PageCells) (fault : Fault) → HasCells pages page cells → 1 ≤ left → ¬ (IsFault pages left above page fault)
no_bad_top pages left above page cells fault has some (inl none) = none.0 has.there
no_bad_top pages left above page cells fault has some (inr (inl deep)) = omega (arith, some, deep.1)
no_bad_top pages left above page cells fault has some (inr (inr (inl bad))) = bad.2 has.good
no_bad_top pages left above page cells fault has some (inr (inr (inr broken))) = broken.3 cells has.reads

row_at : (pages : Pages) (before : List LeafCell) (cell : LeafCell) (back : List LeafCell) (rows : List Row) → map (λ row. row.cell) rows ≡ before ++ cell ∷ back
    → AllByRecursion (HasRow pages) rows → (row : Row) × (row.cell ≡ cell) × HasRow pages row
row_at pages [] cell back [] are all = absurd (omega (arith, ap (λ (l : List LeafCell). length l) are))
row_at pages [] cell back (row ∷ rows) are all = let head : row.cell ≡ cell = cc in (row, head, all.0)
row_at pages (x ∷ before) cell back [] are all = absurd (omega (arith, ap (λ (l : List LeafCell). length l) are))
row_at pages (x ∷ before) cell back (row ∷ rows) are all = let tail : map (λ r. r.cell) rows ≡ before ++ cell ∷ back = cc in row_at pages before cell back rows tail all.1

chain_of_row : (pages : Pages) (cell : LeafCell) (row : Row) → row.cell ≡ cell → HasRow pages row → (rest : List ℕ) × IsChain pages cell.overflow row.chain rest × (length rest ≡ rest_of cell)
chain_of_row pages cell row of_cell has =
    let P : ℕ → Type 0 = λ first. IsChain pages first row.chain has.rest in (
      has.rest,
      subst P (ap (λ (c : LeafCell). c.overflow) of_cell) has.chained,
      omega (
        arith,
        has.whole,
        ap (λ (l : List ℕ). length l) has.joined,
        length-append row.cell.local has.rest,
        ap (λ (c : LeafCell). length c.local) of_cell,
        ap (λ (c : LeafCell). c.payload_len) of_cell,
      ),
    )

no_bad_chain : OneChain → (pages : Pages) (page : ℕ) (cell : LeafCell) (fault : Fault) (row : Row) → row.cell ≡ cell → HasRow pages row → ¬ (ChainMeets pages page cell fault)
no_bad_chain one pages page cell fault row of_cell has (inl breaks) =
    let c = chain_of_row pages cell row of_cell has in
    let P : ℕ → Type 0 = λ len. BreaksAt pages cell.overflow len breaks.page in
    one.whole pages cell.overflow breaks.page row.chain c.0 c.1 (subst P (sym c.2) breaks.breaks)
no_bad_chain one pages page cell fault row of_cell has (inr fails) =
    let c = chain_of_row pages cell row of_cell has in
    let P : ℕ → Type 0 = λ len. FailsAt pages cell.overflow len fails.page fails.sums in
    one.good pages cell.overflow fails.page fails.sums row.chain c.0 c.1 (subst P (sym c.2) fails.fails)

-- the tree below a child
record Below (left : ℕ) (pages : Pages) (child : ℕ) : Type 0 where
  pub tree : Tree
  pub held : Holds pages tree
  pub rooted : root_of tree ≡ child
  pub shallow : IsShallow left tree

below : OnePage → (left : ℕ) (pages : Pages) (page : ℕ) (front back : List InnerCell) (right child : ℕ) (tree : Tree) → HasCells pages page (InteriorPage (front ++ back) right)
    → HoldsBehind pages front tree → root_of tree ≡ page → IsShallow (suc left) tree → Among (all_children back right) child → Below left pages child
below one left pages page front [] right child tree has held rooted shallow some =
    let H : List InnerCell → Type 0 = λ l. HasCells pages page (InteriorPage l right) in
    let l = last_of one pages page front right tree (subst H (append-nil front) has) held rooted in
    let S : Tree → Type 0 = λ t. IsShallow (suc left) t in
    record { tree = l.child; held = l.held; rooted = l.rooted ∙ is_number child right some; shallow = subst S l.is shallow }
  where
    is_number : (n k : ℕ) → Among (k ∷ []) n → k ≡ n
    is_number n k some = elim (same_or_other n k) as (λ _. k ≡ n) [
      | inl same ↦ same.0
      | inr other ↦ absurd (omega (arith, some, other.1))
    ]
below one left pages page front (cell ∷ back) right child tree has held rooted shallow some =
    let n = next_of one pages page front cell back right tree has held rooted in
    let S : Tree → Type 0 = λ t. IsShallow (suc left) t in
    let both = subst S n.is shallow in
    let H : List InnerCell → Type 0 = λ l. HasCells pages page (InteriorPage l right) in
    elim (among-first child cell.child (all_children back right) some) as (λ _. Below left pages child) [
      | inl same ↦ record { tree = n.child; held = n.child_held; rooted = n.child_rooted ∙ same; shallow = both.0 }
      | inr later ↦
          below one left pages page (front ++ cell ∷ []) back right child n.more (subst H (sym (append_assoc front (cell ∷ []) back)) has) n.more_held n.more_rooted both.1 later
    ]

not_met : OnePage → OneChain → (left : ℕ) (pages : Pages) (above page : ℕ) (fault : Fault) (tree : Tree) → Holds pages tree → root_of tree ≡ page → IsShallow left tree
    → ¬ (TreeMeets left pages above page fault)
not_met one_page one_chain zero pages above page fault tree held rooted shallow meets = shallow
not_met one_page one_chain (suc left) pages above page fault tree held rooted shallow (inl bad) =
    let H : ℕ → Type 0 = λ n. HasCells pages n (cells_at [] tree) in
    no_bad_top pages (suc left) above page (cells_at [] tree) fault (subst H rooted (top_cells pages [] tree held)) (omega arith) bad
not_met one_page one_chain (suc left) pages above page fault tree held rooted shallow (inr (inl m)) =
    let l = leaf_tree one_page pages page m.0 tree m.4 held rooted in
    let r = row_at pages m.2 m.1 m.3 l.rows (l.cells_are ∙ m.5) l.held in
    no_bad_chain one_chain pages page m.1 fault r.0 r.1 r.2 m.6
not_met one_page one_chain (suc left) pages above page fault tree held rooted shallow (inr (inr m)) =
    let b = below one_page left pages page [] m.0 m.1 m.2 tree m.3 held rooted shallow m.4 in
    not_met one_page one_chain left pages page m.2 fault b.tree b.held b.rooted b.shallow m.5

pub no_meet : OnePage → OneChain → (pages : Pages) (root : ℕ) (fault : Fault) (tree : Tree) → HoldsFrom pages root tree → ¬ (FreeMeets pages root fault)
no_meet one_page one_chain pages root fault tree holds (inl meets) =
    not_met one_page one_chain most_depth pages root root fault tree holds.held holds.rooted holds.shallow meets
no_meet one_page one_chain pages root fault tree holds (inr shared) = shared.2.none tree holds

-- ---- a tree of whole pages

deep_shallow : (depth left : ℕ) (tree : Tree) → HasDepth depth tree → depth ≤ left → IsShallow left tree
deep_shallow depth zero (Leaf page rows) deep most = omega (arith, deep, most)
deep_shallow depth (suc left) (Leaf page rows) deep most = tt
deep_shallow zero left (Child child key more) deep most = absurd deep
deep_shallow (suc depth) zero (Child child key more) deep most = absurd (omega (arith, most))
deep_shallow (suc depth) (suc left) (Child child key more) deep most =
    (deep_shallow depth left child deep.0 (omega (arith, most)), deep_shallow (suc depth) (suc left) more deep.1 most)
deep_shallow zero left (Right page child) deep most = absurd deep
deep_shallow (suc depth) zero (Right page child) deep most = absurd (omega (arith, most))
deep_shallow (suc depth) (suc left) (Right page child) deep most = deep_shallow depth left child deep (omega (arith, most))

pub tree_at : (pages : Pages) (front back : List ℕ) (root : ℕ) (before others : List Tree) (tree : Tree) → length front ≡ length before
    → AllZip (IsWholeTree pages) (front ++ root ∷ back) (before ++ tree ∷ others) → IsWholeTree pages root tree
tree_at pages [] back root [] others tree long all = all.0
tree_at pages [] back root (t ∷ before) others tree long all = absurd (omega (arith, long))
tree_at pages (r ∷ front) back root [] others tree long all = absurd (omega (arith, long))
tree_at pages (r ∷ front) back root (t ∷ before) others tree long all = tree_at pages front back root before others tree (omega (arith, long)) all.1

pub whole_holds : (pages : Pages) (front back : List ℕ) (root : ℕ) (before others : List Tree) (tree : Tree) (trunks : List Trunk) → length front ≡ length before → root ≢ 1
    → IsWholeFor pages (front ++ root ∷ back) (before ++ tree ∷ others) trunks → HoldsFrom pages root tree
whole_holds pages front back root before others tree trunks long other whole =
    let w = tree_at pages front back root before others tree long whole.each_tree in
    let left = root_removed pages front back root before others tree trunks long other whole in
    let first = one_named pages (front ++ back) (before ++ others) trunks left.0.each_tree in
    record {
      rooted = w.rooted;
      held = w.held;
      shallow = deep_shallow w.depth most_depth tree w.level w.shallow;
      different = record {
        once = λ n. elim (same_or_other n 1) as (λ _. times n (1 ∷ pages_of tree) ≤ 1) [
          | inl same ↦
              let P : ℕ → Type 0 = λ m. Among (named_pages (front ++ back) (before ++ others) trunks) m in
              let named = subst P same.0 first in
              omega (arith, same.1, named, whole.different.once n, removed_count front back root before others tree trunks n other)
          | inr apart ↦ omega (arith, apart.1, whole.different.once n, removed_count front back root before others tree trunks n other)
        ];
      };
    }
