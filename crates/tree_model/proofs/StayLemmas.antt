-- A tree depends on no page that it does not name.
use Rattle.std.proofs.Common.{◌≡◌, ℕ, ◌-◌, List, [], ◌∷◌, ◌++◌, length, take, drop, refl, sym, ap, subst, ◌∙◌}
use Rattle.std.specs.List.{flat_map, AllByRecursion}
use Rattle.page_list.specs.Pages.{Pages, SamePage, Among}
use Rattle.byte_base.specs.Numbers.{number_at}
use Rattle.page_list.specs.Chain.{IsChain, AreLinked, piece, pages_needed, next_page}
use Rattle.tree_page.specs.Page.{IsPage}
use Rattle.tree_page.specs.declared.cell.InnerCell.{InnerCell}
use Rattle.tree_page.specs.declared.cell.PageCells.{PageCells}
use Rattle.tree_model.specs.Tree.{Row, Tree, Leaf, Child, Right, pages_of}
use Rattle.tree_model.specs.Held.{HasCells, HasRow, HoldsBehind}
use Rattle.tree_model.specs.Laws.{Keeps, TreeStays}
use Rattle.page_list.proofs.ChainLemmas.{among-front, among-back, among-here, among-cons}

pub cells_stay : (old new : Pages) (kept : ℕ → Type 0) (page : ℕ) (cells : PageCells) → Keeps old new kept → kept page → HasCells old page cells → HasCells new page cells
cells_stay old new kept page cells keeps is_kept has =
    let same = keeps.same page is_kept in
    let P : List ℕ → Type 0 = λ bytes. IsPage bytes page new.usable cells in
    let Q : ℕ → Type 0 = λ used. IsPage (old.bytes page) page used cells in
    record {
      there = keeps.there page is_kept has.there;
      good = same.mark_stays ∙ has.good;
      reads = subst P (sym same.bytes_stay) (subst Q (sym keeps.used) has.reads);
    }

next_stays : (old new : Pages) (page : ℕ) → SamePage old new page → next_page new page ≡ next_page old page
next_stays old new page same = ap (λ (bytes : List ℕ). number_at 4 bytes 0) same.bytes_stay

linked_stays : (old new : Pages) (kept : ℕ → Type 0) → Keeps old new kept → (first : ℕ) (numbers : List ℕ) (next : ℕ)
    → ((n : ℕ) → Among numbers n → kept n) → AreLinked old first numbers next → AreLinked new first numbers next
linked_stays old new kept keeps first [] next among linked = linked
linked_stays old new kept keeps first (n ∷ more) next among linked =
    let P : ℕ → Type 0 = λ then. AreLinked new then more next in
    (linked.0, subst P (sym (next_stays old new n (keeps.same n (among n (among-here n more))))) (linked_stays old new kept keeps (next_page old n) more next (λ m some. among m (among-cons m n more some)) linked.1))

piece_stays : (old new : Pages) (kept : ℕ → Type 0) (page : ℕ) → Keeps old new kept → kept page → piece new page ≡ piece old page
piece_stays old new kept page keeps is_kept =
    ap (λ used. take (used - 4) (drop 4 (new.bytes page))) keeps.used ∙ ap (λ (bytes : List ℕ). take (old.usable - 4) (drop 4 bytes)) (keeps.same page is_kept).bytes_stay

pieces_stay : (old new : Pages) (kept : ℕ → Type 0) → Keeps old new kept → (numbers : List ℕ) → ((n : ℕ) → Among numbers n → kept n)
    → flat_map (piece new) numbers ≡ flat_map (piece old) numbers
pieces_stay old new kept keeps [] among = refl
pieces_stay old new kept keeps (n ∷ more) among =
    ap (λ (bytes : List ℕ). bytes ++ flat_map (piece new) more) (piece_stays old new kept n keeps (among n (among-here n more)))
    ∙ ap (λ (bytes : List ℕ). piece old n ++ bytes) (pieces_stay old new kept keeps more (λ m some. among m (among-cons m n more some)))

pub chain_stays : (old new : Pages) (kept : ℕ → Type 0) (first : ℕ) (numbers payload : List ℕ) → Keeps old new kept → ((n : ℕ) → Among numbers n → kept n)
    → IsChain old first numbers payload → IsChain new first numbers payload
chain_stays old new kept first numbers payload keeps among chain = record {
  walked = record {
    linked = linked_stays old new kept keeps first numbers 0 among chain.walked.linked;
    each = λ n some. (keeps.there n (among n some) (chain.walked.each n some).0, (keeps.same n (among n some)).mark_stays ∙ (chain.walked.each n some).1);
    different = chain.walked.different;
  };
  enough = chain.enough ∙ ap (λ used. pages_needed used (length payload)) (sym keeps.used);
  holds = chain.holds ∙ ap (λ (bytes : List ℕ). take (length payload) bytes) (sym (pieces_stay old new kept keeps numbers among));
}

pub row_stays : (old new : Pages) (kept : ℕ → Type 0) (row : Row) → Keeps old new kept → ((n : ℕ) → Among row.chain n → kept n) → HasRow old row → HasRow new row
row_stays old new kept row keeps among has = record {
  rest = has.rest;
  joined = has.joined;
  whole = has.whole;
  chained = chain_stays old new kept row.cell.overflow row.chain has.rest keeps among has.chained;
}

pub rows_stay : (old new : Pages) (kept : ℕ → Type 0) (rows : List Row) → Keeps old new kept → ((n : ℕ) → Among (flat_map (λ row. row.chain) rows) n → kept n)
    → AllByRecursion (HasRow old) rows → AllByRecursion (HasRow new) rows
rows_stay old new kept [] keeps among has = has
rows_stay old new kept (row ∷ more) keeps among has = (
  row_stays old new kept row keeps (λ n some. among n (among-front n row.chain _ some)) has.0,
  rows_stay old new kept more keeps (λ n some. among n (among-back n row.chain _ some)) has.1,
)

pub tree_behind_stays : (old new : Pages) (kept : ℕ → Type 0) (front : List InnerCell) (tree : Tree) → Keeps old new kept → ((n : ℕ) → Among (pages_of tree) n → kept n)
    → HoldsBehind old front tree → HoldsBehind new front tree
tree_behind_stays old new kept front (Leaf page rows) keeps among holds = (
  holds.0,
  cells_stay old new kept page _ keeps (among page (among-here page _)) holds.1,
  rows_stay old new kept rows keeps (λ n some. among n (among-cons n page _ some)) holds.2,
)
tree_behind_stays old new kept front (Child child key more) keeps among holds = (
  tree_behind_stays old new kept [] child keeps (λ n some. among n (among-front n (pages_of child) _ some)) holds.0,
  tree_behind_stays old new kept _ more keeps (λ n some. among n (among-back n (pages_of child) _ some)) holds.1,
)
tree_behind_stays old new kept front (Right page child) keeps among holds = (
  cells_stay old new kept page _ keeps (among page (among-here page _)) holds.0,
  tree_behind_stays old new kept [] child keeps (λ n some. among n (among-cons n page _ some)) holds.1,
)

pub tree_stays : TreeStays
tree_stays old new tree keeps holds = tree_behind_stays old new _ [] tree keeps (λ n some. some) holds
