-- A path ends in one way, whatever the pages hold.
use Rattle.std.proofs.Common.{◌≡◌, ◌⊎◌, inl, inr, ℕ, zero, suc, ℤ, List, length, Option, Some, None, refl, sym, ap, ap₂, subst, ◌∙◌, arith, length-append}
use Rattle.page_list.specs.Pages.{Pages, HasPage}
use Rattle.page_list.specs.Chain.{BreaksAt, FailsAt, OneChain, OneEnd}
use Rattle.tree_page.specs.Page.{OnePage}
use Rattle.tree_page.specs.declared.cell.LeafCell.{LeafCell}
use Rattle.tree_page.specs.declared.cell.InnerCell.{InnerCell}
use Rattle.tree_page.specs.declared.cell.PageCells.{PageCells}
use Rattle.tree_page.specs.declared.cell.PageCells.TheVariants.{Leaf as LeafPage, Interior as InteriorPage}
use Rattle.tree_model.specs.Tree.{Row}
use Rattle.tree_model.specs.Held.{HasCells, HasRow}
use Rattle.tree_model.specs.Whole.{most_depth}
use Rattle.tree_model.specs.Walk.{Accepts, Fault, BadPage, Broken, IsFault, rest_of, BreaksChain, FailsChain, IsRefused, IsUnreadable, IsReadable, PathEnd, HasPayload, Ends, AtKey, LeadsTo, first_from, child_for}
use Rattle.tree_model.specs.Laws.{OnePath}
use Rattle.tree_model.proofs.OneTreeLemmas.{same_row, leaf_cells, inner_cells, right_most, is_interior}

-- what the proofs of this file take for granted of pages and chains
pub record Known : Type 0 where
  pub page : OnePage
  pub chain : OneChain
  pub end : OneEnd

-- a page has one fault at most, and none where it has cells
pub fault_once : (pages : Pages) (left above page : ℕ) (f g : Fault) → IsFault pages left above page f → IsFault pages left above page g → f ≡ g
fault_once pages left above page f g (inl a) (inl b) = a.1 ∙ sym b.1
fault_once pages left above page f g (inl a) (inr (inl b)) = absurd (a.0 b.0)
fault_once pages left above page f g (inl a) (inr (inr (inl b))) = absurd (a.0 b.0)
fault_once pages left above page f g (inl a) (inr (inr (inr b))) = absurd (a.0 b.0)
fault_once pages left above page f g (inr (inl a)) (inl b) = absurd (b.0 a.0)
fault_once pages left above page f g (inr (inl a)) (inr (inl b)) = a.2 ∙ sym b.2
fault_once pages left above page f g (inr (inl a)) (inr (inr (inl b))) = absurd (omega (arith, a.1, b.1))
fault_once pages left above page f g (inr (inl a)) (inr (inr (inr b))) = absurd (omega (arith, a.1, b.1))
fault_once pages left above page f g (inr (inr (inl a))) (inl b) = absurd (b.0 a.0)
fault_once pages left above page f g (inr (inr (inl a))) (inr (inl b)) = absurd (omega (arith, a.1, b.1))
fault_once pages left above page f g (inr (inr (inl a))) (inr (inr (inl b))) = a.3 ∙ sym b.3
fault_once pages left above page f g (inr (inr (inl a))) (inr (inr (inr b))) = absurd (a.2 b.2)
fault_once pages left above page f g (inr (inr (inr a))) (inl b) = absurd (b.0 a.0)
fault_once pages left above page f g (inr (inr (inr a))) (inr (inl b)) = absurd (omega (arith, a.1, b.1))
fault_once pages left above page f g (inr (inr (inr a))) (inr (inr (inl b))) = absurd (b.2 a.2)
fault_once pages left above page f g (inr (inr (inr a))) (inr (inr (inr b))) = a.4 ∙ sym b.4

pub no_fault : (pages : Pages) (left above page : ℕ) (cells : PageCells) (f : Fault) → HasCells pages page cells → ¬ (IsFault pages (suc left) above page f)
no_fault pages left above page cells f has (inl a) = a.0 has.there
no_fault pages left above page cells f has (inr (inl a)) = omega (arith, a.1)
no_fault pages left above page cells f has (inr (inr (inl a))) = a.2 has.good
no_fault pages left above page cells f has (inr (inr (inr a))) = a.3 cells has.reads

pub same_cells : OnePage → (pages : Pages) (page : ℕ) (a b : PageCells) → HasCells pages page a → HasCells pages page b → a ≡ b
same_cells one pages page a b ha hb = one (pages.bytes page) page pages.usable a b ha.reads hb.reads

-- the part of a payload that its chain holds
pub rest_length : (pages : Pages) (row : Row) (has : HasRow pages row) → length has.rest ≡ rest_of row.cell
rest_length pages row has = omega (arith, has.whole, ap (λ (l : List ℕ). length l) has.joined, length-append row.cell.local has.rest)

not_broken : OneChain → (pages : Pages) (row : Row) (page : ℕ) → HasRow pages row → ¬ (BreaksAt pages row.cell.overflow (rest_of row.cell) page)
not_broken one pages row page has breaks =
    let P : ℕ → Type 0 = λ len. BreaksAt pages row.cell.overflow len page in
    one.whole pages row.cell.overflow page row.chain has.rest has.chained (subst P (sym (rest_length pages row has)) breaks)

not_failing : OneChain → (pages : Pages) (row : Row) (page : ℕ) (sums : ℕ × ℕ) → HasRow pages row → ¬ (FailsAt pages row.cell.overflow (rest_of row.cell) page sums)
not_failing one pages row page sums has fails =
    let P : ℕ → Type 0 = λ len. FailsAt pages row.cell.overflow len page sums in
    one.good pages row.cell.overflow page sums row.chain has.rest has.chained (subst P (sym (rest_length pages row has)) fails)

-- a payload is one, and where there is one it can be read
pub readable_once : Known → (columns : Option ℕ) (pages : Pages) (cell : LeafCell) (p q : List ℕ) → IsReadable columns pages cell p → IsReadable columns pages cell q → p ≡ q
readable_once known columns pages cell p q a b = ap (λ (r : Row). r.payload) (same_row known.chain pages _ _ refl a.has_row b.has_row)

refused_is : Known → (columns : Option ℕ) (pages : Pages) (leaf : ℕ) (cell : LeafCell) (f : Fault) → (r : IsRefused columns pages leaf cell f) → (row : Row) → row.cell ≡ cell → HasRow pages row → ¬ (Accepts columns row.payload)
refused_is known columns pages leaf cell f r row is has accepted =
    let P : Row → Type 0 = λ x. Accepts columns x.payload in
    r.refused (subst P (same_row known.chain pages row r.row (is ∙ sym r.of_cell) has r.has_row) accepted)

breaks_row : Known → (pages : Pages) (leaf : ℕ) (cell : LeafCell) (f : Fault) → BreaksChain pages leaf cell f → (row : Row) → row.cell ≡ cell → HasRow pages row → ⊥
breaks_row known pages leaf cell f b row is has =
    let P : LeafCell → Type 0 = λ c. BreaksAt pages c.overflow (rest_of c) b.page in
    not_broken known.chain pages row b.page has (subst P (sym is) b.breaks)

fails_row : Known → (pages : Pages) (cell : LeafCell) (f : Fault) → FailsChain pages cell f → (row : Row) → row.cell ≡ cell → HasRow pages row → ⊥
fails_row known pages cell f b row is has =
    let P : LeafCell → Type 0 = λ c. FailsAt pages c.overflow (rest_of c) b.page b.sums in
    not_failing known.chain pages row b.page b.sums has (subst P (sym is) b.fails)

pub not_both : Known → (columns : Option ℕ) (pages : Pages) (leaf : ℕ) (cell : LeafCell) (p : List ℕ) (f : Fault) → IsReadable columns pages cell p → ¬ (IsUnreadable columns pages leaf cell f)
not_both known columns pages leaf cell p f a (inl b) = breaks_row known pages leaf cell f b _ refl a.has_row
not_both known columns pages leaf cell p f a (inr (inl b)) = fails_row known pages cell f b _ refl a.has_row
not_both known columns pages leaf cell p f a (inr (inr r)) = refused_is known columns pages leaf cell f r _ refl a.has_row a.accepted

named_once : (pages : Pages) (leaf page page' : ℕ) (f g : Fault) → page ≡ page' → ((HasPage pages page × (f ≡ Broken page)) ⊎ (¬ (HasPage pages page) × (f ≡ Broken leaf)))
    → ((HasPage pages page' × (g ≡ Broken page')) ⊎ (¬ (HasPage pages page') × (g ≡ Broken leaf))) → f ≡ g
named_once pages leaf page page' f g same (inl a) (inl b) = a.1 ∙ ap (λ (n : ℕ). Broken n) same ∙ sym b.1
named_once pages leaf page page' f g same (inl a) (inr b) = let P : ℕ → Type 0 = λ n. HasPage pages n in absurd (b.0 (subst P same a.0))
named_once pages leaf page page' f g same (inr a) (inl b) = let P : ℕ → Type 0 = λ n. HasPage pages n in absurd (a.0 (subst P (sym same) b.0))
named_once pages leaf page page' f g same (inr a) (inr b) = a.1 ∙ sym b.1

pub unreadable_once : Known → (columns : Option ℕ) (pages : Pages) (leaf : ℕ) (cell : LeafCell) (f g : Fault) → IsUnreadable columns pages leaf cell f → IsUnreadable columns pages leaf cell g → f ≡ g
unreadable_once known columns pages leaf cell f g (inl a) (inl b) = named_once pages leaf a.page b.page f g (known.end.breaks_once pages cell.overflow (rest_of cell) a.page b.page a.breaks b.breaks) a.named b.named
unreadable_once known columns pages leaf cell f g (inl a) (inr (inl b)) = absurd (known.end.not_both pages cell.overflow (rest_of cell) a.page b.page b.sums a.breaks b.fails)
unreadable_once known columns pages leaf cell f g (inl a) (inr (inr b)) = absurd (breaks_row known pages leaf cell f a b.row b.of_cell b.has_row)
unreadable_once known columns pages leaf cell f g (inr (inl a)) (inl b) = absurd (known.end.not_both pages cell.overflow (rest_of cell) b.page a.page a.sums b.breaks a.fails)
unreadable_once known columns pages leaf cell f g (inr (inl a)) (inr (inl b)) =
    a.named ∙ ap (λ (n : ℕ). BadPage n) (known.end.fails_once pages cell.overflow (rest_of cell) a.page b.page a.sums b.sums a.fails b.fails) ∙ sym b.named
unreadable_once known columns pages leaf cell f g (inr (inl a)) (inr (inr b)) = absurd (fails_row known pages cell f a b.row b.of_cell b.has_row)
unreadable_once known columns pages leaf cell f g (inr (inr a)) (inl b) = absurd (breaks_row known pages leaf cell g b a.row a.of_cell a.has_row)
unreadable_once known columns pages leaf cell f g (inr (inr a)) (inr (inl b)) = absurd (fails_row known pages cell g b a.row a.of_cell a.has_row)
unreadable_once known columns pages leaf cell f g (inr (inr a)) (inr (inr b)) = a.named ∙ sym b.named

at_key_once : Known → (columns : Option ℕ) (pages : Pages) (leaf : ℕ) (key : ℤ) (first : Option LeafCell) (a b : PathEnd) → AtKey columns pages leaf key first a → AtKey columns pages leaf key first b → a ≡ b
at_key_once known columns pages leaf key None a b p q = p ∙ sym q
at_key_once known columns pages leaf key (Some cell) a b (inl p) (inl q) = p.1 ∙ sym q.1
at_key_once known columns pages leaf key (Some cell) a b (inl p) (inr q) = absurd (p.0 q.0)
at_key_once known columns pages leaf key (Some cell) a b (inr p) (inl q) = absurd (q.0 p.0)
at_key_once known columns pages leaf key (Some cell) a b (inr (p, inl x)) (inr (q, inl y)) = x.2 ∙ ap (λ (l : List ℕ). HasPayload l) (readable_once known columns pages cell x.0 y.0 x.1 y.1) ∙ sym y.2
at_key_once known columns pages leaf key (Some cell) a b (inr (p, inl x)) (inr (q, inr y)) = absurd (not_both known columns pages leaf cell x.0 y.0 x.1 y.1)
at_key_once known columns pages leaf key (Some cell) a b (inr (p, inr x)) (inr (q, inl y)) = absurd (not_both known columns pages leaf cell y.0 x.0 y.1 x.1)
at_key_once known columns pages leaf key (Some cell) a b (inr (p, inr x)) (inr (q, inr y)) = x.2 ∙ ap (λ (f : Fault). Ends f) (unreadable_once known columns pages leaf cell x.0 y.0 x.1 y.1) ∙ sym y.2

pub leaf_not_inner : OnePage → (pages : Pages) (page : ℕ) (cells : List LeafCell) (inner : List InnerCell) (right : ℕ) → HasCells pages page (LeafPage cells) → ¬ (HasCells pages page (InteriorPage inner right))
leaf_not_inner one pages page cells inner right a b = omega (arith, ap is_interior (same_cells one pages page _ _ a b))

pub leads_once : Known → (columns : Option ℕ) (pages : Pages) (left above page : ℕ) (key : ℤ) (a b : PathEnd) → LeadsTo left columns pages above page key a → LeadsTo left columns pages above page key b → a ≡ b
leads_once known columns pages zero above page key a b p q = p.2 ∙ ap (λ (f : Fault). Ends f) (fault_once pages 0 above page p.0 q.0 p.1 q.1) ∙ sym q.2
leads_once known columns pages (suc left) above page key a b (inl p) (inl q) = p.2 ∙ ap (λ (f : Fault). Ends f) (fault_once pages (suc left) above page p.0 q.0 p.1 q.1) ∙ sym q.2
leads_once known columns pages (suc left) above page key a b (inl p) (inr (inl q)) = absurd (no_fault pages left above page _ p.0 q.1 p.1)
leads_once known columns pages (suc left) above page key a b (inl p) (inr (inr q)) = absurd (no_fault pages left above page _ p.0 q.2 p.1)
leads_once known columns pages (suc left) above page key a b (inr (inl p)) (inl q) = absurd (no_fault pages left above page _ q.0 p.1 q.1)
leads_once known columns pages (suc left) above page key a b (inr (inr p)) (inl q) = absurd (no_fault pages left above page _ q.0 p.2 q.1)
leads_once known columns pages (suc left) above page key a b (inr (inl p)) (inr (inl q)) =
    let same = ap leaf_cells (same_cells known.page pages page _ _ p.1 q.1) in
    let P : List LeafCell → Type 0 = λ cells. AtKey columns pages page key (first_from key cells) b in
    at_key_once known columns pages page key (first_from key p.0) a b p.2 (subst P (sym same) q.2)
leads_once known columns pages (suc left) above page key a b (inr (inl p)) (inr (inr q)) = absurd (leaf_not_inner known.page pages page _ _ _ p.1 q.2)
leads_once known columns pages (suc left) above page key a b (inr (inr p)) (inr (inl q)) = absurd (leaf_not_inner known.page pages page _ _ _ q.1 p.2)
leads_once known columns pages (suc left) above page key a b (inr (inr p)) (inr (inr q)) =
    let cells = ap inner_cells (same_cells known.page pages page _ _ p.2 q.2) in
    let rights = ap right_most (same_cells known.page pages page _ _ p.2 q.2) in
    let P : ℕ → Type 0 = λ child. LeadsTo left columns pages page child key b in
    leads_once known columns pages left page (child_for key p.0 p.1) key a b p.3 (subst P (sym (ap₂ (λ (c : List InnerCell) (r : ℕ). child_for key c r) cells rights)) q.3)

pub one_path : Known → OnePath
one_path known columns pages root key a b p q = leads_once known columns pages most_depth root root key a b p q
