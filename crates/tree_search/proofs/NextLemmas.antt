-- The search for the next row.
use Rattle.std.proofs.Common.{◌≡◌, ◌≢◌, ℕ, zero, suc, ◌+◌, ◌≤◌, ◌<◌, ℤ, List, [], ◌∷◌, length, drop, get_or, Option, None, Some, IsTrue, is_some, false, inl, inr, refl, sym, ap, subst, ◌∙◌, arith}
use Rattle.page_list.specs.Pages.{Pages}
use Rattle.page_pool.specs.Space.{SpaceState, Steady, Stays}
use Rattle.db_format.specs.declared.fault.SpaceFault.{SpaceFault}
use Rattle.tree_page.specs.declared.cell.LeafCell.{LeafCell}
use Rattle.tree_page.specs.declared.cell.InnerCell.{InnerCell}
use Rattle.tree_page.specs.declared.cell.PageCells.TheVariants.{Leaf as LeafPage, Interior as InteriorPage}
use Rattle.tree_model.specs.declared.ends.Fault.{Fault}
use Rattle.tree_model.specs.declared.ends.Next.{Next}
use Rattle.tree_model.specs.declared.ends.Next.TheVariants.{Found, Nothing, Meets}
use Rattle.tree_model.specs.Held.{HasCells}
use Rattle.tree_model.specs.Whole.{below_all}
use Rattle.tree_model.specs.Walk.{IsFault, Seeks, FirstOf, first_from, in_leaf, all_children, children_from}
use Rattle.tree_search.specs.declared.next.Place.{Place}
use Rattle.tree_search.specs.Search.{SearchRefused}
use Rattle.tree_search.specs.Steps.{HasSought, HasFirst}
use Rattle.tree_search.proofs.CellLemmas.{from_place}
use Rattle.tree_search.proofs.StateLemmas.{refused_on, refused_as}

-- ---- one page

pub sought_fault : (left : ℕ) (pages : Pages) (key : ℤ) (above : ℕ) (from : ℤ) (page : ℕ) (fault : Fault) → IsFault pages left above page fault
    → HasSought left pages key above from page (Meets fault)
sought_fault zero pages key above from page fault is = record { seeks = (fault, is, refl) }
sought_fault (suc left) pages key above from page fault is = record { seeks = inl (fault, is, refl) }

pub sought_leaf : (left : ℕ) (pages : Pages) (key : ℤ) (above : ℕ) (from : ℤ) (page : ℕ) (cells : List LeafCell) (next : Next) → 1 ≤ left
    → HasCells pages page (LeafPage cells) → next ≡ in_leaf page (first_from key cells) → HasSought left pages key above from page next
sought_leaf zero pages key above from page cells next some has is = absurd (omega arith)
sought_leaf (suc left) pages key above from page cells next some has is = record { seeks = inr (inl (cells, has, is)) }

pub sought_below : (left less : ℕ) (pages : Pages) (key : ℤ) (above : ℕ) (from : ℤ) (page : ℕ) (cells : List InnerCell) (right : ℕ) (next : Next) → left ≡ suc less
    → HasCells pages page (InteriorPage cells right) → HasFirst less pages key page from (children_from from cells right) next → HasSought left pages key above from page next
sought_below left less pages key above from page cells right next is has below =
    let P : ℕ → Type 0 = λ n. HasSought n pages key above from page next in
    subst P (sym is) (record { seeks = inr (inr (cells, right, has, below.first)) })

-- ---- the children of a page

-- what the first of the rest has is what the first of all has
pub record Passes (left : ℕ) (pages : Pages) (key : ℤ) (page : ℕ) (from : ℤ) (all : List ℕ) (start : ℤ) (rest : List ℕ) : Type 0 where
  pub on : (next : Next) → FirstOf (Seeks left pages key page) start rest next → FirstOf (Seeks left pages key page) from all next

-- the children of cells from a place on
pub next_child : (cells : List InnerCell) (i : ℕ) (cell : InnerCell) (right : ℕ) → i < length cells → cell ≡ get_or cells i cell
    → all_children (drop i cells) right ≡ cell.child ∷ all_children (drop (i + 1) cells) right
next_child cells i cell right within is = ap (λ (l : List InnerCell). all_children l right) (from_place cells i cell within is)

pub passes_on : (left : ℕ) (pages : Pages) (key : ℤ) (page : ℕ) (from : ℤ) (all : List ℕ) (start : ℤ) (rest more : List ℕ) (child : ℕ)
    → Passes left pages key page from all start rest → rest ≡ child ∷ more → HasSought left pages key page start child Nothing → Passes left pages key page from all below_all more
passes_on left pages key page from all start rest more child passes is nothing = record {
  on = λ next first.
      let P : List ℕ → Type 0 = λ l. FirstOf (Seeks left pages key page) start l next in
      passes.on next (subst P (sym is) (inr (nothing.seeks, first)));
}

pub passes_found : (left : ℕ) (pages : Pages) (key : ℤ) (page : ℕ) (from : ℤ) (all : List ℕ) (start : ℤ) (rest more : List ℕ) (child : ℕ) (next : Next)
    → Passes left pages key page from all start rest → rest ≡ child ∷ more → HasSought left pages key page start child next → next ≢ Nothing → HasFirst left pages key page from all next
passes_found left pages key page from all start rest more child next passes is sought some =
    let P : List ℕ → Type 0 = λ l. FirstOf (Seeks left pages key page) start l next in
    record { first = passes.on next (subst P (sym is) (inl (sought.seeks, some))) }

pub fault_is_some : (fault : Fault) → Meets fault ≢ Nothing
fault_is_some fault is = cc

pub place_is_some : (leaf : ℕ) (cell : LeafCell) → Found leaf cell ≢ Nothing
place_is_some leaf cell is = cc

pub passes_last : (left : ℕ) (pages : Pages) (key : ℤ) (page : ℕ) (from : ℤ) (all : List ℕ) (start : ℤ) (rest : List ℕ) (right : ℕ) (next : Next)
    → Passes left pages key page from all start rest → rest ≡ right ∷ [] → HasSought left pages key page start right next → HasFirst left pages key page from all next
passes_last left pages key page from all start rest right Nothing passes is sought = record { first = (passes_on left pages key page from all start rest [] right passes is sought).on Nothing refl }
passes_last left pages key page from all start rest right (Found leaf cell) passes is sought =
    passes_found left pages key page from all start rest [] right (Found leaf cell) passes is sought (place_is_some leaf cell)
passes_last left pages key page from all start rest right (Meets fault) passes is sought =
    passes_found left pages key page from all start rest [] right (Meets fault) passes is sought (fault_is_some fault)

-- ---- from one state to the next

pub sought_on : (old mid : SpaceState) (left : ℕ) (key key' : ℤ) (above : ℕ) (from : ℤ) (page : ℕ) (next next' : Next) → Steady old mid → Stays old mid → key' ≡ key → next' ≡ next
    → (IsTrue mid.tells → HasSought left mid.pages key' above from page next') → IsTrue old.tells → HasSought left old.pages key above from page next
sought_on old mid left key key' above from page next next' steady stays same_key same_next sought t =
    let P : Pages → Type 0 = λ p. HasSought left p key' above from page next' in
    let Q : ℤ → Type 0 = λ k. HasSought left old.pages k above from page next' in
    let R : Next → Type 0 = λ n. HasSought left old.pages key above from page n in
    subst R same_next (subst Q same_key (subst P (stays.pages_stay t) (sought (steady.told ∙ t))))

pub is_none : (found : Option Place) → is_some found ≡ false → found ≡ None
is_none None h = refl
is_none (Some place) h = cc

-- what the children of a page have, read a page later
pub below_on : (old mid : Pages) (left less : ℕ) (key key' : ℤ) (above : ℕ) (from : ℤ) (page : ℕ) (seen cells : List InnerCell) (right : ℕ) (next : Next) → mid ≡ old → key' ≡ key → seen ≡ cells
    → left ≡ suc less → HasCells old page (InteriorPage cells right) → HasFirst less mid key' page from (children_from from seen right) next → HasSought left old key above from page next
below_on old mid left less key key' above from page seen cells right next same_pages same_key same_cells left_is has first =
    let P : Pages → Type 0 = λ p. HasFirst less p key' page from (children_from from seen right) next in
    let Q : ℤ → Type 0 = λ k. HasFirst less old k page from (children_from from seen right) next in
    let R : List InnerCell → Type 0 = λ l. HasFirst less old key page from (children_from from l right) next in
    sought_below left less old key above from page cells right next left_is has (subst R same_cells (subst Q same_key (subst P same_pages first)))

pub below_refused : (old mid new : SpaceState) (left less : ℕ) (key key' : ℤ) (above : ℕ) (from : ℤ) (page : ℕ) (seen cells : List InnerCell) (right : ℕ) (fault : SpaceFault) → Steady old mid → Stays old mid
    → key' ≡ key → seen ≡ cells → left ≡ suc less → (IsTrue old.tells → HasCells old.pages page (InteriorPage cells right))
    → SearchRefused mid new (λ f. HasFirst less mid.pages key' page from (children_from from seen right) (Meets f)) fault
    → SearchRefused old new (λ f. HasSought left old.pages key above from page (Meets f)) fault
below_refused old mid new left less key key' above from page seen cells right fault steady stays same_key same_cells left_is has refused =
    let A : Pages → Fault → Type 0 = λ p f. HasFirst less p key' page from (children_from from seen right) (Meets f) in
    refused_as old new (A old.pages) (λ f. HasSought left old.pages key above from page (Meets f)) fault
    (λ t f first. below_on old.pages old.pages left less key key' above from page seen cells right (Meets f) refl same_key same_cells left_is (has t) first)
    (refused_on old mid new A fault steady stays refused)

-- a page that could not be gone over
pub page_refused : (old new : SpaceState) (left : ℕ) (key : ℤ) (above : ℕ) (from : ℤ) (page : ℕ) (fault : SpaceFault) → SearchRefused old new (IsFault old.pages left above page) fault
    → SearchRefused old new (λ f. HasSought left old.pages key above from page (Meets f)) fault
page_refused old new left key above from page fault refused =
    refused_as old new (IsFault old.pages left above page) (λ f. HasSought left old.pages key above from page (Meets f)) fault
    (λ t f is. sought_fault left old.pages key above from page f is) refused
