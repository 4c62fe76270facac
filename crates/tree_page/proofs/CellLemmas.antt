use Rattle.std.proofs.Common.{◌≡◌, ℕ, zero, suc, ◌<◌, List, [], ◌∷◌, length, map, get_or, slice_get, Option, Some, None, IfSome, IfNone, refl, subst, sym, ap, ◌∙◌, arith}
use Rattle.std.proofs.lemmas.List.{length-map}
use Rattle.tree_page.specs.declared.cell.InnerCell.{InnerCell}
use Rattle.tree_page.specs.declared.cell.LeafCell.{LeafCell}
use Rattle.tree_page.specs.declared.cell.PageCells.{PageCells}
use Rattle.tree_page.specs.declared.cell.PageCells.TheVariants.{Leaf, Interior}
use Rattle.tree_page.specs.declared.cell.Kind.{Kind}
use Rattle.tree_page.specs.declared.cell.Kind.TheVariants as kinds
use Rattle.tree_page.specs.declared.read.Found.{Found}
use Rattle.tree_page.specs.declared.read.Found.TheVariants as found
use Rattle.tree_page.specs.Page.{Cell, leaf, inner, kind_of, cells_of, IsAt}
use Rattle.tree_page.specs.Steps.{cell_of, IsFound}
use Rattle.tree_page.specs.Written.{IsSound}

-- cells of an interior page are sound
each_inner : (usable at : ℕ) (cells : List InnerCell) (cell : Cell) → slice_get (map inner cells) at ≡ Some cell → IsSound usable cell
each_inner usable at [] cell here = cc
each_inner usable zero (c ∷ cs) cell here = let e : inner c ≡ cell = cc in subst (IsSound usable) e tt
each_inner usable (suc at) (c ∷ cs) cell here = each_inner usable at cs cell here

-- and none of them is one of a leaf
inner_no_leaf : (at : ℕ) (cells : List InnerCell) (cell : LeafCell) → slice_get (map inner cells) at ≡ Some (leaf cell) → ⊥
inner_no_leaf at [] cell here = cc
inner_no_leaf zero (c ∷ cs) cell here = let e : inner c ≡ leaf cell = cc in cc
inner_no_leaf (suc at) (c ∷ cs) cell here = inner_no_leaf at cs cell here

pub inner_sound : (usable at right : ℕ) (page : PageCells) (cells : List InnerCell) (cell : Cell) → page ≡ Interior cells right
    → slice_get (cells_of page) at ≡ Some cell → IsSound usable cell
inner_sound usable at right page cells cell page_is here = each_inner usable at cells cell (ap (λ p. slice_get (cells_of p) at) (sym page_is) ∙ here)

pub no_leaf : (at right : ℕ) (page : PageCells) (cells : List InnerCell) (cell : LeafCell) → page ≡ Interior cells right
    → slice_get (cells_of page) at ≡ Some (leaf cell) → ⊥
no_leaf at right page cells cell page_is here = inner_no_leaf at cells cell (ap (λ p. slice_get (cells_of p) at) (sym page_is) ∙ here)

get_map : {X Y : Type 0} (f : X → Y) (xs : List X) (at : ℕ) (d : X) → at < length xs → slice_get (map f xs) at ≡ Some (f (get_or xs at d))
get_map f [] at d within = absurd (omega arith)
get_map f (x ∷ xs) zero d within = refl
get_map f (x ∷ xs) (suc at) d within = get_map f xs at d (omega arith)

-- the cell that an index reads
pub leaf_read : (at : ℕ) (page : PageCells) (cells list : List LeafCell) (cell : LeafCell) → page ≡ Leaf cells → list ≡ cells → cell ≡ get_or list at cell
    → at < length (cells_of page) → slice_get (cells_of page) at ≡ Some (leaf cell)
leaf_read at page cells list cell page_is list_is cell_is within =
    let in_cells : at < length cells = omega (arith, ap (λ p. length (cells_of p)) page_is, length-map cells leaf) in
    ap (λ p. slice_get (cells_of p) at) page_is ∙ get_map leaf cells at cell in_cells
    ∙ ap (λ c. Some (leaf c)) (ap (λ xs. get_or xs at cell) (sym list_is) ∙ sym cell_is)

pub inner_read : (at right : ℕ) (page : PageCells) (cells list : List InnerCell) (d : InnerCell) → page ≡ Interior cells right → list ≡ cells
    → at < length (cells_of page) → slice_get (cells_of page) at ≡ Some (inner (get_or list at d))
inner_read at right page cells list d page_is list_is within =
    let in_cells : at < length cells = omega (arith, ap (λ p. length (cells_of p)) page_is, length-map cells inner) in
    ap (λ p. slice_get (cells_of p) at) page_is ∙ get_map inner cells at d in_cells ∙ ap (λ xs. Some (inner (get_or xs at d))) (sym list_is)

-- a fact of a found cell, in the two forms
pub some_is : {X : Type 0} (P : X → Type 0) (found : Option X) (x : X) → found ≡ Some x → P x → IfSome found P
some_is P found x is fact = let Q : Option _ → Type 0 = λ o. IfSome o P in subst Q (sym is) fact

pub is_some : {X : Type 0} (P : X → Type 0) (found : Option X) (x : X) → found ≡ Some x → IfSome found P → P x
is_some P found x is fact = let Q : Option _ → Type 0 = λ o. IfSome o P in subst Q is fact

other_kind : kinds.Leaf ≡ kinds.Interior → ⊥
other_kind same = cc

-- of the kind of leaves there are only cells of leaves, and of the other only the others
by_leaf : (bytes : List ℕ) (place : ℕ) (here : Found × ℕ)
    → ((size : ℕ) (cell : LeafCell) → IsAt bytes place size (leaf cell) → (size ≡ here.1) × (leaf cell ≡ cell_of bytes here.0))
    → (size : ℕ) (cell : Cell) → kind_of cell ≡ kinds.Leaf → IsAt bytes place size cell → (size ≡ here.1) × (cell ≡ cell_of bytes here.0)
by_leaf bytes place here only size (leaf c) kind at = only size c at
by_leaf bytes place here only size (inner c) kind at = absurd (other_kind (sym kind))

by_inner : (bytes : List ℕ) (place : ℕ) (here : Found × ℕ)
    → ((size : ℕ) (cell : InnerCell) → IsAt bytes place size (inner cell) → (size ≡ here.1) × (inner cell ≡ cell_of bytes here.0))
    → (size : ℕ) (cell : Cell) → kind_of cell ≡ kinds.Interior → IsAt bytes place size cell → (size ≡ here.1) × (cell ≡ cell_of bytes here.0)
by_inner bytes place here only size (inner c) kind at = only size c at
by_inner bytes place here only size (leaf c) kind at = absurd (other_kind kind)

pub leaf_kinds : (bytes : List ℕ) (place : ℕ) (r : Option (Found × ℕ))
    → IfSome r (λ here. (size : ℕ) (cell : LeafCell) → IsAt bytes place size (leaf cell) → (size ≡ here.1) × (leaf cell ≡ cell_of bytes here.0))
    → IfSome r (λ here. (size : ℕ) (cell : Cell) → kind_of cell ≡ kinds.Leaf → IsAt bytes place size cell → (size ≡ here.1) × (cell ≡ cell_of bytes here.0))
leaf_kinds bytes place None only = tt
leaf_kinds bytes place (Some here) only = λ size cell. by_leaf bytes place here only size cell

pub inner_kinds : (bytes : List ℕ) (place : ℕ) (r : Option (Found × ℕ))
    → IfSome r (λ here. (size : ℕ) (cell : InnerCell) → IsAt bytes place size (inner cell) → (size ≡ here.1) × (inner cell ≡ cell_of bytes here.0))
    → IfSome r (λ here. (size : ℕ) (cell : Cell) → kind_of cell ≡ kinds.Interior → IsAt bytes place size cell → (size ≡ here.1) × (cell ≡ cell_of bytes here.0))
inner_kinds bytes place None only = tt
inner_kinds bytes place (Some here) only = λ size cell. by_inner bytes place here only size cell

no_leaf_at : (bytes : List ℕ) (place : ℕ) → ((size : ℕ) (cell : LeafCell) → ¬ (IsAt bytes place size (leaf cell)))
    → (size : ℕ) (cell : Cell) → kind_of cell ≡ kinds.Leaf → ¬ (IsAt bytes place size cell)
no_leaf_at bytes place none size (leaf c) kind at = none size c at
no_leaf_at bytes place none size (inner c) kind at = other_kind (sym kind)

no_inner_at : (bytes : List ℕ) (place : ℕ) → ((size : ℕ) (cell : InnerCell) → ¬ (IsAt bytes place size (inner cell)))
    → (size : ℕ) (cell : Cell) → kind_of cell ≡ kinds.Interior → ¬ (IsAt bytes place size cell)
no_inner_at bytes place none size (inner c) kind at = none size c at
no_inner_at bytes place none size (leaf c) kind at = other_kind kind

pub leaf_nones : (bytes : List ℕ) (place : ℕ) (r : Option (Found × ℕ)) → IfNone r ((size : ℕ) (cell : LeafCell) → ¬ (IsAt bytes place size (leaf cell)))
    → IfNone r ((size : ℕ) (cell : Cell) → kind_of cell ≡ kinds.Leaf → ¬ (IsAt bytes place size cell))
leaf_nones bytes place (Some here) none = tt
leaf_nones bytes place None none = λ size cell. no_leaf_at bytes place none size cell

pub inner_nones : (bytes : List ℕ) (place : ℕ) (r : Option (Found × ℕ)) → IfNone r ((size : ℕ) (cell : InnerCell) → ¬ (IsAt bytes place size (inner cell)))
    → IfNone r ((size : ℕ) (cell : Cell) → kind_of cell ≡ kinds.Interior → ¬ (IsAt bytes place size cell))
inner_nones bytes place (Some here) none = tt
inner_nones bytes place None none = λ size cell. no_inner_at bytes place none size cell

-- what was found is of its kind
pub found_kind : (bytes : List ℕ) (kind : Kind) (f : Found) → IsFound bytes kind f → kind_of (cell_of bytes f) ≡ kind
found_kind bytes kind (found.Leaf spot) is = is.0
found_kind bytes kind (found.Inner cell) is = is
