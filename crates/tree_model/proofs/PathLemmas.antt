-- A path in a whole tree finds just the row of its key, or none.
use Rattle.std.proofs.Common.{◌≡◌, ◌≢◌, inl, inr, ℕ, zero, suc, ◌≤◌, Bool, ℤ, ◌≤ℤ◌, ◌<ℤ◌, int_le, if◌then◌else◌, List, [], ◌∷◌, ◌++◌, map, Option, Some, refl, sym, ap, subst, ◌∙◌, arith, append-nil, append_assoc}
use Rattle.std.specs.Prelude.{⊤}
use Rattle.std.specs.List.{AllByRecursion}
use Rattle.std.specs.Int.Signed.{≤ℤ_refl, clash_ℤ}
use Rattle.page_list.specs.Pages.{Pages}
use Rattle.tree_page.specs.declared.cell.InnerCell.{InnerCell}
use Rattle.tree_page.specs.declared.cell.LeafCell.{LeafCell}
use Rattle.tree_page.specs.declared.cell.PageCells.{PageCells}
use Rattle.tree_page.specs.declared.cell.PageCells.TheVariants.{Interior as InteriorPage}
use Rattle.tree_model.specs.Tree.{Row, Tree, Leaf, Child, Right, rowid, root_of, rows_of, Within, IsOrdered, HasDepth}
use Rattle.tree_model.specs.Held.{HasCells, HasRow, HoldsBehind, Holds}
use Rattle.tree_model.specs.Whole.{below_all, greatest, most_depth}
use Rattle.tree_model.specs.Walk.{PathEnd, HasPayload, NoRow, IsReadable, AtKey, LeadsTo, first_from, child_for}
use Rattle.tree_model.specs.Laws.{row_at, AreAccepted, PathFinds}
use Rattle.tree_model.proofs.IntLemmas.{by_le, le_is, not_le_is, antisym_ℤ, le_lt_ℤ, le_trans_ℤ, lt_le_ℤ}
use Rattle.tree_model.proofs.RiseLemmas.{bounds_rise}
use Rattle.tree_model.proofs.OneTreeLemmas.{cells_at, behind, top_cells, nothing_in}

lt_apart : (a b : ℤ) → a <ℤ b → b ≢ a
lt_apart a b less same = let P : ℤ → Type 0 = λ z. a <ℤ z in clash_ℤ (subst P same less) (≤ℤ_refl a)

-- what the first row from a key on says of it
row_here : (key : ℤ) (row : Row) (more : List Row) → key ≤ℤ rowid row → rowid row ≤ℤ key → row_at key (row ∷ more) ≡ HasPayload row.payload
row_here key row more a b = grind (arith, le_is key (rowid row) a, le_is (rowid row) key b)

no_row_here : (key : ℤ) (row : Row) (more : List Row) → key <ℤ rowid row → row_at key (row ∷ more) ≡ NoRow
no_row_here key row more a = grind (arith, le_is key (rowid row) (lt_le_ℤ _ _ a), not_le_is (rowid row) key a)

row_later : (key : ℤ) (row : Row) (more : List Row) → rowid row <ℤ key → row_at key (row ∷ more) ≡ row_at key more
row_later key row more a = grind (arith, not_le_is key (rowid row) a)

-- rows behind that are greater say nothing
pub row_before : (key : ℤ) (xs ys : List Row) → AllByRecursion (λ row. key <ℤ rowid row) ys → row_at key (xs ++ ys) ≡ row_at key xs
row_before key [] [] greater = refl
row_before key [] (y ∷ ys) greater = no_row_here key y ys greater.0
row_before key (x ∷ xs) ys greater = by_le key (rowid x)
    (λ a. by_le (rowid x) key
    (λ b. row_here key x (xs ++ ys) a b ∙ sym (row_here key x xs a b))
    (λ b. no_row_here key x (xs ++ ys) b ∙ sym (no_row_here key x xs b)))
    (λ a. row_later key x (xs ++ ys) a ∙ row_before key xs ys greater ∙ sym (row_later key x xs a))

-- and neither do rows in front that are less
pub row_behind : (key : ℤ) (xs ys : List Row) → AllByRecursion (λ row. rowid row <ℤ key) xs → row_at key (xs ++ ys) ≡ row_at key ys
row_behind key [] ys less = refl
row_behind key (x ∷ xs) ys less = row_later key x (xs ++ ys) less.0 ∙ row_behind key xs ys less.1

-- the rows of a tree lie in its bounds
pub all_append : (P : Row → Type 0) (xs ys : List Row) → AllByRecursion P xs → AllByRecursion P ys → AllByRecursion P (xs ++ ys)
all_append P [] ys a b = b
all_append P (x ∷ xs) ys a b = (a.0, all_append P xs ys a.1 b)

pub all_weaker : (P Q : Row → Type 0) → ((row : Row) → P row → Q row) → (xs : List Row) → AllByRecursion P xs → AllByRecursion Q xs
all_weaker P Q f [] a = tt
all_weaker P Q f (x ∷ xs) a = (f x a.0, all_weaker P Q f xs a.1)

pub rows_within : (low high : ℤ) (tree : Tree) → low ≤ℤ high → IsOrdered low high tree → AllByRecursion (λ row. Within low high (rowid row)) (rows_of tree)
rows_within low high (Leaf page rows) less ordered = ordered
rows_within low high (Child child key more) less ordered = all_append _ (rows_of child) (rows_of more)
    (all_weaker _ _ (λ row w. (w.0, le_trans_ℤ _ _ _ w.1 ordered.0.1)) (rows_of child) (rows_within low key child (lt_le_ℤ _ _ ordered.0.0) ordered.1))
    (all_weaker _ _ (λ row w. (le_lt_ℤ _ _ _ (lt_le_ℤ _ _ ordered.0.0) w.0, w.1)) (rows_of more) (rows_within key high more ordered.0.1 ordered.2))
rows_within low high (Right page child) less ordered = rows_within low high child less ordered

-- the right-most child of an interior page
abbrev pub last_of : Tree → ℕ
last_of (Leaf page rows) = 0
last_of (Child child key more) = last_of more
last_of (Right page child) = root_of child

-- the tree is that of an interior page
abbrev pub IsInner : Tree → Type 0
IsInner (Leaf page rows) = ⊥
IsInner (Child child key more) = IsInner more
IsInner (Right page child) = ⊤

-- an interior page has children below it
pub no_depth : (tree : Tree) → IsInner tree → ¬ (HasDepth zero tree)
no_depth (Leaf page rows) inner deep = inner
no_depth (Child child key more) inner deep = deep
no_depth (Right page child) inner deep = deep

pub inner_behind : (pages : Pages) (front : List InnerCell) (x : InnerCell) (tree : Tree) → HoldsBehind pages (front ++ x ∷ []) tree → IsInner tree
inner_behind pages front x (Leaf page rows) holds = absurd (nothing_in front x holds.0)
inner_behind pages front x (Child child key more) holds = inner_behind pages (front ++ x ∷ []) _ more holds.1
inner_behind pages front x (Right page child) holds = tt

pub cells_listed : (front : List InnerCell) (tree : Tree) → IsInner tree → cells_at front tree ≡ InteriorPage (front ++ behind tree) (last_of tree)
cells_listed front (Leaf page rows) inner = absurd inner
cells_listed front (Child child key more) inner =
    let x : InnerCell = record { child = root_of child; rowid = key } in
    cells_listed (front ++ x ∷ []) more inner ∙ ap (λ (l : List InnerCell). InteriorPage l (last_of more)) (append_assoc front (x ∷ []) (behind more))
cells_listed front (Right page child) inner = ap (λ (l : List InnerCell). InteriorPage l (root_of child)) (sym (append-nil front))

-- the page at the top of an interior tree has all its children
pub inner_top : (pages : Pages) (tree : Tree) → IsInner tree → Holds pages tree → HasCells pages (root_of tree) (InteriorPage (behind tree) (last_of tree))
inner_top pages tree inner holds =
    let P : PageCells → Type 0 = λ cells. HasCells pages (root_of tree) cells in
    subst P (cells_listed [] tree inner) (top_cells pages [] tree holds)

-- what holds of each row of two lists holds of each of the first, and of each of the second
pub all_front : (P : Row → Type 0) (xs ys : List Row) → AllByRecursion P (xs ++ ys) → AllByRecursion P xs
all_front P [] ys a = tt
all_front P (x ∷ xs) ys a = (a.0, all_front P xs ys a.1)

pub all_behind : (P : Row → Type 0) (xs ys : List Row) → AllByRecursion P (xs ++ ys) → AllByRecursion P ys
all_behind P [] ys a = a
all_behind P (x ∷ xs) ys a = all_behind P xs ys a.1

-- in a leaf
pub at_key : (columns : Option ℕ) (pages : Pages) (page : ℕ) (key : ℤ) (rows : List Row) → AllByRecursion (HasRow pages) rows → AreAccepted columns rows
    → AtKey columns pages page key (first_from key (map (λ row. row.cell) rows)) (row_at key rows)
at_key columns pages page key [] has accepted = refl
at_key columns pages page key (row ∷ more) has accepted =
    let found : PathEnd = if int_le (rowid row) key then HasPayload row.payload else NoRow in
    let later : Option LeafCell = first_from key (map (λ r. r.cell) more) in
    let P : Bool → Type 0 = λ t. AtKey columns pages page key (if t then Some row.cell else later) (if t then found else row_at key more) in
    let readable : IsReadable columns pages row.cell row.payload = record { chain = row.chain; has_row = has.0; accepted = accepted.0 } in
    let Q : Bool → Type 0 = λ t. AtKey columns pages page key (Some row.cell) (if t then HasPayload row.payload else NoRow) in
    by_le key (rowid row)
    (λ a. subst P (sym (le_is key (rowid row) a)) (by_le (rowid row) key
    (λ b. subst Q (sym (le_is (rowid row) key b)) (inr (antisym_ℤ (rowid row) key b a, inl (row.payload, readable, refl))))
    (λ b. subst Q (sym (not_le_is (rowid row) key b)) (inl (lt_apart key (rowid row) b, refl)))))
    (λ a. subst P (sym (not_le_is key (rowid row) a)) (at_key columns pages page key more has.1 accepted.1))

-- the child of the key among those of an interior page
child_here : (key : ℤ) (child : ℕ) (bound : ℤ) (cells : List InnerCell) (right : ℕ) → key ≤ℤ bound → child_for key (record { child = child; rowid = bound } ∷ cells) right ≡ child
child_here key child bound cells right a = grind (arith, le_is key bound a)

child_later : (key : ℤ) (child : ℕ) (bound : ℤ) (cells : List InnerCell) (right : ℕ) → bound <ℤ key → child_for key (record { child = child; rowid = bound } ∷ cells) right ≡ child_for key cells right
child_later key child bound cells right a = grind (arith, not_le_is key bound a)

-- from the top of a tree, and from the children of an interior page on: a path leads to what the rows say
abbrev pub TopLeads : Option ℕ → Pages → Tree → Type 0
TopLeads columns pages tree = (left depth above : ℕ) (low high key : ℤ) → depth ≤ left → HasDepth depth tree → Holds pages tree →
    low ≤ℤ high → IsOrdered low high tree → AreAccepted columns (rows_of tree) →
    LeadsTo left columns pages above (root_of tree) key (row_at key (rows_of tree))

abbrev pub ChildrenLead : Option ℕ → Pages → Tree → Type 0
ChildrenLead columns pages tree = (left depth page : ℕ) (low high key : ℤ) (front : List InnerCell) → depth ≤ left → HasDepth (suc depth) tree →
    HoldsBehind pages front tree → IsInner tree → low ≤ℤ high → IsOrdered low high tree → AreAccepted columns (rows_of tree) →
    LeadsTo left columns pages page (child_for key (behind tree) (last_of tree)) key (row_at key (rows_of tree))

leads_at : (columns : Option ℕ) (pages : Pages) (left above page page' : ℕ) (key : ℤ) (end end' : PathEnd) → page ≡ page' → end ≡ end'
    → LeadsTo left columns pages above page' key end' → LeadsTo left columns pages above page key end
leads_at columns pages left above page page' key end end' p q leads =
    let P : ℕ → Type 0 = λ n. LeadsTo left columns pages above n key end in
    let Q : PathEnd → Type 0 = λ e. LeadsTo left columns pages above page' key e in
    subst P (sym p) (subst Q (sym q) leads)

leaf_leads : (columns : Option ℕ) (pages : Pages) (page : ℕ) (rows : List Row) → TopLeads columns pages (Leaf page rows)
leaf_leads columns pages page rows zero depth above low high key within deep holds less ordered accepted = absurd (omega (arith, within, deep))
leaf_leads columns pages page rows (suc left) depth above low high key within deep holds less ordered accepted =
    inr (inl (map (λ row. row.cell) rows, holds.1, at_key columns pages page key rows holds.2 accepted))

inner_leads : (columns : Option ℕ) (pages : Pages) (tree : Tree) → IsInner tree → ChildrenLead columns pages tree → TopLeads columns pages tree
inner_leads columns pages tree inner below left zero above low high key within deep holds less ordered accepted = absurd (no_depth tree inner deep)
inner_leads columns pages tree inner below zero (suc depth) above low high key within deep holds less ordered accepted = absurd (omega (arith, within))
inner_leads columns pages tree inner below (suc left) (suc depth) above low high key within deep holds less ordered accepted =
    let leads = below left depth (root_of tree) low high key [] (omega (arith, within)) deep holds inner less ordered accepted in
    inr (inr (behind tree, last_of tree, inner_top pages tree inner holds, leads))

pub both_lead : (columns : Option ℕ) (pages : Pages) (tree : Tree) → TopLeads columns pages tree × ChildrenLead columns pages tree
both_lead columns pages (Leaf page rows) = (leaf_leads columns pages page rows, λ left depth at low high key front within deep holds inner. absurd inner)
both_lead columns pages (Right page child) =
    let children : ChildrenLead columns pages (Right page child) =
    λ left depth at low high key front within deep holds inner less ordered accepted.
    (both_lead columns pages child).0 left depth at low high key within deep holds.1 less ordered accepted in
    (inner_leads columns pages (Right page child) tt children, children)
both_lead columns pages (Child child bound more) =
    let children : ChildrenLead columns pages (Child child bound more) = λ left depth at low high key front within deep holds inner less ordered accepted.
    by_le key bound
    (λ a. leads_at columns pages left at _ (root_of child) key _ (row_at key (rows_of child)) (child_here key (root_of child) bound (behind more) (last_of more) a)
    (row_before key (rows_of child) (rows_of more) (all_weaker _ _ (λ row w. le_lt_ℤ _ _ _ a w.0) (rows_of more) (rows_within bound high more ordered.0.1 ordered.2)))
    ((both_lead columns pages child).0 left depth at low bound key within deep.0 holds.0 (lt_le_ℤ _ _ ordered.0.0) ordered.1 (all_front _ (rows_of child) (rows_of more) accepted)))
    (λ a. leads_at columns pages left at _ (child_for key (behind more) (last_of more)) key _ (row_at key (rows_of more))
    (child_later key (root_of child) bound (behind more) (last_of more) a)
    (row_behind key (rows_of child) (rows_of more) (all_weaker _ _ (λ row w. le_lt_ℤ _ _ _ w.1 a) (rows_of child) (rows_within low bound child (lt_le_ℤ _ _ ordered.0.0) ordered.1)))
    ((both_lead columns pages more).1 left depth at bound high key _ within deep.1 holds.1 inner ordered.0.1 ordered.2 (all_behind _ (rows_of child) (rows_of more) accepted))) in (
      λ left depth above low high key within deep holds less ordered accepted.
          inner_leads columns pages (Child child bound more) (inner_behind pages [] _ more holds.1) children left depth above low high key within deep holds less ordered accepted,
      children,
    )

pub path_finds : PathFinds
path_finds columns pages root tree whole accepted key =
    let P : ℕ → Type 0 = λ n. LeadsTo most_depth columns pages n n key (row_at key (rows_of tree)) in
    let top = (both_lead columns pages tree).0 most_depth whole.depth (root_of tree) below_all greatest key whole.shallow whole.level in
    subst P whole.rooted (top whole.held bounds_rise whole.ordered accepted)
