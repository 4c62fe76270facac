-- A walk over a range of rowids of a whole tree gives just its rows in it.
use Rattle.std.proofs.Common.{◌≡◌, ◌≢◌, inl, inr, ℕ, zero, suc, ◌≤◌, Bool, true, false, ℤ, pos, ◌+ℤ◌, ◌≤ℤ◌, ◌<ℤ◌, int_le, if◌then◌else◌, List, [], ◌∷◌, ◌++◌, map, Option, Some, None, refl, sym, ap, subst, ◌∙◌, arith, append_assoc, append-nil}
use Rattle.std.specs.List.{AllByRecursion}
use Rattle.std.specs.Int.Signed.{≤ℤ_refl}
use Rattle.page_list.specs.Pages.{Pages}
use Rattle.tree_page.specs.declared.cell.LeafCell.{LeafCell}
use Rattle.tree_page.specs.declared.cell.InnerCell.{InnerCell}
use Rattle.tree_model.specs.Tree.{Row, Tree, Leaf, Child, Right, rowid, root_of, rows_of, IsOrdered, HasDepth}
use Rattle.tree_model.specs.Held.{HasRow, HoldsBehind, Holds}
use Rattle.tree_model.specs.Whole.{below_all, greatest, most_depth, IsWholeTree}
use Rattle.tree_model.specs.Walk.{Next, Found, Nothing, in_leaf, first_from, all_children, children_from, FirstOf, Seeks, NextFrom, IsReadable, End, IsNext, WalksFrom}
use Rattle.tree_model.specs.Laws.{Rises, AreAccepted, shown, first_row, rows_between, WalkGives, MeetsRow, NextGives}
use Rattle.tree_model.proofs.IntLemmas.{by_le, le_is, not_le_is, antisym_ℤ, le_lt_ℤ, le_trans_ℤ, lt_le_ℤ, next_ℤ}
use Rattle.tree_model.proofs.RiseLemmas.{rows_rise, bounds_rise}
use Rattle.tree_model.proofs.PathLemmas.{all_weaker, all_append, rows_within, last_of, IsInner, inner_behind, inner_top, no_depth}
use Rattle.tree_model.proofs.OneTreeLemmas.{behind}

lt_le_trans : (a b c : ℤ) → a <ℤ b → b ≤ℤ c → a <ℤ c
lt_le_trans a b c h k = grind (arith, h, k)

below_next : (z : ℤ) → z <ℤ (z +ℤ pos 1)
below_next z = grind arith

first_here : (key : ℤ) (row : Row) (more : List Row) → key ≤ℤ rowid row → first_row key (row ∷ more) ≡ Some row
first_here key row more a = grind (arith, le_is key (rowid row) a)

first_later : (key : ℤ) (row : Row) (more : List Row) → rowid row <ℤ key → first_row key (row ∷ more) ≡ first_row key more
first_later key row more a = grind (arith, not_le_is key (rowid row) a)

first_some : (key : ℤ) (xs ys : List Row) (row : Row) → first_row key xs ≡ Some row → first_row key (xs ++ ys) ≡ Some row
first_some key [] ys row e = absurd (none_some row e)
  where
    none_some : (row : Row) → ¬ (None ≡ Some row)
    none_some row e = cc
first_some key (x ∷ xs) ys row e = by_le key (rowid x)
    (λ a. first_here key x (xs ++ ys) a ∙ sym (first_here key x xs a) ∙ e)
    (λ a. first_later key x (xs ++ ys) a ∙ first_some key xs ys row (sym (first_later key x xs a) ∙ e))

first_none : (key : ℤ) (xs ys : List Row) → first_row key xs ≡ None → first_row key (xs ++ ys) ≡ first_row key ys
first_none key [] ys e = refl
first_none key (x ∷ xs) ys e = by_le key (rowid x)
    (λ a. absurd (some_none x (sym (first_here key x xs a) ∙ e)))
    (λ a. first_later key x (xs ++ ys) a ∙ first_none key xs ys (sym (first_later key x xs a) ∙ e))
  where
    some_none : (row : Row) → ¬ (Some row ≡ None)
    some_none row e = cc

first_past : (key : ℤ) (xs ys : List Row) → AllByRecursion (λ row. rowid row <ℤ key) xs → first_row key (xs ++ ys) ≡ first_row key ys
first_past key [] ys less = refl
first_past key (x ∷ xs) ys less = first_later key x (xs ++ ys) less.0 ∙ first_past key xs ys less.1

-- what a search meets is the cell of this row, on some leaf, or nothing
abbrev pub MeetsCell : Next → Option Row → Type 0
MeetsCell next None = next ≡ Nothing
MeetsCell next (Some row) = (leaf : ℕ) × (next ≡ Found leaf row.cell)

meets_at : (next : Next) (a b : Option Row) → a ≡ b → MeetsCell next a → MeetsCell next b
meets_at next a b e m = let P : Option Row → Type 0 = MeetsCell next in subst P e m

leaf_meets : (page : ℕ) (key : ℤ) (rows : List Row) → MeetsCell (in_leaf page (first_from key (map (λ row. row.cell) rows))) (first_row key rows)
leaf_meets page key [] = refl
leaf_meets page key (row ∷ more) =
    let P : Bool → Type 0 = λ t. MeetsCell (in_leaf page (if t then Some row.cell else first_from key (map (λ r. r.cell) more))) (if t then Some row else first_row key more) in
    by_le key (rowid row)
    (λ a. subst P (sym (le_is key (rowid row) a)) (page, refl))
    (λ a. subst P (sym (not_le_is key (rowid row) a)) (leaf_meets page key more))

abbrev pub SeeksRow : ℕ → Pages → ℤ → ℕ → ℤ → ℕ → List Row → Type 0
SeeksRow left pages key above from page rows = (next : Next) × Seeks left pages key above from page next × MeetsCell next (first_row key rows)

abbrev pub FirstRowOf : ℕ → Pages → ℤ → ℕ → ℤ → List ℕ → List Row → Type 0
FirstRowOf left pages key page from children rows = (next : Next) × FirstOf (Seeks left pages key page) from children next × MeetsCell next (first_row key rows)

found_not_nothing : (leaf : ℕ) (cell : LeafCell) → Found leaf cell ≢ Nothing
found_not_nothing leaf cell e = cc

-- a child, and the children behind it
one_child : (left : ℕ) (pages : Pages) (key : ℤ) (page : ℕ) (from : ℤ) (child : ℕ) (more : List ℕ) (xs ys : List Row)
    → SeeksRow left pages key page from child xs → FirstRowOf left pages key page below_all more ys → FirstRowOf left pages key page from (child ∷ more) (xs ++ ys)
one_child left pages key page from child more xs ys here behind = by (first_row key xs) refl here.2
  where
    by : (o : Option Row) → first_row key xs ≡ o → MeetsCell here.0 o → FirstRowOf left pages key page from (child ∷ more) (xs ++ ys)
    by None e m =
        let P : Next → Type 0 = λ n. Seeks left pages key page from child n in
        (behind.0, inr (subst P m here.1, behind.1), meets_at behind.0 _ _ (sym (first_none key xs ys e)) behind.2)
    by (Some row) e m =
        let Q : Next → Type 0 = λ n. n ≢ Nothing in
        (here.0, inl (here.1, subst Q (sym m.1) (found_not_nothing m.0 row.cell)), meets_at here.0 _ _ (sym (first_some key xs ys row e)) m)

abbrev pub TopSeeks : Pages → Tree → Type 0
TopSeeks pages tree = (left depth above : ℕ) (low high key from : ℤ) → depth ≤ left → HasDepth depth tree → Holds pages tree → low ≤ℤ high → IsOrdered low high tree → from ≤ℤ key → below_all ≤ℤ key →
    SeeksRow left pages key above from (root_of tree) (rows_of tree)

abbrev pub ChildrenSeek : (ℤ → List InnerCell → ℕ → List ℕ) → Pages → Tree → Type 0
ChildrenSeek children pages tree = (left depth page : ℕ) (low high key from : ℤ) (front : List InnerCell) → depth ≤ left → HasDepth (suc depth) tree → HoldsBehind pages front tree → IsInner tree → low ≤ℤ high → IsOrdered low high tree →
    from ≤ℤ key → below_all ≤ℤ key → FirstRowOf left pages key page from (children from (behind tree) (last_of tree)) (rows_of tree)

abbrev pub every_child : ℤ → List InnerCell → ℕ → List ℕ
every_child from cells right = all_children cells right

leaf_seeks : (pages : Pages) (page : ℕ) (rows : List Row) → TopSeeks pages (Leaf page rows)
leaf_seeks pages page rows zero depth above low high key from within deep holds less ordered before least = absurd (omega (arith, within, deep))
leaf_seeks pages page rows (suc left) depth above low high key from within deep holds less ordered before least =
    (in_leaf page (first_from key (map (λ row. row.cell) rows)), inr (inl (map (λ row. row.cell) rows, holds.1, refl)), leaf_meets page key rows)

inner_seeks : (pages : Pages) (tree : Tree) → IsInner tree → ChildrenSeek children_from pages tree → TopSeeks pages tree
inner_seeks pages tree inner below left zero above low high key from within deep holds less ordered before least = absurd (no_depth tree inner deep)
inner_seeks pages tree inner below zero (suc depth) above low high key from within deep holds less ordered before least = absurd (omega (arith, within))
inner_seeks pages tree inner below (suc left) (suc depth) above low high key from within deep holds less ordered before least =
    let first = below left depth (root_of tree) low high key from [] (omega (arith, within)) deep holds inner less ordered before least in
    (first.0, inr (inr (behind tree, last_of tree, inner_top pages tree inner holds, first.1)), first.2)

only_child : (left : ℕ) (pages : Pages) (key : ℤ) (page : ℕ) (from : ℤ) (child : ℕ) (xs : List Row) → SeeksRow left pages key page from child xs → FirstRowOf left pages key page from (child ∷ []) xs
only_child left pages key page from child xs here =
    let all = one_child left pages key page from child [] xs [] here (Nothing, refl, refl) in
    (all.0, all.1, meets_at all.0 _ _ (ap (first_row key) (append-nil xs)) all.2)

-- what is shown of a tree at its top, and of its children from the first or from a key on
pub record SeeksAll (pages : Pages) (tree : Tree) : Type 0 where
  pub top : TopSeeks pages tree
  pub every : ChildrenSeek every_child pages tree
  pub path : ChildrenSeek children_from pages tree

skipped : (from bound : ℤ) (child : ℕ) (cells : List InnerCell) (right : ℕ) → bound <ℤ from → children_from from (record { child = child; rowid = bound } ∷ cells) right ≡ children_from from cells right
skipped from bound child cells right a = grind (arith, not_le_is from bound a)

kept : (from bound : ℤ) (child : ℕ) (cells : List InnerCell) (right : ℕ) → from ≤ℤ bound → children_from from (record { child = child; rowid = bound } ∷ cells) right ≡ child ∷ all_children cells right
kept from bound child cells right a = grind (arith, le_is from bound a)

pub seeks_all : (pages : Pages) (tree : Tree) → SeeksAll pages tree
seeks_all pages (Leaf page rows) = record {
  top = leaf_seeks pages page rows;
  every = λ left depth at low high key from front within deep holds inner. absurd inner;
  path = λ left depth at low high key from front within deep holds inner. absurd inner;
}
seeks_all pages (Right page child) =
    let every : ChildrenSeek every_child pages (Right page child) = λ left depth at low high key from front within deep holds inner less ordered before least.
    only_child left pages key at from (root_of child) (rows_of child) ((seeks_all pages child).top left depth at low high key from within deep holds.1 less ordered before least) in
    record { top = inner_seeks pages (Right page child) tt every; every = every; path = every }
seeks_all pages (Child child bound more) =
    let every : ChildrenSeek every_child pages (Child child bound more) = λ left depth at low high key from front within deep holds inner less ordered before least.
    one_child left pages key at from (root_of child) (all_children (behind more) (last_of more)) (rows_of child) (rows_of more)
    ((seeks_all pages child).top left depth at low bound key from within deep.0 holds.0 (lt_le_ℤ _ _ ordered.0.0) ordered.1 before least)
    ((seeks_all pages more).every left depth at bound high key below_all _ within deep.1 holds.1 inner ordered.0.1 ordered.2 least least) in
    let path : ChildrenSeek children_from pages (Child child bound more) = λ left depth at low high key from front within deep holds inner less ordered before least.
    let P : List ℕ → Type 0 = λ children. FirstRowOf left pages key at from children (rows_of child ++ rows_of more) in
    by_le from bound
    (λ a. subst P (sym (kept from bound (root_of child) (behind more) (last_of more) a)) (every left depth at low high key from front within deep holds inner less ordered before least))
    (λ a. subst P (sym (skipped from bound (root_of child) (behind more) (last_of more) a))
    (let rest = (seeks_all pages more).path left depth at bound high key from _ within deep.1 holds.1 inner ordered.0.1 ordered.2 before least in
    let less_rows = all_weaker _ _ (λ row w. le_lt_ℤ _ _ _ w.1 (lt_le_trans bound from key a before)) (rows_of child) (rows_within low bound child (lt_le_ℤ _ _ ordered.0.0) ordered.1) in
    (rest.0, rest.1, meets_at rest.0 _ _ (sym (first_past key (rows_of child) (rows_of more) less_rows)) rest.2))) in
    record {
      top = λ left depth above low high key from within deep holds less ordered before least.
          inner_seeks pages (Child child bound more) (inner_behind pages [] _ more holds.1) path left depth above low high key from within deep holds less ordered before least;
      every = every;
      path = path;
    }

-- every row of a tree that is held can be read
pub rows_held : (pages : Pages) (front : List InnerCell) (tree : Tree) → HoldsBehind pages front tree → AllByRecursion (HasRow pages) (rows_of tree)
rows_held pages front (Leaf page rows) holds = holds.2
rows_held pages front (Child child key more) holds = all_append _ (rows_of child) (rows_of more) (rows_held pages [] child holds.0) (rows_held pages _ more holds.1)
rows_held pages front (Right page child) holds = rows_held pages [] child holds.1

-- the rows between two rowids, step by step
between_here : (low high : ℤ) (row : Row) (more : List Row) → low ≤ℤ rowid row → rowid row ≤ℤ high → rows_between low high (row ∷ more) ≡ row ∷ rows_between low high more
between_here low high row more a b = grind (arith, le_is low (rowid row) a, le_is (rowid row) high b)

between_below : (low high : ℤ) (row : Row) (more : List Row) → rowid row <ℤ low → rows_between low high (row ∷ more) ≡ rows_between low high more
between_below low high row more a = grind (arith, not_le_is low (rowid row) a)

between_past : (low high : ℤ) (row : Row) (more : List Row) → high <ℤ rowid row → rows_between low high (row ∷ more) ≡ rows_between low high more
between_past low high row more b = by (int_le low (rowid row)) refl
  where
    by : (t : Bool) → int_le low (rowid row) ≡ t → rows_between low high (row ∷ more) ≡ rows_between low high more
    by true e = grind (arith, e, not_le_is (rowid row) high b)
    by false e = grind (arith, e)

-- no row is in a range that ends before it begins
none_between : (low high : ℤ) (rows : List Row) → high <ℤ low → rows_between low high rows ≡ []
none_between low high [] less = refl
none_between low high (row ∷ more) less = by_le low (rowid row)
    (λ a. between_past low high row more (lt_le_trans high low (rowid row) less a) ∙ none_between low high more less)
    (λ a. between_below low high row more a ∙ none_between low high more less)

-- none of those behind the last one that is in it
none_past : (low high last : ℤ) (rows : List Row) → high ≤ℤ last → Rises last rows → rows_between low high rows ≡ []
none_past low high last [] top rise = refl
none_past low high last (row ∷ more) top rise =
    let past : high <ℤ rowid row = le_lt_ℤ _ _ _ top rise.0 in
    between_past low high row more past ∙ none_past low high (rowid row) more (lt_le_ℤ _ _ past) rise.1

-- of rows behind one, ranges that begin at it or before, or just behind it, have the same
same_between : (low low' high last : ℤ) (rows : List Row) → low ≤ℤ (last +ℤ pos 1) → low' ≤ℤ (last +ℤ pos 1) → Rises last rows
    → rows_between low high rows ≡ rows_between low' high rows
same_between low low' high last [] less less' rise = refl
same_between low low' high last (row ∷ more) less less' rise =
    let next : (last +ℤ pos 1) ≤ℤ rowid row = next_ℤ last (rowid row) rise.0 in
    let here = le_trans_ℤ _ _ _ less next in
    let here' = le_trans_ℤ _ _ _ less' next in
    let on : rowid row ≤ℤ (rowid row +ℤ pos 1) = lt_le_ℤ _ _ (below_next (rowid row)) in
    let rest = same_between low low' high (rowid row) more (le_trans_ℤ _ _ _ here on) (le_trans_ℤ _ _ _ here' on) rise.1 in
    by_le (rowid row) high
    (λ b. between_here low high row more here b ∙ ap (λ (l : List Row). row ∷ l) rest ∙ sym (between_here low' high row more here' b))
    (λ b. between_past low high row more b ∙ rest ∙ sym (between_past low' high row more b))

-- what a search from a key on meets in a whole tree
abbrev pub Sought : Pages → ℕ → Tree → Type 0
Sought pages root tree = (key : ℤ) → below_all ≤ℤ key → (next : Next) × NextFrom pages root key next × MeetsCell next (first_row key (rows_of tree))

-- these rows of a tree were passed, all below a key, and these are left, all above a last one
pub record Passed (columns : Option ℕ) (pages : Pages) (tree : Tree) (key last : ℤ) (done rows : List Row) : Type 0 where
  pub least : below_all ≤ℤ key
  pub split : rows_of tree ≡ done ++ rows
  pub past : AllByRecursion (λ row. rowid row <ℤ key) done
  pub rise : Rises last rows
  pub held : AllByRecursion (HasRow pages) rows
  pub accepted : AreAccepted columns rows

-- one row more is passed
pass : (columns : Option ℕ) (pages : Pages) (tree : Tree) (key key' last : ℤ) (done : List Row) (row : Row) (more : List Row)
    → Passed columns pages tree key last done (row ∷ more) → key ≤ℤ key' → rowid row <ℤ key' → Passed columns pages tree key' (rowid row) (done ++ row ∷ []) more
pass columns pages tree key key' last done row more p on less = record {
  least = le_trans_ℤ _ _ _ p.least on;
  split = p.split ∙ sym (append_assoc done (row ∷ []) more);
  past = all_append _ done (row ∷ []) (all_weaker _ _ (λ r w. lt_le_trans _ _ _ w on) done p.past) (less, tt);
  rise = p.rise.1;
  held = p.held.1;
  accepted = p.accepted.1;
}

-- the rows of a walk from a key on
abbrev pub WalksOver : Option ℕ → Pages → ℕ → ℤ → ℤ → List Row → Type 0
WalksOver columns pages root high key rows = WalksFrom columns pages root high key (map shown rows) End

-- a row that is in the range, and the rows behind it
next_row : (columns : Option ℕ) (pages : Pages) (root leaf : ℕ) (high key : ℤ) (row : Row) (more : List Row)
    → NextFrom pages root key (Found leaf row.cell) → IsReadable columns pages row.cell row.payload → key ≤ℤ rowid row → rowid row ≤ℤ high → Rises (rowid row) more
    → WalksOver columns pages root high (rowid row +ℤ pos 1) (rows_between (rowid row +ℤ pos 1) high more)
    → WalksOver columns pages root high key (row ∷ rows_between key high more)
next_row columns pages root leaf high key row more sought readable on within rise rest =
    let is_next : IsNext columns pages root high key (shown row) =
    record { leaf = leaf; cell = row.cell; sought = sought; keyed = refl; within = within; readable = readable } in
    let P : List Row → Type 0 = WalksOver columns pages root high (rowid row +ℤ pos 1) in
    let up = le_trans_ℤ _ _ _ on (lt_le_ℤ _ _ (below_next (rowid row))) in (
      is_next,
      by_le high (rowid row)
          (λ a. inl (antisym_ℤ _ _ within a, ap (map shown) (none_past key high (rowid row) more a rise), refl))
          (λ a. inr (a, subst P (sym (same_between key (rowid row +ℤ pos 1) high (rowid row) more up (≤ℤ_refl _) rise)) rest)),
    )

walks : (columns : Option ℕ) (pages : Pages) (root : ℕ) (tree : Tree) → Sought pages root tree → (high key last : ℤ) (done rows : List Row)
    → Passed columns pages tree key last done rows → WalksOver columns pages root high key (rows_between key high rows)
walks columns pages root tree sought high key last done [] p =
    let found = sought key p.least in
    let is : found.0 ≡ Nothing = meets_at found.0 _ _ (ap (first_row key) p.split ∙ first_past key done [] p.past) found.2 in
    let P : Next → Type 0 = λ n. NextFrom pages root key n in
    (Nothing, subst P is found.1, refl)
walks columns pages root tree sought high key last done (row ∷ more) p =
    let P : List Row → Type 0 = WalksOver columns pages root high key in
    let after : ℤ = rowid row +ℤ pos 1 in
    by_le key (rowid row)
    (λ on.
    let found = sought key p.least in
    let meets = meets_at found.0 _ (Some row) (ap (first_row key) p.split ∙ first_past key done (row ∷ more) p.past ∙ first_here key row more on) found.2 in
    let N : Next → Type 0 = λ n. NextFrom pages root key n in
    let here : NextFrom pages root key (Found meets.0 row.cell) = subst N meets.1 found.1 in
    by_le (rowid row) high
    (λ within.
    let passed = pass columns pages tree key after last done row more p (le_trans_ℤ _ _ _ on (lt_le_ℤ _ _ (below_next (rowid row)))) (below_next (rowid row)) in
    let rest = walks columns pages root tree sought high after (rowid row) (done ++ row ∷ []) more passed in
    let readable : IsReadable columns pages row.cell row.payload = record { chain = row.chain; has_row = p.held.0; accepted = p.accepted.0 } in
    subst P (sym (between_here key high row more on within)) (next_row columns pages root meets.0 high key row more here readable on within p.rise.1 rest))
    (λ past.
    let readable : IsReadable None pages row.cell row.payload = record { chain = row.chain; has_row = p.held.0; accepted = tt } in
    subst P (sym (between_past key high row more past ∙ none_past key high (rowid row) more (lt_le_ℤ _ _ past) p.rise.1))
    (Found meets.0 row.cell, here, inl (past, inl (row.payload, readable, refl)))))
    (λ less. subst P (sym (between_below key high row more less))
    (walks columns pages root tree sought high key (rowid row) (done ++ row ∷ []) more (pass columns pages tree key key last done row more p (≤ℤ_refl key) less)))

whole_sought : (pages : Pages) (root : ℕ) (tree : Tree) → IsWholeTree pages root tree → Sought pages root tree
whole_sought pages root tree whole key least =
    let P : ℕ → Type 0 = λ n. (next : Next) × Seeks most_depth pages key n key n next × MeetsCell next (first_row key (rows_of tree)) in
    let top = (seeks_all pages tree).top most_depth whole.depth (root_of tree) below_all greatest key key whole.shallow whole.level whole.held bounds_rise in
    subst P whole.rooted (top whole.ordered (≤ℤ_refl key) least)

-- the first row is one of them
first_held : (P : Row → Type 0) (key : ℤ) (rows : List Row) (row : Row) → AllByRecursion P rows → first_row key rows ≡ Some row → P row
first_held P key [] row all is = absurd (none_some row is)
  where
    none_some : (row : Row) → ¬ (None ≡ Some row)
    none_some row e = cc
first_held P key (r ∷ rows) row all is = by_le key (rowid r)
    (λ a. subst P (some_once r row (sym (first_here key r rows a) ∙ is)) all.0)
    (λ a. first_held P key rows row all.1 (sym (first_later key r rows a) ∙ is))
  where
    some_once : (a b : Row) → Some a ≡ Some b → a ≡ b
    some_once a b e = cc

meets_first : (pages : Pages) (root : ℕ) (key : ℤ) (rows : List Row) (next : Next) (first : Option Row) → first_row key rows ≡ first → AllByRecursion (HasRow pages) rows
    → NextFrom pages root key next → MeetsCell next first → MeetsRow pages root key first
meets_first pages root key rows next None is held sought meets = subst (λ (n : Next). NextFrom pages root key n) meets sought
meets_first pages root key rows next (Some row) is held sought meets =
    (first_held (HasRow pages) key rows row held is, (meets.0, subst (λ (n : Next). NextFrom pages root key n) meets.1 sought))

pub next_gives : NextGives
next_gives pages root tree key whole least =
    let found = whole_sought pages root tree whole key least in
    meets_first pages root key (rows_of tree) found.0 (first_row key (rows_of tree)) refl (rows_held pages [] tree whole.held) found.1 found.2

pub walk_gives : WalkGives
walk_gives columns pages root tree low high whole accepted above =
    let sought : Sought pages root tree = whole_sought pages root tree whole in
    let passed : Passed columns pages tree low below_all [] (rows_of tree) = record {
      least = lt_le_ℤ _ _ above;
      split = refl;
      past = tt;
      rise = rows_rise pages root tree whole;
      held = rows_held pages [] tree whole.held;
      accepted = accepted;
    } in
    by_le low high
    (λ some. inr (some, walks columns pages root tree sought high low below_all [] (rows_of tree) passed))
    (λ none. inl (none, ap (map shown) (none_between low high (rows_of tree) none), refl))
