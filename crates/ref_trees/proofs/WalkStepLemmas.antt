-- Walks: searches for the next row, and the rows that they give.
use Rattle.std.proofs.Common.{◌≡◌, ℕ, zero, suc, ◌≤◌, ◌<◌, true, ℤ, pos, negsuc, ◌+ℤ◌, ◌≤ℤ◌, ◌<ℤ◌, int_le, List, [], ◌∷◌, ◌++◌, Option, None, Some, inl, inr, refl, sym, ap, ◌∙◌, subst, append_assoc, SFits, w64, arith, rules}
use Rattle.std.proofs.lemmas.Int.{ints}
use Rattle.std.specs.Int.{int_gap}
use Rattle.std.specs.Int.Signed.{lt_z}
use borrow.Author.Gap.{up_fits}
use Rattle.std.proofs.lemmas.List.{append-nil}
use Rattle.page_list.specs.Pages.{Pages}
use Rattle.tree_page.specs.declared.cell.LeafCell.{LeafCell}
use Rattle.tree_page.specs.declared.cell.InnerCell.{InnerCell}
use Rattle.tree_page.specs.declared.cell.PageCells.TheVariants.{Leaf as LeafPage, Interior as InteriorPage}
use Rattle.tree_model.specs.Whole.{most_depth}
use Rattle.tree_model.specs.Held.{HasCells}
use Rattle.tree_model.specs.declared.ends.Fault.{Fault}
use Rattle.tree_model.specs.declared.ends.Next.{Next}
use Rattle.tree_model.specs.declared.ends.Next.TheVariants.{Found, Nothing, Meets}
use Rattle.tree_model.specs.declared.ends.WalkEnd.{WalkEnd}
use Rattle.tree_model.specs.declared.ends.WalkEnd.TheVariants.{End, StopsAt}
use Rattle.tree_model.specs.Walk.{IsUnreadable, IsReadable, IsNext, IsPast, WalksFrom, Walk, first_from, in_leaf, children_from}
use Rattle.ref_trees.specs.Steps.{HasSought, HasFirst, IsBehind, GivesRow, EndsWalk, HasGone}
use Rattle.ref_trees.proofs.KeptLemmas.{cells_kept, first_has}

-- ---- searches

le_from : (a b : ℤ) → int_le a b ≡ true → a ≤ℤ b
le_from a b h = search rules

-- what is found on a leaf is not before the key
behind_leaf : (pages : Pages) (page : ℕ) (key : ℤ) (cells : List LeafCell) (found : Option LeafCell) → HasCells pages page (LeafPage cells)
    → first_from key cells ≡ found → IsBehind key (in_leaf page found)
behind_leaf pages page key cells None has is = tt
behind_leaf pages page key cells (Some cell) has is =
    let found = first_has key cells cell (cells_kept pages page cells has) is in (le_from key cell.rowid found.1, found.0)

pub sought_leaf : (left : ℕ) (pages : Pages) (key : ℤ) (above : ℕ) (from : ℤ) (page : ℕ) (cells : List LeafCell) (next : Next) → 1 ≤ left
    → HasCells pages page (LeafPage cells) → next ≡ in_leaf page (first_from key cells) → HasSought left pages key above from page next
sought_leaf zero pages key above from page cells next some has is = absurd (omega arith)
sought_leaf (suc left) pages key above from page cells next some has is = record {
  seeks = inr (inl (cells, has, is));
  behind = subst (λ (n : Next). IsBehind key n) (sym is) (behind_leaf pages page key cells (first_from key cells) has refl);
}

pub sought_below : (left more : ℕ) (pages : Pages) (key : ℤ) (above : ℕ) (from : ℤ) (page : ℕ) (cells : List InnerCell) (right : ℕ) (next : Next) → left ≡ suc more
    → HasCells pages page (InteriorPage cells right) → HasFirst more pages key page from (children_from from cells right) next
    → HasSought left pages key above from page next
sought_below left more pages key above from page cells right next is has below =
    let P : ℕ → Type 0 = λ n. HasSought n pages key above from page next in
    subst P (sym is) (record { seeks = inr (inr (cells, right, has, below.first)); behind = below.behind })

-- ---- one step

pub ends_nothing : (columns : Option ℕ) (pages : Pages) (root : ℕ) (high key : ℤ) (next : Next) → HasSought most_depth pages key root key root next → next ≡ Nothing
    → EndsWalk columns pages root high key End
ends_nothing columns pages root high key next sought is = record {
  next = Nothing;
  sought = let P : Next → Type 0 = λ n. HasSought most_depth pages key root key root n in subst P is sought;
  last = refl;
}

pub ends_fault : (columns : Option ℕ) (pages : Pages) (root : ℕ) (high key : ℤ) (next : Next) (fault : Fault) → HasSought most_depth pages key root key root next
    → next ≡ Meets fault → EndsWalk columns pages root high key (StopsAt fault)
ends_fault columns pages root high key next fault sought is = record {
  next = Meets fault;
  sought = let P : Next → Type 0 = λ n. HasSought most_depth pages key root key root n in subst P is sought;
  last = refl;
}

pub ends_above : (columns : Option ℕ) (pages : Pages) (root : ℕ) (high key : ℤ) (next : Next) (leaf : ℕ) (cell : LeafCell)
    → HasSought most_depth pages key root key root next → next ≡ Found leaf cell → high <ℤ cell.rowid → (end : WalkEnd) → IsPast pages leaf cell end → EndsWalk columns pages root high key end
ends_above columns pages root high key next leaf cell sought is above end past = record {
  next = Found leaf cell;
  sought = let P : Next → Type 0 = λ n. HasSought most_depth pages key root key root n in subst P is sought;
  last = inl (above, past);
}

pub ends_unreadable : (columns : Option ℕ) (pages : Pages) (root : ℕ) (high key : ℤ) (next : Next) (leaf : ℕ) (cell : LeafCell) (fault : Fault)
    → HasSought most_depth pages key root key root next → next ≡ Found leaf cell → cell.rowid ≤ℤ high → IsUnreadable columns pages leaf cell fault
    → EndsWalk columns pages root high key (StopsAt fault)
ends_unreadable columns pages root high key next leaf cell fault sought is within unreadable = record {
  next = Found leaf cell;
  sought = let P : Next → Type 0 = λ n. HasSought most_depth pages key root key root n in subst P is sought;
  last = inr (within, (fault, unreadable, refl));
}

pub gives_row : (columns : Option ℕ) (pages : Pages) (root : ℕ) (high key : ℤ) (next : Next) (leaf : ℕ) (cell : LeafCell) (rowid : ℤ) (payload : List ℕ)
    → HasSought most_depth pages key root key root next → next ≡ Found leaf cell → rowid ≡ cell.rowid → cell.rowid ≤ℤ high
    → IsReadable columns pages cell payload → GivesRow columns pages root high key rowid payload
gives_row columns pages root high key next leaf cell rowid payload sought is keyed within readable = record {
  leaf = leaf;
  cell = cell;
  sought = let P : Next → Type 0 = λ n. HasSought most_depth pages key root key root n in subst P is sought;
  keyed = keyed;
  within = within;
  readable = readable;
}

-- ---- all of them

is_next : (columns : Option ℕ) (pages : Pages) (root : ℕ) (high key rowid : ℤ) (payload : List ℕ) → GivesRow columns pages root high key rowid payload
    → IsNext columns pages root high key (rowid, payload)
is_next columns pages root high key rowid payload row = record {
  leaf = row.leaf;
  cell = row.cell;
  sought = row.sought.seeks;
  keyed = row.keyed;
  within = row.within;
  readable = row.readable;
}

pub gone_none : (columns : Option ℕ) (pages : Pages) (root : ℕ) (low high : ℤ) → HasGone columns pages root low high [] low
gone_none columns pages root low high = record {
  none = λ _. (refl, refl);
  on = λ more end within walks. inr (within, walks);
}

-- the rows and one more, and others
one_more : (rows more : List (ℤ × List ℕ)) (row : ℤ × List ℕ) (longer : List (ℤ × List ℕ)) → longer ≡ rows ++ row ∷ [] → rows ++ row ∷ more ≡ longer ++ more
one_more rows more row longer is = sym (ap (λ (l : List (ℤ × List ℕ)). l ++ more) is ∙ append_assoc rows (row ∷ []) more)

pub gone_row : (columns : Option ℕ) (pages : Pages) (root : ℕ) (low high : ℤ) (rows longer : List (ℤ × List ℕ)) (key rowid next : ℤ) (payload : List ℕ)
    → HasGone columns pages root low high rows key → key ≤ℤ high → GivesRow columns pages root high key rowid payload → rowid <ℤ high
    → longer ≡ rows ++ (rowid, payload) ∷ [] → next ≡ rowid +ℤ pos 1 → HasGone columns pages root low high longer next
gone_row columns pages root low high rows longer key rowid next payload gone within row below is next_is = record {
  none = λ above. absurd (omega (arith, ints));
  on = λ more end _ walks.
      let P : List (ℤ × List ℕ) → Type 0 = λ l. Walk columns pages root low high l end in
      let Q : ℤ → Type 0 = λ k. WalksFrom columns pages root high k more end in
      subst P (one_more rows more (rowid, payload) longer is)
      (gone.on ((rowid, payload) ∷ more) end within (is_next columns pages root high key rowid payload row, inr (below, subst Q next_is walks)));
}

pub gone_last : (columns : Option ℕ) (pages : Pages) (root : ℕ) (low high : ℤ) (rows longer : List (ℤ × List ℕ)) (key rowid : ℤ) (payload : List ℕ)
    → HasGone columns pages root low high rows key → key ≤ℤ high → GivesRow columns pages root high key rowid payload → high ≤ℤ rowid
    → longer ≡ rows ++ (rowid, payload) ∷ [] → Walk columns pages root low high longer End
gone_last columns pages root low high rows longer key rowid payload gone within row last is =
    let P : List (ℤ × List ℕ) → Type 0 = λ l. Walk columns pages root low high l End in
    let top : rowid ≡ high = omega (arith, ints, row.keyed, row.within) in
    subst P (sym is) (gone.on ((rowid, payload) ∷ []) End within (is_next columns pages root high key rowid payload row, inl (top, refl, refl)))

pub gone_end : (columns : Option ℕ) (pages : Pages) (root : ℕ) (low high : ℤ) (rows : List (ℤ × List ℕ)) (key : ℤ) (end : WalkEnd)
    → HasGone columns pages root low high rows key → key ≤ℤ high → EndsWalk columns pages root high key end → Walk columns pages root low high rows end
gone_end columns pages root low high rows key end gone within ends =
    let P : List (ℤ × List ℕ) → Type 0 = λ l. Walk columns pages root low high l end in
    subst P (append-nil rows) (gone.on [] end within (ends.next, ends.sought.seeks, ends.last))

pub gone_over : (columns : Option ℕ) (pages : Pages) (root : ℕ) (low high : ℤ) (rows : List (ℤ × List ℕ)) (key : ℤ)
    → HasGone columns pages root low high rows key → high <ℤ key → Walk columns pages root low high rows End
gone_over columns pages root low high rows key gone over =
    let none = gone.none over in
    inl (subst (λ (k : ℤ). high <ℤ k) none.1 over, none.0, refl)

-- ---- the measure: how far the key is below the highest rowid

gap_is : (a b : ℤ) → a ≤ℤ b → a +ℤ pos (int_gap a b) ≡ b
gap_is (pos a) (pos b) h = omega (arith, ints)
gap_is (pos a) (negsuc b) h = absurd (omega (arith, ints))
gap_is (negsuc a) (pos b) h = omega (arith, ints)
gap_is (negsuc a) (negsuc b) h = omega (arith, ints)

pub gap_falls : (key rowid next high : ℤ) → key ≤ℤ rowid → rowid <ℤ high → next ≡ rowid +ℤ pos 1 → int_gap next high < int_gap key high
gap_falls key rowid next high behind below is =
    let new = gap_is next high (omega (arith, ints)) in
    let old = gap_is key high (omega (arith, ints)) in
    omega (arith, ints)

less : (a b : ℤ) → a <ℤ b → lt_z a b ≡ true
less a b h = search rules

-- below another rowid there is a next one
pub next_fits : (rowid high : ℤ) → SFits w64 rowid → SFits w64 high → rowid <ℤ high → SFits w64 (rowid +ℤ pos 1)
next_fits rowid high f g below = up_fits w64 rowid high (less rowid high below) f g
