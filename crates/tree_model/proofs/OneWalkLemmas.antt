-- A walk gives one list of rows and ends in one way, whatever the pages hold.
use Rattle.std.proofs.Common.{◌≡◌, inl, inr, ℕ, zero, suc, ℤ, pos, ◌+ℤ◌, ◌<ℤ◌, List, [], ◌∷◌, Option, None, refl, sym, ap, ap₂, subst, ◌∙◌}
use Rattle.std.specs.Int.Signed.{≤ℤ_refl, clash_ℤ}
use Rattle.page_list.specs.Pages.{Pages}
use Rattle.tree_page.specs.declared.cell.LeafCell.{LeafCell}
use Rattle.tree_page.specs.declared.cell.InnerCell.{InnerCell}
use Rattle.tree_model.specs.Whole.{below_all, most_depth}
use Rattle.tree_model.specs.Walk.{Fault, Next, Found, Nothing, Meets, in_leaf, first_from, children_from, FirstOf, Seeks, NextFrom, WalkEnd, StopsAt, IsPast, IsLast, IsNext, IsReadable, WalksFrom}
use Rattle.tree_model.specs.Laws.{OneWalk, OneNext}
use Rattle.tree_model.proofs.OneTreeLemmas.{leaf_cells, inner_cells, right_most}
use Rattle.tree_model.proofs.OnePathLemmas.{Known, fault_once, no_fault, same_cells, leaf_not_inner, readable_once, not_both, unreadable_once}

-- a search meets one thing
abbrev pub MeetsOnce : (ℤ → ℕ → Next → Type 0) → Type 0
MeetsOnce Below = (from : ℤ) (child : ℕ) (a b : Next) → Below from child a → Below from child b → a ≡ b

first_once : (left : ℕ) (pages : Pages) (key : ℤ) (page : ℕ) → MeetsOnce (Seeks left pages key page) → (from : ℤ) (children : List ℕ) (a b : Next)
    → FirstOf (Seeks left pages key page) from children a → FirstOf (Seeks left pages key page) from children b → a ≡ b
first_once left pages key page once from [] a b p q = p ∙ sym q
first_once left pages key page once from (child ∷ more) a b (inl p) (inl q) = once from child a b p.0 q.0
first_once left pages key page once from (child ∷ more) a b (inl p) (inr q) = absurd (p.1 (once from child a Nothing p.0 q.0))
first_once left pages key page once from (child ∷ more) a b (inr p) (inl q) = absurd (q.1 (once from child b Nothing q.0 p.0))
first_once left pages key page once from (child ∷ more) a b (inr p) (inr q) = first_once left pages key page once below_all more a b p.1 q.1

pub seeks_once : Known → (left : ℕ) (pages : Pages) (key : ℤ) (above : ℕ) (from : ℤ) (page : ℕ) (a b : Next) → Seeks left pages key above from page a → Seeks left pages key above from page b → a ≡ b
seeks_once known zero pages key above from page a b p q = p.2 ∙ ap (λ (f : Fault). Meets f) (fault_once pages 0 above page p.0 q.0 p.1 q.1) ∙ sym q.2
seeks_once known (suc left) pages key above from page a b (inl p) (inl q) = p.2 ∙ ap (λ (f : Fault). Meets f) (fault_once pages (suc left) above page p.0 q.0 p.1 q.1) ∙ sym q.2
seeks_once known (suc left) pages key above from page a b (inl p) (inr (inl q)) = absurd (no_fault pages left above page _ p.0 q.1 p.1)
seeks_once known (suc left) pages key above from page a b (inl p) (inr (inr q)) = absurd (no_fault pages left above page _ p.0 q.2 p.1)
seeks_once known (suc left) pages key above from page a b (inr (inl p)) (inl q) = absurd (no_fault pages left above page _ q.0 p.1 q.1)
seeks_once known (suc left) pages key above from page a b (inr (inr p)) (inl q) = absurd (no_fault pages left above page _ q.0 p.2 q.1)
seeks_once known (suc left) pages key above from page a b (inr (inl p)) (inr (inl q)) =
    p.2 ∙ ap (λ (cells : List LeafCell). in_leaf page (first_from key cells)) (ap leaf_cells (same_cells known.page pages page _ _ p.1 q.1)) ∙ sym q.2
seeks_once known (suc left) pages key above from page a b (inr (inl p)) (inr (inr q)) = absurd (leaf_not_inner known.page pages page _ _ _ p.1 q.2)
seeks_once known (suc left) pages key above from page a b (inr (inr p)) (inr (inl q)) = absurd (leaf_not_inner known.page pages page _ _ _ q.1 p.2)
seeks_once known (suc left) pages key above from page a b (inr (inr p)) (inr (inr q)) =
    let cells = ap inner_cells (same_cells known.page pages page _ _ p.2 q.2) in
    let rights = ap right_most (same_cells known.page pages page _ _ p.2 q.2) in
    let P : List ℕ → Type 0 = λ children. FirstOf (Seeks left pages key page) from children b in
    first_once left pages key page (λ from child a b. seeks_once known left pages key page from child a b) from (children_from from p.0 p.1) a b p.3
    (subst P (sym (ap₂ (λ (c : List InnerCell) (r : ℕ). children_from from c r) cells rights)) q.3)

next_once : Known → (pages : Pages) (root : ℕ) (key : ℤ) (a b : Next) → NextFrom pages root key a → NextFrom pages root key b → a ≡ b
next_once known pages root key a b p q = seeks_once known most_depth pages key root key root a b p q

past_once : Known → (pages : Pages) (leaf : ℕ) (cell : LeafCell) (a b : WalkEnd) → IsPast pages leaf cell a → IsPast pages leaf cell b → a ≡ b
past_once known pages leaf cell a b (inl p) (inl q) = p.2 ∙ sym q.2
past_once known pages leaf cell a b (inl p) (inr q) = absurd (not_both known None pages leaf cell p.0 q.0 p.1 q.1)
past_once known pages leaf cell a b (inr p) (inl q) = absurd (not_both known None pages leaf cell q.0 p.0 q.1 p.1)
past_once known pages leaf cell a b (inr p) (inr q) = p.2 ∙ ap (λ (f : Fault). StopsAt f) (unreadable_once known None pages leaf cell p.0 q.0 p.1 q.1) ∙ sym q.2

last_once : Known → (columns : Option ℕ) (pages : Pages) (high : ℤ) (next : Next) (a b : WalkEnd) → IsLast columns pages high next a → IsLast columns pages high next b → a ≡ b
last_once known columns pages high Nothing a b p q = p ∙ sym q
last_once known columns pages high (Meets fault) a b p q = p ∙ sym q
last_once known columns pages high (Found leaf cell) a b (inl p) (inl q) = past_once known pages leaf cell a b p.1 q.1
last_once known columns pages high (Found leaf cell) a b (inl p) (inr q) = clash_ℤ p.0 q.0
last_once known columns pages high (Found leaf cell) a b (inr p) (inl q) = clash_ℤ q.0 p.0
last_once known columns pages high (Found leaf cell) a b (inr p) (inr q) = p.1.2 ∙ ap (λ (f : Fault). StopsAt f) (unreadable_once known columns pages leaf cell p.1.0 q.1.0 p.1.1 q.1.1) ∙ sym q.1.2

-- where a row follows, the walk does not end
not_last : Known → (columns : Option ℕ) (pages : Pages) (root : ℕ) (high key : ℤ) (row : ℤ × List ℕ) (next : Next) (end : WalkEnd) → IsNext columns pages root high key row
    → NextFrom pages root key next → IsLast columns pages high next end → ⊥
not_last known columns pages root high key row next end is_next sought last =
    let P : Next → Type 0 = λ n. IsLast columns pages high n end in
    elim (subst P (next_once known pages root key next (Found is_next.leaf is_next.cell) sought is_next.sought) last) [
      | inl over ↦ clash_ℤ over.0 is_next.within
      | inr stops ↦ not_both known columns pages is_next.leaf is_next.cell row.1 stops.1.0 is_next.readable stops.1.1
    ]

found_cell : Next → LeafCell → LeafCell
found_cell (Found leaf cell) other = cell
found_cell Nothing other = other
found_cell (Meets fault) other = other

row_once : Known → (columns : Option ℕ) (pages : Pages) (root : ℕ) (high key : ℤ) (row other : ℤ × List ℕ) → IsNext columns pages root high key row → IsNext columns pages root high key other → row ≡ other
row_once known columns pages root high key row other a b =
    let found = next_once known pages root key (Found a.leaf a.cell) (Found b.leaf b.cell) a.sought b.sought in
    let cells : a.cell ≡ b.cell = cell_of a.leaf b.leaf a.cell b.cell found in
    let P : LeafCell → Type 0 = λ c. IsReadable columns pages c other.1 in
    ap₂ (λ (k : ℤ) (p : List ℕ). (k, p)) (a.keyed ∙ ap (λ (c : LeafCell). c.rowid) cells ∙ sym b.keyed) (readable_once known columns pages a.cell row.1 other.1 a.readable (subst P (sym cells) b.readable))
  where
    cell_of : (leaf leaf' : ℕ) (cell cell' : LeafCell) → Found leaf cell ≡ Found leaf' cell' → cell ≡ cell'
    cell_of leaf leaf' cell cell' e = cc

walks_once : Known → (columns : Option ℕ) (pages : Pages) (root : ℕ) (high key : ℤ) (rows more : List (ℤ × List ℕ)) (a b : WalkEnd)
    → WalksFrom columns pages root high key rows a → WalksFrom columns pages root high key more b → (rows ≡ more) × (a ≡ b)
walks_once known columns pages root high key [] [] a b p q =
    let P : Next → Type 0 = λ n. IsLast columns pages high n b in
    (refl, last_once known columns pages high p.0 a b p.2 (subst P (next_once known pages root key q.0 p.0 q.1 p.1) q.2))
walks_once known columns pages root high key [] (row ∷ more) a b p q = absurd (not_last known columns pages root high key row p.0 a q.0 p.1 p.2)
walks_once known columns pages root high key (row ∷ rows) [] a b p q = absurd (not_last known columns pages root high key row q.0 b p.0 q.1 q.2)
walks_once known columns pages root high key (row ∷ rows) (other ∷ more) a b (here, inl p) (here', inl q) =
    let same = row_once known columns pages root high key row other here here' in
    (ap₂ (λ (r : ℤ × List ℕ) (l : List (ℤ × List ℕ)). r ∷ l) same (p.1 ∙ sym q.1), p.2 ∙ sym q.2)
walks_once known columns pages root high key (row ∷ rows) (other ∷ more) a b (here, inl p) (here', inr q) =
    let same = ap (λ (r : ℤ × List ℕ). r.0) (row_once known columns pages root high key row other here here') in
    let P : ℤ → Type 0 = λ z. z <ℤ high in
    clash_ℤ (subst P (sym same ∙ p.0) q.0) (≤ℤ_refl high)
walks_once known columns pages root high key (row ∷ rows) (other ∷ more) a b (here, inr p) (here', inl q) =
    let same = ap (λ (r : ℤ × List ℕ). r.0) (row_once known columns pages root high key row other here here') in
    let P : ℤ → Type 0 = λ z. z <ℤ high in
    clash_ℤ (subst P (same ∙ q.0) p.0) (≤ℤ_refl high)
walks_once known columns pages root high key (row ∷ rows) (other ∷ more) a b (here, inr p) (here', inr q) =
    let same = row_once known columns pages root high key row other here here' in
    let P : ℤ → Type 0 = λ z. WalksFrom columns pages root high (z +ℤ pos 1) more b in
    let rest = walks_once known columns pages root high (row.0 +ℤ pos 1) rows more a b p.1 (subst P (sym (ap (λ (r : ℤ × List ℕ). r.0) same)) q.1) in
    (ap₂ (λ (r : ℤ × List ℕ) (l : List (ℤ × List ℕ)). r ∷ l) same rest.0, rest.1)

pub one_walk : Known → OneWalk
one_walk known columns pages root low high rows more a b (inl p) (inl q) = (p.1 ∙ sym q.1, p.2 ∙ sym q.2)
one_walk known columns pages root low high rows more a b (inl p) (inr q) = clash_ℤ p.0 q.0
one_walk known columns pages root low high rows more a b (inr p) (inl q) = clash_ℤ q.0 p.0
one_walk known columns pages root low high rows more a b (inr p) (inr q) = walks_once known columns pages root high low rows more a b p.1 q.1

pub one_next : Known → OneNext
one_next known = record { once = next_once known; read_once = readable_once known; not_both = not_both known }
