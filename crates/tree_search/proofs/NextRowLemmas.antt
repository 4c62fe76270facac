-- The next row, and what it is in a whole tree.
use Rattle.std.proofs.Common.{◌≡◌, ℕ, ℤ, ◌≤ℤ◌, List, Option, None, Some, IsTrue, inl, inr, refl, ap, ap₂, subst, ◌∙◌}
use Rattle.std.specs.Option.{option_map}
use Rattle.page_list.specs.Pages.{Pages}
use Rattle.page_pool.specs.Space.{SpaceState, Steady, Stays}
use Rattle.db_format.specs.declared.fault.SpaceFault.{SpaceFault}
use Rattle.db_format.specs.declared.fault.SpaceFault.TheVariants.{Failed, Memory, Bad, Corrupt, Large}
use Rattle.tree_page.specs.declared.cell.LeafCell.{LeafCell}
use Rattle.tree_model.specs.declared.ends.Fault.{Fault}
use Rattle.tree_model.specs.declared.ends.Fault.TheVariants.{BadPage, Broken}
use Rattle.tree_model.specs.declared.ends.Next.TheVariants.{Found, Nothing, Meets}
use Rattle.tree_model.specs.Tree.{Row, Tree, rows_of}
use Rattle.tree_model.specs.Held.{HasRow}
use Rattle.tree_model.specs.Whole.{below_all, most_depth, IsWholeTree}
use Rattle.tree_model.specs.Walk.{IsReadable, IsUnreadable}
use Rattle.tree_model.specs.Laws.{first_row, shown, OneNext, MeetsRow, NextGives}
use Rattle.tree_search.specs.declared.row.OnLeaf.{OnLeaf}
use Rattle.tree_search.specs.Search.{NextIs, NextOnLeaf, NextMeets, shown_of, SearchRefused, IsNoDamage}
use Rattle.tree_search.specs.Steps.{HasSought}
use Rattle.tree_search.proofs.StateLemmas.{refused_on, refused_as}

-- ---- what was refused

pub way_refused : (old new : SpaceState) (root : ℕ) (from : ℤ) (fault : SpaceFault) → SearchRefused old new (λ f. HasSought most_depth old.pages from root from root (Meets f)) fault
    → SearchRefused old new (NextMeets old.pages root from) fault
way_refused old new root from fault refused =
    refused_as old new (λ f. HasSought most_depth old.pages from root from root (Meets f)) (NextMeets old.pages root from) fault (λ t f sought. inl sought.seeks) refused

pub payload_refused : (old mid new : SpaceState) (root : ℕ) (from : ℤ) (leaf : ℕ) (cell : LeafCell) (fault : SpaceFault) → Steady old mid → Stays old mid
    → (IsTrue old.tells → HasSought most_depth old.pages from root from root (Found leaf cell)) → SearchRefused mid new (IsUnreadable None mid.pages leaf cell) fault
    → SearchRefused old new (NextMeets old.pages root from) fault
payload_refused old mid new root from leaf cell fault steady stays sought refused =
    refused_as old new (IsUnreadable None old.pages leaf cell) (NextMeets old.pages root from) fault
    (λ t f unreadable. inr (record { leaf = leaf; cell = cell; sought = (sought t).seeks; unreadable = unreadable }))
    (refused_on old mid new (λ p. IsUnreadable None p leaf cell) fault steady stays refused)

-- ---- a row without its leaf

pub next_is : (pages : Pages) (root : ℕ) (from : ℤ) (row : Option OnLeaf) → NextOnLeaf pages root from row → NextIs pages root from (option_map shown_of row)
next_is pages root from None sought = sought
next_is pages root from (Some row) finds = record { leaf = row.leaf; cell = finds.cell; sought = finds.sought; keyed = finds.keyed; readable = finds.readable }

-- ---- in a whole tree

found_cell : (leaf leaf' : ℕ) (cell cell' : LeafCell) → Found leaf cell ≡ Found leaf' cell' → cell ≡ cell'
found_cell leaf leaf' cell cell' e = cc

readable : (pages : Pages) (row : Row) → HasRow pages row → IsReadable None pages row.cell row.payload
readable pages row has = record { chain = row.chain; has_row = has; accepted = tt }

first_met : OneNext → (pages : Pages) (root : ℕ) (from : ℤ) (next : Option OnLeaf) (first : Option Row) → MeetsRow pages root from first → NextOnLeaf pages root from next
    → option_map shown_of next ≡ option_map shown first
first_met one pages root from None None meets sought = refl
first_met one pages root from None (Some row) meets sought =
    let same = one.once pages root from Nothing (Found meets.1.0 row.cell) sought meets.1.1 in cc
first_met one pages root from (Some found) None meets read =
    let same = one.once pages root from Nothing (Found found.leaf read.cell) meets read.sought in cc
first_met one pages root from (Some found) (Some row) meets read =
    let cells = found_cell found.leaf meets.1.0 read.cell row.cell (one.once pages root from (Found found.leaf read.cell) (Found meets.1.0 row.cell) read.sought meets.1.1) in
    let P : LeafCell → Type 0 = λ c. IsReadable None pages c found.payload in
    let payloads = one.read_once None pages row.cell found.payload row.payload (subst P cells read.readable) (readable pages row meets.0) in
    ap₂ (λ (k : ℤ) (p : List ℕ). Some (k, p)) (read.keyed ∙ ap (λ (c : LeafCell). c.rowid) cells) payloads

pub whole_next : OneNext → NextGives → (pages : Pages) (root : ℕ) (from : ℤ) (next : Option OnLeaf) → below_all ≤ℤ from → NextOnLeaf pages root from next
    → (tree : Tree) → IsWholeTree pages root tree → option_map shown_of next ≡ option_map shown (first_row from (rows_of tree))
whole_next one gives pages root from next least sought tree whole =
    first_met one pages root from next (first_row from (rows_of tree)) (gives pages root tree from whole least) sought

never_fails : OneNext → (pages : Pages) (root : ℕ) (from : ℤ) (fault : Fault) (first : Option Row) → MeetsRow pages root from first → ¬ (NextMeets pages root from fault)
never_fails one pages root from fault None meets (inl sought) =
    let same = one.once pages root from Nothing (Meets fault) meets sought in cc
never_fails one pages root from fault None meets (inr fails) =
    let same = one.once pages root from Nothing (Found fails.leaf fails.cell) meets fails.sought in cc
never_fails one pages root from fault (Some row) meets (inl sought) =
    let same = one.once pages root from (Found meets.1.0 row.cell) (Meets fault) meets.1.1 sought in cc
never_fails one pages root from fault (Some row) meets (inr fails) =
    let cells = found_cell fails.leaf meets.1.0 fails.cell row.cell (one.once pages root from (Found fails.leaf fails.cell) (Found meets.1.0 row.cell) fails.sought meets.1.1) in
    let P : LeafCell → Type 0 = λ c. IsUnreadable None pages fails.leaf c fault in
    one.not_both None pages fails.leaf row.cell row.payload fault (readable pages row meets.0) (subst P cells fails.unreadable)

pub next_clean : OneNext → NextGives → (old new : SpaceState) (root : ℕ) (from : ℤ) (fault : SpaceFault) → IsTrue old.tells → below_all ≤ℤ from
    → SearchRefused old new (NextMeets old.pages root from) fault → (tree : Tree) → IsWholeTree old.pages root tree → IsNoDamage fault
next_clean one gives old new root from Failed t least refused tree whole = tt
next_clean one gives old new root from Memory t least refused tree whole = tt
next_clean one gives old new root from (Bad page kept found) t least refused tree whole =
    never_fails one old.pages root from (BadPage page) (first_row from (rows_of tree)) (gives old.pages root tree from whole least) (refused.1 t)
next_clean one gives old new root from (Corrupt page) t least refused tree whole =
    never_fails one old.pages root from (Broken page) (first_row from (rows_of tree)) (gives old.pages root tree from whole least) (refused t)
next_clean one gives old new root from (Large pages) t least refused tree whole = tt
