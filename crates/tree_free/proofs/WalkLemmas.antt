-- What a walk over a tree comes over, and why it is refused, from one state of the space to the next.
use Rattle.std.proofs.Common.{◌≡◌, inl, inr, ℕ, zero, suc, ◌+◌, ◌≤◌, ◌<◌, List, [], ◌∷◌, ◌++◌, length, take, drop, get_or, IsTrue, refl, sym, ap, subst, ◌∙◌, arith, drop-cons, add-one, length-append, length-drop}
use Rattle.std.proofs.lemmas.List.{take-append-drop, take_more, length-take-le}
use Rattle.std.specs.List.{AllByRecursion}
use Rattle.std.specs.BTreeSet.{BTreeSet}
use Rattle.db_format.specs.declared.fault.SpaceFault.{SpaceFault}
use Rattle.page_list.specs.Pages.{Pages, Among}
use Rattle.page_list.specs.Chain.{IsChain, OneChain, pages_needed}
use Rattle.page_list.proofs.TimesLemmas.{among-here, among-cons}
use Rattle.page_pool.specs.Space.{SpaceState, Steady, Stays}
use Rattle.payload_chain.specs.Chains.{HasEach, HasPages}
use Rattle.payload_chain.proofs.StateLemmas.{each-later}
use Rattle.tree_page.specs.Page.{OnePage}
use Rattle.tree_page.specs.declared.cell.LeafCell.{LeafCell}
use Rattle.tree_page.specs.declared.cell.InnerCell.{InnerCell}
use Rattle.tree_page.specs.declared.cell.PageCells.TheVariants.{Leaf as LeafPage, Interior as InteriorPage}
use Rattle.tree_model.specs.Tree.{Row, Leaf, pages_of}
use Rattle.tree_model.specs.Held.{HasCells, HasRow, Holds}
use Rattle.tree_model.specs.Walk.{IsFault, all_children, rest_of}
use Rattle.tree_model.specs.declared.ends.Fault.{Fault}
use Rattle.tree_search.specs.Search.{SearchRefused}
use Rattle.tree_search.proofs.StateLemmas.{refused_on, refused_as}
use Rattle.tree_free.specs.Free.{IsShallow, ChainMeets, TreeMeets}
use Rattle.tree_free.specs.declared.collect.Collected.{Collected}
use Rattle.tree_free.specs.Steps.{met_in, MeetRefused, GoneOver, WalkMeets, LeafGone, LeafMeets, ChildrenGone, ChildrenMeet}
use Rattle.tree_free.proofs.MetLemmas.{meets_refused}
use Rattle.tree_free.proofs.RowLemmas.{row_twice, leaf_shared}
use Rattle.tree_free.proofs.ChildLemmas.{child_twice, last_twice}

-- a list at one of its places
pub split_list : {A : Type 0} (s : List A) (i : ℕ) (x : A) → i < length s → x ≡ get_or s i x → s ≡ take i s ++ x ∷ drop (i + 1) s
split_list s i x within is =
    sym (take-append-drop i s)
    ∙ ap (λ (l : List _). take i s ++ l) (drop-cons s i x within ∙ ap (λ (y : _). y ∷ drop (suc i) s) (sym is) ∙ ap (λ (n : ℕ). x ∷ drop n s) (sym (add-one i)))

pub front_more : {A : Type 0} (s : List A) (i : ℕ) (x : A) → i < length s → x ≡ get_or s i x → take i s ++ x ∷ [] ≡ take (i + 1) s
front_more s i x within is = ap (λ (y : _). take i s ++ y ∷ []) is ∙ sym (take_more s i x within)

-- a buffer that was lent as a slice is as long as before
pub long_back : (len : ℕ) (now was : List ℕ) → length was ≡ len → length (take len (now ++ drop (length now) was)) ≡ length was
long_back len now was is =
    length-take-le len (now ++ drop (length now) was) (omega (arith, length-append now (drop (length now) was), length-drop (length now) was, is)) ∙ sym is

-- ---- from a state in which nothing has changed

each_on : {old mid : SpaceState} {numbers : List ℕ} → Stays old mid → HasEach mid.pages numbers → HasEach old.pages numbers
each_on {old = old} {mid = mid} {numbers = numbers} stays has = each-later mid.pages old.pages numbers (omega (arith, stays.number)) has

pub has_pages_on : {old mid : SpaceState} {first len : ℕ} {numbers : List ℕ} → Steady old mid → Stays old mid → HasPages mid first len numbers → HasPages old first len numbers
has_pages_on {first = first} {len = len} {numbers = numbers} steady stays has = record {
  there = each_on stays has.there;
  enough = has.enough ∙ ap (λ (u : ℕ). pages_needed u len) steady.used;
  payload = has.payload;
  long = has.long;
  chain = λ t. let P : Pages → Type 0 = λ p. IsChain p first numbers has.payload in subst P (stays.pages_stay t) (has.chain (steady.told ∙ t));
}

pub gone_on : {old mid : SpaceState} {left page : ℕ} {walk new : Collected} → Steady old mid → Stays old mid → GoneOver mid left page walk new → GoneOver old left page walk new
gone_on steady stays gone = record {
  tree = gone.tree;
  rooted = gone.rooted;
  shallow = gone.shallow;
  grown = gone.grown;
  there = each_on stays gone.there;
  held = λ t. let P : Pages → Type 0 = λ p. Holds p gone.tree in subst P (stays.pages_stay t) (gone.held (steady.told ∙ t));
}

-- ---- a leaf

leaf_shallow : (left page : ℕ) (rows : List Row) → 1 ≤ left → IsShallow left (Leaf page rows)
leaf_shallow zero page rows some = absurd (omega (arith, some))
leaf_shallow (suc left) page rows some = tt

pub leaf_over : {old mid : SpaceState} {page : ℕ} {cells : List LeafCell} {at new : Collected} (left : ℕ) (walk : Collected) → Steady old mid → Stays old mid → 1 ≤ left
    → (IsTrue old.tells → HasCells old.pages page (LeafPage cells)) → at.numbers.items ≡ walk.numbers.items → at.met ≡ walk.met → length at.buffer.items ≡ length walk.buffer.items
    → LeafGone mid page cells at new → GoneOver old left page walk new
leaf_over {old = old} {page = page} {cells = cells} {at = at} left walk steady stays some has numbers met long gone =
    let all : List ℕ = pages_of (Leaf page gone.rows) in
    let C : List LeafCell → Type 0 = λ l. HasCells old.pages page (LeafPage l) in
    record {
      tree = Leaf page gone.rows;
      rooted = refl;
      shallow = leaf_shallow left page gone.rows some;
      grown = record {
        behind = gone.grown.behind ∙ ap (λ (l : List ℕ). l ++ all) numbers;
        met_more = record { each = λ n. omega (arith, gone.grown.met_more.each n, ap (λ (m : BTreeSet ℕ). met_in m n) met) };
        as_long = gone.grown.as_long ∙ long;
      };
      there = each_on stays gone.there;
      held = λ t.
          let P : Pages → Type 0 = λ p. AllByRecursion (HasRow p) gone.rows in
          (refl, subst C (sym gone.cells_are) (has t), subst P (stays.pages_stay t) (gone.held (steady.told ∙ t)));
    }

pub cell_refused : (old mid new : SpaceState) (page : ℕ) (cells front : List LeafCell) (cell : LeafCell) (back : List LeafCell) (met : BTreeSet ℕ) (fault : SpaceFault)
    → Steady old mid → Stays old mid → cells ≡ front ++ cell ∷ back → SearchRefused mid new (ChainMeets mid.pages page cell) fault
    → SearchRefused old new (LeafMeets old.pages page cells met) fault
cell_refused old mid new page cells front cell back met fault steady stays are refused =
    refused_as old new (ChainMeets old.pages page cell) (LeafMeets old.pages page cells met) fault
    (λ t f meets. inl (record { cell = cell; before = front; behind = back; among = are; meets = meets }))
    (refused_on old mid new (λ p. ChainMeets p page cell) fault steady stays refused)

pub chain_refused : OneChain → {old mid : SpaceState} {page : ℕ} {front : List LeafCell} {walk at : Collected} (new : SpaceState) (cells : List LeafCell) (cell : LeafCell)
    (back : List LeafCell) (numbers : List ℕ) (fault : SpaceFault) → Steady old mid → Stays old mid → LeafGone old page front walk at → cells ≡ front ++ cell ∷ back
    → HasPages mid cell.overflow (rest_of cell) numbers → length cell.local ≤ cell.payload_len → MeetRefused at.met numbers fault
    → SearchRefused old new (LeafMeets old.pages page cells walk.met) fault
chain_refused one {old = old} {page = page} {walk = walk} {at = at} new cells cell back numbers fault steady stays gone are has kept refused =
    meets_refused old new (LeafMeets old.pages page cells walk.met) at.met numbers fault
    (λ t n some two. inr (row_twice one cells cell back numbers n t gone are (has_pages_on steady stays has) kept some two)) refused

leaf_meets : OnePage → (pages : Pages) (left above page : ℕ) (cells : List LeafCell) (met : BTreeSet ℕ) (fault : Fault) → 1 ≤ left → HasCells pages page (LeafPage cells)
    → LeafMeets pages page cells met fault → WalkMeets left pages above page met fault
leaf_meets one pages zero above page cells met fault some has meets = absurd (omega (arith, some))
leaf_meets one pages (suc left) above page cells met fault some has (inl m) =
    record { meets = inl (inr (inl (cells, m.cell, m.before, m.behind, has, m.among, m.meets))) }
leaf_meets one pages (suc left) above page cells met fault some has (inr twice) = record { meets = inr (leaf_shared one pages page cells met fault has twice) }

pub leaf_refused : OnePage → (old mid new : SpaceState) (left above page : ℕ) (cells : List LeafCell) (met : BTreeSet ℕ) (fault : SpaceFault) → Steady old mid → Stays old mid
    → 1 ≤ left → (IsTrue old.tells → HasCells old.pages page (LeafPage cells)) → SearchRefused mid new (LeafMeets mid.pages page cells met) fault
    → SearchRefused old new (WalkMeets left old.pages above page met) fault
leaf_refused one old mid new left above page cells met fault steady stays some has refused =
    refused_as old new (LeafMeets old.pages page cells met) (WalkMeets left old.pages above page met) fault
    (λ t f meets. leaf_meets one old.pages left above page cells met f some (has t) meets)
    (refused_on old mid new (λ p. LeafMeets p page cells met) fault steady stays refused)

-- ---- one page

tree_fault : (left : ℕ) (pages : Pages) (above page : ℕ) (fault : Fault) → IsFault pages left above page fault → TreeMeets left pages above page fault
tree_fault zero pages above page fault is = is
tree_fault (suc left) pages above page fault is = inl is

pub page_refused : (old new : SpaceState) (left above page : ℕ) (met : BTreeSet ℕ) (fault : SpaceFault) → SearchRefused old new (IsFault old.pages left above page) fault
    → SearchRefused old new (WalkMeets left old.pages above page met) fault
page_refused old new left above page met fault refused =
    refused_as old new (IsFault old.pages left above page) (WalkMeets left old.pages above page met) fault
    (λ t f is. record { meets = inl (tree_fault left old.pages above page f is) }) refused

-- ---- an interior page

pub inner_over : {old mid : SpaceState} {less page : ℕ} {at new : Collected} (left : ℕ) (walk : Collected) → Steady old mid → Stays old mid → left ≡ suc less
    → at.numbers.items ≡ walk.numbers.items → at.met ≡ walk.met → length at.buffer.items ≡ length walk.buffer.items → GoneOver mid (suc less) page at new
    → GoneOver old left page walk new
inner_over {old = old} {page = page} {new = new} left walk steady stays is numbers met long gone =
    let over = gone_on steady stays gone in
    let all : List ℕ = pages_of over.tree in
    let S : ℕ → Type 0 = λ n. IsShallow n over.tree in
    record {
      tree = over.tree;
      rooted = over.rooted;
      shallow = subst S (sym is) over.shallow;
      grown = record {
        behind = over.grown.behind ∙ ap (λ (l : List ℕ). l ++ all) numbers;
        met_more = record { each = λ n. omega (arith, over.grown.met_more.each n, ap (λ (m : BTreeSet ℕ). met_in m n) met) };
        as_long = over.grown.as_long ∙ long;
      };
      there = over.there;
      held = over.held;
    }

inner_meets : (pages : Pages) (less above page : ℕ) (cells : List InnerCell) (right : ℕ) (met : BTreeSet ℕ) (fault : Fault) → HasCells pages page (InteriorPage cells right)
    → ChildrenMeet less pages page cells right met fault → WalkMeets (suc less) pages above page met fault
inner_meets pages less above page cells right met fault has (inl m) = record { meets = inl (inr (inr (cells, right, m.child, has, m.among, m.meets))) }
inner_meets pages less above page cells right met fault has (inr twice) = record { meets = inr twice }

pub inner_refused : (old mid new : SpaceState) (left less above page : ℕ) (cells : List InnerCell) (right : ℕ) (met : BTreeSet ℕ) (fault : SpaceFault) → Steady old mid
    → Stays old mid → left ≡ suc less → (IsTrue old.tells → HasCells old.pages page (InteriorPage cells right))
    → SearchRefused mid new (ChildrenMeet less mid.pages page cells right met) fault → SearchRefused old new (WalkMeets left old.pages above page met) fault
inner_refused old mid new left less above page cells right met fault steady stays is has refused =
    let P : ℕ → Type 0 = λ n. SearchRefused old new (WalkMeets n old.pages above page met) fault in
    subst P (sym is)
    (refused_as old new (ChildrenMeet less old.pages page cells right met) (WalkMeets (suc less) old.pages above page met) fault
    (λ t f meets. inner_meets old.pages less above page cells right met f (has t) meets)
    (refused_on old mid new (λ p. ChildrenMeet less p page cells right met) fault steady stays refused))

child_among : (front : List InnerCell) (cell : InnerCell) (back : List InnerCell) (right : ℕ) → Among (all_children (front ++ cell ∷ back) right) cell.child
child_among [] cell back right = among-here cell.child (all_children back right)
child_among (x ∷ front) cell back right = among-cons cell.child x.child (all_children (front ++ cell ∷ back) right) (child_among front cell back right)

last_among : (cells : List InnerCell) (right : ℕ) → Among (all_children cells right) right
last_among [] right = among-here right []
last_among (x ∷ cells) right = among-cons right x.child (all_children cells right) (last_among cells right)

pub child_refused : OnePage → {old mid : SpaceState} {left page : ℕ} {front : List InnerCell} {walk at : Collected} (new : SpaceState) (cells : List InnerCell) (cell : InnerCell)
    (back : List InnerCell) (right : ℕ) (fault : SpaceFault) → Steady old mid → Stays old mid → (IsTrue old.tells → HasCells old.pages page (InteriorPage cells right))
    → ChildrenGone old left page front walk at → cells ≡ front ++ cell ∷ back → SearchRefused mid new (WalkMeets left mid.pages page cell.child at.met) fault
    → SearchRefused old new (ChildrenMeet left old.pages page cells right walk.met) fault
child_refused one {old = old} {mid = mid} {left = left} {page = page} {front = front} {walk = walk} {at = at} new cells cell back right fault steady stays has all are refused =
    let H : List InnerCell → Type 0 = λ l. HasCells old.pages page (InteriorPage l right) in
    let A : List InnerCell → Type 0 = λ l. Among (all_children l right) cell.child in
    refused_as old new (WalkMeets left old.pages page cell.child at.met) (ChildrenMeet left old.pages page cells right walk.met) fault
    (λ t f walked. elim walked.meets [
      | inl tree ↦ inl (record { child = cell.child; among = subst A (sym are) (child_among front cell back right); meets = tree })
      | inr twice ↦ inr (child_twice one cell back right f t (subst H are (has t)) all twice)
    ])
    (refused_on old mid new (λ p. WalkMeets left p page cell.child at.met) fault steady stays refused)

pub last_refused : OnePage → {old mid : SpaceState} {left page : ℕ} {cells : List InnerCell} {walk at : Collected} (new : SpaceState) (right : ℕ) (fault : SpaceFault)
    → Steady old mid → Stays old mid → (IsTrue old.tells → HasCells old.pages page (InteriorPage cells right)) → ChildrenGone old left page cells walk at
    → SearchRefused mid new (WalkMeets left mid.pages page right at.met) fault → SearchRefused old new (ChildrenMeet left old.pages page cells right walk.met) fault
last_refused one {old = old} {mid = mid} {left = left} {page = page} {cells = cells} {walk = walk} {at = at} new right fault steady stays has all refused =
    refused_as old new (WalkMeets left old.pages page right at.met) (ChildrenMeet left old.pages page cells right walk.met) fault
    (λ t f walked. elim walked.meets [
      | inl tree ↦ inl (record { child = right; among = last_among cells right; meets = tree })
      | inr twice ↦ inr (last_twice one right f t (has t) all twice)
    ])
    (refused_on old mid new (λ p. WalkMeets left p page right at.met) fault steady stays refused)
