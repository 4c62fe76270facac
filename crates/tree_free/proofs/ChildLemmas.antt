-- The children of an interior page, gone over.
use Rattle.std.proofs.Common.{◌≡◌, ℕ, suc, ◌+◌, ◌≤◌, List, [], ◌∷◌, ◌++◌, length, IsTrue, refl, sym, ap, subst, ◌∙◌, arith, append_assoc, append-nil}
use Rattle.std.specs.BTreeSet.{BTreeSet}
use Rattle.page_list.specs.Pages.{Pages, HasPage, times, Among}
use Rattle.page_list.proofs.TimesLemmas.{times-append}
use Rattle.page_pool.specs.Space.{SpaceState}
use Rattle.payload_chain.specs.Chains.{HasEach}
use Rattle.tree_page.specs.Page.{OnePage}
use Rattle.tree_page.specs.declared.cell.InnerCell.{InnerCell}
use Rattle.tree_page.specs.declared.cell.PageCells.TheVariants.{Interior as InteriorPage}
use Rattle.tree_model.specs.Tree.{Tree, Child, Right, root_of, pages_of}
use Rattle.tree_model.specs.Held.{HasCells, HoldsBehind, Holds}
use Rattle.tree_model.specs.Laws.{OneTree}
use Rattle.tree_model.specs.declared.ends.Fault.{Fault}
use Rattle.tree_model.specs.declared.ends.Fault.TheVariants.{Broken}
use Rattle.tree_free.specs.declared.collect.Collected.{Collected}
use Rattle.tree_free.specs.Steps.{met_in, MetMore, GoneOver, IsTwice, Joined, Opened, ChildrenGone}
use Rattle.tree_free.proofs.MetLemmas.{met_on}
use Rattle.tree_free.proofs.TopLemmas.{root_times, next_of, last_of}
use Rattle.tree_free.proofs.RowLemmas.{each_both, each_one}

-- the page is met, and no child is gone over
pub children_none : (s : SpaceState) (left page : ℕ) (old new : Collected) → MetMore old.met new.met (page ∷ []) → new.numbers.items ≡ old.numbers.items
    → length new.buffer.items ≡ length old.buffer.items → ChildrenGone s left page [] old new
children_none s left page old new met numbers long = record {
  gone = [];
  behind = numbers ∙ sym (append-nil old.numbers.items);
  met_more = met;
  as_long = long;
  there = record { each = λ n some. absurd (omega (arith, some)) };
  joins = λ rest. record { tree = rest; rooted = refl; pages_are = refl; shallow = λ h. h; held = λ t h. h };
  opens = λ t tree held rooted. record { rest = tree; rooted = rooted; pages_are = refl; held = held };
}

joined_more : {s : SpaceState} {left : ℕ} {front : List InnerCell} {gone : List ℕ} {mid new : Collected} (cell : InnerCell) (child : GoneOver s left cell.child mid new)
    → ((rest : Tree) → Joined s left front gone rest) → (rest : Tree) → Joined s left (front ++ cell ∷ []) (gone ++ pages_of child.tree) rest
joined_more {s = s} {front = front} {gone = gone} cell child joins rest =
    let j = joins (Child child.tree cell.rowid rest) in
    let P : ℕ → Type 0 = λ n. HoldsBehind s.pages (front ++ record { child = n; rowid = cell.rowid } ∷ []) rest in
    record {
      tree = j.tree;
      rooted = j.rooted;
      pages_are = j.pages_are ∙ sym (append_assoc gone (pages_of child.tree) (pages_of rest));
      shallow = λ h. j.shallow (child.shallow, h);
      held = λ t h. j.held t (child.held t, subst P (sym child.rooted) h);
    }

opened_more : OnePage → OneTree → {pages : Pages} {page : ℕ} {front : List InnerCell} {gone : List ℕ} {tree : Tree} (cell : InnerCell) (back : List InnerCell) (right : ℕ) (child : Tree)
    → HasCells pages page (InteriorPage (front ++ cell ∷ back) right) → Holds pages child → root_of child ≡ cell.child → Opened pages page front gone tree
    → Opened pages page (front ++ cell ∷ []) (gone ++ pages_of child) tree
opened_more one_page one_tree {pages = pages} {page = page} {front = front} {gone = gone} cell back right child has held rooted o =
    let n = next_of one_page pages page front cell back right o.rest has o.held o.rooted in
    let same : n.child ≡ child = one_tree pages n.child child n.child_held held (n.child_rooted ∙ sym rooted) in
    record {
      rest = n.more;
      rooted = n.more_rooted;
      pages_are = o.pages_are ∙ ap (λ (t : Tree). gone ++ pages_of t) n.is ∙ ap (λ (t : Tree). gone ++ (pages_of t ++ pages_of n.more)) same
          ∙ sym (append_assoc gone (pages_of child) (pages_of n.more));
      held = n.more_held;
    }

-- one child more
pub children_more : OnePage → OneTree → {s : SpaceState} {left page : ℕ} {front : List InnerCell} {old mid : Collected} (new : Collected) (cell : InnerCell) (back : List InnerCell)
    (right : ℕ) → (IsTrue s.tells → HasCells s.pages page (InteriorPage (front ++ cell ∷ back) right)) → ChildrenGone s left page front old mid → GoneOver s left cell.child mid new
    → ChildrenGone s left page (front ++ cell ∷ []) old new
children_more one_page one_tree {s = s} {left = left} {page = page} {front = front} {old = old} {mid = mid} new cell back right has all child = record {
  gone = all.gone ++ pages_of child.tree;
  behind = child.grown.behind ∙ ap (λ (l : List ℕ). l ++ pages_of child.tree) all.behind ∙ append_assoc old.numbers.items all.gone (pages_of child.tree);
  met_more = met_on old.met mid.met new.met (page ∷ all.gone) (pages_of child.tree) all.met_more child.grown.met_more;
  as_long = child.grown.as_long ∙ all.as_long;
  there = each_both s.pages all.gone (pages_of child.tree) all.there child.there;
  joins = joined_more {s = s} {left = left} {front = front} {gone = all.gone} {mid = mid} {new = new} cell child all.joins;
  opens = λ t tree held rooted. opened_more one_page one_tree cell back right child.tree (has t) (child.held t) child.rooted (all.opens t tree held rooted);
}

-- a page below the next child is met before, or stands there twice
pub child_twice : OnePage → {s : SpaceState} {left page : ℕ} {front : List InnerCell} {old mid : Collected} (cell : InnerCell) (back : List InnerCell) (right : ℕ) (fault : Fault)
    → IsTrue s.tells → HasCells s.pages page (InteriorPage (front ++ cell ∷ back) right) → ChildrenGone s left page front old mid → IsTwice s.pages cell.child mid.met fault
    → IsTwice s.pages page old.met fault
child_twice one_page {s = s} {page = page} {front = front} cell back right fault told has all below = record {
  number = below.number;
  named = below.named;
  there = below.there;
  twice = λ tree held rooted.
      let x : ℕ = below.number in
      let o = all.opens told tree held rooted in
      let n = next_of one_page s.pages page front cell back right o.rest has o.held o.rooted in
      let P : ℕ → Type 0 = λ m. times x (m ∷ []) ≤ times x (pages_of n.more) in
      omega (
        arith,
        below.twice n.child n.child_held n.child_rooted,
        all.met_more.each x,
        ap (times x) o.pages_are,
        times-append x all.gone (pages_of o.rest),
        ap (λ (t : Tree). times x (pages_of t)) n.is,
        times-append x (pages_of n.child) (pages_of n.more),
        subst P n.more_rooted (root_times x n.more),
      );
}

-- or below the right-most one
pub last_twice : OnePage → {s : SpaceState} {left page : ℕ} {cells : List InnerCell} {old mid : Collected} (right : ℕ) (fault : Fault) → IsTrue s.tells
    → HasCells s.pages page (InteriorPage cells right) → ChildrenGone s left page cells old mid → IsTwice s.pages right mid.met fault → IsTwice s.pages page old.met fault
last_twice one_page {s = s} {page = page} {cells = cells} right fault told has all below = record {
  number = below.number;
  named = below.named;
  there = below.there;
  twice = λ tree held rooted.
      let x : ℕ = below.number in
      let o = all.opens told tree held rooted in
      let l = last_of one_page s.pages page cells right o.rest has o.held o.rooted in
      omega (
        arith,
        below.twice l.child l.held l.rooted,
        all.met_more.each x,
        ap (times x) o.pages_are,
        times-append x all.gone (pages_of o.rest),
        ap (λ (t : Tree). times x (pages_of t)) l.is,
      );
}

-- the page itself was met before
pub page_twice : (s : SpaceState) (page : ℕ) (met : BTreeSet ℕ) (number : ℕ) → HasPage s.pages page → Among (page ∷ []) number → 2 ≤ met_in met number + times number (page ∷ [])
    → IsTwice s.pages page met (Broken number)
page_twice s page met number there some two = record {
  number = number;
  named = refl;
  there = (each_one s.pages page there).each number some;
  twice = λ tree held rooted.
      let P : ℕ → Type 0 = λ m. times number (m ∷ []) ≤ times number (pages_of tree) in
      omega (arith, two, subst P rooted (root_times number tree));
}

-- all children, with the page before the right-most of them
pub children_all : {s : SpaceState} {left page : ℕ} {cells : List InnerCell} {old mid at : Collected} (new : Collected) (right : ℕ) → HasPage s.pages page
    → (IsTrue s.tells → HasCells s.pages page (InteriorPage cells right)) → ChildrenGone s left page cells old mid → at.numbers.items ≡ mid.numbers.items ++ page ∷ []
    → at.met ≡ mid.met → length at.buffer.items ≡ length mid.buffer.items → GoneOver s left right at new → GoneOver s (suc left) page old new
children_all {s = s} {page = page} {cells = cells} {old = old} {mid = mid} {at = at} new right there has all pushed same_met same_long last =
    let j = all.joins (Right page last.tree) in
    let below : List ℕ = pages_of last.tree in
    let P : ℕ → Type 0 = λ n. HasCells s.pages page (InteriorPage cells n) in
    let E : List ℕ → Type 0 = λ l. HasEach s.pages l in
    let met_was : (n : ℕ) → met_in at.met n ≡ met_in mid.met n = λ n. ap (λ (m : BTreeSet ℕ). met_in m n) same_met in
    record {
      tree = j.tree;
      rooted = j.rooted;
      shallow = j.shallow last.shallow;
      grown = record {
        behind = last.grown.behind ∙ ap (λ (l : List ℕ). l ++ below) (pushed ∙ ap (λ (l : List ℕ). l ++ page ∷ []) all.behind)
            ∙ append_assoc (old.numbers.items ++ all.gone) (page ∷ []) below ∙ append_assoc old.numbers.items all.gone (page ∷ below)
            ∙ ap (λ (l : List ℕ). old.numbers.items ++ l) (sym j.pages_are);
        met_more = record {
          each = λ n. omega (arith, last.grown.met_more.each n, met_was n, all.met_more.each n, ap (times n) j.pages_are, times-append n all.gone (page ∷ below));
        };
        as_long = last.grown.as_long ∙ same_long ∙ all.as_long;
      };
      there = subst E (sym j.pages_are) (each_both s.pages all.gone (page ∷ below) all.there (each_both s.pages (page ∷ []) below (each_one s.pages page there) last.there));
      held = λ t. j.held t (subst P (sym last.rooted) (has t), last.held t);
    }
