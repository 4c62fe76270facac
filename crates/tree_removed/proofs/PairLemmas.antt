-- The page that the way took and the one beside it, as two of the children of the page above.
use Rattle.std.proofs.Common.{◌≡◌, ◌⊎◌, inl, inr, ℕ, suc, ◌+◌, ◌-◌, ◌≤◌, ℤ, Bool, true, false, nat_lt, if◌then◌else◌, List, [], ◌∷◌, ◌++◌, length, slice_index_or, refl}
use Rattle.std.proofs.Common.{sym, ap, ap₂, subst, ◌∙◌, arith, append-nil, length-append, le-ltb, lt-ltb}
use Rattle.std.proofs.lemmas.List.{length-map}
use Rattle.page_list.specs.Pages.{times}
use Rattle.page_list.proofs.TimesLemmas.{times-append}
use Rattle.tree_page.specs.declared.cell.InnerCell.{InnerCell}
use Rattle.tree_model.specs.Tree.{Tree, root_of, pages_of}
use Rattle.tree_model.specs.Walk.{all_children}
use Rattle.tree_model.specs.declared.level.Level.{Level}
use Rattle.tree_run.specs.Node.{Piece, cell_of, cells_of, pages_in, last_key}
use Rattle.tree_run.specs.Run.{Run, run_pages, one, Behind, Nothing, Next, within, bound, behind_pages}
use Rattle.tree_run.proofs.RunLemmas.{run_within}
use Rattle.tree_level.specs.Level.{Has}
use Rattle.tree_shrink.specs.Join.{pair_of}
use Rattle.tree_shrink.specs.Rest.{no_cell}
use Rattle.tree_join.specs.Join.{child_of, pair_at, left_page, right_page, key_between, sibling_of}
use Rattle.tree_put.specs.Way.{Beside, IsBeside}
use Rattle.tree_put.proofs.CountLemmas.{beside_of}

-- the way took the left one of the two, or the right one
pub record TookLeft (child : Tree) (step : Beside) (before : List Piece) (a : Tree) (k : ℤ) (b : Tree) (behind : Behind) (other : Tree) : Type 0 where
  pub test : nat_lt step.level.at (length step.level.cells) ≡ true
  pub took : a ≡ child
  pub other_is : b ≡ other
  pub low : (low : ℤ) → last_key low step.before ≡ last_key low before
  pub high : (high : ℤ) → bound high step.behind ≡ k

pub record TookRight (child : Tree) (step : Beside) (before : List Piece) (a : Tree) (k : ℤ) (b : Tree) (behind : Behind) (other : Tree) : Type 0 where
  pub test : nat_lt step.level.at (length step.level.cells) ≡ false
  pub took : b ≡ child
  pub other_is : a ≡ other
  pub low : (low : ℤ) → last_key low step.before ≡ k
  pub high : (high : ℤ) → bound high step.behind ≡ bound high behind

pub record Paired (child : Tree) (step : Beside) : Type 0 where
  pub before : List Piece
  pub a : Tree
  pub k : ℤ
  pub b : Tree
  pub behind : Behind
  pub other : Tree
  pub is : within before (pair_of a k b) behind ≡ within step.before (one child) step.behind
  pub at : pair_at step.level ≡ length before
  pub side : TookLeft child step before a k b behind other ⊎ TookRight child step before a k b behind other

at_left : (level : Level) → nat_lt level.at (length level.cells) ≡ true → pair_at level ≡ level.at
at_left level test = ap (λ b. if b then level.at else length level.cells - 1) test

at_right : (level : Level) → nat_lt level.at (length level.cells) ≡ false → pair_at level ≡ length level.cells - 1
at_right level test = ap (λ b. if b then level.at else length level.cells - 1) test

cells_many : (level : Level) (run : Run) → Has level.cells level.right run → length level.cells ≡ length run.front
cells_many level run has = omega (arith, ap (λ (l : List InnerCell). length l) has.cells_are, length-map run.front cell_of)

is_below : (level : Level) (before : List Piece) (p : Piece) (more : List Piece) (last : Tree) → Has level.cells level.right (record { front = before ++ p ∷ more; last = last })
    → level.at ≡ length before → nat_lt level.at (length level.cells) ≡ true
is_below level before p more last has at =
    lt-ltb level.at (length level.cells) (omega (arith, at, cells_many level _ has, length-append before (p ∷ more)))

next_pair : (before : List Piece) (k : ℤ) (front : List Piece) (last : Tree) (level : Level) (child : Tree)
    → Has level.cells level.right (within before (one child) (Next k (record { front = front; last = last }))) → level.at ≡ length before
    → Paired child (record { before = before; behind = Next k (record { front = front; last = last }); level = level })
next_pair before k [] last level child has at =
    let test = is_below level before (record { tree = child; key = k }) [] last has at in
    record {
      before = before;
      a = child;
      k = k;
      b = last;
      behind = Nothing;
      other = last;
      is = refl;
      at = at_left level test ∙ at;
      side = inl (record { test = test; took = refl; other_is = refl; low = λ low. refl; high = λ high. refl });
    }
next_pair before k (p ∷ more) last level child has at =
    let test = is_below level before (record { tree = child; key = k }) (p ∷ more) last has at in
    record {
      before = before;
      a = child;
      k = k;
      b = p.tree;
      behind = Next p.key (record { front = more; last = last });
      other = p.tree;
      is = refl;
      at = at_left level test ∙ at;
      side = inl (record { test = test; took = refl; other_is = refl; low = λ low. refl; high = λ high. refl });
    }

-- the last of some children

record Last (pieces : List Piece) : Type 0 where
  init : List Piece
  last : Piece
  is : init ++ last ∷ [] ≡ pieces

last_of : (p : Piece) (more : List Piece) → Last (p ∷ more)
last_of p [] = record { init = []; last = p; is = refl }
last_of p (q ∷ more) = let rest = last_of q more in record { init = p ∷ rest.init; last = rest.last; is = ap (λ (l : List Piece). p ∷ l) rest.is }

last_key_end : (low : ℤ) (init : List Piece) (q : Piece) → last_key low (init ++ q ∷ []) ≡ q.key
last_key_end low [] q = refl
last_key_end low (p ∷ init) q = last_key_end p.key init q

last_pair : (p : Piece) (more : List Piece) (level : Level) (child : Tree) → Has level.cells level.right (within (p ∷ more) (one child) Nothing) → level.at ≡ length (p ∷ more)
    → Paired child (record { before = p ∷ more; behind = Nothing; level = level })
last_pair p more level child has at =
    let split = last_of p more in
    let many : length level.cells ≡ length (p ∷ more) = omega (arith, cells_many level _ has, length-append (p ∷ more) []) in
    let test : nat_lt level.at (length level.cells) ≡ false = le-ltb level.at (length level.cells) (omega (arith, at, many)) in
    record {
      before = split.init;
      a = split.last.tree;
      k = split.last.key;
      b = child;
      behind = Nothing;
      other = split.last.tree;
      is = ap (λ (l : List Piece). let r : Run = record { front = l; last = child } in r) (split.is ∙ sym (append-nil (p ∷ more)));
      at = at_right level test ∙ (let long = ap (λ (l : List Piece). length l) split.is in omega (arith, many, long, length-append split.init (split.last ∷ [])));
      side = inr (record {
        test = test;
        took = refl;
        other_is = refl;
        low = λ low. ap (last_key low) (sym split.is) ∙ last_key_end low split.init split.last;
        high = λ high. refl;
      });
    }

paired_of : (before : List Piece) (behind : Behind) (level : Level) (child : Tree) → Has level.cells level.right (within before (one child) behind) → level.at ≡ length before
    → 1 ≤ length level.cells → Paired child (record { before = before; behind = behind; level = level })
paired_of before (Next k rest) level child has at some = next_pair before k rest.front rest.last level child has at
paired_of [] Nothing level child has at some = absurd (omega (arith, some, cells_many level _ has))
paired_of (p ∷ more) Nothing level child has at some = last_pair p more level child has at

pub paired : (low high key : ℤ) (child : Tree) (step : Beside) → IsBeside low high key child step → 1 ≤ length step.level.cells → Paired child step
paired low high key child step beside some = paired_of step.before step.behind step.level child beside.has beside.at some

-- the numbers of the two, and the key between them

child_there : (before : List Piece) (child : Tree) (behind : Behind)
    → slice_index_or (all_children (cells_of (within before (one child) behind).front) (root_of (within before (one child) behind).last)) (length before) 0 ≡ root_of child
child_there [] child Nothing = refl
child_there [] child (Next key rest) = refl
child_there (p ∷ before) child Nothing = child_there before child Nothing
child_there (p ∷ before) child (Next key rest) = child_there before child (Next key rest)

left_there : (before : List Piece) (a : Tree) (k : ℤ) (b : Tree) (behind : Behind)
    → slice_index_or (all_children (cells_of (within before (pair_of a k b) behind).front) (root_of (within before (pair_of a k b) behind).last)) (length before) 0 ≡ root_of a
left_there [] a k b Nothing = refl
left_there [] a k b (Next key rest) = refl
left_there (p ∷ before) a k b Nothing = left_there before a k b Nothing
left_there (p ∷ before) a k b (Next key rest) = left_there before a k b (Next key rest)

right_there : (before : List Piece) (a : Tree) (k : ℤ) (b : Tree) (behind : Behind)
    → slice_index_or (all_children (cells_of (within before (pair_of a k b) behind).front) (root_of (within before (pair_of a k b) behind).last)) (suc (length before)) 0
    ≡ root_of b
right_there [] a k b Nothing = refl
right_there [] a k b (Next key rest) = refl
right_there (p ∷ before) a k b Nothing = right_there before a k b Nothing
right_there (p ∷ before) a k b (Next key rest) = right_there before a k b (Next key rest)

key_there : (before : List Piece) (a : Tree) (k : ℤ) (b : Tree) (behind : Behind)
    → (slice_index_or (cells_of (within before (pair_of a k b) behind).front) (length before) no_cell).rowid ≡ k
key_there [] a k b Nothing = refl
key_there [] a k b (Next key rest) = refl
key_there (p ∷ before) a k b Nothing = key_there before a k b Nothing
key_there (p ∷ before) a k b (Next key rest) = key_there before a k b (Next key rest)

pub record Numbered (child : Tree) (step : Beside) (p : Paired child step) : Type 0 where
  pub has : Has step.level.cells step.level.right (within p.before (pair_of p.a p.k p.b) p.behind)
  pub left : left_page step.level ≡ root_of p.a
  pub right : right_page step.level ≡ root_of p.b
  pub key : key_between step.level ≡ p.k
  pub other : sibling_of step.level ≡ root_of p.other

pub numbered : (low high key : ℤ) (child : Tree) (step : Beside) (p : Paired child step) → IsBeside low high key child step → Numbered child step p
numbered low high key child step p beside =
    let run : Run = within p.before (pair_of p.a p.k p.b) p.behind in
    let H : Run → Type 0 = λ r. Has step.level.cells step.level.right r in
    let has = subst H (sym p.is) beside.has in
    let level : Level = step.level in
    let all : all_children level.cells level.right ≡ all_children (cells_of run.front) (root_of run.last) = ap₂ all_children (sym has.cells_are) (sym has.right_is) in
    let left : left_page level ≡ root_of p.a = ap (λ (l : List ℕ). slice_index_or l (pair_at level) 0) all
    ∙ ap (λ i. slice_index_or (all_children (cells_of run.front) (root_of run.last)) i 0) p.at ∙ left_there p.before p.a p.k p.b p.behind in
    let right : right_page level ≡ root_of p.b = ap (λ (l : List ℕ). slice_index_or l (suc (pair_at level)) 0) all
    ∙ ap (λ i. slice_index_or (all_children (cells_of run.front) (root_of run.last)) (suc i) 0) p.at ∙ right_there p.before p.a p.k p.b p.behind in
    let S : Bool → ℕ = λ b. if b then right_page level else left_page level in
    record {
      has = has;
      left = left;
      right = right;
      key = ap (λ (l : List InnerCell). (slice_index_or l (pair_at level) no_cell).rowid) (sym has.cells_are)
          ∙ ap (λ i. (slice_index_or (cells_of run.front) i no_cell).rowid) p.at ∙ key_there p.before p.a p.k p.b p.behind;
      other = elim p.side [ inl l ↦ ap S l.test ∙ right ∙ ap root_of l.other_is | inr r ↦ ap S r.test ∙ left ∙ ap root_of r.other_is ];
    }

-- the child is the one that the way took
pub child_is : (low high key : ℤ) (child : Tree) (step : Beside) → IsBeside low high key child step → child_of step.level step.level.at ≡ root_of child
child_is low high key child step beside =
    let run : Run = within step.before (one child) step.behind in
    ap₂ (λ (l : List ℕ) (i : ℕ). slice_index_or l i 0) (ap₂ all_children (sym beside.has.cells_are) (sym beside.has.right_is)) beside.at
    ∙ child_there step.before child step.behind

-- how often pages are named: of the two, and beside the child

pub pair_pages : (n : ℕ) (a : Tree) (k : ℤ) (b : Tree) → times n (run_pages (pair_of a k b)) ≡ times n (pages_of a) + times n (pages_of b)
pair_pages n a k b = omega (arith, times-append n (pages_of a ++ []) (pages_of b), times-append n (pages_of a) [])

pub pair_count : (n : ℕ) (child : Tree) (step : Beside) (p : Paired child step)
    → times n (root_of p.a ∷ []) + times n (root_of p.b ∷ []) ≡ times n (root_of child ∷ []) + times n (root_of p.other ∷ [])
pair_count n child step p =
    let R : Tree → ℕ = λ t. times n (root_of t ∷ []) in
    elim p.side [ inl l ↦ omega (arith, ap R l.took, ap R l.other_is) | inr r ↦ omega (arith, ap R r.took, ap R r.other_is) ]

pub beside_count : (n : ℕ) (child : Tree) (step : Beside) (p : Paired child step)
    → times n (beside_of step) ≡ times n (pages_of p.other) + times n (pages_in p.before) + times n (behind_pages p.behind)
beside_count n child step p =
    let P : Tree → ℕ = λ t. times n (pages_of t) in
    let both : P p.a + P p.b ≡ P child + P p.other = elim p.side
    [ inl l ↦ omega (arith, ap P l.took, ap P l.other_is) | inr r ↦ omega (arith, ap P r.took, ap P r.other_is) ] in
    omega (
      arith,
      both,
      pair_pages n p.a p.k p.b,
      run_within.named n p.before (pair_of p.a p.k p.b) p.behind,
      run_within.named n step.before (one child) step.behind,
      ap (λ (r : Run). times n (run_pages r)) p.is,
      times-append n (pages_in step.before) (behind_pages step.behind),
    )
