-- Two pages side by side, of which one has one child left: their children are one run, whose keys have their place.
use Rattle.std.proofs.Common.{◌≡◌, ◌⊎◌, inl, inr, ℕ, zero, suc, ◌≤◌, ◌<◌, ℤ, ◌<ℤ◌, ◌≤ℤ◌, Bool, if◌then◌else◌, List, [], ◌∷◌, ◌++◌, length, map, take, drop, refl}
use Rattle.std.proofs.Common.{sym, ap, ap₂, subst, ◌∙◌, arith, length-append}
use Rattle.std.specs.List.{AllByRecursion}
use Rattle.std.proofs.lemmas.List.{map-append, length-map}
use Rattle.page_list.specs.Pages.{Pages, times, Among}
use Rattle.tree_page.specs.declared.cell.LeafCell.{LeafCell}
use Rattle.tree_page.specs.declared.cell.InnerCell.{InnerCell}
use Rattle.tree_page.specs.declared.cell.PageCells.{PageCells}
use Rattle.tree_page.specs.declared.cell.PageCells.TheVariants.{Leaf as LeafPage, Interior as InteriorPage}
use Rattle.tree_page.specs.Page.{inner, rowid_of, cells_of as page_cells, AreAbove, OnePage}
use Rattle.tree_model.specs.Tree.{Tree, Leaf, Child, Right, root_of, pages_of, HasDepth}
use Rattle.tree_model.specs.Held.{HasCells}
use Rattle.tree_model.specs.Laws.{Keeps}
use Rattle.tree_model.proofs.IntLemmas.{lt_trans_ℤ}
use Rattle.tree_model.proofs.OnePathLemmas.{same_cells, leaf_not_inner}
use Rattle.tree_run.specs.Node.{Piece, cell_of, cells_of, last_key}
use Rattle.tree_run.specs.Run.{IsChild, AreChildren, Run, IsRun, run_pages, one, over, Behind, Nothing, Next, within, bound, IsBehind}
use Rattle.tree_run.specs.Laws.{HasRun}
use Rattle.tree_run.proofs.RunLemmas.{child_strict, strict, run_within, run_over, run_stays_where}
use Rattle.page_cut.specs.declared.parts.Sheet.{Sheet}
use Rattle.page_cut.specs.declared.parts.Sheets.{Sheets}
use Rattle.page_cut.specs.Cut.{AreInnerParts, IsCut}
use Rattle.tree_level.specs.Level.{up_cells}
use Rattle.tree_plan.specs.Law.{AreNumbered}
use Rattle.tree_plan.specs.Climb.{on}
use Rattle.tree_plan.proofs.LawLemmas.{on_pages}
use Rattle.tree_shrink.specs.Rest.{Below}
use Rattle.tree_shrink.specs.Level.{Less}
use Rattle.tree_shrink.specs.Join.{pair_of, joined_run, LeftLess, RightLess, OnLeft, Pair}
use Rattle.tree_shrink.proofs.RunLemmas.{joined, seam}
use Rattle.tree_join.specs.Join.{key_between, sibling_of, pair_at, left_page, right_page, joined_cells, joined_right, with_pair, IsOnLeft, IsJoined, IsUnjoined, KeysRise}
use Rattle.tree_put.specs.Way.{Beside, IsBeside, Stands}
use Rattle.tree_put.proofs.CountLemmas.{beside_of}
use Rattle.tree_put.proofs.KeptLemmas.{keeps_less}
use Rattle.tree_put.proofs.ClimbLemmas.{all_front, all_behind}
use Rattle.tree_remove.specs.Shrink.{CannotJoin}
use Rattle.tree_removed.proofs.ClimbLemmas.{keys_above, keys_rise}
use Rattle.tree_removed.proofs.PairLemmas.{Paired, numbered, child_is, beside_count}

-- numbers change nothing of what the parts are

pub numbered_parts : (front numbered : List Sheet) (last : PageCells) (cells : List InnerCell) (right : ℕ) → AreNumbered front numbered → AreInnerParts front last cells right
    → AreInnerParts numbered last cells right
numbered_parts [] [] last cells right same parts = parts
numbered_parts [] (t ∷ others) last cells right same parts = absurd same
numbered_parts (s ∷ more) [] last cells right same parts = absurd same
numbered_parts (s ∷ more) (t ∷ others) last cells right same parts =
    let head = parts.1 in
    let P : ℤ → Type 0 = λ k. cells ≡ head.part ++ (record { child = head.child; rowid = k } ∷ parts.0) in (
      parts.0,
      record { part = head.part; child = head.child; is = same.0 ∙ head.is; joined = subst P (sym same.1) head.joined },
      numbered_parts more others last parts.0 right same.2 parts.2,
    )

pub cut_parts : (number usable right : ℕ) (cells : List InnerCell) (sheets : Sheets) → IsCut number usable (InteriorPage cells right) sheets
    → AreInnerParts sheets.front.items sheets.last cells right
cut_parts number usable right cells sheets (inl is) = let P : List Sheet → Type 0 = λ l. AreInnerParts l sheets.last cells right in subst P (sym is.none) is.all
cut_parts number usable right cells sheets (inr up) = up.parts

-- the page beside is an interior page

deep : (depth : ℕ) (tree : Tree) → HasDepth depth tree → 1 ≤ depth
deep depth (Leaf page rows) is = omega (arith, is)
deep zero (Child child key more) is = absurd is
deep (suc depth) (Child child key more) is = omega arith
deep zero (Right page child) is = absurd is
deep (suc depth) (Right page child) is = omega arith

pub record IsInner (pages : Pages) (low high : ℤ) (depth : ℕ) (tree : Tree) : Type 0 where
  pub run : Run
  pub is : tree ≡ over (root_of tree) run
  pub run_is : IsRun pages low high depth run
  pub has : HasRun pages (root_of tree) run

pub inner_tree : (pages : Pages) (low high : ℤ) (depth : ℕ) (tree : Tree) → 1 ≤ depth → IsChild pages low high (suc depth) tree → IsInner pages low high depth tree
inner_tree pages low high zero tree some is = absurd (omega (arith, some))
inner_tree pages low high (suc depth) tree some is =
    let top = run_over.is_over depth tree is.level in
    let page : ℕ = top.0 in
    let run : Run = top.1 in
    let number : root_of tree ≡ page = ap root_of top.2 ∙ run_over.rooted page run in
    let same : tree ≡ over (root_of tree) run = top.2 ∙ ap (λ n. over n run) (sym number) in
    let C : Tree → Type 0 = IsChild pages low high (suc (suc depth)) in
    let down = run_over.down pages low high (suc depth) (root_of tree) run (subst C same is) in
    record { run = run; is = same; run_is = down.0; has = down.1 }

same_inner : (a b : List InnerCell) (r s : ℕ) → InteriorPage a r ≡ InteriorPage b s → (a ≡ b) × (r ≡ s)
same_inner a b r s e = (cc, cc)

-- the children of both as a run

pub record Joins (old new : Pages) (low high : ℤ) (depth : ℕ) (key : ℤ) (child : Tree) (step : Beside) (c : ℕ) (cells : List InnerCell) (right : ℕ) (gone : List ℕ)
    (p : Paired child step) : Type 0 where
  pub lefts : Run
  pub rights : Run
  pub less : LeftLess old new (last_key low p.before) (bound high p.behind) depth key p.a p.k p.b lefts rights gone
      ⊎ RightLess old new (last_key low p.before) (bound high p.behind) depth key p.a p.k p.b lefts rights gone
  pub cells_are : joined_cells step.level c cells right ≡ cells_of (joined_run lefts p.k rights).front
  pub right_is : joined_right step.level c right ≡ root_of (joined_run lefts p.k rights).last
  pub is : IsRun new (last_key low p.before) (bound high p.behind) depth (joined_run lefts p.k rights)

-- of the pages beside the child all stay but the page of the one beside it
abbrev pub StaysBeside : Pages → Pages → Beside → Type 0
StaysBeside old new step = Keeps old new (λ n. times n (sibling_of step.level ∷ []) < times n (beside_of step))

abbrev cells_if : Bool → ℕ → ℤ → List InnerCell → ℕ → List InnerCell
cells_if b c k cells right = if b then record { child = c; rowid = k } ∷ cells else cells ++ record { child = right; rowid = k } ∷ []

abbrev right_if : Bool → ℕ → ℕ → ℕ
right_if b c right = if b then right else c

-- the page beside: its children stay, and they are those that its cells name
record IsOther (old new : Pages) (low high : ℤ) (depth : ℕ) (tree : Tree) (cells : List InnerCell) (right : ℕ) : Type 0 where
  run : Run
  is : tree ≡ over (root_of tree) run
  stays : Keeps old new (Among (run_pages run))
  run_is : IsRun new low high depth run
  cells_are : cells ≡ cells_of run.front
  right_is : right ≡ root_of run.last

other_is : OnePage → (old new : Pages) (low high : ℤ) (depth : ℕ) (child : Tree) (step : Beside) (p : Paired child step) (tree : Tree) (cells : List InnerCell) (right : ℕ)
    → tree ≡ p.other → sibling_of step.level ≡ root_of p.other → 1 ≤ depth → IsChild old low high (suc depth) tree → HasCells old (sibling_of step.level) (InteriorPage cells right)
    → StaysBeside old new step → IsOther old new low high depth tree cells right
other_is one_page old new low high depth child step p tree cells right same number some is has stays =
    let inner = inner_tree old low high depth tree some is in
    let H : ℕ → Type 0 = λ m. HasCells old m (InteriorPage cells right) in
    let top = same_inner _ _ _ _ (same_cells one_page old (root_of tree) _ _ (subst H (number ∙ ap root_of (sym same)) has) inner.has) in
    let keeps : Keeps old new (Among (run_pages inner.run)) = keeps_less old new _ _ (λ m among. omega (
      arith,
      among,
      ap (λ k. times m (k ∷ [])) number,
      ap (λ t. times m (root_of t ∷ [])) same,
      ap (λ t. times m (pages_of t)) same,
      ap (λ t. times m (pages_of t)) inner.is,
      run_over.named m (root_of tree) inner.run,
      beside_count m child step p,
    )) stays in
    record {
      run = inner.run;
      is = inner.is;
      stays = keeps;
      run_is = run_stays_where old new (Among (run_pages inner.run)) low high depth inner.run keeps (λ m among. among) inner.run_is;
      cells_are = top.0;
      right_is = top.1;
    }

pub joins : OnePage → (old new : Pages) (low high : ℤ) (depth : ℕ) (key : ℤ) (child tree : Tree) (step : Beside) (c : ℕ) (cells : List InnerCell) (right : ℕ) (gone : List ℕ)
    (p : Paired child step) → IsBeside low high key child step → Stands old low high (suc depth) child step → root_of tree ≡ c
    → Less new (last_key low step.before) (bound high step.behind) (suc depth) key child (Below tree) (gone ++ root_of child ∷ [])
    → HasCells old (sibling_of step.level) (InteriorPage cells right) → StaysBeside old new step
    → Joins old new low high depth key child step c cells right gone p
joins one_page old new low high depth key child tree step c cells right gone p beside stands rooted less has stays =
    let n = numbered low high key child step p beside in
    let lo : ℤ = last_key low p.before in
    let hi : ℤ = bound high p.behind in
    let R : Run → Type 0 = IsRun old low high (suc depth) in
    let two = ((run_within.parts old low high (suc depth) p.before (pair_of p.a p.k p.b) p.behind).0 (subst R (sym p.is) stands.is)).1 in
    let some : 1 ≤ depth = deep depth tree less.is.level in
    let between : ℤ = key_between step.level in
    let L : ℤ → ℤ → Tree → Type 0 = λ x y t. Less new x y (suc depth) key t (Below tree) (gone ++ root_of t ∷ []) in
    let Low : ℤ → Type 0 = λ x. (x <ℤ key) × L x (bound high step.behind) child in
    elim p.side [
      | inl l ↦
          let other = other_is one_page old new p.k hi depth child step p p.b cells right l.other_is n.other some two.last_child has stays in
          let High : ℤ → Type 0 = λ y. (key ≤ℤ y) × L lo y child in
          let low_is = subst Low (l.low low) (beside.above, less) in
          let high_is = subst High (l.high high) (beside.below, low_is.1) in
          let half : L lo p.k p.a = subst (λ t. L lo p.k t) (sym l.took) high_is.1 in
          record {
            lefts = one tree;
            rights = other.run;
            less = inl (record { above = low_is.0; below = high_is.0; child = tree; left_is = refl; less = half; right_is = other.is; stays = other.stays });
            cells_are = ap (λ b. cells_if b c between cells right) l.test
                ∙ ap₂ (λ (m : ℕ) (l : List InnerCell). record { child = m; rowid = between } ∷ l) (sym rooted) other.cells_are
                ∙ ap (λ k. record { child = root_of tree; rowid = k } ∷ cells_of other.run.front) n.key;
            right_is = ap (λ b. right_if b c right) l.test ∙ other.right_is;
            is = joined.is new lo p.k hi depth (one tree) other.run (record { children = tt; last_child = half.is }) other.run_is;
          }
      | inr r ↦
          let other = other_is one_page old new lo p.k depth child step p p.a cells right r.other_is n.other some two.children.0 has stays in
          let High : ℤ → Type 0 = λ y. (key ≤ℤ y) × L p.k y child in
          let low_is = subst Low (r.low low) (beside.above, less) in
          let high_is = subst High (r.high high) (beside.below, low_is.1) in
          let half : L p.k hi p.b = subst (λ t. L p.k hi t) (sym r.took) high_is.1 in
          let f : ℕ → ℤ → List InnerCell = λ m k. record { child = m; rowid = k } ∷ [] in
          record {
            lefts = other.run;
            rights = one tree;
            less = inr (record { above = low_is.0; below = high_is.0; child = tree; right_is = refl; less = half; left_is = other.is; stays = other.stays });
            cells_are = ap (λ b. cells_if b c between cells right) r.test
                ∙ ap₂ (λ (l : List InnerCell) (m : ℕ). l ++ f m between) other.cells_are other.right_is
                ∙ ap (λ k. cells_of other.run.front ++ f (root_of other.run.last) k) n.key
                ∙ sym (map-append cell_of other.run.front (record { tree = other.run.last; key = p.k } ∷ []));
            right_is = ap (λ b. right_if b c right) r.test ∙ sym rooted;
            is = joined.is new lo p.k hi depth other.run (one tree) other.run_is (record { children = tt; last_child = half.is });
          }
    ]

-- a key among those of a run lies within its bounds

key_inside : (pages : Pages) (low high : ℤ) (depth : ℕ) (front : List Piece) (last : Tree) (part rest : List InnerCell) (cell : InnerCell)
    → IsRun pages low high depth (record { front = front; last = last }) → cells_of front ≡ part ++ cell ∷ rest → (low <ℤ cell.rowid) × (cell.rowid <ℤ high)
key_inside pages low high depth [] last part rest cell is e = absurd (omega (arith, ap (λ (l : List InnerCell). length l) e, length-append part (cell ∷ rest)))
key_inside pages low high depth (p ∷ more) last [] rest cell is e =
    let later : IsRun pages p.key high depth (record { front = more; last = last }) = record { children = is.children.1; last_child = is.last_child } in
    let same : cell_of p ≡ cell = cc in
    let key : p.key ≡ cell.rowid = ap (λ (c : InnerCell). c.rowid) same in (
      subst (λ k. low <ℤ k) key (child_strict pages low p.key depth p.tree is.children.0),
      subst (λ k. k <ℤ high) key (strict pages p.key high depth (record { front = more; last = last }) later),
    )
key_inside pages low high depth (p ∷ more) last (q ∷ part) rest cell is e =
    let later : IsRun pages p.key high depth (record { front = more; last = last }) = record { children = is.children.1; last_child = is.last_child } in
    let same : cells_of more ≡ part ++ cell ∷ rest = cc in
    let inside = key_inside pages p.key high depth more last part rest cell later same in
    (lt_trans_ℤ low p.key cell.rowid (child_strict pages low p.key depth p.tree is.children.0) inside.0, inside.1)

-- the cells of the page above, with another key in place of the one between the two, or without it

abbrev keys : List InnerCell → List ℤ
keys cells = map rowid_of (map inner cells)

pieces_after : Tree → Behind → List Piece
pieces_after b Nothing = []
pieces_after b (Next key rest) = record { tree = b; key = key } ∷ rest.front

above_front : (pages : Pages) (low : ℤ) (depth : ℕ) (before : List Piece) (cells : List InnerCell) → AreChildren pages low depth before → AreAbove (last_key low before) (keys cells)
    → AreAbove low (keys (cells_of before ++ cells))
above_front pages low depth [] cells are above = above
above_front pages low depth (p ∷ before) cells are above = (child_strict pages low p.key depth p.tree are.0, above_front pages p.key depth before cells are.1 above)

split_cells : (before : List Piece) (a : Tree) (k : ℤ) (b : Tree) (behind : Behind)
    → cells_of (within before (pair_of a k b) behind).front ≡ cells_of before ++ (record { child = root_of a; rowid = k } ∷ cells_of (pieces_after b behind))
unfolding pieces_after
split_cells before a k b Nothing = map-append cell_of before (record { tree = a; key = k } ∷ [])
split_cells before a k b (Next key rest) = map-append cell_of before (record { tree = a; key = k } ∷ record { tree = b; key = key } ∷ rest.front)

after_above : (pages : Pages) (low high : ℤ) (depth : ℕ) (b : Tree) (behind : Behind) → low <ℤ bound high behind → IsBehind pages high depth behind
    → AreAbove low (keys (cells_of (pieces_after b behind)))
unfolding pieces_after
after_above pages low high depth b Nothing less is = tt
after_above pages low high depth b (Next key rest) less is = (less, keys_above pages key depth rest.front is.children)

front_above : (pages new : Pages) (low high lo : ℤ) (depth deep : ℕ) (b : Tree) (behind : Behind) (run : Run) (front : List Sheet) (last : PageCells) (right page : ℕ)
    → IsRun new lo (bound high behind) deep run → IsBehind pages high depth behind → AreInnerParts front last (cells_of run.front) right → IsOnLeft page front
    → AreAbove lo (keys (up_cells front ++ cells_of (pieces_after b behind)))
front_above pages new low high lo depth deep b behind run [] last right page is after parts left = after_above pages lo high depth b behind (strict new lo (bound high behind) deep run is) after
front_above pages new low high lo depth deep b behind run (sheet ∷ []) last right page is after parts left =
    let cell : InnerCell = record { child = parts.1.child; rowid = sheet.key } in
    let inside = key_inside new lo (bound high behind) deep run.front run.last parts.1.part parts.0 cell is parts.1.joined in
    (inside.0, after_above pages sheet.key high depth b behind inside.1 after)
front_above pages new low high lo depth deep b behind run (sheet ∷ other ∷ more) last right page is after parts left = absurd left

-- the keys of the page above rise with that of the first part
pub pair_rises : (old new : Pages) (usable : ℕ) (low high : ℤ) (depth : ℕ) (key : ℤ) (child : Tree) (step : Beside) (c : ℕ) (cells : List InnerCell) (right : ℕ) (gone : List ℕ)
    (p : Paired child step) (sheets : Sheets) (front : List Sheet) → IsBeside low high key child step → Stands old low high (suc depth) child step
    → Joins old new low high depth key child step c cells right gone p → IsJoined usable step.level c cells right sheets front → KeysRise (with_pair step.level front)
pair_rises old new usable low high depth key child step c cells right gone p sheets front beside stands j joined =
    let n = numbered low high key child step p beside in
    let R : Run → Type 0 = IsRun old low high (suc depth) in
    let parts = (run_within.parts old low high (suc depth) p.before (pair_of p.a p.k p.b) p.behind).0 (subst R (sym p.is) stands.is) in
    let level = step.level in
    let first : InnerCell = record { child = root_of p.a; rowid = p.k } in
    let after : List InnerCell = cells_of (pieces_after p.b p.behind) in
    let split : level.cells ≡ cells_of p.before ++ first ∷ after = sym n.has.cells_are ∙ split_cells p.before p.a p.k p.b p.behind in
    let cut = seam (cells_of p.before) after first (pair_at level) (p.at ∙ sym (length-map p.before cell_of)) in
    let same : with_pair level front ≡ cells_of p.before ++ (up_cells front ++ after) =
    ap (λ (l : List InnerCell). take (pair_at level) l ++ (up_cells front ++ drop (suc (pair_at level)) l)) split
    ∙ ap₂ (λ (x y : List InnerCell). x ++ (up_cells front ++ y)) cut.0 cut.1 in
    let P : List InnerCell → Type 0 = λ l. AreInnerParts front sheets.last l (joined_right level c right) in
    let are = subst P j.cells_are (numbered_parts sheets.front.items front sheets.last _ _ joined.numbered
    (cut_parts (right_page level) usable (joined_right level c right) (joined_cells level c cells right) sheets joined.cut)) in
    let lo : ℤ = last_key low p.before in
    let above : AreAbove low (keys (cells_of p.before ++ (up_cells front ++ after))) = above_front old low (suc depth) p.before (up_cells front ++ after) parts.0
    (front_above old new low high lo (suc depth) depth p.b p.behind (joined_run j.lefts p.k j.rights) front sheets.last (joined_right level c right) (left_page level)
    j.is parts.2 are joined.on_left) in
    let K : List InnerCell → Type 0 = KeysRise in
    subst K (sym same) (keys_rise low _ above)

-- so the two can be joined
joinable : (old new : Pages) (usable : ℕ) (low high : ℤ) (depth : ℕ) (key : ℤ) (child : Tree) (step : Beside) (c : ℕ) (cells : List InnerCell) (right : ℕ) (gone : List ℕ)
    (p : Paired child step) → IsBeside low high key child step → Stands old low high (suc depth) child step
    → Joins old new low high depth key child step c cells right gone p → ¬ (IsUnjoined usable step.level c cells right)
joinable old new usable low high depth key child step c cells right gone p beside stands j (inl falls) =
    let K : List InnerCell → Type 0 = KeysRise in
    falls (subst K (sym j.cells_are) (keys_rise (last_key low p.before) _ (keys_above new (last_key low p.before) depth _ j.is.children)))
joinable old new usable low high depth key child step c cells right gone p beside stands j (inr falls) =
    falls.not_rising (pair_rises old new usable low high depth key child step c cells right gone p falls.sheets falls.front beside stands j falls.joined)

-- and the page beside is no leaf
no_leaf : OnePage → (old new : Pages) (low high : ℤ) (depth : ℕ) (key : ℤ) (child tree : Tree) (step : Beside) (cells : List LeafCell) (gone : List ℕ)
    (p : Paired child step) → IsBeside low high key child step → Stands old low high (suc depth) child step
    → Less new (last_key low step.before) (bound high step.behind) (suc depth) key child (Below tree) gone → ¬ (HasCells old (sibling_of step.level) (LeafPage cells))
no_leaf one_page old new low high depth key child tree step cells gone p beside stands less has =
    let n = numbered low high key child step p beside in
    let R : Run → Type 0 = IsRun old low high (suc depth) in
    let two = ((run_within.parts old low high (suc depth) p.before (pair_of p.a p.k p.b) p.behind).0 (subst R (sym p.is) stands.is)).1 in
    let some : 1 ≤ depth = deep depth tree less.is.level in
    let H : ℕ → Type 0 = λ m. HasCells old m (LeafPage cells) in
    elim p.side [
      | inl l ↦ leaf_not_inner one_page old (root_of p.b) cells _ _ (subst H (n.other ∙ ap root_of (sym l.other_is)) has)
          (inner_tree old p.k (bound high p.behind) depth p.b some two.last_child).has
      | inr r ↦ leaf_not_inner one_page old (root_of p.a) cells _ _ (subst H (n.other ∙ ap root_of (sym r.other_is)) has)
          (inner_tree old (last_key low p.before) p.k depth p.a some two.children.0).has
    ]

-- so the page does not stay over its one child
pub none_alone : OnePage → (old new : Pages) (low high : ℤ) (depth : ℕ) (key : ℤ) (child tree : Tree) (step : Beside) (c : ℕ) (gone : List ℕ)
    (p : Paired child step) → IsBeside low high key child step → Stands old low high (suc depth) child step → root_of tree ≡ c
    → Less new (last_key low step.before) (bound high step.behind) (suc depth) key child (Below tree) (gone ++ root_of child ∷ []) → StaysBeside old new step
    → (cells : PageCells) → HasCells old (sibling_of step.level) cells → ¬ (CannotJoin old.usable (root_of child) c step.level cells)
none_alone one_page old new low high depth key child tree step c gone p beside stands rooted less stays (LeafPage cells) has cannot =
    no_leaf one_page old new low high depth key child tree step cells (gone ++ root_of child ∷ []) p beside stands less has
none_alone one_page old new low high depth key child tree step c gone p beside stands rooted less stays (InteriorPage cells right) has (inl differs) =
    differs (child_is low high key child step beside)
none_alone one_page old new low high depth key child tree step c gone p beside stands rooted less stays (InteriorPage cells right) has (inr unjoined) =
    joinable old new old.usable low high depth key child step c cells right gone p beside stands
    (joins one_page old new low high depth key child tree step c cells right gone p beside stands rooted less has stays) unjoined

-- the parts of both on their pages

pub record PairOn (old new : Pages) (low high : ℤ) (depth : ℕ) (key : ℤ) (child : Tree) (step : Beside) (gone : List ℕ) (p : Paired child step) (front : List Sheet) : Type 0 where
  pub lefts : Run
  pub rights : Run
  pub pair : Pair old new low high depth key p.before p.a p.k p.b p.behind lefts rights gone front

pub pair_on : (old new : Pages) (usable : ℕ) (low high : ℤ) (depth : ℕ) (key : ℤ) (child : Tree) (step : Beside) (c : ℕ) (cells : List InnerCell) (right : ℕ) (gone : List ℕ)
    (p : Paired child step) (sheets : Sheets) (front others : List Sheet) → IsBeside low high key child step → Stands old low high (suc depth) child step
    → Joins old new low high depth key child step c cells right gone p → IsJoined usable step.level c cells right sheets front
    → AllByRecursion (λ sheet. HasCells new sheet.number sheet.cells) (front ++ (on (right_page step.level) sheets.last ∷ others))
    → PairOn old new low high depth key child step gone p front
pair_on old new usable low high depth key child step c cells right gone p sheets front others beside stands j joined all =
    let n = numbered low high key child step p beside in
    let level = step.level in
    let run : Run = joined_run j.lefts p.k j.rights in
    let H : Sheet → Type 0 = λ sheet. HasCells new sheet.number sheet.cells in
    let R : Run → Type 0 = IsRun old low high (suc depth) in
    let last = all_behind H front (on (right_page level) sheets.last ∷ others) all in
    let N : ℕ → Type 0 = λ m. HasCells new m sheets.last in
    let C : List InnerCell → ℕ → Type 0 = λ l r. IsCut (right_page level) usable (InteriorPage l r) sheets in
    let cut : C (cells_of run.front) (root_of run.last) =
    subst (λ r. C (cells_of run.front) r) j.right_is (subst (λ l. C l (joined_right level c right)) j.cells_are joined.cut) in
    let some : 1 ≤ length (page_cells (InteriorPage (cells_of run.front) (root_of run.last))) = omega (
      arith,
      length-map (cells_of run.front) inner,
      length-map run.front cell_of,
      length-append j.lefts.front (record { tree = j.lefts.last; key = p.k } ∷ j.rights.front),
    ) in
    record {
      lefts = j.lefts;
      rights = j.rights;
      pair = record {
        is = subst R (sym p.is) stands.is;
        one_less = j.less;
        last = sheets.last;
        are = numbered_parts sheets.front.items front sheets.last _ _ joined.numbered (cut_parts (right_page level) usable (root_of run.last) (cells_of run.front) sheets cut);
        on = on_pages new (right_page level) usable (root_of p.b) (InteriorPage (cells_of run.front) (root_of run.last)) sheets front some cut
            (record { numbered = joined.numbered; each = all_front H front (on (right_page level) sheets.last ∷ others) all; last = subst N n.right last.0 });
        on_left = let O : ℕ → Type 0 = λ m. OnLeft m front in subst O n.left (left_of (left_page level) front joined.on_left);
      };
    }
  where
    left_of : (page : ℕ) (front : List Sheet) → IsOnLeft page front → OnLeft page front
    left_of page [] is = tt
    left_of page (sheet ∷ []) is = (is, refl)
    left_of page (sheet ∷ other ∷ more) is = absurd is
