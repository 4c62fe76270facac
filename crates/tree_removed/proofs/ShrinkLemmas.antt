-- A removal, from what is left of the leaf up to the root.
use Rattle.std.proofs.Common.{◌≡◌, inl, inr, ℕ, suc, ◌+◌, ◌≤◌, ℤ, List, [], ◌∷◌, ◌++◌, length, take, drop, Option, Some, None, IfSome, refl, sym, ap, subst, ◌∙◌}
use Rattle.std.proofs.Common.{arith, length-append, length-take, length-drop}
use Rattle.std.specs.List.{AllByRecursion}
use Rattle.std.proofs.lemmas.Bool.{cases_lt}
use Rattle.std.proofs.lemmas.List.{length-map}
use Rattle.page_list.specs.Pages.{Pages, times, Among}
use Rattle.page_list.proofs.TimesLemmas.{times-append}
use Rattle.tree_page.specs.declared.cell.InnerCell.{InnerCell}
use Rattle.tree_page.specs.declared.cell.PageCells.{PageCells}
use Rattle.tree_page.specs.declared.cell.PageCells.TheVariants.{Interior as InteriorPage}
use Rattle.tree_page.specs.Page.{inner}
use Rattle.tree_page.specs.Written.{Fits}
use Rattle.tree_model.specs.Tree.{Tree, root_of}
use Rattle.tree_model.specs.Held.{HasCells}
use Rattle.tree_model.specs.Whole.{most_depth}
use Rattle.tree_model.specs.Laws.{Keeps}
use Rattle.tree_model.specs.declared.level.Level.{Level}
use Rattle.tree_run.specs.Node.{Piece, cell_of, cells_of, pages_in, last_key}
use Rattle.tree_run.specs.Run.{Run, one, over, Behind, Nothing as NoneBehind, Next, within, bound, behind_pages}
use Rattle.tree_run.specs.Edit.{Removes}
use Rattle.tree_run.proofs.RunLemmas.{run_over}
use Rattle.page_cut.specs.declared.parts.Sheet.{Sheet}
use Rattle.page_cut.specs.declared.parts.Sheets.{Sheets}
use Rattle.page_cut.specs.Cut.{IsWhole}
use Rattle.tree_level.specs.Level.{numbers, up_cells, Instead}
use Rattle.tree_plan.specs.Law.{AreNumbered}
use Rattle.tree_plan.specs.Climb.{on, RootFits}
use Rattle.tree_plan.proofs.LawLemmas.{on_pages}
use Rattle.tree_laws.proofs.FrontLemmas.{top_count}
use Rattle.tree_shrink.specs.Rest.{Rest, Trees, Below, Gone, left_of, cells_left, rest_over}
use Rattle.tree_shrink.specs.Level.{Less, lost_page, HasLeft}
use Rattle.tree_shrink.specs.Join.{pair_of, joined_run, joined_lost as lost_of_pair}
use Rattle.tree_shrink.specs.Root.{RootLeft}
use Rattle.tree_shrink.proofs.RunLemmas.{child_left_out}
use Rattle.tree_shrink.proofs.LevelLemmas.{less_instead, inner_loses}
use Rattle.tree_shrink.proofs.JoinLemmas.{inner_joins}
use Rattle.tree_join.specs.declared.level.Left.{Left}
use Rattle.tree_join.specs.declared.level.Left.TheVariants.{Parts, Over, Nothing}
use Rattle.tree_join.specs.declared.pair.JoinPlan.{JoinPlan}
use Rattle.tree_join.specs.Join.{IsLeftOut, pair_at, left_page, right_page, sibling_of, with_pair, joined_lost, listed, IsOnLeft, IsAfter, IsJoin}
use Rattle.tree_put.specs.Way.{Beside, with_child, low_at, high_at, around, IsBeside, AreBeside, Stands}
use Rattle.tree_put.proofs.CountLemmas.{levels_of, beside_of, numbers_append, out_count, around_first, levels_around}
use Rattle.tree_put.proofs.KeptLemmas.{keeps_less}
use Rattle.tree_put.proofs.ClimbLemmas.{HasParts, inner_parts, few_uncut}
use Rattle.tree_remove.specs.Shrink.{AreShrunk}
use Rattle.tree_removed.specs.Removes.{IsOver}
use Rattle.tree_removed.proofs.ClimbLemmas.{Plans}
use Rattle.tree_removed.proofs.PairLemmas.{Paired, paired, numbered, pair_count, beside_count}
use Rattle.tree_removed.proofs.JoinLemmas.{numbered_parts, cut_parts, StaysBeside, Joins, pair_rises, pair_on}

-- how often pages are written and lost

front_count : (n page : ℕ) (front : List Sheet) → IsOnLeft page front → times n (numbers front) + times n (joined_lost page front) ≡ times n (page ∷ [])
front_count n page [] on = omega arith
front_count n page (sheet ∷ []) on = omega (arith, ap (λ m. times n (m ∷ [])) on)
front_count n page (sheet ∷ other ∷ more) on = absurd on

pub join_count : (n usable : ℕ) (level : Level) (c : ℕ) (cells : List InnerCell) (right : ℕ) (plan : JoinPlan) → IsJoin usable level c cells right plan
    → times n (numbers plan.sheets.items) + times n (listed plan.lost) ≡ times n (left_page level ∷ []) + times n (right_page level ∷ [])
join_count n usable level c cells right plan join =
    omega (
      arith,
      ap (λ (l : List Sheet). times n (numbers l)) join.written,
      numbers_append n join.front (on (right_page level) join.sheets.last ∷ []),
      ap (times n) join.lost,
      front_count n (left_page level) join.front join.joined.on_left,
    )

pub sibling_count : (n : ℕ) (low high key : ℤ) (child : Tree) (step : Beside) → IsBeside low high key child step → 1 ≤ length step.level.cells
    → (times n (left_page step.level ∷ []) + times n (right_page step.level ∷ []) ≡ times n (root_of child ∷ []) + times n (sibling_of step.level ∷ []))
    × (times n (sibling_of step.level ∷ []) ≤ times n (beside_of step))
sibling_count n low high key child step beside some =
    let p = paired low high key child step beside some in
    let is = numbered low high key child step p beside in
    let N : ℕ → ℕ = λ m. times n (m ∷ []) in (
      omega (arith, ap N is.left, ap N is.right, ap N is.other, pair_count n child step p),
      omega (arith, ap N is.other, beside_count n child step p, top_count n p.other),
    )

pub up_number : (child : Tree) (step : Beside) → root_of (with_child child step) ≡ step.level.number
up_number child step = run_over.rooted step.level.number (within step.before (one child) step.behind)

pub shrunk_count : (pages : Pages) (low high key : ℤ) (child : Tree) (left : Left) (steps : List Beside) (taken : List ℕ) (out : List Sheet) (lost : List ℕ) (above : Option ℕ)
    → AreBeside low high key child steps → AreShrunk pages (root_of child) left (levels_of steps) taken out lost above → (n : ℕ)
    → times n (numbers out) + times n lost ≤ times n taken + times n (root_of child ∷ around steps)
shrunk_count pages low high key child (Parts sheets) steps taken out lost above beside shrunk n =
    omega (arith, out_count pages.usable (root_of child) sheets (levels_of steps) taken out shrunk.0 n, levels_around n steps, ap (times n) shrunk.1)
shrunk_count pages low high key child Nothing [] taken out lost above beside shrunk n =
    omega (arith, ap (λ (l : List Sheet). times n (numbers l)) shrunk.1, ap (times n) shrunk.2)
shrunk_count pages low high key child Nothing (step ∷ steps) taken out lost above beside (left, more, left_out, lost_is, rest) n =
    let S : ℕ → Type 0 = λ m. AreShrunk pages m left (levels_of steps) taken out more above in
    omega (
      arith,
      shrunk_count pages low high key (with_child child step) left steps taken out more above beside.1 (subst S (sym (up_number child step)) rest) n,
      ap (times n) lost_is,
      around_first n step steps,
      ap (λ m. times n (m ∷ [])) (up_number child step),
    )
shrunk_count pages low high key child (Over c) [] taken out lost above beside shrunk n = omega (arith, ap (λ (l : List Sheet). times n (numbers l)) shrunk.1, ap (times n) shrunk.2)
shrunk_count pages low high key child (Over c) (step ∷ steps) taken out lost above beside (inl (others, more, only, rest)) n =
    let S : ℕ → Type 0 = λ m. AreShrunk pages m (Over c) (levels_of steps) taken others more above in
    omega (
      arith,
      shrunk_count pages low high key (with_child child step) (Over c) steps taken others more above beside.1 (subst S (sym (up_number child step)) rest) n,
      ap (λ (l : List Sheet). times n (numbers l)) only.out_are,
      ap (times n) only.lost_are,
      around_first n step steps,
      ap (λ m. times n (m ∷ [])) (up_number child step),
    )
shrunk_count pages low high key child (Over c) (step ∷ steps) taken out lost above beside (inr (inl (plan, others, more, joined, rest))) n =
    let S : ℕ → Type 0 = λ m. AreShrunk pages m plan.left (levels_of steps) taken others more above in
    let pair = sibling_count n (low_at low steps) (high_at high steps) key child step beside.0 joined.some in
    omega (
      arith,
      shrunk_count pages low high key (with_child child step) plan.left steps taken others more above beside.1 (subst S (sym (up_number child step)) rest) n,
      ap (λ (l : List Sheet). times n (numbers l)) joined.out_are,
      numbers_append n plan.sheets.items others,
      ap (times n) joined.lost_are,
      times-append n (listed plan.lost) more,
      join_count n pages.usable step.level c joined.cells joined.right plan joined.is,
      pair.0,
      pair.1,
      around_first n step steps,
      ap (λ m. times n (m ∷ [])) (up_number child step),
    )
shrunk_count pages low high key child (Over c) (step ∷ steps) taken out lost above beside (inr (inr (alone, taken_is, lost_is, over_is))) n =
    omega (arith, ap (λ (l : List Sheet). times n (numbers l)) alone.out_are, ap (times n) lost_is)

-- what is left of a tree, once its sheets are on their pages

pub record OneLeft (new : Pages) (low high : ℤ) (depth : ℕ) (key : ℤ) (child : Tree) (c : ℕ) (gone : List ℕ) : Type 0 where
  pub below : ℕ
  pub deep : depth ≡ suc below
  pub tree : Tree
  pub rooted : root_of tree ≡ c
  pub less : Less new low high (suc below) key child (Below tree) (gone ++ root_of child ∷ [])

pub record PartsLeft (new : Pages) (usable : ℕ) (low high : ℤ) (depth : ℕ) (key : ℤ) (child : Tree) (sheets : Sheets) (steps : List Beside) (gone : List ℕ) : Type 0 where
  pub parts : HasParts usable (root_of child) sheets
  pub plans : Plans new usable low high depth (Removes key) child sheets [] gone
  pub deep : steps ≡ [] → ¬ (RootFits usable (root_of child) sheets) → suc depth ≤ most_depth

abbrev pub IsLeft : Pages → ℕ → ℤ → ℤ → ℕ → ℤ → Tree → Left → List Beside → List ℕ → Type 0
IsLeft new usable low high depth key child (Parts sheets) steps gone = PartsLeft new usable low high depth key child sheets steps gone
IsLeft new usable low high depth key child (Over c) steps gone = OneLeft new low high depth key child c gone
IsLeft new usable low high depth key child Nothing steps gone = Less new low high depth key child Gone (gone ++ root_of child ∷ [])

-- only how often pages are gone counts

pub less_same : (new : Pages) (low high : ℤ) (depth : ℕ) (key : ℤ) (was : Tree) (rest : Rest) (gone gone' : List ℕ) → ((n : ℕ) → times n gone ≡ times n gone')
    → Less new low high depth key was rest gone → Less new low high depth key was rest gone'
less_same new low high depth key was rest gone gone' same less = record { is = less.is; rows = less.rows; named = λ n. omega (arith, less.named n, same n) }

instead_same : (new : Pages) (low high : ℤ) (depth : ℕ) (key : ℤ) (was : Tree) (ups : List InnerCell) (page : ℕ) (fresh gone gone' : List ℕ) → ((n : ℕ) → times n gone ≡ times n gone')
    → Instead new low high depth (Removes key) was ups page fresh gone → Instead new low high depth (Removes key) was ups page fresh gone'
instead_same new low high depth key was ups page fresh gone gone' same instead = record {
  run = instead.run;
  is = instead.is;
  named_by = instead.named_by;
  top = instead.top;
  rows = instead.rows;
  named = λ n. omega (arith, instead.named n, same n);
}

pub left_same : (new : Pages) (key : ℤ) (was tree : Tree) (gone gone' : List ℕ) → ((n : ℕ) → times n gone ≡ times n gone') → RootLeft new key was tree gone → RootLeft new key was tree gone'
left_same new key was tree gone gone' same left = record {
  depth = left.depth;
  is = left.is;
  shallow = left.shallow;
  rows = left.rows;
  named = λ n. omega (arith, left.named n, same n);
}

pub over_same : (new : Pages) (key : ℤ) (was : Tree) (taken gone gone' : List ℕ) (above : Option ℕ) → ((n : ℕ) → times n gone ≡ times n gone') → IsOver new key was taken gone above
    → IsOver new key was taken gone' above
over_same new key was taken gone gone' None same is = record { tree = is.tree; whole = is.whole; rows = is.rows; named = λ n. omega (arith, is.named n, same n) }
over_same new key was taken gone gone' (Some child) same is = (is.0, (is.1.0, is.1.1, left_same new key was is.1.0 gone gone' same is.1.2))

-- a page without the child that is gone

pub whole_left : (new : Pages) (usable : ℕ) (low high : ℤ) (depth page : ℕ) (key : ℤ) (was tree : Tree) (whole : PageCells) (sheets : Sheets) (steps : List Beside) (gone gone' : List ℕ)
    → IsWhole page usable whole sheets → HasParts usable page sheets → root_of was ≡ page → root_of tree ≡ page → ((n : ℕ) → times n gone' ≡ times n gone)
    → (HasCells new page whole → Less new low high depth key was (Trees (one tree)) gone') → PartsLeft new usable low high depth key was sheets steps gone
whole_left new usable low high depth page key was tree whole sheets steps gone gone' is parts rooted top same less =
    let H : ℕ → Type 0 = λ m. HasParts usable m sheets in
    let F : ℕ → Type 0 = λ m. RootFits usable m sheets in
    let W : PageCells → Type 0 = λ c. Fits c page usable in
    let fits : RootFits usable (root_of was) sheets = subst F (sym rooted) (is.none, subst W (sym is.all) is.fits) in
    record {
      parts = subst H (sym rooted) parts;
      plans = λ front number on which.
          let number_is : number ≡ root_of was = elim which [ inl same ↦ same | inr falls ↦ absurd (falls fits) ] in
          let C : PageCells → Type 0 = λ c. HasCells new page c in
          let D : ℕ → Type 0 = λ m. HasCells new m sheets.last in
          let N : List Sheet → Type 0 = λ l. AreNumbered l front in
          let none : front ≡ [] = no_parts front (subst N is.none on.numbered) in
          let instead = instead_same new low high depth key was [] (root_of was) [] gone' gone same
          (less_instead new low high depth key was tree gone' (less (subst C is.all (subst D (number_is ∙ rooted) on.last))) (top ∙ sym rooted)) in
          let I : List Sheet → Type 0 = λ l. Instead new low high depth (Removes key) was (up_cells l) (root_of was) ([] ++ numbers l) gone in
          let J : ℕ → Type 0 = λ m. Instead new low high depth (Removes key) was (up_cells front) m ([] ++ numbers front) gone in
          subst J (sym number_is) (subst I (sym none) instead);
      deep = λ top falls. absurd (falls fits);
    }
  where
    no_parts : (front : List Sheet) → AreNumbered [] front → front ≡ []
    no_parts [] same = refl
    no_parts (t ∷ others) same = absurd same

abbrev Lost : Pages → ℕ → ℤ → ℤ → ℕ → ℤ → Tree → ℕ → Option Run → Option (List InnerCell × ℕ) → List ℕ → Type 0
Lost new usable low high depth key was page o cells gone = HasLeft new page (rest_over (over page) o) cells →
    Less new low high depth key was (rest_over (over page) o) (gone ++ lost_page page (rest_over (over page) o))

-- what is left, by what the cells say is left
abbrev LeavesCells : ℕ → ℕ → Option (List InnerCell × ℕ) → Left → Type 0
LeavesCells usable page cells Nothing = cells ≡ None
LeavesCells usable page cells (Over c) = cells ≡ Some ([], c)
LeavesCells usable page cells (Parts sheets) = (left : List InnerCell) × (right : ℕ) × (cells ≡ Some (left, right)) × (1 ≤ length left) × IsWhole page usable (InteriorPage left right) sheets

none_some : {A : Type 0} (o : Option A) (x : A) → o ≡ None → o ≡ Some x → ⊥
none_some o x a b = cc

same_left : (o : Option (List InnerCell × ℕ)) (a b : List InnerCell) (r s : ℕ) → o ≡ Some (a, r) → o ≡ Some (b, s) → (a ≡ b) × (r ≡ s)
same_left o a b r s x y = let e = sym x ∙ y in (ap cells_in e, ap right_in e)
  where
    cells_in : Option (List InnerCell × ℕ) → List InnerCell
    cells_in None = []
    cells_in (Some left) = left.0

    right_in : Option (List InnerCell × ℕ) → ℕ
    right_in None = 0
    right_in (Some left) = left.1

leaves : (new : Pages) (usable : ℕ) (low high : ℤ) (depth : ℕ) (key : ℤ) (was : Tree) (page : ℕ) (left : Left) (steps : List Beside) (front : List Piece) (last : Tree)
    (cells : Option (List InnerCell × ℕ)) (gone : List ℕ) → root_of was ≡ page → cells ≡ Some (cells_of front, root_of last) → LeavesCells usable page cells left
    → Lost new usable low high (suc depth) key was page (Some (record { front = front; last = last })) cells gone → IsLeft new usable low high (suc depth) key was left steps gone
leaves new usable low high depth key was page Nothing steps front last cells gone rooted are is lost = absurd (none_some cells _ is are)
leaves new usable low high depth key was page (Over c) steps [] last cells gone rooted are is lost =
    let L : ℕ → Type 0 = λ m. Less new low high (suc depth) key was (Below last) (gone ++ m ∷ []) in
    record { below = depth; deep = refl; tree = last; rooted = (same_left cells _ _ _ _ are is).1; less = subst L (sym rooted) (lost tt) }
leaves new usable low high depth key was page (Over c) steps (p ∷ more) last cells gone rooted are is lost =
    absurd (omega (arith, ap (λ (l : List InnerCell). length l) (same_left cells _ _ _ _ are is).0))
leaves new usable low high depth key was page (Parts sheets) steps [] last cells gone rooted are (left, right, is, some, whole) lost =
    absurd (omega (arith, some, ap (λ (l : List InnerCell). length l) (same_left cells _ _ _ _ are is).0))
leaves new usable low high depth key was page (Parts sheets) steps (p ∷ more) last cells gone rooted are (left, right, is, some, whole) lost =
    let run : Run = record { front = p ∷ more; last = last } in
    let P : Option (List InnerCell × ℕ) → Type 0 = HasLeft new page (Trees (one (over page run))) in
    whole_left new usable low high (suc depth) page key was (over page run) (InteriorPage left right) sheets steps gone (gone ++ []) whole
    (inner_parts usable page right left sheets (inl whole)) rooted (run_over.rooted page run) (λ n. omega (arith, times-append n gone []))
    (λ has. lost (subst P (sym is) has))

left_out : (new : Pages) (usable : ℕ) (low high : ℤ) (depth : ℕ) (key : ℤ) (was : Tree) (page : ℕ) (left : Left) (steps : List Beside) (o : Option Run)
    (cells : Option (List InnerCell × ℕ)) (gone : List ℕ) → root_of was ≡ page → (o ≡ None → cells ≡ None) → IfSome o (λ run. cells ≡ Some (cells_of run.front, root_of run.last))
    → LeavesCells usable page cells left → Lost new usable low high (suc depth) key was page o cells gone → IsLeft new usable low high (suc depth) key was left steps gone
left_out new usable low high depth key was page Nothing steps None cells gone rooted none are is lost =
    let L : ℕ → Type 0 = λ m. Less new low high (suc depth) key was Gone (gone ++ m ∷ []) in
    subst L (sym rooted) (lost tt)
left_out new usable low high depth key was page (Over c) steps None cells gone rooted none are is lost = absurd (none_some cells _ (none refl) is)
left_out new usable low high depth key was page (Parts sheets) steps None cells gone rooted none are (left, right, is, some, whole) lost = absurd (none_some cells _ (none refl) is)
left_out new usable low high depth key was page left steps (Some run) cells gone rooted none are is lost =
    leaves new usable low high depth key was page left steps run.front run.last cells gone rooted are is lost

leaves_cells : (usable : ℕ) (level : Level) (left : Left) → IsLeftOut usable level left → LeavesCells usable level.number (cells_left level.at level.cells level.right) left
leaves_cells usable level Nothing is = is
leaves_cells usable level (Over c) is = is
leaves_cells usable level (Parts sheets) is = is

pub loses : (old new : Pages) (usable : ℕ) (low high : ℤ) (depth : ℕ) (key : ℤ) (child : Tree) (step : Beside) (left : Left) (steps : List Beside) (gone : List ℕ)
    → IsBeside low high key child step → Stands old low high depth child step → Keeps old new (Among (beside_of step))
    → Less new (last_key low step.before) (bound high step.behind) depth key child Gone (gone ++ root_of child ∷ []) → IsLeftOut usable step.level left
    → IsLeft new usable low high (suc depth) key (with_child child step) left steps (gone ++ root_of child ∷ [])
loses old new usable low high depth key child step left steps gone beside stands keeps less is =
    let level = step.level in
    let cells_as = child_left_out.cells step.before child step.behind level.cells level.right level.at beside.has beside.at in
    left_out new usable low high depth key (with_child child step) level.number left steps (left_of step.before step.behind) (cells_left level.at level.cells level.right)
    (gone ++ root_of child ∷ []) (up_number child step) cells_as.0 cells_as.1 (leaves_cells usable level left is)
    (λ has. inner_loses old new low high depth level.number level.right level.at key step.before child step.behind level.cells (gone ++ root_of child ∷ []) stands.is beside.has
    beside.at beside.above beside.below less keeps has)

-- two pages are joined

same_lost : (page : ℕ) (front : List Sheet) → joined_lost page front ≡ lost_of_pair page front
same_lost page [] = refl
same_lost page (sheet ∷ more) = refl

lone : (before : List Piece) (a : Tree) (k : ℤ) (b : Tree) (behind : Behind) → length (within before (pair_of a k b) behind).front ≤ 1
    → root_of (within before (pair_of a k b) behind).last ≡ root_of b
lone before a k b NoneBehind few = refl
lone before a k b (Next key rest) few = absurd (omega (arith, few, length-append before (record { tree = a; key = k } ∷ record { tree = b; key = key } ∷ rest.front)))

few_parts : (page : ℕ) (front : List Sheet) → IsOnLeft page front → length front ≤ 1
few_parts page [] on = omega arith
few_parts page (sheet ∷ []) on = omega arith
few_parts page (sheet ∷ other ∷ more) on = absurd on

pair_long : (at : ℕ) (front : List Sheet) (cells : List InnerCell)
    → (length (take at cells ++ (up_cells front ++ drop (suc at) cells)) ≤ length front + length cells)
    × (length (take at cells ++ (up_cells front ++ drop (suc at) cells)) ≡ 0 → (length cells ≤ 1) × (length front ≡ 0))
pair_long at front cells =
    let g : Sheet → InnerCell = λ s. record { child = s.number; rowid = s.key } in
    let a = length-append (take at cells) (up_cells front ++ drop (suc at) cells) in
    let b = length-append (up_cells front) (drop (suc at) cells) in
    let c = length-map front g in
    let d = length-take at cells in
    let e = length-drop (suc at) cells in
    (omega (arith, a, b, c, d, e), λ none. (omega (arith, none, a, b, c, d, e), omega (arith, none, a, b, c, d, e)))

pub next_left : (old new : Pages) (usable : ℕ) (low high : ℤ) (depth : ℕ) (key : ℤ) (child : Tree) (step : Beside) (steps : List Beside) (c : ℕ) (cells : List InnerCell) (right : ℕ)
    (gone : List ℕ) (p : Paired child step) (plan : JoinPlan) (left : Left) → 480 ≤ usable → IsBeside low high key child step → Stands old low high (suc depth) child step
    → StaysBeside old new step → Joins old new low high depth key child step c cells right gone p → (join : IsJoin usable step.level c cells right plan)
    → AllByRecursion (λ sheet. HasCells new sheet.number sheet.cells) plan.sheets.items → IsAfter usable step.level join.front left
    → (suc (suc depth) ≡ most_depth → length step.level.cells ≤ 3) → (steps ≡ [] → suc (suc depth) ≤ most_depth)
    → IsLeft new usable low high (suc (suc depth)) key (with_child child step) left steps (gone ++ listed plan.lost)
next_left old new usable low high depth key child step steps c cells right gone p plan Nothing least beside stands stays j join all after few shallow = absurd after
next_left old new usable low high depth key child step steps c cells right gone p plan (Over next) least beside stands stays j join all after few shallow =
    let is = numbered low high key child step p beside in
    let level = step.level in
    let H : Sheet → Type 0 = λ sheet. HasCells new sheet.number sheet.cells in
    let A : List Sheet → Type 0 = λ l. AllByRecursion H l in
    let pair = pair_on old new usable low high depth key child step c cells right gone p join.sheets join.front [] beside stands j join.joined (subst A join.written all) in
    let long = (pair_long (pair_at level) join.front level.cells).1 (ap (λ (l : List InnerCell). length l) after.0) in
    let few_cells : length (within p.before (pair_of p.a p.k p.b) p.behind).front ≤ 1 = omega (
      arith,
      long.0,
      ap (λ (l : List InnerCell). length l) is.has.cells_are,
      length-map (within p.before (pair_of p.a p.k p.b) p.behind).front cell_of,
    ) in
    let tree : Tree = over (root_of p.b) (joined_run pair.lefts p.k pair.rights) in
    let less = inner_joins.alone old new low high depth level.number level.right (pair_at level) key p.before p.a p.k p.b p.behind pair.lefts pair.rights level.cells gone join.front
    pair.pair is.has p.at after.0 in
    let L : Run → Type 0 = λ r. Less new low high (suc (suc depth)) key (over level.number r) (Below tree) ((gone ++ listed plan.lost) ++ root_of (with_child child step) ∷ []) in
    let lost_is : (n : ℕ) → times n (listed plan.lost) ≡ times n (root_of p.a ∷ []) = λ n.
    ap (times n) (join.lost ∙ lost_all (left_page level) join.front long.1) ∙ ap (λ m. times n (m ∷ [])) is.left in
    record {
      below = suc depth;
      deep = refl;
      tree = tree;
      rooted = run_over.rooted (root_of p.b) (joined_run pair.lefts p.k pair.rights) ∙ sym (lone p.before p.a p.k p.b p.behind few_cells) ∙ is.has.right_is ∙ sym after.1;
      less = subst L p.is (less_same new low high (suc (suc depth)) key _ (Below tree) ((gone ++ root_of p.a ∷ []) ++ level.number ∷ [])
          ((gone ++ listed plan.lost) ++ root_of (with_child child step) ∷ [])
          (λ n. omega (
            arith,
            lost_is n,
            times-append n (gone ++ root_of p.a ∷ []) (level.number ∷ []),
            times-append n gone (root_of p.a ∷ []),
            times-append n (gone ++ listed plan.lost) (root_of (with_child child step) ∷ []),
            times-append n gone (listed plan.lost),
            ap (λ m. times n (m ∷ [])) (up_number child step),
          )) less);
    }
  where
    lost_all : (page : ℕ) (front : List Sheet) → length front ≡ 0 → joined_lost page front ≡ page ∷ []
    lost_all page [] none = refl
    lost_all page (s ∷ more) none = absurd (omega (arith, none))
next_left old new usable low high depth key child step steps c cells right gone p plan (Parts sheets) least beside stands stays j join all after few shallow =
    let is = numbered low high key child step p beside in
    let level = step.level in
    let H : Sheet → Type 0 = λ sheet. HasCells new sheet.number sheet.cells in
    let A : List Sheet → Type 0 = λ l. AllByRecursion H l in
    let pair = pair_on old new usable low high depth key child step c cells right gone p join.sheets join.front [] beside stands j join.joined (subst A join.written all) in
    let all_cells : List InnerCell = with_pair level join.front in
    let long = pair_long (pair_at level) join.front level.cells in
    let number : root_of (with_child child step) ≡ level.number = up_number child step in
    let P : ℕ → Type 0 = λ m. HasParts usable m sheets in
    let F : ℕ → Type 0 = λ m. RootFits usable m sheets in
    let keeps : Keeps old new (Among (pages_in p.before ++ behind_pages p.behind)) = keeps_less old new _ _ (λ n some. omega (
      arith,
      some,
      times-append n (pages_in p.before) (behind_pages p.behind),
      beside_count n child step p,
      top_count n p.other,
      ap (λ m. times n (m ∷ [])) is.other,
    )) stays in
    record {
      parts = subst P (sym number) (inner_parts usable level.number level.right all_cells sheets after.1);
      plans = λ front page on which.
          let I : Run → Type 0 = λ r. Instead new low high (suc (suc depth)) (Removes key) (over level.number r) (up_cells front) page (numbers front) (gone ++ listed plan.lost) in
          subst I p.is (instead_same new low high (suc (suc depth)) key _ (up_cells front) page (numbers front) (gone ++ lost_of_pair (root_of p.a) join.front) (gone ++ listed plan.lost)
          (λ n. omega (
            arith,
            times-append n gone (lost_of_pair (root_of p.a) join.front),
            times-append n gone (listed plan.lost),
            ap (times n) (join.lost ∙ same_lost (left_page level) join.front ∙ ap (λ m. lost_of_pair m join.front) is.left),
          ))
          (inner_joins.stands old new low high depth level.number page level.right (pair_at level) key p.before p.a p.k p.b p.behind pair.lefts pair.rights level.cells gone join.front
          front sheets.last pair.pair is.has p.at keeps
          (numbered_parts sheets.front.items front sheets.last all_cells level.right on.numbered (cut_parts level.number usable level.right all_cells sheets after.1))
          (on_pages new level.number usable page (InteriorPage all_cells level.right) sheets front (omega (arith, after.0, length-map all_cells inner)) after.1 on)));
      deep = λ top falls. elim (cases_lt (suc (suc depth)) most_depth) [
        | inl less ↦ omega (arith, less)
        | inr full ↦ absurd (falls (subst F (sym number) (few_uncut usable level.number level.right all_cells sheets least
            (omega (arith, long.0, few_parts (left_page level) join.front join.joined.on_left, few (omega (arith, full, shallow top))))
            (pair_rises old new usable low high depth key child step c cells right gone p join.sheets join.front beside stands j join.joined) after.1)))
      ];
    }
