-- The sheets of a removal fit on their pages, which are different ones, and so are the pages that are lost.
use Rattle.std.proofs.Common.{◌≡◌, ◌≢◌, inl, inr, ℕ, ◌+◌, ◌≤◌, ℤ, List, [], ◌∷◌, ◌++◌, length, map, Option, refl, sym, ap, ap₂, subst, ◌∙◌, arith, append_assoc}
use Rattle.std.specs.List.{flat_map, AllByRecursion}
use Rattle.std.proofs.lemmas.Bool.{cases_lt, cases_order}
use Rattle.std.proofs.lemmas.Bool.Decides.{nat_tests}
use Rattle.std.proofs.lemmas.List.{length-map}
use Rattle.page_list.specs.Pages.{Pages, times, Among, AllDifferent}
use Rattle.page_list.specs.Freelist.{Trunk}
use Rattle.page_list.proofs.TimesLemmas.{times-append, times-same, times-other, among-back}
use Rattle.tree_page.specs.declared.cell.LeafCell.{LeafCell}
use Rattle.tree_page.specs.declared.cell.InnerCell.{InnerCell}
use Rattle.tree_page.specs.declared.cell.PageCells.{PageCells}
use Rattle.tree_page.specs.declared.cell.PageCells.TheVariants.{Leaf as LeafPage, Interior as InteriorPage}
use Rattle.tree_page.specs.Page.{inner, rowid_of, first_pointer, page_kind, AreRising}
use Rattle.tree_page.specs.Written.{Fits}
use Rattle.tree_model.specs.Tree.{Row, Tree, Leaf, root_of, rows_of, pages_of}
use Rattle.tree_model.specs.Whole.{below_all, greatest, IsWholeFor}
use Rattle.tree_model.specs.Laws.{chains_of}
use Rattle.tree_model.specs.declared.level.Level.{Level}
use Rattle.tree_model.proofs.OthersLemmas.{split_named}
use Rattle.tree_run.specs.Edit.{chain_at, without}
use Rattle.page_cut.specs.declared.parts.Sheet.{Sheet}
use Rattle.page_cut.specs.declared.parts.Sheets.{Sheets}
use Rattle.page_cut.specs.Room.{FitsOther}
use Rattle.page_cut.specs.Cut.{IsPart, IsCut}
use Rattle.tree_level.specs.Level.{numbers, up_cells}
use Rattle.tree_plan.specs.Law.{AreNumbered}
use Rattle.tree_plan.specs.Climb.{on, RootFits, AreClimbed}
use Rattle.tree_laws.proofs.FrontLemmas.{below_top, none_below, top_count}
use Rattle.tree_laws.proofs.RangeLemmas.{named_there}
use Rattle.tree_laws.proofs.DeepLemmas.{whole_one}
use Rattle.tree_join.specs.declared.level.Left.{Left}
use Rattle.tree_join.specs.declared.level.Left.TheVariants.{Parts, Over, Nothing}
use Rattle.tree_join.specs.declared.pair.JoinPlan.{JoinPlan}
use Rattle.tree_join.specs.Join.{IsLeafLeft, IsLeftOut, IsAfter, IsJoin, left_page, right_page, with_pair, joined_cells, joined_right, listed}
use Rattle.tree_join.specs.Leaf.{other_cells}
use Rattle.tree_put.specs.Way.{Beside, with_child, tree_over, low_at, high_at, around, AreBeside, HoldWay}
use Rattle.tree_put.specs.Puts.{HasPlace}
use Rattle.tree_put.proofs.WayLemmas.{held_from}
use Rattle.tree_put.proofs.CountLemmas.{levels_of, beside_of, numbers_append, around_first, way_pages}
use Rattle.tree_put.proofs.ClimbLemmas.{as_many, few_fit}
use Rattle.tree_put.proofs.PutsLemmas.{tree_once, way_apart}
use Rattle.tree_put.proofs.ChainLemmas.{without_count, chain_over}
use Rattle.tree_remove.specs.Shrink.{AreShrunk}
use Rattle.tree_removed.specs.Removes.{IsShrinking, ShrinkFits}
use Rattle.tree_removed.proofs.ShrinkLemmas.{join_count, sibling_count, up_number, shrunk_count}
use Rattle.tree_removed.proofs.RemovesLemmas.{row_at_key}

abbrev keys_of : List Sheet → List ℤ
keys_of front = map (λ sheet. sheet.key) front

-- the parts of a page, and where they fit
record AreParted (usable number : ℕ) (sheets : Sheets) : Type 0 where
  few : length sheets.front.items ≤ 2
  keys : AreRising (keys_of sheets.front.items)
  each : AllByRecursion (λ sheet. FitsOther sheet.cells usable) sheets.front.items
  last : 2 ≤ number → Fits sheets.last number usable
  over : ¬ (RootFits usable number sheets) → FitsOther sheets.last usable

whole_parted : (usable number : ℕ) (whole : PageCells) (sheets : Sheets) → sheets.front.items ≡ [] → sheets.last ≡ whole → Fits whole number usable
    → AreParted usable number sheets
whole_parted usable number whole sheets none all fits =
    let P : PageCells → Type 0 = λ c. Fits c number usable in
    let K : List Sheet → Type 0 = λ l. AreRising (keys_of l) in
    let E : List Sheet → Type 0 = λ l. AllByRecursion (λ sheet. FitsOther sheet.cells usable) l in
    let there = subst P (sym all) fits in
    record {
      few = omega (arith, ap (λ (l : List Sheet). length l) none);
      keys = subst K (sym none) tt;
      each = subst E (sym none) tt;
      last = λ above. there;
      over = λ more. absurd (more (none, there));
    }

parts_fit : (usable : ℕ) (front : List Sheet) → AllByRecursion (λ sheet. IsPart usable sheet.cells) front → AllByRecursion (λ sheet. FitsOther sheet.cells usable) front
parts_fit usable [] all = tt
parts_fit usable (s ∷ more) all = (all.0.fits, parts_fit usable more all.1)

one_key : (front : List Sheet) → length front ≡ 1 → AreRising (keys_of front)
one_key [] one = tt
one_key (s ∷ []) one = tt
one_key (s ∷ t ∷ more) one = absurd (omega (arith, one))

inner_parted : (usable number right : ℕ) (cells : List InnerCell) (sheets : Sheets) → IsCut number usable (InteriorPage cells right) sheets → AreParted usable number sheets
inner_parted usable number right cells sheets (inl is) = whole_parted usable number _ sheets is.none is.all is.fits
inner_parted usable number right cells sheets (inr up) = record {
  few = omega (arith, up.few);
  keys = one_key sheets.front.items up.few;
  each = parts_fit usable sheets.front.items up.each;
  last = λ above. up.last.fits number above;
  over = λ more. up.last.fits;
}

-- with the numbers of their pages

abbrev FitsHere : ℕ → Sheet → Type 0
FitsHere usable sheet = Fits sheet.cells sheet.number usable

front_fits : (usable : ℕ) (front numbered : List Sheet) → AreNumbered front numbered → AllByRecursion (λ sheet. FitsOther sheet.cells usable) front
    → ((n : ℕ) → Among (numbers numbered) n → 2 ≤ n) → AllByRecursion (FitsHere usable) numbered
front_fits usable [] [] same all above = tt
front_fits usable [] (t ∷ others) same all above = absurd same
front_fits usable (s ∷ more) [] same all above = absurd same
front_fits usable (s ∷ more) (t ∷ others) same all above =
    let P : PageCells → Type 0 = λ c. Fits c t.number usable in (
      subst P (sym same.0) (all.0 t.number (above t.number (omega (arith, times-same t.number)))),
      front_fits usable more others same.2 all.1 (λ n some. above n (among-back n (t.number ∷ []) (numbers others) some)),
    )

same_keys : (front numbered : List Sheet) → AreNumbered front numbered → map rowid_of (map inner (up_cells numbered)) ≡ keys_of front
same_keys [] [] same = refl
same_keys [] (t ∷ others) same = absurd same
same_keys (s ∷ more) [] same = absurd same
same_keys (s ∷ more) (t ∷ others) same = ap₂ (λ (k : ℤ) (l : List ℤ). k ∷ l) same.1 (same_keys more others same.2)

all_joined : (P : Sheet → Type 0) (xs ys : List Sheet) → AllByRecursion P xs → AllByRecursion P ys → AllByRecursion P (xs ++ ys)
all_joined P [] ys a b = b
all_joined P (x ∷ xs) ys a b = (a.0, all_joined P xs ys a.1 b)

-- all pages below the root are others than page 1
abbrev AreAboveOne : ℕ → List Level → Type 0
AreAboveOne number [] = Unit {0}
AreAboveOne number (level ∷ more) = (2 ≤ number) × AreAboveOne level.number more

out_fits : (usable : ℕ) → 480 ≤ usable → (number : ℕ) (sheets : Sheets) (levels : List Level) (taken : List ℕ) (out : List Sheet) → AreParted usable number sheets
    → AreAboveOne number levels → ((n : ℕ) → Among taken n → 2 ≤ n) → AreClimbed usable number sheets levels taken out → AllByRecursion (FitsHere usable) out
out_fits usable least number sheets [] taken out parted above fresh (inl fits) =
    let A : List Sheet → Type 0 = λ l. AllByRecursion (FitsHere usable) l in
    subst A (sym fits.2) (fits.0.1, tt)
out_fits usable least number sheets [] taken out parted above fresh (inr cut) =
    let A : List Sheet → Type 0 = λ l. AllByRecursion (FitsHere usable) l in
    let R : List ℤ → Type 0 = λ l. AreRising l in
    let top : List Sheet = on cut.page sheets.last ∷ on number (InteriorPage (up_cells cut.front) cut.page) ∷ [] in
    let taken_is : (n : ℕ) → times n taken ≡ times n (numbers cut.front) + times n (cut.page ∷ []) = λ n. ap (times n) cut.taken_are ∙ times-append n (numbers cut.front)
    (cut.page ∷ []) in
    let g : Sheet → InnerCell = λ s. record { child = s.number; rowid = s.key } in
    subst A (sym cut.out_are) (all_joined (FitsHere usable) cut.front top
    (front_fits usable sheets.front.items cut.front cut.numbered parted.each (λ n some. fresh n (omega (arith, some, taken_is n)))) (
      parted.over cut.over cut.page (fresh cut.page (omega (arith, taken_is cut.page, times-same cut.page))),
      (
        few_fit usable number cut.page (up_cells cut.front) least
            (omega (arith, parted.few, as_many sheets.front.items cut.front cut.numbered, length-map cut.front g))
            (subst R (sym (same_keys sheets.front.items cut.front cut.numbered)) parted.keys),
        tt,
      ),
    ))
out_fits usable least number sheets (level ∷ levels) taken out parted above fresh (front, more, others, settles, how) =
    let A : List Sheet → Type 0 = λ l. AllByRecursion (FitsHere usable) l in
    let taken_is : (n : ℕ) → times n taken ≡ times n (numbers front) + times n more = λ n. ap (times n) settles.taken_are ∙ times-append n (numbers front) more in
    let rest : A others = elim how [
      | inl kept ↦ subst A (sym kept.2) tt
      | inr (inl falls) ↦ subst A (sym falls.3) tt
      | inr (inr goes) ↦ out_fits usable least level.number goes.2.0 levels more others (inner_parted usable level.number level.right _ goes.2.0 goes.2.1) above.1
          (λ n some. fresh n (omega (arith, some, taken_is n))) goes.2.2
    ] in
    subst A (sym settles.out_are) (all_joined (FitsHere usable) front (on number sheets.last ∷ others)
    (front_fits usable sheets.front.items front settles.numbered parted.each (λ n some. fresh n (omega (arith, some, taken_is n))))
    (parted.last above.0, rest))

-- page 1 stands only at the top

abbrev Once : Tree → List Beside → Type 0
Once child steps = (n : ℕ) → times n (root_of child ∷ around steps) ≤ 1

abbrev AboveOne : Tree → List Beside → Type 0
AboveOne child steps = (n : ℕ) → Among (root_of child ∷ around steps) n → n ≢ root_of (tree_over child steps) → 2 ≤ n

pub root_within : (n : ℕ) (child : Tree) (steps : List Beside) → times n (root_of (tree_over child steps) ∷ []) ≤ times n (root_of child ∷ around steps)
root_within n child [] = omega arith
root_within n child (step ∷ steps) =
    omega (arith, root_within n (with_child child step) steps, around_first n step steps, ap (λ m. times n (m ∷ [])) (up_number child step))

-- the page of a child, and those beside it, are not the root
below_root : (child : Tree) (step : Beside) (steps : List Beside) → Once child (step ∷ steps) → AboveOne child (step ∷ steps) → (n : ℕ)
    → 1 ≤ times n (root_of child ∷ []) + times n (beside_of step) → 2 ≤ n
below_root child step steps once above n some =
    let root : ℕ = root_of (tree_over child (step ∷ steps)) in
    above n (omega (arith, some, around_first n step steps)) (λ same. omega (
      arith,
      some,
      once n,
      around_first n step steps,
      root_within n (with_child child step) steps,
      ap (λ m. times n (m ∷ [])) (up_number child step),
      ap (λ m. times n (m ∷ [])) same,
      times-same n,
    ))

once_up : (child : Tree) (step : Beside) (steps : List Beside) → Once child (step ∷ steps) → Once (with_child child step) steps
once_up child step steps once n = omega (arith, once n, around_first n step steps, ap (λ m. times n (m ∷ [])) (up_number child step))

above_up : (child : Tree) (step : Beside) (steps : List Beside) → AboveOne child (step ∷ steps) → AboveOne (with_child child step) steps
above_up child step steps above n some = above n (omega (arith, some, around_first n step steps, ap (λ m. times n (m ∷ [])) (up_number child step)))

above_one : (child : Tree) (steps : List Beside) → Once child steps → AboveOne child steps → AreAboveOne (root_of child) (levels_of steps)
above_one child [] once above = tt
above_one child (step ∷ steps) once above =
    let A : ℕ → Type 0 = λ n. AreAboveOne n (levels_of steps) in (
      below_root child step steps once above (root_of child) (omega (arith, times-same (root_of child))),
      subst A (up_number child step) (above_one (with_child child step) steps (once_up child step steps once) (above_up child step steps above)),
    )

-- so the sheets fit

abbrev IsParted : ℕ → ℕ → Left → Type 0
IsParted usable number (Parts sheets) = AreParted usable number sheets
IsParted usable number (Over c) = Unit {0}
IsParted usable number Nothing = Unit {0}

left_parted : (usable : ℕ) (level : Level) (left : Left) → IsLeftOut usable level left → IsParted usable level.number left
left_parted usable level Nothing is = tt
left_parted usable level (Over c) is = tt
left_parted usable level (Parts sheets) is = let whole = is.4 in whole_parted usable level.number _ sheets whole.none whole.all whole.fits

after_parted : (usable : ℕ) (level : Level) (front : List Sheet) (left : Left) → IsAfter usable level front left → IsParted usable level.number left
after_parted usable level front Nothing is = absurd is
after_parted usable level front (Over c) is = tt
after_parted usable level front (Parts sheets) is = inner_parted usable level.number level.right (with_pair level front) sheets is.1

leaf_is_parted : (number usable : ℕ) (cells : List LeafCell) (left : Left) → IsLeafLeft number usable cells left → IsParted usable number left
leaf_is_parted number usable cells Nothing is = tt
leaf_is_parted number usable cells (Over c) is = absurd is
leaf_is_parted number usable cells (Parts sheets) is = whole_parted usable number (LeafPage cells) sheets is.1.none is.1.all is.1.fits

join_fits : (usable : ℕ) (level : Level) (c : ℕ) (cells : List InnerCell) (right : ℕ) (plan : JoinPlan) → IsJoin usable level c cells right plan
    → ((n : ℕ) → 1 ≤ times n (left_page level ∷ []) + times n (right_page level ∷ []) → 2 ≤ n) → AllByRecursion (FitsHere usable) plan.sheets.items
join_fits usable level c cells right plan join above =
    let A : List Sheet → Type 0 = λ l. AllByRecursion (FitsHere usable) l in
    let parted = inner_parted usable (right_page level) (joined_right level c right) (joined_cells level c cells right) join.sheets join.joined.cut in
    subst A (sym join.written) (all_joined (FitsHere usable) join.front (on (right_page level) join.sheets.last ∷ [])
    (front_fits usable join.sheets.front.items join.front join.joined.numbered parted.each (λ n some. above n (omega (
      arith,
      some,
      join_count n usable level c cells right plan join,
      ap (λ (l : List Sheet). times n (numbers l)) join.written,
      numbers_append n join.front (on (right_page level) join.sheets.last ∷ []),
    ))))
    (parted.last (above (right_page level) (omega (arith, times-same (right_page level)))), tt))

empty_fits : (number usable : ℕ) → 480 ≤ usable → Fits (LeafPage []) number usable
empty_fits number usable least = record { rising = tt; sound = tt; room = omega (arith, least, first_most number) }
  where
    first_most : (number : ℕ) → first_pointer number (page_kind (LeafPage [])) ≤ 112
    first_most number = grind (arith, nat_tests)

shrunk_fits : (pages : Pages) → 480 ≤ pages.usable → (low high key : ℤ) (child : Tree) (left : Left) (steps : List Beside) (taken : List ℕ) (out : List Sheet) (lost : List ℕ)
    (above : Option ℕ) → AreBeside low high key child steps → IsParted pages.usable (root_of child) left → Once child steps → AboveOne child steps
    → ((n : ℕ) → Among taken n → 2 ≤ n) → AreShrunk pages (root_of child) left (levels_of steps) taken out lost above → AllByRecursion (FitsHere pages.usable) out
shrunk_fits pages least low high key child (Parts sheets) steps taken out lost above beside parted once big fresh shrunk =
    out_fits pages.usable least (root_of child) sheets (levels_of steps) taken out parted (above_one child steps once big) fresh shrunk.0
shrunk_fits pages least low high key child Nothing [] taken out lost above beside parted once big fresh shrunk =
    let A : List Sheet → Type 0 = λ l. AllByRecursion (FitsHere pages.usable) l in
    subst A (sym shrunk.1) (empty_fits (root_of child) pages.usable least, tt)
shrunk_fits pages least low high key child (Over c) [] taken out lost above beside parted once big fresh shrunk =
    let A : List Sheet → Type 0 = λ l. AllByRecursion (FitsHere pages.usable) l in
    subst A (sym shrunk.1) tt
shrunk_fits pages least low high key child Nothing (step ∷ steps) taken out lost above beside parted once big fresh (next, more, left_out, lost_is, rest) =
    let S : ℕ → Type 0 = λ m. AreShrunk pages m next (levels_of steps) taken out more above × IsParted pages.usable m next in
    let up = subst S (sym (up_number child step)) (rest, left_parted pages.usable step.level next left_out) in
    shrunk_fits pages least low high key (with_child child step) next steps taken out more above beside.1 up.1 (once_up child step steps once) (above_up child step steps big) fresh up.0
shrunk_fits pages least low high key child (Over c) (step ∷ steps) taken out lost above beside parted once big fresh (inl (others, more, only, rest)) =
    let A : List Sheet → Type 0 = λ l. AllByRecursion (FitsHere pages.usable) l in
    let S : ℕ → Type 0 = λ m. AreShrunk pages m (Over c) (levels_of steps) taken others more above in
    subst A (sym only.out_are) (shrunk_fits pages least low high key (with_child child step) (Over c) steps taken others more above beside.1 tt (once_up child step steps once)
    (above_up child step steps big) fresh (subst S (sym (up_number child step)) rest))
shrunk_fits pages least low high key child (Over c) (step ∷ steps) taken out lost above beside parted once big fresh
    (inr (inl (plan, others, more, joined, rest))) =
    let A : List Sheet → Type 0 = λ l. AllByRecursion (FitsHere pages.usable) l in
    let S : ℕ → Type 0 = λ m. AreShrunk pages m plan.left (levels_of steps) taken others more above × IsParted pages.usable m plan.left in
    let up = subst S (sym (up_number child step)) (rest, after_parted pages.usable step.level joined.is.front plan.left joined.is.after) in
    subst A (sym joined.out_are) (all_joined (FitsHere pages.usable) plan.sheets.items others
    (join_fits pages.usable step.level c joined.cells joined.right plan joined.is (λ n is. below_root child step steps once big n
    (let pair = sibling_count n (low_at low steps) (high_at high steps) key child step beside.0 joined.some in omega (arith, is, pair.0, pair.1))))
    (shrunk_fits pages least low high key (with_child child step) plan.left steps taken others more above beside.1 up.1 (once_up child step steps once) (above_up child step steps big)
    fresh up.0))
shrunk_fits pages least low high key child (Over c) (step ∷ steps) taken out lost above beside parted once big fresh
    (inr (inr (alone, taken_is, lost_is, above_is))) =
    let A : List Sheet → Type 0 = λ l. AllByRecursion (FitsHere pages.usable) l in
    subst A (sym alone.out_are) (few_fit pages.usable (root_of child) c [] least (omega arith) tt, tt)

-- the pages that are lost are pages of the tree below its root

pub lost_count : (pages : Pages) (low high key : ℤ) (child : Tree) (left : Left) (steps : List Beside) (taken : List ℕ) (out : List Sheet) (lost : List ℕ) (above : Option ℕ)
    → AreBeside low high key child steps → AreShrunk pages (root_of child) left (levels_of steps) taken out lost above → (n : ℕ)
    → times n lost + times n (root_of (tree_over child steps) ∷ []) ≤ times n (root_of child ∷ around steps)
lost_count pages low high key child (Parts sheets) steps taken out lost above beside shrunk n = omega (arith, ap (times n) shrunk.1, root_within n child steps)
lost_count pages low high key child Nothing [] taken out lost above beside shrunk n = omega (arith, ap (times n) shrunk.2)
lost_count pages low high key child (Over c) [] taken out lost above beside shrunk n = omega (arith, ap (times n) shrunk.2)
lost_count pages low high key child Nothing (step ∷ steps) taken out lost above beside (next, more, left_out, lost_is, rest) n =
    let S : ℕ → Type 0 = λ m. AreShrunk pages m next (levels_of steps) taken out more above in
    omega (
      arith,
      lost_count pages low high key (with_child child step) next steps taken out more above beside.1 (subst S (sym (up_number child step)) rest) n,
      ap (times n) lost_is,
      around_first n step steps,
      ap (λ m. times n (m ∷ [])) (up_number child step),
    )
lost_count pages low high key child (Over c) (step ∷ steps) taken out lost above beside (inl (others, more, only, rest)) n =
    let S : ℕ → Type 0 = λ m. AreShrunk pages m (Over c) (levels_of steps) taken others more above in
    omega (
      arith,
      lost_count pages low high key (with_child child step) (Over c) steps taken others more above beside.1 (subst S (sym (up_number child step)) rest) n,
      ap (times n) only.lost_are,
      around_first n step steps,
      ap (λ m. times n (m ∷ [])) (up_number child step),
    )
lost_count pages low high key child (Over c) (step ∷ steps) taken out lost above beside (inr (inl (plan, others, more, joined, rest))) n =
    let S : ℕ → Type 0 = λ m. AreShrunk pages m plan.left (levels_of steps) taken others more above in
    let pair = sibling_count n (low_at low steps) (high_at high steps) key child step beside.0 joined.some in
    omega (
      arith,
      lost_count pages low high key (with_child child step) plan.left steps taken others more above beside.1 (subst S (sym (up_number child step)) rest) n,
      ap (times n) joined.lost_are,
      times-append n (listed plan.lost) more,
      join_count n pages.usable step.level c joined.cells joined.right plan joined.is,
      pair.0,
      pair.1,
      around_first n step steps,
      ap (λ m. times n (m ∷ [])) (up_number child step),
    )
lost_count pages low high key child (Over c) (step ∷ steps) taken out lost above beside (inr (inr (alone, taken_is, lost_is, above_is))) n =
    omega (arith, ap (times n) lost_is, root_within n child (step ∷ steps))

below_one : (trees before behind : List Tree) (tree : Tree) → times 1 (flat_map below_top (before ++ tree ∷ behind)) ≡ 0 → times 1 (below_top tree) ≡ 0
below_one trees [] behind tree none = omega (arith, none, times-append 1 (below_top tree) (flat_map below_top behind))
below_one trees (t ∷ before) behind tree none =
    below_one trees before behind tree (omega (arith, none, times-append 1 (below_top t) (flat_map below_top (before ++ tree ∷ behind))))

is_first : (x : ℕ) → 1 ≤ times 1 (x ∷ []) → x ≡ 1
is_first x some = elim (cases_order x 1) [
  | inl same ↦ same
  | inr (inl less) ↦ absurd (omega (arith, some, other (λ e. omega (arith, less, e))))
  | inr (inr more) ↦ absurd (omega (arith, some, other (λ e. omega (arith, more, e))))
]
  where
    other : (x ≢ 1) → times 1 (x ∷ []) ≡ 0
    other differs = times-other 1 x differs

numbered_in : (before out : List Sheet) → AllByRecursion (λ sheet. Among (numbers (before ++ out)) sheet.number) out
numbered_in before [] = tt
numbered_in before (s ∷ more) =
    let N : List Sheet → Type 0 = λ l. AllByRecursion (λ sheet. Among (numbers l) sheet.number) more in (
      omega (arith, numbers_append s.number before (s ∷ more), times-same s.number),
      subst N (append_assoc before (s ∷ []) more) (numbered_in (before ++ s ∷ []) more),
    )

placed : (old : Pages) (tree : Tree) (taken : List ℕ) (named : List ℕ) (out : List Sheet) → ((n : ℕ) → Among named n → Among (pages_of tree ++ taken) n)
    → AllByRecursion (λ sheet. Among named sheet.number) out → AllByRecursion (FitsHere old.usable) out → AllByRecursion (HasPlace old tree taken) out
placed old tree taken named [] inside among fits = tt
placed old tree taken named (s ∷ more) inside among fits = (record { fits = fits.0; among = inside s.number among.0 }, placed old tree taken named more inside among.1 fits.1)

-- all pages of a tree but its root are others than page 1
pub tree_above_one : (old : Pages) (roots : List ℕ) (before behind : List Tree) (tree : Tree) (trunks : List Trunk) → IsWholeFor old roots (before ++ tree ∷ behind) trunks → (n : ℕ)
    → Among (pages_of tree) n → n ≢ root_of tree → 2 ≤ n
tree_above_one old roots before behind tree trunks whole n some differs =
    let all : List Tree = before ++ tree ∷ behind in
    let least = (named_there old roots all trunks whole n (omega (arith, some, split_named roots before behind tree trunks n))).least in
    elim (cases_lt 1 n) [
      | inl more ↦ omega (arith, more)
      | inr one ↦
          let is_one : n ≡ 1 = omega (arith, one, least) in
          absurd (differs (is_one ∙ sym (is_first (root_of tree) (omega (
            arith,
            some,
            top_count 1 tree,
            ap (λ m. times m (pages_of tree)) is_one,
            below_one all before behind tree (none_below old roots all trunks whole),
          )))))
    ]

-- what is known of the pages of a removal

pub record Counted (pages : Pages) (tree : Tree) (key : ℤ) (rows : List Row) (leaf : ℕ) (steps : List Beside) (left : Left) (taken : List ℕ) (out : List Sheet) (lost : List ℕ)
    (above : Option ℕ) : Type 0 where
  pub held : HoldWay pages rows leaf steps
  pub shrunk : AreShrunk pages leaf left (levels_of steps) taken out lost above
  pub once : (n : ℕ) → times n (pages_of tree) + times n taken ≤ 1
  pub pages_are : (n : ℕ) → times n (pages_of tree) ≡ times n (leaf ∷ []) + times n (chains_of rows) + times n (around steps)
  pub chain_is : (n : ℕ) → times n (chain_at key (rows_of tree)) ≡ times n (chain_at key rows)
  -- the pages written and those that are gone are others, of the tree or taken; those that are gone are of the tree below its root
  pub out_few : (n : ℕ) → times n (numbers out) + times n (chain_at key (rows_of tree) ++ lost) ≤ times n taken + times n (pages_of tree)
  pub gone_few : (n : ℕ) → times n (chain_at key (rows_of tree) ++ lost) + times n (root_of tree ∷ []) ≤ times n (pages_of tree)

pub counted : (old : Pages) (roots : List ℕ) (before behind : List Tree) (tree : Tree) (trunks : List Trunk) (key : ℤ) (taken : List ℕ) (out : List Sheet) (lost : List ℕ)
    (above : Option ℕ) → (c : IsShrinking old roots before tree behind trunks key taken out lost above)
    → Counted old tree key c.way.rows c.leaf c.way.steps c.left taken out lost above
counted old roots before behind tree trunks key taken out lost above c =
    let row : Row = row_at_key key in
    let whole = whole_one old roots before behind tree c.whole.each_tree in
    let way = c.way in
    let rows : List Row = way.rows in
    let steps : List Beside = way.steps in
    let leaf : ℕ = c.leaf in
    let child : Tree = Leaf leaf rows in
    let held = held_from old whole.0 tree key c.levels leaf c.cells whole.1 way in
    let pages : (n : ℕ) → times n (pages_of tree) ≡ times n (leaf ∷ []) + times n (chains_of rows) + times n (around steps) =
    λ n. omega (arith, ap (λ t. times n (pages_of t)) way.is, way_pages n child steps) in
    let L : List Level → Type 0 = λ l. AreShrunk old leaf c.left l taken out lost above in
    let shrunk = subst L way.levels_are c.shrunk in
    let removed : (n : ℕ) → times n (chain_at key (rows_of tree)) ≡ times n (chain_at key rows) = λ n.
    ap (λ t. times n (chain_at key (rows_of t))) way.is ∙ chain_over n old row below_all greatest 1 child steps way.beside held.standing in
    let without_chain : (n : ℕ) → times n (chains_of (without key rows)) + times n (chain_at key rows) ≡ times n (chains_of rows) = λ n. without_count n row rows in
    record {
      held = held;
      shrunk = shrunk;
      once = λ n. way_apart n leaf rows steps tree taken way.is (tree_once old roots before behind tree trunks c.whole n) c.fresh;
      pages_are = pages;
      chain_is = removed;
      out_few = λ n. omega (
        arith,
        shrunk_count old below_all greatest key child c.left steps taken out lost above way.beside shrunk n,
        pages n,
        removed n,
        without_chain n,
        times-append n (chain_at key (rows_of tree)) lost,
      );
      gone_few = λ n. omega (
        arith,
        lost_count old below_all greatest key child c.left steps taken out lost above way.beside shrunk n,
        pages n,
        removed n,
        without_chain n,
        times-append n (chain_at key (rows_of tree)) lost,
        ap (λ t. times n (root_of t ∷ [])) way.is,
      );
    }

fits : (old : Pages) (roots : List ℕ) (before behind : List Tree) (tree : Tree) (trunks : List Trunk) (key : ℤ) (taken : List ℕ) (out : List Sheet) (lost : List ℕ)
    (above : Option ℕ) → IsShrinking old roots before tree behind trunks key taken out lost above → AllDifferent (numbers out) × AllByRecursion (HasPlace old tree taken) out
fits old roots before behind tree trunks key taken out lost above c =
    let way = c.way in
    let steps : List Beside = way.steps in
    let leaf : ℕ = c.leaf in
    let child : Tree = Leaf leaf way.rows in
    let k = counted old roots before behind tree trunks key taken out lost above c in
    let big : AboveOne child steps = λ n some differs. tree_above_one old roots before behind tree trunks c.whole n (omega (arith, some, k.pages_are n))
    (λ same. differs (same ∙ ap root_of way.is)) in
    let fit = shrunk_fits old c.least below_all greatest key child c.left steps taken out lost above way.beside
    (leaf_is_parted leaf old.usable (other_cells key c.cells) c.left c.left_is) (λ n. omega (arith, k.pages_are n, k.once n)) big (λ n some. (c.fresh.each n some).0) k.shrunk in (
      record { once = λ n. omega (arith, k.out_few n, k.once n) },
      placed old tree taken (numbers out) out (λ n some. omega (arith, some, k.out_few n, times-append n (pages_of tree) taken)) (numbered_in [] out) fit,
    )

pub shrink_fits : ShrinkFits
shrink_fits = record {
  sheets = fits;
  lost = λ old roots before behind tree trunks key taken out lost above c.
      let k = counted old roots before behind tree trunks key taken out lost above c in (
        record { once = λ n. omega (arith, k.gone_few n, k.once n) },
        λ n some. (
          omega (arith, some, k.gone_few n),
          λ root. omega (arith, some, k.gone_few n, k.once n, ap (λ m. times n (m ∷ [])) root, times-same n),
        ),
      );
}
