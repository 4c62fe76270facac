-- The sheets of a put fit on their pages, which are different ones.
use Rattle.std.proofs.Common.{◌≡◌, ◌≢◌, inl, inr, ℕ, ◌+◌, ◌≤◌, ℤ, ◌<ℤ◌, List, [], ◌∷◌, ◌++◌, length, map, refl, sym, ap, ap₂, subst, ◌∙◌, arith, append_assoc}
use Rattle.std.specs.List.{flat_map, AllByRecursion}
use Rattle.std.proofs.lemmas.Bool.{cases_lt, cases_order}
use Rattle.std.proofs.lemmas.List.{length-map}
use Rattle.page_list.specs.Pages.{Pages, times, Among}
use Rattle.page_list.proofs.TimesLemmas.{times-append, times-same, times-other, among-back}
use Rattle.tree_page.specs.declared.cell.LeafCell.{LeafCell}
use Rattle.tree_page.specs.declared.cell.InnerCell.{InnerCell}
use Rattle.tree_page.specs.declared.cell.PageCells.{PageCells}
use Rattle.tree_page.specs.declared.cell.PageCells.TheVariants.{Leaf as LeafPage, Interior as InteriorPage}
use Rattle.tree_page.specs.Page.{leaf, inner, rowid_of, cells_of as page_cells, AreAbove, AreRising}
use Rattle.tree_page.specs.Written.{Fits}
use Rattle.tree_model.specs.Tree.{Row, Tree, Leaf, rowid, root_of, pages_of}
use Rattle.tree_model.specs.Whole.{below_all}
use Rattle.tree_model.specs.Laws.{Rises, chains_of}
use Rattle.tree_model.specs.declared.level.Level.{Level}
use Rattle.tree_model.proofs.IntLemmas.{lt_trans_ℤ}
use Rattle.tree_model.proofs.OthersLemmas.{split_named}
use Rattle.tree_run.specs.Run.{one, within}
use Rattle.tree_run.specs.Edit.{put_row}
use Rattle.tree_run.proofs.RunLemmas.{run_over}
use Rattle.tree_run.proofs.PutLemmas.{put_finds}
use Rattle.page_cut.specs.declared.parts.Sheet.{Sheet}
use Rattle.page_cut.specs.declared.parts.Sheets.{Sheets}
use Rattle.page_cut.specs.Room.{FitsOther}
use Rattle.page_cut.specs.Cut.{last_id, AreLeafParts, IsPart, IsCut}
use Rattle.tree_level.specs.Level.{numbers, up_cells}
use Rattle.tree_plan.specs.Plan.{put_cell, IsLeafPlan}
use Rattle.tree_plan.specs.Law.{AreNumbered}
use Rattle.tree_plan.specs.Climb.{on, RootFits, AreClimbed}
use Rattle.tree_plan.proofs.LawLemmas.{cells_put}
use Rattle.tree_laws.proofs.FrontLemmas.{below_top, none_below, top_count}
use Rattle.tree_laws.proofs.RangeLemmas.{named_there}
use Rattle.tree_laws.proofs.DeepLemmas.{whole_one}
use Rattle.tree_put.specs.Way.{Beside, with_child, tree_over, low_at, around}
use Rattle.tree_put.specs.Puts.{HasPlace, ClimbFits}
use Rattle.tree_put.proofs.WayLemmas.{held_from}
use Rattle.tree_put.proofs.CountLemmas.{levels_of, numbers_append, out_count, around_first, levels_around, way_pages}
use Rattle.tree_put.proofs.ClimbLemmas.{as_many, few_fit}
use Rattle.tree_put.proofs.PutsLemmas.{tree_once, way_apart}

-- the keys behind the parts of a leaf rise

abbrev rowids_of : List LeafCell → List ℤ
rowids_of cells = map rowid_of (map leaf cells)

above_rest : (low : ℤ) (part rest : List LeafCell) → AreAbove low (rowids_of (part ++ rest)) → AreAbove (last_id low part) (rowids_of rest)
above_rest low [] rest above = above
above_rest low (cell ∷ part) rest above = above_rest cell.rowid part rest above.1

above_last : (low : ℤ) (part rest : List LeafCell) → 1 ≤ length part → AreAbove low (rowids_of (part ++ rest)) → low <ℤ last_id low part
above_last low [] rest some above = absurd (omega (arith, some))
above_last low (cell ∷ []) rest some above = above.0
above_last low (cell ∷ next ∷ part) rest some above = lt_trans_ℤ low cell.rowid (last_id cell.rowid (next ∷ part)) above.0
    (above_last cell.rowid (next ∷ part) rest (omega arith) above.1)

abbrev keys_of : List Sheet → List ℤ
keys_of front = map (λ sheet. sheet.key) front

leaf_keys : (usable : ℕ) (low : ℤ) (front : List Sheet) (last : PageCells) (cells : List LeafCell) → AreLeafParts front last cells
    → AllByRecursion (λ sheet. IsPart usable sheet.cells) front
    → AreAbove low (rowids_of cells) → AreAbove low (keys_of front)
leaf_keys usable low [] last cells parts all above = tt
leaf_keys usable low (sheet ∷ more) last cells parts all above =
    let head = parts.1 in
    let P : List LeafCell → Type 0 = λ l. AreAbove low (rowids_of l) in
    let Q : PageCells → Type 0 = λ c. 1 ≤ length (page_cells c) in
    let A : ℤ → Type 0 = λ k. low <ℤ k in
    let B : ℤ → Type 0 = λ k. AreAbove k (rowids_of parts.0) in
    let joined = subst P head.joined above in
    let some : 1 ≤ length head.part = omega (arith, subst Q head.is all.0.some, length-map head.part leaf) in (
      subst A (head.keyed low) (above_last low head.part parts.0 some joined),
      leaf_keys usable sheet.key more last parts.0 parts.2 all.1 (subst B (head.keyed low) (above_rest low head.part parts.0 joined)),
    )

rising_above : (low : ℤ) (keys : List ℤ) → AreAbove low keys → AreRising keys
rising_above low [] above = tt
rising_above low (k ∷ more) above = above.1

rows_above : (low : ℤ) (rows : List Row) → Rises low rows → AreAbove low (rowids_of (map (λ r. r.cell) rows))
rows_above low [] rises = tt
rows_above low (r ∷ more) rises = (rises.0, rows_above (rowid r) more rises.1)

-- the parts of a page, and where they fit
record AreParted (usable number : ℕ) (sheets : Sheets) : Type 0 where
  few : length sheets.front.items ≤ 2
  keys : AreRising (keys_of sheets.front.items)
  each : AllByRecursion (λ sheet. FitsOther sheet.cells usable) sheets.front.items
  last : 2 ≤ number → Fits sheets.last number usable
  over : ¬ (RootFits usable number sheets) → FitsOther sheets.last usable

whole_parted : (usable number : ℕ) (whole : PageCells) (sheets : Sheets) → sheets.front.items ≡ [] → sheets.last ≡ whole → Fits whole number usable
    → AreParted usable number sheets
whole_parted usable number whole sheets none all fits =
    let P : PageCells → Type 0 = λ c. Fits c number usable in
    let K : List Sheet → Type 0 = λ l. AreRising (keys_of l) in
    let E : List Sheet → Type 0 = λ l. AllByRecursion (λ sheet. FitsOther sheet.cells usable) l in
    let there = subst P (sym all) fits in
    record {
      few = omega (arith, ap (λ (l : List Sheet). length l) none);
      keys = subst K (sym none) tt;
      each = subst E (sym none) tt;
      last = λ above. there;
      over = λ more. absurd (more (none, there));
    }

parts_fit : (usable : ℕ) (front : List Sheet) → AllByRecursion (λ sheet. IsPart usable sheet.cells) front → AllByRecursion (λ sheet. FitsOther sheet.cells usable) front
parts_fit usable [] all = tt
parts_fit usable (s ∷ more) all = (all.0.fits, parts_fit usable more all.1)

one_key : (front : List Sheet) → length front ≡ 1 → AreRising (keys_of front)
one_key [] one = tt
one_key (s ∷ []) one = tt
one_key (s ∷ t ∷ more) one = absurd (omega (arith, one))

inner_parted : (usable number right : ℕ) (cells : List InnerCell) (sheets : Sheets) → IsCut number usable (InteriorPage cells right) sheets → AreParted usable number sheets
inner_parted usable number right cells sheets (inl is) = whole_parted usable number _ sheets is.none is.all is.fits
inner_parted usable number right cells sheets (inr up) = record {
  few = omega (arith, up.few);
  keys = one_key sheets.front.items up.few;
  each = parts_fit usable sheets.front.items up.each;
  last = λ above. up.last.fits number above;
  over = λ more. up.last.fits;
}

leaf_parted : (usable number : ℕ) (low : ℤ) (cells : List LeafCell) (sheets : Sheets) → AreAbove low (rowids_of cells) → IsCut number usable (LeafPage cells) sheets
    → AreParted usable number sheets
leaf_parted usable number low cells sheets above (inl is) = whole_parted usable number _ sheets is.none is.all is.fits
leaf_parted usable number low cells sheets above (inr up) = record {
  few = elim up.few [ inl one ↦ omega (arith, one) | inr (inl two) ↦ omega (arith, two.0) | inr (inr none) ↦ omega (arith, none.0) ];
  keys = rising_above low (keys_of sheets.front.items) (leaf_keys usable low sheets.front.items sheets.last cells up.parts up.each above);
  each = parts_fit usable sheets.front.items up.each;
  last = λ above. up.last.fits number above;
  over = λ more. up.last.fits;
}

-- with the numbers of their pages

abbrev FitsHere : ℕ → Sheet → Type 0
FitsHere usable sheet = Fits sheet.cells sheet.number usable

front_fits : (usable : ℕ) (front numbered : List Sheet) → AreNumbered front numbered → AllByRecursion (λ sheet. FitsOther sheet.cells usable) front
    → ((n : ℕ) → Among (numbers numbered) n → 2 ≤ n) → AllByRecursion (FitsHere usable) numbered
front_fits usable [] [] same all above = tt
front_fits usable [] (t ∷ others) same all above = absurd same
front_fits usable (s ∷ more) [] same all above = absurd same
front_fits usable (s ∷ more) (t ∷ others) same all above =
    let P : PageCells → Type 0 = λ c. Fits c t.number usable in (
      subst P (sym same.0) (all.0 t.number (above t.number (omega (arith, times-same t.number)))),
      front_fits usable more others same.2 all.1 (λ n some. above n (among-back n (t.number ∷ []) (numbers others) some)),
    )

same_keys : (front numbered : List Sheet) → AreNumbered front numbered → map rowid_of (map inner (up_cells numbered)) ≡ keys_of front
same_keys [] [] same = refl
same_keys [] (t ∷ others) same = absurd same
same_keys (s ∷ more) [] same = absurd same
same_keys (s ∷ more) (t ∷ others) same = ap₂ (λ (k : ℤ) (l : List ℤ). k ∷ l) same.1 (same_keys more others same.2)

all_joined : (P : Sheet → Type 0) (xs ys : List Sheet) → AllByRecursion P xs → AllByRecursion P ys → AllByRecursion P (xs ++ ys)
all_joined P [] ys a b = b
all_joined P (x ∷ xs) ys a b = (a.0, all_joined P xs ys a.1 b)

-- all pages below the root are others than page 1
abbrev AreAboveOne : ℕ → List Level → Type 0
AreAboveOne number [] = Unit {0}
AreAboveOne number (level ∷ more) = (2 ≤ number) × AreAboveOne level.number more

out_fits : (usable : ℕ) → 480 ≤ usable → (number : ℕ) (sheets : Sheets) (levels : List Level) (taken : List ℕ) (out : List Sheet) → AreParted usable number sheets
    → AreAboveOne number levels → ((n : ℕ) → Among taken n → 2 ≤ n) → AreClimbed usable number sheets levels taken out → AllByRecursion (FitsHere usable) out
out_fits usable least number sheets [] taken out parted above fresh (inl fits) =
    let A : List Sheet → Type 0 = λ l. AllByRecursion (FitsHere usable) l in
    subst A (sym fits.2) (fits.0.1, tt)
out_fits usable least number sheets [] taken out parted above fresh (inr cut) =
    let A : List Sheet → Type 0 = λ l. AllByRecursion (FitsHere usable) l in
    let R : List ℤ → Type 0 = λ l. AreRising l in
    let top : List Sheet = on cut.page sheets.last ∷ on number (InteriorPage (up_cells cut.front) cut.page) ∷ [] in
    let taken_is : (n : ℕ) → times n taken ≡ times n (numbers cut.front) + times n (cut.page ∷ []) = λ n. ap (times n) cut.taken_are ∙ times-append n (numbers cut.front)
    (cut.page ∷ []) in
    let g : Sheet → InnerCell = λ s. record { child = s.number; rowid = s.key } in
    subst A (sym cut.out_are) (all_joined (FitsHere usable) cut.front top
    (front_fits usable sheets.front.items cut.front cut.numbered parted.each (λ n some. fresh n (omega (arith, some, taken_is n)))) (
      parted.over cut.over cut.page (fresh cut.page (omega (arith, taken_is cut.page, times-same cut.page))),
      (
        few_fit usable number cut.page (up_cells cut.front) least
            (omega (arith, parted.few, as_many sheets.front.items cut.front cut.numbered, length-map cut.front g))
            (subst R (sym (same_keys sheets.front.items cut.front cut.numbered)) parted.keys),
        tt,
      ),
    ))
out_fits usable least number sheets (level ∷ levels) taken out parted above fresh (front, more, others, settles, how) =
    let A : List Sheet → Type 0 = λ l. AllByRecursion (FitsHere usable) l in
    let taken_is : (n : ℕ) → times n taken ≡ times n (numbers front) + times n more = λ n. ap (times n) settles.taken_are ∙ times-append n (numbers front) more in
    let rest : A others = elim how [
      | inl kept ↦ subst A (sym kept.2) tt
      | inr (inl falls) ↦ subst A (sym falls.3) tt
      | inr (inr goes) ↦ out_fits usable least level.number goes.2.0 levels more others (inner_parted usable level.number level.right _ goes.2.0 goes.2.1) above.1
          (λ n some. fresh n (omega (arith, some, taken_is n))) goes.2.2
    ] in
    subst A (sym settles.out_are) (all_joined (FitsHere usable) front (on number sheets.last ∷ others)
    (front_fits usable sheets.front.items front settles.numbered parted.each (λ n some. fresh n (omega (arith, some, taken_is n))))
    (parted.last above.0, rest))

-- page 1 stands only at the top

root_around : (child : Tree) (step : Beside) (steps : List Beside) → Among (around (step ∷ steps)) (root_of (tree_over child (step ∷ steps)))
root_around child step [] =
    let P : ℕ → Type 0 = λ n. Among (around (step ∷ [])) n in
    subst P (sym (run_over.rooted step.level.number (within step.before (one child) step.behind)))
    (omega (arith, around_first step.level.number step [], times-same step.level.number))
root_around child step (s ∷ more) =
    let root : ℕ = root_of (tree_over (with_child child step) (s ∷ more)) in
    omega (arith, around_first root step (s ∷ more), root_around (with_child child step) s more)

above_one : (child : Tree) (steps : List Beside) → ((n : ℕ) → times n (root_of child ∷ around steps) ≤ 1) → ((n : ℕ) → Among (root_of child ∷ around steps) n → 1 ≤ n)
    → (Among (root_of child ∷ around steps) 1 → root_of (tree_over child steps) ≡ 1) → AreAboveOne (root_of child) (levels_of steps)
above_one child [] once some top = tt
above_one child (step ∷ steps) once some top =
    let number : root_of (with_child child step) ≡ step.level.number = run_over.rooted step.level.number (within step.before (one child) step.behind) in
    let here : Among (root_of child ∷ around (step ∷ steps)) (root_of child) = omega (arith, times-same (root_of child)) in
    let least = some (root_of child) here in
    let again : (n : ℕ) → times n (root_of (with_child child step) ∷ around steps) ≤ times n (around (step ∷ steps)) =
    λ n. omega (arith, around_first n step steps, ap (λ k. times n (k ∷ [])) number) in
    let R : ℕ → Type 0 = λ n. Among (around (step ∷ steps)) n in
    let A : ℕ → Type 0 = λ n. AreAboveOne n (levels_of steps) in
    let not_one : ¬ (root_of child ≡ 1) = λ is_one.
    let first : root_of (tree_over child (step ∷ steps)) ≡ 1 = top (let P : ℕ → Type 0 = λ n. Among (root_of child ∷ around (step ∷ steps)) n in subst P is_one here) in
    omega (arith, once 1, subst R first (root_around child step steps), ap (λ k. times 1 (k ∷ [])) is_one, times-same 1) in (
      elim (cases_lt 1 (root_of child)) [ inl big ↦ omega (arith, big) | inr small ↦ absurd (not_one (omega (arith, small, least))) ],
      subst A number (above_one (with_child child step) steps (λ n. omega (arith, again n, once n)) (λ n is. some n (omega (arith, again n, is)))
          (λ is. top (omega (arith, again 1, is)))),
    )

below_one : (trees before behind : List Tree) (tree : Tree) → times 1 (flat_map below_top (before ++ tree ∷ behind)) ≡ 0 → times 1 (below_top tree) ≡ 0
below_one trees [] behind tree none = omega (arith, none, times-append 1 (below_top tree) (flat_map below_top behind))
below_one trees (t ∷ before) behind tree none =
    below_one trees before behind tree (omega (arith, none, times-append 1 (below_top t) (flat_map below_top (before ++ tree ∷ behind))))

is_first : (x : ℕ) → 1 ≤ times 1 (x ∷ []) → x ≡ 1
is_first x some = elim (cases_order x 1) [
  | inl same ↦ same
  | inr (inl less) ↦ absurd (omega (arith, some, other (λ e. omega (arith, less, e))))
  | inr (inr more) ↦ absurd (omega (arith, some, other (λ e. omega (arith, more, e))))
]
  where
    other : (x ≢ 1) → times 1 (x ∷ []) ≡ 0
    other differs = times-other 1 x differs

numbered_in : (before out : List Sheet) → AllByRecursion (λ sheet. Among (numbers (before ++ out)) sheet.number) out
numbered_in before [] = tt
numbered_in before (s ∷ more) =
    let N : List Sheet → Type 0 = λ l. AllByRecursion (λ sheet. Among (numbers l) sheet.number) more in (
      omega (arith, numbers_append s.number before (s ∷ more), times-same s.number),
      subst N (append_assoc before (s ∷ []) more) (numbered_in (before ++ s ∷ []) more),
    )

placed : (old : Pages) (tree : Tree) (taken : List ℕ) (named : List ℕ) (out : List Sheet) → ((n : ℕ) → Among named n → Among (pages_of tree ++ taken) n)
    → AllByRecursion (λ sheet. Among named sheet.number) out → AllByRecursion (FitsHere old.usable) out → AllByRecursion (HasPlace old tree taken) out
placed old tree taken named [] inside among fits = tt
placed old tree taken named (s ∷ more) inside among fits = (record { fits = fits.0; among = inside s.number among.0 }, placed old tree taken named more inside among.1 fits.1)

pub climb_fits : ClimbFits
climb_fits old roots before behind tree trunks cell plan taken out c =
    let row : Row = record { cell = cell; chain = []; payload = [] } in
    let whole = whole_one old roots before behind tree c.whole.each_tree in
    let way = c.way in
    let rows : List Row = way.rows in
    let steps : List Beside = way.steps in
    let leaf_page : ℕ = c.leaf in
    let child : Tree = Leaf leaf_page rows in
    let held = held_from old whole.0 tree (rowid row) c.levels leaf_page c.cells whole.1 way in
    let once : (n : ℕ) → times n (pages_of tree) ≤ 1 = tree_once old roots before behind tree trunks c.whole in
    let pages : (n : ℕ) → times n (pages_of tree) ≡ times n (leaf_page ∷ []) + times n (chains_of rows) + times n (around steps) =
    λ n. omega (arith, ap (λ t. times n (pages_of t)) way.is, way_pages n child steps) in
    let L : List Level → Type 0 = λ l. AreClimbed old.usable leaf_page plan.sheets l taken out in
    let climbed = subst L way.levels_are c.climbed in
    let counts = out_count old.usable leaf_page plan.sheets (levels_of steps) taken out climbed in
    let apart : (n : ℕ) → times n (pages_of tree) + times n taken ≤ 1 = λ n. way_apart n leaf_page rows steps tree taken way.is (once n) c.fresh in
    let all : List Tree = before ++ tree ∷ behind in
    let there : (n : ℕ) → Among (leaf_page ∷ around steps) n → 1 ≤ n = λ n some.
    (named_there old roots all trunks c.whole n (omega (arith, some, pages n, split_named roots before behind tree trunks n))).least in
    let top : Among (leaf_page ∷ around steps) 1 → root_of (tree_over child steps) ≡ 1 = λ some.
    ap root_of (sym way.is) ∙ is_first (root_of tree) (omega (
      arith,
      some,
      pages 1,
      top_count 1 tree,
      below_one all before behind tree
          (none_below old roots all trunks c.whole),
    )) in
    let low : ℤ = low_at below_all steps in
    let P : List LeafCell → Type 0 = λ l. IsLeafPlan leaf_page old.usable l row.cell plan in
    let Q : List LeafCell → Type 0 = λ l. AreAbove low (rowids_of l) in
    let planned = subst P way.cells_are c.planned in
    let above : AreAbove low (rowids_of (put_cell row.cell (map (λ r. r.cell) rows))) =
    subst Q (cells_put row rows) (rows_above low (put_row row rows) (put_finds.rises low row rows way.above held.rows_are.rises)) in
    let fits = out_fits old.usable c.least leaf_page plan.sheets (levels_of steps) taken out (leaf_parted old.usable leaf_page low _ plan.sheets above planned.cut)
    (above_one child steps (λ n. omega (arith, once n, pages n)) there top) (λ n some. (c.fresh.each n some).0) climbed in (
      record { once = λ n. omega (arith, counts n, apart n, pages n, levels_around n steps) },
      placed old tree taken (numbers out) out (λ n some. omega (arith, some, counts n, pages n, levels_around n steps, times-append n (pages_of tree) taken))
          (numbered_in [] out) fits,
    )
