-- The climb from the parts of a page up to the root, whatever is done to the rows.
use Rattle.std.proofs.Common.{◌≡◌, ◌⊎◌, inl, inr, ℕ, suc, ◌+◌, ◌≤◌, ℤ, List, [], ◌∷◌, ◌++◌, length, map, take, drop, refl, sym, ap, ap₂, subst, ◌∙◌, arith, length-append}
use Rattle.std.proofs.Common.{length-take, length-drop}
use Rattle.std.specs.List.{AllByRecursion}
use Rattle.std.proofs.lemmas.Bool.{cases_lt}
use Rattle.std.proofs.lemmas.List.{length-map}
use Rattle.page_list.specs.Pages.{Pages, times, Among}
use Rattle.page_list.proofs.TimesLemmas.{times-append, among-front, among-back}
use Rattle.tree_page.specs.declared.cell.InnerCell.{InnerCell}
use Rattle.tree_page.specs.declared.cell.PageCells.TheVariants.{Interior as InteriorPage}
use Rattle.tree_page.specs.Page.{inner, rowid_of, AreAbove, AreRising}
use Rattle.tree_model.specs.Tree.{Tree, root_of}
use Rattle.tree_model.specs.Held.{HasCells}
use Rattle.tree_model.specs.Whole.{below_all, greatest, most_depth}
use Rattle.tree_model.specs.Laws.{Keeps}
use Rattle.tree_run.specs.Node.{Piece, cells_of, pages_in, last_key}
use Rattle.tree_run.specs.Run.{AreChildren, Run, IsRun, one, over, within, bound, behind_pages}
use Rattle.tree_run.specs.Edit.{Edit, key_of}
use Rattle.tree_run.proofs.RunLemmas.{run_within, run_over, child_strict, children_stay}
use Rattle.page_cut.specs.declared.parts.Sheet.{Sheet}
use Rattle.page_cut.specs.declared.parts.Sheets.{Sheets}
use Rattle.tree_level.specs.Level.{numbers, up_cells, with_ups, Instead}
use Rattle.tree_level.proofs.StepLemmas.{cells_within, behind_stays, root_grows}
use Rattle.tree_plan.specs.Plan.{IsInnerPlan}
use Rattle.tree_plan.specs.Law.{AreNumbered, AreOn}
use Rattle.tree_plan.specs.Climb.{on, RootFits, RootSettles, Settles, Rises, AreClimbed}
use Rattle.tree_plan.proofs.LawLemmas.{inner_planned}
use Rattle.tree_put.specs.Way.{Beside, with_child, tree_over, low_at, high_at, depth_over, around, IsBeside, AreBeside, Stands, AreStanding}
use Rattle.tree_put.proofs.CountLemmas.{levels_of, beside_of, numbers_append, out_count, around_first, levels_around}
use Rattle.tree_put.proofs.KeptLemmas.{keeps_less}
use Rattle.tree_put.proofs.ClimbLemmas.{all_front, all_behind, as_many, HasParts, inner_parts, few_uncut, FewAt}
use Rattle.tree_removed.proofs.StayLemmas.{Rooted, root_kept, stay_up}

-- the keys of a run rise

pub keys_above : (pages : Pages) (low : ℤ) (depth : ℕ) (front : List Piece) → AreChildren pages low depth front → AreAbove low (map rowid_of (map inner (cells_of front)))
keys_above pages low depth [] are = tt
keys_above pages low depth (p ∷ more) are = (child_strict pages low p.key depth p.tree are.0, keys_above pages p.key depth more are.1)

pub keys_rise : (low : ℤ) (keys : List ℤ) → AreAbove low keys → AreRising keys
keys_rise low [] above = tt
keys_rise low (k ∷ more) above = above.1

-- so the cells that come up have their place
ups_rise : (old new : Pages) (edit : Edit) (low high : ℤ) (depth : ℕ) (child : Tree) (step : Beside) (front : List Sheet) (fresh gone : List ℕ)
    → IsBeside low high (key_of edit) child step
    → Stands old low high depth child step → Keeps old new (Among (beside_of step))
    → Instead new (last_key low step.before) (bound high step.behind) depth edit child (up_cells front) (root_of child) fresh gone → Rises step.level front
ups_rise old new edit low high depth child step front fresh gone beside stands keeps instead =
    let parts = (run_within.parts old low high depth step.before (one child) step.behind).0 stands.is in
    let kept : ℕ → Type 0 = Among (beside_of step) in
    let mid : Run = within step.before instead.run step.behind in
    let is : IsRun new low high depth mid = (run_within.parts new low high depth step.before instead.run step.behind).1 (
      children_stay old new kept low depth step.before keeps (λ n some. among-front n (pages_in step.before) (behind_pages step.behind) some) parts.0,
      instead.is,
      behind_stays old new kept high depth step.behind keeps (λ n some. among-back n (pages_in step.before) (behind_pages step.behind) some) parts.2,
    ) in
    let P : List InnerCell → Type 0 = λ cells. AreRising (map rowid_of (map inner cells)) in
    let same : cells_of mid.front ≡ with_ups step.level.at (up_cells front) step.level.cells =
    cells_within step.before instead.run child step.behind step.level.at beside.at instead.top ∙ ap₂ (with_ups step.level.at) instead.named_by beside.has.cells_are in
    subst P same (keys_rise low _ (keys_above new low depth mid.front is.children))

with_long : (at : ℕ) (front : List Sheet) (cells : List InnerCell) → length (with_ups at (up_cells front) cells) ≤ length front + length cells
with_long at front cells =
    let g : Sheet → InnerCell = λ s. record { child = s.number; rowid = s.key } in
    omega (
      arith,
      length-append (take at cells) (up_cells front ++ drop at cells),
      length-append (up_cells front)
          (drop at cells),
      length-map front g,
      length-take at cells,
      length-drop at cells,
    )

-- a page that goes up: what stands in place of it, once its parts are on their pages
abbrev pub Plans : Pages → ℕ → ℤ → ℤ → ℕ → Edit → Tree → Sheets → List ℕ → List ℕ → Type 0
Plans new usable low high depth edit child sheets fresh gone = (front : List Sheet) (page : ℕ) → AreOn new sheets front page →
    (page ≡ root_of child) ⊎ ¬ (RootFits usable (root_of child) sheets) → Instead new low high depth edit child (up_cells front) page (fresh ++ numbers front) gone

root_settles : (new : Pages) (usable : ℕ) (edit : Edit) (depth : ℕ) (child : Tree) (sheets : Sheets) (fresh gone taken : List ℕ) (out : List Sheet) → depth ≤ most_depth
    → HasParts usable (root_of child) sheets → (¬ (RootFits usable (root_of child) sheets) → suc depth ≤ most_depth)
    → Plans new usable below_all greatest depth edit child sheets fresh gone → RootSettles usable (root_of child) sheets taken out
    → AllByRecursion (λ sheet. HasCells new sheet.number sheet.cells) out → Rooted new (root_of child) edit child (fresh ++ taken) gone
root_settles new usable edit depth child sheets fresh gone taken out shallow parts deep plans (inl fits) all =
    let root : ℕ = root_of child in
    let A : List Sheet → Type 0 = λ l. AllByRecursion (λ sheet. HasCells new sheet.number sheet.cells) l in
    let N : List Sheet → Type 0 = λ l. AreNumbered l [] in
    let there = subst A fits.2 all in
    let instead = plans [] root (record { numbered = subst N (sym fits.0.0) tt; each = tt; last = there.0 }) (inl refl) in
    let R : List ℕ → Type 0 = λ l. Rooted new root edit child (fresh ++ l) gone in
    subst R (sym fits.1) (root_kept new edit depth child (fresh ++ []) gone shallow instead)
root_settles new usable edit depth child sheets fresh gone taken out shallow parts deep plans (inr cut) all =
    let root : ℕ = root_of child in
    let front : List Sheet = cut.front in
    let page : ℕ = cut.page in
    let H : Sheet → Type 0 = λ sheet. HasCells new sheet.number sheet.cells in
    let A : List Sheet → Type 0 = λ l. AllByRecursion H l in
    let top : List Sheet = on page sheets.last ∷ on root (InteriorPage (up_cells front) page) ∷ [] in
    let there = subst A cut.out_are all in
    let last = all_behind H front top there in
    let instead = plans front page (record { numbered = cut.numbered; each = all_front H front top there; last = last.0 }) (inr cut.over) in
    let g : Sheet → InnerCell = λ s. record { child = s.number; rowid = s.key } in
    let some : (1 ≤ length (up_cells front)) ⊎ (root ≡ 1) = elim (cases_lt 0 (length front)) [
      | inl more ↦ inl (omega (arith, more, length-map front g))
      | inr none ↦ elim (cases_lt 1 root) [
        | inl big ↦ absurd (cut.over (let bare = empty_of sheets.front.items (omega (arith, none, as_many sheets.front.items front cut.numbered)) in
            (bare, parts.alone bare (omega (arith, big)))))
        | inr small ↦ inr (omega (arith, small, last.1.0.there.least))
      ]
    ] in
    let grows = root_grows.whole new depth root page edit child (up_cells front) (fresh ++ numbers front) gone instead last.1.0 some (deep cut.over) in
    record {
      tree = over root instead.run;
      whole = grows.0;
      rows = grows.1;
      named = λ n. omega (
        arith,
        root_grows.named new depth root page n edit child (up_cells front) (fresh ++ numbers front) gone instead refl,
        times-append n (fresh ++ numbers front) (page ∷ []),
        times-append n fresh (numbers front),
        times-append n fresh taken,
        ap (times n) cut.taken_are,
        times-append n (numbers front) (page ∷ []),
      );
    }
  where
    empty_of : (l : List Sheet) → length l ≤ 0 → l ≡ []
    empty_of [] short = refl
    empty_of (s ∷ more) short = absurd (omega (arith, short))

-- pages that stand beside the first step are not written
unwritten : (usable : ℕ) (child : Tree) (step : Beside) (steps : List Beside) (sheets : Sheets) (taken : List ℕ) (out : List Sheet)
    → AreClimbed usable (root_of child) sheets (levels_of (step ∷ steps)) taken out
    → ((n : ℕ) → times n (root_of child ∷ around (step ∷ steps)) + times n taken ≤ 1) → (n : ℕ) → Among (beside_of step) n
    → Among (around (step ∷ steps)) n × ¬ (Among (numbers out) n)
unwritten usable child step steps sheets taken out climbed apart n some = (
  omega (arith, some, around_first n step steps),
  λ written. omega (
    arith,
    some,
    written,
    out_count usable (root_of child) sheets
        (levels_of (step ∷ steps)) taken out climbed n,
    apart n,
    around_first n step steps,
    levels_around n steps,
  ),
)

-- where a page goes up, its sheets are on their pages, and those of the pages above too
pub record GoesUp (new : Pages) (child : Tree) (sheets : Sheets) (front others : List Sheet) : Type 0 where
  pub on_pages : AreOn new sheets front (root_of child)
  pub rest : AllByRecursion (λ sheet. HasCells new sheet.number sheet.cells) others

goes_up : (new : Pages) (child : Tree) (sheets : Sheets) (front : List Sheet) (taken more : List ℕ) (out others : List Sheet)
    → Settles (root_of child) sheets front taken more out others
    → AllByRecursion (λ sheet. HasCells new sheet.number sheet.cells) out → GoesUp new child sheets front others
goes_up new child sheets front taken more out others settles all =
    let H : Sheet → Type 0 = λ sheet. HasCells new sheet.number sheet.cells in
    let A : List Sheet → Type 0 = λ l. AllByRecursion H l in
    let there = subst A settles.out_are all in
    let last = all_behind H front (on (root_of child) sheets.last ∷ others) there in
    record {
      on_pages = record { numbered = settles.numbered; each = all_front H front (on (root_of child) sheets.last ∷ others) there; last = last.0 };
      rest = last.1;
    }

more_taken : (new : Pages) (root : ℕ) (edit : Edit) (was : Tree) (fresh gone taken front more : List ℕ) → taken ≡ front ++ more
    → Rooted new root edit was ((fresh ++ front) ++ more) gone
    → Rooted new root edit was (fresh ++ taken) gone
more_taken new root edit was fresh gone taken front more is rooted = record {
  tree = rooted.tree;
  whole = rooted.whole;
  rows = rooted.rows;
  named = λ n. omega (
    arith,
    rooted.named n,
    times-append n (fresh ++ front) more,
    times-append n fresh front,
    times-append n fresh taken,
    ap (times n) is,
    times-append n front more,
  );
}

-- the next page up
next_plans : (old new : Pages) (usable : ℕ) (edit : Edit) (low high : ℤ) (depth : ℕ) (child : Tree) (step : Beside) (front : List Sheet) (next : Sheets) (fresh gone : List ℕ)
    → IsBeside low high (key_of edit) child step → Stands old low high depth child step → Keeps old new (Among (beside_of step)) → 1 ≤ length front
    → Instead new (last_key low step.before) (bound high step.behind) depth edit child (up_cells front) (root_of child) fresh gone → IsInnerPlan usable step.level front next
    → Plans new usable low high (suc depth) edit (with_child child step) next fresh gone
next_plans old new usable edit low high depth child step front next fresh gone beside stands keeps some instead plan front' page on which =
    inner_planned old new low high depth step.level.number page usable edit step.before child step.behind step.level front next front' fresh gone
    stands.is beside.has beside.at beside.above beside.below instead plan some keeps on

-- the whole climb
pub climb : (old new : Pages) (usable : ℕ) (edit : Edit) → 480 ≤ usable → (depth : ℕ) (child : Tree) (steps : List Beside) (sheets : Sheets) (fresh gone taken : List ℕ)
    (out : List Sheet) → AreBeside below_all greatest (key_of edit) child steps → AreStanding old below_all greatest depth child steps → depth_over depth steps ≤ most_depth
    → FewAt depth steps
    → Plans new usable (low_at below_all steps) (high_at greatest steps) depth edit child sheets fresh gone → HasParts usable (root_of child) sheets
    → (steps ≡ [] → ¬ (RootFits usable (root_of child) sheets) → suc depth ≤ most_depth)
    → AreClimbed usable (root_of child) sheets (levels_of steps) taken out → AllByRecursion (λ sheet. HasCells new sheet.number sheet.cells) out
    → Keeps old new (λ n. Among (around steps) n × ¬ (Among (numbers out) n)) → ((n : ℕ) → times n (root_of child ∷ around steps) + times n taken ≤ 1)
    → Rooted new (root_of (tree_over child steps)) edit (tree_over child steps) (fresh ++ taken) gone
climb old new usable edit least depth child [] sheets fresh gone taken out beside standing shallow few plans parts deep climbed all keeps apart =
    root_settles new usable edit depth child sheets fresh gone taken out shallow parts (deep refl) plans climbed all
climb old new usable edit least depth child (step ∷ steps) sheets fresh gone taken out beside standing shallow few plans parts deep
    (front, more, others, settles, how) all keeps apart =
    let low : ℤ = low_at below_all steps in
    let high : ℤ = high_at greatest steps in
    let up = goes_up new child sheets front taken more out others settles all in
    let instead = plans front (root_of child) up.on_pages (inl refl) in
    let near : Keeps old new (Among (beside_of step)) = keeps_less old new _ _
    (unwritten usable child step steps sheets taken out (front, more, others, settles, how) apart) keeps in
    let out_is : (n : ℕ) → times n (numbers out) ≡ times n (numbers front) + times n (root_of child ∷ []) + times n (numbers others) = λ n.
    omega (arith, ap (λ (l : List Sheet). times n (numbers l)) settles.out_are, numbers_append n front (on (root_of child) sheets.last ∷ others)) in
    let taken_is : (n : ℕ) → times n taken ≡ times n (numbers front) + times n more = λ n. omega (arith, ap (times n) settles.taken_are, times-append n (numbers front) more) in
    elim how [
      | inl kept ↦
          let I : List Sheet → Type 0 = λ l. Instead new (last_key low step.before) (bound high step.behind) depth edit child (up_cells l) (root_of child)
          (fresh ++ numbers l) gone in
          let R : List Sheet → Type 0 = λ l. Rooted new (root_of (tree_over child (step ∷ steps))) edit (tree_over child (step ∷ steps)) ((fresh ++ numbers l) ++ more) gone in
          let M : List ℕ → Type 0 = λ l. Rooted new (root_of (tree_over child (step ∷ steps))) edit (tree_over child (step ∷ steps)) ((fresh ++ []) ++ l) gone in
          let still : Keeps old new (Among (around (step ∷ steps))) = keeps_less old new _ _
          (λ n some. (
            some,
            λ written. omega (
              arith,
              some,
              written,
              out_is n,
              ap (λ (l : List Sheet). times n (numbers l)) kept.0,
              ap
                  (λ (l : List Sheet). times n (numbers l)) kept.2,
              apart n,
            ),
          )) keeps in
          let stays = stay_up old new edit depth child (step ∷ steps) ((fresh ++ []) ++ []) gone beside standing shallow still
          (padded_instead new _ _ depth edit child [] _ (fresh ++ []) gone (subst I kept.0 instead)) in
          more_taken new _ edit _ fresh gone taken (numbers front) more settles.taken_are (subst R (sym kept.0) (subst M (sym kept.1) stays))
      | inr (inl falls) ↦ absurd (falls.1 (ups_rise old new edit low high depth child step front (fresh ++ numbers front) gone beside.0 standing.0 near instead))
      | inr (inr goes) ↦
          let next : Sheets = goes.2.0 in
          let plan = goes.2.1 in
          let run : Run = within step.before (one child) step.behind in
          let number : root_of (with_child child step) ≡ step.level.number = run_over.rooted step.level.number run in
          let C : ℕ → Type 0 = λ n. AreClimbed usable n next (levels_of steps) more others in
          let H : ℕ → Type 0 = λ n. HasParts usable n next in
          let cells : List InnerCell = with_ups step.level.at (up_cells front) step.level.cells in
          let F : ℕ → Type 0 = λ n. RootFits usable n next in
          let deeper : steps ≡ [] → ¬ (RootFits usable (root_of (with_child child step)) next) → suc (suc depth) ≤ most_depth = λ top over.
          elim (cases_lt (suc depth) most_depth) [
            | inl less ↦ less
            | inr full ↦ absurd (over (subst F (sym number) (few_uncut usable step.level.number step.level.right cells next least
                (omega (
                  arith,
                  with_long step.level.at front step.level.cells,
                  parts.few,
                  as_many sheets.front.items front settles.numbered,
                  few.0
                      (deep_is depth steps top shallow full),
                ))
                goes.1 plan)))
          ] in
          more_taken new _ edit _ fresh gone taken (numbers front) more settles.taken_are
          (climb old new usable edit least (suc depth) (with_child child step) steps next (fresh ++ numbers front) gone more others beside.1 standing.2 shallow few.1
          (next_plans old new usable edit low high depth child step front next (fresh ++ numbers front) gone beside.0 standing.0 near goes.0 instead plan)
          (subst H (sym number) (inner_parts usable step.level.number step.level.right cells next plan)) deeper (subst C (sym number) goes.2.2) up.rest
          (keeps_less old new _ _ (λ n q. (
            omega (arith, q.0, around_first n step steps),
            λ written. elim (cases_lt 0 (times n (numbers others))) [
              | inl other ↦ q.1 (omega (arith, other))
              | inr none ↦ omega (arith, written, none, q.0, out_is n, taken_is n, around_first n step steps, apart n)
            ],
          )) keeps)
          (λ n. omega (arith, apart n, taken_is n, around_first n step steps, ap (λ k. times n (k ∷ [])) number)))
    ]
  where
    deep_is : (depth : ℕ) (steps : List Beside) → steps ≡ [] → depth_over (suc depth) steps ≤ most_depth → most_depth ≤ suc depth → suc depth ≡ most_depth
    deep_is depth [] top shallow full = omega (arith, shallow, full)
    deep_is depth (s ∷ more) top shallow full = absurd (omega (arith, ap (λ (l : List Beside). length l) top))

    padded_instead : (new : Pages) (low high : ℤ) (depth : ℕ) (edit : Edit) (child : Tree) (ups : List InnerCell) (page : ℕ) (fresh gone : List ℕ)
        → Instead new low high depth edit child ups page fresh gone → Instead new low high depth edit child ups page (fresh ++ []) gone
    padded_instead new low high depth edit child ups page fresh gone instead = record {
      run = instead.run;
      is = instead.is;
      named_by = instead.named_by;
      top = instead.top;
      rows = instead.rows;
      named = λ n. omega (arith, instead.named n, times-append n fresh []);
    }
