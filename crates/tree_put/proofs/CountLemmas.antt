-- How often the pages of a climb are named.
use Rattle.std.proofs.Common.{◌≡◌, inl, inr, ℕ, ◌+◌, ◌≤◌, List, [], ◌∷◌, ◌++◌, map, ap, ◌∙◌, arith}
use Rattle.std.proofs.lemmas.List.{map-append}
use Rattle.page_list.specs.Pages.{times}
use Rattle.page_list.proofs.TimesLemmas.{times-append}
use Rattle.tree_page.specs.declared.cell.PageCells.TheVariants.{Interior as InteriorPage}
use Rattle.tree_model.specs.Tree.{Tree, pages_of}
use Rattle.tree_model.specs.declared.level.Level.{Level}
use Rattle.tree_run.specs.Node.{pages_in}
use Rattle.tree_run.specs.Run.{one, within, behind_pages}
use Rattle.tree_run.proofs.RunLemmas.{run_within, run_over}
use Rattle.page_cut.specs.declared.parts.Sheet.{Sheet}
use Rattle.page_cut.specs.declared.parts.Sheets.{Sheets}
use Rattle.tree_level.specs.Level.{numbers, up_cells}
use Rattle.tree_plan.specs.Climb.{on, AreClimbed}
use Rattle.tree_put.specs.Way.{Beside, with_child, tree_over, around}

-- the numbers of some pages, and what stands beside the child on the way
abbrev pub level_numbers : List Level → List ℕ
level_numbers levels = map (λ level. level.number) levels

abbrev pub levels_of : List Beside → List Level
levels_of steps = map (λ step. step.level) steps

abbrev pub beside_of : Beside → List ℕ
beside_of step = pages_in step.before ++ behind_pages step.behind

pub numbers_append : (n : ℕ) (xs ys : List Sheet) → times n (numbers (xs ++ ys)) ≡ times n (numbers xs) + times n (numbers ys)
numbers_append n xs ys = ap (times n) (map-append (λ (s : Sheet). s.number) xs ys) ∙ times-append n (numbers xs) (numbers ys)

-- no page is written but those taken and those of the way, and none more often
pub out_count : (usable number : ℕ) (sheets : Sheets) (levels : List Level) (taken : List ℕ) (out : List Sheet) → AreClimbed usable number sheets levels taken out → (n : ℕ)
    → times n (numbers out) ≤ times n taken + times n (number ∷ level_numbers levels)
out_count usable number sheets [] taken out (inl fits) n = omega (arith, ap (λ (l : List Sheet). times n (numbers l)) fits.2)
out_count usable number sheets [] taken out (inr cut) n =
    omega (
      arith,
      ap (λ (l : List Sheet). times n (numbers l)) cut.out_are,
      numbers_append n cut.front (on cut.page sheets.last ∷ on number (InteriorPage (up_cells cut.front) cut.page) ∷ []),
      ap (times n) cut.taken_are,
      times-append n (numbers cut.front) (cut.page ∷ []),
    )
out_count usable number sheets (level ∷ above) taken out (front, more, others, settles, how) n =
    let rest : times n (numbers others) ≤ times n more + times n (level_numbers (level ∷ above)) = elim how [
      | inl kept ↦ omega (arith, ap (λ (l : List Sheet). times n (numbers l)) kept.2)
      | inr (inl falls) ↦ omega (arith, ap (λ (l : List Sheet). times n (numbers l)) falls.3)
      | inr (inr goes) ↦ out_count usable level.number goes.2.0 above more others goes.2.2 n
    ] in
    omega (
      arith,
      rest,
      ap (λ (l : List Sheet). times n (numbers l)) settles.out_are,
      numbers_append n front (on number sheets.last ∷ others),
      ap (times n) settles.taken_are,
      times-append n (numbers front) more,
    )

-- the pages around are the pages of the way, and those beside it
pub around_first : (n : ℕ) (step : Beside) (steps : List Beside)
    → times n (around (step ∷ steps)) ≡ times n (step.level.number ∷ []) + times n (beside_of step) + times n (around steps)
around_first n step steps = omega (arith, times-append n (step.level.number ∷ beside_of step) (around steps))

pub levels_around : (n : ℕ) (steps : List Beside) → times n (level_numbers (levels_of steps)) ≤ times n (around steps)
levels_around n [] = omega arith
levels_around n (step ∷ steps) = omega (arith, around_first n step steps, levels_around n steps)

pub way_pages : (n : ℕ) (child : Tree) (steps : List Beside) → times n (pages_of (tree_over child steps)) ≡ times n (pages_of child) + times n (around steps)
way_pages n child [] = omega arith
way_pages n child (step ∷ steps) =
    omega (
      arith,
      way_pages n (with_child child step) steps,
      run_over.named n step.level.number (within step.before (one child) step.behind),
      run_within.named n step.before (one child) step.behind,
      around_first n step steps,
      times-append n (pages_in step.before) (behind_pages step.behind),
    )
