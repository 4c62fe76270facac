-- A whole path.
use Rattle.std.proofs.Common.{◌⊎◌, inl, inr, ℕ, suc, ℤ, List, [], ◌∷◌, ◌++◌, sym, subst}
use Rattle.page_list.specs.Pages.{Pages}
use Rattle.tree_model.specs.Tree.{Tree, Right, root_of}
use Rattle.tree_run.specs.Node.{last_key}
use Rattle.tree_run.specs.Run.{one, within, bound}
use Rattle.tree_run.specs.Edit.{Edit}
use Rattle.tree_level.proofs.PartLemmas.{root_join}
use Rattle.page_cut.specs.declared.parts.Sheet.{Sheet}
use Rattle.tree_level.specs.Level.{numbers, up_cells, Instead}
use Rattle.tree_level.proofs.StepLemmas.{inner_kept}
use Rattle.tree_plan.specs.Path.{Step, above, low_below, high_below, StepIs, IsPlanned, IsKept, PathPlanned}
use Rattle.tree_plan.proofs.LawLemmas.{inner_planned}

one_step : (old new : Pages) (usable : ℕ) (low high : ℤ) (depth : ℕ) (edit : Edit) (child : Tree) (ups : List Sheet) (step : Step) (fresh gone : List ℕ) →
    StepIs old low high depth edit child step → IsPlanned old new usable ups step ⊎ IsKept old new ups step →
    Instead new (last_key low step.before) (bound high step.behind) depth edit child (up_cells ups) (root_of child) fresh gone →
    Instead new low high (suc depth) edit (above child step) (up_cells step.front) step.level.number (fresh ++ numbers step.front) gone
one_step old new usable low high depth edit child ups step fresh gone is (inl plan) instead =
    inner_planned old new low high depth step.level.number step.level.number usable edit step.before child step.behind step.level ups step.sheets step.front fresh gone
    is.is is.has is.at is.above_low is.below_high instead plan.plan plan.some plan.beside plan.on
one_step old new usable low high depth edit child ups step fresh gone is (inr kept) instead =
    let P : List Sheet → Type 0 = λ l. Instead new (last_key low step.before) (bound high step.behind) depth edit child (up_cells l) (root_of child) fresh gone in
    let Q : List Sheet → Type 0 = λ l. Instead new low high (suc depth) edit (above child step) (up_cells l) step.level.number (fresh ++ numbers l) gone in
    subst Q (sym kept.none_up)
    (inner_kept old new low high depth step.level.number step.level.right edit step.before child step.behind step.level.cells fresh gone
    is.is is.has kept.some kept.page_has is.above_low is.below_high (subst P kept.none instead) kept.beside)

pub path_planned : PathPlanned
path_planned old new usable low high depth edit child ups [] fresh gone instead steps_are = instead
path_planned old new usable low high depth edit child ups (step ∷ steps) fresh gone instead steps_are =
    let next = one_step old new usable (low_below low steps) (high_below high steps) depth edit child ups step fresh gone steps_are.0 steps_are.1 instead in
    let R : ℕ → Type 0 = λ page. Instead new (low_below low steps) (high_below high steps) (suc depth) edit (above child step) (up_cells step.front) page (fresh ++ numbers step.front) gone in
    path_planned old new usable low high (suc depth) edit (above child step) step.front steps (fresh ++ numbers step.front) gone
    (subst R (sym (root_join (within step.before (one child) step.behind).front (Right step.level.number (within step.before (one child) step.behind).last))) next) steps_are.2
