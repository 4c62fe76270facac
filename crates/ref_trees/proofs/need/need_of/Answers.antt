use Rattle.std.proofs.Common.{◌≡◌, ℕ, ◌+◌, pos, Option, None, IfSome, IfNone, List, length, map, get_or, sym, ap, ap₂, ◌∙◌, subst, add_assoc}
use Rattle.tree_model.specs.Tree.{Row, rows_of}
use Rattle.tree_model.specs.Whole.{most_depth, first_page}
use Rattle.tree_model.specs.Need.{need_of_trees, need_of_rows}
use Rattle.ref_pages.specs.AsPages.{pages_of}
use Rattle.ref_trees.specs.Gathered.{HasNoTree}
use Rattle.ref_trees.specs.GatherSteps.{low_of, Gathers}
use Rattle.ref_trees.specs.declared.gather.Summary.{Summary}
use Rattle.ref_pages.proofs.DifferentLemmas.{among_at}
use Rattle.ref_trees.proofs.ForestLemmas.{forest_more, need_push}
use Rattle.ref_trees.proofs.need.need_of.Goals as goal

pub returns-in_default-clause-none : goal.returns-in_default-clause-none
returns-in_default-clause-none c =
    let roots = c.args.roots.now in
    let root = get_or roots c.loop-root.root-index 0 in
    let P : Option Summary → Type 0 = λ found. IfNone found (HasNoTree (pages_of c.args.pages.now) most_depth root) in
    record { root = root; among = among_at roots c.loop-root.root-index c.loop-root-test.true; none = subst P c.in_default.is c.in_ok-found.ensures.none }

pub loop-root-preserved : goal.loop-root-preserved
loop-root-preserved c =
    let pages = pages_of c.args.pages.now in
    let roots = c.args.roots.now in
    let root = get_or roots c.loop-root.root-index 0 in
    let P : Option Summary → Type 0 = λ found. IfSome found (Gathers pages most_depth root (low_of None) (pos 9223372036854775807)) in
    let g = subst P c.in-Some.is c.in_ok-found.ensures.found in
    let first = length (first_page roots) in
    let here = need_of_rows pages.usable (map (λ (row : Row). length row.payload) (rows_of g.tree)) in
    let rows_need : c.in_ok-need_of_tree.field-0 ≡ here = c.in_ok-need_of_tree.ensures
    ∙ ap₂ (λ (u : ℕ) (rows : List Row). need_of_rows u (map (λ (row : Row). length row.payload) rows)) c.usable.ensures.is (c.deref.ensures.value ∙ g.tells.rows_are) in
    forest_more pages roots c.loop-root.root-index (λ trees. c.loop-root.count ≡ first + need_of_trees pages.usable trees) (λ trees. c.in_ok-count.count ≡ first + need_of_trees pages.usable trees)
    g.tree c.loop-root-test.true c.loop-root.invariant g.has_tree
    (λ trees said. c.in_ok-count.ensures ∙ ap₂ (λ (m n : ℕ). m + n) said rows_need ∙ add_assoc first (need_of_trees pages.usable trees) here
    ∙ ap (λ n. first + n) (sym (need_push pages.usable trees g.tree)))
