use Rattle.std.proofs.Common.{◌≡◌, ℕ, ◌++◌, pos, Option, None, IfSome, IfNone, List, get_or, sym, ap₂, ◌∙◌, subst}
use Rattle.std.specs.List.{flat_map}
use Rattle.tree_model.specs.Tree.{pages_of as tree_pages}
use Rattle.tree_model.specs.Whole.{most_depth}
use Rattle.ref_pages.specs.AsPages.{pages_of}
use Rattle.ref_trees.specs.Gathered.{HasNoTree}
use Rattle.ref_trees.specs.GatherSteps.{low_of, Gathers}
use Rattle.ref_trees.specs.declared.gather.Summary.{Summary}
use Rattle.ref_pages.proofs.DifferentLemmas.{among_at}
use Rattle.ref_trees.proofs.ForestLemmas.{forest_more, flat_push}
use Rattle.ref_trees.proofs.need.pages_of_trees.Goals as goal

pub returns-in_default-clause-none : goal.returns-in_default-clause-none
returns-in_default-clause-none c =
    let roots = c.args.roots.now in
    let root = get_or roots c.loop-root.root-index 0 in
    let P : Option Summary → Type 0 = λ found. IfNone found (HasNoTree (pages_of c.args.pages.now) most_depth root) in
    record { root = root; among = among_at roots c.loop-root.root-index c.loop-root-test.true; none = subst P c.in_default.is c.in_ok-found.ensures.none }

pub loop-root-preserved : goal.loop-root-preserved
loop-root-preserved c =
    let pages = pages_of c.args.pages.now in
    let roots = c.args.roots.now in
    let root = get_or roots c.loop-root.root-index 0 in
    let P : Option Summary → Type 0 = λ found. IfSome found (Gathers pages most_depth root (low_of None) (pos 9223372036854775807)) in
    let g = subst P c.in-Some.is c.in_ok-found.ensures.found in
    forest_more pages roots c.loop-root.root-index (λ trees. c.loop-root.named.items ≡ flat_map tree_pages trees) (λ trees. c.extend_from_slice.new.self.items ≡ flat_map tree_pages trees)
    g.tree c.loop-root-test.true c.loop-root.invariant g.has_tree
    (λ trees said. c.in_ok-extend_from_slice.ensures.items ∙ ap₂ (λ (a b : List ℕ). a ++ b) said (c.deref.ensures.value ∙ g.tells.pages_are) ∙ sym (flat_push trees g.tree))
