use Rattle.std.proofs.Common.{ℕ, pos, Option, None, not, IfSome, refl, sym, ap, ◌∙◌, subst}
use Rattle.std.proofs.lemmas.Bool.{false≢true}
use Rattle.tree_model.specs.Tree.{HasDepth}
use Rattle.tree_model.specs.Whole.{most_depth}
use Rattle.ref_pages.specs.AsPages.{pages_of}
use Rattle.ref_trees.specs.GatherSteps.{low_of, Gathers}
use Rattle.ref_trees.specs.declared.gather.Summary.{Summary}
use Rattle.ref_trees.proofs.GatherLemmas.{depth_is}
use Rattle.ref_trees.proofs.whole.whole_tree.Goals as goal

pub returns-then-not-found-2-clause-lacks : goal.returns-then-not-found-2-clause-lacks
returns-then-not-found-2-clause-lacks c =
    let pages = pages_of c.args.pages.now in
    let P : Option Summary → Type 0 = λ found. IfSome found (Gathers pages most_depth c.args.root (low_of None) (pos 9223372036854775807)) in
    let g = subst P c.in-Some.is c.in_ok-found.ensures.found in (
      refl,
      record {
        tree = g.tree;
        has_tree = g.has_tree;
        said = λ depth has.
            let D : ℕ → Type 0 = λ d. HasDepth d g.tree in
            false≢true (sym (ap not (g.tells.level_is.1 (subst D (depth_is depth g.tree has) has))) ∙ c.if-not-found-2.true);
      },
    )
