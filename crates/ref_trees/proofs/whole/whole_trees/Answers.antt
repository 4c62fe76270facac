use Rattle.std.proofs.Common.{ℕ, ◌++◌, List, Result, Vec, Global, IfOk, IfErr, get_or, ap, ◌∙◌, subst}
use Rattle.ref_pages.specs.AsPages.{pages_of}
use Rattle.ref_trees.specs.ForestSteps.{IsTreeLack, IsWholeWith}
use Rattle.ref_trees.specs.declared.whole.Lacks.{Lacks}
use Rattle.ref_pages.proofs.DifferentLemmas.{among_at}
use Rattle.ref_trees.proofs.ForestLemmas.{lack_of_tree, whole_more}
use Rattle.ref_trees.proofs.whole.whole_trees.Goals as goal

pub returns-in-Err-clause-lacks : goal.returns-in-Err-clause-lacks
returns-in-Err-clause-lacks c =
    let pages = pages_of c.args.pages.now in
    let roots = c.args.roots.now in
    let root = get_or roots c.loop-root.root-index 0 in
    let P : Result (Vec ℕ Global) Lacks → Type 0 = λ answer. IfErr answer (IsTreeLack pages root) in
    lack_of_tree pages roots root c.in-Err.lacks (among_at roots c.loop-root.root-index c.loop-root-test.true) (subst P c.in-Err.is c.in_ok-more.ensures.lacks)

pub loop-root-preserved : goal.loop-root-preserved
loop-root-preserved c =
    let pages = pages_of c.args.pages.now in
    let roots = c.args.roots.now in
    let root = get_or roots c.loop-root.root-index 0 in
    let named = c.loop-root.named.items in
    let P : Result (Vec ℕ Global) Lacks → Type 0 = λ answer. IfOk answer (λ more. IsWholeWith pages root more.items) in
    whole_more pages roots c.loop-root.root-index named c.in-Ok.more.items c.extend_from_slice.new.self.items c.loop-root-test.true c.loop-root.invariant
    (subst P c.in-Ok.is c.in_ok-more.ensures.whole) (c.in_ok-extend_from_slice-in-Ok.ensures.items ∙ ap (λ (l : List ℕ). named ++ l) c.deref.ensures.value)
