use Rattle.std.proofs.Common.{◌∙◌, ap}
use Rattle.std.proofs.lemmas.Result.{err_from_is_err_and}
use Rattle.tree_free.specs.Steps.{FreeFails}
use Rattle.tree_free.proofs.FoundLemmas.{first_refused, walk_refused, tree_found}
use Rattle.tree_free.proofs.collect.tree_pages.Goals as goal

pub returns-in_err-mark-clause-refused : goal.returns-in_err-mark-clause-refused
returns-in_err-mark-clause-refused g c =
    let old = g.S.PageSpace.state c.args.space.now in
    let p = err_from_is_err_and c.from_residual-in_err-mark.result c.from_residual-in_err-mark.ensures.1 in
    rw (p.1, p.2) (first_refused old old (FreeFails old.pages c.args.root) c.new-2.result c.in_err-mark.field-0.0 c.new-2.ensures.empty c.in_err-mark.ensures.cause)

pub returns-in_err-collect-clause-refused : goal.returns-in_err-collect-clause-refused
returns-in_err-collect-clause-refused g c =
    let state = g.S.PageSpace.state in
    let p = err_from_is_err_and c.from_residual-in_err-collect.result c.from_residual-in_err-collect.ensures.1 in
    rw (p.1, p.2)
    (walk_refused (state c.args.space.now) (state c.collect.new.space) c.args.root c.new-2.result c.mark.new.self.met c.in_err-collect.field-0.0 c.new-2.ensures.empty
    c.in_ok-mark.ensures.marked c.in_err-collect.ensures.refused)

pub returns-clause-found : goal.returns-clause-found
returns-clause-found g c =
    tree_found c.new-2.result c.new-2.ensures.empty c.in_ok-mark.ensures.marked (ap (λ v. v.items) c.in_ok-mark.ensures.numbers ∙ c.new.ensures.items) c.in_ok-collect.ensures.gone
