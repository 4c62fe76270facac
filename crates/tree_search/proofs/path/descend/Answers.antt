use Rattle.std.proofs.Common.{IfErr, None}
use Rattle.std.proofs.lemmas.Int.{to_z-of_z}
use Rattle.std.proofs.lemmas.Result.{IfErr-weaker}
use Rattle.tree_model.specs.declared.ends.Fault.{Fault}
use Rattle.tree_model.specs.declared.ends.PathEnd.TheVariants.{Ends}
use Rattle.tree_model.specs.Whole.{most_depth}
use Rattle.tree_model.specs.Walk.{Path}
use Rattle.tree_search.specs.Search.{SearchRefused}
use Rattle.tree_search.specs.Steps.{Leads}
use Rattle.tree_search.proofs.StateLemmas.{refused_as}
use Rattle.tree_search.proofs.path.descend.Goals as goal

pub returns-clause-refused : goal.returns-clause-refused
returns-clause-refused g c =
    let state = g.S.PageSpace.state in
    let old = state c.args.space.now in
    let new = state c.go_down.new.space in
    let key_fits = c.ranges.rowid in
    let A : Fault → Type 0 = λ fault. Leads most_depth None old.pages c.args.root c.args.root c.args.rowid (Ends fault) in
    let B : Fault → Type 0 = λ fault. Path None old.pages c.args.root c.args.rowid (Ends fault) in
    let refused : IfErr c.go_down.result (SearchRefused old new A) = simp to_z-of_z at c.go_down.ensures.refused in
    IfErr-weaker c.go_down.result (SearchRefused old new A) (SearchRefused old new B) (λ fault. refused_as old new A B fault (λ t f leads. leads.leads)) refused
