use Rattle.std.proofs.Common.{IfOk}
use Rattle.std.proofs.lemmas.Int.{to_z-of_z}
use Rattle.std.proofs.lemmas.Result.{IfOk-weaker}
use Rattle.tree_model.specs.Whole.{most_depth}
use Rattle.tree_model.specs.declared.ends.PathEnd.{PathEnd}
use Rattle.tree_model.specs.Walk.{Path}
use Rattle.ref_pages.specs.AsPages.{pages_of}
use Rattle.ref_trees.specs.Steps.{Leads}
use Rattle.ref_trees.proofs.PathStepLemmas.{is_path}
use Rattle.ref_trees.proofs.path.path_of.Goals as goal

pub returns : goal.returns
returns c =
    let pages = pages_of c.args.pages.now in
    let key_fits = c.ranges.key in
    let P : PathEnd → Type 0 = λ end. Leads most_depth c.args.columns pages c.args.root c.args.root c.args.key end in
    let Q : PathEnd → Type 0 = λ end. Path c.args.columns pages c.args.root c.args.key end in
    let leads : IfOk c.leads_to.result P = simp to_z-of_z at c.leads_to.ensures in
    IfOk-weaker c.leads_to.result P Q (is_path c.args.columns pages c.args.root c.args.key) leads
