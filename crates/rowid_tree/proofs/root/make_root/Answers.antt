use Rattle.std.proofs.lemmas.Result.{IfOk-weaker}
use Rattle.rowid_tree.specs.Roots.{RootMade, AddsRoot}
use Rattle.rowid_tree.proofs.AddLemmas.{adds_root}
use Rattle.rowid_tree.proofs.root.make_root.Goals as goal

pub returns-clause-adds : goal.returns-clause-adds
returns-clause-adds g c = λ t.
    let state = g.S.PageSpace.state in
    let old = state c.args.space.now in
    let new = state c.take_root.new.space in
    IfOk-weaker c.take_root.result (RootMade old new) (AddsRoot old.pages new.pages)
    (λ number made. adds_root c.whole_takes.ensures c.header_size.ensures c.root_added.ensures c.front_apart.ensures old new number t c.size-size.ensures.sizes c.take_root.ensures.steady made)
    c.take_root.ensures.made
