use Rattle.std.proofs.lemmas.Result.{IfErr-weaker, on_ok_weaker}
use Rattle.tree_free.specs.Free.{TreeRefused, IsSoundlyRefused}
use Rattle.tree_free.specs.Steps.{FreeStops}
use Rattle.tree_free.proofs.FoundLemmas.{tree_refused}
use Rattle.tree_free.proofs.FreedLemmas.{removes_root}
use Rattle.tree_free.proofs.CleanLemmas.{soundly_refused}
use Rattle.tree_free.proofs.free.free_all.Goals as goal

pub returns-clause-removes : goal.returns-clause-removes
returns-clause-removes g c = λ t.
    let state = g.S.PageSpace.state in
    on_ok_weaker c.free_tree.result
    (λ freed. removes_root c.gives_keep.ensures c.whole_gives.ensures c.one_tree.ensures (state c.args.space.now) (state c.free_tree.new.space) c.args.root t c.size-size.ensures.sizes
    c.requires.other freed) c.free_tree.ensures.freed

pub returns-clause-refused : goal.returns-clause-refused
returns-clause-refused g c =
    let state = g.S.PageSpace.state in
    let old = state c.args.space.now in
    let new = state c.free_tree.new.space in
    IfErr-weaker c.free_tree.result (FreeStops old new c.args.root) (TreeRefused old new c.args.root) (λ fault. tree_refused old new c.args.root fault) c.free_tree.ensures.refused

pub returns-clause-clean : goal.returns-clause-clean
returns-clause-clean g c = λ t.
    let state = g.S.PageSpace.state in
    let old = state c.args.space.now in
    let new = state c.free_tree.new.space in
    IfErr-weaker c.free_tree.result (FreeStops old new c.args.root) (IsSoundlyRefused old.pages c.args.root)
    (λ fault. soundly_refused c.one_page.ensures c.one_chain.ensures c.gives_keep.ensures c.whole_gives.ensures c.not_damaged.ensures c.one_tree.ensures old new c.args.root fault t
    c.size-size.ensures.sizes c.requires.other) c.free_tree.ensures.refused
