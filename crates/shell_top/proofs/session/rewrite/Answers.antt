use Rattle.std.proofs.Common.{◌∙◌}
use Rattle.vfs_trait.specs.State.{name_at}
use Rattle.shell_top.proofs.TouchLemmas.{touches_next, may_write, may_cut}
use Rattle.shell_top.proofs.SessionLemmas.{always, rewritten_at}
use Rattle.shell_top.proofs.session.rewrite.Goals as goal

pub write-requires-clause-pages : goal.write-requires-clause-pages
write-requires-clause-pages g c = may_write (g.V.Vfs.state c.args.stack.now).layers _ 0 c.args.bytes.now c.requires.bare

pub cut-requires-clause-pages : goal.cut-requires-clause-pages
cut-requires-clause-pages g c = may_cut (g.V.Vfs.state c.write.new.self).layers _ _ (c.write.ensures.steady.layers ∙ c.requires.bare)

pub returns-in_err-cut-clause-touches : goal.returns-in_err-cut-clause-touches
returns-in_err-cut-clause-touches g c =
    let state = g.V.Vfs.state in
    touches_next c.looser_twice.ensures (state c.args.stack.now) (state c.write.new.self) (state c.cut.new.self) c.args.file.0 c.write.ensures.rests.opens
    (record { steady = c.write.ensures.steady; others = c.write.ensures.leaves.others }) c.cut.ensures.steady c.cut.ensures.leaves.others

pub returns-clause-touches : goal.returns-clause-touches
returns-clause-touches g c =
    let state = g.V.Vfs.state in
    let fid = c.args.file.0 in
    let twice = c.looser_twice.ensures in
    let first = c.write.ensures.rests.opens in
    let second = c.cut.ensures.rests.opens in
    touches_next twice (state c.args.stack.now) (state c.cut.new.self) (state c.sync.new.self) fid
    (record { names = λ f. second.names f ∙ first.names f; delicate = λ n. second.delicate n ∙ first.delicate n })
    (touches_next twice (state c.args.stack.now) (state c.write.new.self) (state c.cut.new.self) fid first
    (record { steady = c.write.ensures.steady; others = c.write.ensures.leaves.others }) c.cut.ensures.steady c.cut.ensures.leaves.others)
    c.sync.ensures.steady c.sync.ensures.leaves.others

pub returns-clause-ok : goal.returns-clause-ok
returns-clause-ok g c =
    let state = g.V.Vfs.state in
    let fid = c.args.file.0 in
    always c.sync.result (λ tells.
    let after_write = c.write.ensures.steady.tells ∙ tells in
    let after_cut = c.cut.ensures.steady.tells ∙ after_write in
    rewritten_at ((state c.args.stack.now).delicate (name_at (state c.args.stack.now) fid)) (state c.args.stack.now) (state c.write.new.self) (state c.cut.new.self)
    (state c.sync.new.self) fid c.args.bytes.now c.sync.result c.write.ensures.rests.opens c.cut.ensures.rests.opens c.sync.ensures.rests.opens
    (c.in_ok-write.ensures.leaves.file tells) (c.in_ok-cut.ensures.leaves.file after_write) (c.sync.ensures.leaves.file after_cut))
