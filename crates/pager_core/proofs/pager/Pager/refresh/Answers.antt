use Rattle.pager_core.proofs.ReadLemmas.{refreshed, refresh_cause}
use Rattle.pager_core.proofs.pager.Pager.refresh.Goals as goal

pub returns-in-Ok-false-clause-cause : goal.returns-in-Ok-false-clause-cause
returns-in-Ok-false-clause-cause g c =
    let state = g.V.Vfs.state in
    refresh_cause (state c.args.stack.now) (state c.is_current.new.stack) (state c.read_anew.new.stack) c.args.self.now c.read_anew.result c.is_current.ensures.looks c.read_anew.ensures.looks.steady c.requires.named
    c.read_anew.ensures.cause

pub returns-in-Ok-false-clause-reads : goal.returns-in-Ok-false-clause-reads
returns-in-Ok-false-clause-reads g c =
    let state = g.V.Vfs.state in
    refreshed (state c.args.stack.now) (state c.is_current.new.stack) c.args.self.now c.read_anew.new.self c.read_anew.result c.is_current.ensures.looks c.requires.named c.read_anew.ensures.same c.read_anew.ensures.clean
    c.read_anew.ensures.anew c.read_anew.ensures.none
