use Rattle.pager_core.proofs.LevelLemmas.{granted_fits, refused_fits}
use Rattle.pager_core.proofs.pager.Pager.ask_alone.Goals as goal

pub returns-in-Ok-clause-fits : goal.returns-in-Ok-clause-fits
returns-in-Ok-clause-fits g c =
    granted_fits c.args.self.now (g.V.Vfs.state c.args.stack.now) (g.V.Vfs.state c.lock.new.self) c.args.who c.requires.fits c.requires.owned c.lock.ensures.opens c.in-Ok.ensures.rule.0

pub returns-in-Err-clause-fits : goal.returns-in-Err-clause-fits
returns-in-Err-clause-fits g c =
    refused_fits c.args.self.now (g.V.Vfs.state c.args.stack.now) (g.V.Vfs.state c.lock.new.self) c.args.who c.in-Err.field-0 c.requires.fits c.requires.owned c.lock.ensures.opens c.in-Err.ensures.rule.0
