use Rattle.std.proofs.Common.{rules}
use Rattle.pager_core.proofs.LowerLemmas.{fits_lowered}
use Rattle.pager_core.proofs.pager.Pager.lower.Goals as goal

pub returns-clause-fits : goal.returns-clause-fits
returns-clause-fits g c =
    fits_lowered c.args.self.now c.drop_draft.new.self (g.V.Vfs.state c.args.stack.now) (g.V.Vfs.state c.unlock.new.self) c.args.who c.args.level (search rules)
    c.drop_draft.ensures.same c.drop_draft.ensures.drops c.unlock.ensures.opens (search rules) c.requires.fits
