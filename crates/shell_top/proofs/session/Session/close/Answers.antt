use Rattle.shell_top.proofs.TouchLemmas.{closed_leaves}
use Rattle.shell_top.proofs.session.Session.close.Goals as goal

pub returns-in-Some-clause-leaves : goal.returns-in-Some-clause-leaves
returns-in-Some-clause-leaves g c =
    let state = g.V.Vfs.state in
    closed_leaves c.args.self.name c.args.self.table c.in-Some.table _ (state c.args.stack.now) (state c.close.new.self) c.requires.table c.in-Some.is
    c.in-Some.table-is c.view_holds.ensures.stands c.close.ensures.leaves
