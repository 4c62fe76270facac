use Rattle.std.proofs.Common.{sym, ◌∙◌}
use Rattle.shell_top.proofs.TouchLemmas.{free_of}
use Rattle.shell_top.proofs.SessionLemmas.{opens_empty}
use Rattle.shell_top.proofs.session.open_empty.Goals as goal

pub open-requires-clause-free : goal.open-requires-clause-free
open-requires-clause-free g c = free_of c.separate_is_free.ensures (g.V.Vfs.state c.args.stack.now) c.args.name.now c.requires.closed c.requires.short

pub returns-in-Ok-eq0-clause-opens : goal.returns-in-Ok-eq0-clause-opens
returns-in-Ok-eq0-clause-opens g c =
    let state = g.V.Vfs.state in
    opens_empty (state c.args.stack.now) (state c.open.new.self) (state c.length.new.self) c.args.name.now c.in-Ok.file.0 c.requires.closed
    c.in-Ok.ensures.numbers c.in-Ok.ensures.steady c.length.ensures.steady c.in-Ok.ensures.leaves.file c.length.ensures.rests.opens c.length.ensures.leaves
    (λ tells. sym c.in-Ok-eq0.field-0-test ∙ c.in-Ok-eq0.ensures.length_of tells)
