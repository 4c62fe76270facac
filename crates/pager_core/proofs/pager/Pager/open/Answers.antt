use Rattle.std.proofs.Common.{sym, ◌∙◌}
use Rattle.vfs_model.specs.Effect.{NoLooser}
use Rattle.pager_core.specs.Open.{LeavesOpened}
use Rattle.pager_core.proofs.StackLemmas.{leaves_then, leaves_files}
use Rattle.pager_core.proofs.OpenLemmas.{left_later, open_caused}
use Rattle.pager_core.proofs.pager.Pager.open.Goals as goal

pub returns-in-Ok-false-clause-leaves : goal.returns-in-Ok-false-clause-leaves
returns-in-Ok-false-clause-leaves g c =
    let state = g.V.Vfs.state in
    let a = state c.args.stack.now in
    let b = state c.has_journal.new.stack in
    let e = state c.open_file.new.stack in
    let name = c.args.name in
    leaves_then c.looser_twice.ensures a b e name NoLooser (LeavesOpened c.open_file.result) (LeavesOpened c.open_file.result)
    (left_later c.looser_twice.ensures (a.files name) (b.files name) (e.files name) c.open_file.result) c.has_journal.ensures.steady (leaves_files a b name c.has_journal.ensures.files) c.open_file.ensures.leaves

pub returns-in-Ok-false-clause-cause : goal.returns-in-Ok-false-clause-cause
returns-in-Ok-false-clause-cause g c =
    let state = g.V.Vfs.state in
    open_caused (state c.args.stack.now) (state c.has_journal.new.stack) (state c.open_file.new.stack) c.args.name c.args.rule.now c.open_file.result c.has_journal.ensures.steady c.has_journal.ensures.files
    (λ told. sym (c.in-Ok-false.ensures.is_there told) ∙ c.in-Ok-false.field-0-test) c.open_file.ensures.cause
