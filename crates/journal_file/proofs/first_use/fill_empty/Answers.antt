use Rattle.journal_file.proofs.StackLemmas.{left_at, told_next}
use Rattle.journal_file.proofs.JournalLemmas.{fill_zero}
use Rattle.journal_file.proofs.first_use.fill_empty.Goals as goal

pub returns-clause-zero : goal.returns-clause-zero
returns-clause-zero g c =
    let state = g.V.Vfs.state in
    let a = state c.args.stack.now in
    let b = state c.length.new.self in
    let d = state c.write.new.self in
    let fid = c.args.journal.0 in
    fill_zero _ _ _ c.write.result _ (λ told. left_at b d fid _ c.write.ensures.rests.opens c.write.ensures.leaves (told_next a b c.length.ensures.steady told))
