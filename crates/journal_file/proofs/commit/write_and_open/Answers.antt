use Rattle.std.proofs.Common.{inl, inr, ap, subst, List, ℕ, ◌∙◌}
use Rattle.vfs_trait.specs.State.{file_at}
use Rattle.journal_file.specs.Steps.{HasButFirst, with_first}
use Rattle.journal_file.proofs.StackLemmas.{told_next}
use Rattle.journal_file.proofs.JournalLemmas.{always}
use Rattle.journal_file.proofs.RollbackLemmas.{on_ok}
use Rattle.journal_file.proofs.commit.write_and_open.Goals as goal

pub returns-in_err-write_journal-clause-begun : goal.returns-in_err-write_journal-clause-begun
returns-in_err-write_journal-clause-begun g c = λ told. inl (c.shut_is_cold.ensures _ (c.write_journal.ensures.shut told))

pub returns-clause-begun : goal.returns-clause-begun
returns-clause-begun g c =
    let state = g.V.Vfs.state in
    let a = state c.args.stack.now in
    let b = state c.write_journal.new.stack in
    let d = state c.open_gate.new.stack in
    let P : List ℕ → Type 0 = λ bytes. HasButFirst bytes (file_at d c.args.journal.0) in
    λ told. inr (subst P (c.in_ok-write_journal.ensures.written told) (c.open_gate.ensures.first (told_next a b c.write_journal.ensures.steady told)))

pub returns-clause-there : goal.returns-clause-there
returns-clause-there g c =
    let state = g.V.Vfs.state in
    always c.open_gate.result (λ told. (c.open_gate.ensures.first (told_next (state c.args.stack.now) (state c.write_journal.new.stack) c.write_journal.ensures.steady told)).there)

pub returns-clause-opened : goal.returns-clause-opened
returns-clause-opened g c =
    let state = g.V.Vfs.state in
    on_ok c.open_gate.result _ _ (λ h told. h (told_next (state c.args.stack.now) (state c.write_journal.new.stack) c.write_journal.ensures.steady told) ∙ ap (with_first 217) (c.in_ok-write_journal.ensures.written told)) c.open_gate.ensures.opened
