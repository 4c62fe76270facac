use Rattle.std.proofs.Common.{◌∙◌, List, ℕ, ap, subst}
use Rattle.vfs_trait.specs.State.{file_at}
use Rattle.journal_format.specs.Values.{undo_of_plan}
use Rattle.journal_file.specs.Steps.{with_first}
use Rattle.journal_file.specs.Commit.{HasBegun}
use Rattle.journal_file.proofs.CommitLemmas.{few_bytes}
use Rattle.journal_file.proofs.RollbackLemmas.{on_ok}
use Rattle.journal_file.proofs.commit.begin.Goals as goal

pub write_and_open-requires-clause-within : goal.write_and_open-requires-clause-within
write_and_open-requires-clause-within g c = few_bytes c.few_records.ensures c.args.plan.now.nonce (undo_of_plan c.args.plan.now) _ c.requires.plan (c.as_slice.ensures ∙ c.in-Ok.ensures)

pub returns-in-Ok-clause-begun : goal.returns-in-Ok-clause-begun
returns-in-Ok-clause-begun g c =
    let P : List ℕ → Type 0 = λ bytes. HasBegun (with_first 0 bytes) (file_at (g.V.Vfs.state c.write_and_open.new.stack) c.args.journal.0) in
    λ told. subst P (c.as_slice.ensures ∙ c.in-Ok.ensures) (c.write_and_open.ensures.begun told)

pub returns-in-Ok-clause-opened : goal.returns-in-Ok-clause-opened
returns-in-Ok-clause-opened g c = on_ok c.write_and_open.result _ _ (λ h told. h told ∙ ap (with_first 217) (c.as_slice.ensures ∙ c.in-Ok.ensures)) c.write_and_open.ensures.opened
