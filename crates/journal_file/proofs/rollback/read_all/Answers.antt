use Rattle.std.proofs.Common.{◌≡◌, length, ◌∙◌, ap, sym}
use Rattle.vfs_model.specs.Effect.{NoLooser}
use Rattle.vfs_trait.specs.State.{file_at}
use Rattle.journal_file.proofs.StackLemmas.{left_at, told_next}
use Rattle.journal_file.proofs.rollback.read_all.Goals as goal

pub returns-clause-bytes : goal.returns-clause-bytes
returns-clause-bytes g c =
    let state = g.V.Vfs.state in
    let a = state c.args.stack.now in
    let b = state c.length.new.self in
    let jr = c.args.journal.0 in
    λ told.
    let same : (file_at b jr).now.bytes ≡ (file_at a jr).now.bytes = ap (λ f. f.bytes) (left_at a b jr NoLooser c.length.ensures.rests.opens c.length.ensures.leaves told).now in
    c.in_ok-read_front.ensures.bytes (told_next a b c.length.ensures.steady told) (c.in_ok-len.ensures.length_of told ∙ ap length (sym same)) ∙ same
