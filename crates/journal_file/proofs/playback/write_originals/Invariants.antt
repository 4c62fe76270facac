use Rattle.std.proofs.Common.{drop}
use Rattle.journal_format.specs.Values.{all_paged, undo_of}
use Rattle.journal_file.specs.Content.{initial_size, all_cleared, with_reserve}
use Rattle.journal_file.proofs.PlayLemmas.{Played}
use Rattle.journal_file.proofs.playback.write_originals.Given as goal

abbrev pub invariant-loop-page : goal.invariant-loop-page
invariant-loop-page g l =
    let state = g.V.Vfs.state in
    Played (with_reserve l.reserve (undo_of l.play)) (all_cleared l.reserve (all_paged (drop l.page-index l.pages))) (state l.fn.stack) (state l.stack) l.db.0 (initial_size (undo_of l.play))
