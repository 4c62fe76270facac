use Rattle.journal_file.proofs.PlaceLemmas.{pushed}
use Rattle.journal_file.proofs.playback.push_zeros.Goals as goal

pub loop-k-preserved : goal.loop-k-preserved
loop-k-preserved c = pushed _ _ _ _ c.loop-k.invariant c.in_ok-push.ensures.ok
