use Rattle.journal_file.proofs.HotLemmas.{none_read}
use Rattle.journal_file.proofs.rollback.read_play.Goals as goal

pub returns-in-None-clause-read : goal.returns-in-None-clause-read
returns-in-None-clause-read g c = λ told. none_read c.args.page _ _ c.in-None.is (c.in_ok-bytes.ensures.bytes told)
