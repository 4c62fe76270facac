use Rattle.journal_file.proofs.ExitLemmas.{stood_stood}
use Rattle.journal_file.proofs.laws.stood_twice.Goals as goal

pub returns : goal.returns
returns c = stood_stood
