use Rattle.journal_file_tests.proofs.DeviceLemmas.{given_settled}
use Rattle.journal_file_tests.proofs.commits.device.Goals as goal

pub returns-clause-settled : goal.returns-clause-settled
returns-clause-settled c = given_settled _ _ c.in_ok-with.ensures.given
