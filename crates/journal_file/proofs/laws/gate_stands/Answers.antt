use Rattle.journal_file.proofs.ExitLemmas.{gate_by}
use Rattle.journal_file.proofs.laws.gate_stands.Goals as goal

pub returns : goal.returns
returns c = gate_by c.closed_is_cold.ensures
