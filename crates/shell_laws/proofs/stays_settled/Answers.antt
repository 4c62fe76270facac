use Rattle.std.proofs.Common.{true, None}
use Rattle.shell_laws.proofs.SettledLemmas.{emptied}
use Rattle.shell_laws.proofs.StepLemmas.{step_settled}
use Rattle.shell_laws.proofs.stays_settled.Goals as goal

pub returns : goal.returns
returns c = record { closed = λ book. emptied book true None (λ d is. absurd (cc)); step = step_settled }
