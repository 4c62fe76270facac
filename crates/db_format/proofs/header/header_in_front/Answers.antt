use Rattle.db_format.proofs.FrontLemmas.{header_in_front}
use Rattle.db_format.proofs.header.header_in_front.Goals as goal

pub returns : goal.returns
returns c = header_in_front
