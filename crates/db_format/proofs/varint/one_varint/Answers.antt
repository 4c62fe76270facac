use Rattle.db_format.proofs.VarintLemmas.{varints_agree}
use Rattle.db_format.proofs.varint.one_varint.Goals as goal

pub returns : goal.returns
returns c = varints_agree
