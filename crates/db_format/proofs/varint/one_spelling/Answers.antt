use Rattle.db_format.proofs.VarintLemmas.{spellings_agree}
use Rattle.db_format.proofs.varint.one_spelling.Goals as goal

pub returns : goal.returns
returns c = spellings_agree
