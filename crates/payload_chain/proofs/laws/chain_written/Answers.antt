use Rattle.payload_chain.proofs.LawLemmas.{chain-written}
use Rattle.payload_chain.proofs.laws.chain_written.Goals as goal

pub returns : goal.returns
returns c = chain-written
