use Rattle.payload_chain.proofs.StateLemmas.{steady-same}
use Rattle.rowid_tree.proofs.cell.free_replaced.Goals as goal

pub returns-in_default-clause-steady : goal.returns-in_default-clause-steady
returns-in_default-clause-steady g c = steady-same c.requires.sizes
