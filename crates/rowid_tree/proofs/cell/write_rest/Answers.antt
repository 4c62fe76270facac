use Rattle.payload_chain.proofs.StateLemmas.{steady-same}
use Rattle.rowid_tree.proofs.cell.write_rest.Goals as goal

pub returns-then-is_empty-clause-steady : goal.returns-then-is_empty-clause-steady
returns-then-is_empty-clause-steady g c = steady-same c.requires.sizes
