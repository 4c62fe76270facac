use Rattle.tree_page.proofs.ReadLemmas.{found_varint, found_none}
use Rattle.tree_page.proofs.read.varint_at.Goals as goal

pub returns-clause-found : goal.returns-clause-found
returns-clause-found c = found_varint c.one_varint.ensures c.args.bytes.now c.read_varint.result c.read_varint.ensures.within c.read_varint.ensures.found

pub returns-clause-none : goal.returns-clause-none
returns-clause-none c = found_none c.args.bytes.now c.read_varint.result c.read_varint.ensures.none
