use Rattle.page_cut.proofs.RoomLemmas.{one_cell}
use Rattle.page_cut.proofs.laws.one_cell.Goals as goal

pub returns : goal.returns
returns c = one_cell
