use Rattle.mem_vfs.specs.Sure.{sure_state}
use Rattle.layer_tests.proofs.MayLemmas.{closed_over}
use Rattle.layer_tests.proofs.cksum.checked.Goals as goal

pub open_file-requires-clause-closed : goal.open_file-requires-clause-closed
open_file-requires-clause-closed c =
    closed_over c.in-Ok.layer.below.size (sure_state c.in_ok-device.device) (sure_state c.in-Ok.layer.below.inner) c.in-Ok.ensures.on c.in_ok-device.ensures.closed
