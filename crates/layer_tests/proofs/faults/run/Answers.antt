use Rattle.mem_vfs.specs.Failing.{mem_state}
use Rattle.layer_tests.proofs.MayLemmas.{closed_over}
use Rattle.layer_tests.proofs.faults.run.Goals as goal

pub open_file-requires-clause-closed : goal.open_file-requires-clause-closed
open_file-requires-clause-closed g c =
    closed_over c.in-Ok.layer.below.size (mem_state c.in_ok-with.field-0) (mem_state c.in-Ok.layer.below.inner) c.in-Ok.ensures.on c.in_ok-with.ensures.closed
