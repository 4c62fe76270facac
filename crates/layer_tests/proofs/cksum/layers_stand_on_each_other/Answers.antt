use Rattle.mem_vfs.specs.Failing.{mem_state}
use Rattle.cksum_vfs.specs.Summed.{over}
use Rattle.trace_vfs.specs.Traced.{traced}
use Rattle.layer_tests.proofs.MayLemmas.{closed_over, closed_traced}
use Rattle.layer_tests.proofs.cksum.layers_stand_on_each_other.Goals as goal

pub new-requires-3-clause-closed : goal.new-requires-3-clause-closed
new-requires-3-clause-closed g c =
    closed_traced c.in-Ok.below.kept (mem_state c.in_ok-new.field-0) (mem_state c.in-Ok.below.inner) c.in-Ok.ensures.on c.in_ok-new.ensures.closed

pub open_file-requires-clause-closed : goal.open_file-requires-clause-closed
open_file-requires-clause-closed g c =
    closed_over c.in-Ok-new.stack.below.size (traced c.in-Ok.below.kept (mem_state c.in-Ok.below.inner))
    (traced c.in-Ok-new.stack.below.inner.kept (mem_state c.in-Ok-new.stack.below.inner.inner)) c.in-Ok-new.ensures.on
    (closed_traced c.in-Ok.below.kept (mem_state c.in_ok-new.field-0) (mem_state c.in-Ok.below.inner) c.in-Ok.ensures.on c.in_ok-new.ensures.closed)

pub new-requires-6-clause-closed : goal.new-requires-6-clause-closed
new-requires-6-clause-closed g c =
    closed_over c.in-Ok-new-2.below.below.size (mem_state c.in_ok-new-2.field-0) (mem_state c.in-Ok-new-2.below.below.inner) c.in-Ok-new-2.ensures.on c.in_ok-new-2.ensures.closed

pub open_file-requires-2-clause-closed : goal.open_file-requires-2-clause-closed
open_file-requires-2-clause-closed g c =
    closed_traced c.in-Ok-new-3.stack.kept (over c.in-Ok-new-2.below.below.size (mem_state c.in-Ok-new-2.below.below.inner))
    (over c.in-Ok-new-3.stack.inner.below.size (mem_state c.in-Ok-new-3.stack.inner.below.inner)) c.in-Ok-new-3.ensures.on
    (closed_over c.in-Ok-new-2.below.below.size (mem_state c.in_ok-new-2.field-0) (mem_state c.in-Ok-new-2.below.below.inner) c.in-Ok-new-2.ensures.on c.in_ok-new-2.ensures.closed)
