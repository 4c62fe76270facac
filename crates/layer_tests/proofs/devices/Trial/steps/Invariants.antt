use Rattle.std.proofs.Common.{◌≡◌}
use Rattle.vfs_trait.specs.State.{OpenStays}
use Rattle.mem_vfs.specs.Failing.{mem_state}
use Rattle.layer_tests.proofs.devices.Trial.steps.Given as goal

abbrev pub invariant-loop-step : goal.invariant-loop-step
invariant-loop-step g l = record {
  opens : OpenStays (mem_state l.initial.self.device) (mem_state l.self.device);
  name : l.self.name ≡ l.initial.self.name;
}
