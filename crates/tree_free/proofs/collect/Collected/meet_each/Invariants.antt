use Rattle.std.proofs.Common.{◌≡◌, take}
use Rattle.tree_free.specs.Steps.{Grown}
use Rattle.tree_free.proofs.collect.Collected.meet_each.Given as goal

abbrev pub invariant-loop-number : goal.invariant-loop-number
invariant-loop-number l = record {
  grown : Grown l.initial.self l.self (take l.number-index l.numbers);
  buffer : l.self.buffer ≡ l.initial.self.buffer;
}
