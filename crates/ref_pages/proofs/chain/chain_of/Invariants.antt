use Rattle.std.proofs.Common.{◌-◌, ◌≤◌, length}
use Rattle.ref_pages.specs.AsPages.{pages_of}
use Rattle.ref_pages.specs.ChainSteps.{IsCourse}
use Rattle.ref_pages.proofs.chain.chain_of.Given as goal

abbrev pub invariant-loop-numbers : goal.invariant-loop-numbers
invariant-loop-numbers l = record {
  course : IsCourse (pages_of l.pages) l.first l.numbers l.last l.next l.payload.items;
  within : length l.numbers ≤ l.wanted;
}

abbrev pub decreases-loop-numbers : goal.decreases-loop-numbers
decreases-loop-numbers l = l.wanted - length l.numbers
