use Rattle.std.proofs.Common.{◌≤◌, take, IsTrue}
use Rattle.page_pool.specs.Pool.{NotesChange}
use Rattle.payload_chain.specs.Chains.{GaveEach}
use Rattle.payload_chain.proofs.free.give_pages.Given as goal

abbrev pub invariant-loop-number : goal.invariant-loop-number
invariant-loop-number g l =
    let state = g.S.PageSpace.state in
    record {
      gave : GaveEach (state l.initial.space) (state l.space) (take l.number-index l.numbers);
      noted : NotesChange (state l.initial.space) (state l.space);
      changed : 1 ≤ l.number-index → IsTrue (state l.space).changed;
    }
