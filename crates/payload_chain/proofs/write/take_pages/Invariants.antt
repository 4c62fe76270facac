use Rattle.std.proofs.Common.{◌≤◌, vec_capacity}
use Rattle.page_pool.specs.Pool.{NotesChange}
use Rattle.payload_chain.specs.Chains.{TookThese}
use Rattle.payload_chain.proofs.write.take_pages.Given as goal

abbrev pub invariant-loop : goal.invariant-loop
invariant-loop g l =
    let state = g.S.PageSpace.state in
    record {
      these : TookThese (state l.initial.space) (state l.space) l.counter l.numbers.items;
      room : l.count ≤ vec_capacity l.numbers;
      noted : NotesChange (state l.initial.space) (state l.space);
    }
