use Rattle.std.proofs.Common.{◌≡◌, vec_len}
use Rattle.payload_chain.proofs.WalkLemmas.{WalksAlong}
use Rattle.payload_chain.proofs.free.chain_pages.Given as goal

abbrev pub invariant-loop : goal.invariant-loop
invariant-loop g l =
    let state = g.S.PageSpace.state in
    record {
      along : WalksAlong (state l.initial.space) (state l.space) l.first l.counter l.walk;
      one_page : vec_len l.page ≡ (state l.initial.space).page_size;
    }
