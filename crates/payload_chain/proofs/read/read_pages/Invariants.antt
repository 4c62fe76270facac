use Rattle.std.proofs.Common.{◌≡◌, vec_len}
use Rattle.payload_chain.proofs.WalkLemmas.{WalksAlong}
use Rattle.payload_chain.proofs.ReadLemmas.{ReadsAlong}
use Rattle.payload_chain.proofs.read.read_pages.Given as goal

abbrev pub invariant-loop : goal.invariant-loop
invariant-loop g l =
    let state = g.S.PageSpace.state in
    record {
      along : WalksAlong (state l.initial.space) (state l.space) l.first l.counter l.walk;
      reads : ReadsAlong (state l.initial.space) l.len l.left l.counter l.walk.numbers.items l.initial.out l.out;
      one_page : vec_len l.page ≡ (state l.initial.space).page_size;
    }
