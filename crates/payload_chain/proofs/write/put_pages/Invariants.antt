use Rattle.std.proofs.Common.{◌≡◌, length, vec_len}
use Rattle.payload_chain.proofs.PutLemmas.{PutsAlong}
use Rattle.payload_chain.proofs.write.put_pages.Given as goal

abbrev pub invariant-loop-number : goal.invariant-loop-number
invariant-loop-number g l =
    let state = g.S.PageSpace.state in
    record {
      along : PutsAlong (state l.initial.space) (state l.space) l.initial.numbers.items l.numbers.items l.next l.end l.rest;
      one_page : vec_len l.page ≡ (state l.initial.space).page_size;
    }

abbrev pub decreases-loop-number : goal.decreases-loop-number
decreases-loop-number g l = length l.numbers.items
