use Rattle.std.proofs.Common.{◌∙◌, arith}
use Rattle.std.proofs.lemmas.Result.{err_from_is_err_and}
use Rattle.payload_chain.proofs.StateLemmas.{page-later}
use Rattle.payload_chain.proofs.PutLemmas.{puts-begin, piece-of, puts-on, stops-putting}
use Rattle.payload_chain.proofs.write.put_pages.Goals as goal

pub loop-number-init : goal.loop-number-init
loop-number-init g c = record {
  along = puts-begin c.args.numbers.items c.args.rest.now c.room-room.ensures.sizes c.requires.enough;
  one_page = c.in_ok-page.page.ok.0 ∙ c.in_ok-page.ensures.one_page;
}

pub put_piece-requires-clause-there : goal.put_piece-requires-clause-there
put_piece-requires-clause-there g c =
    let state = g.S.PageSpace.state in
    let along = c.loop-number.invariant.along in
    let piece = piece-of c.pop.new.self.items c.in-Some.number c.len.result c.room-room.result c.room-room.ensures.sizes
    c.requires.enough along c.in-Some.ensures.items (c.len.ensures ∙ c.pop.new.self.ok.0) c.room-room.ensures.value in
    page-later (state c.args.space.now).pages (state c.loop-number.space).pages c.in-Some.number (omega (arith, along.size)) (c.requires.there.each c.in-Some.number piece.among)

pub returns-in_err-put_piece-clause-refused : goal.returns-in_err-put_piece-clause-refused
returns-in_err-put_piece-clause-refused g c =
    let along = c.loop-number.invariant.along in
    let piece = piece-of c.pop.new.self.items c.in-Some.number c.len.result c.room-room.result c.room-room.ensures.sizes
    c.requires.enough along c.in-Some.ensures.items (c.len.ensures ∙ c.pop.new.self.ok.0) c.room-room.ensures.value in
    let p = err_from_is_err_and c.from_residual-in_err-put_piece.result c.from_residual-in_err-put_piece.ensures.1 in
    rw (p.1, p.2) (stops-putting (g.S.PageSpace.state c.put_piece.new.space) c.in-Some.number c.in_err-put_piece.field-0.0 along piece.among
    c.in_err-put_piece.ensures.leaves c.in_err-put_piece.ensures.cause)

pub loop-number-preserved : goal.loop-number-preserved
loop-number-preserved g c =
    let along = c.loop-number.invariant.along in
    let piece = piece-of c.pop.new.self.items c.in-Some.number c.len.result c.room-room.result c.room-room.ensures.sizes
    c.requires.enough along c.in-Some.ensures.items (c.len.ensures ∙ c.pop.new.self.ok.0) c.room-room.ensures.value in
    record {
      along = puts-on (g.S.PageSpace.state c.put_piece.new.space) along c.in-Some.ensures.items piece c.in_ok-put_piece.ensures.steady
          c.in_ok-put_piece.ensures.cause c.in_ok-put_piece.ensures.leaves;
      one_page = c.loop-number.invariant.one_page;
    }
