use Rattle.std.proofs.Common.{ℕ, List, sym, subst, inl, arith, slice_index}
use Rattle.std.proofs.lemmas.List.{take_more}
use Rattle.std.proofs.lemmas.Result.{err_from_is_err_and}
use Rattle.payload_chain.specs.Chains.{GaveEach}
use Rattle.payload_chain.proofs.StateLemmas.{page-later}
use Rattle.payload_chain.proofs.GiveLemmas.{among_at, gave-more, stops-giving}
use Rattle.payload_chain.proofs.free.give_pages.Goals as goal

pub give_page-requires-clause-there : goal.give_page-requires-clause-there
give_page-requires-clause-there g c =
    let state = g.S.PageSpace.state in
    let i : ℕ = c.loop-number.number-index in
    page-later (state c.args.space.now).pages (state c.loop-number.space).pages (slice_index c.args.numbers.now i)
    (omega (arith, c.loop-number.invariant.gave.size)) (c.requires.there.each _ (among_at i c.args.numbers.now (omega arith)))

pub returns-in_err-give_page-clause-refused : goal.returns-in_err-give_page-clause-refused
returns-in_err-give_page-clause-refused g c =
    let p = err_from_is_err_and c.from_residual.result c.from_residual.ensures.1 in
    rw (p.1, p.2) (stops-giving (g.S.PageSpace.state c.give_page.new.space) c.args.numbers.now c.loop-number.number-index c.in_err-give_page.field-0.0 (omega arith)
    c.loop-number.invariant.gave c.in_err-give_page.ensures.refused)

pub loop-number-preserved : goal.loop-number-preserved
loop-number-preserved g c =
    let state = g.S.PageSpace.state in
    let i : ℕ = c.loop-number.number-index in
    let P : List ℕ → Type 0 = λ l. GaveEach (state c.args.space.now) (state c.give_page.new.space) l in
    let given = c.in_ok-give_page.ensures.given in
    record {
      gave = subst P (sym (take_more c.args.numbers.now i 0 (omega arith))) (gave-more c.loop-number.invariant.gave c.in_ok-give_page.ensures.steady given);
      noted = inl given.change;
      changed = λ some. given.change;
    }
