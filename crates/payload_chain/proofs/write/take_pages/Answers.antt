use Rattle.std.proofs.Common.{◌++◌, ◌∷◌, [], inl, inr, arith, rules, ◌≡◌, ◌≤◌}
use Rattle.std.proofs.lemmas.Bool.{cases_lt, false≢true}
use Rattle.std.proofs.lemmas.Result.{err_from_is_err_and}
use Rattle.payload_chain.proofs.TakeLemmas.{took-these-more, stops-taking, stops-noting}
use Rattle.payload_chain.proofs.write.take_pages.Goals as goal

pub loop-preserved : goal.loop-preserved
loop-preserved g c =
    let state = g.S.PageSpace.state in
    let grow : c.push.new.self.items ≡ c.loop.numbers.items ++ c.in_ok-number.number ∷ [] = search rules in
    record {
      these = rw grow (took-these-more c.loop.invariant.these c.in_ok-number.ensures.steady c.in_ok-number.ensures.taken);
      room = omega (arith, c.loop.invariant.room, c.push.ensures.capacity);
      noted = inl c.in_ok-number.ensures.taken.change;
    }

pub returns-in_err-number-clause-refused : goal.returns-in_err-number-clause-refused
returns-in_err-number-clause-refused g c =
    let p = err_from_is_err_and c.from_residual-in_err-number.result c.from_residual-in_err-number.ensures.1 in
    rw (p.1, p.2) (stops-taking (g.S.PageSpace.state c.take_page.new.space) c.args.count c.in_err-number.field-0.0 c.loop.invariant.these.took (omega arith) c.in_err-number.ensures.refused)

pub returns-in_err-numbers-clause-refused : goal.returns-in_err-numbers-clause-refused
returns-in_err-numbers-clause-refused g c =
    let some : 1 ≤ c.args.count = elim (cases_lt 0 c.args.count) as (λ _. 1 ≤ c.args.count) [
      | inl more ↦ omega arith
      | inr none ↦ absurd (false≢true (c.in_err-numbers.ensures.succeeds (omega arith)))
    ] in
    let p = err_from_is_err_and c.from_residual.result c.from_residual.ensures.1 in
    rw (p.1, p.2) (stops-noting c.args.count c.size-pages.ensures.sizes some)
