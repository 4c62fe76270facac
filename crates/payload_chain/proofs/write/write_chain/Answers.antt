use Rattle.std.proofs.Common.{length, arith, sym, ap, ◌∙◌}
use Rattle.std.proofs.lemmas.Result.{err_from_is_err_and, IfOk-weaker, IfErr-weaker}
use Rattle.page_list.specs.Chain.{pages_needed}
use Rattle.payload_chain.proofs.CountLemmas.{needed-some}
use Rattle.payload_chain.proofs.TakeLemmas.{write-refused, stops-writing, wrote}
use Rattle.payload_chain.proofs.write.write_chain.Goals as goal

pub returns-in_err-numbers-clause-refused : goal.returns-in_err-numbers-clause-refused
returns-in_err-numbers-clause-refused g c =
    let p = err_from_is_err_and c.from_residual.result c.from_residual.ensures.1 in
    rw (p.1, p.2) (write-refused c.pages_needed-needed.result c.args.rest.now c.in_err-numbers.field-0.0 c.pages_needed-needed.ensures.value c.in_err-numbers.ensures.refused)

pub put_pages-requires-clause-enough : goal.put_pages-requires-clause-enough
put_pages-requires-clause-enough g c =
    c.in_ok-numbers.ensures.took.many ∙ c.pages_needed-needed.ensures.value ∙ ap (λ u. pages_needed u (length c.args.rest.now)) (sym c.in_ok-numbers.ensures.steady.used)

pub returns-clause-wrote : goal.returns-clause-wrote
returns-clause-wrote g c =
    let needed = c.pages_needed-needed.ensures in
    let some = needed-some (g.S.PageSpace.state c.args.space.now).pages.usable (length c.args.rest.now) (omega (arith, needed.sizes.least)) c.requires.bytes in
    IfOk-weaker c.put_pages.result _ _ (λ first put. wrote needed.value (omega (arith, needed.value, some)) c.in_ok-numbers.ensures.took put) c.put_pages.ensures.put

pub returns-clause-refused : goal.returns-clause-refused
returns-clause-refused g c =
    IfErr-weaker c.put_pages.result _ _
    (λ fault stops. stops-writing c.args.rest.now fault c.pages_needed-needed.ensures.value c.in_ok-numbers.ensures.took stops) c.put_pages.ensures.refused
