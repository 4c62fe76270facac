use Rattle.std.proofs.Common.{arith}
use Rattle.std.proofs.lemmas.Result.{err_from_is_err_and, IfOk-weaker, IfErr-weaker}
use Rattle.payload_chain.proofs.WalkLemmas.{walks-on, walk-refused, late-refused, walk-ends}
use Rattle.payload_chain.proofs.free.chain_pages.Goals as goal

pub returns-in_err-step-clause-cause : goal.returns-in_err-step-clause-cause
returns-in_err-step-clause-cause g c =
    let p = err_from_is_err_and c.from_residual-in_err-step.result c.from_residual-in_err-step.ensures.1 in
    rw (p.1, p.2) (walk-refused c.args.len c.in_err-step.field-0.0 c.loop.invariant.along c.in_err-step.ensures.steady (omega arith) c.in_err-step.ensures.cause)

pub loop-preserved : goal.loop-preserved
loop-preserved g c = record {
  along = walks-on c.loop.invariant.along c.in_ok-step.ensures.steady c.in_ok-step.ensures.stays c.in_ok-step.ensures.ok;
  one_page = c.loop.invariant.one_page;
}

pub returns-clause-cause : goal.returns-clause-cause
returns-clause-cause g c =
    IfErr-weaker c.finish.result _ _ (λ fault late. late-refused c.args.len fault c.loop.invariant.along (omega arith) late) c.finish.ensures.cause

pub returns-clause-pages : goal.returns-clause-pages
returns-clause-pages g c =
    IfOk-weaker c.finish.result _ _
    (λ numbers ends. rw ends.0 (walk-ends c.args.len c.pages_needed-needed.ensures.sizes c.loop.invariant.along (omega arith) ends.1)) c.finish.ensures.pages
