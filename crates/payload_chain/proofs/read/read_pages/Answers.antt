use Rattle.std.proofs.Common.{arith}
use Rattle.std.proofs.lemmas.Result.{err_from_is_err_and}
use Rattle.payload_chain.proofs.WalkLemmas.{walks-on, walk-refused, late-refused, walk-ends}
use Rattle.payload_chain.proofs.ReadLemmas.{reads-on, reads-found, reads-all}
use Rattle.payload_chain.proofs.read.read_pages.Goals as goal

pub returns-in_err-left-clause-cause : goal.returns-in_err-left-clause-cause
returns-in_err-left-clause-cause g c =
    let p = err_from_is_err_and c.from_residual-in_err-left.result c.from_residual-in_err-left.ensures.1 in
    rw (p.1, p.2) (walk-refused c.args.len c.in_err-left.field-0.0 c.loop.invariant.along c.in_err-left.ensures.steady (omega arith) c.in_err-left.ensures.cause)

pub loop-preserved : goal.loop-preserved
loop-preserved g c =
    let steps = c.in_ok-left.ensures.ok in
    record {
      along = walks-on c.loop.invariant.along c.in_ok-left.ensures.steady c.in_ok-left.ensures.stays steps;
      reads = reads-on c.in_ok-left.left c.read_page.new.out c.pages_needed-needed.ensures.sizes c.loop.invariant.along c.loop.invariant.reads (omega arith) steps
          c.in_ok-left.ensures.left c.in_ok-left.ensures.out;
      one_page = c.loop.invariant.one_page;
    }

pub returns-in_err-_numbers-clause-cause : goal.returns-in_err-_numbers-clause-cause
returns-in_err-_numbers-clause-cause g c =
    let p = err_from_is_err_and c.from_residual-in_err-_numbers.result c.from_residual-in_err-_numbers.ensures.1 in
    rw (p.1, p.2) (late-refused c.args.len c.in_err-_numbers.field-0.0 c.loop.invariant.along (omega arith) c.in_err-_numbers.ensures.cause)

pub returns-clause-found : goal.returns-clause-found
returns-clause-found g c =
    reads-found c.loop.invariant.reads (walk-ends c.args.len c.pages_needed-needed.ensures.sizes c.loop.invariant.along (omega arith) c.in_ok-_numbers.ensures.pages.1)

pub returns-clause-long : goal.returns-clause-long
returns-clause-long g c = reads-all c.pages_needed-needed.ensures.sizes c.loop.invariant.reads (omega arith)
