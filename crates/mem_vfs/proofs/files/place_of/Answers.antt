use Rattle.std.proofs.Common.{rules, ◌∙◌}
use Rattle.mem_vfs.proofs.PlaceLemmas.{leads_here, leads_on, find_on}
use Rattle.mem_vfs.proofs.StoreLemmas.{store_at}
use Rattle.mem_vfs.proofs.files.place_of.Goals as goal

pub returns-then-eq-clause-place : goal.returns-then-eq-clause-place
returns-then-eq-clause-place c =
    leads_here c.args.files.now c.args.name.now c.loop-place.place c.index-files-place.result c.loop-place-test.true c.index-files-place.is (search rules) c.loop-place.invariant.leads

pub returns-then-eq-clause-state : goal.returns-then-eq-clause-state
returns-then-eq-clause-state c = λ f is.
    store_at c.args.files.now c.args.name.now c.loop-place.place f
    (leads_here c.args.files.now c.args.name.now c.loop-place.place c.index-files-place.result c.loop-place-test.true c.index-files-place.is (search rules) c.loop-place.invariant.leads)
    is

pub loop-place-preserved : goal.loop-place-preserved
loop-place-preserved c = record {
  leads = leads_on c.args.files.now c.args.name.now c.loop-place.place c.index-files-place.result c.loop-place-test.true c.index-files-place.is (search rules) c.loop-place.invariant.leads;
  none = c.loop-place.invariant.none ∙ find_on c.args.files.now c.args.name.now c.loop-place.place c.index-files-place.result c.loop-place-test.true c.index-files-place.is (search rules);
}
