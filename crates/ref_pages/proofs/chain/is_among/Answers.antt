use Rattle.ref_pages.proofs.CourseLemmas.{searched}
use Rattle.ref_pages.proofs.chain.is_among.Goals as goal

pub returns : goal.returns
returns c = searched c.args.number c.args.numbers.now c.contains.result c.contains.ensures.value
