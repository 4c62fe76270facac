use Rattle.std.proofs.Common.{arith}
use Rattle.tree_page.proofs.MarkLemmas.{clear_part, set_part, part_set}
use Rattle.tree_page.proofs.marks.mark.Goals as goal

pub returns-then-contains-clause-taken : goal.returns-then-contains-clause-taken
returns-then-contains-clause-taken c = λ _. set_part c.args.marks.now c.args.place c.args.size _ c.requires (omega arith) c.if-contains.ensures.cases

pub returns-clause-marked : goal.returns-clause-marked
returns-clause-marked c = λ _. clear_part c.args.marks.now c.args.place c.args.size _ c.requires (omega arith) c.if-contains.ensures.cases

pub returns-clause-after : goal.returns-clause-after
returns-clause-after c = λ _. part_set c.args.marks.now c.fill.new.self c.args.place c.args.size _ c.requires (omega arith) (c.fill.ensures.after (λ y is. is))
