use Rattle.std.proofs.Common.{◌+◌, ◌∙◌, min, ap}
use Rattle.std.proofs.lemmas.Result.{on_ok_weaker}
use Rattle.byte_base.specs.Numbers.{with_number}
use Rattle.page_pool.proofs.HeadLemmas.{leaf_is_given}
use Rattle.page_pool.proofs.pool.give_leaf.Goals as goal

pub returns-clause-given : goal.returns-clause-given
returns-clause-given g c =
    let r = c.requires in
    let free = c.saturating_add.ensures ∙ ap (λ n. min (n + 1) 4294967295) c.number-free.ensures in
    on_ok_weaker c.write_both.result
    (leaf_is_given _ _ c.args.first c.set_number-3.new.self c.set_number-2.new.self c.args.trunk c.args.number r.first_holds r.trunk_holds r.room
    (c.set_number-2.ensures.value ∙ (λ i. with_number 4 (c.place_of.ensures i) c.args.number (c.set_number.ensures.value i)))
    (c.set_number-3.ensures.value ∙ ap (λ n. with_number 4 36 n c.args.first) free))
    c.write_both.ensures.wrote
