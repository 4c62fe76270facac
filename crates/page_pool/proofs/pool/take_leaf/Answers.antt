use Rattle.std.proofs.Common.{◌-◌, ◌∙◌, ap, arith}
use Rattle.byte_base.specs.Numbers.{number_at, with_number}
use Rattle.page_pool.proofs.HeadLemmas.{leaf_is_taken}
use Rattle.page_pool.proofs.pool.take_leaf.Goals as goal

pub returns-clause-taken : goal.returns-clause-taken
returns-clause-taken g c =
    let r = c.requires in
    let free = c.saturating_sub.ensures ∙ ap (λ n. n - 1) c.number-free.ensures in
    leaf_is_taken _ _ c.args.first c.set_number-2.new.self c.set_number.new.self c.args.trunk c.number-leaf.result r.first_holds r.trunk_holds r.leaf
    (c.number-leaf.ensures ∙ ap (number_at 4 c.args.trunk.page) c.place_of.ensures) (record { least = omega arith; most = omega arith })
    c.set_number.ensures.value (c.set_number-2.ensures.value ∙ ap (λ n. with_number 4 36 n c.args.first) free) c.in_ok-write_both.ensures.wrote
