use Rattle.std.proofs.Common.{◌+◌, ◌∙◌, min, ap}
use Rattle.std.proofs.lemmas.Result.{on_ok_weaker}
use Rattle.std.proofs.Math.ListN.{replicate}
use Rattle.byte_base.specs.Numbers.{with_number}
use Rattle.page_pool.proofs.HeadLemmas.{trunk_is_given}
use Rattle.page_pool.proofs.pool.give_trunk.Goals as goal

pub returns-clause-given : goal.returns-clause-given
returns-clause-given g c =
    let r = c.requires in
    let zeros = c.in_ok-page.ensures ∙ ap (λ n. replicate n 0) c.page_size.ensures.value in
    let free = c.saturating_add.ensures ∙ ap (λ n. min (n + 1) 4294967295) c.number-free.ensures in
    on_ok_weaker c.write_both.result
    (trunk_is_given _ _ c.args.first c.set_number-3.new.self c.set_number.new.self c.args.number r.first_holds r.head r.no_room
    (c.set_number.ensures.value ∙ (λ i. with_number 4 0 (c.number.ensures i) (zeros i)))
    (c.set_number-3.ensures.value ∙ (λ i. with_number 4 36 (free i) (c.set_number-2.ensures.value i))))
    c.write_both.ensures.wrote
