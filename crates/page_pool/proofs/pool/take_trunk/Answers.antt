use Rattle.std.proofs.Common.{◌-◌, ◌∙◌, ap}
use Rattle.byte_base.specs.Numbers.{with_number}
use Rattle.page_pool.proofs.HeadLemmas.{trunk_is_taken}
use Rattle.page_pool.proofs.pool.take_trunk.Goals as goal

pub returns-clause-taken : goal.returns-clause-taken
returns-clause-taken g c =
    let r = c.requires in
    let free = c.saturating_sub.ensures ∙ ap (λ n. n - 1) c.number-free.ensures in
    let next = c.set_number.ensures.value ∙ ap (λ n. with_number 4 32 n c.args.first) c.number.ensures in
    trunk_is_taken _ _ c.args.first c.set_number-2.new.self c.args.trunk r.first_holds r.trunk_holds r.empty
    (c.set_number-2.ensures.value ∙ (λ i. with_number 4 36 (free i) (next i))) c.in_ok-write_page.ensures.leaves
