use Rattle.std.proofs.Common.{◌∙◌, ℕ, List, [], ◌∷◌, ◌+◌, take, drop, slice_index, sym, subst, arith}
use Rattle.std.proofs.lemmas.List.{take_more}
use Rattle.std.proofs.lemmas.Result.{err_from_is_err_and}
use Rattle.payload_chain.proofs.GiveLemmas.{split_at}
use Rattle.tree_free.specs.Steps.{Grown}
use Rattle.tree_free.proofs.MetLemmas.{meet_on, grown_on}
use Rattle.tree_free.proofs.collect.Collected.meet_each.Goals as goal

pub returns-in_err-meet-clause-cause : goal.returns-in_err-meet-clause-cause
returns-in_err-meet-clause-cause c =
    let i : ℕ = c.loop-number.number-index in
    let numbers = c.args.numbers.now in
    let p = err_from_is_err_and c.from_residual.result c.from_residual.ensures.1 in
    rw (p.1, p.2)
    (meet_on c.args.self.now.met c.loop-number.self.met numbers (take i numbers) (slice_index numbers i) (drop (i + 1) numbers) c.in_err-meet.field-0.0
    c.loop-number.invariant.grown.met_more (split_at i numbers (omega arith)) c.in_err-meet.ensures.cause)

pub loop-number-preserved : goal.loop-number-preserved
loop-number-preserved c =
    let i : ℕ = c.loop-number.number-index in
    let numbers = c.args.numbers.now in
    let P : List ℕ → Type 0 = λ l. Grown c.args.self.now c.meet.new.self l in
    let inv = c.loop-number.invariant in
    let done = c.in_ok-meet.ensures in
    record {
      grown = subst P (sym (take_more numbers i 0 (omega arith)))
          (grown_on c.args.self.now c.loop-number.self c.meet.new.self (take i numbers) (slice_index numbers i ∷ []) inv.grown done.grown);
      buffer = done.buffer ∙ inv.buffer;
    }
