use Rattle.std.proofs.Common.{◌≡◌, ℕ, ◌^◌, ◌<◌, pos, FitsSigned, sym, subst, ap, ◌∙◌, arith}
use Rattle.std.specs.Int.{w64, FitsUnsignedBits}
use Rattle.std.specs.Result.{is_ok}
use Rattle.std.proofs.lemmas.Int.{to_z-of_z}
use Rattle.std.proofs.lemmas.Result.{Ok-from_Ok_iff}
use Rattle.db_format.proofs.RecordLemmas.{no_count}
use Rattle.db_format.proofs.record.read_count.Goals as goal

pub returns-in_err-number-clause-none : goal.returns-in_err-number-clause-none
returns-in_err-number-clause-none c =
    let value = c.in_ok-value.value in
    let fits : FitsSigned w64 value = search c in
    let negative : (n : ℕ) → value ≡ pos n → ⊥ =
    λ n is.
    let small : n < 2 ^ 64 = let f : FitsSigned w64 (pos n) = subst (FitsSigned w64) is fits in omega (arith, f.sfits) in
    let here : FitsUnsignedBits 64 _ = subst (FitsUnsignedBits 64) (sym (to_z-of_z w64 value fits ∙ is)) small in
    let ok = ap is_ok (Ok-from_Ok_iff c.try_from.result _ _ c.try_from.ensures here) in
    let failed = c.in_err-number.ensures.variant in
    cc in
    rw c.from_residual-in_err-number.ensures (no_count c.args.bytes.now c.in_ok-value.len value c.in_ok-value.ensures.found negative)
