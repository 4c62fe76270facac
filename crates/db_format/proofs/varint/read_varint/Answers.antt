use Rattle.std.proofs.Common.{◌≡◌, ◌≤◌, length, take, subst, sym, ◌∙◌, arith}
use Rattle.std.proofs.lemmas.Bool.{ltb-false}
use Rattle.std.proofs.lemmas.List.{length-take, take_all}
use Rattle.db_format.specs.Varint.{EndsInside}
use Rattle.db_format.proofs.VarintLemmas.{Front, sevens_fit, ends_inside}
use Rattle.db_format.proofs.varint.read_varint.Goals as goal

pub with_seven-bits-requires : goal.with_seven-bits-requires
with_seven-bits-requires c =
    let l = c.loop-at in
    let front = take c.min.result c.args.bytes.now in
    let fit = sevens_fit (take l.at front) l.invariant.continues (omega (arith, length-take l.at front, length-take c.min.result c.args.bytes.now)) in
    omega arith

pub returns-in_err-last-clause-none : goal.returns-in_err-last-clause-none
returns-in_err-last-clause-none c =
    let l = c.loop-at in
    let bytes = c.args.bytes.now in
    let few : length bytes ≤ 8 = ltb-false _ _ (sym c.in_err-last.ensures.lookup.0) in
    let all : take l.at (take c.min.result bytes) ≡ bytes = take_all l.at (take c.min.result bytes) (omega arith) ∙ take_all c.min.result bytes (omega arith) in
    let inside : EndsInside bytes = record { few = omega arith; continues = subst Front all l.invariant.continues } in
    rw c.from_residual.ensures (ends_inside bytes inside)
