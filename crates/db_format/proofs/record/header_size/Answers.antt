use Rattle.std.proofs.Common.{◌≡◌, ℕ, ◌+◌, ◌^◌, ◌≤◌, refl, subst, arith, inl, inr}
use Rattle.std.proofs.lemmas.Bool.{cases_lt}
use Rattle.db_format.proofs.VarintLemmas.{bits_fit, bits_pass}
use Rattle.db_format.proofs.record.header_size.Goals as goal

pub returns-then-len-types-eq0 : goal.returns-then-len-types-eq0
returns-then-len-types-eq0 c = record {
  len = c.loop-len.len;
  total = refl;
  some = omega arith;
  within = omega arith;
  room = λ _. bits_fit (c.loop-len.len + c.args.types) c.loop-len.len c.if-len-types-eq0.true;
  least = c.loop-len.invariant;
}

pub loop-len-preserved : goal.loop-len-preserved
loop-len-preserved c = λ fewer some less.
    elim (cases_lt fewer c.loop-len.len) [
      | inl before ↦ c.loop-len.invariant fewer some before
      | inr here ↦
          let same : c.loop-len.len ≡ fewer = omega arith in
          subst (λ (n : ℕ). 128 ^ n ≤ n + c.args.types) same (bits_pass (c.loop-len.len + c.args.types) c.loop-len.len c.if-len-types-eq0.false)
    ]

pub returns : goal.returns
returns c =
    let end : c.loop-len.len ≡ 9 = omega arith in
    record {
      len = 9;
      total = refl;
      some = omega arith;
      within = omega arith;
      room = λ past. absurd (omega arith);
      least = λ fewer some less. c.loop-len.invariant fewer some (omega arith);
    }
