use Rattle.std.proofs.Common.{◌≡◌, ◌+◌, ◌-◌, ◌^◌, ◌≤◌, subst, arith}
use Rattle.db_format.proofs.VarintLemmas.{bits_fit, bits_pass}
use Rattle.db_format.proofs.varint.varint_len.Goals as goal

pub returns-then-bits-len-eq0 : goal.returns-then-bits-len-eq0
returns-then-bits-len-eq0 c = record {
  some = omega arith;
  within = omega arith;
  room = λ _. bits_fit c.args.bits c.loop-len.len c.if-bits-len-eq0.true;
  needed = c.loop-len.invariant;
}

pub loop-len-preserved : goal.loop-len-preserved
loop-len-preserved c =
    let back : c.loop-len.len ≡ c.loop-len.len + 1 - 1 = omega arith in
    λ _. subst (λ n. 128 ^ n ≤ c.args.bits) back (bits_pass c.args.bits c.loop-len.len c.if-bits-len-eq0.false)

pub returns : goal.returns
returns c =
    let end : c.loop-len.len ≡ 9 = omega arith in
    record {
      some = omega arith;
      within = omega arith;
      room = λ past. absurd (omega arith);
      needed = λ _. subst (λ n. 128 ^ (n - 1) ≤ c.args.bits) end (c.loop-len.invariant (omega arith));
    }
