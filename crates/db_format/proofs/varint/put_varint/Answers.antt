use Rattle.std.proofs.Common.{◌≡◌, ap, ◌∙◌, arith}
use Rattle.std.proofs.lemmas.Grind.{common_steps}
use Rattle.std.proofs.lemmas.Int.{to_z-of_z}
use Rattle.std.specs.Int.{w64, cast_unsigned}
use Rattle.db_format.proofs.VarintLemmas.{reads_again, shortest}
use Rattle.db_format.proofs.varint.put_varint.Goals as goal

pub returns-then-len-lt-VARINT_LEN-clause-shortest : goal.returns-then-len-lt-VARINT_LEN-clause-shortest
returns-then-len-lt-VARINT_LEN-clause-shortest c =
    let len = c.varint_len-len in
    let bits : c.cast_unsigned-bits.result ≡ cast_unsigned w64 c.args.value =
    c.cast_unsigned-bits.ensures ∙ ap (cast_unsigned w64) (to_z-of_z w64 c.args.value (search c)) in
    shortest _ c.args.value c.cast_unsigned-bits.result len.result bits len.ensures.within len.ensures.needed

pub returns-else-len-lt-VARINT_LEN-clause-shortest : goal.returns-else-len-lt-VARINT_LEN-clause-shortest
returns-else-len-lt-VARINT_LEN-clause-shortest c =
    let len = c.varint_len-len in
    let bits : c.cast_unsigned-bits.result ≡ cast_unsigned w64 c.args.value =
    c.cast_unsigned-bits.ensures ∙ ap (cast_unsigned w64) (to_z-of_z w64 c.args.value (search c)) in
    shortest _ c.args.value c.cast_unsigned-bits.result len.result bits len.ensures.within len.ensures.needed

pub returns-then-len-lt-VARINT_LEN-clause-again : goal.returns-then-len-lt-VARINT_LEN-clause-again
returns-then-len-lt-VARINT_LEN-clause-again c = reads_again _ c.args.value (grind (arith, common_steps))

pub returns-else-len-lt-VARINT_LEN-clause-again : goal.returns-else-len-lt-VARINT_LEN-clause-again
returns-else-len-lt-VARINT_LEN-clause-again c = reads_again _ c.args.value (grind (arith, common_steps))
