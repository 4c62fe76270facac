use Rattle.std.proofs.Common.{sym, ap, ◌∙◌, ◌++◌, append-nil, rules}
use Rattle.shell_lang.proofs.WriteLemmas.{encode_more, encode_none}
use Rattle.shell_lang.proofs.write.put_hex.Goals as goal

pub loop-b-init : goal.loop-b-init
loop-b-init c = sym (append-nil c.args.out.now) ∙ ap (λ r. c.args.out.now ++ r) (sym encode_none)

pub loop-b-preserved : goal.loop-b-preserved
loop-b-preserved c = c.in_ok-put_digits.ensures.ok ∙ encode_more c.args.bytes.now c.args.out.now c.loop-b.out _ c.loop-b.b-index c.loop-b-test.true (search rules) c.loop-b.invariant
