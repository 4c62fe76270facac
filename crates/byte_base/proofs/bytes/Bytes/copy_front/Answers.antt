use Rattle.std.proofs.Common.{take, take-take, ap, ◌∙◌}
use Rattle.byte_base.proofs.bytes.Bytes.copy_front.Goals as goal

-- src/bytes.rt:44:5
pub returns-in-Some : goal.returns-in-Some
returns-in-Some c = c.from_buf_and_len.ensures.items ∙ ap (take c.args.len) c.in-Some.ensures.cases.0 ∙ take-take c.args.len 24 c.args.bytes.now c.if-len-le-INLINE.true
