use Rattle.std.proofs.Common.{◌-◌, ◌+◌, ℕ, length, ap, ◌∙◌, arith}
use borrow.Rule.Slice.PartMut.{put_mid}
use Rattle.payload_chain.proofs.PutLemmas.{filled}
use Rattle.payload_chain.proofs.write.fill_page.Goals as goal

pub returns : goal.returns
returns c =
    let k : ℕ = 4 + length c.args.bytes.now - 4 in
    c.put_u32.ensures
    ∙ filled (length c.args.page.now) k c.args.next c.fill.new.self (put_mid 4 k c.fill.new.self c.copy_from_slice.new.self) c.args.bytes.now
    (c.fill.ensures.after (λ y is. is)) c.requires (omega arith) (ap (λ l. put_mid 4 k c.fill.new.self l) c.copy_from_slice.ensures.after)
