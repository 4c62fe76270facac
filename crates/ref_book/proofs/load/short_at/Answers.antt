use Rattle.std.proofs.Common.{◌∙◌, ap, arith}
use Rattle.std.proofs.lemmas.Slice.{between_to_end}
use Rattle.byteorder.specs.Endian.{big_number}
use Rattle.byte_base.specs.Numbers.{number_at}
use Rattle.ref_book.proofs.load.short_at.Goals as goal

pub returns : goal.returns
unfolding number_at
returns c = c.from.ensures ∙ c.read_u16.ensures ∙ ap (big_number 2) (between_to_end c.args.bytes.now c.args.place _ (omega arith))
