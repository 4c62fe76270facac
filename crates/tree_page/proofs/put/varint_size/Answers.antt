use Rattle.std.proofs.Common.{ap, ◌∙◌}
use Rattle.std.specs.Int.{w64, cast_unsigned}
use Rattle.std.proofs.lemmas.Int.{to_z-of_z}
use Rattle.tree_page.specs.Written.{varint_size}
use Rattle.tree_page.proofs.SizeLemmas.{size_is}
use Rattle.tree_page.proofs.put.varint_size.Goals as goal

pub returns-clause-size : goal.returns-clause-size
returns-clause-size c = size_is _ _ c.put_varint.ensures.size ∙ ap (λ v. varint_size (cast_unsigned w64 v)) (to_z-of_z w64 c.args.value (search c))
