use Rattle.std.proofs.Common.{◌≡◌, length, take, ap, ◌∙◌, arith}
use Rattle.std.specs.Int.{w64, cast_unsigned}
use Rattle.std.proofs.lemmas.Int.{to_z-of_z}
use Rattle.std.proofs.lemmas.List.{length-take-le}
use Rattle.tree_page.specs.Written.{varint_size}
use Rattle.tree_page.proofs.SizeLemmas.{size_is, lays_varint}
use Rattle.tree_page.proofs.put.put_varint_at.Goals as goal

pub put-requires : goal.put-requires
put-requires c =
    let size : c.put_varint-size.result ≡ varint_size (cast_unsigned w64 c.args.value) =
    size_is _ _ c.put_varint-size.ensures.size ∙ ap (λ v. varint_size (cast_unsigned w64 v)) (to_z-of_z w64 c.args.value (search c)) in
    let len : length (take c.put_varint-size.result c.put_varint-size.new.into) ≡ c.put_varint-size.result =
    length-take-le c.put_varint-size.result c.put_varint-size.new.into (omega (arith, c.put_varint-size.ensures.size.within)) in
    omega arith

pub returns : goal.returns
returns c =
    let v = c.put_varint-size in
    lays_varint c.args.value _ c.args.page.now c.put.new.page v.new.into c.args.place v.result (to_z-of_z w64 c.args.value (search c)) v.ensures.size v.array_long v.ensures.spelled v.ensures.shortest c.put.ensures
