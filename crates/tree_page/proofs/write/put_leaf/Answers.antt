use Rattle.std.proofs.Common.{◌<◌, ◌^◌, ◌∙◌}
use Rattle.std.specs.Int.{w64}
use Rattle.std.proofs.lemmas.Int.{to_z-of_z}
use Rattle.tree_page.proofs.TextLemmas.{leaf_spilled, leaf_whole}
use Rattle.tree_page.proofs.write.put_leaf.Goals as goal

pub returns-then-local-payload_len : goal.returns-then-local-payload_len
returns-then-local-payload_len c =
    let cell = c.args.cell.now in
    let small : cell.overflow < 2 ^ 32 = search c in
    let unsigned : cell.payload_len < 2 ^ 64 = search c in
    leaf_spilled c.args.page.now c.put_varint_at.new.page c.put_varint_at-2.new.page c.put.new.page c.put_number.new.page c.as_slice-local.result.now c.args.place
    c.put_varint_at.result c.put_varint_at-2.result _ _ cell unsigned small (to_z-of_z w64 c.cast_signed.result (search c) ∙ c.cast_signed.ensures) (to_z-of_z w64 cell.rowid (search c)) c.as_slice-local.ensures
    c.put_varint_at.ensures c.put_varint_at-2.ensures c.put.ensures c.if-local-payload_len.true c.put_number.ensures

pub returns-else-local-payload_len : goal.returns-else-local-payload_len
returns-else-local-payload_len c =
    let cell = c.args.cell.now in
    let small : cell.overflow < 2 ^ 32 = search c in
    let unsigned : cell.payload_len < 2 ^ 64 = search c in
    leaf_whole c.args.page.now c.put_varint_at.new.page c.put_varint_at-2.new.page c.put.new.page c.as_slice-local.result.now c.args.place
    c.put_varint_at.result c.put_varint_at-2.result _ _ cell unsigned small (to_z-of_z w64 c.cast_signed.result (search c) ∙ c.cast_signed.ensures) (to_z-of_z w64 cell.rowid (search c)) c.as_slice-local.ensures
    c.put_varint_at.ensures c.put_varint_at-2.ensures c.put.ensures c.if-local-payload_len.false
