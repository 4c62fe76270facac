use Rattle.std.proofs.Common.{◌+◌, ◌<◌, ◌^◌}
use Rattle.std.specs.Int.{w64}
use Rattle.std.proofs.lemmas.Int.{to_z-of_z}
use Rattle.tree_page.proofs.TextLemmas.{inner_laid, same_varint}
use Rattle.tree_page.proofs.write.put_inner.Goals as goal

pub returns : goal.returns
returns c =
    let small : c.args.cell.now.child < 2 ^ 32 = search c in
    inner_laid c.args.page.now c.put_number.new.page c.put_varint_at.new.page c.args.place c.put_varint_at.result c.args.cell.now small c.put_number.ensures
    (same_varint c.put_number.new.page c.put_varint_at.new.page (c.args.place + 4) c.put_varint_at.result _ c.args.cell.now.rowid (to_z-of_z w64 c.args.cell.now.rowid (search c)) c.put_varint_at.ensures)
