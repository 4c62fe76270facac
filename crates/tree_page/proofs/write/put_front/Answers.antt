use Rattle.std.proofs.Common.{◌+◌, ◌%◌, [], ◌∷◌, ◌++◌, arith}
use Rattle.byteorder.specs.Endian.{big_bytes}
use Rattle.tree_page.proofs.LayLemmas.{lay_two}
use Rattle.tree_page.proofs.write.put_front.Goals as goal

pub returns : goal.returns
returns c =
    let content = big_bytes 2 (c.args.content % 65536) in
    let begin = c.args.begin in
    let one = lay_two begin (begin + 3) c.args.page.now c.put.new.page c.put_short.new.page (c.args.kind ∷ 0 ∷ 0 ∷ []) (big_bytes 2 c.args.count) (omega arith) c.put.ensures c.put_short.ensures in
    let two = lay_two begin (begin + 5) c.args.page.now c.put_short.new.page c.put_short-2.new.page (c.args.kind ∷ 0 ∷ 0 ∷ big_bytes 2 c.args.count) content (omega arith) one c.put_short-2.ensures in
    lay_two begin (begin + 7) c.args.page.now c.put_short-2.new.page c.put-2.new.page (c.args.kind ∷ 0 ∷ 0 ∷ (big_bytes 2 c.args.count ++ content)) (0 ∷ []) (omega arith) two c.put-2.ensures
