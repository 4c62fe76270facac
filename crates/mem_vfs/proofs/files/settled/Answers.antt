use Rattle.std.proofs.Common.{rules}
use Rattle.mem_vfs.proofs.PairLemmas.{paired_kept, paired_all}
use Rattle.mem_vfs.proofs.GivenLemmas.{IsMade, made_has}
use Rattle.mem_vfs.proofs.files.settled.Goals as goal

pub loop-name-preserved : goal.loop-name-preserved
loop-name-preserved c = paired_kept IsMade c.args.given.now c.loop-name.files.items c.push.new.self.items c.loop-name.name-index c.loop-name-item.result c.in_ok-settled.field-0 c.loop-name-test.true c.loop-name-item.is c.in_ok-push.ensures.items c.loop-name.invariant
    (record { name = search rules; present = search rules; marks = search rules; shortest = search rules; there = search rules; sure = search rules })

pub returns : goal.returns
returns c = made_has c.args.given.now c.loop-name.files.items (paired_all IsMade c.args.given.now c.loop-name.files.items c.loop-name.name-index c.loop-name-test.false c.loop-name.invariant)
