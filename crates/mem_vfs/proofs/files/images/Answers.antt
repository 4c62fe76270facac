use Rattle.std.proofs.Common.{rules}
use Rattle.mem_vfs.proofs.PairLemmas.{paired_kept, paired_all}
use Rattle.mem_vfs.proofs.ImageLemmas.{IsImageFile, images_by}
use Rattle.mem_vfs.proofs.files.images.Goals as goal

pub loop-file-preserved : goal.loop-file-preserved
loop-file-preserved c = paired_kept (IsImageFile c.args.choice.now) c.args.files.now c.loop-file.images.items c.push.new.self.items c.loop-file.file-index c.file-item.result c.in_ok-image.field-0 c.loop-file-test.true c.file-item.is c.in_ok-push.ensures.items c.loop-file.invariant
    (record { name = search rules; image = search rules; settled = search rules; chosen = search rules })

pub returns : goal.returns
returns c = images_by c.args.choice.now c.args.files.now c.loop-file.images.items (paired_all (IsImageFile c.args.choice.now) c.args.files.now c.loop-file.images.items c.loop-file.file-index c.loop-file-test.false c.loop-file.invariant)
