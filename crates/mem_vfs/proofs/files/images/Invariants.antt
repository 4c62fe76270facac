use Rattle.std.proofs.Common.{take}
use Rattle.mem_vfs.proofs.PairLemmas.{Paired}
use Rattle.mem_vfs.proofs.ImageLemmas.{IsImageFile}
use Rattle.mem_vfs.proofs.files.images.Given as goal

abbrev pub invariant-loop-file : goal.invariant-loop-file
invariant-loop-file l = Paired (IsImageFile l.choice) (take l.file-index l.files) l.images.items
