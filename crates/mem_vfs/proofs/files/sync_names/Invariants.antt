use Rattle.mem_vfs.proofs.PairLemmas.{Turned}
use Rattle.mem_vfs.proofs.NameLemmas.{IsSure}
use Rattle.mem_vfs.proofs.files.sync_names.Given as goal

abbrev pub invariant-loop-file : goal.invariant-loop-file
invariant-loop-file l = Turned IsSure l.file-index l.initial.files l.files
