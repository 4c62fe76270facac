use Rattle.std.proofs.Common.{take}
use Rattle.mem_vfs.proofs.PairLemmas.{Paired}
use Rattle.mem_vfs.proofs.GivenLemmas.{IsMade}
use Rattle.mem_vfs.proofs.files.settled.Given as goal

abbrev pub invariant-loop-name : goal.invariant-loop-name
invariant-loop-name l = Paired IsMade (take l.name-index l.given) l.files.items
