use Rattle.std.proofs.Common.{◌≡◌, drop, find}
use Rattle.mem_vfs.specs.Memory.{is_named}
use Rattle.mem_vfs.proofs.PlaceLemmas.{LeadsTo}
use Rattle.mem_vfs.proofs.files.place_of.Given as goal

abbrev pub invariant-loop-place : goal.invariant-loop-place
invariant-loop-place l = record {
  leads : LeadsTo l.files l.name l.place;
  none : find (is_named l.name) l.files ≡ find (is_named l.name) (drop l.place l.files);
}
