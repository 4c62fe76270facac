-- Places in files that are looked at for a mark.
use Rattle.std.specs.Prelude.{◌≤◌}
use Rattle.vfs_model.specs.Mark.{greatest_file}
use Rattle.vfs_model.specs.declared.mark.Placed.{Placed}
use Rattle.vfs_model.specs.declared.mark.Placed.TheVariants.{Ordinary, Behind, Fresh}

-- a place as a file of up to 2^32 bytes has it, or as the first write settles it
abbrev pub IsNear : Placed → Type 0
IsNear Ordinary = Unit {0}
IsNear (Behind start) = start ≤ greatest_file
IsNear (Fresh len) = len ≤ greatest_file
