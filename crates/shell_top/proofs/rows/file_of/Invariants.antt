use Rattle.std.proofs.Common.{◌≡◌, ◌≤◌, ◌++◌, length}
use Rattle.std.specs.List.{AllByRecursion, flat_map}
use Rattle.std.specs.Ordering.{int_cmp}
use Rattle.std.specs.FinMap.Entries.{put}
use Rattle.shell_top.specs.Rows.{row_bytes}
use Rattle.shell_top.specs.Kept.{bytes_left}
use Rattle.shell_top.proofs.rows.file_of.Given as goal

abbrev pub invariant-loop-other : goal.invariant-loop-other
invariant-loop-other l = record {
  short : AllByRecursion (λ e. length e.1 ≤ 65536) l.other-iterator;
  written : l.file.items ++ bytes_left l.placed l.rowid l.text l.other-iterator ≡ flat_map row_bytes (put int_cmp l.rowid l.text l.rows.entries);
}
