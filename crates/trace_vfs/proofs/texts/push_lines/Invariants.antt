use Rattle.std.proofs.Common.{◌≡◌, ◌++◌, map, take}
use Rattle.vfs_trait.specs.Log.{entry_text}
use Rattle.trace_vfs.proofs.texts.push_lines.Given as goal

abbrev pub invariant-loop-entry : goal.invariant-loop-entry
invariant-loop-entry l = l.lines ≡ l.initial.lines ++ map entry_text (take l.entry-index l.entries)
