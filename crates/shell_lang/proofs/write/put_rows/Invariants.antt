use Rattle.std.proofs.Common.{◌≡◌, ◌++◌, take}
use Rattle.std.specs.List.{flat_map}
use Rattle.shell_lang.specs.Reply.{ended, row_line}
use Rattle.shell_lang.proofs.write.put_rows.Given as goal

-- the lines of the rows so far
abbrev pub invariant-loop-rowid : goal.invariant-loop-rowid
invariant-loop-rowid l = l.out ≡ l.initial.out ++ flat_map (λ row. ended (row_line row)) (take l.rowid-index l.rows)
