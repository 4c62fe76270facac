use Rattle.std.proofs.Common.{◌≡◌, ◌++◌, take}
use Rattle.std.specs.List.{flat_map}
use Rattle.shell_lang.specs.Reply.{ended, table_line}
use Rattle.shell_lang.proofs.write.put_tables.Given as goal

-- the lines of the tables so far
abbrev pub invariant-loop-table : goal.invariant-loop-table
invariant-loop-table l = l.out ≡ l.initial.out ++ flat_map (λ table. ended (table_line table)) (take l.table-index l.tables)
