use Rattle.std.proofs.Common.{take}
use Rattle.std.specs.List.{AllByRecursion}
use Rattle.table_store.specs.DropSteps.{MakesNone}
use Rattle.table_store.proofs.drops.entry_of.Given as goal

-- none of the rows so far makes it
abbrev pub invariant-loop-place : goal.invariant-loop-place
invariant-loop-place l = AllByRecursion (MakesNone l.pages l.schema.rows.items l.table.name) (take l.place l.schema.rows.items)
