use Rattle.std.proofs.Common.{◌≡◌, ◌∷◌, map, take}
use Rattle.ref_schema.proofs.whole.roots_of.Given as goal

abbrev pub invariant-loop-table : goal.invariant-loop-table
invariant-loop-table l = l.roots.items ≡ 1 ∷ map (λ table. table.root) (take l.table-index l.tables)
