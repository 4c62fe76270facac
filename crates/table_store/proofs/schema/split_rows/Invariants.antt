use Rattle.std.proofs.Common.{◌≡◌, map}
use Rattle.book_model.specs.Pages.{filled}
use Rattle.table_store.proofs.schema.split_rows.Given as goal

abbrev pub invariant-loop-rowid : goal.invariant-loop-rowid
invariant-loop-rowid l = (l.schema.rowids.items ≡ map (λ row. row.0) l.yielded) × (l.schema.rows.items ≡ map (λ row. filled 5 row.1) l.yielded)
