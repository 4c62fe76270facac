use Rattle.std.proofs.Common.{◌≡◌, ◌-◌, ◌≤◌, length}
use Rattle.book_model.specs.Pages.{filled}
use Rattle.table_store.proofs.fill.fill.Given as goal

-- filled up to so many columns, and no further
abbrev pub invariant-loop : goal.invariant-loop
invariant-loop l = (l.values ≡ filled l.counter l.fn.values) × (l.counter - length l.fn.values ≤ l.columns - length l.fn.values)
