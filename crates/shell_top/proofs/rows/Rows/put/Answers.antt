use Rattle.std.proofs.Common.{ap, ◌∙◌, is_some}
use Rattle.std.specs.FinMap as map
use Rattle.std.specs.Int.{w64}
use Rattle.std.specs.Ordering.{int_cmp}
use Rattle.std.specs.Map.{lookup}
use Rattle.std.specs.BTreeMap.{insert_entry, is_at}
use Rattle.std.proofs.lemmas.Int.{to_z-of_z}
use Rattle.shell_top.proofs.RowsLemmas.{sorted-ordered, rows_get, rows_insert, kept_put}
use Rattle.shell_top.proofs.rows.Rows.put.Goals as goal

pub invariant_of-self-2 : goal.invariant_of-self-2
invariant_of-self-2 c =
    let key = to_z-of_z w64 c.args.rowid c.ranges.rowid in
    kept_put c.self.inside.rows.entries c.insert.new.self.entries c.args.rowid c.args.text c.self.invariant c.requires c.in_ok-insert.ensures.ordered
    (c.in_ok-insert.ensures.entries ∙ ap (λ k. insert_entry int_cmp c.self.inside.rows.entries k c.args.text) key)

pub returns-clause-replaced : goal.returns-clause-replaced
returns-clause-replaced c =
    let key = to_z-of_z w64 c.args.rowid c.ranges.rowid in
    c.is_some.ensures
    ∙ ap is_some (c.in_ok-insert.ensures.old ∙ ap (λ k. lookup (is_at (int_cmp k)) c.self.inside.rows.entries) key ∙ rows_get c.self.inside.rows.entries c.args.rowid c.self.invariant.sorted)
    ∙ ap (λ rows. is_some (map.get rows c.args.rowid)) c.self.view_is

pub returns-clause-ok : goal.returns-clause-ok
returns-clause-ok c =
    let key = to_z-of_z w64 c.args.rowid c.ranges.rowid in
    rows_insert c.self.inside.rows.entries c.insert.new.self.entries c.args.rowid c.args.text c.self.invariant.sorted (sorted-ordered c.insert.new.self.entries c.in_ok-insert.ensures.ordered)
    (c.in_ok-insert.ensures.entries ∙ ap (λ k. insert_entry int_cmp c.self.inside.rows.entries k c.args.text) key)
    ∙ ap (λ rows. map.insert rows c.args.rowid c.args.text) c.self.view_is
