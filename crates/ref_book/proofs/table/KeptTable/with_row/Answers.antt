use Rattle.std.proofs.Common.{refl, rules}
use Rattle.std.proofs.lemmas.Int.{to_z-of_z}
use Rattle.std.specs.Prelude.{FitsSigned}
use Rattle.std.specs.Int.{w64}
use Rattle.std.specs.Cmp.{int_cmp_total}
use Rattle.book_model.specs.Book.{written_row}
use Rattle.ref_book.proofs.Maps.{put_rises, put_is}
use Rattle.ref_book.proofs.Becomes.{table_is}
use Rattle.ref_book.proofs.table.KeptTable.with_row.Goals as goal

pub invariant_of-result : goal.invariant_of-result
invariant_of-result c =
    let fits : FitsSigned w64 c.args.rowid.now = search rules in
    put_rises int_cmp_total c.self.inside.rows.items c.deref.result.now c.in_ok-rows.rows.items c.args.rowid.now c.in_ok-row.row c.self.invariant c.deref.ensures.value (simp to_z-of_z at c.in_ok-rows.ensures)

pub returns : goal.returns
returns c =
    let fits : FitsSigned w64 c.args.rowid.now = search rules in
    let fits_entry : FitsSigned w64 c.self.inside.entry = search rules in
    rw (← c.self.view_is) (table_is c.in_ok-columns.ensures (to_z-of_z w64 c.self.inside.entry fits_entry)
    (put_is int_cmp_total c.self.inside.rows.items c.deref.result.now c.in_ok-rows.rows.items c.args.rowid.now c.args.rowid.now c.in_ok-row.row (written_row c.args.values) c.self.invariant c.deref.ensures.value refl c.in_ok-row.ensures (simp to_z-of_z at c.in_ok-rows.ensures)))
