use Rattle.std.proofs.Common.{refl, rules}
use Rattle.std.proofs.lemmas.Int.{to_z-of_z}
use Rattle.std.specs.Prelude.{FitsSigned}
use Rattle.std.specs.Int.{w64}
use Rattle.std.specs.Cmp.{int_cmp_total}
use Rattle.ref_book.proofs.Maps.{put_rises, put_is}
use Rattle.ref_book.proofs.shelf.MapShelf.schema_with.Goals as goal

pub returns-clause-rise : goal.returns-clause-rise
returns-clause-rise c =
    let fits : FitsSigned w64 c.args.at = search rules in
    put_rises int_cmp_total c.args.self.now.schema.items c.deref.result.now c.in_ok-all.all.items c.args.at c.args.row c.args.self.now.schema_rises c.deref.ensures.value (simp to_z-of_z at c.in_ok-all.ensures)

pub returns-clause-are : goal.returns-clause-are
returns-clause-are c =
    let fits : FitsSigned w64 c.args.at = search rules in
    put_is int_cmp_total c.args.self.now.schema.items c.deref.result.now c.in_ok-all.all.items c.args.at c.args.at c.args.row c.args.row c.args.self.now.schema_rises c.deref.ensures.value refl refl (simp to_z-of_z at c.in_ok-all.ensures)
