use Rattle.std.proofs.Common.{int_cmp, rules}
use Rattle.std.proofs.lemmas.Int.{to_z-of_z}
use Rattle.std.specs.Prelude.{FitsSigned}
use Rattle.std.specs.Int.{w64}
use Rattle.book_model.specs.Book.{Row}
use Rattle.ref_book.proofs.Maps.{none}
use Rattle.ref_book.proofs.table.KeptTable.empty.Goals as goal

pub returns : goal.returns
returns c =
    let fits : FitsSigned w64 c.args.entry = search rules in
    λ i. record { columns = c.args.columns; entry = to_z-of_z w64 c.args.entry fits i; rows = none {X = Row} int_cmp c.new.result.items c.new.ensures.items i }
