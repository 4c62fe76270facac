use Rattle.std.proofs.Common.{int_cmp, nat_cmp, refl, []}
use Rattle.std.specs.Cmp.Lexicographic.{slice_cmp}
use Rattle.book_model.specs.Book.{Row, Table}
use Rattle.ref_book.proofs.Maps.{none}
use Rattle.ref_book.proofs.shelf.MapShelf.new.Goals as goal

pub returns : goal.returns
returns c = let e = none {X = Table} (slice_cmp nat_cmp) [] refl in let f = none {X = Row} int_cmp [] refl in cc
