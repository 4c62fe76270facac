use Rattle.std.proofs.Common.{FitsSigned}
use Rattle.std.specs.Int.{w64}
use Rattle.std.proofs.lemmas.Int.{to_z-of_z}
use Rattle.db_format.proofs.WritingLemmas.{written_int}
use Rattle.db_format.proofs.record.serial_type.Goals as goal

pub returns-in-Int : goal.returns-in-Int
returns-in-Int c =
    let fits : FitsSigned w64 c.in-Int.number = search c in
    rw (c.in-Int.is, c.int_type.ensures, to_z-of_z w64 c.in-Int.number fits) (written_int c.in-Int.number fits)
