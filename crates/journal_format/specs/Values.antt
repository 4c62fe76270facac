-- The values of the program as contracts see them.
use Rattle.std.specs.Prelude.{List, map}
use Rattle.journal_format.specs.Undo.{Paged, Undo}
use Rattle.journal_format.specs.declared.pages.NumberedPage.{NumberedPage}
use Rattle.journal_format.specs.declared.write.JournalPlan.{JournalPlan}
use Rattle.journal_format.specs.declared.read.Play.{Play}

abbrev pub paged : NumberedPage → Paged
paged p = (p.number, p.bytes)

abbrev pub all_paged : List NumberedPage → List Paged
all_paged pages = map paged pages

-- what a plan undoes, and what is played back
abbrev pub undo_of_plan : JournalPlan → Undo
undo_of_plan p = record { page = p.page; initial = p.initial; originals = all_paged p.originals; super_name = p.super_name }

abbrev pub undo_of : Play → Undo
undo_of p = record { page = p.page; initial = p.initial; originals = all_paged p.records; super_name = p.super_name }
