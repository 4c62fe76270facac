use Rattle.std.proofs.Common.{List, None, subst, sym}
use Rattle.journal_format.specs.Undo.{Paged}
use Rattle.journal_format.specs.Journal.{IsPlan}
use Rattle.journal_file_tests.proofs.ReadyLemmas.{both_planned}
use Rattle.journal_file_tests.proofs.pages.plan_of.Goals as goal

pub returns-clause-plan : goal.returns-clause-plan
returns-clause-plan c =
    let P : List Paged → Type 0 = λ originals. IsPlan 1 (record { page = 512; initial = 2; originals = originals; super_name = None }) in
    subst P (sym c.in_ok-both_pages.ensures) (both_planned c.args.file.now c.requires)
