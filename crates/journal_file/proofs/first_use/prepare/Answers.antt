use Rattle.journal_file.proofs.OpenLemmas.{opens_one, opens_none}
use Rattle.journal_file.proofs.first_use.prepare.Goals as goal

pub returns-in-Ok-clause-numbers : goal.returns-in-Ok-clause-numbers
returns-in-Ok-clause-numbers g c = opens_one _ _ _ c.args.name.now c.in_ok-journal.journal.0 c.in_ok-journal.ensures.numbers c.give_first_byte.ensures.rests.opens

pub returns-in-Err-clause-numbers : goal.returns-in-Err-clause-numbers
returns-in-Err-clause-numbers g c =
    opens_none c.apart_back.ensures _ _ _ _ c.args.name.now c.in_ok-journal.journal.0 c.requires.free c.view_holds.ensures.stands c.in_ok-journal.ensures.numbers c.give_first_byte.ensures.rests.opens
    c.close.ensures.closes c.close.ensures.stands
