use Rattle.tree_page.proofs.CellLemmas.{inner_sound, no_leaf}
use Rattle.tree_page.proofs.room.is_sound.Goals as goal

pub returns-in-Interior-clause-yes : goal.returns-in-Interior-clause-yes
returns-in-Interior-clause-yes c = λ yes cell here.
    inner_sound c.args.usable c.args.at c.in-Interior.right c.args.cells.now c.in-Interior.cells cell c.in-Interior.is here

pub returns-in-Interior-clause-short : goal.returns-in-Interior-clause-short
returns-in-Interior-clause-short c = λ yes cell here.
    absurd (no_leaf c.args.at c.in-Interior.right c.args.cells.now c.in-Interior.cells cell c.in-Interior.is here)
