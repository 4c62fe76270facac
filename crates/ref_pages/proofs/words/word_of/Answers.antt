use Rattle.std.proofs.Common.{sym}
use Rattle.ref_pages.proofs.WordLemmas.{word_none}
use Rattle.ref_pages.proofs.words.word_of.Goals as goal

pub returns-in-None : goal.returns-in-None
returns-in-None c = sym (word_none c.args.pages.now.usable c.args.pages.now.items.items c.args.number c.args.place c.in-None.ensures.none)
