use Rattle.std.proofs.Common.{◌≢◌, ◌∙◌, sym}
use Rattle.std.proofs.lemmas.List.Elements.{All-more}
use Rattle.shell_lang.specs.declared.words.Verb.TheVariants.{Create}
use Rattle.shell_lang.specs.CommandSteps.{verb_text}
use Rattle.shell_lang.proofs.CommandLemmas.{verbs, no_verb, differs}
use Rattle.shell_lang.proofs.words.Verb.read.Goals as goal

pub loop-verb-preserved : goal.loop-verb-preserved
loop-verb-preserved c =
    All-more (λ verb. c.args.word.now ≢ verb_text verb) verbs c.loop-verb.verb-index Create c.loop-verb-test.true c.loop-verb.invariant
    (differs _ _ _ c.text.ensures (sym c.eq.ensures ∙ c.if-eq.false))

pub returns : goal.returns
returns c = no_verb c.args.word.now c.loop-verb.verb-index c.loop-verb-test.false c.loop-verb.invariant
