use Rattle.std.proofs.Common.{sym, ◌∙◌}
use Rattle.shell_lang.proofs.ReadLemmas.{not_number_by_text, read_as, not_other}
use Rattle.shell_lang.proofs.words.read_number.Goals as goal

pub returns-in_default : goal.returns-in_default
returns-in_default c = λ z fits is. not_number_by_text c.args.word.now z fits c.in_default.ensures.cases.0 is

pub returns-in_default-parse : goal.returns-in_default-parse
returns-in_default-parse c = λ z fits is.
    c.in_default-parse.not-Ok z (read_as c.in-Ok.text.now z c.parse.result fits (c.in-Ok.ensures.cases.0 ∙ is) c.parse.ensures.value.0)

pub returns-else-eq : goal.returns-else-eq
returns-else-eq c = λ z fits is.
    not_other c.args.word.now c.in-Ok.text.now c.as_bytes.result.now z c.in-Ok-parse.number c.parse.result fits is c.in-Ok.ensures.cases.0 c.parse.ensures.value.0
    c.in-Ok-parse.is (c.as_bytes.ensures.value ∙ c.format.ensures.text) (sym c.eq.ensures ∙ c.if-eq.false)
