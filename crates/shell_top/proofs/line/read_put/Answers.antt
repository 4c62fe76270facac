use Rattle.shell_top.proofs.LineLemmas.{bad_blank, bad_number, bad_text}
use Rattle.shell_top.proofs.line.read_put.Goals as goal

pub returns-in_default-split_at_blank : goal.returns-in_default-split_at_blank
returns-in_default-split_at_blank c = bad_blank c.args.line.now c.in-Some.words.now c.in-Some.ensures c.in_default-split_at_blank.ensures

pub returns-in_default-read_number : goal.returns-in_default-read_number
returns-in_default-read_number c =
    bad_number c.args.line.now c.in-Some.words.now c.in-Some-split_at_blank.number.now c.in-Some-split_at_blank.value.now
    c.in-Some.ensures c.in-Some-split_at_blank.ensures.0 c.in-Some-split_at_blank.ensures.1 c.in_default-read_number.ensures

pub returns-in_default-read_text : goal.returns-in_default-read_text
returns-in_default-read_text c =
    bad_text c.args.line.now c.in-Some.words.now c.in-Some-split_at_blank.number.now c.in-Some-split_at_blank.value.now
    c.in-Some.ensures c.in-Some-split_at_blank.ensures.0 c.in-Some-split_at_blank.ensures.1 c.in_default-read_text.ensures
