use Rattle.db_format.proofs.RecordLemmas.{reads_more, reads_all, reads_no_value, reads_too_much, not_empty, empty}
use Rattle.db_format.proofs.record.read_values.Goals as goal

pub returns-in_default-clause-corrupt : goal.returns-in_default-clause-corrupt
returns-in_default-clause-corrupt c = λ _.
    let l = c.loop-types_left in
    reads_no_value c.args.types.now c.args.contents.now l.values.items l.types_left.now l.contents_left.now l.invariant
    (not_empty l.types_left.now c.loop-types_left-test.ensures) c.in_default.ensures.none

pub loop-types_left-preserved : goal.loop-types_left-preserved
loop-types_left-preserved c =
    let l = c.loop-types_left in
    let first = c.in-Some.first in
    let more = reads_more c.args.types.now c.args.contents.now l.values.items l.types_left.now l.contents_left.now first.serial first.content.now first.more_types.now first.more_contents.now
    c.in-Some.ensures.found l.invariant in
    let value = c.in_ok-value_of.ensures in
    rw (c.in_ok-push.ensures.items, value) more

pub returns-then-not-is_empty-clause-corrupt : goal.returns-then-not-is_empty-clause-corrupt
returns-then-not-is_empty-clause-corrupt c = λ _.
    let l = c.loop-types_left in
    reads_too_much c.args.types.now c.args.contents.now l.values.items l.types_left.now l.contents_left.now l.invariant
    (empty l.types_left.now c.loop-types_left-test.ensures) (not_empty l.contents_left.now c.if-not-is_empty.ensures)

pub returns-clause-found : goal.returns-clause-found
returns-clause-found c =
    let l = c.loop-types_left in
    rw c.from_vec.ensures
    (reads_all c.args.types.now c.args.contents.now l.values.items l.types_left.now l.contents_left.now l.invariant
    (empty l.types_left.now c.loop-types_left-test.ensures) (empty l.contents_left.now c.if-not-is_empty.ensures))
