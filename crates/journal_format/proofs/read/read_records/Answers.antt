use Rattle.std.proofs.Common.{arith}
use Rattle.journal_format.specs.Values.{all_paged}
use Rattle.journal_format.proofs.RoomLemmas.{room_for_one, one_left, ended, ends}
use Rattle.journal_format.proofs.read.read_records.Goals as goal

pub take_record-requires-clause-room : goal.take_record-requires-clause-room
take_record-requires-clause-room c = room_for_one c.args.count c.loop-k._k _ _ c.loop-k-test.true c.loop-k.invariant.room

pub returns-clause-played : goal.returns-clause-played
returns-clause-played c = ended _ c.args.header.now.page c.args.header.now.initial c.args.header.now.nonce _ c.loop-k.rest.now _ (omega arith) c.loop-k.invariant.each

pub returns-then-not-branch-clause-played : goal.returns-then-not-branch-clause-played
returns-then-not-branch-clause-played c =
    ends (all_paged c.loop-k.pages) _ _ c.args.header.now.page c.args.header.now.initial c.args.header.now.nonce _ _ c.loop-k.rest.now c.in_ok-take_record.field-0 c.if-not-branch.true
    c.in_ok-take_record.ensures.goes (one_left c.args.count c.loop-k._k c.loop-k-test.true) c.loop-k.invariant.each
