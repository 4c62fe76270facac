use Rattle.journal_file.proofs.StackLemmas.{left_at, told_next, tells_next, tame_now}
use Rattle.journal_file.proofs.JournalLemmas.{always, synced_settled, gate_set}
use Rattle.journal_file.proofs.gate.set_gate.Goals as goal

pub returns-clause-settled : goal.returns-clause-settled
returns-clause-settled g c =
    let state = g.V.Vfs.state in
    let a = state c.args.stack.now in
    let b = state c.write.new.self in
    let s = state c.sync.new.self in
    let fid = c.args.journal.0 in
    synced_settled _ _ c.sync.result _
    (λ told. left_at b s fid _ c.sync.ensures.rests.opens c.sync.ensures.leaves (told_next a b c.write.ensures.steady told))
    (λ told. (left_at a b fid _ c.write.ensures.rests.opens c.in_ok-write.ensures.leaves told).touched.sure (c.requires.settled told).sure)
    (λ told. tame_now c.never_wild.ensures.journals s fid (tells_next b s fid c.sync.ensures.steady c.sync.ensures.rests.opens (tells_next a b fid c.write.ensures.steady c.write.ensures.rests.opens (record { told = told; is = c.requires.is_journal }))) c.sync.ensures.stands)

pub returns-clause-set : goal.returns-clause-set
returns-clause-set g c =
    let state = g.V.Vfs.state in
    let a = state c.args.stack.now in
    let b = state c.write.new.self in
    let s = state c.sync.new.self in
    let fid = c.args.journal.0 in
    always c.sync.result (λ told. gate_set _ _ _ _ c.args.byte c.sync.result (c.requires.some told)
    (left_at a b fid _ c.write.ensures.rests.opens c.in_ok-write.ensures.leaves told)
    (left_at b s fid _ c.sync.ensures.rests.opens c.sync.ensures.leaves (told_next a b c.write.ensures.steady told)))
