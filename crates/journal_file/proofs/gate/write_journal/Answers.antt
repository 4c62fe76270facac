use Rattle.std.proofs.Common.{refl, length}
use Rattle.vfs_trait.specs.State.{file_at, name_at}
use Rattle.journal_file.proofs.StackLemmas.{left_at, told_next, tells_next, tame_now}
use Rattle.journal_file.proofs.JournalLemmas.{always, synced_settled, write_shut, cut_shut, sync_shut, wrote_or_failed, cut_or_failed, behind_first, journal_written, sync_stays}
use Rattle.journal_file.proofs.gate.write_journal.Goals as goal

pub returns-in_err-write-clause-shut : goal.returns-in_err-write-clause-shut
returns-in_err-write-clause-shut g c =
    let state = g.V.Vfs.state in
    let a = state c.args.stack.now in
    let b = state c.write.new.self in
    let fid = c.args.journal.0 in
    λ told.
    let t1 = tells_next a b fid c.write.ensures.steady c.write.ensures.rests.opens (record { told = told; is = c.requires.is_journal }) in
    write_shut _ _ _ _ (c.requires.shut told)
    (wrote_or_failed a b (name_at a fid) _ _ _ 1 _ c.write.result c.requires.is_journal c.write.ensures.cause (left_at a b fid _ c.write.ensures.rests.opens c.write.ensures.leaves told))
    (tame_now c.never_wild.ensures.journals b fid t1 c.write.ensures.stands)

pub returns-in_err-cut-clause-shut : goal.returns-in_err-cut-clause-shut
returns-in_err-cut-clause-shut g c =
    let state = g.V.Vfs.state in
    let a = state c.args.stack.now in
    let b = state c.write.new.self in
    let d = state c.cut.new.self in
    let fid = c.args.journal.0 in
    λ told.
    let t1 = tells_next a b fid c.write.ensures.steady c.write.ensures.rests.opens (record { told = told; is = c.requires.is_journal }) in
    let t2 = tells_next b d fid c.cut.ensures.steady c.cut.ensures.rests.opens t1 in
    cut_shut _ _ (length c.args.bytes.now) c.requires.some
    (write_shut _ _ _ _ (c.requires.shut told) (left_at a b fid _ c.write.ensures.rests.opens c.in_ok-write.ensures.leaves told).touched (tame_now c.never_wild.ensures.journals b fid t1 c.write.ensures.stands))
    (cut_or_failed _ _ _ c.cut.result (left_at b d fid _ c.cut.ensures.rests.opens c.cut.ensures.leaves t1.told)) (tame_now c.never_wild.ensures.journals d fid t2 c.cut.ensures.stands)

pub returns-clause-shut : goal.returns-clause-shut
returns-clause-shut g c =
    let state = g.V.Vfs.state in
    let a = state c.args.stack.now in
    let b = state c.write.new.self in
    let d = state c.cut.new.self in
    let s = state c.sync.new.self in
    let fid = c.args.journal.0 in
    λ told.
    let t1 = tells_next a b fid c.write.ensures.steady c.write.ensures.rests.opens (record { told = told; is = c.requires.is_journal }) in
    let t2 = tells_next b d fid c.cut.ensures.steady c.cut.ensures.rests.opens t1 in
    let t3 = tells_next d s fid c.sync.ensures.steady c.sync.ensures.rests.opens t2 in
    sync_shut _ _ c.sync.result (cut_shut _ _ (length c.args.bytes.now) c.requires.some
    (write_shut _ _ _ _ (c.requires.shut told) (left_at a b fid _ c.write.ensures.rests.opens c.in_ok-write.ensures.leaves told).touched (tame_now c.never_wild.ensures.journals b fid t1 c.write.ensures.stands))
    (cut_or_failed _ _ _ c.cut.result (left_at b d fid _ c.cut.ensures.rests.opens c.cut.ensures.leaves t1.told)) (tame_now c.never_wild.ensures.journals d fid t2 c.cut.ensures.stands))
    (left_at d s fid _ c.sync.ensures.rests.opens c.sync.ensures.leaves t2.told) (tame_now c.never_wild.ensures.journals s fid t3 c.sync.ensures.stands)

pub returns-clause-settled : goal.returns-clause-settled
returns-clause-settled g c =
    let state = g.V.Vfs.state in
    let a = state c.args.stack.now in
    let b = state c.write.new.self in
    let d = state c.cut.new.self in
    let s = state c.sync.new.self in
    let fid = c.args.journal.0 in
    synced_settled _ _ c.sync.result _
    (λ told. left_at d s fid _ c.sync.ensures.rests.opens c.sync.ensures.leaves (told_next b d c.cut.ensures.steady (told_next a b c.write.ensures.steady told)))
    (λ told. (left_at b d fid _ c.cut.ensures.rests.opens c.in_ok-cut.ensures.leaves (told_next a b c.write.ensures.steady told)).touched.sure
    ((left_at a b fid _ c.write.ensures.rests.opens c.in_ok-write.ensures.leaves told).touched.sure (c.requires.shut told).sure))
    (λ told. tame_now c.never_wild.ensures.journals s fid (tells_next d s fid c.sync.ensures.steady c.sync.ensures.rests.opens
    (tells_next b d fid c.cut.ensures.steady c.cut.ensures.rests.opens (tells_next a b fid c.write.ensures.steady c.write.ensures.rests.opens (record { told = told; is = c.requires.is_journal })))) c.sync.ensures.stands)

pub returns-clause-written : goal.returns-clause-written
returns-clause-written g c =
    let state = g.V.Vfs.state in
    let a = state c.args.stack.now in
    let b = state c.write.new.self in
    let d = state c.cut.new.self in
    let s = state c.sync.new.self in
    let fid = c.args.journal.0 in
    always c.sync.result (λ told.
    let told1 = told_next a b c.write.ensures.steady told in
    journal_written _ (file_at a fid) (file_at b fid) (file_at d fid) (file_at s fid) c.args.bytes.now _ (length c.args.bytes.now) (c.requires.closed told)
    (left_at a b fid _ c.write.ensures.rests.opens c.in_ok-write.ensures.leaves told)
    (left_at b d fid _ c.cut.ensures.rests.opens c.in_ok-cut.ensures.leaves told1) c.requires.some (behind_first c.args.bytes.now c.requires.some)
    (sync_stays _ _ c.sync.result (left_at d s fid _ c.sync.ensures.rests.opens c.sync.ensures.leaves (told_next b d c.cut.ensures.steady told1))) refl)
