use Rattle.std.proofs.Common.{◌≡◌, ◌∙◌, Result, Ok, Err, ap}
use Rattle.vfs_model.specs.File.{FileState}
use Rattle.vfs_trait.specs.State.{file_at}
use Rattle.vfs_trait.specs.Calls.{SyncLeaves}
use Rattle.vfs_trait.specs.declared.fault.VfsFault.{VfsFault}
use Rattle.pager_core.proofs.CommitLemmas.{left_at, cut_bytes, always, synced_after}
use Rattle.pager_core.proofs.commit.cut_then_sync.Goals as goal

sync_stays : (mid new : FileState) (r : Result Unit VfsFault) → SyncLeaves mid new r → new.now ≡ mid.now
sync_stays mid new (Ok x) h = h.now
sync_stays mid new (Err e) h = h.now

pub returns-clause-cut : goal.returns-clause-cut
returns-clause-cut g c =
    let a = g.V.Vfs.state c.args.stack.now in
    let b = g.V.Vfs.state c.cut.new.self in
    let d = g.V.Vfs.state c.sync.new.self in
    let fid = c.args.fid.0 in
    always c.sync.result (λ told.
    ap (λ found. found.bytes) (sync_stays (file_at b fid) (file_at d fid) c.sync.result (left_at b d fid _ c.sync.ensures.rests.opens c.sync.ensures.leaves (c.cut.ensures.steady.tells ∙ told)))
    ∙ cut_bytes (file_at a fid) (file_at b fid) c.args.len (c.requires.reach told) (left_at a b fid _ c.in_ok-cut.ensures.rests.opens c.in_ok-cut.ensures.leaves told))

pub returns-clause-synced : goal.returns-clause-synced
returns-clause-synced g c =
    let b = g.V.Vfs.state c.cut.new.self in
    let d = g.V.Vfs.state c.sync.new.self in
    let fid = c.args.fid.0 in
    synced_after (file_at b fid) (file_at d fid) _ c.sync.result (λ told. left_at b d fid _ c.sync.ensures.rests.opens c.sync.ensures.leaves (c.cut.ensures.steady.tells ∙ told))
