use Rattle.std.proofs.Common.{arith, ◌≤◌, length, sym, ◌∙◌, ap}
use Rattle.vfs_model.specs.Effect.{NoLooser, Synced}
use Rattle.vfs_trait.specs.State.{file_at, name_at}
use Rattle.journal_format.specs.Journal.{hot}
use Rattle.journal_file.specs.Content.{initial_size}
use Rattle.journal_file.proofs.StackLemmas.{left_at, told_next, orderly_now}
use Rattle.journal_file.proofs.ExitLemmas.{stood_stood, settled_looser}
use Rattle.journal_file.proofs.RollbackLemmas.{apart_names, other_stays, undo_long}
use Rattle.journal_file.proofs.RecoveryLemmas.{sync_stood, still_over}
use Rattle.journal_file.proofs.recovery.recover.Goals as goal

pub rollback_from-requires-clause-hot : goal.rollback_from-requires-clause-hot
rollback_from-requires-clause-hot g c =
    let state = g.V.Vfs.state in
    let a = state c.args.stack.now in
    let b = state c.sync.new.self in
    let db = c.args.db.0 in
    let jr = c.args.journal.0 in
    let apart = apart_names a db jr c.view_holds.ensures.stands c.requires.db_open c.requires.journal_open c.requires.two in
    λ told.
    let told0 = sym c.sync.ensures.steady.tells ∙ told in
    still_over c.args.page (file_at a jr) (file_at a db) (file_at b jr) (file_at b db) (c.requires.hot told0)
    (other_stays a b db jr (c.sync.ensures.leaves.others told0) c.sync.ensures.rests.opens apart)
    (left_at a b db Synced c.sync.ensures.rests.opens c.in_ok-sync.ensures.leaves told0)

pub returns-in_err-sync-clause-stood : goal.returns-in_err-sync-clause-stood
returns-in_err-sync-clause-stood g c =
    let state = g.V.Vfs.state in
    let a = state c.args.stack.now in
    let b = state c.sync.new.self in
    let db = c.args.db.0 in
    let jr = c.args.journal.0 in
    let stands = c.view_holds.ensures.stands in
    let apart = apart_names a db jr stands c.requires.db_open c.requires.journal_open c.requires.two in
    λ exists u told was tame is_hot.
    sync_stood c.older_images.ensures exists c.args.reserve (file_at a jr) (file_at a db) (file_at b jr) (file_at b db) c.sync.result (orderly_now a (name_at a db) told stands)
    (other_stays a b db jr (c.sync.ensures.leaves.others told) c.sync.ensures.rests.opens apart)
    (left_at a b db _ c.sync.ensures.rests.opens c.sync.ensures.leaves told) was

pub returns-clause-stood : goal.returns-clause-stood
returns-clause-stood g c =
    let state = g.V.Vfs.state in
    let a = state c.args.stack.now in
    let b = state c.sync.new.self in
    let e = state c.rollback_from.new.stack in
    let db = c.args.db.0 in
    let jr = c.args.journal.0 in
    let stands = c.view_holds.ensures.stands in
    let apart = apart_names a db jr stands c.requires.db_open c.requires.journal_open c.requires.two in
    λ exists u told was tame is_hot.
    let js : NoLooser (file_at a jr) (file_at b jr) = other_stays a b db jr (c.sync.ensures.leaves.others told) c.sync.ensures.rests.opens apart in
    let ds : Synced (file_at a db) (file_at b db) = left_at a b db Synced c.sync.ensures.rests.opens c.in_ok-sync.ensures.leaves told in
    let long : initial_size u ≤ length (file_at a db).now.bytes = undo_long c.asked.ensures exists c.args.page (file_at a jr) (file_at a db) u (c.requires.hot told) is_hot in
    stood_stood exists c.args.reserve (file_at a jr) (file_at a db) (file_at b jr) (file_at b db) (file_at e jr) (file_at e db)
    (sync_stood c.older_images.ensures exists c.args.reserve (file_at a jr) (file_at a db) (file_at b jr) (file_at b db) c.sync.result (orderly_now a (name_at a db) told stands) js
    (left_at a b db _ c.sync.ensures.rests.opens c.sync.ensures.leaves told) was)
    (c.rollback_from.ensures.stood exists u (told_next a b c.sync.ensures.steady told) (ds.tame was) tame
    (ap (λ f. hot exists f.bytes) js.now ∙ is_hot) (omega (arith, long, ap (λ f. length f.bytes) ds.now, (ds.content (ds.tame was)).shortest)))

pub rollback_from-requires-clause-settled : goal.rollback_from-requires-clause-settled
rollback_from-requires-clause-settled g c =
    let state = g.V.Vfs.state in
    let a = state c.args.stack.now in
    let b = state c.sync.new.self in
    let db = c.args.db.0 in
    let jr = c.args.journal.0 in
    let apart = apart_names a db jr c.view_holds.ensures.stands c.requires.db_open c.requires.journal_open c.requires.two in
    λ told.
    let told0 = sym c.sync.ensures.steady.tells ∙ told in
    settled_looser (file_at a jr) (file_at b jr) (c.requires.settled told0) (other_stays a b db jr (c.sync.ensures.leaves.others told0) c.sync.ensures.rests.opens apart)
