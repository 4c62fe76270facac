use Rattle.std.proofs.Common.{sym}
use Rattle.vfs_model.specs.Effect.{NoLooser}
use Rattle.vfs_trait.specs.State.{file_at, name_at}
use Rattle.journal_format.specs.Values.{undo_of}
use Rattle.journal_file.proofs.StackLemmas.{open_stays, told_next, orderly_now}
use Rattle.journal_file.proofs.JournalLemmas.{always}
use Rattle.journal_file.proofs.ExitLemmas.{settled_looser}
use Rattle.journal_file.proofs.RollbackLemmas.{apart_names, other_stays, both_stayed, open_exits, closed_exits, close_shut}
use Rattle.journal_file.proofs.rollback.play_and_close.Goals as goal

pub returns-in_err-play-clause-exits : goal.returns-in_err-play-clause-exits
returns-in_err-play-clause-exits g c =
    let state = g.V.Vfs.state in
    let a = state c.args.stack.now in
    let b = state c.play.new.stack in
    let db = c.args.db.0 in
    let jr = c.args.journal.0 in
    let u = undo_of c.args.found.now in
    λ told was tame.
    open_exits c.short_is_cold.ensures c.now_is_image.ensures c.settled_stays.ensures c.older_images.ensures c.kept_image.ensures c.args.reserve u (file_at a jr) (file_at a db) (file_at b jr) (file_at b db)
    (record {
      settled = c.requires.settled told;
      orderly_j = orderly_now a (name_at a jr) told c.requires.stands;
      there = (c.requires.long told).there;
      sure = (c.requires.long told).sure;
      tame = was;
      orderly = orderly_now a (name_at a db) told c.requires.stands;
    })
    (other_stays a b db jr (c.play.ensures.others told) c.play.ensures.rests.opens (apart_names a db jr c.requires.stands c.requires.db_open c.requires.journal_open c.requires.two))
    (c.play.ensures.kept told tame)

pub returns-clause-exits : goal.returns-clause-exits
returns-clause-exits g c =
    let state = g.V.Vfs.state in
    let a = state c.args.stack.now in
    let b = state c.play.new.stack in
    let e = state c.close_gate.new.stack in
    let db = c.args.db.0 in
    let jr = c.args.journal.0 in
    let u = undo_of c.args.found.now in
    let first = c.play.ensures in
    λ told was tame.
    let stays_d : NoLooser (file_at b db) (file_at e db) = other_stays b e jr db (c.close_gate.ensures.others (told_next a b first.steady told)) c.close_gate.ensures.rests.opens
    (apart_names b jr db first.stands (open_stays a b jr first.rests.opens c.requires.journal_open) (open_stays a b db first.rests.opens c.requires.db_open) (λ k. c.requires.two (sym k))) in
    closed_exits c.closed_is_cold.ensures c.short_is_cold.ensures c.now_is_image.ensures c.settled_stays.ensures c.older_images.ensures c.kept_image.ensures c.args.reserve u
    (file_at a jr) (file_at b jr) (file_at e jr) (file_at a db) (file_at b db) (file_at e db)
    (record {
      settled = c.requires.settled told;
      orderly_j = orderly_now a (name_at a jr) told c.requires.stands;
      there = (c.requires.long told).there;
      sure = (c.requires.long told).sure;
      tame = was;
      orderly = orderly_now a (name_at a db) told c.requires.stands;
    })
    (record {
      stays = other_stays a b db jr (first.others told) first.rests.opens (apart_names a db jr c.requires.stands c.requires.db_open c.requires.journal_open c.requires.two);
      kept = first.kept told (stays_d.was_tame tame);
      undone = c.in_ok-play.ensures.played told;
      settled = c.in_ok-play.ensures.settled told (stays_d.was_tame tame);
      but = c.close_gate.ensures.first (told_next a b first.steady told);
      stays_d = stays_d;
    })

pub returns-clause-settled : goal.returns-clause-settled
returns-clause-settled g c =
    let state = g.V.Vfs.state in
    let a = state c.args.stack.now in
    let b = state c.play.new.stack in
    let e = state c.close_gate.new.stack in
    let db = c.args.db.0 in
    let jr = c.args.journal.0 in
    let u = undo_of c.args.found.now in
    let first = c.play.ensures in
    always c.close_gate.result (λ told tame.
    let stays_d : NoLooser (file_at b db) (file_at e db) = other_stays b e jr db (c.close_gate.ensures.others (told_next a b first.steady told)) c.close_gate.ensures.rests.opens
    (apart_names b jr db first.stands (open_stays a b jr first.rests.opens c.requires.journal_open) (open_stays a b db first.rests.opens c.requires.db_open) (λ k. c.requires.two (sym k))) in
    settled_looser (file_at b db) (file_at e db) (c.in_ok-play.ensures.settled told (stays_d.was_tame tame)) stays_d)

pub returns-clause-shut : goal.returns-clause-shut
returns-clause-shut g c =
    let state = g.V.Vfs.state in
    let a = state c.args.stack.now in
    let b = state c.play.new.stack in
    let e = state c.close_gate.new.stack in
    let jr = c.args.journal.0 in
    let first = c.play.ensures in
    close_shut c.close_gate.result (file_at e jr) (file_at b jr).now.bytes _ _ _ c.close_gate.ensures.settled c.close_gate.ensures.closed
    (λ told. told_next a b first.steady told) (λ told. told_next a b first.steady told) (λ told. (c.close_gate.ensures.first (told_next a b first.steady told)).there)

pub returns-clause-others : goal.returns-clause-others
returns-clause-others g c =
    let state = g.V.Vfs.state in
    let a = state c.args.stack.now in
    let b = state c.play.new.stack in
    λ told. both_stayed c.looser_twice.ensures a b (state c.close_gate.new.stack) c.args.db.0 c.args.journal.0 c.play.ensures.steady c.play.ensures.rests.opens (c.play.ensures.others told)
    (c.close_gate.ensures.others (told_next a b c.play.ensures.steady told))
