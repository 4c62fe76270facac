use Rattle.std.proofs.Common.{inl, inr, sym, subst}
use Rattle.vfs_model.specs.File.{Found}
use Rattle.vfs_model.specs.Effect.{NoLooser}
use Rattle.vfs_trait.specs.State.{file_at}
use Rattle.journal_format.specs.Values.{undo_of}
use Rattle.journal_file.specs.Content.{with_reserve, IsUndone}
use Rattle.journal_file.specs.Steps.{HasButFirst}
use Rattle.journal_file.proofs.StackLemmas.{open_stays, told_next}
use Rattle.journal_file.proofs.JournalLemmas.{always}
use Rattle.journal_file.proofs.PlaceLemmas.{kept_kept, stays_kept}
use Rattle.journal_file.proofs.ExitLemmas.{settled_looser}
use Rattle.journal_file.proofs.RollbackLemmas.{apart_names, other_stays, both_stayed, close_shut}
use Rattle.journal_file.proofs.commit.change_and_close.Goals as goal

pub returns-in_err-play-clause-changed : goal.returns-in_err-play-clause-changed
returns-in_err-play-clause-changed g c =
    let state = g.V.Vfs.state in
    let a = state c.args.stack.now in
    let b = state c.play.new.stack in
    let db = c.args.db.0 in
    let jr = c.args.journal.0 in
    λ told tame. inl (record {
      stays = other_stays a b db jr (c.play.ensures.others told) c.play.ensures.rests.opens (apart_names a db jr c.requires.stands c.requires.db_open c.requires.journal_open c.requires.two);
      kept = c.play.ensures.kept told tame;
    })

pub returns-clause-changed : goal.returns-clause-changed
returns-clause-changed g c =
    let state = g.V.Vfs.state in
    let a = state c.args.stack.now in
    let b = state c.play.new.stack in
    let e = state c.close_gate.new.stack in
    let db = c.args.db.0 in
    let jr = c.args.journal.0 in
    let u = with_reserve c.args.reserve (undo_of c.args.change.now) in
    let first = c.play.ensures in
    λ told tame.
    let stays_j : NoLooser (file_at a jr) (file_at b jr) = other_stays a b db jr (first.others told) first.rests.opens (apart_names a db jr c.requires.stands c.requires.db_open c.requires.journal_open c.requires.two) in
    let stays_d : NoLooser (file_at b db) (file_at e db) = other_stays b e jr db (c.close_gate.ensures.others (told_next a b first.steady told)) c.close_gate.ensures.rests.opens
    (apart_names b jr db first.stands (open_stays a b jr first.rests.opens c.requires.journal_open) (open_stays a b db first.rests.opens c.requires.db_open) (λ k. c.requires.two (sym k))) in
    let P : Found → Type 0 = λ f. HasButFirst f.bytes (file_at e jr) in
    let Q : Found → Type 0 = λ f. IsUndone u (file_at a db).now f in
    inr (record {
      but = subst P stays_j.now (c.close_gate.ensures.first (told_next a b first.steady told));
      kept = kept_kept u (file_at a db) (file_at b db) (file_at e db) (first.kept told (stays_d.was_tame tame)) (stays_kept u (file_at b db) (file_at e db) stays_d);
      settled = settled_looser (file_at b db) (file_at e db) (c.in_ok-play.ensures.settled told (stays_d.was_tame tame)) stays_d;
      done = subst Q (sym stays_d.now) (c.in_ok-play.ensures.played told);
    })

pub returns-clause-settled : goal.returns-clause-settled
returns-clause-settled g c =
    let state = g.V.Vfs.state in
    let a = state c.args.stack.now in
    let b = state c.play.new.stack in
    let e = state c.close_gate.new.stack in
    let db = c.args.db.0 in
    let jr = c.args.journal.0 in
    let first = c.play.ensures in
    always c.close_gate.result (λ told tame.
    let stays_d : NoLooser (file_at b db) (file_at e db) = other_stays b e jr db (c.close_gate.ensures.others (told_next a b first.steady told)) c.close_gate.ensures.rests.opens
    (apart_names b jr db first.stands (open_stays a b jr first.rests.opens c.requires.journal_open) (open_stays a b db first.rests.opens c.requires.db_open) (λ k. c.requires.two (sym k))) in
    settled_looser (file_at b db) (file_at e db) (c.in_ok-play.ensures.settled told (stays_d.was_tame tame)) stays_d)

pub returns-clause-shut : goal.returns-clause-shut
returns-clause-shut g c =
    let state = g.V.Vfs.state in
    let a = state c.args.stack.now in
    let b = state c.play.new.stack in
    let e = state c.close_gate.new.stack in
    let jr = c.args.journal.0 in
    let first = c.play.ensures in
    close_shut c.close_gate.result (file_at e jr) (file_at b jr).now.bytes _ _ _ c.close_gate.ensures.settled c.close_gate.ensures.closed
    (λ told. told_next a b first.steady told) (λ told. told_next a b first.steady told) (λ told. (c.close_gate.ensures.first (told_next a b first.steady told)).there)

pub returns-clause-others : goal.returns-clause-others
returns-clause-others g c =
    let state = g.V.Vfs.state in
    let a = state c.args.stack.now in
    let b = state c.play.new.stack in
    λ told. both_stayed c.looser_twice.ensures a b (state c.close_gate.new.stack) c.args.db.0 c.args.journal.0 c.play.ensures.steady c.play.ensures.rests.opens (c.play.ensures.others told)
    (c.close_gate.ensures.others (told_next a b c.play.ensures.steady told))
