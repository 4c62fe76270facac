use Rattle.std.proofs.Common.{arith, IsTrue, inl, sym, ◌∙◌}
use Rattle.vfs_trait.specs.State.{file_at, name_at}
use Rattle.journal_format.specs.Values.{all_paged, undo_of_plan}
use Rattle.journal_file.specs.Content.{initial_size}
use Rattle.journal_file.proofs.StackLemmas.{told_next, orderly_now}
use Rattle.journal_file.proofs.PlayLemmas.{reserve_fits}
use Rattle.journal_file.proofs.PlaceLemmas.{size_large}
use Rattle.journal_file.proofs.RollbackLemmas.{apart_names, other_stays, both_after, sturdy_next, on_ok}
use Rattle.journal_file.proofs.CommitLemmas.{CommitLaws, among_within, begun_stands, changed_stands, stands_then, done_from, ready_long, some_bytes}
use Rattle.journal_file.proofs.commit.commit_pages.Goals as goal

pub returns-in_err-begin-clause-either : goal.returns-in_err-begin-clause-either
returns-in_err-begin-clause-either g c =
    let state = g.V.Vfs.state in
    let a = state c.args.stack.now in
    let b = state c.begin.new.stack in
    let db = c.args.db.0 in
    let jr = c.args.journal.0 in
    let laws : CommitLaws = record {
      older = c.older_images.ensures;
      only = c.settled_stays.ensures;
      cover = c.pages_cover.ensures;
      read = c.read_back.ensures;
      cold = c.cold_stands.ensures;
      gate = c.gate_stands.ensures;
      image = c.kept_image.ensures;
      stands = c.kept_stands.ensures;
      shut = c.shut_is_cold.ensures;
    } in
    let apart = apart_names a jr db c.view_holds.ensures.stands c.requires.journal_open c.requires.db_open (λ k. c.requires.two (sym k)) in
    λ exists after told tame counts is i e ij id. inl (begun_stands laws exists c.args.reserve c.args.plan.now.nonce (undo_of_plan c.args.plan.now) (file_at b jr) (file_at a db) (file_at b db)
    (c.begin.ensures.begun told) (c.requires.ready told) (other_stays a b jr db (c.begin.ensures.others told) c.begin.ensures.rests.opens apart)
    (orderly_now b (name_at b db) (told_next a b c.begin.ensures.steady told) c.begin.ensures.stands) c.requires.plan counts i e ij id)

pub returns-clause-either : goal.returns-clause-either
returns-clause-either g c =
    let state = g.V.Vfs.state in
    let a = state c.args.stack.now in
    let b = state c.begin.new.stack in
    let e = state c.change_and_close.new.stack in
    let db = c.args.db.0 in
    let jr = c.args.journal.0 in
    let laws : CommitLaws = record {
      older = c.older_images.ensures;
      only = c.settled_stays.ensures;
      cover = c.pages_cover.ensures;
      read = c.read_back.ensures;
      cold = c.cold_stands.ensures;
      gate = c.gate_stands.ensures;
      image = c.kept_image.ensures;
      stands = c.kept_stands.ensures;
      shut = c.shut_is_cold.ensures;
    } in
    let apart = apart_names a jr db c.view_holds.ensures.stands c.requires.journal_open c.requires.db_open (λ k. c.requires.two (sym k)) in
    λ exists after told tame counts is.
    changed_stands laws exists c.args.reserve c.args.plan.now.nonce (undo_of_plan c.args.plan.now) (all_paged c.args.pages) (file_at b jr) (file_at a db) (file_at b db) (file_at e jr) (file_at e db) after
    (record { settled = c.in_ok-begin.ensures.settled told; there = c.in_ok-begin.ensures.there told; bytes = c.in_ok-begin.ensures.opened told })
    (c.requires.ready told) (other_stays a b jr db (c.begin.ensures.others told) c.begin.ensures.rests.opens apart) c.requires.plan counts
    (omega (arith, reserve_fits _ _ c.args.reserve c.requires.reserves, size_large c.args.plan.now.page c.requires.plan.page_is_size)) c.requires.among
    (c.change_and_close.ensures.changed (told_next a b c.begin.ensures.steady told) tame) is

pub returns-clause-after : goal.returns-clause-after
returns-clause-after g c =
    let state = g.V.Vfs.state in
    let a = state c.args.stack.now in
    let b = state c.begin.new.stack in
    let e = state c.change_and_close.new.stack in
    let db = c.args.db.0 in
    let next : IsTrue a.tells → IsTrue b.tells = λ told. told_next a b c.begin.ensures.steady told in
    stands_then c.cold_stands.ensures c.shut_is_cold.ensures c.args.reserve c.change_and_close.result (file_at e c.args.journal.0) (file_at e db) _ _ _ next c.change_and_close.ensures.shut c.change_and_close.ensures.settled
    (λ told. orderly_now e (name_at e db) (told_next b e c.change_and_close.ensures.steady (next told)) c.change_and_close.ensures.stands)

pub returns-clause-written : goal.returns-clause-written
returns-clause-written g c =
    let state = g.V.Vfs.state in
    let a = state c.args.stack.now in
    let b = state c.begin.new.stack in
    let db = c.args.db.0 in
    let jr = c.args.journal.0 in
    let apart = apart_names a jr db c.view_holds.ensures.stands c.requires.journal_open c.requires.db_open (λ k. c.requires.two (sym k)) in
    on_ok c.change_and_close.result _ _ (λ h told. done_from _ (file_at a db) (file_at b db) _ (other_stays a b jr db (c.begin.ensures.others told) c.begin.ensures.rests.opens apart)
    (h (told_next a b c.begin.ensures.steady told))) c.change_and_close.ensures.written

pub returns-clause-settled : goal.returns-clause-settled
returns-clause-settled g c =
    let state = g.V.Vfs.state in
    on_ok c.change_and_close.result _ _ (λ h told. h (told_next (state c.args.stack.now) (state c.begin.new.stack) c.begin.ensures.steady told)) c.change_and_close.ensures.settled

pub returns-clause-shut : goal.returns-clause-shut
returns-clause-shut g c =
    let state = g.V.Vfs.state in
    on_ok c.change_and_close.result _ _ (λ h told. h (told_next (state c.args.stack.now) (state c.begin.new.stack) c.begin.ensures.steady told)) c.change_and_close.ensures.shut

pub returns-in_err-begin-clause-tame : goal.returns-in_err-begin-clause-tame
returns-in_err-begin-clause-tame g c =
    let state = g.V.Vfs.state in
    let a = state c.args.stack.now in
    let b = state c.begin.new.stack in
    let db = c.args.db.0 in
    let jr = c.args.journal.0 in
    let apart = apart_names a jr db c.view_holds.ensures.stands c.requires.journal_open c.requires.db_open (λ k. c.requires.two (sym k)) in
    λ told sturdy. (other_stays a b jr db (c.begin.ensures.others told) c.begin.ensures.rests.opens apart).tame sturdy.tame

pub returns-clause-tame : goal.returns-clause-tame
returns-clause-tame g c =
    let state = g.V.Vfs.state in
    let a = state c.args.stack.now in
    let b = state c.begin.new.stack in
    let db = c.args.db.0 in
    let jr = c.args.journal.0 in
    let apart = apart_names a jr db c.view_holds.ensures.stands c.requires.journal_open c.requires.db_open (λ k. c.requires.two (sym k)) in
    λ told sturdy. c.change_and_close.ensures.tame (told_next a b c.begin.ensures.steady told)
    (sturdy_next a b db (initial_size (undo_of_plan c.args.plan.now)) c.begin.ensures.rests.opens (other_stays a b jr db (c.begin.ensures.others told) c.begin.ensures.rests.opens apart) sturdy)

pub returns-clause-others : goal.returns-clause-others
returns-clause-others g c =
    let state = g.V.Vfs.state in
    let a = state c.args.stack.now in
    let b = state c.begin.new.stack in
    λ told. both_after c.looser_twice.ensures a b (state c.change_and_close.new.stack) c.args.db.0 c.args.journal.0 c.begin.ensures.steady c.begin.ensures.rests.opens (c.begin.ensures.others told)
    (c.change_and_close.ensures.others (told_next a b c.begin.ensures.steady told))

pub change_and_close-requires-clause-playable : goal.change_and_close-requires-clause-playable
change_and_close-requires-clause-playable g c = record {
  page_is_size = c.requires.plan.page_is_size;
  pages = c.requires.pages;
  within = among_within _ _ _ c.requires.plan.within c.requires.among;
  small = c.requires.plan.small;
}

pub change_and_close-requires-clause-long : goal.change_and_close-requires-clause-long
change_and_close-requires-clause-long g c =
    let state = g.V.Vfs.state in
    let a = state c.args.stack.now in
    let b = state c.begin.new.stack in
    let db = c.args.db.0 in
    let jr = c.args.journal.0 in
    let apart = apart_names a jr db c.view_holds.ensures.stands c.requires.journal_open c.requires.db_open (λ k. c.requires.two (sym k)) in
    λ told.
    let told0 = sym c.begin.ensures.steady.tells ∙ told in
    ready_long c.args.reserve (undo_of_plan c.args.plan.now) (all_paged c.args.pages) (file_at a db) (file_at b db) (c.requires.ready told0) (other_stays a b jr db (c.begin.ensures.others told0) c.begin.ensures.rests.opens apart)

pub change_and_close-requires-clause-some : goal.change_and_close-requires-clause-some
change_and_close-requires-clause-some g c = λ told.
    some_bytes 217 c.args.plan.now.nonce (undo_of_plan c.args.plan.now) _ (c.in_ok-begin.ensures.opened (sym c.begin.ensures.steady.tells ∙ told))
