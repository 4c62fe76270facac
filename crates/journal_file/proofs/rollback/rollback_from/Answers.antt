use Rattle.std.proofs.Common.{arith, false, ◌≡◌, sym, ◌∙◌, ap, subst}
use Rattle.vfs_model.specs.File.{Found}
use Rattle.vfs_model.specs.Effect.{NoLooser}
use Rattle.vfs_trait.specs.State.{file_at, name_at}
use Rattle.journal_format.specs.Undo.{Undo}
use Rattle.journal_format.specs.Journal.{hot}
use Rattle.journal_format.specs.Values.{undo_of}
use Rattle.journal_file.specs.Content.{initial_size, with_reserve, IsUndone}
use Rattle.journal_file.specs.Tame.{IsSturdy}
use Rattle.journal_file.specs.Steps.{Exits, IsLong}
use Rattle.journal_file.proofs.StackLemmas.{left_at, told_next, orderly_now}
use Rattle.journal_file.proofs.PlaceLemmas.{kept_kept, stays_kept}
use Rattle.journal_file.proofs.ExitLemmas.{stood_stood}
use Rattle.journal_file.proofs.HotLemmas.{undo_is, undo_none}
use Rattle.journal_file.proofs.RollbackLemmas.{looser_long, both_after, apart_names, other_stays, open_exits, on_ok, all_hot, this_page, sturdy_next, stays_stood_by}
use Rattle.journal_file.proofs.rollback.rollback_from.Goals as goal

pub returns-in_err-found-clause-stood : goal.returns-in_err-found-clause-stood
returns-in_err-found-clause-stood g c =
    let state = g.V.Vfs.state in
    let a = state c.args.stack.now in
    let b = state c.read_play.new.stack in
    let db = c.args.db.0 in
    let jr = c.args.journal.0 in
    let stands = c.view_holds.ensures.stands in
    let apart = apart_names a jr db stands c.requires.journal_open c.requires.db_open (λ k. c.requires.two (sym k)) in
    λ exists u told was tame is_hot enough.
    stays_stood_by c.older_images.ensures exists c.args.reserve (file_at a jr) (file_at a db) (file_at b jr) (file_at b db) (left_at a b jr _ c.read_play.ensures.rests.opens c.read_play.ensures.leaves told)
    (other_stays a b jr db (c.read_play.ensures.leaves.others told) c.read_play.ensures.rests.opens apart)

pub returns-in_err-found-clause-first : goal.returns-in_err-found-clause-first
returns-in_err-found-clause-first g c =
    let state = g.V.Vfs.state in
    let a = state c.args.stack.now in
    let b = state c.read_play.new.stack in
    let db = c.args.db.0 in
    let jr = c.args.journal.0 in
    let stands = c.view_holds.ensures.stands in
    let apart = apart_names a jr db stands c.requires.journal_open c.requires.db_open (λ k. c.requires.two (sym k)) in
    λ exists u first told tame is_hot settled there kept same.
    let long = (c.requires.hot told).long in
    (open_exits c.short_is_cold.ensures c.now_is_image.ensures c.settled_stays.ensures c.older_images.ensures c.kept_image.ensures c.args.reserve u (file_at a jr) (file_at a db) (file_at b jr) (file_at b db)
    (record { settled = c.requires.settled told; orderly_j = orderly_now a (name_at a jr) told stands; there = long.there; sure = long.sure; tame = kept.tame settled.tame; orderly = orderly_now a (name_at a db) told stands })
    (left_at a b jr _ c.read_play.ensures.rests.opens c.read_play.ensures.leaves told)
    (stays_kept (with_reserve c.args.reserve u) (file_at a db) (file_at b db) (other_stays a b jr db (c.read_play.ensures.leaves.others told) c.read_play.ensures.rests.opens apart))).first exists first is_hot settled there kept same

pub returns-in-Some-clause-stood : goal.returns-in-Some-clause-stood
returns-in-Some-clause-stood g c =
    let state = g.V.Vfs.state in
    let a = state c.args.stack.now in
    let b = state c.read_play.new.stack in
    let e = state c.play_and_close.new.stack in
    let db = c.args.db.0 in
    let jr = c.args.journal.0 in
    let stands = c.view_holds.ensures.stands in
    let read = c.read_play.ensures in
    let apart = apart_names a jr db stands c.requires.journal_open c.requires.db_open (λ k. c.requires.two (sym k)) in
    λ exists u told was tame is_hot enough.
    let js : NoLooser (file_at a jr) (file_at b jr) = left_at a b jr NoLooser read.rests.opens read.leaves told in
    let ds : NoLooser (file_at a db) (file_at b db) = other_stays a b jr db (read.leaves.others told) read.rests.opens apart in
    let all = all_hot c.asked.ensures exists (file_at a jr).now.bytes u is_hot in
    let this : undo_of c.in-Some.found ≡ u = undo_is u _ c.in-Some.found c.in-Some.is (c.in_ok-found.ensures.read told u all (this_page c.args.page (file_at a jr) (file_at a db) u (c.requires.hot told) all)) in
    let P : Undo → Type 0 = λ v. Exits c.args.reserve v (file_at b jr) (file_at b db) (file_at e jr) (file_at e db) in
    let exits = subst P this (c.play_and_close.ensures.exits (told_next a b read.steady told) (ds.tame was) tame) in
    stood_stood exists c.args.reserve (file_at a jr) (file_at a db) (file_at b jr) (file_at b db) (file_at e jr) (file_at e db)
    (stays_stood_by c.older_images.ensures exists c.args.reserve (file_at a jr) (file_at a db) (file_at b jr) (file_at b db) js ds)
    (exits.stood exists (ap (λ f. hot exists f.bytes) js.now ∙ is_hot) (omega (arith, enough, (ds.stop was).floor_is)))

pub returns-in-Some-clause-first : goal.returns-in-Some-clause-first
returns-in-Some-clause-first g c =
    let state = g.V.Vfs.state in
    let a = state c.args.stack.now in
    let b = state c.read_play.new.stack in
    let e = state c.play_and_close.new.stack in
    let db = c.args.db.0 in
    let jr = c.args.journal.0 in
    let stands = c.view_holds.ensures.stands in
    let read = c.read_play.ensures in
    let apart = apart_names a jr db stands c.requires.journal_open c.requires.db_open (λ k. c.requires.two (sym k)) in
    λ exists u first told tame is_hot settled there kept same.
    let js : NoLooser (file_at a jr) (file_at b jr) = left_at a b jr NoLooser read.rests.opens read.leaves told in
    let ds : NoLooser (file_at a db) (file_at b db) = other_stays a b jr db (read.leaves.others told) read.rests.opens apart in
    let all = all_hot c.asked.ensures exists (file_at a jr).now.bytes u is_hot in
    let this : undo_of c.in-Some.found ≡ u = undo_is u _ c.in-Some.found c.in-Some.is (c.in_ok-found.ensures.read told u all (this_page c.args.page (file_at a jr) (file_at a db) u (c.requires.hot told) all)) in
    let P : Undo → Type 0 = λ v. Exits c.args.reserve v (file_at b jr) (file_at b db) (file_at e jr) (file_at e db) in
    let exits = subst P this (c.play_and_close.ensures.exits (told_next a b read.steady told) (ds.tame (kept.tame settled.tame)) tame) in
    exits.first exists first (ap (λ f. hot exists f.bytes) js.now ∙ is_hot) settled there
    (kept_kept (with_reserve c.args.reserve u) first (file_at a db) (file_at b db) kept (stays_kept (with_reserve c.args.reserve u) (file_at a db) (file_at b db) ds)) same

pub returns-in-Some-clause-shut : goal.returns-in-Some-clause-shut
returns-in-Some-clause-shut g c =
    let state = g.V.Vfs.state in
    on_ok c.play_and_close.result _ _ (λ h told. h (told_next (state c.args.stack.now) (state c.read_play.new.stack) c.read_play.ensures.steady told)) c.play_and_close.ensures.shut

pub returns-in-Some-clause-settled : goal.returns-in-Some-clause-settled
returns-in-Some-clause-settled g c =
    let state = g.V.Vfs.state in
    on_ok c.play_and_close.result _ _ (λ h told. h (told_next (state c.args.stack.now) (state c.read_play.new.stack) c.read_play.ensures.steady told)) c.play_and_close.ensures.settled

pub returns-in_err-found-clause-tame : goal.returns-in_err-found-clause-tame
returns-in_err-found-clause-tame g c =
    let state = g.V.Vfs.state in
    let a = state c.args.stack.now in
    let b = state c.read_play.new.stack in
    let db = c.args.db.0 in
    let jr = c.args.journal.0 in
    let stands = c.view_holds.ensures.stands in
    let read = c.read_play.ensures in
    let apart = apart_names a jr db stands c.requires.journal_open c.requires.db_open (λ k. c.requires.two (sym k)) in
    λ u told all sturdy. (other_stays a b jr db (read.leaves.others told) read.rests.opens apart).tame sturdy.tame

pub play_and_close-requires-clause-long : goal.play_and_close-requires-clause-long
play_and_close-requires-clause-long g c =
    let state = g.V.Vfs.state in
    let a = state c.args.stack.now in
    let b = state c.read_play.new.stack in
    let db = c.args.db.0 in
    let jr = c.args.journal.0 in
    let stands = c.view_holds.ensures.stands in
    let read = c.read_play.ensures in
    let apart = apart_names a jr db stands c.requires.journal_open c.requires.db_open (λ k. c.requires.two (sym k)) in
    λ told.
    let told0 = sym read.steady.tells ∙ told in
    let before = c.requires.hot told0 in
    let this : undo_of c.in-Some.found ≡ before.undo = undo_is before.undo _ c.in-Some.found c.in-Some.is (c.in_ok-found.ensures.read told0 before.undo before.is_hot before.page_is) in
    let P : Undo → Type 0 = λ v. IsLong v (file_at b db) in
    subst P (sym this) (looser_long before.undo (file_at a db) (file_at b db) before.long (other_stays a b jr db (read.leaves.others told0) read.rests.opens apart))

pub returns-in-Some-clause-tame : goal.returns-in-Some-clause-tame
returns-in-Some-clause-tame g c =
    let state = g.V.Vfs.state in
    let a = state c.args.stack.now in
    let b = state c.read_play.new.stack in
    let db = c.args.db.0 in
    let jr = c.args.journal.0 in
    let stands = c.view_holds.ensures.stands in
    let read = c.read_play.ensures in
    let apart = apart_names a jr db stands c.requires.journal_open c.requires.db_open (λ k. c.requires.two (sym k)) in
    let e = state c.play_and_close.new.stack in
    λ u told all sturdy.
    let ds : NoLooser (file_at a db) (file_at b db) = other_stays a b jr db (read.leaves.others told) read.rests.opens apart in
    let this : undo_of c.in-Some.found ≡ u = undo_is u _ c.in-Some.found c.in-Some.is (c.in_ok-found.ensures.read told u all (this_page c.args.page (file_at a jr) (file_at a db) u (c.requires.hot told) all)) in
    let P : Undo → Type 0 = λ v. IsSturdy b (name_at b db) (initial_size v) → (file_at e db).wild ≡ false in
    (subst P this (c.play_and_close.ensures.tame (told_next a b read.steady told))) (sturdy_next a b db (initial_size u) read.rests.opens ds sturdy)

pub returns-in-Some-clause-played : goal.returns-in-Some-clause-played
returns-in-Some-clause-played g c =
    let state = g.V.Vfs.state in
    let a = state c.args.stack.now in
    let b = state c.read_play.new.stack in
    let db = c.args.db.0 in
    let jr = c.args.journal.0 in
    let stands = c.view_holds.ensures.stands in
    let read = c.read_play.ensures in
    let apart = apart_names a jr db stands c.requires.journal_open c.requires.db_open (λ k. c.requires.two (sym k)) in
    let e = state c.play_and_close.new.stack in
    on_ok c.play_and_close.result _ _ (λ h u told all.
    let ds : NoLooser (file_at a db) (file_at b db) = other_stays a b jr db (read.leaves.others told) read.rests.opens apart in
    let this : undo_of c.in-Some.found ≡ u = undo_is u _ c.in-Some.found c.in-Some.is (c.in_ok-found.ensures.read told u all (this_page c.args.page (file_at a jr) (file_at a db) u (c.requires.hot told) all)) in
    let P : Undo → Type 0 = λ v. IsUndone (with_reserve c.args.reserve v) (file_at b db).now (file_at e db).now in
    let Q : Found → Type 0 = λ f. IsUndone (with_reserve c.args.reserve u) f (file_at e db).now in
    subst Q ds.now (subst P this (h (told_next a b read.steady told)))) c.play_and_close.ensures.played

pub returns-in-Some-clause-others : goal.returns-in-Some-clause-others
returns-in-Some-clause-others g c =
    let state = g.V.Vfs.state in
    let a = state c.args.stack.now in
    let b = state c.read_play.new.stack in
    let read = c.read_play.ensures in
    λ told. both_after c.looser_twice.ensures a b (state c.play_and_close.new.stack) c.args.db.0 c.args.journal.0 read.steady read.rests.opens (read.leaves.others told)
    (c.play_and_close.ensures.others (told_next a b read.steady told))

pub returns-in-None-clause-first : goal.returns-in-None-clause-first
returns-in-None-clause-first g c =
    let state = g.V.Vfs.state in
    let a = state c.args.stack.now in
    let db = c.args.db.0 in
    let jr = c.args.journal.0 in
    λ exists u first told tame is_hot settled there kept same.
    let all = all_hot c.asked.ensures exists (file_at a jr).now.bytes u is_hot in
    absurd (undo_none u _ c.in-None.is (c.in_ok-found.ensures.read told u all (this_page c.args.page (file_at a jr) (file_at a db) u (c.requires.hot told) all)))
