use Rattle.std.proofs.Common.{IsTrue, inl, sym, ◌∙◌, subst, List, ℕ}
use Rattle.vfs_trait.specs.State.{file_at, name_at}
use Rattle.journal_format.specs.Values.{undo_of_plan}
use Rattle.journal_file.specs.Steps.{IsShut}
use Rattle.journal_file.proofs.StackLemmas.{told_next, orderly_now}
use Rattle.journal_file.proofs.RollbackLemmas.{on_ok}
use Rattle.journal_file.proofs.ByNameLemmas.{IsBeside, IsOver, free_stays, is_beside, beside_open, beside_named, ready_stays, is_over, opens_same, either_over, after_over, cold_before, undone_over, undone_from}
use Rattle.journal_file.proofs.by_name.commit_named.Goals as goal

pub returns-in_err-journal-clause-either : goal.returns-in_err-journal-clause-either
returns-in_err-journal-clause-either g c =
    let state = g.V.Vfs.state in
    let a = state c.args.stack.now in
    let b = state c.prepare.new.stack in
    let db = c.args.db.0 in
    let name = c.args.name.now in
    λ exists after told tame counts is i e ij id. inl (cold_before c.cold_stands.ensures exists c.args.reserve (undo_of_plan c.args.plan.now) (b.files name) (file_at a db) (file_at b db)
    (c.prepare.ensures.cold told) (c.requires.ready told) (free_stays a b db name c.requires.free c.requires.db_open (c.in_err-journal.ensures.numbers.names db) (c.prepare.ensures.others told))
    (orderly_now b (name_at b db) (told_next a b c.prepare.ensures.steady told) c.prepare.ensures.stands) i e ij id)

pub commit_pages-done-requires-clause-shut : goal.commit_pages-done-requires-clause-shut
commit_pages-done-requires-clause-shut g c =
    let state = g.V.Vfs.state in
    let a = state c.args.stack.now in
    let b = state c.prepare.new.stack in
    let db = c.args.db.0 in
    let jr = c.in_ok-journal.journal.0 in
    let name = c.args.name.now in
    let beside : IsBeside a b db jr name = is_beside a b db jr name c.requires.free c.requires.db_open c.in_ok-journal.ensures.numbers c.prepare.ensures.others in
    let P : List ℕ → Type 0 = λ n. IsShut (b.files n) in
    λ told. subst P (sym (beside_named a b db jr name beside)) (c.in_ok-journal.ensures.shut (sym c.prepare.ensures.steady.tells ∙ told))

pub commit_pages-done-requires-clause-ready : goal.commit_pages-done-requires-clause-ready
commit_pages-done-requires-clause-ready g c =
    let state = g.V.Vfs.state in
    let a = state c.args.stack.now in
    let b = state c.prepare.new.stack in
    let db = c.args.db.0 in
    let jr = c.in_ok-journal.journal.0 in
    let name = c.args.name.now in
    let beside : IsBeside a b db jr name = is_beside a b db jr name c.requires.free c.requires.db_open c.in_ok-journal.ensures.numbers c.prepare.ensures.others in
    λ told.
    let told0 = sym c.prepare.ensures.steady.tells ∙ told in
    ready_stays c.args.reserve (undo_of_plan c.args.plan.now) (file_at a db) (file_at b db) (beside.stays told0) (c.requires.ready told0)

pub returns-clause-opens : goal.returns-clause-opens
returns-clause-opens g c =
    let state = g.V.Vfs.state in
    opens_same (state c.args.stack.now) (state c.prepare.new.stack) (state c.commit_pages-done.new.stack) (state c.close.new.self) c.in_ok-journal.journal.0 c.args.name.now
    c.in_ok-journal.ensures.numbers c.commit_pages-done.ensures.opens c.close.ensures.closes

pub returns-clause-either : goal.returns-clause-either
returns-clause-either g c =
    let state = g.V.Vfs.state in
    let a = state c.args.stack.now in
    let b = state c.prepare.new.stack in
    let d = state c.commit_pages-done.new.stack in
    let e = state c.close.new.self in
    let db = c.args.db.0 in
    let jr = c.in_ok-journal.journal.0 in
    let name = c.args.name.now in
    let beside : IsBeside a b db jr name = is_beside a b db jr name c.requires.free c.requires.db_open c.in_ok-journal.ensures.numbers c.prepare.ensures.others in
    λ exists after told tame counts is.
    let told_b : IsTrue b.tells = told_next a b c.prepare.ensures.steady told in
    let over : IsOver d e db jr name = is_over c.never_wild.ensures.journals a b d e db jr name beside (beside_open a b db jr name beside c.requires.db_open) c.requires.is_journal c.commit_pages-done.ensures.opens c.commit_pages-done.ensures.stands
    c.close.ensures.closes c.close.ensures.leaves (told_next b d c.commit_pages-done.ensures.steady told_b) in
    either_over c.older_images.ensures exists c.args.reserve (file_at d jr) (e.files name) (file_at d db) (file_at e db) (file_at a db).now (file_at b db).now after over.of_journal over.of_db (beside.stays told).now
    (c.commit_pages-done.ensures.either exists after told_b (over.of_db.was_tame tame) counts (undone_from _ (file_at a db) (file_at b db) after (beside.stays told) is))

pub returns-clause-after : goal.returns-clause-after
returns-clause-after g c =
    let state = g.V.Vfs.state in
    let a = state c.args.stack.now in
    let b = state c.prepare.new.stack in
    let d = state c.commit_pages-done.new.stack in
    let e = state c.close.new.self in
    let db = c.args.db.0 in
    let jr = c.in_ok-journal.journal.0 in
    let name = c.args.name.now in
    let beside : IsBeside a b db jr name = is_beside a b db jr name c.requires.free c.requires.db_open c.in_ok-journal.ensures.numbers c.prepare.ensures.others in
    on_ok c.commit_pages-done.result _ _ (λ h exists told tame.
    let told_b : IsTrue b.tells = told_next a b c.prepare.ensures.steady told in
    let over : IsOver d e db jr name = is_over c.never_wild.ensures.journals a b d e db jr name beside (beside_open a b db jr name beside c.requires.db_open) c.requires.is_journal c.commit_pages-done.ensures.opens c.commit_pages-done.ensures.stands
    c.close.ensures.closes c.close.ensures.leaves (told_next b d c.commit_pages-done.ensures.steady told_b) in
    after_over c.older_images.ensures exists c.args.reserve (file_at d jr) (e.files name) (file_at d db) (file_at e db) over.of_journal over.of_db (h exists told_b (over.of_db.was_tame tame))) c.commit_pages-done.ensures.after

pub returns-clause-written : goal.returns-clause-written
returns-clause-written g c =
    let state = g.V.Vfs.state in
    let a = state c.args.stack.now in
    let b = state c.prepare.new.stack in
    let d = state c.commit_pages-done.new.stack in
    let e = state c.close.new.self in
    let db = c.args.db.0 in
    let jr = c.in_ok-journal.journal.0 in
    let name = c.args.name.now in
    let beside : IsBeside a b db jr name = is_beside a b db jr name c.requires.free c.requires.db_open c.in_ok-journal.ensures.numbers c.prepare.ensures.others in
    on_ok c.commit_pages-done.result _ _ (λ h told.
    let told_b : IsTrue b.tells = told_next a b c.prepare.ensures.steady told in
    let over : IsOver d e db jr name = is_over c.never_wild.ensures.journals a b d e db jr name beside (beside_open a b db jr name beside c.requires.db_open) c.requires.is_journal c.commit_pages-done.ensures.opens c.commit_pages-done.ensures.stands
    c.close.ensures.closes c.close.ensures.leaves (told_next b d c.commit_pages-done.ensures.steady told_b) in
    undone_over _ (file_at a db) (file_at b db) (file_at d db) (file_at e db) (beside.stays told) over.of_db (h told_b)) c.commit_pages-done.ensures.written
