use Rattle.std.proofs.Common.{arith, refl, sym, ◌∙◌, ap}
use Rattle.vfs_model.specs.File.{FileState}
use Rattle.vfs_model.specs.Effect.{NoLooser}
use Rattle.mem_vfs.specs.Failing.{mem_state}
use Rattle.journal_format.specs.Values.{all_paged, undo_of_plan}
use Rattle.journal_file.specs.Commit.{IsReady}
use Rattle.journal_file.proofs.ExitLemmas.{settled_looser}
use Rattle.journal_file_tests.proofs.DeviceLemmas.{two_kinds, settled_but, found_stays, opened_file}
use Rattle.journal_file_tests.proofs.ReadyLemmas.{are_pages, plan_ready}
use Rattle.journal_file_tests.proofs.commits.commit.Goals as goal

pub commit_named-done-requires-clause-settled : goal.commit_named-done-requires-clause-settled
commit_named-done-requires-clause-settled c =
    let journal = c.args.names.now.journal in
    λ told. settled_but ((mem_state c.args.device.now).files journal) ((mem_state c.open.new.self).files journal) (c.requires.settled.each journal)
    ((c.open.ensures.leaves.others refl).each journal (two_kinds c.args.names.now.main journal c.requires.main c.requires.journal))

pub commit_named-done-requires-clause-pages : goal.commit_named-done-requires-clause-pages
commit_named-done-requires-clause-pages c =
    are_pages c.in_ok-plan.plan.page (all_paged c.in_ok-pages.pages) c.deref.result.now c.in_ok-plan.ensures.page c.in_ok-pages.ensures (omega (arith, c.deref.ensures.len, c.if-len-ne1024.false))

pub commit_named-done-requires-clause-ready : goal.commit_named-done-requires-clause-ready
commit_named-done-requires-clause-ready c =
    let a = mem_state c.args.device.now in
    let b = mem_state c.open.new.self in
    let main = c.args.names.now.main in
    let plan = c.in_ok-plan.plan in
    let P : FileState → Type 0 = λ s. IsReady 0 (undo_of_plan plan) s in
    let stays : NoLooser (a.files main) (b.files main) = found_stays (a.files main) (b.files main) c.in-Some.ensures.0 (c.requires.settled.each main) (c.in-Ok.ensures.leaves.file refl) in
    λ told. opened_file c.args.device.now c.open.new.self main c.in-Ok.db.0 P c.in-Ok.ensures.numbers
    (plan_ready c.same_laid.ensures plan.page plan.initial (all_paged plan.originals) plan.super_name (b.files main) c.in-Some.file.now c.in_ok-plan.ensures.page c.in_ok-plan.ensures.initial c.in_ok-plan.ensures.originals
    (c.in-Some.ensures.1 ∙ sym (ap (λ f. f.bytes) stays.now)) (omega (arith, c.if-file-ne1024.false)) ((c.open.ensures.stands.sound refl).unmarked main tt)
    (settled_looser (a.files main) (b.files main) (c.requires.settled.each main) stays) (ap (λ f. f.there) stays.now ∙ c.in-Some.ensures.0))
