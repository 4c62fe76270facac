use Rattle.std.proofs.Common.{◌≡◌, ℕ, ◌∙◌, List, Result, Ok, Err, ap, sym, subst}
use Rattle.std.proofs.lemmas.Bool.{false≢true}
use Rattle.std.specs.Result.{IsErr, IsErrAnd}
use Rattle.vfs_model.specs.Lock.{Lowers}
use Rattle.vfs_model.specs.declared.level.Level.{Level}
use Rattle.vfs_model.specs.declared.level.Level.TheVariants.{Free}
use Rattle.vfs_trait.specs.State.{file_at}
use Rattle.page_list.specs.Pages.{Pages}
use Rattle.page_draft.specs.Draft.{now_pages, read_pages}
use Rattle.pager_core.specs.Commit.{CommitFiles, IsCommitted}
use Rattle.pager_core.specs.declared.fault.PagerFault.{PagerFault}
use Rattle.pager_core.proofs.CommitLemmas.{failed_files, others_after_files, files_after_others, committed, same_file, file_stays, synced_stays}
use Rattle.pager_core.proofs.LevelLemmas.{raised_and_lowered, owner_holds, own_seen}
use Rattle.pager_core.proofs.pager.Pager.commit_draft.Goals as goal

same_fault : (r : Result Unit PagerFault) (fault : PagerFault) → IsErr r → IsErrAnd r (λ e. e ≡ fault) → r ≡ Err fault
same_fault (Ok x) fault is same = absurd (false≢true is)
same_fault (Err e) fault is same = ap Err same

pub returns-in_err-write_all-clause-files : goal.returns-in_err-write_all-clause-files
returns-in_err-write_all-clause-files g c =
    let a = g.V.Vfs.state c.args.stack.now in
    let b = g.V.Vfs.state c.ask_alone.new.stack in
    let d = g.V.Vfs.state c.write_all.new.stack in
    let fid = c.args.self.now.fid.0 in
    let fault = c.in_err-write_all.field-0.0 in
    let ask = c.ask_alone.ensures in
    let is : c.from_residual-in_err-write_all.result ≡ Err fault = same_fault _ fault c.from_residual-in_err-write_all.ensures.0 c.from_residual-in_err-write_all.ensures.1 in
    subst (CommitFiles a d fid) (sym is)
    (failed_files a b d fid fault c.in_err-write_all.ensures.cause (others_after_files c.looser_twice.ensures a b d fid ask.steady ask.opens ask.files c.write_all.ensures.keeps.others))

pub returns-clause-left : goal.returns-clause-left
returns-clause-left g c =
    let old = c.args.self.now in
    let size = old.pages.page_size in
    let new = c.finish.new.self in
    let same = c.write_all.ensures.same in
    let end = c.finish.ensures.same in
    let P : Pages → Type 0 = λ seen. IsCommitted size seen (read_pages new.pages) in
    record {
      same = record { named = end.named ∙ same.named; numbered = end.numbered ∙ same.numbered; sized = end.sized ∙ same.sized; used = end.used ∙ same.used };
      pages = subst P (sym (own_seen old c.args.who c.requires.owned)) (committed size (now_pages old.pages) (read_pages new.pages) _ c.in_ok-first.ensures.next (c.finish.ensures.kept ∙ c.in_ok-write_all.ensures.put));
      owner = c.finish.ensures.owner;
      clean = c.finish.ensures.clean;
    }

pub returns-clause-levels : goal.returns-clause-levels
returns-clause-levels g c =
    let a = g.V.Vfs.state c.args.stack.now in
    let b = g.V.Vfs.state c.ask_alone.new.stack in
    let d = g.V.Vfs.state c.write_all.new.stack in
    let e = g.V.Vfs.state c.finish.new.stack in
    let fid = c.args.self.now.fid.0 in
    let who = c.args.who in
    let keeps = c.write_all.ensures.keeps in
    let number : c.write_all.new.self.fid.0 ≡ fid = ap (λ fid. fid.0) c.write_all.ensures.same.numbered in
    let P : ℕ → Type 0 = λ k. Lowers (d.levels k) (e.levels k) who Free in
    let Q : List Level → Type 0 = λ levels. Lowers levels (e.levels fid) who Free in (
      raised_and_lowered (a.levels fid) (b.levels fid) (e.levels fid) who (owner_holds c.args.self.now (a.levels fid) who c.requires.owned c.requires.fits.owned)
          c.in_ok-ask_alone.ensures.rule.0 (subst Q (keeps.levels.each fid) (subst P number c.finish.ensures.levels.0)),
      λ other differs. c.finish.ensures.levels.1 other (λ is. differs (is ∙ number)) ∙ keeps.levels.each other ∙ c.in_ok-ask_alone.ensures.rule.1 other differs,
    )

pub returns-clause-files : goal.returns-clause-files
returns-clause-files g c =
    let a = g.V.Vfs.state c.args.stack.now in
    let b = g.V.Vfs.state c.ask_alone.new.stack in
    let d = g.V.Vfs.state c.write_all.new.stack in
    let e = g.V.Vfs.state c.finish.new.stack in
    let fid = c.args.self.now.fid.0 in
    let ask = c.ask_alone.ensures in
    let keeps = c.write_all.ensures.keeps in
    files_after_others c.looser_twice.ensures a d e fid (c.kept_twice.ensures.steady a b d ask.steady keeps.steady)
    (others_after_files c.looser_twice.ensures a b d fid ask.steady ask.opens ask.files keeps.others) c.finish.ensures.files

pub returns-clause-written : goal.returns-clause-written
returns-clause-written g c = λ told.
    let d = g.V.Vfs.state c.write_all.new.stack in
    let e = g.V.Vfs.state c.finish.new.stack in
    let fid = c.args.self.now.fid.0 in
    let asked = c.ask_alone.ensures.steady.tells ∙ told in
    let wrote = c.write_all.ensures.keeps.steady.tells ∙ asked in
    same_file c.args.self.now.pages.page_size (file_at d fid).now.bytes (file_at e fid).now.bytes (now_pages c.write_all.new.self.pages) (read_pages c.finish.new.self.pages)
    (ap (λ found. found.bytes) (file_stays d e fid c.finish.ensures.opens c.finish.ensures.files wrote)) c.finish.ensures.kept (c.in_ok-write_all.ensures.written asked)

pub returns-clause-synced : goal.returns-clause-synced
returns-clause-synced g c = λ told.
    let d = g.V.Vfs.state c.write_all.new.stack in
    let e = g.V.Vfs.state c.finish.new.stack in
    let asked = c.ask_alone.ensures.steady.tells ∙ told in
    synced_stays d e c.args.self.now.fid.0 c.finish.ensures.opens c.finish.ensures.files (c.write_all.ensures.keeps.steady.tells ∙ asked) (c.in_ok-write_all.ensures.synced asked)
