use Rattle.std.proofs.Common.{rules, ◌≡◌, Err, sym, ◌-◌, subst}
use Rattle.page_draft.specs.Slots.{shown}
use Rattle.page_draft.specs.Draft.{read_pages, with_last}
use Rattle.pager_core.proofs.StackLemmas.{name_stays}
use Rattle.page_draft.specs.declared.slot.ReadPage.{ReadPage}
use Rattle.page_draft.specs.declared.draft.PageDraft.{PageDraft}
use Rattle.vfs_trait.specs.State.{name_at}
use Rattle.pager_core.specs.Read.{ReadCause}
use Rattle.pager_core.proofs.ReadLemmas.{cause_earlier, none_read, one_more, looks_twice, still_open}
use Rattle.pager_core.proofs.read.read_pages.Goals as goal

pub loop-read-init : goal.loop-read-init
loop-read-init g c = none_read (g.V.Vfs.state c.args.stack.now) c.args.fid.0 c.args.page_size (c.args.page_size - c.args.reserved) c.new-pages.result c.requires.stands
    c.new-pages.ensures.page_size c.new-pages.ensures.usable c.new-pages.ensures.clean c.new-pages.ensures.empty

pub read_page-requires-clause-is_open : goal.read_page-requires-clause-is_open
read_page-requires-clause-is_open g c = still_open (g.V.Vfs.state c.args.stack.now) (g.V.Vfs.state c.loop-read.stack) c.args.fid.0 c.loop-read.invariant.looks.opens c.requires.is_open

pub returns-in_err-page-clause-cause : goal.returns-in_err-page-clause-cause
returns-in_err-page-clause-cause g c =
    let state = g.V.Vfs.state in
    let a = state c.args.stack.now in
    let b = state c.loop-read.stack in
    let d = state c.read_page.new.stack in
    let name = name_at a c.args.fid.0 in
    let is : c.from_residual.result ≡ Err c.in_err-page.field-0.0 = search rules in
    let cause : ReadCause {T = ReadPage} b d name c.args.page_size (Err c.in_err-page.field-0.0) =
    subst (λ n. ReadCause {T = ReadPage} b d n c.args.page_size (Err c.in_err-page.field-0.0)) (name_stays a b c.args.fid.0 c.loop-read.invariant.looks.opens) c.in_err-page.ensures.cause in
    subst (λ r. ReadCause a d name c.args.page_size r) (sym is)
    (cause_earlier ReadPage PageDraft a b d name c.args.page_size c.in_err-page.field-0.0 c.loop-read.invariant.looks.steady c.read_page.ensures.looks.steady (λ told. (c.loop-read.invariant.looks.leaves.file told).now) cause)

pub returns-in_err-push-clause-looks : goal.returns-in_err-push-clause-looks
returns-in_err-push-clause-looks g c =
    let state = g.V.Vfs.state in
    looks_twice c.looser_twice.ensures (state c.args.stack.now) (state c.loop-read.stack) (state c.read_page.new.stack) c.args.fid.0 c.loop-read.invariant.looks c.read_page.ensures.looks

pub loop-read-preserved : goal.loop-read-preserved
loop-read-preserved g c =
    let state = g.V.Vfs.state in
    let a = state c.args.stack.now in
    let b = state c.loop-read.stack in
    let d = state c.read_page.new.stack in
    let shown_page = shown c.args.page_size c.in_ok-page.page in
    one_more c.looser_twice.ensures a b d c.args.fid.0 c.args.page_size (c.args.page_size - c.args.reserved) c.loop-read.read c.loop-read.pages c.push.new.pages shown_page c.loop-read.invariant
    c.read_page.ensures.looks c.read_page.ensures.stands c.in_ok-page.ensures.page c.push.ensures.sizes c.push.ensures.clean
    (subst (λ n. read_pages c.push.new.pages ≡ with_last (shown n c.in_ok-page.page) (read_pages c.loop-read.pages)) c.loop-read.invariant.sized c.in_ok-push.ensures.pages)
