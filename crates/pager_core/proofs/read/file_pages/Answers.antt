use Rattle.std.proofs.Common.{rules, arith, ◌≡◌, Err, sym, subst}
use Rattle.vfs_trait.specs.State.{name_at}
use Rattle.page_draft.specs.Draft.{read_pages}
use Rattle.page_draft.specs.declared.draft.PageDraft.{PageDraft}
use Rattle.pager_core.specs.Read.{ReadCause}
use Rattle.pager_core.proofs.ReadLemmas.{looks_twice, later_cause, first_bad, all_read}
use Rattle.pager_core.proofs.read.file_pages.Goals as goal

pub returns-in_err-pages-clause-cause : goal.returns-in_err-pages-clause-cause
returns-in_err-pages-clause-cause g c =
    let state = g.V.Vfs.state in
    let a = state c.args.stack.now in
    let b = state c.page_count.new.stack in
    let d = state c.read_pages.new.stack in
    let is : c.from_residual-in_err-pages.result ≡ Err c.in_err-pages.field-0.0 = search rules in
    subst (λ r. ReadCause a d (name_at a c.args.fid.0) c.args.page_size r) (sym is)
    (later_cause PageDraft PageDraft a b d c.args.fid.0 c.args.page_size c.in_err-pages.field-0.0 c.page_count.ensures.looks c.read_pages.ensures.looks.steady c.in_err-pages.ensures.cause)

pub returns-in_err-look_at_first-clause-looks : goal.returns-in_err-look_at_first-clause-looks
returns-in_err-look_at_first-clause-looks g c =
    let state = g.V.Vfs.state in
    looks_twice c.looser_twice.ensures (state c.args.stack.now) (state c.page_count.new.stack) (state c.read_pages.new.stack) c.args.fid.0 c.page_count.ensures.looks c.read_pages.ensures.looks

pub returns-in_err-look_at_first-clause-cause : goal.returns-in_err-look_at_first-clause-cause
returns-in_err-look_at_first-clause-cause g c =
    let state = g.V.Vfs.state in
    let a = state c.args.stack.now in
    let b = state c.page_count.new.stack in
    let d = state c.read_pages.new.stack in
    let fault = c.in_err-look_at_first.field-0.0 in
    let is : c.from_residual-in_err-look_at_first.result ≡ Err fault = search rules in
    subst (λ r. ReadCause a d (name_at a c.args.fid.0) c.args.page_size r) (sym is)
    (later_cause PageDraft PageDraft a b d c.args.fid.0 c.args.page_size fault c.page_count.ensures.looks c.read_pages.ensures.looks.steady
    (first_bad PageDraft b d (name_at b c.args.fid.0) c.args.page_size (read_pages c.in_ok-pages.pages) fault c.in_ok-pages.ensures.pages c.in_err-look_at_first.ensures.there c.in_err-look_at_first.ensures.bad))

pub returns-clause-looks : goal.returns-clause-looks
returns-clause-looks g c =
    let state = g.V.Vfs.state in
    looks_twice c.looser_twice.ensures (state c.args.stack.now) (state c.page_count.new.stack) (state c.read_pages.new.stack) c.args.fid.0 c.page_count.ensures.looks c.read_pages.ensures.looks

pub returns-clause-from : goal.returns-clause-from
returns-clause-from g c =
    let state = g.V.Vfs.state in
    all_read (state c.args.stack.now) (state c.page_count.new.stack) c.args.fid.0 c.args.page_size c.in_ok-count.count (read_pages c.in_ok-pages.pages) c.page_count.ensures.looks (omega (arith, c.requires.size.least))
    c.in_ok-count.ensures.value c.in_ok-pages.ensures.count c.in_ok-pages.ensures.pages
