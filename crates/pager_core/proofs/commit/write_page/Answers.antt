use Rattle.std.proofs.Common.{◌≡◌, ◌-◌, ◌*◌, ◌∙◌, ap, arith}
use Rattle.vfs_trait.specs.State.{file_at}
use Rattle.page_draft.specs.Draft.{now_pages}
use Rattle.pager_core.proofs.CommitLemmas.{laid_page, then}
use Rattle.pager_core.proofs.commit.write_page.Goals as goal

pub returns-in-Ok-clause-laid : goal.returns-in-Ok-clause-laid
returns-in-Ok-clause-laid g c =
    let a = g.V.Vfs.state c.args.stack.now in
    let b = g.V.Vfs.state c.write_at.new.stack in
    let fid = c.args.fid.0 in
    let at_is : c.from.result * c.from-in-Ok.result ≡ (c.args.number - 1) * c.args.pages.now.page_size =
    ap (λ n. n * c.from-in-Ok.result) c.from.ensures ∙ ap (λ n. (c.args.number - 1) * n) (c.from-in-Ok.ensures ∙ c.page_size.ensures) in
    then c.write_at.result c.write_at.ensures.wrote (λ wrote. λ told.
    laid_page c.args.pages.now.page_size c.args.number _ (now_pages c.args.pages.now) c.in-Ok.page.now (file_at a fid).now.bytes (file_at b fid).now.bytes
    c.requires.there.least at_is c.in-Ok.ensures.long c.in-Ok.ensures.bytes (omega (arith, at_is, c.requires.reach told)) (wrote told))
