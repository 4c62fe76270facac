use Rattle.std.proofs.Common.{◌≡◌, ◌*◌, ◌∙◌, take, ap, arith}
use Rattle.vfs_trait.specs.State.{file_at}
use Rattle.page_draft.specs.Draft.{now_pages}
use Rattle.pager_core.proofs.CommitLemmas.{then, whole_file}
use Rattle.pager_core.proofs.commit.write_file.Goals as goal

pub returns-clause-written : goal.returns-clause-written
returns-clause-written g c =
    let a = g.V.Vfs.state c.args.stack.now in
    let b = g.V.Vfs.state c.write_pages.new.stack in
    let d = g.V.Vfs.state c.cut_and_sync.new.stack in
    let fid = c.args.fid.0 in
    let size = c.args.pages.now.page_size in
    let pages = now_pages c.args.pages.now in
    let len : c.from.result * c.from-2.result ≡ pages.size * size =
    ap (λ n. n * c.from-2.result) (c.from.ensures ∙ c.size.ensures.value) ∙ ap (λ n. pages.size * n) (c.from-2.ensures ∙ c.page_size.ensures) in
    then c.cut_and_sync.result c.cut_and_sync.ensures.cut (λ cut. λ told.
    whole_file size pages (file_at a fid).now.bytes (file_at b fid).now.bytes (file_at d fid).now.bytes (omega (arith, c.size.ensures.sizes.size_of_page.least)) (c.in_ok-write_pages.ensures.laid told)
    (cut (c.write_pages.ensures.keeps.steady.tells ∙ told) ∙ ap (λ n. take n (file_at b fid).now.bytes) len))
