use Rattle.std.proofs.Common.{◌∙◌}
use Rattle.vfs_trait.specs.State.{file_at}
use Rattle.page_draft.specs.Draft.{now_pages}
use Rattle.pager_core.proofs.CommitLemmas.{keeps_twice, laid_next}
use Rattle.pager_core.proofs.commit.write_pages.Goals as goal

pub loop-place-preserved : goal.loop-place-preserved
loop-place-preserved g c =
    let a = g.V.Vfs.state c.args.stack.now in
    let b = g.V.Vfs.state c.loop-place.stack in
    let d = g.V.Vfs.state c.write_page.new.stack in
    let fid = c.args.fid.0 in
    let before = c.loop-place.invariant in
    record {
      keeps = keeps_twice c.looser_twice.ensures a b d fid before.keeps c.write_page.ensures.keeps;
      laid = λ told. laid_next c.args.pages.now.page_size c.loop-place.place (now_pages c.args.pages.now) (file_at a fid).now.bytes (file_at b fid).now.bytes (file_at d fid).now.bytes
          (before.laid told) (c.in_ok-write_page.ensures.laid (before.keeps.steady.tells ∙ told));
    }
