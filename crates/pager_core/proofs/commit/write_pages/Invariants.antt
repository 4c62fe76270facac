use Rattle.page_draft.specs.Draft.{now_pages}
use Rattle.pager_core.proofs.CommitLemmas.{HasLaidSoFar}
use Rattle.pager_core.proofs.commit.write_pages.Given as goal

abbrev pub invariant-loop-place : goal.invariant-loop-place
invariant-loop-place g l = HasLaidSoFar l.pages.page_size l.place (now_pages l.pages) (g.V.Vfs.state l.fn.stack) (g.V.Vfs.state l.stack) l.fid.0
