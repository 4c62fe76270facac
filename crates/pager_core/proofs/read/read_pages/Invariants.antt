use Rattle.std.proofs.Common.{◌-◌}
use Rattle.pager_core.proofs.ReadLemmas.{HaveRead}
use Rattle.pager_core.proofs.read.read_pages.Given as goal

abbrev pub invariant-loop-read : goal.invariant-loop-read
invariant-loop-read g l = HaveRead (g.V.Vfs.state l.fn.stack) (g.V.Vfs.state l.stack) l.fid.0 l.page_size (l.page_size - l.reserved) l.read l.pages
