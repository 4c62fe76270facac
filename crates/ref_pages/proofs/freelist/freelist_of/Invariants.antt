use Rattle.std.proofs.Common.{◌+◌, ◌-◌, length}
use Rattle.ref_pages.specs.AsPages.{pages_of}
use Rattle.ref_pages.proofs.FreeLemmas.{OnWay}
use Rattle.ref_pages.proofs.freelist.freelist_of.Given as goal

-- the trunks so far, whose pages were met
abbrev pub invariant-loop-next : goal.invariant-loop-next
invariant-loop-next l = OnWay (pages_of l.pages) l.trunks.items l.met.items l.next

-- no page is met twice, so there are so many more at most
abbrev pub decreases-loop-next : goal.decreases-loop-next
decreases-loop-next l = (pages_of l.pages).size + 1 - length l.met.items
