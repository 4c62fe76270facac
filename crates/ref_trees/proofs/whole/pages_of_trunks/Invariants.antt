use Rattle.std.proofs.Common.{◌≡◌, take}
use Rattle.page_list.specs.Freelist.{free_pages}
use Rattle.ref_trees.proofs.whole.pages_of_trunks.Given as goal

-- the pages of the trunks so far
abbrev pub invariant-loop-trunk : goal.invariant-loop-trunk
invariant-loop-trunk l = l.free.items ≡ free_pages (take l.trunk-index l.trunks)
