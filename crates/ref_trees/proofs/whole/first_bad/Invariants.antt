use Rattle.std.proofs.Common.{ℕ, ◌<◌, get_or}
use Rattle.page_list.specs.Pages.{IsGood}
use Rattle.ref_pages.specs.AsPages.{pages_of}
use Rattle.ref_trees.proofs.whole.first_bad.Given as goal

-- those so far are good
abbrev pub invariant-loop-number : goal.invariant-loop-number
invariant-loop-number l = (k : ℕ) → k < l.number-index → IsGood (pages_of l.pages) (get_or l.numbers k 0)
