use Rattle.std.proofs.Common.{ℕ, ◌≤◌, ◌<◌, get_or}
use Rattle.page_list.specs.Pages.{HasPage}
use Rattle.ref_pages.specs.AsPages.{pages_of}
use Rattle.ref_pages.proofs.freelist.may_be_free.Given as goal

-- those so far may be free
abbrev pub invariant-loop-number : goal.invariant-loop-number
invariant-loop-number l = (k : ℕ) → k < l.number-index → HasPage (pages_of l.pages) (get_or l.numbers k 0) × (2 ≤ get_or l.numbers k 0)
