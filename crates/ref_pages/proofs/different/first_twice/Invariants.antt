use Rattle.std.proofs.Common.{ℕ, ◌≤◌, ◌<◌, get_or}
use Rattle.page_list.specs.Pages.{times}
use Rattle.ref_pages.proofs.different.first_twice.Given as goal

-- none so far stands there twice
abbrev pub invariant-loop-number : goal.invariant-loop-number
invariant-loop-number l = (k : ℕ) → k < l.number-index → times (get_or l.numbers k 0) l.numbers ≤ 1
