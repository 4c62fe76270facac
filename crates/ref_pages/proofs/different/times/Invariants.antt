use Rattle.std.proofs.Common.{◌≡◌, ◌≤◌, take}
use Rattle.page_list.specs.Pages.{times}
use Rattle.ref_pages.proofs.different.times.Given as goal

pub record Counted (is within : Type 0) : Type 0 where
  pub counted : is
  pub bounded : within

-- how often it stands among those so far
abbrev pub invariant-loop-other : goal.invariant-loop-other
invariant-loop-other l = Counted (l.count ≡ times l.number (take l.other-index l.numbers)) (l.count ≤ l.other-index)
