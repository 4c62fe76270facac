use Rattle.std.proofs.Common.{inr}
use Rattle.std.proofs.lemmas.Result.{IfErr-weaker, on_ok_weaker}
use Rattle.tree_free.proofs.FoundLemmas.{tree_freed, tree_changed, tree_stops}
use Rattle.tree_free.proofs.free.free_tree.Goals as goal

pub returns-clause-freed : goal.returns-clause-freed
returns-clause-freed g c =
    let done = c.in_ok-numbers.ensures in
    on_ok_weaker c.give_pages.result (λ gave. tree_freed done.steady done.stays (rw c.deref.ensures.value done.found) gave) c.give_pages.ensures.gave

pub returns-clause-refused : goal.returns-clause-refused
returns-clause-refused g c =
    let done = c.in_ok-numbers.ensures in
    IfErr-weaker c.give_pages.result _ _ (λ fault stops. inr (tree_stops fault done.steady done.stays (rw c.deref.ensures.value done.found) stops)) c.give_pages.ensures.refused

pub returns-clause-changed : goal.returns-clause-changed
returns-clause-changed g c =
    let done = c.in_ok-numbers.ensures in
    on_ok_weaker c.give_pages.result (λ gave. tree_changed (g.S.PageSpace.state c.args.space.now) c.args.root (rw c.deref.ensures.value done.found) gave) c.give_pages.ensures.gave
