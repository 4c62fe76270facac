use Rattle.std.proofs.Common.{inr}
use Rattle.std.proofs.lemmas.Result.{IfErr-weaker}
use Rattle.payload_chain.proofs.GiveLemmas.{stops-freeing}
use Rattle.payload_chain.proofs.free.free_chain.Goals as goal

pub returns-clause-refused : goal.returns-clause-refused
returns-clause-refused g c =
    let done = c.in_ok-numbers.ensures in
    IfErr-weaker c.give_pages.result _ _ (λ fault stops. inr (stops-freeing fault done.steady done.stays (rw c.deref.ensures.value done.pages) stops)) c.give_pages.ensures.refused
