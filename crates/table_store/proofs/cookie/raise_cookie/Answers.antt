use Rattle.std.proofs.Common.{◌≡◌, List, ℕ, IsTrue, arith}
use Rattle.std.proofs.lemmas.Grind.{common_steps}
use Rattle.byte_base.specs.Numbers.{number_at, with_number}
use Rattle.table_store.specs.Cookie.{next_cookie}
use Rattle.table_store.proofs.CookieLemmas.{cookie_raised}
use Rattle.table_store.proofs.cookie.raise_cookie.Goals as goal

pub returns-clause-raised : goal.returns-clause-raised
returns-clause-raised g c =
    let state = g.S.PageSpace.state in
    let page : List ℕ = c.deref.result.now in
    let bytes : List ℕ = c.deref_mut-3.result.now in
    let raised : bytes ≡ with_number 4 40 (next_cookie (number_at 4 page 40)) page = grind (arith, common_steps) in
    let is : IsTrue (state c.args.space.now).tells → page ≡ (state c.args.space.now).pages.bytes 1 = λ t. grind (arith, common_steps) in
    cookie_raised (state c.args.space.now) (state c.get.new.self) (state c.put_cleared.new.space) page bytes c.put_cleared.result c.requires.some c.in_ok-get.ensures.steady
    c.in_ok-get.ensures.stays c.in_ok-get.ensures.cause is raised c.put_cleared.ensures.leaves
