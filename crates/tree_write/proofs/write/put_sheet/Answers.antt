use Rattle.std.proofs.Common.{◌≡◌, length, subst, ℕ, arith}
use Rattle.tree_page.specs.Page.{IsPage}
use Rattle.tree_write.proofs.WriteLemmas.{filled, put-leaves}
use Rattle.tree_write.proofs.write.put_sheet.Goals as goal

pub returns-clause-leaves : goal.returns-clause-leaves
returns-clause-leaves g c =
    let old = g.S.PageSpace.state c.args.space.now in
    let sheet = c.args.sheet.now in
    let after = c.write_page.new.page in
    let long : length after ≡ length c.args.page.now = grind arith in
    let R : ℕ → Type 0 = λ u. IsPage after sheet.number u sheet.cells in
    put-leaves old (g.S.PageSpace.state c.put_cleared.new.space) sheet _ c.put_cleared.result c.requires.may
    (λ t. filled old sheet c.args.page.now after c.requires.sizes t c.requires.may c.requires.one_page (λ one. c.requires.header one t) long
    (subst R c.usable.ensures.value c.write_page.ensures.reads) c.write_page.ensures.front) c.put_cleared.ensures.leaves
