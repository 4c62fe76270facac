use Rattle.std.proofs.Common.{ℕ, ap, ◌≡◌, ◌∙◌, Err, subst, rules, arith}
use Rattle.tree_page.specs.Page.{IsPage}
use Rattle.tree_page.specs.declared.cell.PageCells.{PageCells}
use Rattle.page_list.specs.Pages.{HasPage, IsGood}
use Rattle.tree_search.proofs.PageLemmas.{is_malformed}
use Rattle.tree_search.proofs.page.enter.Goals as goal

pub returns-in-Err-Corrupt-clause-refused : goal.returns-in-Err-Corrupt-clause-refused
returns-in-Err-Corrupt-clause-refused g c = λ told.
    let pages = (g.S.PageSpace.state c.args.space.now).pages in
    let P : ℕ → Type 0 = λ usable. (cells : PageCells) → ¬ (IsPage c.get.new.into c.args.number usable cells) in
    let used : c.usable.result ≡ pages.usable = c.usable.ensures.value ∙ c.in_ok-get.ensures.steady.used in
    let none = subst P used (c.in-Err-Corrupt.ensures.corrupt (ap (λ fault. Err fault) c.in-Err-Corrupt.field-0-is)) in
    let there : HasPage pages c.args.number = search rules in
    let good : IsGood pages c.args.number = c.in_ok-get.ensures.cause told in
    is_malformed pages c.args.left c.args.above c.args.number c.get.new.into there (omega arith) good (c.in_ok-get.ensures.page told) none
