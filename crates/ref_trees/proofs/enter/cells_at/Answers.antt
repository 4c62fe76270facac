use Rattle.std.proofs.Common.{ℕ, ap, Err, sym, subst, ◌∙◌, arith}
use Rattle.tree_page.specs.Page.{IsPage}
use Rattle.tree_page.specs.declared.cell.PageCells.{PageCells}
use Rattle.ref_pages.specs.AsPages.{pages_of}
use Rattle.ref_trees.proofs.EnterLemmas.{is_malformed, is_good}
use Rattle.ref_trees.proofs.enter.cells_at.Goals as goal

pub returns-in-Err-Corrupt : goal.returns-in-Err-Corrupt
returns-in-Err-Corrupt c =
    let pages = pages_of c.args.pages.now in
    let bytes = c.in-Some.bytes.now in
    let P : ℕ → Type 0 = λ usable. (cells : PageCells) → ¬ (IsPage bytes c.args.number usable cells) in
    let none = subst P c.usable.ensures.is (c.in-Err-Corrupt.ensures.corrupt (ap (λ fault. Err fault) c.in-Err-Corrupt.field-0-is)) in
    let good = sym c.mark_of.ensures ∙ is_good c.mark_of.result (sym c.is_some.ensures ∙ c.if-is_some.false) in
    is_malformed pages c.args.left c.args.above c.args.number bytes c.in-Some.ensures.there (omega arith) good c.in-Some.ensures.is none
