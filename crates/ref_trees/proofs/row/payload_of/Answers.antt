use Rattle.std.proofs.Common.{◌≡◌, ◌∙◌, ap, sym, subst, List, ℕ, ◌++◌, ◌-◌, length}
use Rattle.tree_model.specs.Walk.{Accepts}
use Rattle.ref_pages.specs.AsPages.{pages_of}
use Rattle.ref_trees.proofs.RowLemmas.{refused}
use Rattle.ref_trees.proofs.row.payload_of.Goals as goal

pub returns-in-Whole : goal.returns-in-Whole
returns-in-Whole c =
    let cell = c.args.cell.now in
    let whole = c.in_ok-whole-in-Whole.whole in
    let chain = rw c.in-Whole.is at c.in_ok-payload.ensures in
    let kept : c.as_slice-local.result.now ≡ cell.local = c.as_slice-local.ensures in
    let rest : c.as_slice.result.now ≡ c.in-Whole.payload = c.as_slice.ensures in
    let seen : c.as_slice-in-Whole.result.now ≡ whole = c.as_slice-in-Whole.ensures in
    let joined = c.in_ok-whole-in-Whole.ensures ∙ ap (λ (s : List ℕ). s ++ c.as_slice.result.now) kept ∙ ap (λ (s : List ℕ). cell.local ++ s) rest in
    let long = chain.1 ∙ ap (λ (s : List ℕ). cell.payload_len - length s) kept in
    let P : List ℕ → Type 0 = λ payload. Accepts c.args.columns payload in
    let none : ¬ (Accepts c.args.columns whole) = λ yes. let accepted = c.in_ok-accepts-in-Whole.ensures.1 (subst P (sym seen) yes) in let no = c.if-branch.false in cc in
    refused c.args.columns (pages_of c.args.pages.now) c.args.leaf cell c.in-Whole.numbers c.in-Whole.payload whole c.requires chain.0 long joined none
