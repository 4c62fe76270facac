use Rattle.std.proofs.Common.{◌≡◌, ℕ, ◌+◌, length, ap, subst, arith, inl, inr, List}
use Rattle.ref_pages.specs.AsPages.{pages_of, ChainEnds}
use Rattle.ref_pages.specs.declared.chain.ChainEnd.{ChainEnd}
use Rattle.ref_trees.proofs.TreeRowLemmas.{no_row_broken, no_row_failing}
use Rattle.ref_trees.proofs.tree_rows.row_of.Goals as goal

pub returns-in-Breaks : goal.returns-in-Breaks
returns-in-Breaks c =
    let cell = c.args.cell.now in
    let len : c.in-Some.len + length cell.local ≡ cell.payload_len = omega (arith, c.in-Some.ensures.0, c.in-Some.ensures.1, ap (λ (l : List ℕ). length l) c.as_slice-local.ensures) in
    let P : ChainEnd → Type 0 = λ end. ChainEnds (pages_of c.args.pages.now) cell.overflow c.in-Some.len end in
    elim c.in-Breaks.is [
      | inl b ↦ record { found = tt; none = no_row_broken c.one_chain.ensures _ cell c.in-Some.len b.0 len (subst P b.1 c.in_ok-numbers.ensures) }
      | inr f ↦ record { found = tt; none = no_row_failing c.one_chain.ensures _ cell c.in-Some.len f.0 f.1 len (subst P f.2 c.in_ok-numbers.ensures) }
    ]
