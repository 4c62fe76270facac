use Rattle.std.proofs.Common.{◌≡◌, ◌+◌, ◌++◌, ◌∷◌, [], ℕ, List, length, inl, refl, ap, subst, ◌∙◌, arith}
use Rattle.std.proofs.lemmas.Result.{err_from_is_err_and}
use Rattle.std.proofs.lemmas.List.{nil_from_length}
use Rattle.page_cut.specs.declared.parts.Sheet.{Sheet}
use Rattle.tree_page.specs.Written.{Fits}
use Rattle.tree_plan.specs.Climb.{on}
use Rattle.payload_chain.proofs.TakeLemmas.{took-none}
use Rattle.tree_write.proofs.TakesLemmas.{stops-memory}
use Rattle.tree_write.proofs.root.settle_root.Goals as goal

pub returns-in_err-put_behind-clause-refused : goal.returns-in_err-put_behind-clause-refused
returns-in_err-put_behind-clause-refused g c =
    let p = err_from_is_err_and c.from_residual.result c.from_residual.ensures.1 in
    rw (p.1, p.2) (stops-memory (length c.args.sheets.front.items + 1 + 1) (took-none c.usable-usable.ensures.sizes).took (omega arith))

pub returns-clause-settled : goal.returns-clause-settled
returns-clause-settled g c =
    let sheets = c.args.sheets in
    let one : List Sheet = on c.args.root sheets.last ∷ [] in
    let none : sheets.front.items ≡ [] = nil_from_length sheets.front.items (grind arith) in
    let P : ℕ → Type 0 = λ u. Fits sheets.last c.args.root u in
    record {
      count = 0;
      few = omega arith;
      took = (took-none c.usable-usable.ensures.sizes).took;
      others = one;
      behind = ◌∙◌ {A = List Sheet} c.in_ok-put_behind.ensures (ap (λ (l : List Sheet). c.args.out.items ++ (l ++ one)) none);
      are = λ t. inl ((none, subst P c.usable-usable.ensures.value (c.fits.ensures.0 c.if-not-fits.false)), refl, refl);
    }
