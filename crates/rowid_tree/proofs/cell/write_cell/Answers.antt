use Rattle.std.proofs.Common.{◌≡◌, ◌∙◌, ◌-◌, refl, ap, length, length-drop, take, drop, w64, arith, subst, List, ℕ}
use Rattle.std.proofs.lemmas.Int.{to_z-of_z}
use Rattle.std.proofs.lemmas.List.{take_all}
use Rattle.db_format.specs.Spill.{local_size}
use Rattle.rowid_tree.specs.Steps.{RestWritten}
use Rattle.rowid_tree.proofs.CellLemmas.{cell_written}
use Rattle.rowid_tree.proofs.cell.write_cell.Goals as goal

pub returns-clause-written : goal.returns-clause-written
returns-clause-written g c =
    let state = g.S.PageSpace.state in
    let old = state c.args.space.now in
    let new = state c.write_rest.new.space in
    let payload : List ℕ = c.args.payload.now in
    let kept : ℕ = c.local_size-kept.result in
    let kept_is : kept ≡ local_size old.pages.usable (length payload) = c.local_size-kept.ensures ∙ ap (λ u. local_size u (length payload)) c.usable.ensures.value in
    let local_is : c.in_ok-local.local ≡ take kept payload = c.in_ok-local.ensures in
    let rest_is : take (length payload - kept) (drop kept payload) ≡ drop kept payload = take_all (length payload - kept) (drop kept payload) (omega (arith, length-drop kept payload)) in
    let P : List ℕ → Type 0 = λ l. RestWritten old new l c.in_ok-overflow.overflow in
    cell_written old new c.args.rowid payload _ kept (to_z-of_z w64 c.args.rowid c.ranges.rowid) refl kept_is local_is c.in_ok-overflow.ensures.steady
    (subst P rest_is c.in_ok-overflow.ensures.written)
