use Rattle.std.proofs.Common.{◌<ℤ◌, ◌≤ℤ◌, IfOk, IfErr, IsTrue, SFits, w64, arith}
use Rattle.std.proofs.lemmas.Int.{to_z-of_z, ints}
use Rattle.std.proofs.lemmas.Result.{IfOk-weaker, IfErr-weaker}
use Rattle.tree_model.specs.Whole.{below_all, greatest}
use Rattle.tree_remove.specs.Remove.{RemoveDone, RemoveRefused}
use Rattle.rowid_tree.specs.Puts.{IsSoundlyRefused}
use Rattle.rowid_tree.specs.Removes.{RemovesRow, MayBeLargeWithout}
use Rattle.rowid_tree.proofs.RemoveLemmas.{removes_row}
use Rattle.rowid_tree.proofs.RemoveChangedLemmas.{removal_changes, removal_noted}
use Rattle.rowid_tree.proofs.RemoveSoundLemmas.{removal_clean}
use Rattle.rowid_tree.proofs.RemoveLargeLemmas.{may_be_large_without}
use Rattle.rowid_tree.proofs.removes.remove.Goals as goal

pub returns-clause-removes : goal.returns-clause-removes
returns-clause-removes g c = λ t.
    let state = g.S.PageSpace.state in
    let old = state c.args.space.now in
    let new = state c.remove.new.space in
    let key_fits : SFits w64 c.args.rowid = c.ranges.rowid in
    let above : below_all <ℤ c.args.rowid = omega (arith, ints, key_fits) in
    let below : c.args.rowid ≤ℤ greatest = omega (arith, ints, key_fits) in
    let told = c.remove.ensures.done t in
    let done : IfOk c.remove.result (RemoveDone old.page_size old.pages new.pages new.changed c.args.root c.args.rowid) = simp to_z-of_z at told in
    IfOk-weaker c.remove.result (RemoveDone old.page_size old.pages new.pages new.changed c.args.root c.args.rowid) (RemovesRow old.pages new.pages c.args.root c.args.rowid)
    (λ there was. removes_row c.remove_keeps_whole.ensures old new c.args.root c.args.rowid there t c.size-size.ensures.sizes c.remove.ensures.steady above below was) done

pub returns-clause-changed : goal.returns-clause-changed
returns-clause-changed g c =
    let state = g.S.PageSpace.state in
    let old = state c.args.space.now in
    let new = state c.remove.new.space in
    let key_fits : SFits w64 c.args.rowid = c.ranges.rowid in
    let above : below_all <ℤ c.args.rowid = omega (arith, ints, key_fits) in
    let below : c.args.rowid ≤ℤ greatest = omega (arith, ints, key_fits) in
    let done : IsTrue old.tells → IfOk c.remove.result (RemoveDone old.page_size old.pages new.pages new.changed c.args.root c.args.rowid) = simp to_z-of_z at c.remove.ensures.done in
    removal_noted old new c.args.root c.args.rowid c.remove.result done
    (λ t was whole. removal_changes c.front_apart.ensures c.one_page.ensures c.shrink_fits.ensures old new c.args.root c.args.rowid t c.size-size.ensures.sizes c.remove.ensures.steady
    above below was whole)

pub returns-clause-clean : goal.returns-clause-clean
returns-clause-clean g c = λ t.
    let state = g.S.PageSpace.state in
    let old = state c.args.space.now in
    let new = state c.remove.new.space in
    let key_fits : SFits w64 c.args.rowid = c.ranges.rowid in
    let above : below_all <ℤ c.args.rowid = omega (arith, ints, key_fits) in
    let below : c.args.rowid ≤ℤ greatest = omega (arith, ints, key_fits) in
    let refused : IfErr c.remove.result (RemoveRefused old new c.args.root c.args.rowid) = simp to_z-of_z at c.remove.ensures.refused in
    IfErr-weaker c.remove.result (RemoveRefused old new c.args.root c.args.rowid) (IsSoundlyRefused old.pages c.args.root)
    (λ fault stops. removal_clean c.front_apart.ensures c.header_in_front.ensures c.one_page.ensures c.page_fits.ensures c.one_path.ensures c.path_finds.ensures old new c.args.root
    c.args.rowid fault t c.size-size.ensures.sizes above below stops) refused

pub returns-clause-large : goal.returns-clause-large
returns-clause-large g c = λ t.
    let state = g.S.PageSpace.state in
    let old = state c.args.space.now in
    let new = state c.remove.new.space in
    let key_fits : SFits w64 c.args.rowid = c.ranges.rowid in
    let above : below_all <ℤ c.args.rowid = omega (arith, ints, key_fits) in
    let below : c.args.rowid ≤ℤ greatest = omega (arith, ints, key_fits) in
    let refused : IfErr c.remove.result (RemoveRefused old new c.args.root c.args.rowid) = simp to_z-of_z at c.remove.ensures.refused in
    IfErr-weaker c.remove.result (RemoveRefused old new c.args.root c.args.rowid) (MayBeLargeWithout old.pages c.args.root c.args.rowid old.page_size)
    (λ fault stops. may_be_large_without c.remove_may_be_large.ensures old new c.args.root c.args.rowid fault t c.size-size.ensures.sizes above below stops) refused
