use Rattle.std.proofs.Common.{◌≡◌, ◌∙◌, ◌-◌, ◌++◌, ◌∷◌, [], refl, ap, suc, length, IsTrue, List, rules, arith}
use Rattle.std.proofs.lemmas.Int.{to_z-of_z}
use Rattle.std.proofs.lemmas.Result.{err_from_is_err_and}
use Rattle.payload_chain.proofs.StateLemmas.{steady-on, stays-on}
use Rattle.tree_page.specs.declared.cell.InnerCell.{InnerCell}
use Rattle.tree_model.specs.declared.level.Level.{Level}
use Rattle.tree_model.specs.Walk.{child_for}
use Rattle.tree_search.specs.Search.{place_for}
use Rattle.tree_search.proofs.CellLemmas.{child_at_place}
use Rattle.tree_search.proofs.PathLemmas.{Comes, down_refused, comes_leaf, comes_down, way_more}
use Rattle.tree_search.proofs.StateLemmas.{has_on, fits_on}
use Rattle.tree_search.proofs.path.go_down.Goals as goal

pub returns-in_err-cells-clause-refused : goal.returns-in_err-cells-clause-refused
returns-in_err-cells-clause-refused g c =
    let state = g.S.PageSpace.state in
    let old = state c.args.space.now in
    let at = c.loop-levels in
    let key_fits = c.ranges.rowid in
    let comes : IsTrue old.tells → Comes old.pages c.args.root c.args.rowid at.left at.above at.number at.levels.items = simp to_z-of_z at at.invariant.comes in
    let p = err_from_is_err_and c.from_residual.result c.from_residual.ensures.1 in
    rw (p.1, p.2)
    (down_refused old (state at.space) (state c.enter.new.space) c.args.root c.args.rowid at.left at.above at.number
    at.levels.items c.in_err-cells.field-0.0 at.invariant.steady at.invariant.stays comes c.in_err-cells.ensures.refused)

pub returns-in-Leaf-clause-found : goal.returns-in-Leaf-clause-found
returns-in-Leaf-clause-found g c = λ t.
    let state = g.S.PageSpace.state in
    let old = state c.args.space.now in
    let at = c.loop-levels in
    let key_fits = c.ranges.rowid in
    let comes : IsTrue old.tells → Comes old.pages c.args.root c.args.rowid at.left at.above at.number at.levels.items = simp to_z-of_z at at.invariant.comes in
    comes_leaf old.pages c.args.root c.args.rowid at.left at.above at.number at.levels.items c.in-Leaf.cells (comes t)
    (has_on old (state at.space) at.number c.in_ok-cells.field-0 _ at.invariant.steady at.invariant.stays c.in_ok-cells.ensures.found c.in-Leaf.is t)

pub returns-in-Leaf-clause-sound : goal.returns-in-Leaf-clause-sound
returns-in-Leaf-clause-sound g c =
    let state = g.S.PageSpace.state in
    let at = c.loop-levels in
    let there = c.in_ok-cells.ensures.there in
    record {
      each = at.invariant.way.each;
      few = omega (arith, at.invariant.way.few, c.in_ok-cells.ensures.within);
      least = there.least;
      most = omega (arith, there.most, at.invariant.stays.number);
      fits = fits_on (state c.args.space.now) (state at.space) at.number c.in_ok-cells.field-0 _ at.invariant.steady c.in_ok-cells.ensures.fits c.in-Leaf.is;
    }

pub loop-levels-preserved : goal.loop-levels-preserved
loop-levels-preserved g c =
    let state = g.S.PageSpace.state in
    let old = state c.args.space.now in
    let at = c.loop-levels in
    let inv = at.invariant in
    let key_fits = c.ranges.rowid in
    let comes : IsTrue old.tells → Comes old.pages c.args.root c.args.rowid at.left at.above at.number at.levels.items = simp to_z-of_z at inv.comes in
    let cells = c.in-Interior.cells in
    let level : Level = record { number = at.number; cells = cells; right = c.in-Interior.right; at = c.place_from-at.result } in
    let longer : c.push.new.self.items ≡ at.levels.items ++ level ∷ [] = search rules in
    let left_is : at.left ≡ suc (at.left - 1) = omega (arith, c.in_ok-cells.ensures.within) in
    let there = c.in_ok-cells.ensures.there in
    let seen : c.as_slice.result.now ≡ cells = c.as_slice.ensures in
    let seen_again : c.as_slice-in-Interior.result.now ≡ cells = c.as_slice-in-Interior.ensures in
    let place_of : c.place_from-at.result ≡ place_for c.args.rowid c.as_slice.result.now = simp to_z-of_z at c.place_from-at.ensures.is in
    let place_is : c.place_from-at.result ≡ place_for c.args.rowid cells = place_of ∙ ap (λ (l : List InnerCell). place_for c.args.rowid l) seen in
    let child_is : c.child_at-child.result ≡ child_for c.args.rowid cells c.in-Interior.right =
    child_at_place c.args.rowid c.child_at-child.result c.place_from-at.result c.as_slice-in-Interior.result.now cells c.in-Interior.right seen_again place_is c.child_at-child.ensures in
    record {
      steady = steady-on inv.steady c.in_ok-cells.ensures.steady;
      stays = stays-on inv.steady inv.stays c.in_ok-cells.ensures.stays;
      one_page = search rules;
      way = way_more old.pages.size old.pages.usable at.left (at.left - 1) at.levels.items c.push.new.self.items level inv.way left_is
          (record {
            least = there.least;
            most = omega (arith, there.most, inv.stays.number);
            fits = fits_on old (state at.space) at.number c.in_ok-cells.field-0 _ inv.steady c.in_ok-cells.ensures.fits c.in-Interior.is;
            at = omega (arith, c.place_from-at.ensures.within, ap (λ (l : List InnerCell). length l) seen);
          })
          longer;
      comes = λ t.
          simp to_z-of_z
          (comes_down old.pages c.args.root c.args.rowid at.left (at.left - 1) at.above at.number c.child_at-child.result at.levels.items c.push.new.self.items level (comes t) left_is refl
          (has_on old (state at.space) at.number c.in_ok-cells.field-0 _ inv.steady inv.stays c.in_ok-cells.ensures.found c.in-Interior.is t) place_is child_is longer);
    }
