use Rattle.std.proofs.Common.{◌≡◌, ◌<◌, length, sym, ap, ◌∙◌, of_z, to_z, arith}
use Rattle.std.specs.Int.{w64}
use Rattle.std.proofs.lemmas.Int.{to_z-of_z}
use Rattle.tree_page.specs.declared.cell.LeafCell.{LeafCell}
use Rattle.tree_plan.specs.Plan.{cell_of}
use Rattle.tree_plan.proofs.LeafLemmas.{there, not_there, at_end, same_key}
use Rattle.tree_join.specs.Leaf.{other_cells}
use Rattle.tree_join.proofs.LeafLemmas.{others_at, place_in}
use Rattle.tree_join.proofs.leaf.take_out.Goals as goal

pub returns-then-at-len-clause-none : goal.returns-then-at-len-clause-none
returns-then-at-len-clause-none c =
    let key : to_z w64 (of_z w64 c.args.rowid) ≡ c.args.rowid = to_z-of_z w64 c.args.rowid c.ranges.rowid in
    let is = place_in _ c.args.rowid _ c.into_vec-items.result.items c.place-at.result key (c.as_slice.ensures ∙ sym c.into_vec-items.ensures) c.place-at.ensures in
    let last : c.place-at.result ≡ length c.into_vec-items.result.items = grind arith in
    ap (cell_of c.args.rowid) (sym c.into_vec-items.ensures) ∙ sym (at_end c.args.rowid c.into_vec-items.result.items c.place-at.result is last).0

pub returns-then-index-rowid-clause-none : goal.returns-then-index-rowid-clause-none
returns-then-index-rowid-clause-none c =
    let items = c.into_vec-items.result.items in
    let key : to_z w64 (of_z w64 c.args.rowid) ≡ c.args.rowid = to_z-of_z w64 c.args.rowid c.ranges.rowid in
    let is = place_in _ c.args.rowid _ items c.place-at.result key (c.as_slice.ensures ∙ sym c.into_vec-items.ensures) c.place-at.ensures in
    let inside = is.within in
    let within : c.place-at.result < length items = grind (arith, inside) in
    ap (cell_of c.args.rowid) (sym c.into_vec-items.ensures)
    ∙ sym (not_there c.args.rowid items c.place-at.result c.index.result.now is within (λ e. c.if-index-rowid.true (ap (of_z w64) (ap (λ (x : LeafCell). x.rowid) c.index.ensures ∙ e)))).0

pub returns-clause-taken : goal.returns-clause-taken
returns-clause-taken c =
    let items = c.into_vec-items.result.items in
    let key : to_z w64 (of_z w64 c.args.rowid) ≡ c.args.rowid = to_z-of_z w64 c.args.rowid c.ranges.rowid in
    let is = place_in _ c.args.rowid _ items c.place-at.result key (c.as_slice.ensures ∙ sym c.into_vec-items.ensures) c.place-at.ensures in
    let inside = is.within in
    let within : c.place-at.result < length items = grind (arith, inside) in
    let same = same_key c.args.rowid c.place-at.result items c.remove-cell.result c.index.result.now within c.remove-cell.ensures.value c.index.ensures
    (sym (to_z-of_z w64 c.index.result.now.rowid (search c)) ∙ ap (to_z w64) c.if-index-rowid.false ∙ key) in
    record {
      cell = ap (cell_of c.args.rowid) (sym c.into_vec-items.ensures) ∙ (there c.args.rowid items c.place-at.result c.remove-cell.result is within c.remove-cell.ensures.value same).0;
      others = c.from_vec.ensures ∙ c.remove-cell.ensures.items ∙ others_at c.args.rowid items c.place-at.result c.remove-cell.result is within c.remove-cell.ensures.value same
          ∙ ap (other_cells c.args.rowid) c.into_vec-items.ensures;
    }
