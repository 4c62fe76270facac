use Rattle.std.proofs.Common.{◌≤◌, ℤ, Bool, List, ◌∷◌, length, not, nat_eq, refl, ap, subst, sym, ◌∙◌, ◌↔◌, IsTrue}
use Rattle.std.proofs.lemmas.Int.{to_z-of_z}
use mir.Syntax.{w64}
use Rattle.std.specs.List.{flat_map, AllByRecursion}
use Rattle.tree_model.specs.Tree.{Row, Within, rowid}
use Rattle.ref_trees.specs.GatherSteps.{low_of}
use Rattle.ref_trees.proofs.GatherLemmas.{some_filled}
use Rattle.ref_trees.proofs.gather.leaf.Goals as goal

pub returns : goal.returns
returns c = record {
  rows_are = refl;
  pages_are = c.in_ok-pages.ensures ∙ ap (λ (rows : List Row). c.args.page ∷ flat_map (λ row. row.chain) rows) c.deref.ensures.value;
  height_is = refl;
  level_is = (λ _. refl, λ _. refl);
  ordered_is =
      let P : List Row → Type 0 = λ rows. IsTrue c.are_within-ordered.result ↔ AllByRecursion (λ row. Within (low_of c.args.low) c.args.high (rowid row)) rows in
      let Q : ℤ → Type 0 = λ high. IsTrue c.are_within-ordered.result ↔ AllByRecursion (λ row. Within (low_of c.args.low) high (rowid row)) c.deref-2.result.now in
      subst P c.deref-2.ensures.value (subst Q (to_z-of_z w64 c.args.high c.ranges.high) c.are_within-ordered.ensures);
  filled_is =
      let P : Bool → Type 0 = λ b. IsTrue (not b) ↔ 1 ≤ length c.args.rows.items in
      subst P (sym (c.is_empty-filled.ensures ∙ ap (λ n. nat_eq n 0) c.args.rows.ok.0)) (some_filled c.args.rows.items);
  root_is = λ _. (λ _. tt, λ _. refl);
}
