use Rattle.std.proofs.Common.{ℕ, List, ◌++◌, ap₂, ◌∙◌, arith}
use Rattle.std.proofs.lemmas.Int.{to_z-of_z}
use mir.Syntax.{w64}
use Rattle.tree_model.specs.Tree.{Row}
use Rattle.ref_trees.proofs.GatherLemmas.{level_beside, ordered_beside, filled_beside, root_beside}
use Rattle.ref_trees.proofs.gather.beside.Goals as goal

pub returns : goal.returns
returns c = λ cells left right l r. record {
  rows_are = c.in_ok-append.ensures.items ∙ ap₂ (λ (x y : List Row). x ++ y) l.rows_are r.rows_are;
  pages_are = c.in_ok-append-2.ensures.items ∙ ap₂ (λ (x y : List ℕ). x ++ y) l.pages_are r.pages_are;
  height_is = omega (arith, c.max.ensures, l.height_is, r.height_is);
  level_is = level_beside left right c.args.key c.args.child.height c.args.more.height c.args.child.level c.args.more.level c.both.result c.both-2.result
      l.height_is r.height_is l.level_is r.level_is c.both.ensures c.both-2.ensures;
  ordered_is = ordered_beside _ c.args.key c.args.high _ _ left right c.is_within.result c.args.child.ordered c.args.more.ordered c.both-3.result c.both-4.result
      (to_z-of_z w64 c.args.key c.ranges.key) (to_z-of_z w64 c.args.high c.ranges.high) c.is_within.ensures l.ordered_is r.ordered_is c.both-3.ensures c.both-4.ensures;
  filled_is = filled_beside cells c.args.key left right c.args.child.filled c.args.more.filled c.both-filled.result l.filled_is r.filled_is c.both-filled.ensures;
  root_is = root_beside cells c.args.key left right c.args.child.filled c.args.more.filled c.both-filled.result l.filled_is r.filled_is c.both-filled.ensures;
}
