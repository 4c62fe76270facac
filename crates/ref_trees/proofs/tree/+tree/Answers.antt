use Rattle.std.proofs.Common.{◌≡◌, ℕ, ◌+◌, ◌-◌, ℤ, pos, Option, IfOk, IfSome, IfNone, take, get_or, subst, ◌∙◌, arith}
use Rattle.std.proofs.lemmas.Int.{to_z-of_z}
use Rattle.std.proofs.lemmas.List.{get_or_default}
use mir.Syntax.{w64}
use mir.Val.{to_z, of_z}
use Rattle.tree_page.specs.declared.cell.InnerCell.{InnerCell}
use Rattle.tree_page.specs.declared.cell.PageCells.{PageCells}
use Rattle.tree_model.specs.Tree.{Tree, Child}
use Rattle.tree_model.specs.Held.{HasCells}
use Rattle.ref_pages.specs.AsPages.{pages_of}
use Rattle.ref_trees.specs.Gathered.{HasNoTree}
use Rattle.ref_trees.specs.GatherSteps.{low_of, last_key, Tells, Gathers}
use Rattle.ref_trees.specs.declared.gather.Summary.{Summary}
use Rattle.ref_trees.proofs.GatherLemmas.{each_at}
use Rattle.ref_trees.proofs.HoldLemmas.{Below, IsPartly, partly_more, interior_levels, height_some, top_cells}
use Rattle.ref_trees.proofs.tree.+tree.Goals as goal

pub interior_at-returns-in_default-clause-none : goal.interior_at-returns-in_default-clause-none
interior_at-returns-in_default-clause-none t c = λ tree has.
    let pages = pages_of c.args.pages.now in
    let all = interior_levels c.one_page.ensures pages c.args.levels c.args.page c.args.cells.now c.args.right c.requires.cells tree has in
    let P : Option Summary → Type 0 = λ found. IfNone found (HasNoTree pages c.args.levels c.args.right) in
    subst P c.in_default.is c.in_ok-child.ensures.none all.last.tree all.last.has

pub interior_at-returns-in_default-2-clause-none : goal.interior_at-returns-in_default-2-clause-none
interior_at-returns-in_default-2-clause-none t c = λ tree has.
    let pages = pages_of c.args.pages.now in
    let cells = c.args.cells.now in
    let none : InnerCell = record { child = 0; rowid = pos 0 } in
    let at = c.loop-at.at - 1 in
    let all = interior_levels c.one_page.ensures pages c.args.levels c.args.page cells c.args.right c.requires.cells tree has in
    let below = each_at (λ (cell : InnerCell). Below pages c.args.levels cell.child) cells at none (omega arith) all.each in
    let P : Option Summary → Type 0 = λ found. IfNone found (HasNoTree pages c.args.levels (get_or cells at none).child) in
    subst P c.in_default-2.is c.in_ok-child-2.ensures.none below.tree below.has

pub interior_at-loop-at-preserved : goal.interior_at-loop-at-preserved
interior_at-loop-at-preserved t c =
    let pages = pages_of c.args.pages.now in
    let cells = c.args.cells.now in
    let none : InnerCell = record { child = 0; rowid = pos 0 } in
    let at = c.loop-at.at - 1 in
    let cell : InnerCell = get_or cells at none in
    let here : cell ≡ get_or cells at cell = get_or_default cells at none cell (omega arith) in
    let next : c.loop-at.at ≡ at + 1 = omega arith in
    let high = to_z w64 (of_z w64 c.args.high) in
    let key : to_z w64 (of_z w64 c.key_of-key.result) ≡ cell.rowid = to_z-of_z w64 c.key_of-key.result c.key_of-key.ensures.fits ∙ c.key_of-key.ensures.key in
    let first : c.low_before-first.result ≡ last_key c.args.low (take at cells) = c.low_before-first.ensures in
    let P : Option Summary → Type 0 = λ found. IfSome found (Gathers pages c.args.levels cell.child (low_of c.low_before-first.result) (to_z w64 (of_z w64 c.key_of-key.result))) in
    let child = subst P c.in-Some-2.is c.in_ok-child-2.ensures.found in
    let K : ℤ → Type 0 = λ k. Gathers pages c.args.levels cell.child (low_of c.low_before-first.result) k c.in-Some-2.child in
    let F : Option ℤ → Type 0 = λ f. Gathers pages c.args.levels cell.child (low_of f) cell.rowid c.in-Some-2.child in
    let Q : ℤ → Type 0 = λ k. (n : ℕ) (left right : Tree) → Tells 0 (low_of c.low_before-first.result) k left c.in-Some-2.child → Tells (n + 1) k high right c.loop-at.found
    → Tells n (low_of c.low_before-first.result) high (Child left k right) c.in_ok-found-2.found in
    let R : Option ℤ → Type 0 = λ f. (n : ℕ) (left right : Tree) → Tells 0 (low_of f) cell.rowid left c.in-Some-2.child → Tells (n + 1) cell.rowid high right c.loop-at.found
    → Tells n (low_of f) high (Child left cell.rowid right) c.in_ok-found-2.found in
    let U : ℕ → Type 0 = λ n. IsPartly pages c.args.levels c.args.page cells c.args.low high n c.loop-at.found in
    record {
      inside = omega arith;
      put = partly_more pages c.args.levels c.args.page cells c.args.low high at cell c.in-Some-2.child c.loop-at.found c.in_ok-found-2.found (omega arith) here
          (subst U next c.loop-at.invariant.put) (subst F first (subst K key child)) (subst R first (subst Q key c.in_ok-found-2.ensures));
    }

pub tree_at-returns-then-levels-eq0-clause-none : goal.tree_at-returns-then-levels-eq0-clause-none
tree_at-returns-then-levels-eq0-clause-none t c = λ tree has. omega (arith, has.low, height_some tree)

pub tree_at-returns-in-None-clause-none : goal.tree_at-returns-in-None-clause-none
tree_at-returns-in-None-clause-none t c = λ tree has.
    let pages = pages_of c.args.pages.now in
    let top = top_cells pages c.args.levels c.args.page tree has in
    let P : Option PageCells → Type 0 = λ found. IfNone found ((cells : PageCells) → ¬ (HasCells pages c.args.page cells)) in
    subst P c.in-None.is c.in_ok-cells_of.ensures.none top.cells top.has

pub tree_at-returns-in-Some-Leaf-clause-found : goal.tree_at-returns-in-Some-Leaf-clause-found
tree_at-returns-in-Some-Leaf-clause-found t c =
    let less : c.args.levels - 1 + 1 ≡ c.args.levels = omega (arith, c.if-levels-eq0.false) in
    let P : ℕ → Type 0 = λ n. IfOk c.leaf_at.result (λ found. IfSome found (Gathers (pages_of c.args.pages.now) n c.args.page (low_of c.args.low) c.args.high)) in
    let Q : ℤ → Type 0 = λ high. IfOk c.leaf_at.result (λ found. IfSome found (Gathers (pages_of c.args.pages.now) (c.args.levels - 1 + 1) c.args.page (low_of c.args.low) high)) in
    subst P less (subst Q (to_z-of_z w64 c.args.high c.ranges.high) (c.leaf_at.ensures.found (c.args.levels - 1)))
