use Rattle.std.proofs.Common.{List, ℕ, subst, ap, ◌∙◌, IfOk, ◌≡◌, suc, ◌-◌, arith}
use Rattle.std.specs.Option.{option_copied}
use Rattle.std.proofs.lemmas.Int.{to_z-of_z}
use Rattle.std.proofs.lemmas.Result.{IfOk-weaker}
use Rattle.tree_page.specs.declared.cell.InnerCell.{InnerCell}
use Rattle.tree_model.specs.declared.ends.Next.{Next}
use Rattle.tree_model.specs.Walk.{in_leaf, first_from, children_from}
use Rattle.ref_pages.specs.AsPages.{pages_of}
use Rattle.ref_trees.specs.Steps.{HasSought, HasFirst, from_of}
use Rattle.ref_trees.proofs.WalkStepLemmas.{sought_leaf, sought_below}
use Rattle.ref_trees.proofs.walk.+seek.Goals as goal

pub seek-returns-in-Ok-Leaf : goal.seek-returns-in-Ok-Leaf
seek-returns-in-Ok-Leaf t c =
    let pages = pages_of c.args.pages.now in
    let cells = c.in-Ok-Leaf.cells in
    let key_fits = c.ranges.key in
    let entered = rw (c.in-Ok-Leaf.is, c.in-Ok-Leaf.field-0-is) at c.in_ok-cells.ensures in
    let on_slice : option_copied c.first_from.result ≡ first_from c.args.key c.as_slice.result.now = simp to_z-of_z at c.first_from.ensures in
    let found = on_slice ∙ ap (first_from c.args.key) c.as_slice.ensures in
    let P : Next → Type 0 = λ next. next ≡ in_leaf c.args.page (option_copied c.first_from.result) in
    let Q : Next → Type 0 = λ next. HasSought c.args.left pages c.args.key c.args.above (from_of c.args.from) c.args.page next in
    IfOk-weaker c.in_leaf.result P Q
    (λ next is. sought_leaf c.args.left pages c.args.key c.args.above (from_of c.args.from) c.args.page cells next entered.0 entered.1
    (is ∙ ap (in_leaf c.args.page) found))
    c.in_leaf.ensures

pub seek-returns-in_ok-children-in-Ok-Interior : goal.seek-returns-in_ok-children-in-Ok-Interior
seek-returns-in_ok-children-in-Ok-Interior t c =
    let pages = pages_of c.args.pages.now in
    let cells = c.in-Ok-Interior.cells in
    let key_fits = c.ranges.key in
    let entered = rw (c.in-Ok-Interior.is, c.in-Ok-Interior.field-0-is) at c.in_ok-cells.ensures in
    let P : List ℕ → Next → Type 0 = λ children next. HasFirst (c.args.left - 1) pages c.args.key c.args.page (from_of c.args.from) children next in
    let Q : Next → Type 0 = λ next. HasSought c.args.left pages c.args.key c.args.above (from_of c.args.from) c.args.page next in
    let all = children_from (from_of c.args.from) cells c.in-Ok-Interior.right in
    let on_slice : IfOk c.first_of.result (P c.as_slice-in-Ok-Interior-2.result.now) = simp to_z-of_z at c.first_of.ensures in
    let children_is : c.as_slice-in-Ok-Interior-2.result.now ≡ all =
    c.as_slice-in-Ok-Interior-2.ensures ∙ c.in_ok-children-in-Ok-Interior.ensures
    ∙ ap (λ (of : List InnerCell). children_from (from_of c.args.from) of c.in-Ok-Interior.right) c.as_slice-in-Ok-Interior.ensures in
    let R : List ℕ → Type 0 = λ children. IfOk c.first_of.result (P children) in
    let left_is : c.args.left ≡ suc (c.args.left - 1) = omega (arith, entered.0) in
    IfOk-weaker c.first_of.result (P all) Q
    (λ next below. sought_below c.args.left (c.args.left - 1) pages c.args.key c.args.above (from_of c.args.from) c.args.page cells c.in-Ok-Interior.right next left_is
    entered.1 below)
    (subst R children_is on_slice)
