use Rattle.std.proofs.Common.{ap, ◌∙◌, List, ℕ, sym, subst, IfOk, ◌≡◌, suc, ◌-◌, arith}
use Rattle.std.specs.List.{AllByRecursion}
use Rattle.std.proofs.lemmas.Int.{to_z-of_z}
use Rattle.std.proofs.lemmas.Result.{IfOk-weaker}
use Rattle.tree_page.specs.declared.cell.LeafCell.{LeafCell}
use Rattle.tree_page.specs.declared.cell.InnerCell.{InnerCell}
use Rattle.tree_model.specs.declared.ends.PathEnd.{PathEnd}
use Rattle.tree_model.specs.Walk.{AtKey, first_from, child_for}
use Rattle.ref_pages.specs.AsPages.{pages_of}
use Rattle.ref_trees.specs.Steps.{IsKept, Leads}
use Rattle.ref_trees.proofs.KeptLemmas.{cells_kept}
use Rattle.ref_trees.proofs.PathStepLemmas.{leads_leaf, leads_down}
use Rattle.ref_trees.proofs.path.+leads_to.Goals as goal

pub at_key-requires : goal.at_key-requires
at_key-requires t c =
    let entered = rw (c.in-Ok-Leaf.is, c.in-Ok-Leaf.field-0-is) at c.in_ok-cells.ensures in
    let P : List LeafCell → Type 0 = λ cells. AllByRecursion IsKept cells in
    subst P (sym c.as_slice.ensures) (cells_kept (pages_of c.args.pages.now) c.args.page c.in-Ok-Leaf.cells entered.1)

pub returns-in-Ok-Leaf : goal.returns-in-Ok-Leaf
returns-in-Ok-Leaf t c =
    let pages = pages_of c.args.pages.now in
    let cells = c.in-Ok-Leaf.cells in
    let key_fits = c.ranges.key in
    let entered = rw (c.in-Ok-Leaf.is, c.in-Ok-Leaf.field-0-is) at c.in_ok-cells.ensures in
    let P : List LeafCell → PathEnd → Type 0 = λ of end. AtKey c.args.columns pages c.args.page c.args.key (first_from c.args.key of) end in
    let Q : PathEnd → Type 0 = λ end. Leads c.args.left c.args.columns pages c.args.above c.args.page c.args.key end in
    let on_slice : IfOk c.at_key.result (P c.as_slice.result.now) = simp to_z-of_z at c.at_key.ensures in
    let R : List LeafCell → Type 0 = λ of. IfOk c.at_key.result (P of) in
    IfOk-weaker c.at_key.result (P cells) Q
    (λ end at. leads_leaf c.args.left c.args.columns pages c.args.above c.args.page c.args.key end cells entered.0 entered.1 at)
    (subst R c.as_slice.ensures on_slice)

pub returns-in-Ok-Interior : goal.returns-in-Ok-Interior
returns-in-Ok-Interior t c =
    let pages = pages_of c.args.pages.now in
    let cells = c.in-Ok-Interior.cells in
    let key_fits = c.ranges.key in
    let entered = rw (c.in-Ok-Interior.is, c.in-Ok-Interior.field-0-is) at c.in_ok-cells.ensures in
    let P : ℕ → PathEnd → Type 0 = λ child end. Leads (c.args.left - 1) c.args.columns pages c.args.page child c.args.key end in
    let Q : PathEnd → Type 0 = λ end. Leads c.args.left c.args.columns pages c.args.above c.args.page c.args.key end in
    let on_child : IfOk c.leads_to.result (P c.child_for-child.result) = simp to_z-of_z at c.leads_to.ensures in
    let on_cells : c.child_for-child.result ≡ child_for c.args.key c.as_slice-in-Ok-Interior.result.now c.in-Ok-Interior.right =
    simp to_z-of_z at c.child_for-child.ensures in
    let child_is = on_cells ∙ ap (λ (of : List InnerCell). child_for c.args.key of c.in-Ok-Interior.right) c.as_slice-in-Ok-Interior.ensures in
    let R : ℕ → Type 0 = λ child. IfOk c.leads_to.result (P child) in
    let left_is : c.args.left ≡ suc (c.args.left - 1) = omega (arith, entered.0) in
    IfOk-weaker c.leads_to.result (P (child_for c.args.key cells c.in-Ok-Interior.right)) Q
    (λ end below. leads_down c.args.left (c.args.left - 1) c.args.columns pages c.args.above c.args.page c.args.key end cells c.in-Ok-Interior.right left_is entered.1 below)
    (subst R child_is on_child)
