use Rattle.std.proofs.Common.{◌≡◌, ◌+◌, ◌-◌, ◌∷◌, [], ℕ, suc, pos, List, length, drop, get_or, IsTrue, inr, refl, sym, ap, subst, rules, arith}
use Rattle.std.proofs.lemmas.List.{take_all}
use Rattle.std.proofs.lemmas.Result.{err_from_is_err_and, on_ok_weaker, IfErr-weaker}
use Rattle.payload_chain.proofs.StateLemmas.{steady-same, stays-same, steady-on, stays-on}
use Rattle.tree_page.specs.declared.cell.InnerCell.{InnerCell}
use Rattle.tree_page.specs.declared.cell.PageCells.TheVariants.{Leaf as LeafPage, Interior as InteriorPage}
use Rattle.tree_page.specs.Written.{Fits}
use Rattle.tree_model.specs.Held.{HasCells}
use Rattle.tree_search.specs.Search.{SearchRefused}
use Rattle.tree_free.specs.Steps.{WalkMeets, LeafMeets, ChildrenGone, ChildrenMeet}
use Rattle.tree_free.proofs.MetLemmas.{meets_refused}
use Rattle.tree_free.proofs.ChildLemmas.{children_none, children_more, children_all, page_twice}
use Rattle.tree_free.proofs.WalkLemmas.{split_list, front_more, long_back, gone_on, leaf_over, leaf_refused, page_refused, inner_over, inner_refused, child_refused, last_refused}
use Rattle.tree_free.proofs.collect.+collect.Goals as goal

pub collect-returns-in_err-cells-clause-refused : goal.collect-returns-in_err-cells-clause-refused
collect-returns-in_err-cells-clause-refused g t c =
    let state = g.S.PageSpace.state in
    let p = err_from_is_err_and c.from_residual.result c.from_residual.ensures.1 in
    rw (p.1, p.2)
    (page_refused (state c.args.space.now) (state c.enter.new.space) c.args.left c.args.above c.args.page c.args.walk.now.met c.in_err-cells.field-0.0 c.in_err-cells.ensures.refused)

pub collect-collect_rows-requires-clause-fits : goal.collect-collect_rows-requires-clause-fits
collect-collect_rows-requires-clause-fits g t c =
    let old = g.S.PageSpace.state c.args.space.now in
    let fits : Fits (LeafPage c.in-Leaf.cells) c.args.page old.pages.usable = rw c.in-Leaf.is at c.in_ok-cells.ensures.fits in
    let P : ℕ → Type 0 = λ n. Fits (LeafPage c.in-Leaf.cells) c.args.page n in
    subst P (sym c.in_ok-cells.ensures.steady.used) fits

pub collect-returns-in-Leaf-clause-gone : goal.collect-returns-in-Leaf-clause-gone
collect-returns-in-Leaf-clause-gone g t c =
    let old = g.S.PageSpace.state c.args.space.now in
    let done = c.in_ok-cells.ensures in
    let has : IsTrue old.tells → HasCells old.pages c.args.page (LeafPage c.in-Leaf.cells) = λ told. rw c.in-Leaf.is at (done.found told) in
    let buffer = c.args.walk.now.buffer in
    on_ok_weaker c.collect_rows.result (λ gone. leaf_over c.args.left c.args.walk.now done.steady done.stays done.within has refl refl (long_back buffer.len c.enter.new.buffer buffer.items (search rules)) gone) c.collect_rows.ensures.gone

pub collect-returns-in-Leaf-clause-refused : goal.collect-returns-in-Leaf-clause-refused
collect-returns-in-Leaf-clause-refused g t c =
    let state = g.S.PageSpace.state in
    let old = state c.args.space.now in
    let mid = state c.enter.new.space in
    let new = state c.collect_rows.new.space in
    let met = c.args.walk.now.met in
    let done = c.in_ok-cells.ensures in
    let has : IsTrue old.tells → HasCells old.pages c.args.page (LeafPage c.in-Leaf.cells) = λ told. rw c.in-Leaf.is at (done.found told) in
    IfErr-weaker c.collect_rows.result (SearchRefused mid new (LeafMeets mid.pages c.args.page c.in-Leaf.cells met))
    (SearchRefused old new (WalkMeets c.args.left old.pages c.args.above c.args.page met))
    (λ fault. leaf_refused c.one_page.ensures old mid new c.args.left c.args.above c.args.page c.in-Leaf.cells met fault done.steady done.stays done.within has) c.collect_rows.ensures.refused

pub collect-returns-in-Interior-clause-gone : goal.collect-returns-in-Interior-clause-gone
collect-returns-in-Interior-clause-gone g t c =
    let done = c.in_ok-cells.ensures in
    let left_is : c.args.left ≡ suc (c.args.left - 1) = omega (arith, done.within) in
    let buffer = c.args.walk.now.buffer in
    on_ok_weaker c.collect_children.result (λ gone. inner_over c.args.left c.args.walk.now done.steady done.stays left_is refl refl (long_back buffer.len c.enter.new.buffer buffer.items (search rules)) gone) c.collect_children.ensures.gone

pub collect-returns-in-Interior-clause-refused : goal.collect-returns-in-Interior-clause-refused
collect-returns-in-Interior-clause-refused g t c =
    let state = g.S.PageSpace.state in
    let old = state c.args.space.now in
    let mid = state c.enter.new.space in
    let new = state c.collect_children.new.space in
    let met = c.args.walk.now.met in
    let done = c.in_ok-cells.ensures in
    let left_is : c.args.left ≡ suc (c.args.left - 1) = omega (arith, done.within) in
    let cells : List InnerCell = c.as_slice.result.now in
    let H : List InnerCell → Type 0 = λ l. IsTrue old.tells → HasCells old.pages c.args.page (InteriorPage l c.in-Interior.right) in
    let has : H c.in-Interior.cells = λ told. rw c.in-Interior.is at (done.found told) in
    IfErr-weaker c.collect_children.result (SearchRefused mid new (ChildrenMeet (c.args.left - 1) mid.pages c.args.page cells c.in-Interior.right met))
    (SearchRefused old new (WalkMeets c.args.left old.pages c.args.above c.args.page met))
    (λ fault. inner_refused old mid new c.args.left (c.args.left - 1) c.args.above c.args.page cells c.in-Interior.right met fault done.steady done.stays left_is
    (subst H (sym c.as_slice.ensures) has)) c.collect_children.ensures.refused

pub collect_children-returns-in_err-mark-clause-refused : goal.collect_children-returns-in_err-mark-clause-refused
collect_children-returns-in_err-mark-clause-refused g t c =
    let old = g.S.PageSpace.state c.args.space.now in
    let met = c.args.walk.now.met in
    let p = err_from_is_err_and c.from_residual.result c.from_residual.ensures.1 in
    rw (p.1, p.2)
    (meets_refused old old (ChildrenMeet c.args.left old.pages c.args.page c.args.cells.now c.args.right met) met (c.args.page ∷ []) c.in_err-mark.field-0.0
    (λ told n some two. inr (page_twice old c.args.page met n c.requires.there some two)) c.in_err-mark.ensures.cause)

pub collect_children-loop-cell-init : goal.collect_children-loop-cell-init
collect_children-loop-cell-init g t c =
    let old = g.S.PageSpace.state c.args.space.now in
    let done = c.in_ok-mark.ensures in
    record {
      steady = steady-same c.requires.sizes;
      stays = stays-same;
      gone = children_none old c.args.left c.args.page c.args.walk.now c.mark.new.self done.marked (ap (λ v. v.items) done.numbers) (ap (λ v. length v.items) done.buffer);
    }

pub collect_children-returns-in_err-collect-clause-refused : goal.collect_children-returns-in_err-collect-clause-refused
collect_children-returns-in_err-collect-clause-refused g t c =
    let state = g.S.PageSpace.state in
    let inv = c.loop-cell.invariant in
    let none : InnerCell = record { child = 0; rowid = pos 0 } in
    let cells = c.args.cells.now in
    let i : ℕ = c.loop-cell.cell-index in
    let cell = get_or cells i none in
    let p = err_from_is_err_and c.from_residual-in_err-collect.result c.from_residual-in_err-collect.ensures.1 in
    rw (p.1, p.2)
    (child_refused c.one_page.ensures (state c.collect.new.space) cells cell (drop (i + 1) cells) c.args.right c.in_err-collect.field-0.0 inv.steady inv.stays c.requires.has inv.gone
    (split_list cells i cell c.loop-cell-test.true (search rules)) c.in_err-collect.ensures.refused)

pub collect_children-loop-cell-preserved : goal.collect_children-loop-cell-preserved
collect_children-loop-cell-preserved g t c =
    let state = g.S.PageSpace.state in
    let old = state c.args.space.now in
    let inv = c.loop-cell.invariant in
    let done = c.in_ok-collect.ensures in
    let none : InnerCell = record { child = 0; rowid = pos 0 } in
    let cells = c.args.cells.now in
    let i : ℕ = c.loop-cell.cell-index in
    let cell = get_or cells i none in
    let are = split_list cells i cell c.loop-cell-test.true (search rules) in
    let H : List InnerCell → Type 0 = λ l. IsTrue old.tells → HasCells old.pages c.args.page (InteriorPage l c.args.right) in
    let P : List InnerCell → Type 0 = λ l. ChildrenGone old c.args.left c.args.page l c.args.walk.now c.collect.new.walk in
    record {
      steady = steady-on inv.steady done.steady;
      stays = stays-on inv.steady inv.stays done.stays;
      gone = subst P (front_more cells i cell c.loop-cell-test.true (search rules))
          (children_more c.one_page.ensures c.one_tree.ensures c.collect.new.walk cell (drop (i + 1) cells) c.args.right (subst H are c.requires.has) inv.gone
          (gone_on inv.steady inv.stays done.gone));
    }

pub collect_children-returns-clause-gone : goal.collect_children-returns-clause-gone
collect_children-returns-clause-gone g t c =
    let state = g.S.PageSpace.state in
    let old = state c.args.space.now in
    let inv = c.loop-cell.invariant in
    let P : List InnerCell → Type 0 = λ l. ChildrenGone old c.args.left c.args.page l c.args.walk.now c.loop-cell.walk in
    let all = subst P (take_all c.loop-cell.cell-index c.args.cells.now c.loop-cell-test.false) inv.gone in
    on_ok_weaker c.collect-2.result
    (λ gone. children_all {at = record c.loop-cell.walk { numbers = c.push.new.self }} c.collect-2.new.walk c.args.right c.requires.there c.requires.has all (search rules) refl refl (gone_on inv.steady inv.stays gone)) c.collect-2.ensures.gone

pub collect_children-returns-clause-refused : goal.collect_children-returns-clause-refused
collect_children-returns-clause-refused g t c =
    let state = g.S.PageSpace.state in
    let old = state c.args.space.now in
    let mid = state c.loop-cell.space in
    let new = state c.collect-2.new.space in
    let inv = c.loop-cell.invariant in
    let P : List InnerCell → Type 0 = λ l. ChildrenGone old c.args.left c.args.page l c.args.walk.now c.loop-cell.walk in
    let all = subst P (take_all c.loop-cell.cell-index c.args.cells.now c.loop-cell-test.false) inv.gone in
    IfErr-weaker c.collect-2.result (SearchRefused mid new (WalkMeets c.args.left mid.pages c.args.page c.args.right c.loop-cell.walk.met))
    (SearchRefused old new (ChildrenMeet c.args.left old.pages c.args.page c.args.cells.now c.args.right c.args.walk.now.met))
    (λ fault. last_refused c.one_page.ensures new c.args.right fault inv.steady inv.stays c.requires.has all) c.collect-2.ensures.refused
