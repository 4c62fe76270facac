use Rattle.std.proofs.Common.{◌≡◌, ◌∙◌, ◌+◌, ◌-◌, suc, ap, sym, refl, subst, pos, List, [], ◌∷◌, drop, get_or, Option, IsTrue, SFits, w64, arith, rules}
use Rattle.std.proofs.lemmas.List.{drop_all}
use Rattle.std.proofs.lemmas.Int.{to_z-of_z}
use Rattle.std.proofs.lemmas.Result.{IfErr-weaker, IfOk-weaker, err_from_is_err_and}
use Rattle.payload_chain.proofs.StateLemmas.{steady-on, stays-on}
use Rattle.tree_page.specs.declared.cell.InnerCell.{InnerCell}
use Rattle.tree_page.specs.declared.cell.PageCells.TheVariants.{Leaf as LeafPage, Interior as InteriorPage}
use Rattle.tree_page.specs.Written.{Fits}
use Rattle.tree_model.specs.Held.{HasCells}
use Rattle.tree_model.specs.declared.ends.Fault.{Fault}
use Rattle.tree_model.specs.declared.ends.Next.{Next}
use Rattle.tree_model.specs.declared.ends.Next.TheVariants.{Nothing, Meets}
use Rattle.tree_model.specs.Whole.{below_all}
use Rattle.tree_model.specs.Walk.{all_children, children_from, in_leaf, first_from}
use Rattle.tree_search.specs.declared.next.Place.{Place}
use Rattle.tree_search.specs.Search.{SearchRefused}
use Rattle.tree_search.specs.Steps.{from_of, next_of, HasSought, HasFirst}
use Rattle.tree_search.proofs.KeptLemmas.{place_kept}
use Rattle.tree_search.proofs.NextLemmas.{sought_leaf, sought_on, passes_on, passes_last, next_child, is_none, below_on, below_refused, page_refused}
use Rattle.tree_search.proofs.EmptyLemmas.{empty_on, empty_more}
use Rattle.tree_search.proofs.next.+seek.Goals as goal

pub first_of-loop-cell-preserved : goal.first_of-loop-cell-preserved
first_of-loop-cell-preserved g t c =
    let state = g.S.PageSpace.state in
    let old = state c.args.space.now in
    let mid = state c.loop-cell.space in
    let inv = c.loop-cell.invariant in
    let done = c.in_ok-found.ensures in
    let none : InnerCell = record { child = 0; rowid = pos 0 } in
    let items = c.cells_from-cell-items.result.now in
    let cell = get_or items c.loop-cell.cell-index none in
    let start = from_of c.loop-cell.start in
    let from = from_of c.args.from in
    let nothing : next_of c.in_ok-found.found ≡ Nothing = ap next_of (is_none c.in_ok-found.found (sym c.is_some.ensures ∙ c.if-is_some.false)) in
    record {
      steady = steady-on inv.steady done.steady;
      stays = stays-on inv.steady inv.stays done.stays;
      goes = record { same_key = done.search.same_key ∙ inv.goes.same_key; as_long = done.search.as_long ∙ inv.goes.as_long };
      empty = λ told.
          empty_on old mid c.args.search.now.key c.loop-cell.search.key c.seek.new.search.empty inv.steady inv.stays inv.goes.same_key told done.empty;
      passed = λ told.
          passes_on c.args.left old.pages c.args.search.now.key c.args.page from (children_from from c.args.cells.now c.args.right) start (all_children (drop c.loop-cell.cell-index items) c.args.right)
          (all_children (drop (c.loop-cell.cell-index + 1) items) c.args.right) cell.child (inv.passed told) (next_child items c.loop-cell.cell-index cell c.args.right c.loop-cell-test.true (search rules))
          (sought_on old mid c.args.left c.args.search.now.key c.loop-cell.search.key c.args.page start cell.child Nothing (next_of c.in_ok-found.found) inv.steady inv.stays inv.goes.same_key nothing done.found told);
    }

pub first_of-returns-clause-found : goal.first_of-returns-clause-found
first_of-returns-clause-found g t c = λ told.
    let state = g.S.PageSpace.state in
    let old = state c.args.space.now in
    let mid = state c.loop-cell.space in
    let inv = c.loop-cell.invariant in
    let items = c.cells_from-cell-items.result.now in
    let start = from_of c.loop-cell.start in
    let from = from_of c.args.from in
    let all = children_from from c.args.cells.now c.args.right in
    let P : Option Place → Type 0 = λ found. HasSought c.args.left mid.pages c.loop-cell.search.key c.args.page start c.args.right (next_of found) in
    let Q : Option Place → Type 0 = λ found. HasFirst c.args.left old.pages c.args.search.now.key c.args.page from all (next_of found) in
    let left_over : all_children (drop c.loop-cell.cell-index items) c.args.right ≡ c.args.right ∷ [] =
    ap (λ (l : List InnerCell). all_children l c.args.right) (drop_all c.loop-cell.cell-index items c.loop-cell-test.false) in
    IfOk-weaker c.seek-2.result P Q
    (λ found sought.
    passes_last c.args.left old.pages c.args.search.now.key c.args.page from all start (all_children (drop c.loop-cell.cell-index items) c.args.right) c.args.right (next_of found) (inv.passed told)
    left_over
    (sought_on old mid c.args.left c.args.search.now.key c.loop-cell.search.key c.args.page start c.args.right (next_of found) (next_of found) inv.steady inv.stays inv.goes.same_key refl (λ _. sought) told))
    (c.seek-2.ensures.found (inv.steady.told ∙ told))

pub seek_page-returns-in_err-cells-clause-refused : goal.seek_page-returns-in_err-cells-clause-refused
seek_page-returns-in_err-cells-clause-refused g t c =
    let state = g.S.PageSpace.state in
    let p = err_from_is_err_and c.from_residual.result c.from_residual.ensures.1 in
    rw (p.1, p.2)
    (page_refused (state c.args.space.now) (state c.enter.new.space) c.args.left c.args.search.now.key c.args.above (from_of c.args.from) c.args.page c.in_err-cells.field-0.0
    c.in_err-cells.ensures.refused)

pub seek_page-returns-in-Interior-clause-found : goal.seek_page-returns-in-Interior-clause-found
seek_page-returns-in-Interior-clause-found g t c = λ told.
    let state = g.S.PageSpace.state in
    let old = state c.args.space.now in
    let mid = state c.enter.new.space in
    let done = c.in_ok-cells.ensures in
    let from = from_of c.args.from in
    let key = c.args.search.now.key in
    let has : HasCells old.pages c.args.page (InteriorPage c.in-Interior.cells c.in-Interior.right) = rw c.in-Interior.is at (done.found told) in
    let left_is : c.args.left ≡ suc (c.args.left - 1) = omega (arith, done.within) in
    let P : Option Place → Type 0 =
    λ found. HasFirst (c.args.left - 1) mid.pages key c.args.page from (children_from from c.as_slice.result.now c.in-Interior.right) (next_of found) in
    let Q : Option Place → Type 0 = λ found. HasSought c.args.left old.pages key c.args.above from c.args.page (next_of found) in
    IfOk-weaker c.first_of.result P Q
    (λ found first.
    below_on old.pages mid.pages c.args.left (c.args.left - 1) key key c.args.above from c.args.page c.as_slice.result.now c.in-Interior.cells c.in-Interior.right (next_of found) (done.stays.pages_stay told) refl
    c.as_slice.ensures left_is has first)
    (c.first_of.ensures.found (done.steady.told ∙ told))

pub seek_page-returns-in-Interior-clause-refused : goal.seek_page-returns-in-Interior-clause-refused
seek_page-returns-in-Interior-clause-refused g t c =
    let state = g.S.PageSpace.state in
    let old = state c.args.space.now in
    let mid = state c.enter.new.space in
    let new = state c.first_of.new.space in
    let done = c.in_ok-cells.ensures in
    let from = from_of c.args.from in
    let key = c.args.search.now.key in
    let has : IsTrue old.tells → HasCells old.pages c.args.page (InteriorPage c.in-Interior.cells c.in-Interior.right) = λ told. rw c.in-Interior.is at (done.found told) in
    let left_is : c.args.left ≡ suc (c.args.left - 1) = omega (arith, done.within) in
    let A : Fault → Type 0 = λ f. HasFirst (c.args.left - 1) mid.pages key c.args.page from (children_from from c.as_slice.result.now c.in-Interior.right) (Meets f) in
    let B : Fault → Type 0 = λ f. HasSought c.args.left old.pages key c.args.above from c.args.page (Meets f) in
    IfErr-weaker c.first_of.result (SearchRefused mid new A) (SearchRefused old new B)
    (λ fault. below_refused old mid new c.args.left (c.args.left - 1) key key c.args.above from c.args.page c.as_slice.result.now c.in-Interior.cells c.in-Interior.right fault done.steady done.stays refl
    c.as_slice.ensures left_is has)
    c.first_of.ensures.refused

pub seek_page-returns-in-Leaf-clause-kept : goal.seek_page-returns-in-Leaf-clause-kept
seek_page-returns-in-Leaf-clause-kept g t c =
    let old = g.S.PageSpace.state c.args.space.now in
    let fits : Fits (LeafPage c.in-Leaf.cells) c.args.page old.pages.usable = rw c.in-Leaf.is at c.in_ok-cells.ensures.fits in
    place_kept c.args.page old.pages.usable _ c.in-Leaf.cells c.in_leaf.result fits c.in_leaf.ensures.cell

pub seek_page-returns-in-Leaf-clause-found : goal.seek_page-returns-in-Leaf-clause-found
seek_page-returns-in-Leaf-clause-found g t c = λ told.
    let old = g.S.PageSpace.state c.args.space.now in
    let key = c.args.search.now.key in
    let key_fits : SFits w64 key = search rules in
    let has : HasCells old.pages c.args.page (LeafPage c.in-Leaf.cells) = rw c.in-Leaf.is at (c.in_ok-cells.ensures.found told) in
    let met : next_of c.in_leaf.result ≡ in_leaf c.args.page (first_from key c.in-Leaf.cells) = simp to_z-of_z at c.in_leaf.ensures.is in
    sought_leaf c.args.left old.pages key c.args.above (from_of c.args.from) c.args.page c.in-Leaf.cells (next_of c.in_leaf.result) c.in_ok-cells.ensures.within has met

pub seek-returns-clause-empty : goal.seek-returns-clause-empty
seek-returns-clause-empty g t c = λ told.
    let pages = (g.S.PageSpace.state c.args.space.now).pages in
    let key = c.args.search.now.key in
    let P : Next → Type 0 = λ next. HasSought c.args.left pages key c.args.above below_all c.args.page next in
    let nothing : next_of c.in_ok-found.found ≡ Nothing = ap next_of (is_none c.in_ok-found.found (sym c.is_some-2.ensures ∙ c.if-is_some-2.false)) in
    empty_more pages key c.seek_page-2.new.search.empty c.insert.new.self c.args.left c.args.above c.args.page (c.in_ok-found.ensures.empty told) (subst P nothing (c.in_ok-found.ensures.found told))
    c.in_ok-insert.ensures.updates
