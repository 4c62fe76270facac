use Rattle.std.proofs.Common.{◌≡◌, ◌≤◌, ◌+◌, ◌∷◌, ◌++◌, ℕ, List, length, map, take, drop, sym, subst}
use Rattle.std.specs.List.{AllByRecursion}
use Rattle.std.proofs.lemmas.Result.{err_from_is_err_and}
use Rattle.payload_chain.specs.Chains.{HasPages}
use Rattle.payload_chain.proofs.StateLemmas.{steady-same, stays-same, steady-on, stays-on}
use Rattle.db_format.specs.declared.fault.SpaceFault.{SpaceFault}
use Rattle.tree_page.specs.Page.{leaf}
use Rattle.tree_page.specs.Written.{IsSound}
use Rattle.tree_page.specs.declared.cell.LeafCell.{LeafCell}
use Rattle.tree_model.specs.Walk.{rest_of}
use Rattle.tree_search.specs.Search.{SearchRefused}
use Rattle.tree_free.specs.Steps.{LeafGone, LeafMeets}
use Rattle.tree_free.proofs.RowLemmas.{leaf_none, leaf_more, kept_at}
use Rattle.tree_free.proofs.WalkLemmas.{split_list, front_more, has_pages_on, cell_refused, chain_refused}
use Rattle.tree_free.proofs.collect.collect_rows.Goals as goal

kept_in : (usable : ℕ) (items cells : List LeafCell) (i : ℕ) (cell : LeafCell) → items ≡ cells → items ≡ take i items ++ cell ∷ drop (i + 1) items
    → AllByRecursion (IsSound usable) (map leaf cells) → length cell.local ≤ cell.payload_len
kept_in usable items cells i cell same are sound =
    let P : List LeafCell → Type 0 = λ l. AllByRecursion (IsSound usable) (map leaf l) in
    kept_at usable (take i items) cell (drop (i + 1) items) (subst P are (subst P (sym same) sound))

pub loop-cell-init : goal.loop-cell-init
loop-cell-init g c =
    let old = g.S.PageSpace.state c.args.space.now in
    record {
      steady = steady-same c.requires.sizes;
      stays = stays-same;
      gone = leaf_none old c.args.page c.args.walk.now c.meet.new.self c.requires.there c.in_ok-meet.ensures.grown;
    }

pub pages_of_chain-requires-clause-kept : goal.pages_of_chain-requires-clause-kept
pages_of_chain-requires-clause-kept g c =
    let items = c.as_slice-cell-items.result.now in
    let i : ℕ = c.loop-cell.cell-index in
    let cell = c.cell-item.result in
    kept_in (g.S.PageSpace.state c.args.space.now).pages.usable items c.args.cells.now i cell c.as_slice-cell-items.ensures (split_list items i cell c.loop-cell-test.true c.cell-item.is) c.requires.fits.sound

pub returns-in_err-numbers-clause-refused : goal.returns-in_err-numbers-clause-refused
returns-in_err-numbers-clause-refused g c =
    let state = g.S.PageSpace.state in
    let old = state c.args.space.now in
    let mid = state c.loop-cell.space in
    let new = state c.pages_of_chain.new.space in
    let items = c.as_slice-cell-items.result.now in
    let i : ℕ = c.loop-cell.cell-index in
    let cell = c.cell-item.result in
    let fault : SpaceFault = c.in_err-numbers.field-0.0 in
    let P : List LeafCell → Type 0 = λ l. SearchRefused old new (LeafMeets old.pages c.args.page l c.args.walk.now.met) fault in
    let inv = c.loop-cell.invariant in
    let p = err_from_is_err_and c.from_residual-in_err-numbers.result c.from_residual-in_err-numbers.ensures.1 in
    rw (p.1, p.2)
    (subst P c.as_slice-cell-items.ensures
    (cell_refused old mid new c.args.page items (take i items) cell (drop (i + 1) items) c.args.walk.now.met fault inv.steady inv.stays
    (split_list items i cell c.loop-cell-test.true c.cell-item.is) c.in_err-numbers.ensures.refused))

pub returns-in_err-meet_each-clause-refused : goal.returns-in_err-meet_each-clause-refused
returns-in_err-meet_each-clause-refused g c =
    let state = g.S.PageSpace.state in
    let old = state c.args.space.now in
    let mid = state c.loop-cell.space in
    let new = state c.pages_of_chain.new.space in
    let items = c.as_slice-cell-items.result.now in
    let i : ℕ = c.loop-cell.cell-index in
    let cell = c.cell-item.result in
    let fault : SpaceFault = c.in_err-meet_each.field-0.0 in
    let are = split_list items i cell c.loop-cell-test.true c.cell-item.is in
    let kept = kept_in old.pages.usable items c.args.cells.now i cell c.as_slice-cell-items.ensures are c.requires.fits.sound in
    let P : List LeafCell → Type 0 = λ l. SearchRefused old new (LeafMeets old.pages c.args.page l c.args.walk.now.met) fault in
    let inv = c.loop-cell.invariant in
    let has : HasPages mid cell.overflow (rest_of cell) c.deref.result.now = rw c.deref.ensures.value c.in_ok-numbers.ensures.pages in
    let p = err_from_is_err_and c.from_residual-in_err-meet_each.result c.from_residual-in_err-meet_each.ensures.1 in
    rw (p.1, p.2)
    (subst P c.as_slice-cell-items.ensures
    (chain_refused c.one_chain.ensures new items cell (drop (i + 1) items) c.deref.result.now fault inv.steady inv.stays inv.gone are has kept c.in_err-meet_each.ensures.cause))

pub loop-cell-preserved : goal.loop-cell-preserved
loop-cell-preserved g c =
    let state = g.S.PageSpace.state in
    let old = state c.args.space.now in
    let mid = state c.loop-cell.space in
    let items = c.as_slice-cell-items.result.now in
    let i : ℕ = c.loop-cell.cell-index in
    let cell = c.cell-item.result in
    let are = split_list items i cell c.loop-cell-test.true c.cell-item.is in
    let kept = kept_in old.pages.usable items c.args.cells.now i cell c.as_slice-cell-items.ensures are c.requires.fits.sound in
    let inv = c.loop-cell.invariant in
    let done = c.in_ok-numbers.ensures in
    let has : HasPages mid cell.overflow (rest_of cell) c.deref.result.now = rw c.deref.ensures.value done.pages in
    let P : List LeafCell → Type 0 = λ l. LeafGone old c.args.page l c.args.walk.now c.meet_each.new.self in
    record {
      steady = steady-on inv.steady done.steady;
      stays = stays-on inv.steady inv.stays done.stays;
      gone = subst P (front_more items i cell c.loop-cell-test.true c.cell-item.is)
          (leaf_more c.meet_each.new.self cell c.deref.result.now inv.gone (has_pages_on inv.steady inv.stays has) kept c.in_ok-meet_each.ensures.grown);
    }
