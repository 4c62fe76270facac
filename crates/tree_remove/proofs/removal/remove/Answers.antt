use Rattle.std.proofs.Common.{◌≡◌, inl, inr, ℕ, ℤ, None, sym, subst}
use Rattle.std.specs.Int.{w64}
use Rattle.std.proofs.lemmas.Int.{to_z-of_z}
use Rattle.std.proofs.lemmas.Result.{err_from_is_err_and}
use Rattle.tree_page.specs.Written.{Fits}
use Rattle.tree_page.specs.declared.cell.PageCells.TheVariants.{Leaf}
use Rattle.tree_plan.specs.Plan.{cell_of}
use Rattle.tree_model.specs.declared.ends.Fault.{Fault}
use Rattle.tree_model.specs.declared.ends.PathEnd.TheVariants.{Ends}
use Rattle.tree_model.specs.Walk.{Path}
use Rattle.tree_search.specs.Search.{Descends, SearchRefused}
use Rattle.tree_remove.proofs.LeafLemmas.{taken_kept, others_fit, leaf_planned, leaf_left}
use Rattle.tree_remove.proofs.RemoveLemmas.{shrink_refused_on, begun, removed_is, stops_settling, stops_freeing}
use Rattle.tree_remove.proofs.removal.remove.Goals as goal

pub returns-in_err-levels-clause-refused : goal.returns-in_err-levels-clause-refused
returns-in_err-levels-clause-refused g c =
    let state = g.S.PageSpace.state in
    let old = state c.args.space.now in
    let key_fits = c.ranges.rowid in
    let A : Fault → Type 0 = λ fault. Path None old.pages c.args.root c.args.rowid (Ends fault) in
    let refused : SearchRefused old (state c.descend.new.space) A c.in_err-levels.field-0.0 = simp to_z-of_z at c.in_err-levels.ensures.refused in
    let p = err_from_is_err_and c.from_residual.result c.from_residual.ensures.1 in
    rw (p.1, p.2) (inl (c.in_err-levels.ensures.stays, refused))

pub returns-in_default-clause-done : goal.returns-in_default-clause-done
returns-in_default-clause-done g c = λ t.
    let P : ℤ → Type 0 = λ k. cell_of k c.in_ok-levels.field-0.cells ≡ None in
    let e = c.in_ok-levels.ensures in
    let d = c.in_ok-levels.field-0 in
    let D : ℤ → Type 0 = λ k. Descends (g.S.PageSpace.state c.args.space.now).pages k c.args.root d.levels.items d.leaf d.cells in
    (e.stays.pages_stay t, record { descent = d; found = subst D (to_z-of_z w64 c.args.rowid c.ranges.rowid) (e.found t); none = subst P (to_z-of_z w64 c.args.rowid c.ranges.rowid) c.in_default.ensures.none })

pub shrink-requires-clause-planned : goal.shrink-requires-clause-planned
shrink-requires-clause-planned g c =
    let mid = g.S.PageSpace.state c.descend.new.space in
    let d = c.in_ok-levels.field-0 in
    let e = c.in_ok-levels.ensures in
    let P : ℕ → Type 0 = λ u. Fits (Leaf d.cells) d.leaf u in
    let fits = subst P (sym e.steady.used) e.sound.fits in
    leaf_planned d.leaf mid.pages.usable c.in-Some.field-0.others c.left_of_leaf-left.result
    (c.left_of_leaf-left.ensures d.leaf mid.pages.usable (others_fit _ d.leaf mid.pages.usable d.cells c.in-Some.field-0 fits c.in-Some.ensures.taken))

pub shrink-requires-clause-leaf : goal.shrink-requires-clause-leaf
shrink-requires-clause-leaf g c =
    let d = c.in_ok-levels.field-0 in
    let usable = (g.S.PageSpace.state c.args.space.now).pages.usable in
    leaf_left d.leaf usable c.in-Some.field-0.others c.left_of_leaf-left.result
    (c.left_of_leaf-left.ensures d.leaf usable (others_fit _ d.leaf usable d.cells c.in-Some.field-0 c.in_ok-levels.ensures.sound.fits c.in-Some.ensures.taken))

pub returns-in_err-shrunk-clause-refused : goal.returns-in_err-shrunk-clause-refused
returns-in_err-shrunk-clause-refused g c =
    let state = g.S.PageSpace.state in
    let p = err_from_is_err_and c.from_residual-in_err-shrunk.result c.from_residual-in_err-shrunk.ensures.1 in
    let e = c.in_ok-levels.ensures in
    let d = c.in_ok-levels.field-0 in
    let D : ℤ → Type 0 = λ k. Descends (state c.args.space.now).pages k c.args.root d.levels.items d.leaf d.cells in
    rw (p.1, p.2) (inr (inl (record {
      descent = d;
      found = λ t. subst D (to_z-of_z w64 c.args.rowid c.ranges.rowid) (e.found t);
      refused = shrink_refused_on (state c.args.space.now) (state c.descend.new.space) (state c.shrink.new.space) d.levels.items c.in_err-shrunk.field-0.0 e.steady e.stays c.in_err-shrunk.ensures.refused;
    })))

pub returns-in_err-settle-clause-refused : goal.returns-in_err-settle-clause-refused
returns-in_err-settle-clause-refused g c =
    let state = g.S.PageSpace.state in
    let old = state c.args.space.now in
    let d = c.in_ok-levels.field-0 in
    let e = c.in_ok-levels.ensures in
    let first = c.in-Some.ensures.taken in
    let begun_now = begun {descent = d} {taken = c.in-Some.field-0} {left = c.left_of_leaf-left.result} {shrunk = c.in_ok-shrunk.shrunk} c.args.rowid (to_z-of_z w64 c.args.rowid c.ranges.rowid) e.steady e.stays c.in_ok-shrunk.ensures.steady e.found first
    (c.left_of_leaf-left.ensures d.leaf old.pages.usable (others_fit _ d.leaf old.pages.usable d.cells c.in-Some.field-0 e.sound.fits first)) c.in_ok-shrunk.ensures.shrunk in
    let p = err_from_is_err_and c.from_residual-in_err-settle.result c.from_residual-in_err-settle.ensures.1 in
    rw (p.1, p.2) (stops_settling (state c.settle.new.space) c.in_err-settle.field-0.0 begun_now c.in_err-settle.ensures.steady c.in_err-settle.ensures.refused)

pub free_cell-requires-clause-kept : goal.free_cell-requires-clause-kept
free_cell-requires-clause-kept g c =
    let d = c.in_ok-levels.field-0 in
    let old = g.S.PageSpace.state c.args.space.now in
    taken_kept _ d.leaf old.pages.usable d.cells c.in-Some.field-0 c.in_ok-levels.ensures.sound.fits c.in-Some.ensures.taken

pub returns-in_err-free_cell-clause-refused : goal.returns-in_err-free_cell-clause-refused
returns-in_err-free_cell-clause-refused g c =
    let state = g.S.PageSpace.state in
    let old = state c.args.space.now in
    let d = c.in_ok-levels.field-0 in
    let e = c.in_ok-levels.ensures in
    let first = c.in-Some.ensures.taken in
    let begun_now = begun {descent = d} {taken = c.in-Some.field-0} {left = c.left_of_leaf-left.result} {shrunk = c.in_ok-shrunk.shrunk} c.args.rowid (to_z-of_z w64 c.args.rowid c.ranges.rowid) e.steady e.stays c.in_ok-shrunk.ensures.steady e.found first
    (c.left_of_leaf-left.ensures d.leaf old.pages.usable (others_fit _ d.leaf old.pages.usable d.cells c.in-Some.field-0 e.sound.fits first)) c.in_ok-shrunk.ensures.shrunk in
    let z = c.in_ok-settle.ensures in
    let p = err_from_is_err_and c.from_residual-in_err-free_cell.result c.from_residual-in_err-free_cell.ensures.1 in
    rw (p.1, p.2)
    (stops_freeing (state c.free_cell.new.space) c.in_err-free_cell.field-0.0 begun_now z.steady z.size z.settled c.in_err-free_cell.ensures.steady c.in_err-free_cell.ensures.refused)

pub returns-clause-done : goal.returns-clause-done
returns-clause-done g c = λ t.
    let state = g.S.PageSpace.state in
    let old = state c.args.space.now in
    let d = c.in_ok-levels.field-0 in
    let e = c.in_ok-levels.ensures in
    let first = c.in-Some.ensures.taken in
    let begun_now = begun {descent = d} {taken = c.in-Some.field-0} {left = c.left_of_leaf-left.result} {shrunk = c.in_ok-shrunk.shrunk} c.args.rowid (to_z-of_z w64 c.args.rowid c.ranges.rowid) e.steady e.stays c.in_ok-shrunk.ensures.steady e.found first
    (c.left_of_leaf-left.ensures d.leaf old.pages.usable (others_fit _ d.leaf old.pages.usable d.cells c.in-Some.field-0 e.sound.fits first)) c.in_ok-shrunk.ensures.shrunk in
    let z = c.in_ok-settle.ensures in
    let f = c.in_ok-free_cell.ensures in
    removed_is (state c.settle.new.space) (state c.free_cell.new.space) t begun_now z.steady z.settled f.freed z.changed f.noted f.changed
