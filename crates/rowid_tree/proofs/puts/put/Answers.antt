use Rattle.std.proofs.Common.{◌<ℤ◌, ◌≤ℤ◌, IfOk, IfErr, IsTrue, SFits, w64, arith}
use Rattle.std.proofs.lemmas.Int.{to_z-of_z, ints}
use Rattle.std.proofs.lemmas.Result.{IfOk-weaker, IfErr-weaker}
use Rattle.tree_model.specs.Whole.{below_all, greatest}
use Rattle.rowid_tree.specs.Puts.{PutDone, PutsRow, PutRefused, MayBeLarge, IsSoundlyRefused, HasWholeTree}
use Rattle.rowid_tree.proofs.WholeLemmas.{puts_row}
use Rattle.rowid_tree.proofs.LargeLemmas.{may_be_large}
use Rattle.rowid_tree.proofs.SoundLemmas.{soundly_refused}
use Rattle.rowid_tree.proofs.ChangedLemmas.{put_changes}
use Rattle.rowid_tree.proofs.puts.put.Goals as goal

pub returns-clause-puts : goal.returns-clause-puts
returns-clause-puts g c = λ t.
    let state = g.S.PageSpace.state in
    let old = state c.args.space.now in
    let new = state c.put_row.new.space in
    let key_fits : SFits w64 c.args.rowid = c.ranges.rowid in
    let above : below_all <ℤ c.args.rowid = omega (arith, ints, key_fits) in
    let below : c.args.rowid ≤ℤ greatest = omega (arith, ints, key_fits) in
    let done : IfOk c.put_row.result (PutDone old new c.args.root c.args.rowid c.args.payload.now) = simp to_z-of_z at c.put_row.ensures.done in
    IfOk-weaker c.put_row.result (PutDone old new c.args.root c.args.rowid c.args.payload.now) (PutsRow old.pages new.pages c.args.root c.args.rowid c.args.payload.now)
    (λ replaced put. puts_row c.put_keeps_whole.ensures old new c.args.root c.args.rowid c.args.payload.now replaced t above below put) done

pub returns-clause-large : goal.returns-clause-large
returns-clause-large g c = λ t.
    let state = g.S.PageSpace.state in
    let old = state c.args.space.now in
    let new = state c.put_row.new.space in
    let key_fits : SFits w64 c.args.rowid = c.ranges.rowid in
    let above : below_all <ℤ c.args.rowid = omega (arith, ints, key_fits) in
    let below : c.args.rowid ≤ℤ greatest = omega (arith, ints, key_fits) in
    let refused : IfErr c.put_row.result (PutRefused old new c.args.root c.args.rowid c.args.payload.now) = simp to_z-of_z at c.put_row.ensures.refused in
    IfErr-weaker c.put_row.result (PutRefused old new c.args.root c.args.rowid c.args.payload.now)
    (MayBeLarge old.pages c.args.root c.args.rowid c.args.payload.now old.page_size)
    (λ fault stops. may_be_large c.put_may_be_large.ensures old new c.args.root c.args.rowid c.args.payload.now fault t above below stops) refused

pub returns-clause-clean : goal.returns-clause-clean
returns-clause-clean g c = λ t.
    let state = g.S.PageSpace.state in
    let old = state c.args.space.now in
    let new = state c.put_row.new.space in
    let key_fits : SFits w64 c.args.rowid = c.ranges.rowid in
    let above : below_all <ℤ c.args.rowid = omega (arith, ints, key_fits) in
    let below : c.args.rowid ≤ℤ greatest = omega (arith, ints, key_fits) in
    let refused : IfErr c.put_row.result (PutRefused old new c.args.root c.args.rowid c.args.payload.now) = simp to_z-of_z at c.put_row.ensures.refused in
    IfErr-weaker c.put_row.result (PutRefused old new c.args.root c.args.rowid c.args.payload.now) (IsSoundlyRefused old.pages c.args.root)
    (λ fault stops. soundly_refused c.front_apart.ensures c.header_in_front.ensures c.one_page.ensures c.one_path.ensures c.path_finds.ensures old new c.args.root c.args.rowid
    c.args.payload.now fault t above below stops) refused

pub returns-clause-changed : goal.returns-clause-changed
returns-clause-changed g c =
    let state = g.S.PageSpace.state in
    let old = state c.args.space.now in
    let new = state c.put_row.new.space in
    let key_fits : SFits w64 c.args.rowid = c.ranges.rowid in
    let above : below_all <ℤ c.args.rowid = omega (arith, ints, key_fits) in
    let below : c.args.rowid ≤ℤ greatest = omega (arith, ints, key_fits) in
    let done : IfOk c.put_row.result (PutDone old new c.args.root c.args.rowid c.args.payload.now) = simp to_z-of_z at c.put_row.ensures.done in
    IfOk-weaker c.put_row.result (PutDone old new c.args.root c.args.rowid c.args.payload.now) (λ _. IsTrue old.tells → HasWholeTree old.pages c.args.root → IsTrue new.changed)
    (λ replaced put t whole. put_changes c.front_apart.ensures c.one_page.ensures old new c.args.root c.args.rowid c.args.payload.now replaced t above below put whole) done
