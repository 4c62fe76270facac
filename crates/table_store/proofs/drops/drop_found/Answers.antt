use Rattle.std.proofs.Common.{IsTrue, SFits, w64}
use Rattle.std.proofs.lemmas.Int.{to_z-of_z}
use Rattle.std.proofs.lemmas.Result.{err_from_is_err_and}
use Rattle.payload_chain.proofs.StateLemmas.{here, steady-on}
use Rattle.tree_remove.specs.Remove.{RemoveDone, RemoveRefused}
use Rattle.rowid_tree.specs.Removes.{RemovesRow, MayBeLargeWithout}
use Rattle.table_store.specs.Dropped.{EntryFound, EntryTaken, TreeGiven}
use Rattle.table_store.proofs.DropStepLemmas.{entry_found, entry_taken, tree_given, drop_done, stops_at_row, stops_at_tree, stops_at_cookie}
use Rattle.table_store.proofs.drops.drop_found.Goals as goal

pub returns-in_err-_removed-clause-refused : goal.returns-in_err-_removed-clause-refused
returns-in_err-_removed-clause-refused g c =
    let state = g.S.PageSpace.state in
    let old = state c.args.space.now in
    let mid = state c.find_entry.new.space in
    let name = c.args.name.now in
    let entry = c.in_ok-entry.entry in
    let first = c.in_ok-entry.ensures in
    let key_fits : SFits w64 entry.rowid = search c in
    let found : EntryFound old (here mid) name entry.root entry.rowid = entry_found first.stays first.found in
    let new = state c.remove.new.space in
    let stops = c.in_err-_removed.ensures in
    let fault = c.in_err-_removed.field-0.0 in
    let refused : RemoveRefused mid new 1 entry.rowid fault = simp to_z-of_z at stops.refused in
    let large : IsTrue mid.tells → MayBeLargeWithout mid.pages 1 entry.rowid mid.page_size fault = simp to_z-of_z at stops.large in
    let p = err_from_is_err_and c.from_residual-in_err-_removed.result c.from_residual-in_err-_removed.ensures.1 in
    rw (p.1, p.2) (stops_at_row old mid new name entry.root entry.rowid fault first.steady stops.steady found refused large stops.clean)

pub returns-in_err-give_tree-clause-refused : goal.returns-in_err-give_tree-clause-refused
returns-in_err-give_tree-clause-refused g c =
    let state = g.S.PageSpace.state in
    let old = state c.args.space.now in
    let mid = state c.find_entry.new.space in
    let name = c.args.name.now in
    let entry = c.in_ok-entry.entry in
    let first = c.in_ok-entry.ensures in
    let key_fits : SFits w64 entry.rowid = search c in
    let found : EntryFound old (here mid) name entry.root entry.rowid = entry_found first.stays first.found in
    let taken = state c.remove.new.space in
    let second = c.in_ok-_removed.ensures in
    let removed = c.in_ok-_removed._removed in
    let done : IsTrue mid.tells → RemoveDone mid.page_size mid.pages taken.pages taken.changed 1 entry.rowid removed = simp to_z-of_z at second.done in
    let removes : IsTrue mid.tells → RemovesRow mid.pages taken.pages 1 entry.rowid removed = simp to_z-of_z at second.removes in
    let before : EntryTaken old (here taken) name entry.root entry.rowid = entry_taken removed first.steady first.stays found done second.nothing removes in
    let to_taken = steady-on first.steady second.steady in
    let new = state c.give_tree.new.space in
    let stops = c.in_err-give_tree.ensures in
    let fault = c.in_err-give_tree.field-0.0 in
    let p = err_from_is_err_and c.from_residual-in_err-give_tree.result c.from_residual-in_err-give_tree.ensures.1 in
    rw (p.1, p.2) (stops_at_tree old taken new name entry.root entry.rowid fault to_taken stops.steady before stops.refused stops.clean)

pub returns-in_err-raise_cookie-clause-refused : goal.returns-in_err-raise_cookie-clause-refused
returns-in_err-raise_cookie-clause-refused g c =
    let state = g.S.PageSpace.state in
    let old = state c.args.space.now in
    let mid = state c.find_entry.new.space in
    let name = c.args.name.now in
    let entry = c.in_ok-entry.entry in
    let first = c.in_ok-entry.ensures in
    let key_fits : SFits w64 entry.rowid = search c in
    let found : EntryFound old (here mid) name entry.root entry.rowid = entry_found first.stays first.found in
    let taken = state c.remove.new.space in
    let second = c.in_ok-_removed.ensures in
    let removed = c.in_ok-_removed._removed in
    let done : IsTrue mid.tells → RemoveDone mid.page_size mid.pages taken.pages taken.changed 1 entry.rowid removed = simp to_z-of_z at second.done in
    let removes : IsTrue mid.tells → RemovesRow mid.pages taken.pages 1 entry.rowid removed = simp to_z-of_z at second.removes in
    let before : EntryTaken old (here taken) name entry.root entry.rowid = entry_taken removed first.steady first.stays found done second.nothing removes in
    let to_taken = steady-on first.steady second.steady in
    let given = state c.give_tree.new.space in
    let third = c.in_ok-give_tree.ensures in
    let gone : TreeGiven old (here given) name entry.root entry.rowid = tree_given to_taken before third.freed third.removes in
    let to_given = steady-on to_taken third.steady in
    let new = state c.raise_cookie.new.space in
    let stops = c.in_err-raise_cookie.ensures in
    let fault = c.in_err-raise_cookie.field-0.0 in
    let p = err_from_is_err_and c.from_residual-in_err-raise_cookie.result c.from_residual-in_err-raise_cookie.ensures.1 in
    rw (p.1, p.2) (stops_at_cookie old given new name entry.root entry.rowid fault to_given gone stops.refused)

pub returns-clause-done : goal.returns-clause-done
returns-clause-done g c =
    let state = g.S.PageSpace.state in
    let old = state c.args.space.now in
    let mid = state c.find_entry.new.space in
    let name = c.args.name.now in
    let entry = c.in_ok-entry.entry in
    let first = c.in_ok-entry.ensures in
    let key_fits : SFits w64 entry.rowid = search c in
    let found : EntryFound old (here mid) name entry.root entry.rowid = entry_found first.stays first.found in
    let taken = state c.remove.new.space in
    let second = c.in_ok-_removed.ensures in
    let removed = c.in_ok-_removed._removed in
    let done : IsTrue mid.tells → RemoveDone mid.page_size mid.pages taken.pages taken.changed 1 entry.rowid removed = simp to_z-of_z at second.done in
    let removes : IsTrue mid.tells → RemovesRow mid.pages taken.pages 1 entry.rowid removed = simp to_z-of_z at second.removes in
    let before : EntryTaken old (here taken) name entry.root entry.rowid = entry_taken removed first.steady first.stays found done second.nothing removes in
    let to_taken = steady-on first.steady second.steady in
    let given = state c.give_tree.new.space in
    let third = c.in_ok-give_tree.ensures in
    let gone : TreeGiven old (here given) name entry.root entry.rowid = tree_given to_taken before third.freed third.removes in
    let to_given = steady-on to_taken third.steady in
    drop_done to_given gone c.in_ok-raise_cookie.ensures.raised
