use Rattle.std.proofs.Common.{inr, IsTrue, SFits, w64, subst}
use Rattle.std.proofs.lemmas.Int.{to_z-of_z}
use Rattle.std.proofs.lemmas.Result.{err_from_is_err_and}
use Rattle.payload_chain.proofs.StateLemmas.{here, steady-on}
use Rattle.tree_write.proofs.WriteLemmas.{noted-on}
use Rattle.book_model.specs.Book.{Name}
use Rattle.table_store.specs.Made.{IsFreeIn, NameFree, Begun, Rooted, Entered, EntryPut, EntryRefused}
use Rattle.table_store.proofs.CreateStepLemmas.{name_free, begun, rooted, entered, make_done, stops_at_first, stops_at_new_root, stops_at_entry, stops_at_new_cookie}
use Rattle.table_store.proofs.creates.make_table.Goals as goal

pub returns-in_err-begin-clause-refused : goal.returns-in_err-begin-clause-refused
returns-in_err-begin-clause-refused g c =
    let state = g.S.PageSpace.state in
    let old = state c.args.space.now in
    let found = state c.free_entry.new.space in
    let table = c.args.table.now in
    let entry = c.in_ok-entry.entry in
    let first = c.in_ok-entry.ensures in
    let key_fits : SFits w64 entry = search c in
    let F : Name → Type 0 = λ n. IsTrue old.tells → IsFreeIn old.pages n entry in
    let free : NameFree old (here found) table.name entry = name_free first.stays (subst F c.as_slice.ensures first.found) in
    let new = state c.begin.new.space in
    let stops = c.in_err-begin.ensures in
    let fault = c.in_err-begin.field-0.0 in
    let p = err_from_is_err_and c.from_residual-in_err-begin.result c.from_residual-in_err-begin.ensures.1 in
    rw (p.1, p.2) (stops_at_first table fault first.steady stops.steady free stops.refused)

pub returns-in_err-root-clause-refused : goal.returns-in_err-root-clause-refused
returns-in_err-root-clause-refused g c =
    let state = g.S.PageSpace.state in
    let old = state c.args.space.now in
    let found = state c.free_entry.new.space in
    let table = c.args.table.now in
    let entry = c.in_ok-entry.entry in
    let first = c.in_ok-entry.ensures in
    let key_fits : SFits w64 entry = search c in
    let F : Name → Type 0 = λ n. IsTrue old.tells → IsFreeIn old.pages n entry in
    let free : NameFree old (here found) table.name entry = name_free first.stays (subst F c.as_slice.ensures first.found) in
    let second = c.in_ok-begin.ensures in
    let started = state c.begin.new.space in
    let with_first : Begun old (here started) table.name entry = begun first.steady free second.begins in
    let to_started = steady-on first.steady second.steady in
    let new = state c.make_root.new.space in
    let stops = c.in_err-root.ensures in
    let fault = c.in_err-root.field-0.0 in
    let p = err_from_is_err_and c.from_residual-in_err-root.result c.from_residual-in_err-root.ensures.1 in
    rw (p.1, p.2) (stops_at_new_root table fault to_started stops.steady with_first stops.refused)

pub returns-in_err-put_entry-clause-refused : goal.returns-in_err-put_entry-clause-refused
returns-in_err-put_entry-clause-refused g c =
    let state = g.S.PageSpace.state in
    let old = state c.args.space.now in
    let found = state c.free_entry.new.space in
    let table = c.args.table.now in
    let entry = c.in_ok-entry.entry in
    let first = c.in_ok-entry.ensures in
    let key_fits : SFits w64 entry = search c in
    let F : Name → Type 0 = λ n. IsTrue old.tells → IsFreeIn old.pages n entry in
    let free : NameFree old (here found) table.name entry = name_free first.stays (subst F c.as_slice.ensures first.found) in
    let second = c.in_ok-begin.ensures in
    let started = state c.begin.new.space in
    let with_first : Begun old (here started) table.name entry = begun first.steady free second.begins in
    let to_started = steady-on first.steady second.steady in
    let third = c.in_ok-root.ensures in
    let number = c.in_ok-root.root in
    let made = state c.make_root.new.space in
    let with_root : Rooted old (here made) table.name entry number = rooted to_started with_first third.made third.adds in
    let to_made = steady-on to_started third.steady in
    let new = state c.put_entry.new.space in
    let stops = c.in_err-put_entry.ensures in
    let fault = c.in_err-put_entry.field-0.0 in
    let refused : EntryRefused made new table number entry fault = simp to_z-of_z at stops.refused in
    let p = err_from_is_err_and c.from_residual-in_err-put_entry.result c.from_residual-in_err-put_entry.ensures.1 in
    rw (p.1, p.2) (stops_at_entry table fault to_made stops.steady with_root refused)

pub returns-in_err-raise_cookie-clause-steady : goal.returns-in_err-raise_cookie-clause-steady
returns-in_err-raise_cookie-clause-steady g c =
    let to_started = steady-on c.in_ok-entry.ensures.steady c.in_ok-begin.ensures.steady in
    let to_put = steady-on (steady-on to_started c.in_ok-root.ensures.steady) c.in_ok-put_entry.ensures.steady in
    steady-on to_put c.in_err-raise_cookie.ensures.steady

pub returns-in_err-raise_cookie-clause-noted : goal.returns-in_err-raise_cookie-clause-noted
returns-in_err-raise_cookie-clause-noted g c =
    let first = c.in_ok-entry.ensures in
    let to_started = steady-on first.steady c.in_ok-begin.ensures.steady in
    let to_made = steady-on to_started c.in_ok-root.ensures.steady in
    let to_put = steady-on to_made c.in_ok-put_entry.ensures.steady in
    let made = noted-on to_started (noted-on first.steady (inr first.stays) c.in_ok-begin.ensures.noted) c.in_ok-root.ensures.noted in
    noted-on to_put (noted-on to_made made c.in_ok-put_entry.ensures.noted) c.in_err-raise_cookie.ensures.noted

pub returns-in_err-raise_cookie-clause-refused : goal.returns-in_err-raise_cookie-clause-refused
returns-in_err-raise_cookie-clause-refused g c =
    let state = g.S.PageSpace.state in
    let old = state c.args.space.now in
    let found = state c.free_entry.new.space in
    let table = c.args.table.now in
    let entry = c.in_ok-entry.entry in
    let first = c.in_ok-entry.ensures in
    let key_fits : SFits w64 entry = search c.in_ok-entry in
    let F : Name → Type 0 = λ n. IsTrue old.tells → IsFreeIn old.pages n entry in
    let free : NameFree old (here found) table.name entry = name_free first.stays (subst F c.as_slice.ensures first.found) in
    let second = c.in_ok-begin.ensures in
    let started = state c.begin.new.space in
    let with_first : Begun old (here started) table.name entry = begun first.steady free second.begins in
    let to_started = steady-on first.steady second.steady in
    let third = c.in_ok-root.ensures in
    let number = c.in_ok-root.root in
    let made = state c.make_root.new.space in
    let with_root : Rooted old (here made) table.name entry number = rooted to_started with_first third.made third.adds in
    let to_made = steady-on to_started third.steady in
    let fourth = c.in_ok-put_entry.ensures in
    let put = state c.put_entry.new.space in
    let row : EntryPut made put table number entry = simp to_z-of_z at fourth.put in
    let with_row : Entered old (here put) table entry number = entered to_made with_root row in
    let to_put = steady-on to_made fourth.steady in
    let new = state c.raise_cookie.new.space in
    let stops = c.in_err-raise_cookie.ensures in
    let fault = c.in_err-raise_cookie.field-0.0 in
    let p = err_from_is_err_and c.from_residual-in_err-raise_cookie.result c.from_residual-in_err-raise_cookie.ensures.1 in
    rw (p.1, p.2) (stops_at_new_cookie table fault to_put with_row stops.refused)

pub returns-clause-done : goal.returns-clause-done
returns-clause-done g c =
    let state = g.S.PageSpace.state in
    let old = state c.args.space.now in
    let found = state c.free_entry.new.space in
    let table = c.args.table.now in
    let entry = c.in_ok-entry.entry in
    let first = c.in_ok-entry.ensures in
    let key_fits : SFits w64 entry = search c.in_ok-entry in
    let F : Name → Type 0 = λ n. IsTrue old.tells → IsFreeIn old.pages n entry in
    let free : NameFree old (here found) table.name entry = name_free first.stays (subst F c.as_slice.ensures first.found) in
    let second = c.in_ok-begin.ensures in
    let started = state c.begin.new.space in
    let with_first : Begun old (here started) table.name entry = begun first.steady free second.begins in
    let to_started = steady-on first.steady second.steady in
    let third = c.in_ok-root.ensures in
    let number = c.in_ok-root.root in
    let made = state c.make_root.new.space in
    let with_root : Rooted old (here made) table.name entry number = rooted to_started with_first third.made third.adds in
    let to_made = steady-on to_started third.steady in
    let fourth = c.in_ok-put_entry.ensures in
    let put = state c.put_entry.new.space in
    let row : EntryPut made put table number entry = simp to_z-of_z at fourth.put in
    let with_row : Entered old (here put) table entry number = entered to_made with_root row in
    let to_put = steady-on to_made fourth.steady in
    make_done to_put with_row c.in_ok-raise_cookie.ensures.raised

pub returns-clause-steady : goal.returns-clause-steady
returns-clause-steady g c =
    let to_started = steady-on c.in_ok-entry.ensures.steady c.in_ok-begin.ensures.steady in
    let to_put = steady-on (steady-on to_started c.in_ok-root.ensures.steady) c.in_ok-put_entry.ensures.steady in
    steady-on to_put c.in_ok-raise_cookie.ensures.steady
