-- Where a change is too large, and where a scan is cut off.
use Rattle.std.proofs.Common.{◌≡◌, inl, inr, ℕ, ℤ, ◌≤◌, ◌⊎◌, ◌==◌, ◌&&◌, Bool, true, false, not, cond, List, [], ◌∷◌, length, take, length-take, Option, Some, None, refl, ap, sym, ◌∙◌, subst, arith}
use Rattle.std.specs.Prelude.{nat_lt, nat_le, MatchBool}
use Rattle.std.specs.List.{list_any}
use Rattle.std.specs.FinMap as map
use Rattle.std.proofs.lemmas.Bool.{lt-ltb, le-leb, ltb-true, leb-true}
use Rattle.vfs_model.specs.declared.level.Level.TheVariants.{Shared, Reserved}
use Rattle.db_format.specs.declared.value.Value.{Value}
use Rattle.shell_lang.specs.declared.command.Command.{Command}
use Rattle.shell_lang.specs.declared.command.Command.TheVariants as command
use Rattle.shell_lang.specs.declared.reply.Reply.{Reply}
use Rattle.shell_lang.specs.declared.reply.Reply.TheVariants as reply
use Rattle.shell_lang.specs.declared.reply.ScanEnd.TheVariants as last
use Rattle.book_model.specs.Book.{Book, Name, Row, table_at, is_plain, is_foreign, is_taken, has_row}
use Rattle.shell_model.specs.State.{State, is_inside, is_refused, reached, halted, seen}
use Rattle.shell_model.specs.Cases.{Pick, Case, due, may, Allows, cases_of, looking, row_reply, rows_reply, rows_between, is_long}
use Rattle.shell_model.specs.Step.{Step, IsFair}
use Rattle.shell_laws.specs.Free.{may_write, finds, accepts, may_change, may_scan, IsFront, MayCut, MayPass}
use Rattle.shell_laws.specs.Laws.{fewest}
use Rattle.shell_laws.proofs.CaseLemmas.{LeadsTo}
use Rattle.shell_laws.proofs.ChangeLemmas.{reads, looks, may_pass}
use Rattle.shell_laws.proofs.TestLemmas.{goes, both, and_first, and_second, not_true, not_false, at_false, writes_of, finds_of}

-- ---- a change that is too large

abbrev pub is_large : Reply → Bool
is_large (reply.Large pages) = true
is_large _ = false

no_large_put : (there : Bool) → is_large (cond there reply.Replaced reply.New) ≡ false
no_large_put true = refl
no_large_put false = refl

no_large_row : (rowid : ℤ) (found : Option Row) → is_large (row_reply rowid found) ≡ false
no_large_row rowid None = refl
no_large_row rowid (Some row) = refl

pub larges : (pick : Pick) (s : State) (who : ℕ) (asked : Command) (pages : ℕ) (next : State) → LeadsTo is_large (cases_of pick s who asked) (reply.Large pages) next →
    MayPass s who asked pages × (next ≡ reached s who Reserved)
larges pick s who (command.Create table columns) pages next l =
    let taken : Bool = is_taken (seen s who) table.name in
    let may = both (may_write s who) (not taken) (writes_of s who l.0 l.1.0 l.1.1.0) (goes taken l.1.1.1.0) in
    elim l.1.1.1.1 [ inl here ↦ (may_pass pick s who (command.Create table columns) pages may here.0 here.1, here.2) | inr rest ↦ absurd rest.1.1.1.1 ]
larges pick s who (command.Drop table) pages next l =
    let may = both (may_write s who) (finds s who table.name) (writes_of s who l.0 l.1.0 l.1.1.0) (finds_of (is_plain (seen s who) table.name) (is_foreign (seen s who) table.name) l.1.1.1.0 l.1.1.1.1.0) in
    elim l.1.1.1.1.1 [ inl here ↦ (may_pass pick s who (command.Drop table) pages may here.0 here.1, here.2) | inr rest ↦ absurd rest.1.1.1.1 ]
larges pick s who (command.Put table rowid values) pages next l =
    let wide : Bool = length values == length (table_at (seen s who) table.name).columns in
    let long : Bool = list_any is_long values in
    let there : Bool = has_row (seen s who) table.name rowid in
    let may = both (may_write s who) (finds s who table.name && accepts s who table.name values) (writes_of s who l.0 l.1.0 l.1.1.0)
    (both (finds s who table.name) (accepts s who table.name values) (finds_of (is_plain (seen s who) table.name) (is_foreign (seen s who) table.name) l.1.1.1.0 l.1.1.1.1.0)
    (both wide (not long) (not_false wide l.1.1.1.1.1.0) (goes long l.1.1.1.1.1.1.0))) in
    elim l.1.1.1.1.1.1.1 [
      | inl here ↦ (may_pass pick s who (command.Put table rowid values) pages may here.0 here.1, here.2)
      | inr rest ↦
          (let tail = at_false (is_large (cond there reply.Replaced reply.New)) _ _ (no_large_put there) rest in
          absurd ((at_false (is_large (cond there reply.Replaced reply.New)) _ _ (no_large_put there) tail.1.1.1).1))
    ]
larges pick s who (command.Del table rowid) pages next l =
    let there : Bool = has_row (seen s who) table.name rowid in
    let may = both (may_write s who) (finds s who table.name && there) (writes_of s who l.0 l.1.0 l.1.1.0)
    (both (finds s who table.name) there (finds_of (is_plain (seen s who) table.name) (is_foreign (seen s who) table.name) l.1.1.1.0 l.1.1.1.1.0) (not_false there l.1.1.1.1.1.0)) in
    elim l.1.1.1.1.1.1 [ inl here ↦ (may_pass pick s who (command.Del table rowid) pages may here.0 here.1, here.2) | inr rest ↦ absurd rest.1.1.1.1 ]
larges pick s who (command.Get table rowid) pages next l =
    let found = map.get (table_at (seen s who) table.name).rows rowid in
    absurd ((at_false (is_large (row_reply rowid found)) _ _ (no_large_row rowid found) l.1.1.1.1).1)
larges pick s who (command.Scan table low high) pages next l = absurd l.1.1.1.1.1
larges pick s who (command.Count table) pages next l = absurd l.1.1.1.1.1
larges pick s who command.Tables pages next l = absurd l.1.1.1
larges pick s who command.Begin pages next l = absurd l.1.1.1
larges pick s who command.Rollback pages next l = absurd l.1.1.1
larges pick s who command.Commit pages next l = absurd l.1.1.1.1.1.1
larges pick s who command.Reopen pages next l = absurd l.1

-- ---- a scan that is cut off

abbrev pub is_rows_cut : Reply → Bool
is_rows_cut (reply.Rows rows last.Fault) = true
is_rows_cut (reply.Rows rows last.Memory) = true
is_rows_cut _ = false

-- by a fault, or for want of memory, and what it leaves
abbrev pub rows_cut : Bool → List (ℤ × List Value) → Reply
rows_cut true rows = reply.Rows rows last.Fault
rows_cut false rows = reply.Rows rows last.Memory

abbrev pub cut_to : Bool → State → State
cut_to true s = halted s s.doubt
cut_to false s = s

no_cut_put : (there : Bool) → is_rows_cut (cond there reply.Replaced reply.New) ≡ false
no_cut_put true = refl
no_cut_put false = refl

no_cut_row : (rowid : ℤ) (found : Option Row) → is_rows_cut (row_reply rowid found) ≡ false
no_cut_row rowid None = refl
no_cut_row rowid (Some row) = refl

same_rows : (rows whole : List (ℤ × List Value)) (end other : _) → reply.Rows rows end ≡ reply.Rows whole other → rows ≡ whole
same_rows rows whole end other e = cc

-- what comes after the shared parts of a scan
abbrev scanning : Pick → State → ℕ → Name → ℤ → ℤ → List Case
scanning pick s who name low high =
    let rows = rows_between low high (table_at (seen s who) name).rows in
    may (nat_lt 0 pick.rows && nat_le pick.rows (length rows)) (reply.Rows (take pick.rows rows) last.Fault) (halted s s.doubt)
    ∷ may (nat_lt 0 pick.rows && nat_le pick.rows (length rows)) (reply.Rows (take pick.rows rows) last.Memory) s
    ∷ due true (rows_reply low high (table_at (seen s who) name).rows) (reached s who Shared) ∷ []

-- the first rows of others
front_of : (n : ℕ) (rows whole : List (ℤ × List Value)) → (nat_lt 0 n && nat_le n (length whole)) ≡ true → rows ≡ take n whole → IsFront rows whole
front_of n rows whole test are =
    let some : 1 ≤ n = ltb-true 0 n (and_first (nat_lt 0 n) (nat_le n (length whole)) test) in
    let few : n ≤ length whole = leb-true n (length whole) (and_second (nat_lt 0 n) (nat_le n (length whole)) test) in
    let long : length rows ≡ n = omega (arith, few, ap length are, length-take n whole) in
    record { some = omega arith; few = omega arith; are = are ∙ ap (λ (m : ℕ). take m whole) (sym long) }

front_test : (rows whole : List (ℤ × List Value)) → IsFront rows whole → (nat_lt 0 (length rows) && nat_le (length rows) (length whole)) ≡ true
front_test rows whole front = both (nat_lt 0 (length rows)) (nat_le (length rows) (length whole)) (lt-ltb 0 (length rows) front.some) (le-leb (length rows) (length whole) front.few)

pub cut_offs : (pick : Pick) (s : State) (who : ℕ) (asked : Command) (rows : List (ℤ × List Value)) (fault : Bool) (next : State) → LeadsTo is_rows_cut (cases_of pick s who asked) (rows_cut fault rows) next →
    MayCut s who asked rows × (next ≡ cut_to fault s)
cut_offs pick s who (command.Scan table low high) rows fault next l = by fault l.1.1.1.1
  where
    whole : List (ℤ × List Value)
    whole = rows_between low high (table_at (seen s who) table.name).rows

    scans : may_scan s who table.name ≡ true
    scans = both (not s.stopped) (not (is_refused s.levels who Shared) && finds s who table.name) (goes s.stopped l.0)
        (both (not (is_refused s.levels who Shared)) (finds s who table.name) (goes (is_refused s.levels who Shared) l.1.0)
        (finds_of (is_plain (seen s who) table.name) (is_foreign (seen s who) table.name) l.1.1.0 l.1.1.1.0))

    by : (fault : Bool) →
        (((nat_lt 0 pick.rows && nat_le pick.rows (length whole)) ≡ true) × (rows_cut fault rows ≡ reply.Rows (take pick.rows whole) last.Fault) × (next ≡ halted s s.doubt))
        ⊎ ((((nat_lt 0 pick.rows && nat_le pick.rows (length whole)) ≡ true) × (rows_cut fault rows ≡ reply.Rows (take pick.rows whole) last.Memory) × (next ≡ s)) ⊎ ((true ≡ false) × ⊥)) →
        ((may_scan s who table.name ≡ true) × IsFront rows whole) × (next ≡ cut_to fault s)
    by true (inl here) = ((scans, front_of pick.rows rows whole here.0 (same_rows rows (take pick.rows whole) last.Fault last.Fault here.1)), here.2)
    by true (inr (inl here)) = absurd (let e = here.1 in cc)
    by true (inr (inr none)) = absurd none.1
    by false (inl here) = absurd (let e = here.1 in cc)
    by false (inr (inl here)) = ((scans, front_of pick.rows rows whole here.0 (same_rows rows (take pick.rows whole) last.Memory last.Memory here.1)), here.2)
    by false (inr (inr none)) = absurd none.1
cut_offs pick s who (command.Create table columns) rows fault next l = absurd l.1.1.1.1.1.1.1.1
cut_offs pick s who (command.Drop table) rows fault next l = absurd l.1.1.1.1.1.1.1.1.1
cut_offs pick s who (command.Put table rowid values) rows fault next l =
    let there : Bool = has_row (seen s who) table.name rowid in
    let tail = at_false (is_rows_cut (cond there reply.Replaced reply.New)) _ _ (no_cut_put there) l.1.1.1.1.1.1.1 in
    absurd ((at_false (is_rows_cut (cond there reply.Replaced reply.New)) _ _ (no_cut_put there) tail.1.1.1).1)
cut_offs pick s who (command.Del table rowid) rows fault next l = absurd l.1.1.1.1.1.1.1.1.1.1
cut_offs pick s who (command.Get table rowid) rows fault next l =
    let found = map.get (table_at (seen s who) table.name).rows rowid in
    absurd ((at_false (is_rows_cut (row_reply rowid found)) _ _ (no_cut_row rowid found) l.1.1.1.1).1)
cut_offs pick s who (command.Count table) rows fault next l = absurd l.1.1.1.1.1
cut_offs pick s who command.Tables rows fault next l = absurd l.1.1.1
cut_offs pick s who command.Begin rows fault next l = absurd l.1.1.1
cut_offs pick s who command.Rollback rows fault next l = absurd l.1.1.1
cut_offs pick s who command.Commit rows fault next l = absurd l.1.1.1.1.1.1
cut_offs pick s who command.Reopen rows fault next l = absurd l.1

pub scan_cut : (fault : Bool) (s : State) (who : ℕ) (asked : Command) (rows : List (ℤ × List Value)) → MayCut s who asked rows → Step s who asked (rows_cut fault rows) (cut_to fault s)
scan_cut fault s who (command.Scan table low high) rows cut = record { pick = pick; fair = tt; allowed = by fault }
  where
    pick : Pick
    pick = record (fewest s who) { rows = length rows }

    whole : List (ℤ × List Value)
    whole = rows_between low high (table_at (seen s who) table.name).rows

    test : (nat_lt 0 (length rows) && nat_le (length rows) (length whole)) ≡ true
    test = front_test rows whole cut.1

    levels : (not (is_refused s.levels who Shared) && finds s who table.name) ≡ true
    levels = and_second (not s.stopped) (not (is_refused s.levels who Shared) && finds s who table.name) cut.0

    rest : (answer : Reply) (next : State) → Allows (scanning pick s who table.name low high) answer next → Allows (cases_of pick s who (command.Scan table low high)) answer next
    rest answer next allowed =
        reads s who (looking (reached s who Shared) (seen s who) table.name (scanning pick s who table.name low high)) answer next
        (not_true s.stopped (and_first (not s.stopped) (not (is_refused s.levels who Shared) && finds s who table.name) cut.0))
        (not_true (is_refused s.levels who Shared) (and_first (not (is_refused s.levels who Shared)) (finds s who table.name) levels))
        (looks (reached s who Shared) (seen s who) table.name (scanning pick s who table.name low high) answer next (and_second (not (is_refused s.levels who Shared)) (finds s who table.name) levels) allowed)

    by : (fault : Bool) → Allows (cases_of pick s who (command.Scan table low high)) (rows_cut fault rows) (cut_to fault s)
    by true = rest (rows_cut true rows) (cut_to true s) (inl (test, ap (λ (r : List (ℤ × List Value)). reply.Rows r last.Fault) cut.1.are, refl))
    by false = rest (rows_cut false rows) (cut_to false s) (inr (inl (test, ap (λ (r : List (ℤ × List Value)). reply.Rows r last.Memory) cut.1.are, refl)))
scan_cut fault s who (command.Create table columns) rows cut = absurd cut
scan_cut fault s who (command.Drop table) rows cut = absurd cut
scan_cut fault s who (command.Put table rowid values) rows cut = absurd cut
scan_cut fault s who (command.Del table rowid) rows cut = absurd cut
scan_cut fault s who (command.Get table rowid) rows cut = absurd cut
scan_cut fault s who (command.Count table) rows cut = absurd cut
scan_cut fault s who command.Tables rows cut = absurd cut
scan_cut fault s who command.Begin rows cut = absurd cut
scan_cut fault s who command.Rollback rows cut = absurd cut
scan_cut fault s who command.Commit rows cut = absurd cut
scan_cut fault s who command.Reopen rows cut = absurd cut
