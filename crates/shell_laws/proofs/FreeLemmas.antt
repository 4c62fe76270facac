-- Where want of memory and a fault may be answered.
use Rattle.std.proofs.Common.{◌≡◌, inl, inr, ℕ, ℤ, ◌==◌, ◌&&◌, Bool, true, false, not, cond, List, ◌∷◌, length, Option, Some, None, refl}
use Rattle.std.specs.Prelude.{is_some, MatchBool}
use Rattle.std.specs.List.{list_any}
use Rattle.std.specs.FinMap as map
use Rattle.vfs_model.specs.declared.level.Level.TheVariants.{Shared, Reserved, Exclusive}
use Rattle.shell_lang.specs.declared.command.Command.{Command}
use Rattle.shell_lang.specs.declared.command.Command.TheVariants as command
use Rattle.shell_lang.specs.declared.reply.Reply.{Reply}
use Rattle.shell_lang.specs.declared.reply.Reply.TheVariants as reply
use Rattle.shell_lang.specs.declared.reply.ScanEnd.TheVariants as last
use Rattle.shell_lang.specs.declared.reply.ErrorWord.TheVariants as word
use Rattle.book_model.specs.Book.{Book, Name, Row, table_at, is_plain, is_foreign, is_taken, has_row, with_table, without_table, with_row, without_row}
use Rattle.shell_model.specs.State.{State, is_inside, is_refused, own, reached, halted, committed_book, seen}
use Rattle.shell_model.specs.Cases as case
use Rattle.shell_model.specs.Cases.{Pick, Case, due, Allows, cases_of, sized, writing, looking, changing, row_reply, is_long}
use Rattle.shell_model.specs.Step.{Step, takes_memory}
use Rattle.shell_laws.specs.Free.{may_want, may_commit, may_fail, may_write, finds, accepts, may_change, may_break_off, cut_off, SomeStep, FreeReplies, IsHalted, FreeStates}
use Rattle.shell_laws.specs.Laws.{fewest}
use Rattle.shell_laws.proofs.CaseLemmas.{never, LeadsTo, leads}
use Rattle.shell_laws.proofs.CommandLemmas.{any_choice, memory_step, fewest_is_fair}
use Rattle.shell_laws.proofs.TestLemmas.{goes, both, and_first, and_second, not_true, not_false, at_false, writes_of, finds_of}
use Rattle.shell_laws.proofs.ChangeLemmas.{broken_by, change_cut, commit_tests, too_large}
use Rattle.shell_laws.proofs.CutLemmas.{is_large, larges, is_rows_cut, cut_offs, scan_cut}

abbrev is_memory : Reply → Bool
is_memory reply.Memory = true
is_memory _ = false

abbrev is_fault : Reply → Bool
is_fault reply.Fault = true
is_fault _ = false

-- ---- memory

wants : (pick : Pick) (s : State) (who : ℕ) (asked : Command) (next : State) → LeadsTo is_memory (cases_of pick s who asked) reply.Memory next → may_want s who asked ≡ true
wants pick s who (command.Create table columns) next l = both (not s.stopped) true (goes s.stopped l.0) refl
wants pick s who (command.Drop table) next l = both (not s.stopped) true (goes s.stopped l.0) refl
wants pick s who (command.Put table rowid values) next l = both (not s.stopped) true (goes s.stopped l.0) refl
wants pick s who (command.Del table rowid) next l = both (not s.stopped) true (goes s.stopped l.0) refl
wants pick s who (command.Get table rowid) next l = both (not s.stopped) true (goes s.stopped l.0) refl
wants pick s who (command.Scan table low high) next l = both (not s.stopped) true (goes s.stopped l.0) refl
wants pick s who (command.Count table) next l = both (not s.stopped) true (goes s.stopped l.0) refl
wants pick s who command.Tables next l = both (not s.stopped) true (goes s.stopped l.0) refl
wants pick s who command.Begin next l = absurd l.1.1.1
wants pick s who command.Rollback next l = absurd l.1.1.1
wants pick s who command.Commit next l =
    both (not s.stopped) (is_inside s who && is_some (own s who)) (goes s.stopped l.0)
    (both (is_inside s who) (is_some (own s who)) (not_false (is_inside s who) l.1.0) (not_false (is_some (own s who)) l.1.1.0))
wants pick s who command.Reopen next l = absurd l.1

commit_wants : (pick : Pick) (s : State) (who : ℕ) → s.stopped ≡ false → is_inside s who ≡ true → is_some (own s who) ≡ true → Allows (cases_of pick s who command.Commit) reply.Memory s
commit_wants pick s who live inside mine = rw live (rw inside (rw mine (inl (refl, refl, refl))))

wanted : (s : State) (who : ℕ) (asked : Command) → may_want s who asked ≡ true → SomeStep s who asked reply.Memory
wanted s who command.Commit may =
    let live = not_true s.stopped (and_first (not s.stopped) (is_inside s who && is_some (own s who)) may) in
    let rest = and_second (not s.stopped) (is_inside s who && is_some (own s who)) may in
    (s, any_choice s who command.Commit reply.Memory s (λ pick. commit_wants pick s who live (and_first (is_inside s who) (is_some (own s who)) rest) (and_second (is_inside s who) (is_some (own s who)) rest)))
wanted s who command.Begin may = absurd (never (and_second (not s.stopped) false may) refl)
wanted s who command.Rollback may = absurd (never (and_second (not s.stopped) false may) refl)
wanted s who command.Reopen may = absurd (never (and_second (not s.stopped) false may) refl)
wanted s who (command.Create table columns) may = (s, memory_step s who (command.Create table columns) (not_true s.stopped (and_first (not s.stopped) true may)) refl)
wanted s who (command.Drop table) may = (s, memory_step s who (command.Drop table) (not_true s.stopped (and_first (not s.stopped) true may)) refl)
wanted s who (command.Put table rowid values) may = (s, memory_step s who (command.Put table rowid values) (not_true s.stopped (and_first (not s.stopped) true may)) refl)
wanted s who (command.Del table rowid) may = (s, memory_step s who (command.Del table rowid) (not_true s.stopped (and_first (not s.stopped) true may)) refl)
wanted s who (command.Get table rowid) may = (s, memory_step s who (command.Get table rowid) (not_true s.stopped (and_first (not s.stopped) true may)) refl)
wanted s who (command.Scan table low high) may = (s, memory_step s who (command.Scan table low high) (not_true s.stopped (and_first (not s.stopped) true may)) refl)
wanted s who (command.Count table) may = (s, memory_step s who (command.Count table) (not_true s.stopped (and_first (not s.stopped) true may)) refl)
wanted s who command.Tables may = (s, memory_step s who command.Tables (not_true s.stopped (and_first (not s.stopped) true may)) refl)

-- ---- faults

may_read : (s : State) (who : ℕ) → s.stopped ≡ false → is_refused s.levels who Shared ≡ false → (not s.stopped && not (is_refused s.levels who Shared)) ≡ true
may_read s who live free = both (not s.stopped) (not (is_refused s.levels who Shared)) (goes s.stopped live) (goes (is_refused s.levels who Shared) free)

fails : (pick : Pick) (s : State) (who : ℕ) (asked : Command) (next : State) → LeadsTo is_fault (cases_of pick s who asked) reply.Fault next → may_fail s who asked ≡ true
fails pick s who (command.Create table columns) next l = may_read s who l.0 l.1.0
fails pick s who (command.Drop table) next l = may_read s who l.0 l.1.0
fails pick s who (command.Put table rowid values) next l = may_read s who l.0 l.1.0
fails pick s who (command.Del table rowid) next l = may_read s who l.0 l.1.0
fails pick s who (command.Get table rowid) next l = may_read s who l.0 l.1.0
fails pick s who (command.Scan table low high) next l = may_read s who l.0 l.1.0
fails pick s who (command.Count table) next l = may_read s who l.0 l.1.0
fails pick s who command.Tables next l = may_read s who l.0 l.1.0
fails pick s who command.Begin next l = absurd l.1.1.1
fails pick s who command.Rollback next l = absurd l.1.1.1
fails pick s who command.Commit next l =
    let worn : Bool = s.kept.counter == 4294967295 in
    let refused : Bool = is_refused s.levels who Exclusive in
    both (not s.stopped) ((is_inside s who && is_some (own s who)) && (not worn && not refused)) (goes s.stopped l.0)
    (both (is_inside s who && is_some (own s who)) (not worn && not refused)
    (both (is_inside s who) (is_some (own s who)) (not_false (is_inside s who) l.1.0) (not_false (is_some (own s who)) l.1.1.0))
    (both (not worn) (not refused) (goes worn l.1.1.1.0) (goes refused l.1.1.1.1.0)))
fails pick s who command.Reopen next l = refl

table_fails : (pick : Pick) (s : State) (who : ℕ) (asked : Command) → takes_memory asked ≡ true → s.stopped ≡ false → is_refused s.levels who Shared ≡ false → Allows (cases_of pick s who asked) reply.Fault (halted s s.doubt)
table_fails pick s who (command.Create table columns) takes live free = rw live (rw free (inr (inl (refl, refl, refl))))
table_fails pick s who (command.Drop table) takes live free = rw live (rw free (inr (inl (refl, refl, refl))))
table_fails pick s who (command.Put table rowid values) takes live free = rw live (rw free (inr (inl (refl, refl, refl))))
table_fails pick s who (command.Del table rowid) takes live free = rw live (rw free (inr (inl (refl, refl, refl))))
table_fails pick s who (command.Get table rowid) takes live free = rw live (rw free (inr (inl (refl, refl, refl))))
table_fails pick s who (command.Scan table low high) takes live free = rw live (rw free (inr (inl (refl, refl, refl))))
table_fails pick s who (command.Count table) takes live free = rw live (rw free (inr (inl (refl, refl, refl))))
table_fails pick s who command.Tables takes live free = rw live (rw free (inr (inl (refl, refl, refl))))
table_fails pick s who command.Begin takes live free = absurd (cc)
table_fails pick s who command.Commit takes live free = absurd (cc)
table_fails pick s who command.Rollback takes live free = absurd (cc)
table_fails pick s who command.Reopen takes live free = absurd (cc)

commit_fails : (pick : Pick) (s : State) (who : ℕ) → s.stopped ≡ false → is_inside s who ≡ true → is_some (own s who) ≡ true → (s.kept.counter == 4294967295) ≡ false → is_refused s.levels who Exclusive ≡ false →
    Allows (cases_of pick s who command.Commit) reply.Fault (halted s (Some (record { before = s.kept; after = committed_book s.kept (seen s who) })))
commit_fails pick s who live inside mine fresh free = rw live (rw inside (rw mine (inr (rw fresh (rw free (inl (refl, refl, refl)))))))

pub read_fails : (s : State) (who : ℕ) (asked : Command) → takes_memory asked ≡ true → (not s.stopped && not (is_refused s.levels who Shared)) ≡ true → Step s who asked reply.Fault (halted s s.doubt)
read_fails s who asked takes may =
    let live = not_true s.stopped (and_first (not s.stopped) (not (is_refused s.levels who Shared)) may) in
    let free = not_true (is_refused s.levels who Shared) (and_second (not s.stopped) (not (is_refused s.levels who Shared)) may) in
    any_choice s who asked reply.Fault (halted s s.doubt) (λ pick. table_fails pick s who asked takes live free)

commit_breaks : (pick : Pick) (s : State) (who : ℕ) → s.stopped ≡ false → is_inside s who ≡ true → is_some (own s who) ≡ true → (s.kept.counter == 4294967295) ≡ false → is_refused s.levels who Exclusive ≡ false →
    Allows (cases_of pick s who command.Commit) reply.MemoryStopped (cut_off s (seen s who))
commit_breaks pick s who live inside mine fresh free = rw live (rw inside (rw mine (inr (rw fresh (rw free (inr (inl (refl, refl, refl))))))))

-- a commit with a change
pub commit_cut : (fault : Bool) (s : State) (who : ℕ) → may_break_off s who command.Commit ≡ true → Step s who command.Commit (broken_by fault) (cut_off s (seen s who))
commit_cut fault s who may = any_choice s who command.Commit (broken_by fault) (cut_off s (seen s who)) (λ pick. by pick fault)
  where
    mine : Bool
    mine = is_inside s who && is_some (own s who)

    all : (mine && may_commit s who) ≡ true
    all = and_second (not s.stopped) (mine && may_commit s who) may

    by : (pick : Pick) (fault : Bool) → Allows (cases_of pick s who command.Commit) (broken_by fault) (cut_off s (seen s who))
    by pick true =
        let own_is = and_first mine (may_commit s who) all in
        let tests = commit_tests s who (and_second mine (may_commit s who) all) in
        commit_fails pick s who (not_true s.stopped (and_first (not s.stopped) (mine && may_commit s who) may)) (and_first (is_inside s who) (is_some (own s who)) own_is)
        (and_second (is_inside s who) (is_some (own s who)) own_is) tests.0 tests.1
    by pick false =
        let own_is = and_first mine (may_commit s who) all in
        let tests = commit_tests s who (and_second mine (may_commit s who) all) in
        commit_breaks pick s who (not_true s.stopped (and_first (not s.stopped) (mine && may_commit s who) may)) (and_first (is_inside s who) (is_some (own s who)) own_is)
        (and_second (is_inside s who) (is_some (own s who)) own_is) tests.0 tests.1

-- an opening
pub opening_cut : (fault : Bool) (s : State) (who : ℕ) → Step s who command.Reopen (broken_by fault) (halted s s.doubt)
opening_cut true s who = any_choice s who command.Reopen reply.Fault (halted s s.doubt) (λ pick. inl (refl, refl, refl))
opening_cut false s who = any_choice s who command.Reopen reply.MemoryStopped (halted s s.doubt) (λ pick. inr (inl (refl, refl, refl)))

failed : (s : State) (who : ℕ) (asked : Command) → may_fail s who asked ≡ true → SomeStep s who asked reply.Fault
failed s who (command.Create table columns) may = (_, read_fails s who (command.Create table columns) refl may)
failed s who (command.Drop table) may = (_, read_fails s who (command.Drop table) refl may)
failed s who (command.Put table rowid values) may = (_, read_fails s who (command.Put table rowid values) refl may)
failed s who (command.Del table rowid) may = (_, read_fails s who (command.Del table rowid) refl may)
failed s who (command.Get table rowid) may = (_, read_fails s who (command.Get table rowid) refl may)
failed s who (command.Scan table low high) may = (_, read_fails s who (command.Scan table low high) refl may)
failed s who (command.Count table) may = (_, read_fails s who (command.Count table) refl may)
failed s who command.Tables may = (_, read_fails s who command.Tables refl may)
failed s who command.Begin may = absurd (never (and_second (not s.stopped) false may) refl)
failed s who command.Rollback may = absurd (never (and_second (not s.stopped) false may) refl)
failed s who command.Commit may = (_, commit_cut true s who may)
failed s who command.Reopen may = (_, opening_cut true s who)

-- ---- memory wanted once the device was asked

abbrev is_cut : Reply → Bool
is_cut reply.MemoryStopped = true
is_cut _ = false

no_cut_row : (rowid : ℤ) (found : Option Row) → is_cut (row_reply rowid found) ≡ false
no_cut_row rowid None = refl
no_cut_row rowid (Some row) = refl

no_cut_put : (there : Bool) → is_cut (cond there reply.Replaced reply.New) ≡ false
no_cut_put true = refl
no_cut_put false = refl

commits_of : (s : State) (who : ℕ) → (s.kept.counter == 4294967295) ≡ false → is_refused s.levels who Exclusive ≡ false → may_commit s who ≡ true
commits_of s who fresh free =
    both (not (s.kept.counter == 4294967295)) (not (is_refused s.levels who Exclusive)) (goes (s.kept.counter == 4294967295) fresh) (goes (is_refused s.levels who Exclusive) free)

ends_of : (s : State) (who : ℕ) → is_inside s who ≡ false → (s.kept.counter == 4294967295) ≡ false → is_refused s.levels who Exclusive ≡ false → (not (is_inside s who) && may_commit s who) ≡ true
ends_of s who outside fresh free = both (not (is_inside s who)) (may_commit s who) (goes (is_inside s who) outside) (commits_of s who fresh free)

breaks : (pick : Pick) (s : State) (who : ℕ) (asked : Command) (next : State) → LeadsTo is_cut (cases_of pick s who asked) reply.MemoryStopped next → may_break_off s who asked ≡ true
breaks pick s who (command.Create table columns) next l =
    let taken : Bool = is_taken (seen s who) table.name in
    both (may_write s who && not taken) (not (is_inside s who) && may_commit s who)
    (both (may_write s who) (not taken) (writes_of s who l.0 l.1.0 l.1.1.0) (goes taken l.1.1.1.0))
    (ends_of s who l.1.1.1.1.0 l.1.1.1.1.1.0 l.1.1.1.1.1.1.0)
breaks pick s who (command.Drop table) next l =
    both (may_write s who && finds s who table.name) (not (is_inside s who) && may_commit s who)
    (both (may_write s who) (finds s who table.name) (writes_of s who l.0 l.1.0 l.1.1.0) (finds_of (is_plain (seen s who) table.name) (is_foreign (seen s who) table.name) l.1.1.1.0 l.1.1.1.1.0))
    (ends_of s who l.1.1.1.1.1.0 l.1.1.1.1.1.1.0 l.1.1.1.1.1.1.1.0)
breaks pick s who (command.Put table rowid values) next l =
    let wide : Bool = length values == length (table_at (seen s who) table.name).columns in
    let long : Bool = list_any is_long values in
    let there : Bool = has_row (seen s who) table.name rowid in
    let tail = at_false (is_cut (cond there reply.Replaced reply.New)) _ _ (no_cut_put there) l.1.1.1.1.1.1.1 in
    both (may_write s who && (finds s who table.name && accepts s who table.name values)) (not (is_inside s who) && may_commit s who)
    (both (may_write s who) (finds s who table.name && accepts s who table.name values) (writes_of s who l.0 l.1.0 l.1.1.0)
    (both (finds s who table.name) (accepts s who table.name values) (finds_of (is_plain (seen s who) table.name) (is_foreign (seen s who) table.name) l.1.1.1.0 l.1.1.1.1.0)
    (both wide (not long) (not_false wide l.1.1.1.1.1.0) (goes long l.1.1.1.1.1.1.0))))
    (ends_of s who tail.0 tail.1.0 tail.1.1.0)
breaks pick s who (command.Del table rowid) next l =
    let there : Bool = has_row (seen s who) table.name rowid in
    both (may_write s who && (finds s who table.name && there)) (not (is_inside s who) && may_commit s who)
    (both (may_write s who) (finds s who table.name && there) (writes_of s who l.0 l.1.0 l.1.1.0)
    (both (finds s who table.name) there (finds_of (is_plain (seen s who) table.name) (is_foreign (seen s who) table.name) l.1.1.1.0 l.1.1.1.1.0) (not_false there l.1.1.1.1.1.0)))
    (ends_of s who l.1.1.1.1.1.1.0 l.1.1.1.1.1.1.1.0 l.1.1.1.1.1.1.1.1.0)
breaks pick s who (command.Get table rowid) next l =
    absurd ((at_false (is_cut (row_reply rowid (map.get (table_at (seen s who) table.name).rows rowid))) _ _ (no_cut_row rowid (map.get (table_at (seen s who) table.name).rows rowid)) l.1.1.1.1).1)
breaks pick s who (command.Scan table low high) next l = absurd l.1.1.1.1.1
breaks pick s who (command.Count table) next l = absurd l.1.1.1.1.1
breaks pick s who command.Tables next l = absurd l.1.1.1
breaks pick s who command.Begin next l = absurd l.1.1.1
breaks pick s who command.Rollback next l = absurd l.1.1.1
breaks pick s who command.Commit next l =
    both (not s.stopped) ((is_inside s who && is_some (own s who)) && may_commit s who) (goes s.stopped l.0)
    (both (is_inside s who && is_some (own s who)) (may_commit s who)
    (both (is_inside s who) (is_some (own s who)) (not_false (is_inside s who) l.1.0) (not_false (is_some (own s who)) l.1.1.0))
    (commits_of s who l.1.1.1.0 l.1.1.1.1.0))
breaks pick s who command.Reopen next l = refl

change_broken : (s : State) (who : ℕ) (asked : Command) → (may_change s who asked && (not (is_inside s who) && may_commit s who)) ≡ true → SomeStep s who asked reply.MemoryStopped
change_broken s who asked may =
    let end : Bool = not (is_inside s who) && may_commit s who in
    (_, change_cut false (fewest s who) s who asked (fewest_is_fair s who asked) (and_first (may_change s who asked) end may) (and_second (may_change s who asked) end may))

broken : (s : State) (who : ℕ) (asked : Command) → may_break_off s who asked ≡ true → SomeStep s who asked reply.MemoryStopped
broken s who (command.Create table columns) may = change_broken s who (command.Create table columns) may
broken s who (command.Drop table) may = change_broken s who (command.Drop table) may
broken s who (command.Put table rowid values) may = change_broken s who (command.Put table rowid values) may
broken s who (command.Del table rowid) may = change_broken s who (command.Del table rowid) may
broken s who (command.Get table rowid) may = absurd (cc)
broken s who (command.Scan table low high) may = absurd (cc)
broken s who (command.Count table) may = absurd (cc)
broken s who command.Tables may = absurd (cc)
broken s who command.Begin may = absurd (cc)
broken s who command.Rollback may = absurd (cc)
broken s who command.Commit may = (_, commit_cut false s who may)
broken s who command.Reopen may = (_, opening_cut false s who)

pub free_replies : FreeReplies
free_replies = record {
  memory = λ s who asked. (
    λ some. wants some.1.pick s who asked some.0 (leads is_memory (cases_of some.1.pick s who asked) reply.Memory some.0 some.1.allowed refl),
    λ may. wanted s who asked may,
  );
  fault = λ s who asked. (
    λ some. fails some.1.pick s who asked some.0 (leads is_fault (cases_of some.1.pick s who asked) reply.Fault some.0 some.1.allowed refl),
    λ may. failed s who asked may,
  );
  broken_off = λ s who asked. (
    λ some. breaks some.1.pick s who asked some.0 (leads is_cut (cases_of some.1.pick s who asked) reply.MemoryStopped some.0 some.1.allowed refl),
    λ may. broken s who asked may,
  );
  large = λ s who asked pages. (
    λ some. (larges some.1.pick s who asked pages some.0 (leads is_large (cases_of some.1.pick s who asked) (reply.Large pages) some.0 some.1.allowed refl)).0,
    λ may. (_, too_large s who asked pages may),
  );
  cut_by_fault = λ s who asked rows. (
    λ some. (cut_offs some.1.pick s who asked rows true some.0 (leads is_rows_cut (cases_of some.1.pick s who asked) (reply.Rows rows last.Fault) some.0 some.1.allowed refl)).0,
    λ may. (_, scan_cut true s who asked rows may),
  );
  cut_by_memory = λ s who asked rows. (
    λ some. (cut_offs some.1.pick s who asked rows false some.0 (leads is_rows_cut (cases_of some.1.pick s who asked) (reply.Rows rows last.Memory) some.0 some.1.allowed refl)).0,
    λ may. (_, scan_cut false s who asked rows may),
  );
}

-- ---- the states after them

no_memory_put : (there : Bool) → is_memory (cond there reply.Replaced reply.New) ≡ false
no_memory_put true = refl
no_memory_put false = refl

no_memory_row : (rowid : ℤ) (found : Option Row) → is_memory (row_reply rowid found) ≡ false
no_memory_row rowid None = refl
no_memory_row rowid (Some row) = refl

no_fault_put : (there : Bool) → is_fault (cond there reply.Replaced reply.New) ≡ false
no_fault_put true = refl
no_fault_put false = refl

no_fault_row : (rowid : ℤ) (found : Option Row) → is_fault (row_reply rowid found) ≡ false
no_fault_row rowid None = refl
no_fault_row rowid (Some row) = refl

-- what want of memory leaves
keeps : (pick : Pick) (s : State) (who : ℕ) (asked : Command) (next : State) → LeadsTo is_memory (cases_of pick s who asked) reply.Memory next → next ≡ s
keeps pick s who (command.Create table columns) next l = elim l.1 [ inl here ↦ here.2 | inr rest ↦ absurd rest.1.1.1.1.1.1.1 ]
keeps pick s who (command.Drop table) next l = elim l.1 [ inl here ↦ here.2 | inr rest ↦ absurd rest.1.1.1.1.1.1.1.1 ]
keeps pick s who (command.Put table rowid values) next l = elim l.1 [
  | inl here ↦ here.2
  | inr rest ↦
      (let there : Bool = has_row (seen s who) table.name rowid in
      let tail = at_false (is_memory (cond there reply.Replaced reply.New)) _ _ (no_memory_put there) rest.1.1.1.1.1.1 in
      absurd ((at_false (is_memory (cond there reply.Replaced reply.New)) _ _ (no_memory_put there) tail.1.1.1).1))
]
keeps pick s who (command.Del table rowid) next l = elim l.1 [ inl here ↦ here.2 | inr rest ↦ absurd rest.1.1.1.1.1.1.1.1.1 ]
keeps pick s who (command.Get table rowid) next l = elim l.1 [
  | inl here ↦ here.2
  | inr rest ↦
      (let found = map.get (table_at (seen s who) table.name).rows rowid in
      absurd ((at_false (is_memory (row_reply rowid found)) _ _ (no_memory_row rowid found) rest.1.1.1).1))
]
keeps pick s who (command.Scan table low high) next l = elim l.1 [ inl here ↦ here.2 | inr rest ↦ absurd rest.1.1.1.1 ]
keeps pick s who (command.Count table) next l = elim l.1 [ inl here ↦ here.2 | inr rest ↦ absurd rest.1.1.1.1 ]
keeps pick s who command.Tables next l = elim l.1 [ inl here ↦ here.2 | inr rest ↦ absurd rest.1.1 ]
keeps pick s who command.Begin next l = absurd l.1.1.1
keeps pick s who command.Rollback next l = absurd l.1.1.1
keeps pick s who command.Commit next l = elim l.1.1.1 [ inl here ↦ here.2 | inr rest ↦ absurd rest.1.1.1 ]
keeps pick s who command.Reopen next l = absurd l.1

-- what it leaves once the device was asked
cuts : (pick : Pick) (s : State) (who : ℕ) (asked : Command) (next : State) → LeadsTo is_cut (cases_of pick s who asked) reply.MemoryStopped next → IsHalted s next
cuts pick s who (command.Create table columns) next l = elim l.1.1.1.1.1.1.1 [ inl here ↦ inr (sized pick (with_table (seen s who) table.name columns pick.root), here.2) | inr rest ↦ absurd rest.1 ]
cuts pick s who (command.Drop table) next l = elim l.1.1.1.1.1.1.1.1 [ inl here ↦ inr (sized pick (without_table (seen s who) table.name), here.2) | inr rest ↦ absurd rest.1 ]
cuts pick s who (command.Put table rowid values) next l =
    let there : Bool = has_row (seen s who) table.name rowid in
    let tail = at_false (is_cut (cond there reply.Replaced reply.New)) _ _ (no_cut_put there) l.1.1.1.1.1.1.1 in
    elim tail.1.1.1 [ inl here ↦ inr (sized pick (with_row (seen s who) table.name rowid values), here.2) | inr rest ↦ absurd ((at_false (is_cut (cond there reply.Replaced reply.New)) _ _ (no_cut_put there) rest).1) ]
cuts pick s who (command.Del table rowid) next l = elim l.1.1.1.1.1.1.1.1.1 [ inl here ↦ inr (sized pick (without_row (seen s who) table.name rowid), here.2) | inr rest ↦ absurd rest.1 ]
cuts pick s who (command.Get table rowid) next l =
    let found = map.get (table_at (seen s who) table.name).rows rowid in
    absurd ((at_false (is_cut (row_reply rowid found)) _ _ (no_cut_row rowid found) l.1.1.1.1).1)
cuts pick s who (command.Scan table low high) next l = absurd l.1.1.1.1.1
cuts pick s who (command.Count table) next l = absurd l.1.1.1.1.1
cuts pick s who command.Tables next l = absurd l.1.1.1
cuts pick s who command.Begin next l = absurd l.1.1.1
cuts pick s who command.Rollback next l = absurd l.1.1.1
cuts pick s who command.Commit next l = elim l.1.1.1.1.1 [ inl here ↦ inr (seen s who, here.2) | inr rest ↦ absurd rest.1 ]
cuts pick s who command.Reopen next l = elim l [ inl here ↦ inl here.2 | inr rest ↦ absurd rest.1 ]

-- what a fault leaves
stops : (pick : Pick) (s : State) (who : ℕ) (asked : Command) (next : State) → LeadsTo is_fault (cases_of pick s who asked) reply.Fault next → IsHalted s next
stops pick s who (command.Create table columns) next l = elim l.1.1 [
  | inl here ↦ inl here.2
  | inr rest ↦ (elim rest.1.1.1.1.1 [ inl here ↦ inr (sized pick (with_table (seen s who) table.name columns pick.root), here.2) | inr more ↦ absurd more.1 ])
]
stops pick s who (command.Drop table) next l = elim l.1.1 [
  | inl here ↦ inl here.2
  | inr rest ↦ (elim rest.1.1.1.1.1.1 [ inl here ↦ inr (sized pick (without_table (seen s who) table.name), here.2) | inr more ↦ absurd more.1 ])
]
stops pick s who (command.Put table rowid values) next l = elim l.1.1 [
  | inl here ↦ inl here.2
  | inr rest ↦
      (let there : Bool = has_row (seen s who) table.name rowid in
      let tail = at_false (is_fault (cond there reply.Replaced reply.New)) _ _ (no_fault_put there) rest.1.1.1.1.1 in
      elim tail.1.1.1 [
        | inl here ↦ inr (sized pick (with_row (seen s who) table.name rowid values), here.2)
        | inr more ↦ absurd ((at_false (is_fault (cond there reply.Replaced reply.New)) _ _ (no_fault_put there) more).1)
      ])
]
stops pick s who (command.Del table rowid) next l = elim l.1.1 [
  | inl here ↦ inl here.2
  | inr rest ↦ (elim rest.1.1.1.1.1.1.1 [ inl here ↦ inr (sized pick (without_row (seen s who) table.name rowid), here.2) | inr more ↦ absurd more.1 ])
]
stops pick s who (command.Get table rowid) next l = elim l.1.1 [
  | inl here ↦ inl here.2
  | inr rest ↦
      (let found = map.get (table_at (seen s who) table.name).rows rowid in
      absurd ((at_false (is_fault (row_reply rowid found)) _ _ (no_fault_row rowid found) rest.1.1).1))
]
stops pick s who (command.Scan table low high) next l = elim l.1.1 [ inl here ↦ inl here.2 | inr rest ↦ absurd rest.1.1.1 ]
stops pick s who (command.Count table) next l = elim l.1.1 [ inl here ↦ inl here.2 | inr rest ↦ absurd rest.1.1.1 ]
stops pick s who command.Tables next l = elim l.1.1 [ inl here ↦ inl here.2 | inr rest ↦ absurd rest.1 ]
stops pick s who command.Begin next l = absurd l.1.1.1
stops pick s who command.Rollback next l = absurd l.1.1.1
stops pick s who command.Commit next l = elim l.1.1.1.1.1 [ inl here ↦ inr (seen s who, here.2) | inr rest ↦ absurd rest.1 ]
stops pick s who command.Reopen next l = elim l [ inl here ↦ inl here.2 | inr rest ↦ absurd rest.1 ]

pub free_states : FreeStates
free_states = record {
  memory = λ s who asked next step. keeps step.pick s who asked next (leads is_memory (cases_of step.pick s who asked) reply.Memory next step.allowed refl);
  fault = λ s who asked next step. stops step.pick s who asked next (leads is_fault (cases_of step.pick s who asked) reply.Fault next step.allowed refl);
  broken_off = λ s who asked next step. cuts step.pick s who asked next (leads is_cut (cases_of step.pick s who asked) reply.MemoryStopped next step.allowed refl);
  large = λ s who asked pages next step. (larges step.pick s who asked pages next (leads is_large (cases_of step.pick s who asked) (reply.Large pages) next step.allowed refl)).1;
  cut_by_fault = λ s who asked rows next step. (cut_offs step.pick s who asked rows true next (leads is_rows_cut (cases_of step.pick s who asked) (reply.Rows rows last.Fault) next step.allowed refl)).1;
  cut_by_memory = λ s who asked rows next step. (cut_offs step.pick s who asked rows false next (leads is_rows_cut (cases_of step.pick s who asked) (reply.Rows rows last.Memory) next step.allowed refl)).1;
}
