-- Changes: where they come to their last part, and what they may be answered there.
use Rattle.std.proofs.Common.{◌≡◌, inl, inr, ℕ, ℤ, ◌+◌, ◌≤◌, ◌==◌, ◌&&◌, Bool, true, false, not, cond, List, ◌∷◌, length, refl, ap, sym, ◌∙◌, arith}
use Rattle.std.specs.Prelude.{nat_le, ◌/◌, ◌^◌}
use Rattle.std.specs.List.{list_any}
use Rattle.std.proofs.lemmas.Bool.{le-leb, leb-true}
use Rattle.vfs_model.specs.declared.level.Level.TheVariants.{Shared, Reserved, Exclusive}
use Rattle.shell_lang.specs.declared.command.Command.{Command}
use Rattle.shell_lang.specs.declared.command.Command.TheVariants as command
use Rattle.shell_lang.specs.declared.reply.Reply.{Reply}
use Rattle.shell_lang.specs.declared.reply.Reply.TheVariants as reply
use Rattle.shell_lang.specs.declared.reply.ErrorWord.TheVariants as word
use Rattle.book_model.specs.Book.{Book, Name, table_at, is_plain, is_foreign, is_taken, has_row, need_of, use_of}
use Rattle.shell_model.specs.State.{State, is_inside, is_refused, own, reached, seen}
use Rattle.shell_model.specs.Cases as case
use Rattle.shell_model.specs.Cases.{Pick, Case, due, Allows, cases_of, sized, writing, looking, changing, is_long, too_many}
use Rattle.shell_model.specs.Step.{Step, IsFair}
use Rattle.shell_laws.specs.Free.{may_commit, may_write, finds, accepts, may_change, changed, cut_off, MayPass, SomeStep}
use Rattle.shell_laws.specs.Laws.{fewest}
use Rattle.shell_laws.proofs.CommandLemmas.{fewest_fits}
use Rattle.shell_laws.proofs.TestLemmas.{and_first, and_second, not_true, true_not}

-- what a change is answered where it is done
abbrev pub said_of : Book → Command → Reply
said_of book (command.Put table rowid values) = cond (has_row book table.name rowid) reply.Replaced reply.New
said_of book _ = reply.Done

-- the tests of a change's levels
write_tests : (s : State) (who : ℕ) → may_write s who ≡ true → (s.stopped ≡ false) × (is_refused s.levels who Shared ≡ false) × (is_refused s.levels who Reserved ≡ false)
write_tests s who may =
    let levels : Bool = not (is_refused s.levels who Shared) && not (is_refused s.levels who Reserved) in
    let both = and_second (not s.stopped) levels may in (
      not_true s.stopped (and_first (not s.stopped) levels may),
      not_true (is_refused s.levels who Shared) (and_first (not (is_refused s.levels who Shared)) (not (is_refused s.levels who Reserved)) both),
      not_true (is_refused s.levels who Reserved) (and_second (not (is_refused s.levels who Shared)) (not (is_refused s.levels who Reserved)) both),
    )

-- through the parts that several commands share
writes : (s : State) (who : ℕ) (cases : List Case) (answer : Reply) (next : State) → may_write s who ≡ true → Allows cases answer next → Allows (case.asked s (writing s who cases)) answer next
writes s who cases answer next may rest =
    let tests = write_tests s who may in
    let live = tests.0 in
    let shared = tests.1 in
    let reserved = tests.2 in
    rw live (inr (rw shared (inr (rw reserved rest))))

pub reads : (s : State) (who : ℕ) (cases : List Case) (answer : Reply) (next : State) → s.stopped ≡ false → is_refused s.levels who Shared ≡ false → Allows cases answer next →
    Allows (case.asked s (case.reading s who cases)) answer next
reads s who cases answer next live shared rest = rw live (inr (rw shared (inr rest)))

pub looks : (after : State) (book : Book) (name : Name) (cases : List Case) (answer : Reply) (next : State) → (is_plain book name && not (is_foreign book name)) ≡ true → Allows cases answer next → Allows (looking after book name cases) answer next
looks after book name cases answer next found rest = by (is_plain book name) (is_foreign book name) found
  where
    by : (p f : Bool) → (p && not f) ≡ true → Allows (due (not p && not f) (reply.Error word.NoTable) after ∷ due f (reply.Error word.Foreign) after ∷ cases) answer next
    by true false e = rest
    by true true e = absurd (cc)
    by false f e = absurd (cc)

passes : (holds : Bool) (r : Reply) (after : State) (cases : List Case) (answer : Reply) (next : State) → holds ≡ false → Allows cases answer next → Allows (due holds r after ∷ cases) answer next
passes false r after cases answer next is rest = rest
passes true r after cases answer next is rest = absurd (cc)

-- a change comes to its last part where its tests hold
pub comes_to : (pick : Pick) (s : State) (who : ℕ) (asked : Command) (answer : Reply) (next : State) → may_change s who asked ≡ true →
    Allows (changing s who (sized pick (changed (seen s who) pick.root asked)) (said_of (seen s who) asked)) answer next → Allows (cases_of pick s who asked) answer next
comes_to pick s who (command.Create table columns) answer next may rest =
    let taken : Bool = is_taken (seen s who) table.name in
    let end = changing s who (sized pick (changed (seen s who) pick.root (command.Create table columns))) reply.Done in
    writes s who (due taken (reply.Error word.Exists) (reached s who Reserved) ∷ end) answer next (and_first (may_write s who) (not taken) may)
    (passes taken (reply.Error word.Exists) (reached s who Reserved) end answer next (not_true taken (and_second (may_write s who) (not taken) may)) rest)
comes_to pick s who (command.Drop table) answer next may rest =
    let found : Bool = finds s who table.name in
    let end = changing s who (sized pick (changed (seen s who) pick.root (command.Drop table))) reply.Done in
    writes s who (looking (reached s who Reserved) (seen s who) table.name end) answer next (and_first (may_write s who) found may)
    (looks (reached s who Reserved) (seen s who) table.name end answer next (and_second (may_write s who) found may) rest)
comes_to pick s who (command.Put table rowid values) answer next may rest =
    let found : Bool = finds s who table.name in
    let takes : Bool = accepts s who table.name values in
    let wide : Bool = length values == length (table_at (seen s who) table.name).columns in
    let long : Bool = list_any is_long values in
    let both = and_second (may_write s who) (found && takes) may in
    let fits = and_second found takes both in
    let after = reached s who Reserved in
    let end = changing s who (sized pick (changed (seen s who) pick.root (command.Put table rowid values))) (cond (has_row (seen s who) table.name rowid) reply.Replaced reply.New) in
    let shorts = due long (reply.Error word.TooLong) after ∷ end in
    writes s who (looking after (seen s who) table.name (due (not wide) (reply.Error word.Columns) after ∷ shorts)) answer next (and_first (may_write s who) (found && takes) may)
    (looks after (seen s who) table.name (due (not wide) (reply.Error word.Columns) after ∷ shorts) answer next (and_first found takes both)
    (passes (not wide) (reply.Error word.Columns) after shorts answer next (true_not wide (and_first wide (not long) fits))
    (passes long (reply.Error word.TooLong) after end answer next (not_true long (and_second wide (not long) fits)) rest)))
comes_to pick s who (command.Del table rowid) answer next may rest =
    let found : Bool = finds s who table.name in
    let there : Bool = has_row (seen s who) table.name rowid in
    let both = and_second (may_write s who) (found && there) may in
    let after = reached s who Reserved in
    let end = changing s who (sized pick (changed (seen s who) pick.root (command.Del table rowid))) reply.Done in
    writes s who (looking after (seen s who) table.name (due (not there) reply.Nothing after ∷ end)) answer next (and_first (may_write s who) (found && there) may)
    (looks after (seen s who) table.name (due (not there) reply.Nothing after ∷ end) answer next (and_first found there both)
    (passes (not there) reply.Nothing after end answer next (true_not there (and_second found there both)) rest))
comes_to pick s who (command.Get table rowid) answer next may rest = absurd (cc)
comes_to pick s who (command.Scan table low high) answer next may rest = absurd (cc)
comes_to pick s who (command.Count table) answer next may rest = absurd (cc)
comes_to pick s who command.Tables answer next may rest = absurd (cc)
comes_to pick s who command.Begin answer next may rest = absurd (cc)
comes_to pick s who command.Rollback answer next may rest = absurd (cc)
comes_to pick s who command.Commit answer next may rest = absurd (cc)
comes_to pick s who command.Reopen answer next may rest = absurd (cc)

-- ---- a commit that is cut off

-- a fault, or want of memory once the device was asked
abbrev pub broken_by : Bool → Reply
broken_by true = reply.Fault
broken_by false = reply.MemoryStopped

pub commit_tests : (s : State) (who : ℕ) → may_commit s who ≡ true → ((s.kept.counter == 4294967295) ≡ false) × (is_refused s.levels who Exclusive ≡ false)
commit_tests s who may =
    let worn : Bool = s.kept.counter == 4294967295 in
    let refused : Bool = is_refused s.levels who Exclusive in
    (not_true worn (and_first (not worn) (not refused) may), not_true refused (and_second (not worn) (not refused) may))

change_breaks : (fault : Bool) (s : State) (who : ℕ) (book : Book) (said : Reply) → (not (is_inside s who) && may_commit s who) ≡ true → Allows (changing s who book said) (broken_by fault) (cut_off s book)
change_breaks fault s who book said end = by fault
  where
    outside : is_inside s who ≡ false
    outside = not_true (is_inside s who) (and_first (not (is_inside s who)) (may_commit s who) end)

    tests : ((s.kept.counter == 4294967295) ≡ false) × (is_refused s.levels who Exclusive ≡ false)
    tests = commit_tests s who (and_second (not (is_inside s who)) (may_commit s who) end)

    by : (fault : Bool) → Allows (changing s who book said) (broken_by fault) (cut_off s book)
    by true = let fresh = tests.0 in let free = tests.1 in inr (rw outside (rw fresh (rw free (inl (refl, refl, refl)))))
    by false = let fresh = tests.0 in let free = tests.1 in inr (rw outside (rw fresh (rw free (inr (inl (refl, refl, refl))))))

-- a change outside a transaction is broken off with its commit in doubt
pub change_cut : (fault : Bool) (pick : Pick) (s : State) (who : ℕ) (asked : Command) → IsFair pick s who asked → may_change s who asked ≡ true → (not (is_inside s who) && may_commit s who) ≡ true →
    Step s who asked (broken_by fault) (cut_off s (sized pick (changed (seen s who) pick.root asked)))
change_cut fault pick s who asked fair change end = record {
  pick = pick;
  fair = fair;
  allowed = comes_to pick s who asked (broken_by fault) (cut_off s (sized pick (changed (seen s who) pick.root asked))) change
      (change_breaks fault s who (sized pick (changed (seen s who) pick.root asked)) (said_of (seen s who) asked) end);
}

-- ---- a change that is too large

-- the choice of the fewest pages, with a root
abbrev pub rooted : ℕ → State → ℕ → Pick
rooted root s who = record (fewest s who) { root = root }

pub rooted_is_fair : (root : ℕ) (s : State) (who : ℕ) (asked : Command) → may_change s who asked ≡ true → IsFair (rooted root s who) s who asked
rooted_is_fair root s who (command.Create table columns) may = fewest_fits s who (changed (seen s who) root (command.Create table columns)) refl
rooted_is_fair root s who (command.Drop table) may = fewest_fits s who (changed (seen s who) root (command.Drop table)) refl
rooted_is_fair root s who (command.Put table rowid values) may = fewest_fits s who (changed (seen s who) root (command.Put table rowid values)) refl
rooted_is_fair root s who (command.Del table rowid) may = fewest_fits s who (changed (seen s who) root (command.Del table rowid)) refl
rooted_is_fair root s who (command.Get table rowid) may = absurd (cc)
rooted_is_fair root s who (command.Scan table low high) may = absurd (cc)
rooted_is_fair root s who (command.Count table) may = absurd (cc)
rooted_is_fair root s who command.Tables may = absurd (cc)
rooted_is_fair root s who command.Begin may = absurd (cc)
rooted_is_fair root s who command.Rollback may = absurd (cc)
rooted_is_fair root s who command.Commit may = absurd (cc)
rooted_is_fair root s who command.Reopen may = absurd (cc)

-- numbers of pages change no need
pub need_sized : (pick : Pick) (book : Book) → need_of (sized pick book) ≡ need_of book
unfolding need_of
need_sized pick book = refl

same_page : (book : Book) (root : ℕ) (asked : Command) → (changed book root asked).page ≡ book.page
same_page book root (command.Create table columns) = refl
same_page book root (command.Drop table) = refl
same_page book root (command.Put table rowid values) = refl
same_page book root (command.Del table rowid) = refl
same_page book root (command.Get table rowid) = refl
same_page book root (command.Scan table low high) = refl
same_page book root (command.Count table) = refl
same_page book root command.Tables = refl
same_page book root command.Begin = refl
same_page book root command.Rollback = refl
same_page book root command.Commit = refl
same_page book root command.Reopen = refl

same_unnamed : (book : Book) (root : ℕ) (asked : Command) → (changed book root asked).unnamed ≡ book.unnamed
same_unnamed book root (command.Create table columns) = refl
same_unnamed book root (command.Drop table) = refl
same_unnamed book root (command.Put table rowid values) = refl
same_unnamed book root (command.Del table rowid) = refl
same_unnamed book root (command.Get table rowid) = refl
same_unnamed book root (command.Scan table low high) = refl
same_unnamed book root (command.Count table) = refl
same_unnamed book root command.Tables = refl
same_unnamed book root command.Begin = refl
same_unnamed book root command.Rollback = refl
same_unnamed book root command.Commit = refl
same_unnamed book root command.Reopen = refl

same_most : (book : Book) (root : ℕ) (asked : Command) → too_many (changed book root asked) ≡ too_many book
same_most book root asked = ap (λ (page : ℕ). 2 ^ 30 / page + 1) (same_page book root asked)

-- the test of a change that is too large, for one choice and for what is seen
tested : (a b u v w n m : ℕ) → a ≡ b → u ≡ v → n ≡ m → b ≤ v + w + m → nat_le a (u + w + n) ≡ true
tested a b u v w n m most unnamed need le = le-leb a (u + w + n) (omega arith)

untested : (a b u v w n m : ℕ) → a ≡ b → u ≡ v → n ≡ m → nat_le a (u + w + n) ≡ true → b ≤ v + w + m
untested a b u v w n m most unnamed need is = let le : a ≤ u + w + n = leb-true a (u + w + n) is in omega arith

pub too_large : (s : State) (who : ℕ) (asked : Command) (pages : ℕ) → MayPass s who asked pages → Step s who asked (reply.Large pages) (reached s who Reserved)
too_large s who asked pages may =
    let pick = rooted may.root s who in
    let book = changed (seen s who) may.root asked in
    let test = tested (too_many book) (too_many (seen s who)) (length book.unnamed) (length (seen s who).unnamed) (use_of (seen s who)) (need_of (sized pick book)) (need_of book)
    (same_most (seen s who) may.root asked) (ap length (same_unnamed (seen s who) may.root asked)) (need_sized pick book) may.passes in
    record {
      pick = pick;
      fair = rooted_is_fair may.root s who asked may.changes;
      allowed = comes_to pick s who asked (reply.Large pages) (reached s who Reserved) may.changes
          (inl (test, ap reply.Large (may.pages_are ∙ sym (same_most (seen s who) may.root asked)), refl));
    }

-- what is allowed at the head of a change's last part
pub may_pass : (pick : Pick) (s : State) (who : ℕ) (asked : Command) (pages : ℕ) → may_change s who asked ≡ true →
    nat_le (too_many (sized pick (changed (seen s who) pick.root asked))) (length (sized pick (changed (seen s who) pick.root asked)).unnamed + use_of (seen s who) + need_of (sized pick (changed (seen s who) pick.root asked))) ≡ true →
    reply.Large pages ≡ reply.Large (too_many (changed (seen s who) pick.root asked)) → MayPass s who asked pages
may_pass pick s who asked pages change test is =
    let book = changed (seen s who) pick.root asked in
    record {
      changes = change;
      pages_are = same_pages pages (too_many book) is ∙ same_most (seen s who) pick.root asked;
      root = pick.root;
      passes = untested (too_many book) (too_many (seen s who)) (length book.unnamed) (length (seen s who).unnamed) (use_of (seen s who)) (need_of (sized pick book)) (need_of book)
          (same_most (seen s who) pick.root asked) (ap length (same_unnamed (seen s who) pick.root asked)) (need_sized pick book) test;
    }
  where
    same_pages : (n m : ℕ) → reply.Large n ≡ reply.Large m → n ≡ m
    same_pages n m e = cc
