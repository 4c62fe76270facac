-- What a property of replies and states has to have to hold of every step: each outcome that a list of cases may have, named once.
use Rattle.std.proofs.Common.{◌≡◌, ◌≢◌, ℕ, ℤ, Bool, true, false, cond, ◌⊎◌, inl, inr, Option, Some, None, refl, ap, not}
use Rattle.std.specs.Prelude.{is_some}
use Rattle.std.specs.FinMap as map
use Rattle.vfs_model.specs.declared.level.Level.TheVariants.{Shared, Reserved, Exclusive}
use Rattle.shell_lang.specs.declared.command.Command.{Command}
use Rattle.shell_lang.specs.declared.command.Command.TheVariants as command
use Rattle.shell_lang.specs.declared.reply.Reply.{Reply}
use Rattle.shell_lang.specs.declared.reply.Reply.TheVariants as reply
use Rattle.shell_lang.specs.declared.reply.ErrorWord.TheVariants as word
use Rattle.book_model.specs.Book.{Book, Row, table_at, has_row}
use Rattle.shell_model.specs.State.{State, Doubt, own, is_inside, is_refused, reached, waiting, begun, ended, drafted, committed, halted, opened, seen}
use Rattle.shell_model.specs.Cases.{Pick, cases_of, row_reply}
use Rattle.shell_model.specs.Run.{stopped_after}
use Rattle.shell_model.specs.Step.{Step}
use Rattle.shell_laws.proofs.CaseLemmas.{Each, each_holds, never}

-- the reply of a stopped session, and the one that refuses an opening
abbrev pub is_apart : Reply → Bool
is_apart reply.Stopped = true
is_apart (reply.Refused db why) = true
is_apart _ = false

-- a reply that leaves a session stopped or open, as it was
abbrev pub IsQuiet : Reply → Type 0
IsQuiet r = (is_apart r ≡ false) × ((was : Bool) → stopped_after was r ≡ was)

-- one that stops it
abbrev pub IsHalting : Reply → Type 0
IsHalting r = (is_apart r ≡ false) × ((was : Bool) → stopped_after was r ≡ true)

-- the outcomes of a command
pub record Outcomes (P : Reply → State → Type 0) (s : State) (who : ℕ) (asked : Command) : Type 0 where
  pub stops : s.stopped ≡ true → asked ≢ command.Reopen → P reply.Stopped s
  pub stays : (r : Reply) → IsQuiet r → s.stopped ≡ false → P r s
  pub halts : (r : Reply) (doubt : Option Doubt) → IsHalting r → (s.stopped ≡ true → asked ≡ command.Reopen) → P r (halted s doubt)
  pub reads : (r : Reply) → IsQuiet r → s.stopped ≡ false → P r (reached s who Shared)
  pub writes : (r : Reply) → IsQuiet r → s.stopped ≡ false → is_refused s.levels who Reserved ≡ false → P r (reached s who Reserved)
  pub drafts : (r : Reply) (book : Book) → IsQuiet r → s.stopped ≡ false → is_refused s.levels who Reserved ≡ false → is_inside s who ≡ true → P r (drafted s who book)
  pub commits : (r : Reply) (book : Book) → IsQuiet r → s.stopped ≡ false → (is_refused s.levels who Reserved ≡ false) ⊎ (is_some (own s who) ≡ true) → P r (committed s who book)
  pub waits : s.stopped ≡ false → is_some (own s who) ≡ true → P reply.Busy (waiting s who)
  pub begins : s.stopped ≡ false → P reply.Done (begun s who)
  pub ends : s.stopped ≡ false → P reply.Done (ended s who)
  pub opens : (found : Book) → asked ≡ command.Reopen → P (reply.Open found.counter) (opened found)

abbrev pub is_reopen : Command → Bool
is_reopen command.Reopen = true
is_reopen _ = false

other_than : (asked : Command) → is_reopen asked ≡ false → asked ≢ command.Reopen
other_than asked is same = never (ap is_reopen same) is

row_is_quiet : (rowid : ℤ) (found : Option Row) → IsQuiet (row_reply rowid found)
row_is_quiet rowid None = (refl, λ was. refl)
row_is_quiet rowid (Some row) = (refl, λ was. refl)

put_is_quiet : (there : Bool) → IsQuiet (cond there reply.Replaced reply.New)
put_is_quiet true = (refl, λ was. refl)
put_is_quiet false = (refl, λ was. refl)

module _ (P : Reply → State → Type 0) (s : State) (who : ℕ) (given : Command) (o : Outcomes P s who given) where
  -- the parts that several commands share, each with what comes after it
  reads_each : {R : Type 0} → is_reopen given ≡ false → (s.stopped ≡ false → R) →
      (s.stopped ≡ true → P reply.Stopped s) × (s.stopped ≡ false → P reply.Memory s × ((is_refused s.levels who Shared ≡ true → P reply.Busy s)
      × (is_refused s.levels who Shared ≡ false → P reply.Fault (halted s s.doubt) × R)))
  reads_each other rest = (
    λ is. o.stops is (other_than given other),
    λ goes. (
      o.stays reply.Memory (refl, λ was. refl) goes,
      (
        λ _. o.stays reply.Busy (refl, λ was. refl) goes,
        λ _. (o.halts reply.Fault s.doubt (refl, λ was. refl) (λ is. never is goes), rest goes),
      ),
    ),
  )

  writes_each : {R : Type 0} → is_reopen given ≡ false → (s.stopped ≡ false → is_refused s.levels who Reserved ≡ false → R) →
      (s.stopped ≡ true → P reply.Stopped s) × (s.stopped ≡ false → P reply.Memory s × ((is_refused s.levels who Shared ≡ true → P reply.Busy s)
      × (is_refused s.levels who Shared ≡ false → P reply.Fault (halted s s.doubt) × ((is_refused s.levels who Reserved ≡ true → P reply.Busy s) × (is_refused s.levels who Reserved ≡ false → R)))))
  writes_each other rest = reads_each other (λ goes. (λ _. o.stays reply.Busy (refl, λ was. refl) goes, rest goes))

  looks_each : {R : Type 0} {none foreign : Bool} (after : State) → ((r : Reply) → IsQuiet r → P r after) → R →
      (none ≡ true → P (reply.Error word.NoTable) after) × (none ≡ false → (foreign ≡ true → P (reply.Error word.Foreign) after) × (foreign ≡ false → R))
  looks_each after says rest = (λ _. says (reply.Error word.NoTable) (refl, λ was. refl), λ _. (λ _. says (reply.Error word.Foreign) (refl, λ was. refl), λ _. rest))

  commits_each : {worn : Bool} (book : Book) (left busy : State) (done : Reply) (doubt : Option Doubt) → IsQuiet done → s.stopped ≡ false → (is_refused s.levels who Reserved ≡ false) ⊎ (is_some (own s who) ≡ true) →
      P reply.Worn left → P reply.Busy busy →
      (worn ≡ true → P reply.Worn left) × (worn ≡ false → (is_refused s.levels who Exclusive ≡ true → P reply.Busy busy)
      × (is_refused s.levels who Exclusive ≡ false → P reply.Fault (halted s doubt) × (P reply.MemoryStopped (halted s doubt) × ((true ≡ true → P done (committed s who book)) × (true ≡ false → Unit {0})))))
  commits_each book left busy done doubt quiet goes writer at_worn at_busy = (
    λ _. at_worn,
    λ _. (
      λ _. at_busy,
      λ _. (
        o.halts reply.Fault doubt (refl, λ was. refl) (λ is. never is goes),
        (o.halts reply.MemoryStopped doubt (refl, λ was. refl) (λ is. never is goes), (λ _. o.commits done book quiet goes writer, λ _. tt)),
      ),
    ),
  )

  changes_each : {worn : Bool} (book : Book) (done : Reply) (pages : ℕ) (doubt : Option Doubt) → IsQuiet done → s.stopped ≡ false → is_refused s.levels who Reserved ≡ false →
      P (reply.Large pages) (reached s who Reserved) × ((is_inside s who ≡ true → P done (drafted s who book)) × (is_inside s who ≡ false →
      (worn ≡ true → P reply.Worn s) × (worn ≡ false → (is_refused s.levels who Exclusive ≡ true → P reply.Busy s)
      × (is_refused s.levels who Exclusive ≡ false → P reply.Fault (halted s doubt) × (P reply.MemoryStopped (halted s doubt) × ((true ≡ true → P done (committed s who book)) × (true ≡ false → Unit {0})))))))
  changes_each book done pages doubt quiet goes free = (
    o.writes (reply.Large pages) (refl, λ was. refl) goes free,
    (
      λ inside. o.drafts done book quiet goes free inside,
      λ outside. commits_each book s s done doubt quiet goes (inl free) (o.stays reply.Worn (refl, λ was. refl) goes) (o.stays reply.Busy (refl, λ was. refl) goes),
    ),
  )

-- every case of a command is one of these outcomes
every : (P : Reply → State → Type 0) (pick : Pick) (s : State) (who : ℕ) (asked : Command) → Outcomes P s who asked → Each P (cases_of pick s who asked)
every P pick s who (command.Create table columns) o = writes_each P s who _ o refl (λ goes free. (
  λ _. o.writes (reply.Error word.Exists) (refl, λ was. refl) goes free,
  λ _. changes_each P s who _ o _ reply.Done _ _ (refl, λ was. refl) goes free,
))
every P pick s who (command.Drop table) o = writes_each P s who _ o refl (λ goes free. looks_each P s who _ o (reached s who Reserved) (λ r quiet. o.writes r quiet goes free)
    (changes_each P s who _ o _ reply.Done _ _ (refl, λ was. refl) goes free))
every P pick s who (command.Put table rowid values) o = writes_each P s who _ o refl (λ goes free. looks_each P s who _ o (reached s who Reserved) (λ r quiet. o.writes r quiet goes free) (
  λ _. o.writes (reply.Error word.Columns) (refl, λ was. refl) goes free,
  λ _. (
    λ _. o.writes (reply.Error word.TooLong) (refl, λ was. refl) goes free,
    λ _. changes_each P s who _ o _ _ _ _ (put_is_quiet (has_row (seen s who) table.name rowid)) goes free,
  ),
))
every P pick s who (command.Del table rowid) o = writes_each P s who _ o refl (λ goes free. looks_each P s who _ o (reached s who Reserved) (λ r quiet. o.writes r quiet goes free)
    (λ _. o.writes reply.Nothing (refl, λ was. refl) goes free, λ _. changes_each P s who _ o _ reply.Done _ _ (refl, λ was. refl) goes free))
every P pick s who (command.Get table rowid) o = reads_each P s who _ o refl (λ goes. looks_each P s who _ o (reached s who Shared) (λ r quiet. o.reads r quiet goes)
    (λ _. o.reads _ (row_is_quiet rowid (map.get (table_at (seen s who) table.name).rows rowid)) goes, λ _. tt))
every P pick s who (command.Scan table low high) o = reads_each P s who _ o refl (λ goes. looks_each P s who _ o (reached s who Shared) (λ r quiet. o.reads r quiet goes)
    (o.halts _ s.doubt (refl, λ was. refl) (λ is. never is goes), (o.stays _ (refl, λ was. refl) goes, (λ _. o.reads _ (refl, λ was. refl) goes, λ _. tt))))
every P pick s who (command.Count table) o = reads_each P s who _ o refl (λ goes. looks_each P s who _ o (reached s who Shared) (λ r quiet. o.reads r quiet goes)
    (λ _. o.reads _ (refl, λ was. refl) goes, λ _. tt))
every P pick s who command.Tables o = reads_each P s who _ o refl (λ goes. (λ _. o.reads _ (refl, λ was. refl) goes, λ _. tt))
every P pick s who command.Begin o = (λ is. o.stops is (other_than command.Begin refl), λ goes. (λ _. o.stays _ (refl, λ was. refl) goes, λ _. (λ _. o.begins goes, λ _. tt)))
every P pick s who command.Rollback o = (λ is. o.stops is (other_than command.Rollback refl), λ goes. (λ _. o.stays _ (refl, λ was. refl) goes, λ _. (λ _. o.ends goes, λ _. tt)))
every P pick s who command.Commit o = (
  λ is. o.stops is (other_than command.Commit refl),
  λ goes. (
    λ _. o.stays _ (refl, λ was. refl) goes,
    λ _. (
      λ _. o.ends goes,
      λ has. let mine : is_some (own s who) ≡ true = not_not _ has in (
        o.stays reply.Memory (refl, λ was. refl) goes,
        commits_each P s who _ o (seen s who) s (waiting s who) reply.Done _ (refl, λ was. refl) goes (inr mine) (o.stays reply.Worn (refl, λ was. refl) goes) (o.waits goes mine),
      ),
    ),
  ),
)
  where
    not_not : (b : Bool) → not b ≡ false → b ≡ true
    not_not true is = refl
    not_not false is = absurd (cc)
every P pick s who command.Reopen o = (o.halts _ s.doubt (refl, λ was. refl) (λ _. refl), (o.halts _ s.doubt (refl, λ was. refl) (λ _. refl), (λ _. o.opens pick.found refl, λ _. tt)))

-- so it holds of the step
pub of_step : (P : Reply → State → Type 0) (s : State) (who : ℕ) (asked : Command) (answer : Reply) (next : State) → Outcomes P s who asked → Step s who asked answer next → P answer next
of_step P s who asked answer next o step = each_holds P (cases_of step.pick s who asked) answer next (every P step.pick s who asked o) step.allowed
