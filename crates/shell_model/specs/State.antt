-- The machine: what is kept, the connections, and what a stop may have left in doubt.
use Rattle.std.specs.Prelude.{◌≡◌, ◌⊎◌, ◌↔◌, ℕ, ◌+◌, ◌-◌, ◌==◌, ◌&&◌, nat_lt, nat_le, not, Bool, true, false, if◌then◌else◌, List, [], ◌∷◌, replicate, slice_index_or, slice_set, Option, Some, None, unwrap_or}
use Rattle.std.specs.List.{list_any}
use Rattle.vfs_model.specs.Lock.{Refuses, rank, all_free, level_at, with_level, after_refusal}
use Rattle.vfs_model.specs.declared.level.Level.{Level}
use Rattle.vfs_model.specs.declared.level.Level.TheVariants.{Free, Shared, Reserved, Pending, Exclusive}
use Rattle.book_model.specs.Book.{Book}

-- what a connection has changed and not committed
pub record Draft : Type 0 where
  pub owner : ℕ
  pub book : Book

-- a commit that was cut off: what was kept before it, and what it would have kept
pub record Doubt : Type 0 where
  pub before : Book
  pub after : Book

pub record State : Type 0 where
  pub kept : Book
  pub draft : Option Draft
  -- the level of each connection, the first that of connection 1
  pub levels : List Level
  -- which connections are inside a transaction, the first connection 1
  pub inside : List Bool
  pub stopped : Bool
  pub doubt : Option Doubt

-- a book that the database may hold: the kept one, or where a commit was cut off the one before it or after it
abbrev pub IsCandidate : Option Doubt → Book → Book → Type 0
IsCandidate None kept found = found ≡ kept
IsCandidate (Some doubt) kept found = (found ≡ doubt.before) ⊎ (found ≡ doubt.after)

-- nobody is inside a transaction
abbrev pub none_inside : List Bool
none_inside = replicate 8 false

-- a connection is inside a transaction
abbrev pub is_inside : State → ℕ → Bool
is_inside s who = slice_index_or s.inside (who - 1) false

-- the draft of a connection, where it has one
abbrev pub own_of : Option Draft → ℕ → Option Book
own_of None who = None
own_of (Some draft) who = if draft.owner == who then Some draft.book else None

abbrev pub own : State → ℕ → Option Book
own s who = own_of s.draft who

-- a connection sees its own draft where it has one, else the kept book
abbrev pub seen : State → ℕ → Book
seen s who = unwrap_or (own s who) s.kept

-- whether a level of another keeps this one out
abbrev pub keeps_out : Level → Level → Bool
keeps_out Free other = false
keeps_out Shared other = nat_le 3 (rank other)
keeps_out Reserved other = nat_le 2 (rank other)
keeps_out Pending other = false
keeps_out Exclusive other = nat_le 1 (rank other)

-- the numbers of the connections
abbrev pub owners : List ℕ
owners = 1 ∷ 2 ∷ 3 ∷ 4 ∷ 5 ∷ 6 ∷ 7 ∷ 8 ∷ []

-- the lock rule as a test: a level is refused that is not held yet and is kept out by another connection
abbrev pub is_refused : List Level → ℕ → Level → Bool
is_refused levels who asked =
    nat_lt (rank (level_at levels who)) (rank asked) && list_any (λ other. not (other == who) && keeps_out asked (level_at levels other)) owners

-- the test is the rule
abbrev pub RefusedByRule : Type 0
RefusedByRule = (levels : List Level) (who : ℕ) (asked : Level) →
    is_refused levels who asked ≡ true ↔ ((after : List Level) × (holder : ℕ) × (level : Level) × Refuses levels after who asked holder level)

-- the levels where it is granted
abbrev pub granted : List Level → ℕ → Level → List Level
granted levels who asked = if nat_lt (rank (level_at levels who)) (rank asked) then with_level levels who asked else levels

-- a connection was granted a level: inside a transaction it keeps it, outside it ends at Free
abbrev pub reached : State → ℕ → Level → State
reached s who level = if is_inside s who then record s { levels = granted s.levels who level } else s

-- a connection waits for Exclusive, so that no new reader comes
abbrev pub waiting : State → ℕ → State
waiting s who = record s { levels = after_refusal s.levels who Exclusive }

-- a connection begins a transaction
abbrev pub begun : State → ℕ → State
begun s who = record s { inside = slice_set s.inside (who - 1) true }

-- the draft without that of a connection
abbrev pub without_own : Option Draft → ℕ → Option Draft
without_own None who = None
without_own (Some draft) who = if draft.owner == who then None else Some draft

-- a connection ends its transaction: its draft and its locks are gone
abbrev pub ended : State → ℕ → State
ended s who = record s { draft = without_own s.draft who; levels = with_level s.levels who Free; inside = slice_set s.inside (who - 1) false }

-- a connection inside a transaction has this draft
abbrev pub drafted : State → ℕ → Book → State
drafted s who book = record s { draft = Some (record { owner = who; book = book }); levels = granted s.levels who Reserved }

-- a book that was committed over the kept one: the counter is one more
abbrev pub committed_book : Book → Book → Book
committed_book kept book = record book { counter = kept.counter + 1 }

-- a connection has committed a book
abbrev pub committed : State → ℕ → Book → State
committed s who book = record (ended s who) { kept = committed_book s.kept book }

-- the session has stopped: every draft, lock and transaction is gone, and what is kept is not forgotten
abbrev pub halted : State → Option Doubt → State
halted s doubt = record { kept = s.kept; draft = None; levels = all_free; inside = none_inside; stopped = true; doubt = doubt }

-- an opening has found this book
abbrev pub opened : Book → State
opened book = record { kept = book; draft = None; levels = all_free; inside = none_inside; stopped = false; doubt = None }

-- before an opening, over a database that holds the book
abbrev pub closed : Book → State
closed book = record { kept = book; draft = None; levels = all_free; inside = none_inside; stopped = true; doubt = None }
