-- The calls that a trace layer keeps, and their text.
use Rattle.std.specs.Prelude.{◌≡◌, ℕ, ◌+◌, ◌-◌, min, Bool, true, false, List, [], ◌∷◌, ◌++◌, length, drop, codes, decimal, Result, Ok, Err}
use Rattle.vfs_model.specs.declared.name.Kind.{Kind}
use Rattle.vfs_model.specs.declared.name.Kind.TheVariants.{Main, Journal, Super}
use Rattle.vfs_model.specs.declared.level.Level.{Level}
use Rattle.vfs_model.specs.declared.level.Level.TheVariants.{Free, Shared, Reserved, Pending, Exclusive}
use Rattle.vfs_model.specs.declared.layer.Layer.{Layer}
use Rattle.vfs_model.specs.declared.layer.Layer.TheVariants.{Trace as TraceLayer, Cksum, Append, Mux, Quota}
use Rattle.vfs_trait.specs.declared.fault.VfsFault.{VfsFault}
use Rattle.vfs_trait.specs.declared.fault.VfsFault.TheVariants.{Failed, Memory, Busy, Full, BadPage}
use Rattle.vfs_trait.specs.declared.log.Entry.{Entry}
use Rattle.vfs_trait.specs.declared.log.Call.{Call}
use Rattle.vfs_trait.specs.declared.log.Call.TheVariants.{Open, Exists, Read, Write, Cut, Sync, Length, Delete, SyncNames, Lock, Unlock}
use Rattle.vfs_trait.specs.declared.log.Outcome.{Outcome}
use Rattle.vfs_trait.specs.declared.log.Outcome.TheVariants.{Ok as Done, Fid as Number, Yes, No, Bytes, Len, Fault}

-- the last calls of a trace layer, the oldest first; how many it can keep; how many went out; the number of the next call
pub record Ring : Type 0 where
  pub entries : List Entry
  pub room : ℕ
  pub dropped : ℕ
  pub next : ℕ

-- the greatest count, at which a count stays
abbrev pub greatest_count : ℕ
greatest_count = 18446744073709551615

abbrev pub counted_up : ℕ → ℕ → ℕ
counted_up count more = min (count + more) greatest_count

-- the last of some entries, and how many others there are
abbrev pub over : ℕ → List Entry → ℕ
over room entries = length entries - room

-- a call more
abbrev pub with_call : Call → Outcome → Ring → Ring
with_call call outcome ring = kept (ring.entries ++ record { number = ring.next; call = call; result = outcome } ∷ []) where
  kept : List Entry → Ring
  kept entries = record ring {
    entries = drop (over ring.room entries) entries;
    dropped = counted_up ring.dropped (over ring.room entries);
    next = counted_up ring.next 1;
  }

-- after some calls
abbrev pub with_calls : List (Call × Outcome) → Ring → Ring
with_calls [] ring = ring
with_calls (call ∷ more) ring = with_calls more (with_call call.0 call.1 ring)

-- the entries are taken
abbrev pub emptied : Ring → Ring
emptied ring = record ring { entries = []; dropped = 0 }

-- each ring has some calls more
abbrev pub RingsGrow : List Ring → List Ring → Type 0
RingsGrow [] [] = Unit {0}
RingsGrow [] (new ∷ others) = ⊥
RingsGrow (old ∷ more) [] = ⊥
RingsGrow (old ∷ more) (new ∷ others) = ((calls : List (Call × Outcome)) × (new ≡ with_calls calls old)) × RingsGrow more others

-- A call was recorded: by a trace layer on top just this call, with its outcome. Which calls it makes of layers further down
-- is theirs
abbrev pub Logs : List Layer → List Ring → List Ring → Call → Outcome → Type 0
Logs [] old new call outcome = RingsGrow old new
Logs (TraceLayer ∷ below) [] new call outcome = RingsGrow [] new
Logs (TraceLayer ∷ below) (ring ∷ old) [] call outcome = ⊥
Logs (TraceLayer ∷ below) (ring ∷ old) (ring' ∷ new) call outcome = (ring' ≡ with_call call outcome ring) × RingsGrow old new
Logs (Cksum page ∷ below) old new call outcome = RingsGrow old new
Logs (Append ∷ below) old new call outcome = RingsGrow old new
Logs (Mux chunk ∷ below) old new call outcome = RingsGrow old new
Logs (Quota groups ∷ below) old new call outcome = RingsGrow old new

-- the outcome that a result is
abbrev pub outcome_of : {T : Type 0} → (T → Outcome) → Result T VfsFault → Outcome
outcome_of shown (Ok value) = shown value
outcome_of shown (Err fault) = Fault fault

-- that of an answer yes or no
abbrev pub yes_or_no : Bool → Outcome
yes_or_no true = Yes
yes_or_no false = No

-- Texts

abbrev pub kind_text : Kind → List ℕ
kind_text Main = codes "main"
kind_text Journal = codes "journal"
kind_text Super = codes "super"

abbrev pub level_text : Level → List ℕ
level_text Free = codes "free"
level_text Shared = codes "shared"
level_text Reserved = codes "reserved"
level_text Pending = codes "pending"
level_text Exclusive = codes "exclusive"

-- a word with these words behind it, each after a blank
abbrev pub words : List ℕ → List (List ℕ) → List ℕ
words first [] = first
words first (word ∷ more) = first ++ 32 ∷ words word more

abbrev pub call_text : Call → List ℕ
call_text (Open name kind) = words (codes "open") (name ∷ kind_text kind ∷ [])
call_text (Exists name) = words (codes "exists") (name ∷ [])
call_text (Read fid off len) = words (codes "read") (decimal fid.0 ∷ decimal off ∷ decimal len ∷ [])
call_text (Write fid off len) = words (codes "write") (decimal fid.0 ∷ decimal off ∷ decimal len ∷ [])
call_text (Cut fid len) = words (codes "cut") (decimal fid.0 ∷ decimal len ∷ [])
call_text (Sync fid) = words (codes "sync") (decimal fid.0 ∷ [])
call_text (Length fid) = words (codes "length") (decimal fid.0 ∷ [])
call_text (Delete name kind) = words (codes "delete") (name ∷ kind_text kind ∷ [])
call_text SyncNames = codes "syncnames"
call_text (Lock fid owner level) = words (codes "lock") (decimal fid.0 ∷ decimal owner ∷ level_text level ∷ [])
call_text (Unlock fid owner level) = words (codes "unlock") (decimal fid.0 ∷ decimal owner ∷ level_text level ∷ [])

abbrev pub fault_text : VfsFault → List ℕ
fault_text Failed = codes "failed"
fault_text Memory = codes "memory"
fault_text (Busy holder level) = words (codes "busy") (decimal holder ∷ level_text level ∷ [])
fault_text (Full total limit) = words (codes "full") (decimal total ∷ decimal limit ∷ [])
fault_text (BadPage page kept found) = words (codes "bad") (decimal page ∷ [])

abbrev pub outcome_text : Outcome → List ℕ
outcome_text Done = codes "ok"
outcome_text (Number fid) = words (codes "fid") (decimal fid.0 ∷ [])
outcome_text Yes = codes "yes"
outcome_text No = codes "no"
outcome_text (Bytes count) = words (codes "bytes") (decimal count ∷ [])
outcome_text (Len len) = words (codes "len") (decimal len ∷ [])
outcome_text (Fault fault) = fault_text fault

-- the line of an entry
abbrev pub entry_text : Entry → List ℕ
entry_text entry = words (codes "call") (decimal entry.number ∷ call_text entry.call ∷ codes "=" ∷ outcome_text entry.result ∷ [])
