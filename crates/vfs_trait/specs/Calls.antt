-- What each call of a stack answers and leaves, by cases on its answer.
use Rattle.std.specs.Prelude.{◌≡◌, ◌≢◌, ◌⊎◌, ℕ, zero, suc, ◌+◌, ◌-◌, ◌*◌, ◌%◌, ◌≤◌, ◌<◌, Bool, true, false, List, [], ◌∷◌, ◌++◌, length, map, drop, replicate, min, Option, Some, None, IsSome, IsTrue, Result, Ok, Err, slice_get}
use Rattle.byte_base.specs.Count.{Rose}
use Rattle.byte_base.specs.Numbers.{number_at}
use Rattle.byteorder.specs.Endian.{little_bytes}
use Rattle.vfs_model.specs.File.{FileState}
use Rattle.vfs_model.specs.Effect.{NoLooser, Wrote, WriteFailed, WriteFull, Cut, CutFailed, Synced, Opened, OpenFailed, Deleted, DeleteFailed}
use Rattle.vfs_model.specs.Sound.{Each}
use Rattle.vfs_model.specs.Store.{OthersStay, FilesStay, NamesSynced, present}
use Rattle.vfs_model.specs.Name.{kind_of}
use Rattle.vfs_model.specs.Mark.{has_header}
use Rattle.vfs_model.specs.Sums.{found_sums, page_at, kept_size}
use Rattle.vfs_model.specs.View.{through}
use Rattle.vfs_model.specs.Pass.{OpenFile, OpenFiles, Lengths, Passing, Passes, IsFull, pass, of_file, others_of, each_joined, lengths_shown, total_of}
use Rattle.vfs_model.specs.Lock.{IsOwner, level_at, rank, Grants, Refuses}
use Rattle.vfs_model.specs.declared.name.Kind.{Kind}
use Rattle.vfs_model.specs.declared.name.Kind.TheVariants.{Main, Journal, Super}
use Rattle.vfs_model.specs.declared.level.Fid.{Fid}
use Rattle.vfs_model.specs.declared.level.Level.{Level}
use Rattle.vfs_model.specs.declared.level.Level.TheVariants.{Free, Shared, Reserved, Pending, Exclusive}
use Rattle.vfs_model.specs.declared.layer.Group.{Group}
use Rattle.vfs_model.specs.declared.layer.Layer.{Layer}
use Rattle.vfs_model.specs.declared.layer.Layer.TheVariants.{Trace, Cksum, Append, Mux, Quota}
use Rattle.vfs_trait.specs.State.{StackState, OpenStays, LengthsStay, name_at, LengthsOf, IsCounted}
use Rattle.vfs_trait.specs.Log.{Ring, emptied, entry_text}
use Rattle.vfs_trait.specs.declared.fault.VfsFault.{VfsFault}
use Rattle.vfs_trait.specs.declared.fault.VfsFault.TheVariants.{Failed, Memory, Busy, Full, BadPage}
use Rattle.vfs_trait.specs.declared.control.Control.{Control}
use Rattle.vfs_trait.specs.declared.control.Control.TheVariants.{Totals, SetLimit, TakeTrace}
use Rattle.vfs_trait.specs.declared.control.Answer.{Answer}
use Rattle.vfs_trait.specs.declared.control.Answer.TheVariants.{Unknown, Done, Totals as AreTotals, Trace as AreLines}

-- why a call that is not on the bytes of a file is refused: Failed only where the count rose; want of memory needs no cause
abbrev pub Caused : {T : Type 0} → StackState → StackState → Result T VfsFault → Type 0
Caused old new (Ok _) = Unit {0}
Caused old new (Err Failed) = Rose old.faults new.faults
Caused old new (Err Memory) = Unit {0}
Caused old new (Err (Busy holder level)) = ⊥
Caused old new (Err (Full total limit)) = ⊥
Caused old new (Err (BadPage page kept found)) = ⊥

-- Opening and closing

-- the number was not in use, is the least such, and has the name from now on
pub record Takes (old new : StackState) (name : List ℕ) (fid : ℕ) : Type 0 where
  pub unused : old.open_files fid ≡ None
  pub least : (other : ℕ) → other < fid → IsSome (old.open_files other)
  pub named : new.open_files fid ≡ Some name
  pub others : (other : ℕ) → other ≢ fid → new.open_files other ≡ old.open_files other
  pub delicate : (other : List ℕ) → other ≢ name → new.delicate other ≡ old.delicate other
  pub intact : new.broken fid ≡ false

abbrev pub Numbers : StackState → StackState → List ℕ → Result Fid VfsFault → Type 0
Numbers old new name (Ok fid) = Takes old new name fid.0
Numbers old new name (Err _) = OpenStays old new

-- the number is not in use any more, its locks are gone, and nothing is kept of its lengths
pub record Closes (old new : StackState) (fid : ℕ) : Type 0 where
  pub closed : new.open_files fid ≡ None
  pub others : (other : ℕ) → other ≢ fid → new.open_files other ≡ old.open_files other
  pub delicate : (other : List ℕ) → other ≢ name_at old fid → new.delicate other ≡ old.delicate other
  pub levels : (other : ℕ) → other ≢ fid → new.levels other ≡ old.levels other

abbrev pub OpenLeaves : FileState → FileState → Result Fid VfsFault → Type 0
OpenLeaves old new (Ok _) = Opened old new
OpenLeaves old new (Err _) = OpenFailed old new

-- at each layer the lengths of a file are put behind those that are there
pub record AddsLengths (old new : StackState) (name : List ℕ) : Type 0 where
  pub own : Lengths
  pub joined : new.lengths ≡ each_joined old.lengths own
  pub of_it : of_file old.layers name own ≡ own

-- an opening adds those of a database
abbrev pub OpenLengths : Kind → StackState → StackState → List ℕ → Result Fid VfsFault → Type 0
OpenLengths kind old new name (Err _) = LengthsStay old new
OpenLengths Main old new name (Ok _) = AddsLengths old new name
OpenLengths Journal old new name (Ok _) = LengthsStay old new
OpenLengths Super old new name (Ok _) = LengthsStay old new

-- a closing takes them out
abbrev pub CloseLengths : Kind → StackState → StackState → List ℕ → Type 0
CloseLengths Main old new name = new.lengths ≡ others_of old.layers name old.lengths
CloseLengths Journal old new name = LengthsStay old new
CloseLengths Super old new name = LengthsStay old new

-- Reading

-- so many bytes were read, and zeros stand behind them
pub record FillsUp (buf : List ℕ) (count : ℕ) : Type 0 where
  pub within : count ≤ length buf
  pub zeros : (place : ℕ) → count ≤ place → place < length buf → slice_get buf place ≡ Some 0

-- they are the bytes of the file from the offset on, as many as it has there
pub record Reads (file : List ℕ) (off : ℕ) (buf : List ℕ) (count : ℕ) : Type 0 where
  pub counted : count ≡ min (length buf) (length file - off)
  pub bytes : (place : ℕ) → place < count → slice_get buf place ≡ slice_get file (off + place)

-- the buffer holds zeros
pub record AllZero (buf : List ℕ) : Type 0 where
  pub each : (place : ℕ) → place < length buf → slice_get buf place ≡ Some 0

-- the page size of a checksum layer, and the layers below it
abbrev pub checked : List Layer → Option (ℕ × List Layer)
checked [] = None
checked (Trace ∷ below) = checked below
checked (Cksum page ∷ below) = Some (page, below)
checked (Append ∷ below) = checked below
checked (Mux chunk ∷ below) = checked below
checked (Quota groups ∷ below) = checked below

-- the bytes of a database below the checksum layer
abbrev pub unchecked : StackState → List Layer → List ℕ → List ℕ
unchecked s below name = (through below (present s.base) name).bytes

-- a read of so many bytes, and not of none, touches a page, numbered from 0
abbrev pub Touches : ℕ → ℕ → ℕ → ℕ → Type 0
Touches size off len number = (1 ≤ len) × (off < size * (number + 1)) × (size * number < off + len)

-- the eight bytes that a page keeps, and those that it should keep, as big-endian numbers
abbrev pub kept_number : ℕ → List ℕ → ℕ → ℕ
kept_number size bytes number = number_at 8 (page_at size bytes number) (size - kept_size)

abbrev pub sums_number : ℕ × ℕ → ℕ
sums_number sums = number_at 8 (little_bytes 4 sums.0 ++ little_bytes 4 sums.1) 0

-- the first page that a read touches and that is bad
pub record FirstBad (size : ℕ) (bad : ℕ → Bool) (off len page : ℕ) : Type 0 where
  pub number : ℕ
  pub is : page ≡ number + 1
  pub touched : Touches size off len number
  pub bad_is : bad (size * number) ≡ true
  pub first : (other : ℕ) → other < number → Touches size off len other → bad (size * other) ≡ false

-- the sums that a page keeps and has
pub record SumsOf (size : ℕ) (bytes : List ℕ) (page kept found : ℕ) : Type 0 where
  pub kept_is : kept ≡ kept_number size bytes (page - 1)
  pub found_is : found ≡ sums_number (found_sums size bytes (page - 1))

-- a read meets a bad page: of a database, below a checksum layer, and where it is told, the first one. Which sums the page of
-- a wild file has is not said
abbrev pub MeetsIn : StackState → List ℕ → ℕ → ℕ → ℕ → ℕ → ℕ → Option (ℕ × List Layer) → Type 0
MeetsIn s name off len page kept found None = ⊥
MeetsIn s name off len page kept found (Some layer) = (kind_of name ≡ Main)
    × (IsTrue s.tells → FirstBad layer.0 (s.files name).now.bad off len page × ((s.files name).wild ≡ false → SumsOf layer.0 (unchecked s layer.1 name) page kept found))

abbrev pub ReadCaused : StackState → StackState → List ℕ → ℕ → ℕ → Result ℕ VfsFault → Type 0
ReadCaused old new name off len (Ok _) = IsTrue old.tells → (place : ℕ) → off ≤ place → place < off + len → (old.files name).now.bad place ≡ false
ReadCaused old new name off len (Err Failed) = Rose old.faults new.faults
ReadCaused old new name off len (Err Memory) = Unit {0}
ReadCaused old new name off len (Err (Busy holder level)) = ⊥
ReadCaused old new name off len (Err (Full total limit)) = ⊥
ReadCaused old new name off len (Err (BadPage page kept found)) = MeetsIn old name off len page kept found (checked old.layers)

-- Writing and cutting

-- what a checksum layer asks of a write or cut of a database: one whole page, with zeros where it keeps its sums
pub record IsWholePage (size off : ℕ) (bytes : List ℕ) : Type 0 where
  pub one : length bytes ≡ size
  pub at : off % size ≡ 0
  pub zeros : drop (size - kept_size) bytes ≡ replicate kept_size 0

abbrev pub MayWrite : Kind → Option (ℕ × List Layer) → ℕ → List ℕ → Type 0
MayWrite Main None off bytes = Unit {0}
MayWrite Main (Some layer) off bytes = IsWholePage layer.0 off bytes
MayWrite Journal layer off bytes = Unit {0}
MayWrite Super layer off bytes = Unit {0}

abbrev pub MayCutTo : Kind → Option (ℕ × List Layer) → ℕ → Type 0
MayCutTo Main None len = Unit {0}
MayCutTo Main (Some layer) len = len % layer.0 ≡ 0
MayCutTo Journal layer len = Unit {0}
MayCutTo Super layer len = Unit {0}

-- a stack with one of these layers may answer Full
abbrev pub MayFill : List Layer → Type 0
MayFill [] = ⊥
MayFill (Trace ∷ below) = MayFill below
MayFill (Cksum page ∷ below) = MayFill below
MayFill (Append ∷ below) = Unit {0}
MayFill (Mux chunk ∷ below) = MayFill below
MayFill (Quota groups ∷ below) = Unit {0}

-- how a write of a file passes down the layers
abbrev pub passing : StackState → List ℕ → ℕ → ℕ → Passing
passing s name off len = pass s.layers s.limits s.lengths name off (off + len)

-- why a write is answered as it is: one of a database, where it is told, is refused as full where it does not pass, and
-- done only where it does
abbrev pub WriteCaused : StackState → StackState → List ℕ → ℕ → ℕ → Result Unit VfsFault → Type 0
WriteCaused old new name off len (Ok _) = IsTrue old.tells → kind_of name ≡ Main → (after : Lengths) × (passing old name off len ≡ Passes after)
WriteCaused old new name off len (Err Failed) = Rose old.faults new.faults
WriteCaused old new name off len (Err Memory) = Unit {0}
WriteCaused old new name off len (Err (Busy holder level)) = ⊥
WriteCaused old new name off len (Err (Full total limit)) = MayFill old.layers × (kind_of name ≡ Main) × (IsTrue old.tells → passing old name off len ≡ IsFull total limit)
WriteCaused old new name off len (Err (BadPage page kept found)) = ⊥

-- what a write leaves of the lengths of its file, and whether it broke them
abbrev pub unless_empty : ℕ → OpenFile → OpenFiles → OpenFiles
unless_empty zero file more = more
unless_empty (suc len) file more = file ∷ more

abbrev pub not_empty : OpenFiles → OpenFiles
not_empty [] = []
not_empty (file ∷ more) = unless_empty file.len file (not_empty more)

abbrev pub LeavesLengths : StackState → StackState → ℕ → List ℕ → Passing → Type 0
LeavesLengths old new fid name (Passes after) = (new.lengths ≡ after) × (IsCounted old fid name → new.broken fid ≡ false)
LeavesLengths old new fid name (IsFull total limit) = Unit {0}

abbrev pub WriteCounts : StackState → StackState → ℕ → List ℕ → ℕ → ℕ → Result Unit VfsFault → Type 0
WriteCounts old new fid name off len (Ok _) = IsTrue old.tells → kind_of name ≡ Main → LeavesLengths old new fid name (passing old name off len)
WriteCounts old new fid name off len (Err Failed) = Unit {0}
WriteCounts old new fid name off len (Err Memory) = Unit {0}
WriteCounts old new fid name off len (Err (Busy holder level)) = ⊥
WriteCounts old new fid name off len (Err (Full total limit)) =
    IsTrue old.tells → IsCounted old fid name → (map not_empty (LengthsOf new name) ≡ map not_empty (LengthsOf old name)) × (new.broken fid ≡ false)
WriteCounts old new fid name off len (Err (BadPage page kept found)) = ⊥

-- a cut that is done breaks nothing
abbrev pub CutCounts : StackState → StackState → ℕ → List ℕ → Result Unit VfsFault → Type 0
CutCounts old new fid name (Ok _) = IsTrue old.tells → IsCounted old fid name → new.broken fid ≡ false
CutCounts old new fid name (Err _) = Unit {0}

-- the layer leaves files in one piece
abbrev pub IsUncut : Layer → Type 0
IsUncut Trace = Unit {0}
IsUncut (Cksum page) = Unit {0}
IsUncut Append = Unit {0}
IsUncut (Mux chunk) = ⊥
IsUncut (Quota groups) = Unit {0}

-- a length that is answered is that by which a database counts, whatever went wrong before. Below a multiplexor a file of which
-- something went wrong may have chunks that are open and no part of it; nothing is said there
pub record Measured (old new : StackState) (name : List ℕ) : Type 0 where
  pub shown : IsTrue old.tells → Each IsUncut old.layers → kind_of name ≡ Main → (new.files name).wild ≡ false →
      LengthsOf new name ≡ lengths_shown new.layers (present new.base) (name ∷ [])

abbrev pub Measures : StackState → StackState → List ℕ → Result ℕ VfsFault → Type 0
Measures old new name (Ok _) = Measured old new name
Measures old new name (Err _) = Unit {0}

abbrev pub WriteLeaves : Bool → FileState → FileState → ℕ → List ℕ → Result Unit VfsFault → Type 0
WriteLeaves delicate old new off bytes (Ok _) = Wrote delicate old new off bytes
WriteLeaves delicate old new off bytes (Err Failed) = WriteFailed delicate old new off (length bytes)
WriteLeaves delicate old new off bytes (Err Memory) = WriteFailed delicate old new off (length bytes)
WriteLeaves delicate old new off bytes (Err (Full total limit)) = WriteFull delicate old new off (length bytes)
WriteLeaves delicate old new off bytes (Err (Busy holder level)) = ⊥
WriteLeaves delicate old new off bytes (Err (BadPage page kept found)) = ⊥

abbrev pub CutLeaves : FileState → FileState → ℕ → Result Unit VfsFault → Type 0
CutLeaves old new len (Ok _) = Cut old new len
CutLeaves old new len (Err _) = CutFailed old new len

-- Syncing and names

abbrev pub SyncLeaves : FileState → FileState → Result Unit VfsFault → Type 0
SyncLeaves old new (Ok _) = Synced old new
SyncLeaves old new (Err _) = NoLooser old new

-- a sync tames a database of which nothing went wrong and which is empty, or begins as one and has whole pages
pub record IsTamed (old new : StackState) (fid : ℕ) (name : List ℕ) : Type 0 where
  pub tamed : IsTrue old.tells → IsCounted old fid name
      → ((new.files name).now.bytes ≡ []) ⊎ (IsTrue (has_header (new.files name).now.bytes) × (length (new.files name).now.bytes % 512 ≡ 0))
      → (new.files name).wild ≡ false

abbrev pub SyncTames : StackState → StackState → ℕ → Result Unit VfsFault → Type 0
SyncTames old new fid (Ok _) = IsTamed old new fid (name_at old fid)
SyncTames old new fid (Err _) = Unit {0}

abbrev pub DeleteLeaves : FileState → FileState → Result Unit VfsFault → Type 0
DeleteLeaves old new (Ok _) = Deleted old new
DeleteLeaves old new (Err _) = DeleteFailed old new

-- where content is told, the call left this of the file of its name, and of every other no less than before
pub record Leaves (old new : StackState) (name : List ℕ) (left : FileState → FileState → Type 0) : Type 0 where
  pub file : IsTrue old.tells → left (old.files name) (new.files name)
  pub others : IsTrue old.tells → OthersStay old.layers old.files new.files name

abbrev pub NamesLeft : StackState → StackState → Result Unit VfsFault → Type 0
NamesLeft old new (Ok _) = IsTrue old.tells → NamesSynced old.files new.files
NamesLeft old new (Err _) = IsTrue old.tells → FilesStay old.files new.files

-- where content is told, every file is as it was
abbrev pub FilesLeft : StackState → StackState → Type 0
FilesLeft old new = IsTrue old.tells → FilesStay old.files new.files

-- Locking

-- the levels at this file change, and at no other
abbrev pub LocksAt : StackState → StackState → ℕ → (List Level → List Level → Type 0) → Type 0
LocksAt old new fid left = left (old.levels fid) (new.levels fid) × ((other : ℕ) → other ≢ fid → new.levels other ≡ old.levels other)

-- a level is granted or refused by the lock rule
abbrev pub LockRule : ℕ → Level → Result Unit VfsFault → List Level → List Level → Type 0
LockRule owner asked (Ok _) old new = Grants old new owner asked
LockRule owner asked (Err (Busy holder level)) old new = Refuses old new owner asked holder level
LockRule owner asked (Err Failed) old new = ⊥
LockRule owner asked (Err Memory) old new = ⊥
LockRule owner asked (Err (Full total limit)) old new = ⊥
LockRule owner asked (Err (BadPage page kept found)) old new = ⊥

-- the levels that an owner may fall to
abbrev pub falls_to : Level → Bool
falls_to Free = true
falls_to Shared = true
falls_to Reserved = false
falls_to Pending = false
falls_to Exclusive = false

-- some owner holds Reserved or more
pub record IsReserved (levels : List Level) : Type 0 where
  pub owner : ℕ
  pub numbered : IsOwner owner
  pub holds : 2 ≤ rank (level_at levels owner)

-- Controls

-- the totals of each group of a quota layer, with the limits
abbrev pub totals_from : List Group → ℕ → List ℕ → OpenFiles → List (ℕ × ℕ)
totals_from groups number [] files = []
totals_from groups number (limit ∷ more) files = (total_of groups number files, limit) ∷ totals_from groups (suc number) more files

-- those of the quota layer of this number, if there is one
abbrev pub totals_at : ℕ → List Layer → List (List ℕ) → Lengths → Option (List (ℕ × ℕ))
totals_at number [] limits lengths = None
totals_at number (Trace ∷ below) limits lengths = totals_at number below limits lengths
totals_at number (Cksum page ∷ below) limits lengths = totals_at number below limits lengths
totals_at number (Mux chunk ∷ below) limits lengths = totals_at number below limits lengths
totals_at number (Append ∷ below) limits [] = None
totals_at number (Append ∷ below) limits (files ∷ lengths) = totals_at number below limits lengths
totals_at number (Quota groups ∷ below) limits [] = None
totals_at number (Quota groups ∷ below) [] (files ∷ lengths) = None
totals_at zero (Quota groups ∷ below) (own ∷ limits) (files ∷ lengths) = None
totals_at (suc zero) (Quota groups ∷ below) (own ∷ limits) (files ∷ lengths) = Some (totals_from groups 0 own files)
totals_at (suc (suc number)) (Quota groups ∷ below) (own ∷ limits) (files ∷ lengths) = totals_at (suc number) below limits lengths

-- a list with another item at a place from 1 on, if it has one there
abbrev pub behind_item : {X : Type 0} → X → Option (List X) → Option (List X)
behind_item x None = None
behind_item x (Some items) = Some (x ∷ items)

abbrev pub with_item : {X : Type 0} → ℕ → X → List X → Option (List X)
with_item number item [] = None
with_item zero item (x ∷ more) = None
with_item (suc zero) item (x ∷ more) = Some (item ∷ more)
with_item (suc (suc number)) item (x ∷ more) = behind_item x (with_item (suc number) item more)

abbrev pub item_at : {X : Type 0} → ℕ → List X → Option X
item_at number [] = None
item_at zero (x ∷ more) = None
item_at (suc zero) (x ∷ more) = Some x
item_at (suc (suc number)) (x ∷ more) = item_at (suc number) more

-- the limits with another one of a group of a quota layer, if there is such a group
abbrev pub set_limits : ℕ → List (List ℕ) → Option (List ℕ) → Option (List (List ℕ))
set_limits layer limits None = None
set_limits layer limits (Some own) = with_item layer own limits

abbrev pub set_limit : ℕ → ℕ → ℕ → List (List ℕ) → Option (List ℕ) → Option (List (List ℕ))
set_limit layer group limit limits None = None
set_limit layer group limit limits (Some own) = set_limits layer limits (with_item group limit own)

abbrev pub with_limit : ℕ → ℕ → ℕ → List (List ℕ) → Option (List (List ℕ))
with_limit layer group limit limits = set_limit layer group limit limits (item_at layer limits)

-- a control changes no log, or no limit
abbrev pub LogStays : StackState → StackState → Type 0
LogStays old new = new.log ≡ old.log

-- the lines of a ring were taken
pub record TakesRing (old new : StackState) (layer : ℕ) (dropped : ℕ) (lines : List (List ℕ)) : Type 0 where
  pub ring : Ring
  pub was : item_at layer old.log ≡ Some ring
  pub now_is : with_item layer (emptied ring) old.log ≡ Some new.log
  pub dropped_is : dropped ≡ ring.dropped
  pub lines_are : lines ≡ map entry_text ring.entries

abbrev pub Answers : StackState → StackState → Control → Result Answer VfsFault → Type 0
Answers old new (Totals layer) (Ok Unknown) = (totals_at layer old.layers old.limits old.lengths ≡ None) × (new.limits ≡ old.limits) × LogStays old new
Answers old new (Totals layer) (Ok (AreTotals totals)) =
    (totals_at layer old.layers old.limits old.lengths ≡ Some totals) × (new.limits ≡ old.limits) × LogStays old new
Answers old new (Totals layer) (Ok Done) = ⊥
Answers old new (Totals layer) (Ok (AreLines list)) = ⊥
Answers old new (SetLimit layer group limit) (Ok Unknown) = (with_limit layer group limit old.limits ≡ None) × (new.limits ≡ old.limits) × LogStays old new
Answers old new (SetLimit layer group limit) (Ok Done) = (with_limit layer group limit old.limits ≡ Some new.limits) × LogStays old new
Answers old new (SetLimit layer group limit) (Ok (AreTotals totals)) = ⊥
Answers old new (SetLimit layer group limit) (Ok (AreLines list)) = ⊥
Answers old new (TakeTrace layer) (Ok Unknown) = (item_at layer old.log ≡ None) × (new.limits ≡ old.limits) × LogStays old new
Answers old new (TakeTrace layer) (Ok (AreLines list)) = TakesRing old new layer list.dropped list.lines × (new.limits ≡ old.limits)
Answers old new (TakeTrace layer) (Ok Done) = ⊥
Answers old new (TakeTrace layer) (Ok (AreTotals totals)) = ⊥
Answers old new (SetLimit layer group limit) (Err fault) = ⊥
Answers old new (Totals layer) (Err fault) = (fault ≡ Memory) × (new.limits ≡ old.limits) × LogStays old new
Answers old new (TakeTrace layer) (Err fault) = (fault ≡ Memory) × (new.limits ≡ old.limits) × LogStays old new
