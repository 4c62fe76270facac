-- What is said of the stack below a checksum layer is said of the stack above it, on or off.
use Rattle.std.proofs.Common.{rules, ◌≡◌, ℕ, List, [], ◌∷◌, IsTrue, Option, Some, None, Result, Ok, Err, refl, ap, sym, subst, ◌∙◌}
use Rattle.vfs_model.specs.declared.layer.Layer.{Layer}
use Rattle.vfs_model.specs.declared.layer.Layer.TheVariants.{Trace as TraceLayer, Cksum as CksumLayer, Append, Mux, Quota}
use Rattle.vfs_model.specs.declared.level.Fid.{Fid}
use Rattle.vfs_model.specs.declared.name.Kind.{Kind}
use Rattle.vfs_model.specs.declared.name.Kind.TheVariants.{Main, Journal, Super}
use Rattle.vfs_model.specs.File.{Found, FileState, IsImage}
use Rattle.vfs_model.specs.Effect.{NoLooser, Closed}
use Rattle.vfs_model.specs.Name.{kind_of}
use Rattle.vfs_model.specs.Store.{Apart, OthersStay, FilesStay, present}
use Rattle.vfs_model.specs.Sound.{Sound, IsUnmarked, MarksNone}
use Rattle.vfs_model.specs.View.{through, summed, of_main}
use Rattle.vfs_trait.specs.Log.{Ring, Logs, RingsGrow}
use Rattle.vfs_trait.specs.declared.log.Call.{Call}
use Rattle.vfs_trait.specs.declared.log.Outcome.{Outcome}
use Rattle.vfs_trait.specs.declared.fault.VfsFault.{VfsFault}
use Rattle.vfs_trait.specs.declared.fault.VfsFault.TheVariants.{Failed, Memory, Busy, Full, BadPage}
use Rattle.vfs_trait.specs.State.{StackState, Steady, OpenStays, LevelsStay, LengthsBeside, BrokenStays, BrokenBeside, Rests, RestsBut, RestsMeasured, Stands, IsFree, IsCounted, name_at}
use Rattle.vfs_trait.specs.Calls.{Leaves, Numbers, Closes, OpenLengths, CloseLengths, OpenLeaves, SyncLeaves, DeleteLeaves, Measures, Caused, CutCounts, NamesLeft, FilesLeft, Answers}
use Rattle.vfs_trait.specs.Follows.{Follows, OpenUnsettles, WriteUnsettles, CutUnsettles, SyncUnsettles, DeleteUnsettles, NamesUnsettle}
use Rattle.vfs_trait.specs.declared.control.Control.{Control}
use Rattle.vfs_trait.specs.declared.control.Control.TheVariants.{Totals, SetLimit, TakeTrace}
use Rattle.vfs_trait.specs.declared.control.Answer.{Answer}
use Rattle.vfs_trait.specs.declared.control.Answer.TheVariants.{Unknown, Done, Totals as AreTotals, Trace as AreLines}
use Rattle.cksum_vfs.specs.Summed.{own_size, found_over, file_over, files_over, layers_over, over, IsSized}
use Rattle.cksum_vfs.proofs.StateLemmas.{orderly_over, image_over}
use Rattle.cksum_vfs.proofs.EffectLemmas.{no_looser_over, open_failed_over, opened_over, closed_over, synced_over, name_synced_over, delete_failed_over, deleted_over}

-- The size for a file

no_page : (page : ℕ) → None ≡ Some page → ⊥
no_page page h = search rules

pub off_sized : IsSized None
off_sized = record { each = λ page is. absurd (no_page page is) }

pub own_sized : (size : Option ℕ) (kind : Kind) → IsSized size → IsSized (own_size size kind)
own_sized None kind h = h
own_sized (Some page) Main h = h
own_sized (Some page) Journal h = off_sized
own_sized (Some page) Super h = off_sized

-- What follows the layers down passes a checksum layer

pub apart_below : (size : Option ℕ) (layers : List Layer) (name other : List ℕ) → Apart (layers_over size layers) name other → Apart layers name other
apart_below None layers name other h = h
apart_below (Some page) layers name other h = h

same_layers : (size : Option ℕ) (old new : List Layer) → new ≡ old → layers_over size new ≡ layers_over size old
same_layers size old new same = ap (layers_over size) same

pub free_over : (size : Option ℕ) (s : StackState) (name : List ℕ) → IsFree (over size s) name → IsFree s name
free_over None s name h = h
free_over (Some page) s name h = record { short = h.short; apart = h.apart }

-- What calls leave

pub steady_over : (size : Option ℕ) (old new : StackState) → Steady old new → Steady (over size old) (over size new)
steady_over size old new h = record { tells = h.tells; layers = same_layers size old.layers new.layers h.layers; faults = h.faults }

pub opens_over : (size : Option ℕ) (old new : StackState) → OpenStays old new → OpenStays (over size old) (over size new)
opens_over size old new h = record { names = h.names; delicate = h.delicate }

pub levels_over : (size : Option ℕ) (old new : StackState) → LevelsStay old new → LevelsStay (over size old) (over size new)
levels_over size old new h = record { each = h.each }

pub broken_over : (size : Option ℕ) (old new : StackState) → BrokenStays old new → BrokenStays (over size old) (over size new)
broken_over size old new h = record { each = h.each }

pub broken_beside_over : (size : Option ℕ) (old new : StackState) (fid : ℕ) → BrokenBeside old new fid → BrokenBeside (over size old) (over size new) fid
broken_beside_over size old new fid h = record { each = h.each }

pub counted_below : (size : Option ℕ) (s : StackState) (fid : ℕ) (name : List ℕ) → IsCounted (over size s) fid name → IsCounted s fid name
counted_below size s fid name h = record { named = h.named; is_main = h.is_main; intact = h.intact }

pub beside_over : (size : Option ℕ) (old new : StackState) (kind : Kind) (name : List ℕ) → LengthsBeside kind old new name → LengthsBeside kind (over size old) (over size new) name
beside_over None old new kind name h = h
beside_over (Some page) old new Main name h = h
beside_over (Some page) old new Journal name h = h
beside_over (Some page) old new Super name h = h

pub open_lengths_over : (size : Option ℕ) (old new : StackState) (kind : Kind) (name : List ℕ) (result : Result Fid VfsFault) → OpenLengths kind old new name result →
    OpenLengths kind (over size old) (over size new) name result
open_lengths_over None old new kind name result h = h
open_lengths_over (Some page) old new kind name (Err fault) h = h
open_lengths_over (Some page) old new Main name (Ok fid) h = record { own = h.own; joined = h.joined; of_it = h.of_it }
open_lengths_over (Some page) old new Journal name (Ok fid) h = h
open_lengths_over (Some page) old new Super name (Ok fid) h = h

pub close_lengths_over : (size : Option ℕ) (old new : StackState) (kind : Kind) (name : List ℕ) → CloseLengths kind old new name → CloseLengths kind (over size old) (over size new) name
close_lengths_over None old new kind name h = h
close_lengths_over (Some page) old new Main name h = h
close_lengths_over (Some page) old new Journal name h = h
close_lengths_over (Some page) old new Super name h = h

pub rests_over : (size : Option ℕ) (old new : StackState) → Rests old new → Rests (over size old) (over size new)
rests_over size old new h = record {
  limits = h.limits;
  levels = levels_over size old new h.levels;
  opens = opens_over size old new h.opens;
  lengths = h.lengths;
  broken = broken_over size old new h.broken;
}

pub rests_but_over : (size : Option ℕ) (old new : StackState) (fid : ℕ) → RestsBut old new fid → RestsBut (over size old) (over size new) fid
rests_but_over size old new fid h = record {
  limits = h.limits;
  levels = levels_over size old new h.levels;
  opens = opens_over size old new h.opens;
  lengths = beside_over size old new (kind_of (name_at old fid)) (name_at old fid) h.lengths;
  broken = broken_beside_over size old new fid h.broken;
  known = h.known;
}

pub rests_measured_over : (size : Option ℕ) (old new : StackState) (fid : ℕ) → RestsMeasured old new fid → RestsMeasured (over size old) (over size new) fid
rests_measured_over size old new fid h = record {
  limits = h.limits;
  levels = levels_over size old new h.levels;
  opens = opens_over size old new h.opens;
  lengths = beside_over size old new (kind_of (name_at old fid)) (name_at old fid) h.lengths;
  intact = h.intact;
  broken = broken_over size old new h.broken;
}

pub measures_over : (size : Option ℕ) (old new : StackState) (name : List ℕ) (result : Result ℕ VfsFault) → Measures old new name result → Measures (over size old) (over size new) name result
measures_over None old new name result h = h
measures_over (Some page) old new name (Ok len) h = record { shown = λ told uncut main tame. h.shown told uncut.1 main tame }
measures_over (Some page) old new name (Err fault) h = tt

pub numbers_over : (size : Option ℕ) (old new : StackState) (name : List ℕ) (result : Result Fid VfsFault) → Numbers old new name result → Numbers (over size old) (over size new) name result
numbers_over size old new name (Ok fid) h = record { unused = h.unused; least = h.least; named = h.named; others = h.others; delicate = h.delicate; intact = h.intact }
numbers_over size old new name (Err fault) h = opens_over size old new h

pub closes_over : (size : Option ℕ) (old new : StackState) (fid : ℕ) → Closes old new fid → Closes (over size old) (over size new) fid
closes_over size old new fid h = record { closed = h.closed; others = h.others; delicate = h.delicate; levels = h.levels }

-- What calls leave of files

others_over : (size : Option ℕ) (old new : StackState) (name : List ℕ) → IsSized size → OthersStay old.layers old.files new.files name →
    OthersStay (over size old).layers (over size old).files (over size new).files name
others_over size old new name sized h = record {
  each = λ other apart. no_looser_over (own_size size (kind_of other)) (old.files other) (new.files other) (own_sized size (kind_of other) sized) (h.each other (apart_below size old.layers name other apart));
}

pub leaves_by : (size : Option ℕ) (old new : StackState) (name : List ℕ) (left left' : FileState → FileState → Type 0) → IsSized size →
    (IsTrue old.tells → left (old.files name) (new.files name) → left' ((over size old).files name) ((over size new).files name)) → Leaves old new name left → Leaves (over size old) (over size new) name left'
leaves_by size old new name left left' sized lift h = record {
  file = λ told. lift told (h.file told);
  others = λ told. others_over size old new name sized (h.others told);
}

pub no_looser_leaves : (size : Option ℕ) (old new : StackState) (name : List ℕ) → IsSized size → Leaves old new name NoLooser → Leaves (over size old) (over size new) name NoLooser
no_looser_leaves size old new name sized h =
    leaves_by size old new name NoLooser NoLooser sized (λ told k. no_looser_over (own_size size (kind_of name)) (old.files name) (new.files name) (own_sized size (kind_of name) sized) k) h

pub close_leaves : (size : Option ℕ) (old new : StackState) (name : List ℕ) → IsSized size → Leaves old new name Closed → Leaves (over size old) (over size new) name Closed
close_leaves size old new name sized h =
    leaves_by size old new name Closed Closed sized (λ told k. closed_over (own_size size (kind_of name)) (old.files name) (new.files name) (own_sized size (kind_of name) sized) k) h

open_left : (own : Option ℕ) (old new : FileState) (result : Result Fid VfsFault) → IsSized own → OpenLeaves old new result → OpenLeaves (file_over own old) (file_over own new) result
open_left own old new (Ok fid) sized h = opened_over own old new sized h
open_left own old new (Err fault) sized h = open_failed_over own old new sized h

pub open_leaves : (size : Option ℕ) (old new : StackState) (name : List ℕ) (result : Result Fid VfsFault) → IsSized size → Leaves old new name (λ old new. OpenLeaves old new result) →
    Leaves (over size old) (over size new) name (λ old new. OpenLeaves old new result)
open_leaves size old new name result sized h =
    leaves_by size old new name (λ a b. OpenLeaves a b result) (λ a b. OpenLeaves a b result) sized
    (λ told k. open_left (own_size size (kind_of name)) (old.files name) (new.files name) result (own_sized size (kind_of name) sized) k) h

sync_left : (own : Option ℕ) (old new : FileState) (result : Result Unit VfsFault) → IsSized own → SyncLeaves old new result → SyncLeaves (file_over own old) (file_over own new) result
sync_left own old new (Ok done) sized h = synced_over own old new sized h
sync_left own old new (Err fault) sized h = no_looser_over own old new sized h

pub sync_leaves : (size : Option ℕ) (old new : StackState) (name : List ℕ) (result : Result Unit VfsFault) → IsSized size → Leaves old new name (λ old new. SyncLeaves old new result) →
    Leaves (over size old) (over size new) name (λ old new. SyncLeaves old new result)
sync_leaves size old new name result sized h =
    leaves_by size old new name (λ a b. SyncLeaves a b result) (λ a b. SyncLeaves a b result) sized
    (λ told k. sync_left (own_size size (kind_of name)) (old.files name) (new.files name) result (own_sized size (kind_of name) sized) k) h

delete_left : (own : Option ℕ) (old new : FileState) (result : Result Unit VfsFault) → DeleteLeaves old new result → DeleteLeaves (file_over own old) (file_over own new) result
delete_left own old new (Ok done) h = deleted_over own old new h
delete_left own old new (Err fault) h = delete_failed_over own old new h

pub delete_leaves : (size : Option ℕ) (old new : StackState) (name : List ℕ) (result : Result Unit VfsFault) → IsSized size → Leaves old new name (λ old new. DeleteLeaves old new result) →
    Leaves (over size old) (over size new) name (λ old new. DeleteLeaves old new result)
delete_leaves size old new name result sized h =
    leaves_by size old new name (λ a b. DeleteLeaves a b result) (λ a b. DeleteLeaves a b result) sized
    (λ told k. delete_left (own_size size (kind_of name)) (old.files name) (new.files name) result k) h

files_stay : (size : Option ℕ) (old new : StackState) → IsSized size → FilesStay old.files new.files → FilesStay (over size old).files (over size new).files
files_stay size old new sized h = record {
  each = λ name. no_looser_over (own_size size (kind_of name)) (old.files name) (new.files name) (own_sized size (kind_of name) sized) (h.each name);
}

pub files_left_over : (size : Option ℕ) (old new : StackState) → IsSized size → FilesLeft old new → FilesLeft (over size old) (over size new)
files_left_over size old new sized h told = files_stay size old new sized (h told)

pub names_left_over : (size : Option ℕ) (old new : StackState) (result : Result Unit VfsFault) → IsSized size → NamesLeft old new result → NamesLeft (over size old) (over size new) result
names_left_over size old new (Ok done) sized h = λ told. record {
  each = λ name. name_synced_over (own_size size (kind_of name)) (old.files name) (new.files name) (own_sized size (kind_of name) sized) ((h told).each name);
}
names_left_over size old new (Err fault) sized h = λ told. files_stay size old new sized (h told)

-- Soundness

-- what the layer shows is what its view shows
pub shown_is : (page : ℕ) (kind : Kind) (f : Found) → of_main kind (summed page f) f ≡ found_over (own_size (Some page) kind) f
shown_is page Main f = refl
shown_is page Journal f = refl
shown_is page Super f = refl

unmarked_over : (page : ℕ) (kind : Kind) (f : Found) → MarksNone kind (CksumLayer page) → IsUnmarked f → IsUnmarked (found_over (own_size (Some page) kind) f)
unmarked_over page Main f none h = absurd none
unmarked_over page Journal f none h = h
unmarked_over page Super f none h = h

pub sound_over : (size : Option ℕ) (s : StackState) → IsSized size → Sound s.layers s.base s.files → Sound (layers_over size s.layers) s.base (files_over size s.files)
sound_over None s sized h = h
sound_over (Some page) s sized h = record {
  orderly = λ name. orderly_over (own_size (Some page) (kind_of name)) (s.files name) (h.orderly name);
  shows = λ name tame. ap (found_over (own_size (Some page) (kind_of name))) (h.shows name tame) ∙ sym (shown_is page (kind_of name) (through s.layers (present s.base) name));
  images = λ i device name tame.
      let P : Found → Type 0 = IsImage (file_over (own_size (Some page) (kind_of name)) (s.files name)) in
      subst P (sym (shown_is page (kind_of name) (through s.layers i name)))
      (image_over (own_size (Some page) (kind_of name)) (s.files name) (through s.layers i name) (own_sized (Some page) (kind_of name) sized) (h.orderly name) (h.images i device name tame));
  tame = λ name none. h.tame name none.1;
  unmarked = λ name none. unmarked_over page (kind_of name) (s.files name).now none.0 (h.unmarked name none.1);
}

pub stands_over : (size : Option ℕ) (s : StackState) → IsSized size → Stands s → Stands (over size s)
stands_over None s sized h = h
stands_over (Some page) s sized h = record {
  sound = λ told. sound_over (Some page) s sized (h.sound told);
  counted = λ told fid name is tame. h.counted told fid name (counted_below (Some page) s fid name is) tame;
  only_open = h.only_open;
  apart = record { each = h.apart.each };
  free = record { each = h.free.each };
  sturdy = record { each = h.sturdy.each };
}

-- A layer that is on is no device

no_device : (layer : Layer) (layers : List Layer) → layer ∷ layers ≡ [] → ⊥
no_device layer layers h = search rules

-- of a layer that is on nothing is said from below
pub on_follows : {T : Type 0} (page : ℕ) (old new : StackState) (result : Result T VfsFault) → Follows (over (Some page) old) (over (Some page) new) result (λ _. Unit {0})
on_follows page old new result = record {
  counted = λ device. absurd (no_device (CksumLayer page) old.layers device.bare);
  unsettled = λ device. tt;
}

follows_over : {T : Type 0} (size : Option ℕ) (old new : StackState) (result : Result T VfsFault) (unsettles : StackState → StackState → Result T VfsFault → Type 0) →
    Follows old new result (unsettles old new) → Follows (over size old) (over size new) result (unsettles (over size old) (over size new))
follows_over None old new result unsettles h = h
follows_over (Some page) old new result unsettles h = record {
  counted = λ device. absurd (no_device (CksumLayer page) old.layers device.bare);
  unsettled = λ device. absurd (no_device (CksumLayer page) old.layers device.bare);
}

pub no_change_follows : {T : Type 0} (size : Option ℕ) (old new : StackState) (result : Result T VfsFault) → Follows old new result (λ _. Unit {0}) → Follows (over size old) (over size new) result (λ _. Unit {0})
no_change_follows size old new result h = follows_over size old new result (λ _ _ _. Unit {0}) h

pub open_follows : (size : Option ℕ) (old new : StackState) (result : Result Fid VfsFault) (name : List ℕ) →
    Follows old new result (OpenUnsettles old new name) → Follows (over size old) (over size new) result (OpenUnsettles (over size old) (over size new) name)
open_follows size old new result name h = follows_over size old new result (λ a b. OpenUnsettles a b name) h

pub write_follows : (size : Option ℕ) (old new : StackState) (result : Result Unit VfsFault) (fid off len : ℕ) →
    Follows old new result (WriteUnsettles old new fid off len) → Follows (over size old) (over size new) result (WriteUnsettles (over size old) (over size new) fid off len)
write_follows size old new result fid off len h = follows_over size old new result (λ a b. WriteUnsettles a b fid off len) h

pub cut_follows : (size : Option ℕ) (old new : StackState) (result : Result Unit VfsFault) (fid len : ℕ) →
    Follows old new result (CutUnsettles old new fid len) → Follows (over size old) (over size new) result (CutUnsettles (over size old) (over size new) fid len)
cut_follows size old new result fid len h = follows_over size old new result (λ a b. CutUnsettles a b fid len) h

pub sync_follows : (size : Option ℕ) (old new : StackState) (result : Result Unit VfsFault) (fid : ℕ) →
    Follows old new result (SyncUnsettles old new fid) → Follows (over size old) (over size new) result (SyncUnsettles (over size old) (over size new) fid)
sync_follows size old new result fid h = follows_over size old new result (λ a b. SyncUnsettles a b fid) h

pub delete_follows : (size : Option ℕ) (old new : StackState) (result : Result Unit VfsFault) (name : List ℕ) →
    Follows old new result (DeleteUnsettles old new name) → Follows (over size old) (over size new) result (DeleteUnsettles (over size old) (over size new) name)
delete_follows size old new result name h = follows_over size old new result (λ a b. DeleteUnsettles a b name) h

pub names_follow : (size : Option ℕ) (old new : StackState) (result : Result Unit VfsFault) → Follows old new result (NamesUnsettle old new) → Follows (over size old) (over size new) result (NamesUnsettle (over size old) (over size new))
names_follow size old new result h = follows_over size old new result (λ a b. NamesUnsettle a b) h

-- Causes and controls

pub caused_over : {T : Type 0} (size : Option ℕ) (old new : StackState) (result : Result T VfsFault) → Caused old new result → Caused (over size old) (over size new) result
caused_over size old new (Ok value) h = tt
caused_over size old new (Err Failed) h = h
caused_over size old new (Err Memory) h = tt
caused_over size old new (Err (Busy holder level)) h = absurd h
caused_over size old new (Err (Full total limit)) h = absurd h
caused_over size old new (Err (BadPage page kept found)) h = absurd h

pub cut_counts_over : (size : Option ℕ) (old new : StackState) (fid : ℕ) (name : List ℕ) (result : Result Unit VfsFault) → CutCounts old new fid name result → CutCounts (over size old) (over size new) fid name result
cut_counts_over size old new fid name (Ok done) h = λ told is. h told (counted_below size old fid name is)
cut_counts_over size old new fid name (Err fault) h = tt

-- The log

pub grows : (layers : List Layer) (old new : List Ring) (call : Call) (outcome : Outcome) → Logs layers old new call outcome → RingsGrow old new
grows [] old new call outcome h = h
grows (TraceLayer ∷ below) [] new call outcome h = h
grows (TraceLayer ∷ below) (ring ∷ old) [] call outcome h = absurd h
grows (TraceLayer ∷ below) (ring ∷ old) (ring' ∷ new) call outcome h = (((call, outcome) ∷ [], h.0), h.1)
grows (CksumLayer page ∷ below) old new call outcome h = h
grows (Append ∷ below) old new call outcome h = h
grows (Mux chunk ∷ below) old new call outcome h = h
grows (Quota groups ∷ below) old new call outcome h = h

pub logs_over : (size : Option ℕ) (layers : List Layer) (old new : List Ring) (call : Call) (outcome : Outcome) → Logs layers old new call outcome → Logs (layers_over size layers) old new call outcome
logs_over None layers old new call outcome h = h
logs_over (Some page) layers old new call outcome h = grows layers old new call outcome h

-- Controls

pub answers_over : (size : Option ℕ) (old new : StackState) (control : Control) (result : Result Answer VfsFault) → Answers old new control result → Answers (over size old) (over size new) control result
answers_over None old new control result h = h
answers_over (Some page) old new (Totals layer) (Ok Unknown) h = h
answers_over (Some page) old new (Totals layer) (Ok Done) h = absurd h
answers_over (Some page) old new (Totals layer) (Ok (AreTotals totals)) h = h
answers_over (Some page) old new (Totals layer) (Ok (AreLines list)) h = absurd h
answers_over (Some page) old new (Totals layer) (Err fault) h = h
answers_over (Some page) old new (SetLimit layer group limit) (Ok Unknown) h = h
answers_over (Some page) old new (SetLimit layer group limit) (Ok Done) h = h
answers_over (Some page) old new (SetLimit layer group limit) (Ok (AreTotals totals)) h = absurd h
answers_over (Some page) old new (SetLimit layer group limit) (Ok (AreLines list)) h = absurd h
answers_over (Some page) old new (SetLimit layer group limit) (Err fault) h = absurd h
answers_over (Some page) old new (TakeTrace layer) (Ok Unknown) h = h
answers_over (Some page) old new (TakeTrace layer) (Ok Done) h = absurd h
answers_over (Some page) old new (TakeTrace layer) (Ok (AreTotals totals)) h = absurd h
answers_over (Some page) old new (TakeTrace layer) (Ok (AreLines list)) h =
    (record { ring = h.0.ring; was = h.0.was; now_is = h.0.now_is; dropped_is = h.0.dropped_is; lines_are = h.0.lines_are }, h.1)
answers_over (Some page) old new (TakeTrace layer) (Err fault) h = h
