-- What is said of the stack below a trace layer is said of the stack above it, on or off.
use Rattle.std.proofs.Common.{rules, ◌≡◌, ℕ, true, false, List, [], ◌∷◌, Option, Some, None, Result, Ok, Err, map, unwrap_or, zero, suc, ◌+◌, refl, ap, sym, subst, ◌∙◌}
use Rattle.vfs_model.specs.declared.layer.Layer.{Layer}
use Rattle.vfs_model.specs.declared.layer.Layer.TheVariants.{Trace as TraceLayer, Cksum, Append, Mux, Quota}
use Rattle.vfs_model.specs.File.{FileState}
use Rattle.vfs_model.specs.Store.{Files, Apart, present}
use Rattle.vfs_model.specs.Sound.{Sound, Each}
use Rattle.vfs_model.specs.Pass.{Lengths, LengthsOnly, Passing, Passes, IsFull, pass, of_file, others_of, lengths_shown}
use Rattle.vfs_trait.specs.Log.{Ring, Logs, RingsGrow, with_call}
use Rattle.vfs_trait.specs.declared.log.Call.{Call}
use Rattle.vfs_trait.specs.declared.log.Outcome.{Outcome}
use Rattle.vfs_trait.specs.declared.fault.VfsFault.{VfsFault}
use Rattle.vfs_trait.specs.declared.fault.VfsFault.TheVariants.{Failed, Memory, Busy, Full, BadPage}
use Rattle.vfs_model.specs.declared.level.Fid.{Fid}
use Rattle.vfs_model.specs.Name.{kind_of}
use Rattle.vfs_model.specs.declared.name.Kind.{Kind}
use Rattle.vfs_model.specs.declared.name.Kind.TheVariants.{Main, Journal, Super}
use Rattle.vfs_trait.specs.State.{StackState, Steady, OpenStays, LevelsStay, LengthsBeside, BrokenStays, BrokenBeside, Rests, RestsBut, RestsMeasured, Stands, IsFree, IsShort, IsCounted, name_at}
use Rattle.vfs_trait.specs.Calls.{Leaves, Numbers, Closes, OpenLengths, CloseLengths, Measures, IsUncut, SyncTames, checked, MayFill, Caused, ReadCaused, WriteCaused, WriteCounts, CutCounts, NamesLeft, LeavesLengths, passing, not_empty, Answers, LogStays, item_at, behind_item}
use Rattle.vfs_trait.specs.Follows.{Follows, OpenUnsettles, WriteUnsettles, CutUnsettles, SyncUnsettles, DeleteUnsettles, NamesUnsettle}
use Rattle.vfs_trait.specs.declared.control.Control.{Control}
use Rattle.vfs_trait.specs.declared.control.Control.TheVariants.{Totals, SetLimit, TakeTrace}
use Rattle.vfs_trait.specs.declared.control.Answer.{Answer}
use Rattle.vfs_trait.specs.declared.control.Answer.TheVariants.{Unknown, Done, Totals as AreTotals, Trace as AreLines}
use Rattle.trace_vfs.specs.Traced.{traced, layers_of, log_of, is_on, after_call, TakenFrom, is_own, handed_down}

-- What follows the layers down passes a trace layer

pub apart_below : (ring : Option Ring) (layers : List Layer) (name other : List ℕ) → Apart (layers_of ring layers) name other ≡ Apart layers name other
apart_below None layers name other = refl
apart_below (Some ring) layers name other = refl

pub short_below : (ring : Option Ring) (layers : List Layer) (name : List ℕ) → IsShort (layers_of ring layers) name ≡ IsShort layers name
short_below None layers name = refl
short_below (Some ring) layers name = refl

pub checked_below : (ring : Option Ring) (layers : List Layer) → checked (layers_of ring layers) ≡ checked layers
checked_below None layers = refl
checked_below (Some ring) layers = refl

pub fill_below : (ring : Option Ring) (layers : List Layer) → MayFill (layers_of ring layers) ≡ MayFill layers
fill_below None layers = refl
fill_below (Some ring) layers = refl

pub file_below : (ring : Option Ring) (layers : List Layer) (name : List ℕ) (lengths : Lengths) → of_file (layers_of ring layers) name lengths ≡ of_file layers name lengths
file_below None layers name lengths = refl
file_below (Some ring) layers name lengths = refl

pub shown_below : (ring : Option Ring) (layers : List Layer) (files : Files) (names : List (List ℕ)) → lengths_shown (layers_of ring layers) files names ≡ lengths_shown layers files names
shown_below None layers files names = refl
shown_below (Some ring) layers files names = refl

pub pass_below : (ring : Option Ring) (layers : List Layer) (limits : List (List ℕ)) (lengths : Lengths) (name : List ℕ) (off end : ℕ) →
    pass (layers_of ring layers) limits lengths name off end ≡ pass layers limits lengths name off end
unfolding pass
pass_below None layers limits lengths name off end = refl
pass_below (Some ring) layers limits lengths name off end = refl

none_is_some : {X : Type 0} (x : X) (o : Option X) → o ≡ None → o ≡ Some x → ⊥
none_is_some x o none some = let bad : None ≡ Some x = sym none ∙ some in search rules

clash : true ≡ false → ⊥
clash h = search rules

same_layers : (ring ring' : Option Ring) (old new : List Layer) → is_on ring' ≡ is_on ring → new ≡ old → layers_of ring' new ≡ layers_of ring old
same_layers None None old new on same = same
same_layers (Some ring) (Some ring') old new on same = ap (λ layers. TraceLayer ∷ layers) same
same_layers None (Some ring') old new on same = absurd (clash on)
same_layers (Some ring) None old new on same = absurd (clash (sym on))

-- What calls ask

pub free_over : (ring : Option Ring) (s : StackState) (name : List ℕ) → IsFree (traced ring s) name → IsFree s name
free_over None s name h = record { short = h.short; apart = h.apart }
free_over (Some ring) s name h = record { short = h.short; apart = h.apart }

-- What calls leave

pub steady_over : (ring ring' : Option Ring) (old new : StackState) → is_on ring' ≡ is_on ring → Steady old new → Steady (traced ring old) (traced ring' new)
steady_over ring ring' old new on h = record { tells = h.tells; layers = same_layers ring ring' old.layers new.layers on h.layers; faults = h.faults }

pub opens_over : (ring ring' : Option Ring) (old new : StackState) → OpenStays old new → OpenStays (traced ring old) (traced ring' new)
opens_over ring ring' old new h = record { names = h.names; delicate = h.delicate }

pub levels_over : (ring ring' : Option Ring) (old new : StackState) → LevelsStay old new → LevelsStay (traced ring old) (traced ring' new)
levels_over ring ring' old new h = record { each = h.each }

counted_below : (ring : Option Ring) (s : StackState) (fid : ℕ) (name : List ℕ) → IsCounted (traced ring s) fid name → IsCounted s fid name
counted_below ring s fid name h = record { named = h.named; is_main = h.is_main; intact = h.intact }

others_below : (ring : Option Ring) (layers : List Layer) (name : List ℕ) (lengths : Lengths) → others_of (layers_of ring layers) name lengths ≡ others_of layers name lengths
others_below None layers name lengths = refl
others_below (Some ring) layers name lengths = refl

pub beside_over : (ring ring' : Option Ring) (old new : StackState) (kind : Kind) (name : List ℕ) → LengthsBeside kind old new name → LengthsBeside kind (traced ring old) (traced ring' new) name
beside_over ring ring' old new Main name h = others_below ring old.layers name new.lengths ∙ h ∙ sym (others_below ring old.layers name old.lengths)
beside_over ring ring' old new Journal name h = h
beside_over ring ring' old new Super name h = h

pub broken_over : (ring ring' : Option Ring) (old new : StackState) → BrokenStays old new → BrokenStays (traced ring old) (traced ring' new)
broken_over ring ring' old new h = record { each = h.each }

pub broken_beside_over : (ring ring' : Option Ring) (old new : StackState) (fid : ℕ) → BrokenBeside old new fid → BrokenBeside (traced ring old) (traced ring' new) fid
broken_beside_over ring ring' old new fid h = record { each = h.each }

pub open_lengths_over : (ring ring' : Option Ring) (old new : StackState) (kind : Kind) (name : List ℕ) (result : Result Fid VfsFault) → OpenLengths kind old new name result →
    OpenLengths kind (traced ring old) (traced ring' new) name result
open_lengths_over ring ring' old new kind name (Err fault) h = h
open_lengths_over ring ring' old new Main name (Ok fid) h = record { own = h.own; joined = h.joined; of_it = file_below ring old.layers name h.own ∙ h.of_it }
open_lengths_over ring ring' old new Journal name (Ok fid) h = h
open_lengths_over ring ring' old new Super name (Ok fid) h = h

pub close_lengths_over : (ring ring' : Option Ring) (old new : StackState) (kind : Kind) (name : List ℕ) → CloseLengths kind old new name → CloseLengths kind (traced ring old) (traced ring' new) name
close_lengths_over ring ring' old new Main name h = h ∙ sym (others_below ring old.layers name old.lengths)
close_lengths_over ring ring' old new Journal name h = h
close_lengths_over ring ring' old new Super name h = h

pub rests_over : (ring ring' : Option Ring) (old new : StackState) → Rests old new → Rests (traced ring old) (traced ring' new)
rests_over ring ring' old new h = record {
  limits = h.limits;
  levels = levels_over ring ring' old new h.levels;
  opens = opens_over ring ring' old new h.opens;
  lengths = h.lengths;
  broken = broken_over ring ring' old new h.broken;
}

pub rests_but_over : (ring ring' : Option Ring) (old new : StackState) (fid : ℕ) → RestsBut old new fid → RestsBut (traced ring old) (traced ring' new) fid
rests_but_over ring ring' old new fid h = record {
  limits = h.limits;
  levels = levels_over ring ring' old new h.levels;
  opens = opens_over ring ring' old new h.opens;
  lengths = beside_over ring ring' old new (kind_of (name_at old fid)) (name_at old fid) h.lengths;
  broken = broken_beside_over ring ring' old new fid h.broken;
  known = h.known;
}

pub rests_measured_over : (ring ring' : Option Ring) (old new : StackState) (fid : ℕ) → RestsMeasured old new fid → RestsMeasured (traced ring old) (traced ring' new) fid
rests_measured_over ring ring' old new fid h = record {
  limits = h.limits;
  levels = levels_over ring ring' old new h.levels;
  opens = opens_over ring ring' old new h.opens;
  lengths = beside_over ring ring' old new (kind_of (name_at old fid)) (name_at old fid) h.lengths;
  intact = h.intact;
  broken = broken_over ring ring' old new h.broken;
}

uncut_below : (ring : Option Ring) (layers : List Layer) → Each IsUncut (layers_of ring layers) → Each IsUncut layers
uncut_below None layers h = h
uncut_below (Some ring) layers h = h.1

pub measures_over : (ring ring' : Option Ring) (old new : StackState) (name : List ℕ) (result : Result ℕ VfsFault) → Measures old new name result → Measures (traced ring old) (traced ring' new) name result
measures_over ring ring' old new name (Ok len) h = record {
  shown = λ told uncut main tame. file_below ring' new.layers name new.lengths ∙ h.shown told (uncut_below ring old.layers uncut) main tame ∙ sym (shown_below ring' new.layers (present new.base) (name ∷ []));
}
measures_over ring ring' old new name (Err fault) h = tt

pub leaves_over : (ring ring' : Option Ring) (old new : StackState) (name : List ℕ) (left : FileState → FileState → Type 0) → Leaves old new name left → Leaves (traced ring old) (traced ring' new) name left
leaves_over None ring' old new name left h = record { file = h.file; others = λ told. record { each = (h.others told).each } }
leaves_over (Some ring) ring' old new name left h = record { file = h.file; others = λ told. record { each = (h.others told).each } }

pub numbers_over : (ring ring' : Option Ring) (old new : StackState) (name : List ℕ) (result : Result Fid VfsFault) → Numbers old new name result → Numbers (traced ring old) (traced ring' new) name result
numbers_over ring ring' old new name (Ok fid) h = record { unused = h.unused; least = h.least; named = h.named; others = h.others; delicate = h.delicate; intact = h.intact }
numbers_over ring ring' old new name (Err fault) h = opens_over ring ring' old new h

pub closes_over : (ring ring' : Option Ring) (old new : StackState) (fid : ℕ) → Closes old new fid → Closes (traced ring old) (traced ring' new) fid
closes_over ring ring' old new fid h = record { closed = h.closed; others = h.others; delicate = h.delicate; levels = h.levels }

pub tames_over : (ring ring' : Option Ring) (old new : StackState) (fid : ℕ) (result : Result Unit VfsFault) → SyncTames old new fid result → SyncTames (traced ring old) (traced ring' new) fid result
tames_over ring ring' old new fid (Ok done) h = record { tamed = λ told is. h.tamed told (counted_below ring old fid _ is) }
tames_over ring ring' old new fid (Err fault) h = tt

pub read_caused_over : (ring ring' : Option Ring) (old new : StackState) (name : List ℕ) (off len : ℕ) (result : Result ℕ VfsFault) →
    ReadCaused old new name off len result → ReadCaused (traced ring old) (traced ring' new) name off len result
read_caused_over None ring' old new name off len (Ok count) h = h
read_caused_over (Some ring) ring' old new name off len (Ok count) h = h
read_caused_over None ring' old new name off len (Err Failed) h = h
read_caused_over (Some ring) ring' old new name off len (Err Failed) h = h
read_caused_over ring ring' old new name off len (Err Memory) h = tt
read_caused_over ring ring' old new name off len (Err (Busy holder level)) h = absurd h
read_caused_over ring ring' old new name off len (Err (Full total limit)) h = absurd h
read_caused_over None ring' old new name off len (Err (BadPage page kept found)) h = h
read_caused_over (Some ring) ring' old new name off len (Err (BadPage page kept found)) h = h

pub write_caused_over : (ring ring' : Option Ring) (old new : StackState) (name : List ℕ) (off len : ℕ) (result : Result Unit VfsFault) →
    WriteCaused old new name off len result → WriteCaused (traced ring old) (traced ring' new) name off len result
unfolding pass
write_caused_over None ring' old new name off len (Ok done) h = h
write_caused_over (Some ring) ring' old new name off len (Ok done) h = h
write_caused_over ring ring' old new name off len (Err Failed) h = h
write_caused_over ring ring' old new name off len (Err Memory) h = tt
write_caused_over ring ring' old new name off len (Err (Busy holder level)) h = absurd h
write_caused_over None ring' old new name off len (Err (Full total limit)) h = h
write_caused_over (Some ring) ring' old new name off len (Err (Full total limit)) h = h
write_caused_over ring ring' old new name off len (Err (BadPage page kept found)) h = absurd h

-- Soundness

pub sound_over : (ring : Option Ring) (s : StackState) → Sound s.layers s.base s.files → Sound (layers_of ring s.layers) s.base s.files
sound_over None s h = h
sound_over (Some ring) s h = record {
  orderly = h.orderly;
  shows = h.shows;
  images = h.images;
  tame = λ name none. h.tame name none.1;
  unmarked = λ name none. h.unmarked name none.1;
}

only_over : (ring : Option Ring) (layers : List Layer) (holds : List ℕ → Type 0) (lengths : Lengths) → LengthsOnly layers holds lengths → LengthsOnly (layers_of ring layers) holds lengths
only_over None layers holds lengths h = h
only_over (Some ring) layers holds lengths h = h

apart_over : (ring : Option Ring) (layers : List Layer) (name other : List ℕ) → Apart layers name other → Apart (layers_of ring layers) name other
apart_over None layers name other h = h
apart_over (Some ring) layers name other h = h

pub stands_over : (ring : Option Ring) (s : StackState) → Stands s → Stands (traced ring s)
stands_over ring s h = record {
  sound = λ told. sound_over ring s (h.sound told);
  counted = λ told fid name is tame.
      file_below ring s.layers name s.lengths ∙ h.counted told fid name (counted_below ring s fid name is) tame ∙ sym (shown_below ring s.layers (present s.base) (name ∷ []));
  only_open = only_over ring s.layers _ s.lengths h.only_open;
  apart = record { each = λ fid other name name' differ is is'. apart_over ring s.layers name name' (h.apart.each fid other name name' differ is is') };
  free = record { each = h.free.each };
  sturdy = record { each = h.sturdy.each };
}

-- A layer that is on is no device

no_device : (layer : Layer) (layers : List Layer) → layer ∷ layers ≡ [] → ⊥
no_device layer layers h = search rules

follows_over : {T : Type 0} (ring ring' : Option Ring) (old new : StackState) (result : Result T VfsFault) (unsettles : StackState → StackState → Result T VfsFault → Type 0) →
    is_on ring' ≡ is_on ring → Follows old new result (unsettles old new) → Follows (traced ring old) (traced ring' new) result (unsettles (traced ring old) (traced ring' new))
follows_over None None old new result unsettles on h = h
follows_over (Some ring) ring' old new result unsettles on h = record {
  counted = λ device. absurd (no_device TraceLayer old.layers device.bare);
  unsettled = λ device. absurd (no_device TraceLayer old.layers device.bare);
}
follows_over None (Some ring') old new result unsettles on h = absurd (clash on)

pub no_change_follows : {T : Type 0} (ring ring' : Option Ring) (old new : StackState) (result : Result T VfsFault) →
    is_on ring' ≡ is_on ring → Follows old new result (λ _. Unit {0}) → Follows (traced ring old) (traced ring' new) result (λ _. Unit {0})
no_change_follows ring ring' old new result on h = follows_over ring ring' old new result (λ _ _ _. Unit {0}) on h

pub open_follows : (ring ring' : Option Ring) (old new : StackState) (result : Result Fid VfsFault) (name : List ℕ) → is_on ring' ≡ is_on ring →
    Follows old new result (OpenUnsettles old new name) → Follows (traced ring old) (traced ring' new) result (OpenUnsettles (traced ring old) (traced ring' new) name)
open_follows ring ring' old new result name on h = follows_over ring ring' old new result (λ a b. OpenUnsettles a b name) on h

pub write_follows : (ring ring' : Option Ring) (old new : StackState) (result : Result Unit VfsFault) (fid off len : ℕ) → is_on ring' ≡ is_on ring →
    Follows old new result (WriteUnsettles old new fid off len) → Follows (traced ring old) (traced ring' new) result (WriteUnsettles (traced ring old) (traced ring' new) fid off len)
write_follows ring ring' old new result fid off len on h = follows_over ring ring' old new result (λ a b. WriteUnsettles a b fid off len) on h

pub cut_follows : (ring ring' : Option Ring) (old new : StackState) (result : Result Unit VfsFault) (fid len : ℕ) → is_on ring' ≡ is_on ring →
    Follows old new result (CutUnsettles old new fid len) → Follows (traced ring old) (traced ring' new) result (CutUnsettles (traced ring old) (traced ring' new) fid len)
cut_follows ring ring' old new result fid len on h = follows_over ring ring' old new result (λ a b. CutUnsettles a b fid len) on h

pub sync_follows : (ring ring' : Option Ring) (old new : StackState) (result : Result Unit VfsFault) (fid : ℕ) → is_on ring' ≡ is_on ring →
    Follows old new result (SyncUnsettles old new fid) → Follows (traced ring old) (traced ring' new) result (SyncUnsettles (traced ring old) (traced ring' new) fid)
sync_follows ring ring' old new result fid on h = follows_over ring ring' old new result (λ a b. SyncUnsettles a b fid) on h

pub delete_follows : (ring ring' : Option Ring) (old new : StackState) (result : Result Unit VfsFault) (name : List ℕ) → is_on ring' ≡ is_on ring →
    Follows old new result (DeleteUnsettles old new name) → Follows (traced ring old) (traced ring' new) result (DeleteUnsettles (traced ring old) (traced ring' new) name)
delete_follows ring ring' old new result name on h = follows_over ring ring' old new result (λ a b. DeleteUnsettles a b name) on h

pub names_follow : (ring ring' : Option Ring) (old new : StackState) (result : Result Unit VfsFault) → is_on ring' ≡ is_on ring →
    Follows old new result (NamesUnsettle old new) → Follows (traced ring old) (traced ring' new) result (NamesUnsettle (traced ring old) (traced ring' new))
names_follow ring ring' old new result on h = follows_over ring ring' old new result (λ a b. NamesUnsettle a b) on h

-- Causes and lengths, by cases of the answer

pub caused_over : {T : Type 0} (ring ring' : Option Ring) (old new : StackState) (result : Result T VfsFault) → Caused old new result → Caused (traced ring old) (traced ring' new) result
caused_over ring ring' old new (Ok value) h = tt
caused_over ring ring' old new (Err Failed) h = h
caused_over ring ring' old new (Err Memory) h = tt
caused_over ring ring' old new (Err (Busy holder level)) h = absurd h
caused_over ring ring' old new (Err (Full total limit)) h = absurd h
caused_over ring ring' old new (Err (BadPage page kept found)) h = absurd h

pub names_left_over : (ring ring' : Option Ring) (old new : StackState) (result : Result Unit VfsFault) → NamesLeft old new result → NamesLeft (traced ring old) (traced ring' new) result
names_left_over ring ring' old new (Ok done) h = h
names_left_over ring ring' old new (Err fault) h = h

pub cut_counts_over : (ring ring' : Option Ring) (old new : StackState) (fid : ℕ) (name : List ℕ) (result : Result Unit VfsFault) → CutCounts old new fid name result → CutCounts (traced ring old) (traced ring' new) fid name result
cut_counts_over ring ring' old new fid name (Ok done) h = λ told is. h told (counted_below ring old fid name is)
cut_counts_over ring ring' old new fid name (Err fault) h = tt

leaves_lengths_over : (ring ring' : Option Ring) (old new : StackState) (fid : ℕ) (name : List ℕ) (passing : Passing) →
    LeavesLengths old new fid name passing → LeavesLengths (traced ring old) (traced ring' new) fid name passing
leaves_lengths_over ring ring' old new fid name (Passes after) h = (h.0, λ is. h.1 (counted_below ring old fid name is))
leaves_lengths_over ring ring' old new fid name (IsFull total limit) h = tt

pub write_counts_over : (ring ring' : Option Ring) (old new : StackState) (fid : ℕ) (name : List ℕ) (off len : ℕ) (result : Result Unit VfsFault) →
    WriteCounts old new fid name off len result → WriteCounts (traced ring old) (traced ring' new) fid name off len result
write_counts_over ring ring' old new fid name off len (Ok done) h = λ told main.
    subst (λ p. LeavesLengths (traced ring old) (traced ring' new) fid name p) (sym (pass_below ring old.layers old.limits old.lengths name off (off + len)))
    (leaves_lengths_over ring ring' old new fid name (passing old name off len) (h told main))
write_counts_over ring ring' old new fid name off len (Err Failed) h = tt
write_counts_over ring ring' old new fid name off len (Err Memory) h = tt
write_counts_over ring ring' old new fid name off len (Err (Busy holder level)) h = absurd h
write_counts_over ring ring' old new fid name off len (Err (Full total limit)) h = λ told is. let left = h told (counted_below ring old fid name is) in
    (ap (λ l. map not_empty l) (file_below ring' new.layers name new.lengths) ∙ left.0 ∙ sym (ap (λ l. map not_empty l) (file_below ring old.layers name old.lengths)), left.1)
write_counts_over ring ring' old new fid name off len (Err (BadPage page kept found)) h = absurd h

-- Controls

pub answers_off : (old new : StackState) (control : Control) (result : Result Answer VfsFault) → Answers old new control result → Answers (traced None old) (traced None new) control result
answers_off old new control result h = h

log_stays : (ring : Ring) (old new : StackState) → LogStays old new → LogStays (traced (Some ring) old) (traced (Some ring) new)
log_stays ring old new h = ap (λ log. ring ∷ log) h

-- a layer that is asked for its own calls
pub answers_own : (ring ring' : Ring) (s : StackState) (control : Control) (result : Result Answer VfsFault) → is_own control ≡ true → TakenFrom ring ring' result →
    Answers (traced (Some ring) s) (traced (Some ring') s) control result
answers_own ring ring' s (TakeTrace (suc zero)) (Ok Unknown) own h = absurd h
answers_own ring ring' s (TakeTrace (suc zero)) (Ok Done) own h = absurd h
answers_own ring ring' s (TakeTrace (suc zero)) (Ok (AreTotals totals)) own h = absurd h
answers_own ring ring' s (TakeTrace (suc zero)) (Ok (AreLines list)) own h =
    (record { ring = ring; was = refl; now_is = ap (λ r. Some (r ∷ s.log)) (sym h.rest); dropped_is = h.dropped; lines_are = h.lines }, refl)
answers_own ring ring' s (TakeTrace (suc zero)) (Err fault) own h = (h.0, refl, ap (λ r. r ∷ s.log) h.1)
answers_own ring ring' s (TakeTrace zero) result own h = absurd (clash (sym own))
answers_own ring ring' s (TakeTrace (suc (suc layer))) result own h = absurd (clash (sym own))
answers_own ring ring' s (Totals layer) result own h = absurd (clash (sym own))
answers_own ring ring' s (SetLimit layer group limit) result own h = absurd (clash (sym own))

no_item : {X : Type 0} (items : List X) → item_at 0 items ≡ None
no_item [] = refl
no_item (x ∷ items) = refl

-- one that is not
pub answers_down : (ring : Ring) (old new : StackState) (control : Control) (result : Result Answer VfsFault) → is_own control ≡ false → Answers old new (handed_down control) result →
    Answers (traced (Some ring) old) (traced (Some ring) new) control result
answers_down ring old new (Totals layer) (Ok Unknown) own h = (h.0, h.1, log_stays ring old new h.2)
answers_down ring old new (Totals layer) (Ok Done) own h = absurd h
answers_down ring old new (Totals layer) (Ok (AreTotals totals)) own h = (h.0, h.1, log_stays ring old new h.2)
answers_down ring old new (Totals layer) (Ok (AreLines list)) own h = absurd h
answers_down ring old new (Totals layer) (Err fault) own h = (h.0, h.1, log_stays ring old new h.2)
answers_down ring old new (SetLimit layer group limit) (Ok Unknown) own h = (h.0, h.1, log_stays ring old new h.2)
answers_down ring old new (SetLimit layer group limit) (Ok Done) own h = (h.0, log_stays ring old new h.1)
answers_down ring old new (SetLimit layer group limit) (Ok (AreTotals totals)) own h = absurd h
answers_down ring old new (SetLimit layer group limit) (Ok (AreLines list)) own h = absurd h
answers_down ring old new (SetLimit layer group limit) (Err fault) own h = absurd h
answers_down ring old new (TakeTrace zero) (Ok Unknown) own h = (refl, h.1, log_stays ring old new h.2)
answers_down ring old new (TakeTrace zero) (Ok (AreLines list)) own h = absurd (none_is_some h.0.ring (item_at 0 old.log) (no_item old.log) h.0.was)
answers_down ring old new (TakeTrace (suc (suc layer))) (Ok Unknown) own h = (h.0, h.1, log_stays ring old new h.2)
answers_down ring old new (TakeTrace (suc (suc layer))) (Ok (AreLines list)) own h = (
  record {
    ring = h.0.ring;
    was = h.0.was;
    now_is = ap (λ o. behind_item ring o) h.0.now_is;
    dropped_is = h.0.dropped_is;
    lines_are = h.0.lines_are;
  },
  h.1,
)
answers_down ring old new (TakeTrace zero) (Ok Done) own h = absurd h
answers_down ring old new (TakeTrace zero) (Ok (AreTotals totals)) own h = absurd h
answers_down ring old new (TakeTrace zero) (Err fault) own h = (h.0, h.1, log_stays ring old new h.2)
answers_down ring old new (TakeTrace (suc zero)) result own h = absurd (clash own)
answers_down ring old new (TakeTrace (suc (suc layer))) (Ok Done) own h = absurd h
answers_down ring old new (TakeTrace (suc (suc layer))) (Ok (AreTotals totals)) own h = absurd h
answers_down ring old new (TakeTrace (suc (suc layer))) (Err fault) own h = (h.0, h.1, log_stays ring old new h.2)

-- The log

pub grows : (layers : List Layer) (old new : List Ring) (call : Call) (outcome : Outcome) → Logs layers old new call outcome → RingsGrow old new
grows [] old new call outcome h = h
grows (TraceLayer ∷ below) [] new call outcome h = h
grows (TraceLayer ∷ below) (ring ∷ old) [] call outcome h = absurd h
grows (TraceLayer ∷ below) (ring ∷ old) (ring' ∷ new) call outcome h = (((call, outcome) ∷ [], h.0), h.1)
grows (Cksum page ∷ below) old new call outcome h = h
grows (Append ∷ below) old new call outcome h = h
grows (Mux chunk ∷ below) old new call outcome h = h
grows (Quota groups ∷ below) old new call outcome h = h

pub logs_over : (ring ring' : Option Ring) (layers : List Layer) (old new : List Ring) (call : Call) (outcome : Outcome) → ring' ≡ after_call call outcome ring →
    Logs layers old new call outcome → Logs (layers_of ring layers) (log_of ring old) (log_of ring' new) call outcome
logs_over None None layers old new call outcome is h = h
logs_over (Some ring) (Some ring') layers old new call outcome is h = (ap (λ o. unwrap_or o ring) is, grows layers old new call outcome h)
logs_over None (Some ring') layers old new call outcome is h = absurd (none_is_some ring' None refl (sym is))
logs_over (Some ring) None layers old new call outcome is h = absurd (none_is_some (with_call call outcome ring) None refl is)
