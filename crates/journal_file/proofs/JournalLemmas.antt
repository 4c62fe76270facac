-- A journal as its steps leave it.
use Rattle.std.proofs.Common.{arith, rules, ◌≡◌, ℕ, zero, suc, ◌+◌, ◌-◌, ◌≤◌, ◌<◌, Bool, false, List, [], ◌∷◌, length, take, drop, slice_get, IsTrue, Some, Result, Ok, Err, OnOk, inl, inr, refl, sym, ◌∙◌, ap, subst}
use Rattle.std.specs.Prelude.{unwrap_or}
use Rattle.std.proofs.lemmas.List.{take_all}
use Rattle.vfs_model.specs.Places.{same_places}
use Rattle.vfs_model.specs.File.{FileState, HasOneContent, IsSettled, IsKept as IsSafe}
use Rattle.vfs_model.specs.Effect.{NoLooser, Wrote, WriteFailed, Cut, CutFailed, Synced, NameSynced}
use Rattle.vfs_model.specs.Name.{kind_of}
use Rattle.vfs_model.specs.declared.name.Kind.TheVariants.{Journal}
use Rattle.vfs_trait.specs.State.{StackState, OpenStays, file_at, name_at}
use Rattle.vfs_trait.specs.Calls.{WriteLeaves, WriteCaused, CutLeaves, SyncLeaves, NamesLeft}
use Rattle.vfs_trait.specs.declared.fault.VfsFault.{VfsFault}
use Rattle.vfs_trait.specs.declared.fault.VfsFault.TheVariants.{Failed, Memory, Busy, Full, BadPage}
use Rattle.journal_file.specs.Steps.{IsShut, IsClosedOrEmpty, with_first}
use Rattle.journal_file.proofs.StackLemmas.{main_is_none, name_stays}

-- a list with this first byte that agrees behind it
pub same_but_first : (b : ℕ) (xs ys : List ℕ) → length xs ≡ length ys → slice_get xs 0 ≡ Some b → ((i : ℕ) → 1 ≤ i → i < length ys → slice_get xs i ≡ slice_get ys i) → 1 ≤ length ys → xs ≡ with_first b ys
same_but_first b xs [] size first same some = absurd (omega (arith, some))
same_but_first b [] (y ∷ ys) size first same some = absurd (omega (arith, size))
same_but_first b (x ∷ xs) (y ∷ ys) size first same some =
    let head : x ≡ b = ap (λ o. unwrap_or o x) first in
    let tail : xs ≡ ys = same_places xs ys (omega (arith, size)) (λ i within. same (suc i) (omega arith) (omega (arith, within))) in
    ap (λ z. z ∷ xs) head ∙ ap (λ zs. b ∷ zs) tail

pub always : {T E P : Type 0} (r : Result T E) → P → OnOk r P
always (Ok x) p = p
always (Err e) p = tt

-- a place that has a byte lies within
pub some_place : (xs : List ℕ) (k b : ℕ) → slice_get xs k ≡ Some b → k < length xs
some_place [] k b h = absurd (search (rules, h))
some_place (x ∷ xs) zero b h = omega arith
some_place (x ∷ xs) (suc k) b h = omega (arith, some_place xs k b h)

-- what a sync leaves that was done, of a file that is there for sure
pub synced_settled : (mid new : FileState) (r : Result Unit VfsFault) (T : Type 0) → (T → SyncLeaves mid new r) → (T → IsTrue mid.sure) → (T → new.wild ≡ false) → OnOk r (T → IsSettled new)
synced_settled mid new (Ok x) T h sure tame = λ t. record { tame = tame t; sure = (h t).sure (sure t); content = (h t).content (tame t) }
synced_settled mid new (Err e) T h sure tame = tt

pub sync_stays : (mid new : FileState) (r : Result Unit VfsFault) → SyncLeaves mid new r → new.now ≡ mid.now
sync_stays mid new (Ok x) h = h.now
sync_stays mid new (Err e) h = h.now

-- a journal is refused by no limit
pub wrote_or_failed : (a b : StackState) (name : List ℕ) (d : Bool) (old new : FileState) (off : ℕ) (bytes : List ℕ) (r : Result Unit VfsFault) → kind_of name ≡ Journal → WriteCaused a b name off (length bytes) r →
    WriteLeaves d old new off bytes r → WriteFailed d old new off (length bytes)
wrote_or_failed a b name d old new off bytes (Ok x) is cause h = h.touched
wrote_or_failed a b name d old new off bytes (Err Failed) is cause h = h
wrote_or_failed a b name d old new off bytes (Err Memory) is cause h = h
wrote_or_failed a b name d old new off bytes (Err (Busy holder level)) is cause h = absurd h
wrote_or_failed a b name d old new off bytes (Err (Full total limit)) is cause h = absurd (main_is_none (kind_of name) is cause.1)
wrote_or_failed a b name d old new off bytes (Err (BadPage page kept found)) is cause h = absurd h

pub cut_or_failed : (old new : FileState) (len : ℕ) (r : Result Unit VfsFault) → CutLeaves old new len r → CutFailed old new len
cut_or_failed old new len (Ok x) h = h.touched
cut_or_failed old new len (Err e) h = h

-- what is written from the second byte on, and what is cut to one byte or more, leaves the first as it is
pub write_shut : (d : Bool) (old new : FileState) (len : ℕ) → IsShut old → WriteFailed d old new 1 len → new.wild ≡ false → IsShut new
write_shut d old new len shut t tame =
    let some = some_place old.now.bytes 0 0 shut.zero in
    record {
      there = t.there ∙ shut.there;
      sure = t.sure shut.sure;
      first = (t.stop shut.first.tame tame).kept 0 (inl (omega arith)) shut.first;
      zero = (t.beside 0 some (inl (omega arith))).0 ∙ shut.zero;
    }

pub cut_shut : (old new : FileState) (len : ℕ) → 1 ≤ len → IsShut old → CutFailed old new len → new.wild ≡ false → IsShut new
cut_shut old new len long shut t tame =
    let some = some_place old.now.bytes 0 0 shut.zero in
    record {
      there = t.there ∙ shut.there;
      sure = t.sure shut.sure;
      first = (t.stop shut.first.tame tame).kept 0 (omega (arith, long)) shut.first;
      zero = t.bytes 0 (omega (arith, some, long, t.no_shorter)) ∙ shut.zero;
    }

pub looser_shut : (old new : FileState) → IsShut old → NoLooser old new → IsShut new
looser_shut old new shut t = record {
  there = ap (λ f. f.there) t.now ∙ shut.there;
  sure = t.sure shut.sure;
  first = (t.stop shut.first.tame).kept 0 tt shut.first;
  zero = ap (λ f. slice_get f.bytes 0) t.now ∙ shut.zero;
}

one_content : (s : FileState) (place : ℕ) → s.wild ≡ false → HasOneContent s → place < length s.now.bytes → IsSafe s place
one_content s place tame content h = record { tame = tame; below = omega (arith, h, content.shortest); synced = content.synced place h }

pub synced_shut : (old new : FileState) → IsShut old → Synced old new → new.wild ≡ false → IsShut new
synced_shut old new shut t tame =
    let begins : slice_get new.now.bytes 0 ≡ Some 0 = ap (λ f. slice_get f.bytes 0) t.now ∙ shut.zero in
    record {
      there = ap (λ f. f.there) t.now ∙ shut.there;
      sure = t.sure shut.sure;
      first = one_content new 0 tame (t.content tame) (some_place new.now.bytes 0 0 begins);
      zero = begins;
    }

pub sync_shut : (old new : FileState) (r : Result Unit VfsFault) → IsShut old → SyncLeaves old new r → new.wild ≡ false → IsShut new
sync_shut old new (Ok x) shut t tame = synced_shut old new shut t tame
sync_shut old new (Err e) shut t tame = looser_shut old new shut t

-- a settled file that begins with a zero and is there
pub settled_shut : (s : FileState) → IsSettled s → IsTrue s.now.there → slice_get s.now.bytes 0 ≡ Some 0 → IsShut s
settled_shut s settled there begins = record { there = there; sure = settled.sure; first = one_content s 0 settled.tame settled.content (some_place s.now.bytes 0 0 begins); zero = begins }

-- a file that was written from its second byte on and cut behind
length_behind : (bytes : List ℕ) → 1 ≤ length bytes → suc (length (drop 1 bytes)) ≡ length bytes
length_behind [] h = absurd (omega (arith, h))
length_behind (b ∷ bytes) h = refl

pub behind_first : (bytes : List ℕ) → 1 ≤ length bytes → take (length bytes - 1) (drop 1 bytes) ≡ drop 1 bytes
behind_first bytes h = take_all (length bytes - 1) (drop 1 bytes) (omega (arith, length_behind bytes h, h))

pub journal_written : (d : Bool) (s0 s1 s2 s3 : FileState) (bytes more : List ℕ) (len : ℕ) → slice_get s0.now.bytes 0 ≡ Some 0 → Wrote d s0 s1 1 more → Cut s1 s2 len → 1 ≤ length bytes → more ≡ drop 1 bytes →
    s3.now ≡ s2.now → len ≡ length bytes → s3.now.bytes ≡ with_first 0 bytes
journal_written d s0 s1 s2 s3 bytes more len zero_first wrote was_cut long is same size_is =
    let some = some_place s0.now.bytes 0 0 zero_first in
    let behind_is : suc (length more) ≡ length bytes = ap (λ m. suc (length m)) is ∙ length_behind bytes long in
    let size : length s2.now.bytes ≡ suc (length more) = was_cut.size ∙ size_is ∙ sym behind_is in
    ap (λ f. f.bytes) same ∙ same_but_first 0 s2.now.bytes (0 ∷ more) size
    (was_cut.touched.bytes 0 (omega (arith, size)) ∙ (wrote.touched.beside 0 some (inl (omega arith))).0 ∙ zero_first)
    (λ i behind within.
    let e : 1 + (i - 1) ≡ i = omega (arith, behind) in
    let e' : suc (i - 1) ≡ i = omega (arith, behind) in
    was_cut.touched.bytes i (omega (arith, within, size)) ∙ ap (slice_get s1.now.bytes) (sym e) ∙ wrote.inside (i - 1) (omega (arith, behind, within)) ∙ ap (slice_get (0 ∷ more)) e')
    (omega arith) ∙ ap (λ m. 0 ∷ m) is

-- a file whose first byte was written
pub gate_set : (d : Bool) (old mid new : FileState) (byte : ℕ) (r : Result Unit VfsFault) → 1 ≤ length old.now.bytes → Wrote d old mid 0 (byte ∷ []) → SyncLeaves mid new r → new.now.bytes ≡ with_first byte old.now.bytes
gate_set d old mid new byte r some wrote synced =
    ap (λ f. f.bytes) (sync_stays mid new r synced) ∙ same_but_first byte mid.now.bytes old.now.bytes (omega (arith, wrote.size, some))
    (wrote.inside 0 (omega arith)) (λ i behind within. (wrote.touched.beside i within (inr behind)).0) some

pub fill_zero : (d : Bool) (old new : FileState) (r : Result Unit VfsFault) (T : Type 0) → (T → WriteLeaves d old new 0 (0 ∷ []) r) → OnOk r (T → slice_get new.now.bytes 0 ≡ Some 0)
fill_zero d old new (Ok x) T h = λ t. (h t).inside 0 (omega arith)
fill_zero d old new (Err e) T h = tt

pub not_empty_zero : (old new : FileState) (len : ℕ) → IsClosedOrEmpty old.now.bytes → NoLooser old new → len ≡ length old.now.bytes → 0 < len → slice_get new.now.bytes 0 ≡ Some 0
not_empty_zero old new len (inl empty) t is some = absurd (omega (arith, some, is, ap length empty))
not_empty_zero old new len (inr zero_first) t is some = ap (λ f. slice_get f.bytes 0) t.now ∙ zero_first

pub looser_content : (old new : FileState) → old.wild ≡ false → HasOneContent old → NoLooser old new → HasOneContent new
looser_content old new tame h t =
    let size : length new.now.bytes ≡ length old.now.bytes = ap (λ f. length f.bytes) t.now in
    record {
      shortest = omega (arith, size, h.shortest, (t.stop tame).floor_is);
      longest = omega (arith, size, h.longest, (t.stop tame).reach_is);
      synced = λ place within. ((t.stop tame).kept place tt (one_content old place tame h (omega (arith, size, within)))).synced;
    }

pub named_settled : (mid new : FileState) → NameSynced mid new → mid.wild ≡ false → HasOneContent mid → IsSettled new
named_settled mid new t tame content = record { tame = t.stays.tame tame; sure = t.sure; content = looser_content mid new tame content t.stays }

-- what a sync of the names leaves of a file that was synced, where it was done
pub names_settle : (s t : StackState) (fid : ℕ) (r : Result Unit VfsFault) (T : Type 0) → OpenStays s t → (T → IsTrue s.tells) → NamesLeft s t r → (T → (file_at s fid).wild ≡ false) →
    (T → HasOneContent (file_at s fid)) → OnOk r (T → IsSettled (file_at t fid))
names_settle s t fid (Ok x) T opens told h tame content = λ k.
    let P : List ℕ → Type 0 = λ n. NameSynced (file_at s fid) (t.files n) in
    named_settled (file_at s fid) (file_at t fid) (subst P (sym (name_stays s t fid opens)) ((h (told k)).each (name_at s fid))) (tame k) (content k)
names_settle s t fid (Err e) T opens told h tame content = tt

pub names_keep : (s t : StackState) (fid : ℕ) (r : Result Unit VfsFault) → OpenStays s t → IsTrue s.tells → NamesLeft s t r → NoLooser (file_at s fid) (file_at t fid)
names_keep s t fid (Ok x) opens told h =
    let P : List ℕ → Type 0 = λ n. NoLooser (file_at s fid) (t.files n) in subst P (sym (name_stays s t fid opens)) ((h told).each (name_at s fid)).stays
names_keep s t fid (Err e) opens told h =
    let P : List ℕ → Type 0 = λ n. NoLooser (file_at s fid) (t.files n) in subst P (sym (name_stays s t fid opens)) ((h told).each (name_at s fid))

pub all_shut : (s : FileState) (r : Result Unit VfsFault) (T : Type 0) → OnOk r (T → IsSettled s) → (T → IsTrue s.now.there) → (T → slice_get s.now.bytes 0 ≡ Some 0) → OnOk r (T → IsShut s)
all_shut s (Ok x) T h there begins = λ t. settled_shut s (h t) (there t) (begins t)
all_shut s (Err e) T h there begins = tt
