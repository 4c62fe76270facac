-- A playback and the closing of the gate, over whole stacks.
use Rattle.std.proofs.Common.{arith, rules, ◌≡◌, ◌≢◌, ℕ, ◌≤◌, Bool, true, false, List, [], length, slice_get, if◌then◌else◌, IsTrue, IsSome, Option, Some, None, unwrap_or, Result, Ok, Err, OnOk, refl, sym, ◌∙◌, ap, subst}
use Rattle.vfs_model.specs.File.{FileState, IsOrderly, IsSettled}
use Rattle.vfs_model.specs.Effect.{NoLooser}
use Rattle.vfs_model.specs.Store.{Apart, OthersStay}
use Rattle.vfs_model.specs.Laws.{LooserTwice, NowIsImage, OlderImages, OnlyImage}
use Rattle.vfs_model.specs.declared.layer.Layer.{Layer}
use Rattle.vfs_trait.specs.State.{StackState, IsOpen, Steady, OpenStays, Stands, file_at, name_at}
use Rattle.vfs_trait.specs.declared.fault.VfsFault.{VfsFault}
use Rattle.journal_format.specs.Undo.{Undo}
use Rattle.journal_format.specs.Journal.{Hot, Cold, Foreign, Undoes, all_exist, hot, unless_missing}
use Rattle.journal_format.specs.Laws.{ClosedIsCold, ShortIsCold, Asked, asked}
use Rattle.journal_file.specs.Tame.{IsSturdy}
use Rattle.journal_file.specs.Content.{initial_size, with_reserve, AllHaveStood}
use Rattle.journal_file.specs.Steps.{IsShut, IsKept, IsLong, IsHotOver, BothStayed, Exits, with_first}
use Rattle.journal_file.specs.Laws.{KeptImage}
use Rattle.journal_file.proofs.StackLemmas.{name_stays}
use Rattle.journal_file.proofs.JournalLemmas.{settled_shut}
use Rattle.journal_file.proofs.PlayLemmas.{not_delicate}
use Rattle.journal_file.proofs.ExitLemmas.{IsHotPair, IsClosing, play_exit_by, open_first, closed_stood, closed_first, hot_long, there_of}

pub some_is : (o : Option (List ℕ)) → IsSome o → o ≡ Some (unwrap_or o [])
some_is None h = absurd (search (rules, h))
some_is (Some x) h = refl

-- two open files have names that are apart, and a call on one leaves the other
pub apart_names : (a : StackState) (fid other : ℕ) → Stands a → IsOpen a fid → IsOpen a other → fid ≢ other → Apart a.layers (name_at a fid) (name_at a other)
apart_names a fid other stands is is' differ = stands.apart.each fid other (name_at a fid) (name_at a other) differ (some_is (a.open_files fid) is) (some_is (a.open_files other) is')

pub other_stays : (a b : StackState) (fid other : ℕ) → OthersStay a.layers a.files b.files (name_at a fid) → OpenStays a b → Apart a.layers (name_at a fid) (name_at a other) → NoLooser (file_at a other) (file_at b other)
other_stays a b fid other h opens apart = let P : List ℕ → Type 0 = λ n. NoLooser (file_at a other) (b.files n) in subst P (sym (name_stays a b other opens)) (h.each (name_at a other) apart)

pub both_stayed : LooserTwice → (a b d : StackState) (fid other : ℕ) → Steady a b → OpenStays a b → OthersStay a.layers a.files b.files (name_at a fid) → OthersStay b.layers b.files d.files (name_at b other) →
    BothStayed a.layers a.files d.files (name_at a fid) (name_at a other)
both_stayed twice a b d fid other s opens h k =
    let P : List ℕ → Type 0 = λ n. OthersStay b.layers b.files d.files n in
    let Q : List Layer → Type 0 = λ ls. OthersStay ls b.files d.files (name_at a other) in
    let k' : OthersStay a.layers b.files d.files (name_at a other) = subst Q s.layers (subst P (name_stays a b other opens) k) in
    record { each = λ n apart apart'. twice (a.files n) (b.files n) (d.files n) (h.each n apart) (k'.each n apart') }

-- what is known of the two files where a playback begins
pub record Begins (u : Undo) (j d : FileState) : Type 0 where
  pub settled : IsSettled j
  pub orderly_j : IsOrderly j
  pub there : IsTrue d.now.there
  pub sure : IsTrue d.sure
  pub tame : d.wild ≡ false
  pub orderly : IsOrderly d

there_j : ShortIsCold → (exists : List ℕ → Bool) (u : Undo) (j : FileState) → IsOrderly j → hot exists j.now.bytes ≡ Undoes u → IsTrue j.now.there
there_j short exists u j orderly is_hot = there_of j orderly (omega (arith, hot_long short exists j.now.bytes u is_hot))

hot_pair : ShortIsCold → (exists : List ℕ → Bool) (u : Undo) (j d : FileState) → Begins u j d → hot exists j.now.bytes ≡ Undoes u → IsHotPair exists u j d
hot_pair short exists u j d p is_hot = record {
  settled = p.settled;
  orderly_j = p.orderly_j;
  there_j = there_j short exists u j p.orderly_j is_hot;
  is_hot = is_hot;
  there = p.there;
  sure = p.sure;
  tame = p.tame;
  orderly = p.orderly;
}

pub open_exits : ShortIsCold → NowIsImage → OnlyImage → OlderImages → KeptImage → (reserve : ℕ) (u : Undo) (j d j' d' : FileState) → Begins u j d → NoLooser j j' → IsKept (with_reserve reserve u) d d' → Exits reserve u j d j' d'
open_exits short now only older image reserve u j d j' d' p stays kept = record {
  stood = λ exists is_hot enough. play_exit_by now only older exists reserve u j j' d d' p.settled p.orderly_j (there_j short exists u j p.orderly_j is_hot) is_hot p.there p.sure p.tame p.orderly enough stays kept;
  first = λ exists first is_hot settled there kept' same. open_first only older image exists reserve u first j j' d d' p.settled (there_j short exists u j p.orderly_j is_hot) is_hot settled there kept' same stays kept;
}

pub closed_exits : ClosedIsCold → ShortIsCold → NowIsImage → OnlyImage → OlderImages → KeptImage → (reserve : ℕ) (u : Undo) (j j1 j' d d1 d' : FileState) → Begins u j d → IsClosing reserve u j j1 j' d d1 d' → Exits reserve u j d j' d'
closed_exits cold short now only older image reserve u j j1 j' d d1 d' p q = record {
  stood = λ exists is_hot enough. closed_stood cold now only older exists reserve u j j1 j' d d1 d' (hot_pair short exists u j d p is_hot) enough q;
  first = λ exists first is_hot settled there kept same. closed_first cold only older image exists reserve u first j j1 j' d d1 d' is_hot p.there settled there kept same q;
}

-- a journal that was closed
pub close_shut : (r : Result Unit VfsFault) (s : FileState) (bytes : List ℕ) (T A B : Type 0) → OnOk r (A → IsSettled s) → OnOk r (B → s.now.bytes ≡ with_first 0 bytes) → (T → A) → (T → B) → (T → IsTrue s.now.there) → OnOk r (T → IsShut s)
close_shut (Ok x) s bytes T A B h k to_a to_b there = λ t. settled_shut s (h (to_a t)) (there t) (ap (λ b. slice_get b 0) (k (to_b t)))
close_shut (Err e) s bytes T A B h k to_a to_b there = tt

pub on_ok : (r : Result Unit VfsFault) (P Q : Type 0) → (P → Q) → OnOk r P → OnOk r Q
on_ok (Ok x) P Q f h = f h
on_ok (Err e) P Q f h = tt

-- what is hot where these names exist is hot where all do, and of this undo
missing_or : (exists : List ℕ → Bool) (o : Option (List ℕ)) (h : Hot) (u : Undo) → unless_missing exists o h ≡ Undoes u → h ≡ Undoes u
missing_or exists None h u is = is
missing_or exists (Some name) h u is = of (exists name) is where
  of : (b : Bool) → (if b then h else Cold) ≡ Undoes u → h ≡ Undoes u
  of true is = is
  of false is = let k : Cold ≡ Undoes u = is in absurd (cc)

asked_hot : (exists : List ℕ → Bool) (h : Hot) (u : Undo) → asked exists h ≡ Undoes u → h ≡ Undoes u
asked_hot exists (Undoes v) u is = missing_or exists v.super_name (Undoes v) u is
asked_hot exists Cold u is = is
asked_hot exists Foreign u is = is

pub all_hot : Asked → (exists : List ℕ → Bool) (bytes : List ℕ) (u : Undo) → hot exists bytes ≡ Undoes u → hot all_exist bytes ≡ Undoes u
all_hot law exists bytes u is = asked_hot exists (hot all_exist bytes) u (sym (law exists bytes) ∙ is)

pub this_page : (page : ℕ) (j d : FileState) (u : Undo) → IsHotOver page j d → hot all_exist j.now.bytes ≡ Undoes u → u.page ≡ page
this_page page j d u h is = let e : Undoes h.undo ≡ Undoes u = sym h.is_hot ∙ is in let k : h.undo ≡ u = cc in ap (λ v. v.page) (sym k) ∙ h.page_is

pub sturdy_next : (a b : StackState) (fid size : ℕ) → OpenStays a b → NoLooser (file_at a fid) (file_at b fid) → IsSturdy a (name_at a fid) size → IsSturdy b (name_at b fid) size
sturdy_next a b fid size opens stays h = record { whole = ap (λ f. length f.bytes) stays.now ∙ h.whole; tame = stays.tame h.tame; sturdy = not_delicate a b fid opens h.sturdy }

pub stays_stood_by : OlderImages → (exists : List ℕ → Bool) (reserve : ℕ) (j d j' d' : FileState) → NoLooser j j' → NoLooser d d' → AllHaveStood exists reserve j d j' d'
stays_stood_by older exists reserve j d j' d' h k i e ij id = record { older_j = i; older_d = e; is_journal = older j j' i h ij; is_db = older d d' e k id; same = λ content s. s }

pub looser_long : (u : Undo) (s t : FileState) → IsLong u s → NoLooser s t → IsLong u t
looser_long u s t h k = record { there = ap (λ f. f.there) k.now ∙ h.there; sure = k.sure h.sure; long = omega (arith, h.long, ap (λ f. length f.bytes) k.now) }

pub both_after : LooserTwice → (a b d : StackState) (fid other : ℕ) → Steady a b → OpenStays a b → OthersStay a.layers a.files b.files (name_at a other) → BothStayed b.layers b.files d.files (name_at b fid) (name_at b other) →
    BothStayed a.layers a.files d.files (name_at a fid) (name_at a other)
both_after twice a b d fid other s opens h k =
    let P : List ℕ → Type 0 = λ n. BothStayed b.layers b.files d.files n (name_at b other) in
    let P' : List ℕ → Type 0 = λ n. BothStayed b.layers b.files d.files (name_at a fid) n in
    let Q : List Layer → Type 0 = λ ls. BothStayed ls b.files d.files (name_at a fid) (name_at a other) in
    let k' : BothStayed a.layers b.files d.files (name_at a fid) (name_at a other) = subst Q s.layers (subst P' (name_stays a b other opens) (subst P (name_stays a b fid opens) k)) in
    record { each = λ n apart apart'. twice (a.files n) (b.files n) (d.files n) (h.each n apart') (k'.each n apart apart') }

-- what is hot under any names is long enough in the file that it can be played back to
pub undo_long : Asked → (exists : List ℕ → Bool) (page : ℕ) (j d : FileState) (u : Undo) → IsHotOver page j d → hot exists j.now.bytes ≡ Undoes u → initial_size u ≤ length d.now.bytes
undo_long law exists page j d u h is =
    let e : Undoes h.undo ≡ Undoes u = sym h.is_hot ∙ all_hot law exists j.now.bytes u is in
    let k : h.undo ≡ u = cc in
    let P : Undo → Type 0 = λ v. initial_size v ≤ length d.now.bytes in
    subst P k h.long.long
