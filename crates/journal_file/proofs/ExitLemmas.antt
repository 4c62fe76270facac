-- What the two files stand for at each exit, by their states along the way.
use Rattle.std.proofs.Common.{arith, rules, ◌≡◌, ◌≢◌, ◌⊎◌, ℕ, zero, suc, ◌≤◌, ◌<◌, Bool, true, false, if◌then◌else◌, List, [], ◌∷◌, length, get_or, slice_get, IsTrue, Option, Some, None, inl, inr, refl, sym, ◌∙◌, ap, subst}
use Rattle.std.proofs.lemmas.Bool.{cases_lt, cases_order, cases_Bool}
use Rattle.std.proofs.lemmas.Option.{slice_get-get_or}
use Rattle.vfs_model.specs.Places.{same_places}
use Rattle.vfs_model.specs.File.{Found, FileState, Stays, IsOrderly, IsImage, IsSettled, SameFound, IsKept as IsSafe}
use Rattle.vfs_model.specs.Effect.{NoLooser}
use Rattle.vfs_model.specs.Laws.{NowIsImage, OlderImages, OnlyImage}
use Rattle.journal_format.specs.Undo.{Undo, laid, over}
use Rattle.journal_format.specs.Journal.{Hot, Cold, Undoes, hot}
use Rattle.journal_format.specs.Laws.{ClosedIsCold, ShortIsCold}
use Rattle.journal_file.specs.Content.{initial_size, with_reserve, bad_unless, SameContent, IsUndone, Shows, StandsFor, AllStandFor, AllStandForEither, HasStood, AllHaveStood}
use Rattle.journal_file.specs.Steps.{HasButFirst, IsKept, with_first}
use Rattle.journal_file.specs.Laws.{GateStands, KeptImage, StoodTwice, PlayExit}
use Rattle.journal_file.proofs.JournalLemmas.{same_but_first, some_place, looser_content}
use Rattle.journal_file.proofs.PlaceLemmas.{kept_kept, stays_kept}

pub stood_stood : StoodTwice
stood_stood exists reserve j d j' d' j'' d'' h k i e ij id =
    let b = k i e ij id in
    let a = h b.older_j b.older_d b.is_journal b.is_db in
    record { older_j = a.older_j; older_d = a.older_d; is_journal = a.is_journal; is_db = a.is_db; same = λ content s. b.same content (a.same content s) }

-- images of a journal

byte_or : (o : Option ℕ) → (o ≡ Some 217) ⊎ (o ≢ Some 217)
byte_or None = inr (λ h. cc)
byte_or (Some b) = elim (cases_order b 217) [
  | inl e ↦ inl (ap Some e)
  | inr (inl less) ↦ inr (λ h. let e : b ≡ 217 = cc in omega (arith, e, less))
  | inr (inr more) ↦ inr (λ h. let e : b ≡ 217 = cc in omega (arith, e, more))
]

-- an image of a file that is settled but for its first byte is open, with these bytes behind the first, or does not begin so
first_image : (bytes : List ℕ) (s : FileState) (i : Found) → HasButFirst bytes s → IsImage s i → (i.bytes ≡ with_first 217 bytes) ⊎ (slice_get i.bytes 0 ≢ Some 217)
first_image bytes s i but image = elim (byte_or (slice_get i.bytes 0)) [
  | inl opened ↦
      let there : IsTrue i.there = image.name but.sure ∙ but.there in
      let size : length i.bytes ≡ length bytes = omega (arith, image.no_shorter but.tame there, image.no_longer but.tame, but.shortest, but.longest) in
      let some = some_place i.bytes 0 217 opened in
      inl (same_but_first 217 i.bytes bytes size opened
      (λ place behind within.
      let safe : IsSafe s place = record { tame = but.tame; below = omega (arith, within, but.shortest); synced = but.synced place behind within } in
      (image.kept there place safe).0 ∙ but.each place behind within)
      (omega (arith, size, some)))
  | inr other ↦ inr other
]

cold_by : ClosedIsCold → (exists : List ℕ → Bool) (reserve : ℕ) (j d content : Found) → slice_get j.bytes 0 ≢ Some 217 → SameContent d content → StandsFor exists reserve j d content
cold_by law exists reserve j d content closed same = let P : Hot → Type 0 = λ h. Shows reserve h d content in subst P (sym (law exists j.bytes closed)) same

pub gate_by : ClosedIsCold → GateStands
gate_by law exists reserve js ds bytes opened closed but hot_shows cold_shows j d ij id = elim (first_image bytes js j but ij) [
  | inl e ↦ inl (let P : List ℕ → Type 0 = λ b. Shows reserve (hot exists b) d opened in subst P (sym e) (hot_shows d id))
  | inr shut ↦ inr (cold_by law exists reserve j d closed shut (cold_shows d id))
]

pub either_same : (exists : List ℕ → Bool) (reserve : ℕ) (js ds : FileState) (content : Found) → AllStandForEither exists reserve js ds content content → AllStandFor exists reserve js ds content
either_same exists reserve js ds content h j d ij id = elim (h j d ij id) [ inl a ↦ a | inr b ↦ b ]

-- a settled file has its bytes in each image

pub settled_found : OnlyImage → OlderImages → (s t : FileState) (i : Found) → IsSettled s → IsTrue s.now.there → NoLooser s t → IsImage t i → SameFound s.now i
settled_found only older s t i settled there stays image = let one = only s i settled (older s t i stays image) in one.1 (one.0 ∙ there)

settled_bytes : OnlyImage → OlderImages → (s t : FileState) (i : Found) → IsSettled s → IsTrue s.now.there → NoLooser s t → IsImage t i → i.bytes ≡ s.now.bytes
settled_bytes only older s t i settled there stays image =
    let same = settled_found only older s t i settled there stays image in same_places i.bytes s.now.bytes same.size (λ place within. (same.each place within).0)

-- a list from a function of the place
build : ℕ → (ℕ → ℕ) → List ℕ
build zero f = []
build (suc n) f = f 0 ∷ build n (λ k. f (suc k))

length_build : (n : ℕ) (f : ℕ → ℕ) → length (build n f) ≡ n
unfolding build
length_build zero f = refl
length_build (suc n) f = ap suc (length_build n (λ k. f (suc k)))

build_at : (n : ℕ) (f : ℕ → ℕ) (k : ℕ) → k < n → slice_get (build n f) k ≡ Some (f k)
unfolding build
build_at zero f k h = absurd (omega (arith, h))
build_at (suc n) f zero h = refl
build_at (suc n) f (suc k) h = build_at n (λ j. f (suc j)) k (omega (arith, h))

same_byte : (xs : List ℕ) (k : ℕ) → k < length xs → Some (get_or xs k 0) ≡ slice_get xs k
same_byte xs k h = sym (slice_get-get_or xs k 0 h)

-- the byte of an image from before that has what a later one has wherever that was unsettled
byte_of : FileState → Found → ℕ → ℕ
byte_of old i place = if old.unsynced place then get_or i.bytes place 0 else get_or old.now.bytes place 0

older : FileState → Found → Found
older old i = record { there = true; bytes = build old.shortest (byte_of old i); bad = λ place. if old.unsynced place then i.bad place else old.now.bad place }

-- what that image has at a place
record LikeLater (old : FileState) (i : Found) (place : ℕ) : Type 0 where
  pub byte : slice_get (older old i).bytes place ≡ slice_get i.bytes place
  pub mark : (older old i).bad place ≡ i.bad place

record LikeOld (old : FileState) (i : Found) (place : ℕ) : Type 0 where
  pub byte : slice_get (older old i).bytes place ≡ slice_get old.now.bytes place
  pub mark : (older old i).bad place ≡ old.now.bad place

like_later : (old : FileState) (i : Found) (place : ℕ) → place < old.shortest → old.unsynced place ≡ true → place < length i.bytes → LikeLater old i place
unfolding older byte_of
like_later old i place within mark h = record {
  byte = build_at old.shortest (byte_of old i) place within ∙ ap (λ b. Some (if b then get_or i.bytes place 0 else get_or old.now.bytes place 0)) mark ∙ same_byte i.bytes place h;
  mark = ap (λ b. if b then i.bad place else old.now.bad place) mark;
}

like_old : (old : FileState) (i : Found) (place : ℕ) → place < old.shortest → old.unsynced place ≡ false → place < length old.now.bytes → LikeOld old i place
unfolding older byte_of
like_old old i place within mark h = record {
  byte = build_at old.shortest (byte_of old i) place within ∙ ap (λ b. Some (if b then get_or i.bytes place 0 else get_or old.now.bytes place 0)) mark ∙ same_byte old.now.bytes place h;
  mark = ap (λ b. if b then i.bad place else old.now.bad place) mark;
}

older_image : (old : FileState) (i : Found) → IsTrue old.now.there → IsOrderly old → IsImage old (older old i)
unfolding older
older_image old i there orderly = record {
  name = λ sure. sym there;
  missing = λ h. absurd (search (rules, h));
  no_shorter = λ tame t. omega (arith, length_build old.shortest (byte_of old i));
  no_longer = λ tame. omega (arith, length_build old.shortest (byte_of old i), orderly.no_shorter, orderly.no_longer);
  kept = λ t place safe. let like = like_old old i place safe.below safe.synced (omega (arith, safe.below, orderly.no_shorter)) in (like.byte, like.mark);
}

over_case : (o a b : Option ℕ) → (o ≡ None → a ≡ b) → over o a ≡ over o b
over_case None a b h = h refl
over_case (Some x) a b h = refl

bad_case : (o : Option ℕ) (a b : Bool) → (o ≡ None → a ≡ b) → bad_unless o a ≡ bad_unless o b
bad_case None a b h = h refl
bad_case (Some x) a b h = refl

-- two files that agree at each place that an undo does not have give the same
undone_alike : (u : Undo) (f g content : Found) → initial_size u ≤ length g.bytes → ((place : ℕ) → place < initial_size u → laid u.page u.originals place ≡ None → Stays g f place) → IsUndone u f content → IsUndone u g content
undone_alike u f g content long same undone = record {
  bytes = record {
    long = long;
    cut = undone.bytes.cut;
    each = λ place w. undone.bytes.each place w ∙ over_case (laid u.page u.originals place) (slice_get f.bytes place) (slice_get g.bytes place) (λ none. (same place w none).0);
  };
  bad = λ place w. undone.bad place w ∙ bad_case (laid u.page u.originals place) (f.bad place) (g.bad place) (λ none. (same place w none).1);
}

-- over each image of what was kept, an undo gives what it gives over an image from before
kept_undone : (u : Undo) (old new : FileState) (i content : Found) → IsTrue old.now.there → IsTrue old.sure → old.wild ≡ false → IsOrderly old → initial_size u ≤ old.shortest → IsKept u old new → IsImage new i →
    IsUndone u (older old i) content → IsUndone u i content
kept_undone u old new i content there sure tame orderly enough kept image undone =
    let there_i : IsTrue i.there = image.name (kept.sure sure) ∙ kept.there ∙ there in
    let long : initial_size u ≤ length i.bytes = omega (arith, image.no_shorter (kept.tame tame) there_i, kept.shortest tame enough) in
    undone_alike u (older old i) i content long (λ place w none. elim (cases_Bool (old.unsynced place)) [
      | inl mark ↦ let like = like_later old i place (omega (arith, w, enough)) mark (omega (arith, w, long)) in (like.byte, like.mark)
      | inr mark ↦
          let safe : IsSafe old place = record { tame = tame; below = omega (arith, w, enough); synced = mark } in
          let like = like_old old i place safe.below mark (omega (arith, w, enough, orderly.no_shorter)) in
          let now = image.kept there_i place (kept.safe place w none safe) in
          let was = kept.each place w none in
          (like.byte ∙ sym (now.0 ∙ was.0), like.mark ∙ sym (now.1 ∙ was.1))
    ]) undone

-- what is known of two files before a playback
pub record IsHotPair (exists : List ℕ → Bool) (u : Undo) (j d : FileState) : Type 0 where
  pub settled : IsSettled j
  pub orderly_j : IsOrderly j
  pub there_j : IsTrue j.now.there
  pub is_hot : hot exists j.now.bytes ≡ Undoes u
  pub there : IsTrue d.now.there
  pub sure : IsTrue d.sure
  pub tame : d.wild ≡ false
  pub orderly : IsOrderly d

still_hot : NowIsImage → (exists : List ℕ → Bool) (reserve : ℕ) (u : Undo) (js ds dn : FileState) (j d : Found) → IsHotPair exists u js ds → initial_size u ≤ ds.shortest → IsKept (with_reserve reserve u) ds dn →
    j.bytes ≡ js.now.bytes → IsImage dn d → HasStood exists reserve js ds j d
still_hot law exists reserve u js ds dn j d p enough kept same id = record {
  older_j = js.now;
  older_d = older ds d;
  is_journal = law js p.orderly_j;
  is_db = older_image ds d p.there p.orderly;
  same = λ content.
      let Q : Hot → Type 0 = λ h. Shows reserve h (older ds d) content → Shows reserve h d content in
      let R : List ℕ → Type 0 = λ b. Shows reserve (hot exists js.now.bytes) (older ds d) content → Shows reserve (hot exists b) d content in
      let played : Q (Undoes u) = kept_undone (with_reserve reserve u) ds dn d content p.there p.sure p.tame p.orderly enough kept id in
      let shown : Q (hot exists js.now.bytes) = subst Q (sym p.is_hot) played in
      subst R (sym same) shown;
}

pub play_exit_by : NowIsImage → OnlyImage → OlderImages → PlayExit
play_exit_by law only older_law exists reserve u js jn ds dn settled orderly_j there_j is_hot there sure tame orderly enough stays kept j d ij id =
    still_hot law exists reserve u js ds dn j d (record { settled = settled; orderly_j = orderly_j; there_j = there_j; is_hot = is_hot; there = there; sure = sure; tame = tame; orderly = orderly }) enough kept
    (settled_bytes only older_law js jn j settled there_j stays ij) id

-- a hot journal begins as one
opened : (bytes : List ℕ) → slice_get bytes 0 ≡ Some 217 → with_first 217 bytes ≡ bytes
opened [] h = absurd (search (rules, h))
opened (b ∷ bytes) h = let e : 217 ≡ b = cc in ap (λ x. x ∷ bytes) e

hot_opened : ClosedIsCold → (exists : List ℕ → Bool) (bytes : List ℕ) (u : Undo) → hot exists bytes ≡ Undoes u → with_first 217 bytes ≡ bytes
hot_opened law exists bytes u is_hot = elim (byte_or (slice_get bytes 0)) [
  | inl first ↦ opened bytes first
  | inr other ↦ let e : Cold ≡ Undoes u = sym (law exists bytes other) ∙ is_hot in absurd cc
]

-- a file as found that is the one with an undo done, and any other way to say that
pub undone_once : (u : Undo) (file a b d : Found) → IsUndone u file a → IsUndone u file b → SameFound a d → SameContent d b
undone_once u file a b d h k same =
    let size : length d.bytes ≡ initial_size u = same.size ∙ h.bytes.cut in
    record {
      size = k.bytes.cut ∙ sym size;
      each = λ place w.
          let within : place < initial_size u = omega (arith, w, size) in
          let found = same.each place (omega (arith, within, h.bytes.cut)) in
          (k.bytes.each place within ∙ sym (h.bytes.each place within) ∙ sym found.0, k.bad place within ∙ sym (h.bad place within) ∙ sym found.1);
    }

-- along a playback that was done, and the closing of the gate
pub record IsClosing (reserve : ℕ) (u : Undo) (js j1 jn ds d1 dn : FileState) : Type 0 where
  pub stays : NoLooser js j1
  pub kept : IsKept (with_reserve reserve u) ds d1
  pub undone : IsUndone (with_reserve reserve u) ds.now d1.now
  pub settled : IsSettled d1
  pub but : HasButFirst j1.now.bytes jn
  pub stays_d : NoLooser d1 dn

reopened : ClosedIsCold → (exists : List ℕ → Bool) (reserve : ℕ) (u : Undo) (js j1 jn ds d1 dn : FileState) (bytes : List ℕ) → hot exists js.now.bytes ≡ Undoes u → IsClosing reserve u js j1 jn ds d1 dn →
    bytes ≡ with_first 217 j1.now.bytes → bytes ≡ js.now.bytes
reopened law exists reserve u js j1 jn ds d1 dn bytes is_hot p e = e ∙ ap (λ f. with_first 217 f.bytes) p.stays.now ∙ hot_opened law exists js.now.bytes u is_hot

pub closed_stood : ClosedIsCold → NowIsImage → OnlyImage → OlderImages → (exists : List ℕ → Bool) (reserve : ℕ) (u : Undo) (js j1 jn ds d1 dn : FileState) → IsHotPair exists u js ds → initial_size u ≤ ds.shortest →
    IsClosing reserve u js j1 jn ds d1 dn → AllHaveStood exists reserve js ds jn dn
closed_stood cold law only older_law exists reserve u js j1 jn ds d1 dn p enough q j d ij id = elim (first_image j1.now.bytes jn j q.but ij) [
  | inl e ↦ still_hot law exists reserve u js ds dn j d p enough (kept_kept (with_reserve reserve u) ds d1 dn q.kept (stays_kept (with_reserve reserve u) d1 dn q.stays_d))
      (reopened cold exists reserve u js j1 jn ds d1 dn j.bytes p.is_hot q e) id
  | inr shut ↦ record {
    older_j = js.now;
    older_d = ds.now;
    is_journal = law js p.orderly_j;
    is_db = law ds p.orderly;
    same = λ content.
        let Q : Hot → Type 0 = λ h. Shows reserve h ds.now content → StandsFor exists reserve j d content in
        let played : Q (Undoes u) = λ before. cold_by cold exists reserve j d content shut
        (undone_once (with_reserve reserve u) ds.now d1.now content d q.undone before (settled_found only older_law d1 dn d q.settled (q.kept.there ∙ p.there) q.stays_d id)) in
        subst Q (sym p.is_hot) played;
  }
]

-- what was kept of a settled file that the undo leaves as it is
first_again : (u : Undo) (first old : FileState) → IsKept u first old → IsUndone u first.now first.now → initial_size u ≤ length old.now.bytes → IsUndone u old.now first.now
first_again u first old kept same long = undone_alike u first.now old.now first.now long (λ place w none. let e = kept.each place w none in (sym e.0, sym e.1)) same

pub closed_first : ClosedIsCold → OnlyImage → OlderImages → KeptImage → (exists : List ℕ → Bool) (reserve : ℕ) (u : Undo) (first js j1 jn ds d1 dn : FileState) → hot exists js.now.bytes ≡ Undoes u → IsTrue ds.now.there →
    IsSettled first → IsTrue first.now.there → IsKept (with_reserve reserve u) first ds → IsUndone (with_reserve reserve u) first.now first.now → IsClosing reserve u js j1 jn ds d1 dn → AllStandFor exists reserve jn dn first.now
closed_first cold only older_law image exists reserve u first js j1 jn ds d1 dn is_hot there settled there_f kept same q =
    let v = with_reserve reserve u in
    let all = kept_kept v first ds dn kept (kept_kept v ds d1 dn q.kept (stays_kept v d1 dn q.stays_d)) in
    either_same exists reserve jn dn first.now (gate_by cold exists reserve jn dn j1.now.bytes first.now first.now q.but
    (λ d id.
    let P : List ℕ → Type 0 = λ b. Shows reserve (hot exists b) d first.now in
    let Q : Hot → Type 0 = λ h. Shows reserve h d first.now in
    subst P (sym (reopened cold exists reserve u js j1 jn ds d1 dn (with_first 217 j1.now.bytes) is_hot q refl)) (subst Q (sym is_hot) (image v first dn d first.now settled there_f all same id)))
    (λ d id. undone_once v ds.now d1.now first.now d q.undone (first_again v first ds kept same q.undone.bytes.long)
    (settled_found only older_law d1 dn d q.settled (q.kept.there ∙ there) q.stays_d id)))

pub open_first : OnlyImage → OlderImages → KeptImage → (exists : List ℕ → Bool) (reserve : ℕ) (u : Undo) (first js jn ds dn : FileState) → IsSettled js → IsTrue js.now.there → hot exists js.now.bytes ≡ Undoes u → IsSettled first →
    IsTrue first.now.there → IsKept (with_reserve reserve u) first ds → IsUndone (with_reserve reserve u) first.now first.now → NoLooser js jn → IsKept (with_reserve reserve u) ds dn → AllStandFor exists reserve jn dn first.now
open_first only older_law image exists reserve u first js jn ds dn settled_j there_j is_hot settled there_f kept same stays kept_d j d ij id =
    let v = with_reserve reserve u in
    let P : List ℕ → Type 0 = λ b. Shows reserve (hot exists b) d first.now in
    let Q : Hot → Type 0 = λ h. Shows reserve h d first.now in
    subst P (sym (settled_bytes only older_law js jn j settled_j there_j stays ij)) (subst Q (sym is_hot) (image v first dn d first.now settled there_f (kept_kept v first ds dn kept kept_d) same id))

-- a hot journal is no short one
pub hot_long : ShortIsCold → (exists : List ℕ → Bool) (bytes : List ℕ) (u : Undo) → hot exists bytes ≡ Undoes u → 28 ≤ length bytes
hot_long law exists bytes u is_hot = elim (cases_lt (length bytes) 28) [
  | inl short ↦ let e : Cold ≡ Undoes u = sym (law exists bytes short) ∙ is_hot in absurd cc
  | inr long ↦ long
]

pub there_of : (s : FileState) → IsOrderly s → 1 ≤ length s.now.bytes → IsTrue s.now.there
there_of s orderly some = elim (cases_Bool s.now.there) [
  | inl there ↦ there
  | inr missing ↦ absurd (omega (arith, some, ap length (orderly.missing missing)))
]

pub settled_looser : (s t : FileState) → IsSettled s → NoLooser s t → IsSettled t
settled_looser s t h k = record { tame = k.tame h.tame; sure = k.sure h.sure; content = looser_content s t h.tame h.content k }
