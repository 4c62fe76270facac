-- Pages of a playback, written one after the other.
use Rattle.std.proofs.Common.{arith, ◌≡◌, ℕ, ◌+◌, ◌-◌, ◌*◌, ◌%◌, ◌≤◌, Bool, false, List, ◌∷◌, length, take, drop, replicate, IsTrue, Option, Some, None, Result, Ok, Err, sym, ◌∙◌, ap, subst}
use Rattle.std.proofs.Math.Nat.{mul-add-mod_self_right}
use Rattle.std.proofs.Math.Seq.{drop-append_seam}
use Rattle.std.proofs.lemmas.List.{length-take}
use Rattle.vfs_model.specs.File.{FileState}
use Rattle.vfs_model.specs.Effect.{Wrote, WriteFailed, Cut, CutFailed}
use Rattle.vfs_model.specs.Store.{OthersStay}
use Rattle.vfs_model.specs.Laws.{LooserTwice}
use Rattle.vfs_model.specs.declared.name.Kind.{Kind}
use Rattle.vfs_model.specs.declared.name.Kind.TheVariants.{Main}
use Rattle.vfs_model.specs.declared.layer.Layer.{Layer}
use Rattle.vfs_trait.specs.State.{StackState, IsOpen, Steady, OpenStays, Rests, RestsBut, Stands, file_at, name_at}
use Rattle.vfs_trait.specs.Calls.{Leaves, CutLeaves, SyncLeaves, MayWrite, MayCutTo}
use Rattle.vfs_trait.specs.declared.fault.VfsFault.{VfsFault}
use Rattle.journal_format.specs.Undo.{Paged, Undo, start, HasPage, ArePages}
use Rattle.journal_format.specs.Laws.{PagesCover}
use Rattle.journal_format.specs.Values.{all_paged, undo_of}
use Rattle.journal_format.specs.declared.pages.NumberedPage.{NumberedPage}
use Rattle.journal_format.specs.declared.read.Play.{Play}
use Rattle.journal_format.specs.Reading.{IsPlayable}
use Rattle.journal_file.specs.Tame.{IsSturdy, Reserves}
use Rattle.journal_file.specs.Content.{initial_size, cleared, with_reserve}
use Rattle.journal_file.specs.Steps.{IsKept, HasLaid, WithinLeaves}
use Rattle.journal_file.proofs.StackLemmas.{steady_twice, name_stays, open_stays, rests_twice, rests_but, rests_same, steady_same, others_same, others_twice, left_at, told_next}
use Rattle.journal_file.proofs.PlaceLemmas.{length_cleared, pages_cleared, within_end, size_large, IsAmong, page_kept, cut_kept, done_kept, stays_kept, kept_kept, same_kept, HasCome, begun, next_page}
use Rattle.journal_file.proofs.JournalLemmas.{cut_or_failed}

-- what a checksum layer asks

mul_mod : (n p : ℕ) → 1 ≤ p → (n * p) % p ≡ 0
mul_mod n p h =
    let e : n * p + 0 ≡ n * p = omega arith in
    ap (λ x. x % p) (sym e) ∙ mul-add-mod_self_right n p 0 ∙ omega (arith, h)

cleared_end : (reserve : ℕ) (bytes : List ℕ) → reserve ≤ length bytes → drop (length bytes - reserve) (cleared reserve bytes) ≡ replicate reserve 0
cleared_end reserve bytes h =
    let front = take (length bytes - reserve) bytes in
    let size : length front ≡ length bytes - reserve = length-take (length bytes - reserve) bytes ∙ omega (arith, h) in
    ap (λ n. drop n (cleared reserve bytes)) (sym size) ∙ drop-append_seam front (replicate reserve 0)

write_whole : (o : Option (ℕ × List Layer)) (page reserve number : ℕ) (bytes : List ℕ) → Reserves o page reserve → 512 ≤ page → length bytes ≡ page → MayWrite Main o (number * page) (cleared reserve bytes)
write_whole None page reserve number bytes h large whole = tt
write_whole (Some layer) page reserve number bytes h large whole =
    let fits : reserve ≤ length bytes = omega (arith, h.1, large, whole) in
    let P : ℕ → Type 0 = λ n. drop (n - 8) (cleared reserve bytes) ≡ replicate 8 0 in
    let Q : ℕ → Type 0 = λ n. drop (length bytes - n) (cleared reserve bytes) ≡ replicate n 0 in
    record {
      one = length_cleared reserve bytes fits ∙ whole ∙ h.0;
      at = ap (λ p. (number * page) % p) (sym h.0) ∙ mul_mod number page (omega (arith, large));
      zeros = subst P (whole ∙ h.0) (subst Q h.1 (cleared_end reserve bytes fits));
    }

pub may_write : (k : Kind) (o : Option (ℕ × List Layer)) (page reserve number off : ℕ) (bytes written : List ℕ) → k ≡ Main → Reserves o page reserve → 512 ≤ page → length bytes ≡ page → off ≡ number * page →
    written ≡ cleared reserve bytes → MayWrite k o off written
may_write k o page reserve number off bytes written is h large whole at same =
    let P : Kind → Type 0 = λ k. MayWrite k o off written in
    let Q : ℕ → Type 0 = λ n. MayWrite Main o n written in
    let R : List ℕ → Type 0 = λ b. MayWrite Main o (number * page) b in
    subst P (sym is) (subst Q (sym at) (subst R (sym same) (write_whole o page reserve number bytes h large whole)))

cut_whole : (o : Option (ℕ × List Layer)) (page reserve number : ℕ) → Reserves o page reserve → 512 ≤ page → MayCutTo Main o (number * page)
cut_whole None page reserve number h large = tt
cut_whole (Some layer) page reserve number h large = ap (λ p. (number * page) % p) (sym h.0) ∙ mul_mod number page (omega (arith, large))

pub may_cut : (k : Kind) (o : Option (ℕ × List Layer)) (page reserve number len : ℕ) → k ≡ Main → Reserves o page reserve → 512 ≤ page → len ≡ number * page → MayCutTo k o len
may_cut k o page reserve number len is h large at =
    let P : Kind → Type 0 = λ k. MayCutTo k o len in
    let Q : ℕ → Type 0 = λ n. MayCutTo Main o n in
    subst P (sym is) (subst Q (sym at) (cut_whole o page reserve number h large))

pub reserve_fits : (o : Option (ℕ × List Layer)) (page reserve : ℕ) → Reserves o page reserve → reserve ≤ 8
reserve_fits None page reserve h = omega (arith, h)
reserve_fits (Some layer) page reserve h = omega (arith, h.1)

-- a file that is not delicate stays so

pub not_delicate : (a b : StackState) (fid : ℕ) → OpenStays a b → a.delicate (name_at a fid) ≡ false → b.delicate (name_at b fid) ≡ false
not_delicate a b fid opens h = opens.delicate (name_at b fid) ∙ ap a.delicate (name_stays a b fid opens) ∙ h

-- what a playback has left, whatever was answered
pub record Gone (u : Undo) (a b : StackState) (fid size : ℕ) : Type 0 where
  pub steady : Steady a b
  pub rests : RestsBut a b fid
  pub kept : IsTrue a.tells → (file_at b fid).wild ≡ false → IsKept u (file_at a fid) (file_at b fid)
  pub tame : IsTrue a.tells → IsSturdy a (name_at a fid) size → (file_at b fid).wild ≡ false
  pub others : IsTrue a.tells → OthersStay a.layers a.files b.files (name_at a fid)
  pub stands : Stands b

-- and with these pages left to write
pub record Played (u : Undo) (rest : List Paged) (a b : StackState) (fid size : ℕ) : Type 0 where
  pub gone : Gone u a b fid size
  pub come : IsTrue a.tells → HasCome u rest (file_at a fid) (file_at b fid)

pub none_yet : (u : Undo) (a : StackState) (fid size : ℕ) → Stands a → Played u u.originals a a fid size
none_yet u a fid size stands = record {
  gone = record { steady = steady_same a; rests = rests_same a fid; kept = λ told tame. same_kept u (file_at a fid); tame = λ told sturdy. sturdy.tame; others = λ told. others_same a (name_at a fid); stands = stands };
  come = λ told. begun u (file_at a fid);
}

within_failed : (d : Bool) (old new : FileState) (off : ℕ) (bits : List ℕ) (r : Result Unit VfsFault) → WithinLeaves d old new off bits r → WriteFailed d old new off (length bits)
within_failed d old new off bits (Ok x) h = h.touched
within_failed d old new off bits (Err e) h = h

-- a page of the undo, as it is written
pub record IsPage (u : Undo) (number : ℕ) (bits : List ℕ) : Type 0 where
  pub pages : ArePages u.page u.originals
  pub has : HasPage u.originals number
  pub whole : length bits ≡ u.page
  pub within : start u.page number + u.page ≤ initial_size u

pub page_gone : LooserTwice → PagesCover → (u : Undo) (number : ℕ) (bits : List ℕ) (rest : List Paged) (a b d : StackState) (fid size : ℕ) (r : Result Unit VfsFault) → Played u rest a b fid size → Steady b d → RestsBut b d fid →
    Leaves b d (name_at b fid) (λ old new. WithinLeaves (b.delicate (name_at b fid)) old new (start u.page number) bits r) → Stands d → IsPage u number bits →
    (IsTrue a.tells → initial_size u ≤ length (file_at a fid).now.bytes) → Gone u a d fid size
page_gone twice cover u number bits rest a b d fid size r p s o h stands page long = record {
  steady = steady_twice a b d p.gone.steady s;
  rests = rests_twice a b d fid p.gone.steady p.gone.rests o;
  kept = λ told tame. kept_kept u (file_at a fid) (file_at b fid) (file_at d fid) (p.gone.kept told ((wrote told).was_tame tame))
      (page_kept cover u number _ (file_at b fid) (file_at d fid) page.pages page.has (wrote told) (enough told) (λ was. tame));
  tame = λ told sturdy. (wrote told).tame (p.gone.tame told sturdy) (not_delicate a b fid p.gone.rests.opens sturdy.sturdy) (omega (arith, page.within, enough told));
  others = λ told. others_twice twice a b d fid p.gone.steady p.gone.rests.opens (p.gone.others told) (h.others (told_next a b p.gone.steady told));
  stands = stands;
} where
  enough : IsTrue a.tells → initial_size u ≤ length (file_at b fid).now.bytes
  enough told = omega (arith, long told, (p.come told).size)

  wrote : IsTrue a.tells → WriteFailed (b.delicate (name_at b fid)) (file_at b fid) (file_at d fid) (start u.page number) u.page
  wrote told =
      let P : ℕ → Type 0 = λ n. WriteFailed (b.delicate (name_at b fid)) (file_at b fid) (file_at d fid) (start u.page number) n in
      subst P page.whole (within_failed _ _ _ (start u.page number) bits r
      (left_at b d fid (λ old new. WithinLeaves (b.delicate (name_at b fid)) old new (start u.page number) bits r) o.opens h (told_next a b p.gone.steady told)))

pub page_played : LooserTwice → PagesCover → (u : Undo) (number : ℕ) (bits : List ℕ) (rest : List Paged) (a b d : StackState) (fid size : ℕ) (x : Unit) → Played u ((number, bits) ∷ rest) a b fid size → Steady b d → RestsBut b d fid →
    Leaves b d (name_at b fid) (λ old new. WithinLeaves (b.delicate (name_at b fid)) old new (start u.page number) bits (Ok x)) → Stands d → IsPage u number bits →
    (IsTrue a.tells → initial_size u ≤ length (file_at a fid).now.bytes) → Played u rest a d fid size
page_played twice cover u number bits rest a b d fid size x p s o h stands page long = record {
  gone = page_gone twice cover u number bits ((number, bits) ∷ rest) a b d fid size (Ok x) p s o h stands page long;
  come = λ told. next_page u (number, bits) rest (b.delicate (name_at b fid)) (file_at a fid) (file_at b fid) (file_at d fid) (p.come told) page.whole
      (left_at b d fid (λ old new. Wrote (b.delicate (name_at b fid)) old new (start u.page number) bits) o.opens h (told_next a b p.gone.steady told))
      (omega (arith, page.within, long told));
}

pub is_page : (play : Play) (reserve : ℕ) (p : NumberedPage) → reserve ≤ 8 → IsPlayable play → IsAmong play.page play.initial reserve (all_paged play.records) p → IsPage (with_reserve reserve (undo_of play)) p.number (cleared reserve p.bytes)
is_page play reserve p few playable m =
    let large = size_large play.page playable.page_is_size in
    record {
      pages = pages_cleared play.page reserve (all_paged play.records) (omega (arith, few, large)) playable.pages;
      has = m.has;
      whole = length_cleared reserve p.bytes (omega (arith, few, large, m.whole)) ∙ m.whole;
      within = within_end play.initial play.page p.number m.one m.within;
    }

-- the cut and the sync behind them

pub cut_gone : LooserTwice → (u : Undo) (a b d : StackState) (fid size len : ℕ) (r : Result Unit VfsFault) → Gone u a b fid size → (IsTrue a.tells → length (file_at b fid).now.bytes ≡ length (file_at a fid).now.bytes) →
    Steady b d → RestsBut b d fid → Leaves b d (name_at b fid) (λ old new. CutLeaves old new len r) → Stands d → len ≡ size → size ≡ initial_size u → Gone u a d fid size
cut_gone twice u a b d fid size len r p same s o h stands is whole = record {
  steady = steady_twice a b d p.steady s;
  rests = rests_twice a b d fid p.steady p.rests o;
  kept = λ told tame. kept_kept u (file_at a fid) (file_at b fid) (file_at d fid) (p.kept told ((was_cut told).was_tame tame))
      (cut_kept u (file_at b fid) (file_at d fid) len (is ∙ whole) (was_cut told) (λ was. tame));
  tame = λ told sturdy. (was_cut told).tame (p.tame told sturdy) (omega (arith, same told, is, sturdy.whole));
  others = λ told. others_twice twice a b d fid p.steady p.rests.opens (p.others told) (h.others (told_next a b p.steady told));
  stands = stands;
} where
  was_cut : IsTrue a.tells → CutFailed (file_at b fid) (file_at d fid) len
  was_cut told = cut_or_failed _ _ len r (left_at b d fid (λ old new. CutLeaves old new len r) o.opens h (told_next a b p.steady told))

sync_tame : (old new : FileState) (r : Result Unit VfsFault) → SyncLeaves old new r → old.wild ≡ false → new.wild ≡ false
sync_tame old new (Ok x) t was = t.tame was
sync_tame old new (Err e) t was = t.tame was

-- a file with all pages that was cut
pub record WasCut (u : Undo) (first laid now : FileState) (len : ℕ) : Type 0 where
  pub long : initial_size u ≤ length first.now.bytes
  pub has : HasLaid u first laid
  pub was_cut : Cut laid now len
  pub is : len ≡ initial_size u

sync_done : (u : Undo) (first laid now next : FileState) (len : ℕ) (r : Result Unit VfsFault) → WasCut u first laid now len → (now.wild ≡ false → IsKept u first now) → SyncLeaves now next r → next.wild ≡ false → IsKept u first next
sync_done u first laid now next len (Ok x) p kept t tame = done_kept u first laid now next len p.long p.has p.was_cut p.is t tame
sync_done u first laid now next len (Err e) p kept t tame = kept_kept u first now next (kept (t.was_tame tame)) (stays_kept u now next t)

pub sync_gone : LooserTwice → (u : Undo) (a l b d : StackState) (fid size len : ℕ) (r : Result Unit VfsFault) → Gone u a b fid size → IsOpen a fid → (IsTrue a.tells → WasCut u (file_at a fid) (file_at l fid) (file_at b fid) len) →
    Steady b d → Rests b d → Leaves b d (name_at b fid) (λ old new. SyncLeaves old new r) → Stands d → Gone u a d fid size
sync_gone twice u a l b d fid size len r p is_open done s o h stands = record {
  steady = steady_twice a b d p.steady s;
  rests = rests_twice a b d fid p.steady p.rests (rests_but b d fid (open_stays a b fid p.rests.opens is_open) o);
  kept = λ told tame. sync_done u (file_at a fid) (file_at l fid) (file_at b fid) (file_at d fid) len r (done told) (p.kept told) (synced told) tame;
  tame = λ told sturdy. sync_tame (file_at b fid) (file_at d fid) r (synced told) (p.tame told sturdy);
  others = λ told. others_twice twice a b d fid p.steady p.rests.opens (p.others told) (h.others (told_next a b p.steady told));
  stands = stands;
} where
  synced : IsTrue a.tells → SyncLeaves (file_at b fid) (file_at d fid) r
  synced told = left_at b d fid (λ old new. SyncLeaves old new r) o.opens h (told_next a b p.steady told)
