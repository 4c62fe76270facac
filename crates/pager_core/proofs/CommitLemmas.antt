-- Bytes of a file as a commit writes them, page after page, and what its steps keep of the stack.
use Rattle.std.proofs.Common.{false, ◌≡◌, ℕ, ◌+◌, ◌-◌, ◌*◌, ◌/◌, ◌<◌, ◌≤◌, ◌∙◌, min, Bool, List, [], length, take, drop, slice_get, IsTrue, unwrap_or, Result, Ok, Err, OnOk, inl, inr, sym, ap, subst, arith, length-drop}
use Rattle.std.proofs.Math.Nat.{mul-le-mul_right, mul-div_cancel}
use Rattle.std.proofs.lemmas.Bool.{cases_eq}
use Rattle.std.proofs.lemmas.List.{length-take}
use Rattle.vfs_model.specs.Places.{get-take, get-drop, same_places}
use Rattle.vfs_model.specs.File.{FileState}
use Rattle.vfs_model.specs.Effect.{NoLooser, Wrote, Cut}
use Rattle.vfs_trait.specs.State.{StackState, Steady, OpenStays, file_at, name_at}
use Rattle.vfs_trait.specs.Calls.{Leaves, FilesLeft, SyncLeaves}
use Rattle.vfs_trait.specs.declared.fault.VfsFault.{VfsFault}
use Rattle.vfs_model.specs.Store.{OthersStay}
use Rattle.vfs_model.specs.Laws.{LooserTwice}
use Rattle.vfs_model.specs.declared.layer.Layer.{Layer}
use Rattle.page_list.specs.Pages.{Pages, HasPage, IsGood}
use Rattle.pager_core.specs.File.{page_in}
use Rattle.pager_core.specs.declared.fault.PagerFault.{PagerFault}
use Rattle.pager_core.specs.declared.fault.PagerFault.TheVariants.{Failed, Memory, MemoryAfter, Busy, Worn, Bad}
use Rattle.page_list.specs.Edits.{with_page}
use Rattle.pager_core.specs.Commit.{KeepsBut, HasLaid, HasLaidPage, HasWritten, IsFileOf, IsSynced, OthersLeft, CommitFiles, StepFails, IsNextFirst, IsCommitted}

-- ---- the file of an open number

pub name_stays : (a b : StackState) (fid : ℕ) → OpenStays a b → name_at b fid ≡ name_at a fid
name_stays a b fid h = ap (λ o. unwrap_or o []) (h.names fid)

pub left_at : (a b : StackState) (fid : ℕ) (left : FileState → FileState → Type 0) → OpenStays a b → Leaves a b (name_at a fid) left → IsTrue a.tells → left (file_at a fid) (file_at b fid)
left_at a b fid left opens h told = let P : List ℕ → Type 0 = λ n. left (file_at a fid) (b.files n) in subst P (sym (name_stays a b fid opens)) (h.file told)

-- a file that a call leaves is as it was
pub file_stays : (a b : StackState) (fid : ℕ) → OpenStays a b → FilesLeft a b → IsTrue a.tells → (file_at b fid).now ≡ (file_at a fid).now
file_stays a b fid h left told = ap (λ name. (b.files name).now) (name_stays a b fid h) ∙ ((left told).each (name_at a fid)).now

-- ---- answers

pub always : {T E P : Type 0} (r : Result T E) → P → OnOk r P
always (Ok x) p = p
always (Err e) p = tt

pub then : {T E P Q : Type 0} (r : Result T E) → OnOk r P → (P → Q) → OnOk r Q
then (Ok x) p f = f p
then (Err e) p f = tt

-- ---- the files of other names

pub others_after_files : LooserTwice → (a b c : StackState) (fid : ℕ) → Steady a b → OpenStays a b → FilesLeft a b → OthersLeft b c fid → OthersLeft a c fid
others_after_files twice a b c fid steady opens left others told =
    let P : List ℕ → Type 0 = λ name. OthersStay b.layers b.files c.files name in
    let Q : List Layer → Type 0 = λ layers. OthersStay layers b.files c.files (name_at a fid) in
    let later : OthersStay a.layers b.files c.files (name_at a fid) = subst Q steady.layers (subst P (name_stays a b fid opens) (others (steady.tells ∙ told))) in
    record { each = λ other apart. twice (a.files other) (b.files other) (c.files other) ((left told).each other) (later.each other apart) }

pub files_after_others : LooserTwice → (a b c : StackState) (fid : ℕ) → Steady a b → OthersLeft a b fid → FilesLeft b c → OthersLeft a c fid
files_after_others twice a b c fid steady others left told =
    record { each = λ other apart. twice (a.files other) (b.files other) (c.files other) ((others told).each other apart) ((left (steady.tells ∙ told)).each other) }

pub keeps_twice : LooserTwice → (a b c : StackState) (fid : ℕ) → KeepsBut a b fid → KeepsBut b c fid → KeepsBut a c fid
keeps_twice twice a b c fid h k = record {
  steady = record { tells = k.steady.tells ∙ h.steady.tells; layers = k.steady.layers ∙ h.steady.layers; faults = omega (arith, h.steady.faults, k.steady.faults) };
  levels = record { each = λ f. k.levels.each f ∙ h.levels.each f };
  opens = record { names = λ f. k.opens.names f ∙ h.opens.names f; delicate = λ name. k.opens.delicate name ∙ h.opens.delicate name };
  others = λ told.
      let P : List ℕ → Type 0 = λ name. OthersStay b.layers b.files c.files name in
      let Q : List Layer → Type 0 = λ layers. OthersStay layers b.files c.files (name_at a fid) in
      let later : OthersStay a.layers b.files c.files (name_at a fid) = subst Q h.steady.layers (subst P (name_stays a b fid h.opens) (k.others (h.steady.tells ∙ told))) in
      record { each = λ other apart. twice (a.files other) (b.files other) (c.files other) ((h.others told).each other apart) (later.each other apart) };
}

-- ---- parts of lists

length_part : (len off : ℕ) (xs : List ℕ) → off + len ≤ length xs → length (take len (drop off xs)) ≡ len
length_part len off xs within = length-take len (drop off xs) ∙ ap (min len) (length-drop off xs) ∙ omega (arith, within)

part_at : (len off : ℕ) (xs : List ℕ) (i : ℕ) → i < len → slice_get (take len (drop off xs)) i ≡ slice_get xs (off + i)
part_at len off xs i less = get-take (drop off xs) len i less ∙ get-drop xs off i

part_same : (len off : ℕ) (old new : List ℕ) → off + len ≤ length old → off + len ≤ length new → ((place : ℕ) → off ≤ place → place < off + len → slice_get new place ≡ slice_get old place)
    → take len (drop off new) ≡ take len (drop off old)
part_same len off old new before after same = same_places (take len (drop off new)) (take len (drop off old)) (length_part len off new after ∙ sym (length_part len off old before)) each where
  each : (i : ℕ) → i < length (take len (drop off old)) → slice_get (take len (drop off new)) i ≡ slice_get (take len (drop off old)) i
  each i within =
      let less : i < len = subst (λ n. i < n) (length_part len off old before) within in
      part_at len off new i less ∙ same (off + i) (omega arith) (omega (arith, less)) ∙ sym (part_at len off old i less)

times_next : (size number : ℕ) → 1 ≤ number → number * size ≡ (number - 1) * size + size
times_next size number least = ap (λ n. n * size) (one_more number least) ∙ next (number - 1) where
  one_more : (number : ℕ) → 1 ≤ number → number ≡ (number - 1) + 1
  one_more number least = omega (arith, least)

  next : (k : ℕ) → (k + 1) * size ≡ k * size + size
  next k = grind arith

-- ---- calls

pub written : (d : Bool) (old new : FileState) (at : ℕ) (bytes : List ℕ) → at ≤ length old.now.bytes → Wrote d old new at bytes → HasWritten at bytes old.now.bytes new.now.bytes
written d old new at bytes reach h =
    let long : at + length bytes ≤ length new.now.bytes = omega (arith, h.size) in
    record {
      no_shorter = h.touched.no_shorter;
      long = long;
      inside = same_places (take (length bytes) (drop at new.now.bytes)) bytes (length_part (length bytes) at new.now.bytes long) (λ i within. part_at (length bytes) at new.now.bytes i within ∙ h.inside i within);
      before = λ place less. (h.touched.beside place (omega (arith, less, reach)) (inl less)).0;
    }

pub cut_bytes : (old new : FileState) (len : ℕ) → len ≤ length old.now.bytes → Cut old new len → new.now.bytes ≡ take len old.now.bytes
cut_bytes old new len reach h = same_places new.now.bytes (take len old.now.bytes) (h.size ∙ sym size) each where
  size : length (take len old.now.bytes) ≡ len
  size = length-take len old.now.bytes ∙ omega (arith, reach)

  each : (i : ℕ) → i < length (take len old.now.bytes) → slice_get new.now.bytes i ≡ slice_get (take len old.now.bytes) i
  each i within =
      let less : i < len = subst (λ n. i < n) size within in
      h.touched.bytes i (omega (arith, less, h.size)) ∙ sym (get-take old.now.bytes len i less)

-- ---- pages

pub laid_page : (size number at : ℕ) (pages : Pages) (page old new : List ℕ) → 1 ≤ number → at ≡ (number - 1) * size → length page ≡ size → page ≡ pages.bytes number → at ≤ length old
    → HasWritten at page old new → HasLaidPage size number pages old new
laid_page size number at pages page old new least at_is long is reach h = record {
  no_shorter = h.no_shorter;
  long = omega (arith, times_next size number least, h.long, at_is, long);
  page = λ good. sym is ∙ sym h.inside ∙ ap (λ n. take n (drop at new)) long ∙ ap (λ k. take size (drop k new)) at_is;
  before = λ n one less.
      let within : n * size ≤ (number - 1) * size = mul-le-mul_right size (omega (arith, less)) in
      let next = times_next size n one in
      part_same size ((n - 1) * size) old new (omega (arith, within, next, at_is, reach)) (omega (arith, within, next, at_is, reach, h.no_shorter)) (λ place from to. h.before place (omega (arith, to, within, next, at_is)));
}

pub none_laid : (size : ℕ) (pages : Pages) (old : List ℕ) → HasLaid size 0 pages old old
none_laid size pages old = record { no_shorter = omega arith; long = omega arith; each = λ n has within good. absurd (omega (arith, has.least, within)) }

pub laid_next : (size count : ℕ) (pages : Pages) (a b c : List ℕ) → HasLaid size count pages a b → HasLaidPage size (count + 1) pages b c → HasLaid size (count + 1) pages a c
laid_next size count pages a b c h next = record {
  no_shorter = omega (arith, h.no_shorter, next.no_shorter);
  long = next.long;
  each = λ n has within good. elim (cases_eq n (count + 1)) [
    | inl same ↦ subst (λ k. pages.bytes k ≡ page_in size c k) (sym same) (next.page (subst (λ k. IsGood pages k) same good))
    | inr differs ↦ h.each n has (omega (arith, within, differs)) good ∙ sym (next.before n has.least (omega (arith, within, differs)))
  ];
}

-- the file that is cut behind the last page shows them all
pub whole_file : (size : ℕ) (pages : Pages) (a b c : List ℕ) → 1 ≤ size → HasLaid size pages.size pages a b → c ≡ take (pages.size * size) b → IsFileOf size c pages
whole_file size pages a b c some h is = record { long = long; shows = record { sized = sym (ap (λ n. n / size) long ∙ mul-div_cancel pages.size some); each = each } } where
  cut : length (take (pages.size * size) b) ≡ pages.size * size
  cut = length-take (pages.size * size) b ∙ omega (arith, h.long)

  long : length c ≡ pages.size * size
  long = ap length is ∙ cut

  each : (n : ℕ) → HasPage pages n → IsGood pages n → pages.bytes n ≡ page_in size c n
  each n has good =
      let within : n * size ≤ pages.size * size = mul-le-mul_right size has.most in
      let next = times_next size n has.least in
      h.each n has has.most good
      ∙ sym (part_same size ((n - 1) * size) b (take (pages.size * size) b) (omega (arith, within, next, h.long)) (omega (arith, within, next, cut)) (λ place from to. get-take b (pages.size * size) place (omega (arith, to, within, next))))
      ∙ ap (λ xs. page_in size xs n) (sym is)

-- ---- so many pages of a file, and what was kept of the stack

pub record HasLaidSoFar (size count : ℕ) (pages : Pages) (a b : StackState) (fid : ℕ) : Type 0 where
  pub keeps : KeepsBut a b fid
  pub laid : IsTrue a.tells → HasLaid size count pages (file_at a fid).now.bytes (file_at b fid).now.bytes

-- ---- the whole

pub failed_files : (a b c : StackState) (fid : ℕ) (fault : PagerFault) → StepFails b c fault → OthersLeft a c fid → CommitFiles a c fid (Err fault)
failed_files a b c fid Failed fails others = others
failed_files a b c fid Memory fails others = absurd fails
failed_files a b c fid MemoryAfter fails others = others
failed_files a b c fid Busy fails others = absurd fails
failed_files a b c fid Worn fails others = absurd fails
failed_files a b c fid (Bad page kept found) fails others = absurd fails

pub committed : (size : ℕ) (old new : Pages) (first : List ℕ) → IsNextFirst size old first → new ≡ with_page 1 first old → IsCommitted size old new
committed size old new first next is =
    let first_is : new.bytes 1 ≡ first = ap (λ pages. pages.bytes 1) is in
    record { first = subst (IsNextFirst size old) (sym first_is) next; pages = is ∙ ap (λ bytes. with_page 1 bytes old) (sym first_is) }

pub same_file : (size : ℕ) (bytes bytes' : List ℕ) (pages pages' : Pages) → bytes' ≡ bytes → pages' ≡ pages → IsFileOf size bytes pages → IsFileOf size bytes' pages'
same_file size bytes bytes' pages pages' is are h = subst (λ xs. IsFileOf size xs pages') (sym is) (subst (IsFileOf size bytes) (sym are) h)

-- ---- what a stop leaves

pub synced_after : (mid new : FileState) (told : Type 0) (r : Result Unit VfsFault) → (told → SyncLeaves mid new r) → OnOk r (told → IsSynced new)
synced_after mid new told (Ok x) h = λ t. (h t).content
synced_after mid new told (Err e) h = tt

pub still_synced : (old new : FileState) → NoLooser old new → IsSynced old → IsSynced new
still_synced old new h synced tame =
    let was : old.wild ≡ false = h.was_tame tame in
    let content = synced was in
    let stop = h.stop was in
    let same : length new.now.bytes ≡ length old.now.bytes = ap (λ found. length found.bytes) h.now in
    record {
      shortest = omega (arith, same, content.shortest, stop.floor_is);
      longest = omega (arith, same, content.longest, stop.reach_is);
      synced = λ place within.
          let inside : place < length old.now.bytes = omega (arith, same, within) in
          (stop.kept place tt (record { tame = was; below = omega (arith, inside, content.shortest); synced = content.synced place inside })).synced;
    }

-- a call that leaves the files leaves that
pub synced_stays : (a b : StackState) (fid : ℕ) → OpenStays a b → FilesLeft a b → IsTrue a.tells → IsSynced (file_at a fid) → IsSynced (file_at b fid)
synced_stays a b fid opens left told synced =
    let P : List ℕ → Type 0 = λ name. IsSynced (b.files name) in
    subst P (sym (name_stays a b fid opens)) (still_synced (file_at a fid) (b.files (name_at a fid)) ((left told).each (name_at a fid)) synced)
