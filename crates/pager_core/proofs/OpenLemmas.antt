-- What an opening leaves, and why it is refused.
use Rattle.std.proofs.Common.{arith, rules, ◌≡◌, ◌≢◌, ℕ, ◌-◌, ◌+◌, ◌≤◌, ◌<◌, Bool, true, false, List, [], ◌∷◌, length, drop, take, slice_get, IsTrue, Option, Result, Ok, Err, inl, inr, refl, sym, ◌∙◌, ap, subst, length-take}
use Rattle.std.specs.Bool.{then_some}
use Rattle.std.proofs.lemmas.Bool.{lt-ltb, cases_lt}
use Rattle.std.proofs.lemmas.List.{get_or-replicate}
use Rattle.vfs_model.specs.File.{FileState}
use Rattle.vfs_model.specs.Effect.{NoLooser, Opened, Closed}
use Rattle.vfs_model.specs.Laws.{LooserTwice}
use Rattle.vfs_model.specs.Places.{same_places, get-take}
use Rattle.vfs_model.specs.Lock.{IsOwner, level_at, rank, all_free}
use Rattle.vfs_model.specs.declared.level.Level.{Level}
use Rattle.vfs_model.specs.declared.level.Level.TheVariants.{Free}
use Rattle.vfs_trait.specs.State.{StackState, Steady, Stands, LevelsStay}
use Rattle.vfs_trait.specs.Calls.{Reads, FilesLeft, Takes}
use Rattle.vfs_trait.specs.declared.fault.OpenFault.{OpenFault}
use Rattle.vfs_trait.specs.declared.fault.OpenFault.TheVariants.{Failed, Memory, BadPage, Header as BadHeader, ForeignJournal, NeedsOther}
use Rattle.db_format.specs.Header.{header_of, is_no_database, refusals, first_of, ok_unless, fields_of, HeaderInFront}
use Rattle.db_format.specs.declared.header.HeaderFault.{HeaderFault}
use Rattle.db_format.specs.declared.header.HeaderFault.TheVariants.{NotADatabase}
use Rattle.page_draft.specs.declared.draft.PageDraft.{PageDraft}
use Rattle.pager_core.specs.Locks.{HasOneWriter}
use Rattle.pager_core.specs.Open.{checksum_page, sizes_of, sizes_in, HaveSizes, MeetsBad, BeginsAs, HeaderGives, StaysOrEmpty, LeavesOpened, FileCaused, OpenCaused, NoJournal}
use Rattle.pager_core.specs.declared.open.OpenRule.{OpenRule}
use Rattle.pager_core.specs.declared.pager.Pager.{Pager}
use Rattle.pager_core.proofs.StackLemmas.{steady_twice, told_next}

-- the file

pub opened_then : LooserTwice → (a b c : FileState) → Opened a b → NoLooser b c → Opened a c
opened_then twice a b c h k = record {
  touched = record {
    found = λ there tame. twice a b c (h.touched.found there tame) k;
    made = λ missing. ap (λ f. f.bytes) k.now ∙ h.touched.made missing;
    tame = λ tame. k.tame (h.touched.tame tame);
    longest = λ tame. omega (arith, h.touched.longest tame, (k.stop (h.touched.tame tame)).reach_is);
  };
  there = ap (λ f. f.there) k.now ∙ h.there;
}

pub opened_closed : LooserTwice → (a b c : FileState) → Opened a b → Closed b c → StaysOrEmpty a c
opened_closed twice a b c h k = record {
  found = λ there tame. twice a b c (h.touched.found there tame) (k.tame (h.touched.tame tame));
  made = λ missing tame. ap (λ f. f.bytes) (k.tame (h.touched.tame tame)).now ∙ h.touched.made missing;
  tame = λ tame. (k.tame (h.touched.tame tame)).tame (h.touched.tame tame);
  longest = λ tame. omega (arith, h.touched.longest tame, ((k.tame (h.touched.tame tame)).stop (h.touched.tame tame)).reach_is);
}

stays_later : LooserTwice → (a b c : FileState) → NoLooser a b → StaysOrEmpty b c → StaysOrEmpty a c
stays_later twice a b c h k = record {
  found = λ there tame. twice a b c h (k.found (ap (λ f. f.there) h.now ∙ there) (h.tame tame));
  made = λ missing tame. k.made (ap (λ f. f.there) h.now ∙ missing) (h.tame tame);
  tame = λ tame. k.tame (h.tame tame);
  longest = λ tame. omega (arith, (h.stop tame).reach_is, k.longest (h.tame tame));
}

opened_later : LooserTwice → (a b c : FileState) → NoLooser a b → Opened b c → Opened a c
opened_later twice a b c h k = record {
  touched = record {
    found = λ there tame. twice a b c h (k.touched.found (ap (λ f. f.there) h.now ∙ there) (h.tame tame));
    made = λ missing. k.touched.made (ap (λ f. f.there) h.now ∙ missing);
    tame = λ tame. k.touched.tame (h.tame tame);
    longest = λ tame. omega (arith, (h.stop tame).reach_is, k.touched.longest (h.tame tame));
  };
  there = k.there;
}

pub left_later : LooserTwice → (a b c : FileState) (result : Result Pager OpenFault) → NoLooser a b → LeavesOpened result b c → LeavesOpened result a c
left_later twice a b c (Ok pager) h k = opened_later twice a b c h k
left_later twice a b c (Err fault) h k = stays_later twice a b c h k

-- the header

not_db : (bytes : List ℕ) (len : ℕ) (ck : Option ℕ) → len < 100 → header_of bytes len ck ≡ Err NotADatabase
unfolding is_no_database
not_db bytes len ck short =
    let e : is_no_database bytes len ≡ true = grind (arith, lt-ltb len 100 short) in
    ap (λ b. ok_unless (first_of (then_some b NotADatabase ∷ drop 1 (refusals bytes len ck))) (fields_of bytes len)) e

first_100 : (file buf : List ℕ) (count : ℕ) → length buf ≡ 100 → 100 ≤ length file → Reads file 0 buf count → buf ≡ take 100 file
first_100 file buf count size long reads =
    let taken : length (take 100 file) ≡ 100 = grind (arith, length-take 100 file, long) in
    same_places buf (take 100 file) (size ∙ sym taken) (λ i within.
    let short : i < 100 = omega (arith, within, taken) in
    let e : 0 + i ≡ i = omega arith in
    reads.bytes i (omega (arith, short, reads.counted, size, long)) ∙ ap (slice_get file) e ∙ sym (get-take file 100 i short))

header_read : HeaderInFront → (file buf : List ℕ) (count : ℕ) (ck : Option ℕ) → length buf ≡ 100 → Reads file 0 buf count → header_of buf (length file) ck ≡ header_of file (length file) ck
header_read front file buf count ck size reads = elim (cases_lt (length file) 100) [
  | inl short ↦ not_db buf (length file) ck short ∙ sym (not_db file (length file) ck short)
  | inr long ↦ ap (λ b. header_of b (length file) ck) (first_100 file buf count size long reads) ∙ front file (length file) ck
]

some_sizes : (rule : OpenRule) (file : List ℕ) → 1 ≤ length file → sizes_in rule file ≡ sizes_of (header_of file (length file) (checksum_page rule))
some_sizes rule [] some = absurd (omega (arith, some))
some_sizes rule (b ∷ bytes) some = refl

pub sizes_read : HeaderInFront → (rule : OpenRule) (file buf : List ℕ) (count len : ℕ) → length buf ≡ 100 → len ≡ length file → 1 ≤ len → Reads file 0 buf count →
    sizes_of (header_of buf len (checksum_page rule)) ≡ sizes_in rule file
sizes_read front rule file buf count len size is some reads =
    ap (λ n. sizes_of (header_of buf n (checksum_page rule))) is ∙ ap sizes_of (header_read front file buf count (checksum_page rule) size reads)
    ∙ sym (some_sizes rule file (omega (arith, some, is)))

pub begins : (a d : StackState) (name : List ℕ) (rule : OpenRule) (sizes : Result (ℕ × ℕ) HeaderFault) (result : Result PageDraft OpenFault) →
    (IsTrue a.tells → sizes ≡ sizes_in rule (a.files name).now.bytes) → HeaderGives sizes result → BeginsAs a d name rule result
begins a d name rule sizes (Ok pages) same h = λ told. subst (HaveSizes pages) (same told) h
begins a d name rule sizes (Err Failed) same h = absurd h
begins a d name rule sizes (Err Memory) same h = absurd h
begins a d name rule sizes (Err (BadPage page kept found)) same h = absurd h
begins a d name rule sizes (Err (BadHeader fault)) same h = λ told. sym (same told) ∙ h
begins a d name rule sizes (Err ForeignJournal) same h = absurd h
begins a d name rule sizes (Err (NeedsOther other)) same h = absurd h

-- why

not_empty : (rule : OpenRule) (file : List ℕ) (fault : HeaderFault) → sizes_in rule file ≡ Err fault → file ≢ []
not_empty rule file fault is none = let e : sizes_in rule [] ≡ Err fault = ap (sizes_in rule) (sym none) ∙ is in grind (rules, e)

was_there : (a b : FileState) → Opened a b → b.now.bytes ≢ [] → IsTrue a.now.there
was_there a b h some = cases a.now.there refl where
  cases : (there : Bool) → a.now.there ≡ there → IsTrue a.now.there
  cases true e = e
  cases false e = absurd (some (h.touched.made e))

meets_before : (a b : StackState) (name : List ℕ) (page kept found : ℕ) → Steady a b → (IsTrue a.tells → (a.files name).wild ≡ false → ((b.files name).now ≡ (a.files name).now) × ((b.files name).wild ≡ false)) →
    MeetsBad b name page kept found → MeetsBad a name page kept found
meets_before a b name page kept found s same m = record {
  at = m.at;
  steady = steady_twice a b m.at s m.steady;
  stands = m.stands;
  same = λ told tame.
      let was = same told tame in
      let is = m.same (told_next a b s told) was.1 in
      (is.0 ∙ was.0, is.1);
  meets = m.meets;
}

pub file_refused : (a b d e : StackState) (name : List ℕ) (rule : OpenRule) (fault : OpenFault) → Steady a b → Steady d e → (IsTrue a.tells → Opened (a.files name) (b.files name)) →
    BeginsAs b d name rule (Err fault) → FileCaused a e name rule (Err fault)
file_refused a b d e name rule Failed s t opened h = omega (arith, s.faults, t.faults, h)
file_refused a b d e name rule Memory s t opened h = tt
file_refused a b d e name rule (BadPage page kept found) s t opened h = meets_before a b name page kept found s same h.0 where
  same : IsTrue a.tells → (a.files name).wild ≡ false → ((b.files name).now ≡ (a.files name).now) × ((b.files name).wild ≡ false)
  same told tame =
      let there = was_there (a.files name) (b.files name) (opened told) (h.1 (told_next a b s told)) in
      let stays : NoLooser (a.files name) (b.files name) = (opened told).touched.found there tame in
      (stays.now, stays.tame tame)
file_refused a b d e name rule (BadHeader fault) s t opened h = λ told tame.
    let is = h (told_next a b s told) in
    let there = was_there (a.files name) (b.files name) (opened told) (not_empty rule (b.files name).now.bytes fault is) in
    let stays : NoLooser (a.files name) (b.files name) = (opened told).touched.found there tame in
    ap (λ f. sizes_in rule f.bytes) (sym stays.now) ∙ is
file_refused a b d e name rule ForeignJournal s t opened h = absurd h
file_refused a b d e name rule (NeedsOther other) s t opened h = absurd h

pub open_caused : (a b e : StackState) (name : List ℕ) (rule : OpenRule) (result : Result Pager OpenFault) → Steady a b → FilesLeft a b → NoJournal a name → FileCaused b e name rule result →
    OpenCaused a e name rule result
open_caused a b e name rule (Ok pager) s files none h = (none, λ told. h (told_next a b s told))
open_caused a b e name rule (Err Failed) s files none h = omega (arith, s.faults, h)
open_caused a b e name rule (Err Memory) s files none h = tt
open_caused a b e name rule (Err (BadPage page kept found)) s files none h =
    (none, meets_before a b name page kept found s (λ told tame. (((files told).each name).now, ((files told).each name).tame tame)) h)
open_caused a b e name rule (Err (BadHeader fault)) s files none h =
    (none, λ told tame. ap (λ f. sizes_in rule f.bytes) (sym ((files told).each name).now) ∙ h (told_next a b s told) (((files told).each name).tame tame))
open_caused a b e name rule (Err ForeignJournal) s files none h = absurd h
open_caused a b e name rule (Err (NeedsOther other)) s files none h = absurd h

-- locks on a file that was just opened

free_rank : (who : ℕ) → IsOwner who → rank (level_at all_free who) ≡ 0
free_rank who is = ap rank (get_or-replicate 8 (who - 1) Free Free (omega (arith, is.0, is.1)))

pub one_of_none : (levels : List Level) → levels ≡ all_free → HasOneWriter levels
one_of_none levels free = record {
  one = λ a b is_a is_b a_writes b_writes. absurd (omega (arith, a_writes, ap (λ l. rank (level_at l a)) free, free_rank a is_a));
}

pub taken_free : (a e : StackState) (name : List ℕ) (fid : ℕ) → Stands a → Takes a e name fid → LevelsStay a e → e.levels fid ≡ all_free
taken_free a e name fid stands takes levels = levels.each fid ∙ stands.free.each fid takes.unused
