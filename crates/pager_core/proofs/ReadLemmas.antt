-- Pages that are read from a file.
use Rattle.std.proofs.Common.{arith, rules, ◌≡◌, ◌≢◌, ◌⊎◌, ℕ, ◌+◌, ◌-◌, ◌*◌, ◌/◌, ◌≤◌, ◌<◌, Bool, true, false, List, [], length, take, drop, slice_get, unwrap_or, IsTrue, Option, Some, None, Result, Ok, Err, inl, inr, refl, sym, ◌∙◌, ap, subst, length-take, length-drop}
use Rattle.std.specs.Prelude.{nat_eq, slice_index, OnOk, IfErr}
use Rattle.std.proofs.Math.Nat.{div-mul-le_self}
use Rattle.std.proofs.lemmas.Bool.{cases_eq, cases_lt, ne_eqb}
use Rattle.std.proofs.lemmas.Option.{unwrap_or-slice_get, slice_get_past}
use Rattle.byte_base.specs.Numbers.{number_at}
use Rattle.vfs_model.specs.Effect.{NoLooser}
use Rattle.vfs_model.specs.Laws.{LooserTwice}
use Rattle.vfs_model.specs.Places.{same_places, get-take, get-drop}
use Rattle.vfs_trait.specs.State.{StackState, IsOpen, Steady, OpenStays, Stands, name_at, file_at}
use Rattle.vfs_trait.specs.Calls.{Leaves, FilesLeft, Reads, FillsUp, ReadCaused}
use Rattle.vfs_trait.specs.declared.fault.VfsFault.{VfsFault}
use Rattle.vfs_trait.specs.declared.fault.VfsFault.TheVariants.{Failed, Memory, BadPage, Busy, Full}
use Rattle.page_list.specs.Pages.{Pages, HasPage}
use Rattle.page_draft.specs.Slots.{Shown, good}
use Rattle.page_draft.specs.Draft.{read_pages, with_last, IsClean, KeepsSizes}
use Rattle.page_draft.specs.declared.draft.PageDraft.{PageDraft}
use Rattle.pager_core.specs.File.{page_in, Shows}
use Rattle.pager_core.specs.Read.{LooksAt, ReadMeets, AreGood, IsMarked, IsPageOf, ArePagesOf, ReadFrom, ReadCause, FirstMeets, first_fault, IsAnew, IsCurrent, SameDatabase, Refreshes, BeginsRead, BeginCause}
use Rattle.pager_core.specs.Open.{IsUnread}
use Rattle.pager_core.specs.Leave.{counter_of}
use Rattle.pager_core.specs.declared.pager.Pager.{Pager}
use Rattle.pager_core.specs.declared.fault.PagerFault.{PagerFault}
use Rattle.pager_core.specs.declared.fault.PagerFault.TheVariants as pager
use Rattle.pager_core.proofs.StackLemmas.{steady_twice, told_next, name_stays, opens_twice, leaves_then}

-- looking at a file

pub looks_twice : LooserTwice → (a b c : StackState) (fid : ℕ) → LooksAt a b fid → LooksAt b c fid → LooksAt a c fid
looks_twice twice a b c fid h k = record {
  steady = steady_twice a b c h.steady k.steady;
  levels = record { each = λ f. k.levels.each f ∙ h.levels.each f };
  opens = opens_twice a b c h.opens k.opens;
  leaves =
      let left : Leaves b c (name_at a fid) NoLooser = subst (λ n. Leaves b c n NoLooser) (name_stays a b fid h.opens) k.leaves in
      leaves_then twice a b c (name_at a fid) NoLooser NoLooser NoLooser (twice (a.files (name_at a fid)) (b.files (name_at a fid)) (c.files (name_at a fid))) h.steady h.leaves left;
}

looser_same : (a : StackState) (name : List ℕ) → NoLooser (a.files name) (a.files name)
looser_same a name = record { now = refl; tame = λ h. h; was_tame = λ h. h; sure = λ h. h; stop = λ h. record { kept = λ place at k. k; floor_is = omega arith; reach_is = omega arith } }

looks_same : (a : StackState) (fid : ℕ) → LooksAt a a fid
looks_same a fid = record {
  steady = record { tells = refl; layers = refl; faults = omega arith };
  levels = record { each = λ f. refl };
  opens = record { names = λ f. refl; delicate = λ name. refl };
  leaves = record { file = λ told. looser_same a (name_at a fid); others = λ told. record { each = λ other apart. looser_same a other } };
}

pub still_open : (a b : StackState) (fid : ℕ) → OpenStays a b → IsOpen a fid → IsOpen b fid
still_open a b fid h is = subst Rattle.std.proofs.Common.IsSome (sym (h.names fid)) is

-- what was read later was read of the file as it was before

meets_earlier : (a b : StackState) (name : List ℕ) (off len kept found : ℕ) → Steady a b → (IsTrue a.tells → (b.files name).now ≡ (a.files name).now) → ReadMeets b name off len kept found → ReadMeets a name off len kept found
meets_earlier a b name off len kept found s same m = record {
  at = m.at;
  page = m.page;
  steady = steady_twice a b m.at s m.steady;
  stands = m.stands;
  same = λ told. m.same (told_next a b s told) ∙ same told;
  meets = m.meets;
}

good_earlier : (a b : StackState) (name : List ℕ) (off len : ℕ) → Steady a b → (IsTrue a.tells → (b.files name).now ≡ (a.files name).now) → AreGood b name off len → AreGood a name off len
good_earlier a b name off len s same h = record { each = λ told place from to. ap (λ f. f.bad place) (sym (same told)) ∙ h.each (told_next a b s told) place from to }

marked_earlier : (a b : StackState) (name : List ℕ) (page_size n : ℕ) (bad : Option (ℕ × ℕ)) → Steady a b → (IsTrue a.tells → (b.files name).now ≡ (a.files name).now) →
    IsMarked b name page_size n bad → IsMarked a name page_size n bad
marked_earlier a b name page_size n None s same h = good_earlier a b name ((n - 1) * page_size) page_size s same h
marked_earlier a b name page_size n (Some sums) s same h = meets_earlier a b name ((n - 1) * page_size) page_size sums.0 sums.1 s same h

page_earlier : (a b : StackState) (name : List ℕ) (page_size n : ℕ) (page : Shown) → Steady a b → (IsTrue a.tells → (b.files name).now ≡ (a.files name).now) → IsPageOf b name page_size n page → IsPageOf a name page_size n page
page_earlier a b name page_size n page s same h = record {
  bytes = λ told within is_good.
      let e : (b.files name).now.bytes ≡ (a.files name).now.bytes = ap (λ f. f.bytes) (same told) in
      h.bytes (told_next a b s told) (omega (arith, within, ap length e)) is_good ∙ ap (λ bytes. page_in page_size bytes n) e;
  mark = marked_earlier a b name page_size n page.bad s same h.mark;
}

-- one page

pub page_read : (file buf : List ℕ) (page_size n count : ℕ) → 1 ≤ n → length buf ≡ page_size → n * page_size ≤ length file → Reads file ((n - 1) * page_size) buf count → buf ≡ page_in page_size file n
page_read file buf page_size n count some size within reads =
    let off : ℕ = (n - 1) * page_size in
    let ends : off + page_size ≤ length file = grind (arith, within, some, split n page_size some) in
    let dropped : length (drop off file) ≡ length file - off = length-drop off file in
    let taken : length (take page_size (drop off file)) ≡ page_size = grind (arith, length-take page_size (drop off file), dropped, ends) in
    same_places buf (take page_size (drop off file)) (size ∙ sym taken) (λ i inside.
    let short : i < page_size = omega (arith, inside, taken) in
    reads.bytes i (omega (arith, short, reads.counted, size, ends)) ∙ sym (get-drop file off i) ∙ sym (get-take (drop off file) page_size i short)) where
      split : (n page_size : ℕ) → 1 ≤ n → (n - 1) * page_size + page_size ≡ n * page_size
      split Rattle.std.proofs.Common.zero page_size some = absurd (omega (arith, some))
      split (Rattle.std.proofs.Common.suc n) page_size some = grind arith

pub good_page : (a d : StackState) (name : List ℕ) (page_size n off len count : ℕ) (buf bytes : List ℕ) → 1 ≤ n → off ≡ (n - 1) * page_size → len ≡ page_size → length buf ≡ page_size → bytes ≡ buf →
    (IsTrue a.tells → Reads (a.files name).now.bytes off buf count) → ReadCaused a d name off len (Ok count) → IsPageOf a name page_size n (good bytes)
good_page a d name page_size n off len count buf bytes some at whole size is reads cause = record {
  bytes = λ told within is_good. is ∙ page_read (a.files name).now.bytes buf page_size n count some size within (subst (λ o. Reads (a.files name).now.bytes o buf count) at (reads told));
  mark = record { each = λ told place from to. cause told place (omega (arith, from, at)) (omega (arith, to, at, whole)) };
}

-- a read that met a bad page
pub fault_meets : (a d : StackState) (name : List ℕ) (off len : ℕ) (fault : VfsFault) (page kept found : ℕ) → fault ≡ BadPage page kept found → Stands a → ReadCaused a d name off len (Err fault) → ReadMeets a name off len kept found
fault_meets a d name off len fault page kept found is stands cause = record {
  at = a;
  page = page;
  steady = record { tells = refl; layers = refl; faults = omega arith };
  stands = stands;
  same = λ told. refl;
  meets = subst (λ f. ReadCaused a d name off len (Err f)) is cause;
}

pub bad_page : (a : StackState) (name : List ℕ) (page_size n off len kept found : ℕ) (bytes : List ℕ) → off ≡ (n - 1) * page_size → len ≡ page_size → ReadMeets a name off len kept found →
    IsPageOf a name page_size n (record { bytes = bytes; bad = Some (kept, found) })
bad_page a name page_size n off len kept found bytes at whole meets = record {
  bytes = λ told within is_good. no_sums kept found is_good;
  mark = subst (λ o. ReadMeets a name o page_size kept found) at (subst (λ l. ReadMeets a name off l kept found) whole meets);
} where
  no_sums : {X : Type 0} (kept found : ℕ) → (let sums : Option (ℕ × ℕ) = Some (kept, found) in sums ≡ None) → X
  no_sums kept found e = absurd (grind (rules, e))

-- the counter

counted_at : (file buf : List ℕ) (off count i : ℕ) → i < length buf → Reads file off buf count → FillsUp buf count → slice_index buf i ≡ slice_index (drop off file) i
counted_at file buf off count i within reads fills = elim (cases_lt i count) [
  | inl before ↦
      sym (unwrap_or-slice_get buf i 0) ∙ ap (λ o. unwrap_or o 0) (reads.bytes i before ∙ sym (get-drop file off i)) ∙ unwrap_or-slice_get (drop off file) i 0
  | inr behind ↦
      let past : length (drop off file) ≤ i = omega (arith, length-drop off file, reads.counted, behind, within) in
      sym (unwrap_or-slice_get buf i 0) ∙ ap (λ o. unwrap_or o 0) (fills.zeros i behind within ∙ refl) ∙ sym (ap (λ o. unwrap_or o 0) (slice_get_past (drop off file) i past)) ∙ unwrap_or-slice_get (drop off file) i 0
]

pub counter_read : (file buf : List ℕ) (count : ℕ) → length buf ≡ 4 → Reads file 24 buf count → FillsUp buf count → number_at 4 buf 0 ≡ number_at 4 file 24
unfolding number_at
counter_read file buf count size reads fills =
    let e0 : slice_index buf 0 ≡ slice_index (drop 24 file) 0 = counted_at file buf 24 count 0 (omega (arith, size)) reads fills in
    let e1 : slice_index buf 1 ≡ slice_index (drop 24 file) 1 = counted_at file buf 24 count 1 (omega (arith, size)) reads fills in
    let e2 : slice_index buf 2 ≡ slice_index (drop 24 file) 2 = counted_at file buf 24 count 2 (omega (arith, size)) reads fills in
    let e3 : slice_index buf 3 ≡ slice_index (drop 24 file) 3 = counted_at file buf 24 count 3 (omega (arith, size)) reads fills in
    omega (arith, e0, e1, e2, e3)

-- a cause that came later

pub cause_earlier : (T S : Type 0) (a b c : StackState) (name : List ℕ) (page_size : ℕ) (fault : PagerFault) → Steady a b → Steady b c → (IsTrue a.tells → (b.files name).now ≡ (a.files name).now) →
    ReadCause {T = T} b c name page_size (Err fault) → ReadCause {T = S} a c name page_size (Err fault)
cause_earlier T S a b c name page_size pager.Failed s t same h = omega (arith, s.faults, t.faults, h)
cause_earlier T S a b c name page_size pager.Memory s t same h = tt
cause_earlier T S a b c name page_size pager.MemoryAfter s t same h = absurd h
cause_earlier T S a b c name page_size pager.Busy s t same h = absurd h
cause_earlier T S a b c name page_size pager.Worn s t same h = absurd h
cause_earlier T S a b c name page_size (pager.Bad page kept found) s t same h = (
  h.0,
  record {
    off = h.1.off;
    len = h.1.len;
    within = h.1.within;
    meets = meets_earlier a b name h.1.off h.1.len kept found s same h.1.meets;
  },
)

-- so many pages, one after the other

pub record HaveRead (a b : StackState) (fid page_size usable count : ℕ) (pages : PageDraft) : Type 0 where
  pub looks : LooksAt a b fid
  pub stands : Stands b
  pub sized : pages.page_size ≡ page_size
  pub used : pages.usable ≡ usable
  pub clean : IsClean pages
  pub size : (read_pages pages).size ≡ count
  pub pages_are : ArePagesOf a (name_at a fid) page_size (read_pages pages)

pub none_read : (a : StackState) (fid page_size usable : ℕ) (pages : PageDraft) → Stands a → pages.page_size ≡ page_size → pages.usable ≡ usable → IsClean pages → (read_pages pages).size ≡ 0 →
    HaveRead a a fid page_size usable 0 pages
none_read a fid page_size usable pages stands sized used clean none = record {
  looks = looks_same a fid;
  stands = stands;
  sized = sized;
  used = used;
  clean = clean;
  size = none;
  pages_are = record { each = λ n has. absurd (omega (arith, has.least, has.most, none)) };
}

last_of : (a : StackState) (name : List ℕ) (page_size n : ℕ) (pages : Pages) (page : Shown) → ArePagesOf a name page_size pages → IsPageOf a name page_size (pages.size + 1) page → HasPage (with_last page pages) n →
    IsPageOf a name page_size n (record { bytes = (with_last page pages).bytes n; bad = (with_last page pages).bad n })
last_of a name page_size n pages page all last has = elim (cases_eq n (pages.size + 1)) [
  | inl same ↦
      let b : nat_eq n (pages.size + 1) ≡ true = Rattle.std.proofs.Common.eq-eqb n (pages.size + 1) same in
      let is : IsPageOf a name page_size n page = subst (λ m. IsPageOf a name page_size m page) (sym same) last in
      subst (λ t. IsPageOf a name page_size n (record { bytes = Rattle.std.proofs.Common.if◌then◌else◌ t page.bytes (pages.bytes n); bad = Rattle.std.proofs.Common.if◌then◌else◌ t page.bad (pages.bad n) })) (sym b) is
  | inr other ↦
      let b : nat_eq n (pages.size + 1) ≡ false = ne_eqb n (pages.size + 1) other in
      let is = all.each n (record { least = has.least; most = omega (arith, has.most, other) }) in
      subst (λ t. IsPageOf a name page_size n (record { bytes = Rattle.std.proofs.Common.if◌then◌else◌ t page.bytes (pages.bytes n); bad = Rattle.std.proofs.Common.if◌then◌else◌ t page.bad (pages.bad n) })) (sym b) is
]

pub one_more : LooserTwice → (a b c : StackState) (fid page_size usable count : ℕ) (pages pages' : PageDraft) (page : Shown) → HaveRead a b fid page_size usable count pages → LooksAt b c fid → Stands c →
    IsPageOf b (name_at b fid) page_size (count + 1) page → KeepsSizes pages pages' → IsClean pages' → read_pages pages' ≡ with_last page (read_pages pages) → HaveRead a c fid page_size usable (count + 1) pages'
one_more twice a b c fid page_size usable count pages pages' page h looks stands is sizes clean pushed = record {
  looks = looks_twice twice a b c fid h.looks looks;
  stands = stands;
  sized = sizes.sized ∙ h.sized;
  used = sizes.used ∙ h.used;
  clean = clean;
  size = ap (λ p. p.size) pushed ∙ ap (λ n. n + 1) h.size;
  pages_are =
      let at_b : IsPageOf b (name_at a fid) page_size (count + 1) page = subst (λ n. IsPageOf b n page_size (count + 1) page) (name_stays a b fid h.looks.opens) is in
      let at_a : IsPageOf a (name_at a fid) page_size (count + 1) page = page_earlier a b (name_at a fid) page_size (count + 1) page h.looks.steady (λ told. (h.looks.leaves.file told).now) at_b in
      let last : IsPageOf a (name_at a fid) page_size ((read_pages pages).size + 1) page = subst (λ n. IsPageOf a (name_at a fid) page_size (n + 1) page) (sym h.size) at_a in
      subst (λ p. ArePagesOf a (name_at a fid) page_size p) (sym pushed) (record { each = λ n has. last_of a (name_at a fid) page_size n (read_pages pages) page h.pages_are last has });
}

-- all pages of the file

within_file : (n count len page_size : ℕ) → count ≡ len / page_size → 1 ≤ page_size → n ≤ count → n * page_size ≤ len
within_file n count len page_size is some few = le_trans (n * page_size) (len / page_size * page_size) len (mul_le n (len / page_size) page_size (omega (arith, few, is))) (div-mul-le_self len page_size) where
  le_trans : (a b c : ℕ) → a ≤ b → b ≤ c → a ≤ c
  le_trans a b c h k = omega (arith, h, k)

  mul_le : (a b c : ℕ) → a ≤ b → a * c ≤ b * c
  mul_le a b c h = grind (arith, h)

pub read_from : (a : StackState) (name : List ℕ) (page_size : ℕ) (pages : Pages) → 1 ≤ page_size → (IsTrue a.tells → pages.size ≡ length (a.files name).now.bytes / page_size) → ArePagesOf a name page_size pages → ReadFrom a name page_size pages
read_from a name page_size pages some size all = record {
  shows = λ told. record {
    sized = size told;
    each = λ n has is_good. (all.each n has).bytes told (within_file n pages.size (length (a.files name).now.bytes) page_size (size told) some has.most) is_good;
  };
  marks = λ n has. (all.each n has).mark;
}

-- the pages that a pager has

pub name_of : (a : StackState) (p : Pager) → a.open_files p.fid.0 ≡ Some p.name → name_at a p.fid.0 ≡ p.name
name_of a p named = ap (λ o. unwrap_or o []) named

pub current : (a d : StackState) (p : Pager) (count : ℕ) (buf : List ℕ) → a.open_files p.fid.0 ≡ Some p.name → 1 ≤ (read_pages p.pages).size → length buf ≡ 4 →
    (IsTrue a.tells → Reads (file_at a p.fid.0).now.bytes 24 buf count) → FillsUp buf count → ReadCaused a d (name_at a p.fid.0) 24 4 (Ok count) → number_at 4 buf 0 ≡ counter_of (read_pages p.pages) → IsCurrent a p
current a d p count buf named some size reads fills cause same = record {
  some = some;
  counter = λ told. sym (counter_read (a.files p.name).now.bytes buf count size (subst (λ n. Reads (a.files n).now.bytes 24 buf count) (name_of a p named) (reads told)) fills) ∙ same;
  good = record { each = λ told. subst (λ n. (place : ℕ) → 24 ≤ place → place < 24 + 4 → (a.files n).now.bad place ≡ false) (name_of a p named) (cause told) };
}

pub counter_refused : (T : Type 0) (a d : StackState) (p : Pager) (fault : VfsFault) → a.open_files p.fid.0 ≡ Some p.name → 512 ≤ p.pages.page_size → Stands a →
    ReadCaused a d (name_at a p.fid.0) 24 4 (Err fault) → ReadCause {T = T} a d p.name p.pages.page_size (Err (first_fault fault))
counter_refused T a d p Failed named least stands cause = cause
counter_refused T a d p Memory named least stands cause = tt
counter_refused T a d p (BadPage page kept found) named least stands cause = (
  refl,
  record {
    off = 24;
    len = 4;
    within = omega (arith, least);
    meets = subst (λ n. ReadMeets a n 24 4 kept found) (name_of a p named) (fault_meets a d (name_at a p.fid.0) 24 4 (BadPage page kept found) page kept found refl stands cause);
  },
)
counter_refused T a d p (Busy holder level) named least stands cause = absurd cause
counter_refused T a d p (Full total limit) named least stands cause = absurd cause

-- what was read of a later stack was read of an earlier one that shows the same file

pages_earlier : (a b : StackState) (name : List ℕ) (page_size : ℕ) (pages : Pages) → Steady a b → (IsTrue a.tells → (b.files name).now ≡ (a.files name).now) → ArePagesOf b name page_size pages → ArePagesOf a name page_size pages
pages_earlier a b name page_size pages s same h = record { each = λ n has. page_earlier a b name page_size n (record { bytes = pages.bytes n; bad = pages.bad n }) s same (h.each n has) }

-- all pages of the file of a number, read after its length
pub all_read : (a b : StackState) (fid page_size count : ℕ) (pages : Pages) → LooksAt a b fid → 1 ≤ page_size → (IsTrue a.tells → count ≡ length (file_at a fid).now.bytes / page_size) → pages.size ≡ count →
    ArePagesOf b (name_at b fid) page_size pages → ReadFrom a (name_at a fid) page_size pages
all_read a b fid page_size count pages looks some size counted all =
    read_from a (name_at a fid) page_size pages some (λ told. counted ∙ size told)
    (pages_earlier a b (name_at a fid) page_size pages looks.steady (λ told. (looks.leaves.file told).now) (subst (λ n. ArePagesOf b n page_size pages) (name_stays a b fid looks.opens) all))

-- its cause, where the second of two calls is refused
pub later_cause : (T S : Type 0) (a b d : StackState) (fid page_size : ℕ) (fault : PagerFault) → LooksAt a b fid → Steady b d → ReadCause {T = T} b d (name_at b fid) page_size (Err fault) →
    ReadCause {T = S} a d (name_at a fid) page_size (Err fault)
later_cause T S a b d fid page_size fault looks s h =
    cause_earlier T S a b d (name_at a fid) page_size fault looks.steady s (λ told. (looks.leaves.file told).now)
    (subst (λ n. ReadCause {T = T} b d n page_size (Err fault)) (name_stays a b fid looks.opens) h)

-- page 1 among them is bad
marked_first : (b : StackState) (name : List ℕ) (page_size kept found : ℕ) (bad : Option (ℕ × ℕ)) (sums : Option (ℕ × ℕ)) → sums ≡ Some (kept, found) → bad ≡ sums → IsMarked b name page_size 1 bad → FirstMeets b name page_size kept found
marked_first b name page_size kept found bad sums are is mark = record {
  off = (1 - 1) * page_size;
  len = page_size;
  within = grind arith;
  meets = subst (λ o. IsMarked b name page_size 1 o) (is ∙ are) mark;
}

pub first_bad : (S : Type 0) (b d : StackState) (name : List ℕ) (page_size : ℕ) (pages : Pages) (fault : PagerFault) → ArePagesOf b name page_size pages → HasPage pages 1 →
    ((kept : ℕ) × (found : ℕ) × (fault ≡ pager.Bad 1 kept found) × (pages.bad 1 ≡ Some (kept, found))) → ReadCause {T = S} b d name page_size (Err fault)
first_bad S b d name page_size pages fault all has is =
    subst (λ f. ReadCause {T = S} b d name page_size (Err f)) (sym is.2) (refl, marked_first b name page_size is.0 is.1 (pages.bad 1) (pages.bad 1) is.3 refl (all.each 1 has).mark)

-- a pager that was read anew, over an earlier stack

anew_earlier : (a b : StackState) (p : Pager) → Steady a b → (IsTrue a.tells → (b.files p.name).now ≡ (a.files p.name).now) → IsAnew b p → IsAnew a p
anew_earlier a b p s same h = record {
  from = record {
    shows = λ told. subst (λ f. Shows p.pages.page_size f.bytes (read_pages p.pages)) (same told) (h.from.shows (told_next a b s told));
    marks = λ n has. marked_earlier a b p.name p.pages.page_size n ((read_pages p.pages).bad n) s same (h.from.marks n has);
  };
  first = h.first;
}

current_earlier : (a b : StackState) (p : Pager) → Steady a b → (IsTrue a.tells → (b.files p.name).now ≡ (a.files p.name).now) → IsCurrent b p → IsCurrent a p
current_earlier a b p s same h = record {
  some = h.some;
  counter = λ told. ap (λ f. number_at 4 f.bytes 24) (sym (same told)) ∙ h.counter (told_next a b s told);
  good = good_earlier a b p.name 24 4 s same h.good;
}

-- the pages are read after the counter was
pub refreshed : (a b : StackState) (old new : Pager) (result : Result Unit PagerFault) → LooksAt a b old.fid.0 → a.open_files old.fid.0 ≡ Some old.name → SameDatabase old new → IsClean new.pages →
    OnOk result (IsAnew b new) → IfErr result (λ _. IsUnread new.pages) → Refreshes a old new result
refreshed a b old new (Ok done) looks named same clean anew none =
    let stays : IsTrue a.tells → (b.files new.name).now ≡ (a.files new.name).now = λ told.
    subst (λ n. (b.files n).now ≡ (a.files n).now) (name_of a old named ∙ sym same.named) (looks.leaves.file told).now in
    inl (anew_earlier a b new looks.steady stays anew, clean)
refreshed a b old new (Err fault) looks named same clean anew none = none

pub refresh_cause : (a b d : StackState) (p : Pager) (result : Result Unit PagerFault) → LooksAt a b p.fid.0 → Steady b d → a.open_files p.fid.0 ≡ Some p.name → ReadCause b d p.name p.pages.page_size result →
    ReadCause a d p.name p.pages.page_size result
refresh_cause a b d p (Ok done) looks s named h = tt
refresh_cause a b d p (Err fault) looks s named h =
    cause_earlier Unit Unit a b d p.name p.pages.page_size fault looks.steady s (λ told. subst (λ n. (b.files n).now ≡ (a.files n).now) (name_of a p named) (looks.leaves.file told).now) h

-- behind the lock

pub begin_cause : (a b d : StackState) (name : List ℕ) (page_size : ℕ) (result : Result Unit PagerFault) → Steady a b → Steady b d → FilesLeft a b → ReadCause b d name page_size result → BeginCause a d name page_size result
begin_cause a b d name page_size (Ok done) s t files h = tt
begin_cause a b d name page_size (Err pager.Failed) s t files h = omega (arith, s.faults, t.faults, h)
begin_cause a b d name page_size (Err pager.Memory) s t files h = tt
begin_cause a b d name page_size (Err pager.MemoryAfter) s t files h = absurd h
begin_cause a b d name page_size (Err pager.Busy) s t files h = absurd h
begin_cause a b d name page_size (Err pager.Worn) s t files h = absurd h
begin_cause a b d name page_size (Err (pager.Bad page kept found)) s t files h =
    cause_earlier Unit Unit a b d name page_size (pager.Bad page kept found) s t (λ told. ((files told).each name).now) h

pub begun : (a b : StackState) (old new : Pager) (result : Result Unit PagerFault) → Steady a b → FilesLeft a b → BeginsRead b old new result → BeginsRead a old new result
begun a b old new (Ok done) s files (inl h) = inl (anew_earlier a b new s (λ told. ((files told).each new.name).now) h.0, h.1, h.2)
begun a b old new (Ok done) s files (inr (same, inl has)) = inr (same, inl has)
begun a b old new (Ok done) s files (inr (same, inr h)) = inr (same, inr (current_earlier a b old s (λ told. ((files told).each old.name).now) h))
begun a b old new (Err pager.Failed) s files h = h
begun a b old new (Err pager.Memory) s files h = h
begun a b old new (Err pager.MemoryAfter) s files h = h
begun a b old new (Err pager.Busy) s files h = h
begun a b old new (Err pager.Worn) s files h = h
begun a b old new (Err (pager.Bad page kept found)) s files h = h

pub begun_clean : (s : StackState) (old new : Pager) (result : Result Unit PagerFault) → BeginsRead s old new result → IsClean old.pages → IsClean new.pages
begun_clean s old new (Ok done) (inl h) clean = h.1
begun_clean s old new (Ok done) (inr h) clean = subst (λ p. IsClean p.pages) (sym h.0) clean
begun_clean s old new (Err pager.Busy) h clean = subst (λ p. IsClean p.pages) (sym h) clean
begun_clean s old new (Err pager.Failed) h clean = h.clean
begun_clean s old new (Err pager.Memory) h clean = h.clean
begun_clean s old new (Err pager.MemoryAfter) h clean = h.clean
begun_clean s old new (Err pager.Worn) h clean = h.clean
begun_clean s old new (Err (pager.Bad page kept found)) h clean = h.clean
