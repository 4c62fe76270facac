-- Pages that are laid over a file, place by place.
use Rattle.std.proofs.Common.{arith, ◌≡◌, ℕ, zero, suc, ◌+◌, ◌-◌, ◌*◌, ◌≤◌, ◌<◌, min, Bool, false, List, [], ◌∷◌, ◌++◌, length, take, drop, get_or, slice_get, replicate, IsSome, IsTrue, Option, Some, None, inl, inr, refl, sym, ◌∙◌, ap, subst, add-one, append_assoc, length-append}
use Rattle.std.proofs.Math.Nat.{mul-le-mul_right, suc-mul}
use Rattle.std.proofs.Math.Seq.{drop-cons}
use Rattle.std.proofs.lemmas.Bool.{cases_lt, false≢true}
use Rattle.std.proofs.lemmas.List.{replicate-append-replicate, length-replicate, length-take}
use Rattle.std.proofs.lemmas.Option.{slice_get-get_or}
use Rattle.vfs_model.specs.File.{FileState}
use Rattle.vfs_model.specs.Effect.{Beside, NoLooser, Wrote, WriteFailed, Cut, CutFailed, Synced}
use Rattle.journal_format.specs.Undo.{Paged, Undo, start, piece, laid, over, HasPage, ArePages, AreUpTo}
use Rattle.journal_format.specs.Values.{all_paged}
use Rattle.journal_format.specs.declared.pages.NumberedPage.{NumberedPage}
use Rattle.journal_format.specs.declared.read.Play.{Play}
use Rattle.journal_format.specs.Reading.{IsPlayable}
use Rattle.journal_format.specs.Journal.{is_size}
use Rattle.std.proofs.lemmas.Grind.{common_steps}
use Rattle.journal_format.specs.Laws.{PagesCover}
use Rattle.journal_file.specs.Content.{initial_size, cleared, all_cleared, bad_unless, IsUndone}
use Rattle.journal_file.specs.Steps.{IsKept, HasLaid}

-- so many zeros, one after the other
pub pushed : (xs ys zs : List ℕ) (k : ℕ) → ys ≡ xs ++ replicate k 0 → zs ≡ ys ++ 0 ∷ [] → zs ≡ xs ++ replicate (k + 1) 0
pushed xs ys zs k e h = h ∙ ap (λ l. l ++ 0 ∷ []) e ∙ append_assoc xs (replicate k 0) (0 ∷ []) ∙ ap (λ l. xs ++ l) (replicate-append-replicate k 1 0)

-- a page with zeros in its last bytes is as long
pub length_cleared : (reserve : ℕ) (bytes : List ℕ) → reserve ≤ length bytes → length (cleared reserve bytes) ≡ length bytes
length_cleared reserve bytes h =
    length-append (take (length bytes - reserve) bytes) (replicate reserve 0)
    ∙ ap (λ n. n + length {A = ℕ} (replicate reserve 0)) (length-take (length bytes - reserve) bytes)
    ∙ ap (λ n. min (length bytes - reserve) (length bytes) + n) (length-replicate {A = ℕ} reserve 0)
    ∙ omega (arith, h)

pub pages_cleared : (page reserve : ℕ) (rs : List Paged) → reserve ≤ page → ArePages page rs → ArePages page (all_cleared reserve rs)
pages_cleared page reserve [] fits are = tt
pages_cleared page reserve (r ∷ rs) fits are = (are.0, length_cleared reserve r.1 (omega (arith, fits, are.1)) ∙ are.1, pages_cleared page reserve rs fits are.2)

-- what is known of one of the pages
pub record IsAmong (page last reserve : ℕ) (all : List Paged) (p : NumberedPage) : Type 0 where
  pub one : 1 ≤ p.number
  pub whole : length p.bytes ≡ page
  pub within : p.number ≤ last
  pub has : HasPage (all_cleared reserve all) p.number

pub among : (page last reserve : ℕ) (pages : List NumberedPage) (i : ℕ) (p : NumberedPage) → i < length pages → p ≡ get_or pages i p → ArePages page (all_paged pages) → AreUpTo last (all_paged pages) →
    IsAmong page last reserve (all_paged pages) p
among page last reserve [] i p h is are upto = absurd (omega (arith, h))
among page last reserve (q ∷ pages) zero p h is are upto = let e : p ≡ q = is in record {
  one = rw e are.0;
  whole = rw e are.1;
  within = rw e upto.0;
  has = inl (ap (λ x. x.number) (sym e));
}
among page last reserve (q ∷ pages) (suc i) p h is are upto =
    let more = among page last reserve pages i p (omega (arith, h)) is are.2 upto.1 in
    record { one = more.one; whole = more.whole; within = more.within; has = inr more.has }

pub rest_is : (reserve : ℕ) (pages : List NumberedPage) (i : ℕ) (p : NumberedPage) → i < length pages → p ≡ get_or pages i p →
    all_cleared reserve (all_paged (drop i pages)) ≡ (p.number, cleared reserve p.bytes) ∷ all_cleared reserve (all_paged (drop (i + 1) pages))
rest_is reserve pages i p h is =
    let e : drop i pages ≡ p ∷ drop (i + 1) pages = rw (add-one, drop-cons pages i p) (ap (λ q. q ∷ drop (suc i) pages) (sym is)) in
    ap (λ ps. all_cleared reserve (all_paged ps)) e

-- a page within ends within
pub within_end : (last page number : ℕ) → 1 ≤ number → number ≤ last → start page number + page ≤ last * page
within_end last page number one h =
    let k : (number - 1) * page + page ≡ number * page = sym (suc-mul (number - 1) page) ∙ ap (λ n. n * page) (omega (arith, one)) in
    rw k (mul-le-mul_right page h)

-- a place that the pages lack lies beside each of them
pub clear : PagesCover → (page : ℕ) (rs : List Paged) (number place : ℕ) → ArePages page rs → HasPage rs number → laid page rs place ≡ None → Beside (start page number) page place
clear cover page rs number place are has none = elim (cases_lt place (start page number)) [
  | inl before ↦ inl before
  | inr low ↦ elim (cases_lt place (start page number + page)) [
    | inr after ↦ inr after
    | inl high ↦
        let Q : Option ℕ → Type 0 = λ o. IsSome o in
        let some : Q None = subst Q none (cover page rs number place are has low high) in
        absurd (false≢true some)
  ]
]

-- a write of one of the pages keeps the rest
pub page_kept : PagesCover → (u : Undo) (number : ℕ) (d : Bool) (old new : FileState) → ArePages u.page u.originals → HasPage u.originals number → WriteFailed d old new (start u.page number) u.page →
    initial_size u ≤ length old.now.bytes → (old.wild ≡ false → new.wild ≡ false) → IsKept u old new
page_kept cover u number d old new are has t enough tame = record {
  there = t.there;
  sure = t.sure;
  tame = tame;
  long = λ s. omega (arith, s, t.no_shorter);
  each = λ place w n. t.beside place (omega (arith, w, enough)) (clear cover u.page u.originals number place are has n);
  shortest = λ is s. omega (arith, s, (t.stop is (tame is)).floor_is);
  safe = λ place w n safe. (t.stop safe.tame (tame safe.tame)).kept place (clear cover u.page u.originals number place are has n) safe;
}

none_behind : (xs : List ℕ) (k : ℕ) → length xs ≤ k → slice_get xs k ≡ None
none_behind [] k h = refl
none_behind (x ∷ xs) zero h = absurd (omega (arith, h))
none_behind (x ∷ xs) (suc k) h = none_behind xs k (omega (arith, h))

pub cut_kept : (u : Undo) (old new : FileState) (len : ℕ) → len ≡ initial_size u → CutFailed old new len → (old.wild ≡ false → new.wild ≡ false) → IsKept u old new
cut_kept u old new len is t tame = record {
  there = t.there;
  sure = t.sure;
  tame = tame;
  long = λ s. omega (arith, s, is, t.no_shorter);
  each = λ place w n.
      let within : place < length old.now.bytes → place < length new.now.bytes = λ h. omega (arith, h, w, is, t.no_shorter) in
      (kept_byte place within, t.marks place (omega (arith, w, is)));
  shortest = λ is' s. omega (arith, s, is, (t.stop is' (tame is')).floor_is);
  safe = λ place w n safe. (t.stop safe.tame (tame safe.tame)).kept place (omega (arith, w, is)) safe;
} where
  kept_byte : (place : ℕ) → (place < length old.now.bytes → place < length new.now.bytes) → slice_get new.now.bytes place ≡ slice_get old.now.bytes place
  kept_byte place h = elim (cases_lt place (length new.now.bytes)) [
    | inl inside ↦ t.bytes place inside
    | inr out ↦ elim (cases_lt place (length old.now.bytes)) [
      | inl inside ↦ absurd (omega (arith, out, h inside))
      | inr out' ↦ none_behind new.now.bytes place out ∙ sym (none_behind old.now.bytes place out')
    ]
  ]

pub stays_kept : (u : Undo) (old new : FileState) → NoLooser old new → IsKept u old new
stays_kept u old new t = record {
  there = ap (λ f. f.there) t.now;
  sure = t.sure;
  tame = t.tame;
  long = λ s. omega (arith, s, ap (λ f. length f.bytes) t.now);
  each = λ place w n. (ap (λ f. slice_get f.bytes place) t.now, ap (λ f. f.bad place) t.now);
  shortest = λ is s. omega (arith, s, (t.stop is).floor_is);
  safe = λ place w n safe. (t.stop safe.tame).kept place tt safe;
}

pub kept_kept : (u : Undo) (a b c : FileState) → IsKept u a b → IsKept u b c → IsKept u a c
kept_kept u a b c h k = record {
  there = k.there ∙ h.there;
  sure = λ s. k.sure (h.sure s);
  tame = λ s. k.tame (h.tame s);
  long = λ s. k.long (h.long s);
  each = λ place w n. ((k.each place w n).0 ∙ (h.each place w n).0, (k.each place w n).1 ∙ (h.each place w n).1);
  shortest = λ is s. k.shortest (h.tame is) (h.shortest is s);
  safe = λ place w n s. k.safe place w n (h.safe place w n s);
}

pub same_kept : (u : Undo) (s : FileState) → IsKept u s s
same_kept u s = record { there = refl; sure = λ h. h; tame = λ h. h; long = λ h. h; each = λ place w n. (refl, refl); shortest = λ is h. h; safe = λ place w n h. h }

-- these pages are left of all: laid over the file as it is now they give what all give over the file as it was
pub record HasCome (u : Undo) (rest : List Paged) (first now : FileState) : Type 0 where
  pub there : now.now.there ≡ first.now.there
  pub sure : IsTrue first.sure → IsTrue now.sure
  pub size : length now.now.bytes ≡ length first.now.bytes
  pub each : (place : ℕ) → place < length first.now.bytes → over (laid u.page rest place) (slice_get now.now.bytes place) ≡ over (laid u.page u.originals place) (slice_get first.now.bytes place)
  pub bad : (place : ℕ) → place < length first.now.bytes → bad_unless (laid u.page rest place) (now.now.bad place) ≡ bad_unless (laid u.page u.originals place) (first.now.bad place)

pub begun : (u : Undo) (s : FileState) → HasCome u u.originals s s
begun u s = record { there = refl; sure = λ h. h; size = refl; each = λ place w. refl; bad = λ place w. refl }

pub all_laid : (u : Undo) (first now : FileState) → HasCome u [] first now → HasLaid u first now
all_laid u first now h = record { there = h.there; sure = h.sure; size = h.size; each = h.each; bad = h.bad }

over_over : (a b c : Option ℕ) → over (over a b) c ≡ over a (over b c)
over_over (Some x) b c = refl
over_over None b c = refl

bad_over : (a b : Option ℕ) (m : Bool) → bad_unless (over a b) m ≡ bad_unless a (bad_unless b m)
bad_over (Some x) b m = refl
bad_over None b m = refl

over_there : (bits : List ℕ) (k : ℕ) (below : Option ℕ) → k < length bits → over (slice_get bits k) below ≡ slice_get bits k
over_there bits k below h = let e = slice_get-get_or bits k 0 h in rw e refl

bad_there : (bits : List ℕ) (k : ℕ) (m : Bool) → k < length bits → bad_unless (slice_get bits k) m ≡ false
bad_there bits k m h = let e = slice_get-get_or bits k 0 h in rw e refl

piece_in : (page : ℕ) (r : Paged) (place : ℕ) → start page r.0 ≤ place → place < start page r.0 + page → piece page r place ≡ slice_get r.1 (place - start page r.0)
piece_in page r place low high = grind (arith, low, high)

pub piece_out : (page : ℕ) (r : Paged) (place : ℕ) → Beside (start page r.0) page place → piece page r place ≡ None
piece_out page r place (inl low) = grind (arith, low)
piece_out page r place (inr high) = grind (arith, high)

-- what one page that was written gives at a place
pub record HasOne (page : ℕ) (r : Paged) (old new : FileState) (place : ℕ) : Type 0 where
  pub byte : slice_get new.now.bytes place ≡ over (piece page r place) (slice_get old.now.bytes place)
  pub mark : new.now.bad place ≡ bad_unless (piece page r place) (old.now.bad place)

pub wrote_one : (page : ℕ) (r : Paged) (d : Bool) (old new : FileState) (place : ℕ) → length r.1 ≡ page → Wrote d old new (start page r.0) r.1 → place < length old.now.bytes → HasOne page r old new place
wrote_one page r d old new place size t within = elim (cases_lt place (start page r.0)) [
  | inl low ↦ beside (inl low)
  | inr low ↦ elim (cases_lt place (start page r.0 + page)) [
    | inr high ↦ beside (inr high)
    | inl high ↦
        let k : ℕ = place - start page r.0 in
        let at : start page r.0 + k ≡ place = omega (arith, low) in
        let less : k < length r.1 = omega (arith, low, high, size) in
        let e = piece_in page r place low high in
        record {
          byte = ap (slice_get new.now.bytes) (sym at) ∙ t.inside k less ∙ sym (over_there r.1 k (slice_get old.now.bytes place) less) ∙ sym (ap (λ o. over o (slice_get old.now.bytes place)) e);
          mark = ap new.now.bad (sym at) ∙ t.good k less ∙ sym (bad_there r.1 k (old.now.bad place) less) ∙ sym (ap (λ o. bad_unless o (old.now.bad place)) e);
        }
  ]
] where
  beside : Beside (start page r.0) page place → HasOne page r old new place
  beside h =
      let h' : Beside (start page r.0) (length r.1) place = subst (λ n. Beside (start page r.0) n place) (sym size) h in
      let stays = t.touched.beside place within h' in
      let e = piece_out page r place h in
      record {
        byte = stays.0 ∙ sym (ap (λ o. over o (slice_get old.now.bytes place)) e);
        mark = stays.1 ∙ sym (ap (λ o. bad_unless o (old.now.bad place)) e);
      }

pub next_page : (u : Undo) (r : Paged) (rest : List Paged) (d : Bool) (first now next : FileState) → HasCome u (r ∷ rest) first now → length r.1 ≡ u.page → Wrote d now next (start u.page r.0) r.1 →
    start u.page r.0 + u.page ≤ length first.now.bytes → HasCome u rest first next
next_page u r rest d first now next h size t room =
    let one = λ (place : ℕ) (w : place < length first.now.bytes). wrote_one u.page r d now next place size t (omega (arith, w, h.size)) in
    record {
      there = t.touched.there ∙ h.there;
      sure = λ s. t.touched.sure (h.sure s);
      size = omega (arith, t.size, size, room, h.size);
      each = λ place w. ap (over (laid u.page rest place)) (one place w).byte ∙ sym (over_over (laid u.page rest place) (piece u.page r place) (slice_get now.now.bytes place)) ∙ h.each place w;
      bad = λ place w. ap (bad_unless (laid u.page rest place)) (one place w).mark ∙ sym (bad_over (laid u.page rest place) (piece u.page r place) (now.now.bad place)) ∙ h.bad place w;
    }

-- a file with all pages, cut and synced
pub undone_now : (u : Undo) (s0 s1 s2 s3 : FileState) (len : ℕ) → initial_size u ≤ length s0.now.bytes → HasLaid u s0 s1 → Cut s1 s2 len → len ≡ initial_size u → s3.now ≡ s2.now → IsUndone u s0.now s3.now
undone_now u s0 s1 s2 s3 len enough t was_cut is now = record {
  bytes = record {
    long = enough;
    cut = ap (λ f. length f.bytes) now ∙ was_cut.size ∙ is;
    each = λ place w. ap (λ f. slice_get f.bytes place) now ∙ was_cut.touched.bytes place (omega (arith, w, was_cut.size, is)) ∙ t.each place (omega (arith, w, enough));
  };
  bad = λ place w. ap (λ f. f.bad place) now ∙ was_cut.touched.marks place (omega (arith, w, is)) ∙ t.bad place (omega (arith, w, enough));
}

-- if it is not wild then, what the undo does not have was kept of it, also where it was wild in between
pub done_kept : (u : Undo) (s0 s1 s2 s3 : FileState) (len : ℕ) → initial_size u ≤ length s0.now.bytes → HasLaid u s0 s1 → Cut s1 s2 len → len ≡ initial_size u → Synced s2 s3 → s3.wild ≡ false → IsKept u s0 s3
done_kept u s0 s1 s2 s3 len enough t was_cut is synced tame =
    let undone = undone_now u s0 s1 s2 s3 len enough t was_cut is synced.now in
    let content = synced.content tame in
    record {
      there = ap (λ f. f.there) synced.now ∙ was_cut.touched.there ∙ t.there;
      sure = λ s. synced.sure (was_cut.touched.sure (t.sure s));
      tame = λ was. tame;
      long = λ s. omega (arith, undone.bytes.cut);
      each = λ place w none.
          (undone.bytes.each place w ∙ ap (λ o. over o (slice_get s0.now.bytes place)) none, undone.bad place w ∙ ap (λ o. bad_unless o (s0.now.bad place)) none);
      shortest = λ was s. omega (arith, undone.bytes.cut, content.shortest);
      safe = λ place w none safe. record { tame = tame; below = omega (arith, w, undone.bytes.cut, content.shortest); synced = content.synced place (omega (arith, w, undone.bytes.cut)) };
    }

drop_past : {X : Type 0} (xs : List X) (i : ℕ) → length xs ≤ i → drop i xs ≡ []
drop_past [] zero h = refl
drop_past [] (suc i) h = refl
drop_past (x ∷ xs) zero h = absurd (omega (arith, h))
drop_past (x ∷ xs) (suc i) h = drop_past xs i (omega (arith, h))

pub end_laid : (u : Undo) (reserve : ℕ) (pages : List NumberedPage) (i : ℕ) (first now : FileState) → length pages ≤ i → HasCome u (all_cleared reserve (all_paged (drop i pages))) first now → HasLaid u first now
end_laid u reserve pages i first now h come =
    let P : List NumberedPage → Type 0 = λ ps. HasCome u (all_cleared reserve (all_paged ps)) first now in all_laid u first now (subst P (drop_past pages i h) come)

-- a page of what is played back
pub among_play : (play : Play) (reserve : ℕ) (pages : List NumberedPage) (i : ℕ) (p : NumberedPage) → pages ≡ play.records → i < length pages → p ≡ get_or pages i p → IsPlayable play →
    IsAmong play.page play.initial reserve (all_paged play.records) p
among_play play reserve pages i p same h is playable =
    let P : List NumberedPage → Type 0 = λ ps. IsAmong play.page play.initial reserve (all_paged ps) p in
    let Q : List NumberedPage → Type 0 = λ ps. ArePages play.page (all_paged ps) in
    let R : List NumberedPage → Type 0 = λ ps. AreUpTo play.initial (all_paged ps) in
    subst P same (among play.page play.initial reserve pages i p h is (subst Q (sym same) playable.pages) (subst R (sym same) playable.within))

pub in_room : (page number last : ℕ) → number ≤ last → number * page ≤ last * page
in_room page number last h = mul-le-mul_right page h

pub size_large : (n : ℕ) → IsTrue (is_size n) → 512 ≤ n
size_large n h = grind (arith, common_steps, h)
