-- Sheets, written one after the other.
use Rattle.std.proofs.Common.{◌≡◌, ◌≢◌, inl, inr, ℕ, zero, suc, ◌+◌, ◌-◌, ◌≤◌, ◌<◌, List, [], ◌∷◌, ◌++◌, length, take, get_or, replicate, IsTrue, Some, None, Result, Ok, Err, refl, sym, ap, subst, ◌∙◌, arith}
use Rattle.std.proofs.lemmas.List.{take-take, take-append-le, length-take-le, map-append, take_more}
use Rattle.std.specs.List.{AllByRecursion}
use Rattle.page_list.specs.Pages.{Pages, IsGood, times, Among, AllDifferent}
use Rattle.page_list.specs.Edits.{with_page, cleared}
use Rattle.page_list.proofs.TimesLemmas.{times-append, times-same, same_or_other, among-here, among-front, among-back}
use Rattle.page_list.proofs.NumberLemmas.{cleared-long}
use Rattle.page_pool.specs.Space.{SpaceState, HasSizes, Steady, Stays, PutLeaves}
use Rattle.page_pool.specs.Pool.{NotesChange}
use Rattle.payload_chain.specs.Chains.{PutRefused}
use Rattle.payload_chain.proofs.PutLemmas.{page-written, page-good, page-stays}
use Rattle.payload_chain.proofs.StateLemmas.{steady-same, steady-on, stays-same, stays-on, rose-on}
use Rattle.db_format.specs.declared.fault.SpaceFault.{SpaceFault}
use Rattle.db_format.specs.declared.fault.SpaceFault.TheVariants.{Failed, Memory, Bad, Corrupt, Large}
use Rattle.tree_page.specs.Page.{IsPage, IsTreePage, begin_of}
use Rattle.tree_page.specs.Written.{Fits}
use Rattle.tree_model.specs.Held.{HasCells}
use Rattle.page_cut.specs.declared.parts.Sheet.{Sheet}
use Rattle.tree_level.specs.Level.{numbers}
use Rattle.tree_write.specs.Write.{MayStand, OnlySheets, Wrote, WriteLeaves, NotesSheets}

-- of all sheets

all-map : {A : Type 0} {P Q : A → Type 0} → ((x : A) → P x → Q x) → (xs : List A) → AllByRecursion P xs → AllByRecursion Q xs
all-map f [] all = tt
all-map f (x ∷ xs) all = (f x all.0, all-map f xs all.1)

all-append : {A : Type 0} (P : A → Type 0) (xs ys : List A) → AllByRecursion P xs → AllByRecursion P ys → AllByRecursion P (xs ++ ys)
all-append P [] ys a b = b
all-append P (x ∷ xs) ys a b = (a.0, all-append P xs ys a.1 b)

is-number : (n k : ℕ) → Among (k ∷ []) n → n ≡ k
is-number n k some = elim (same_or_other n k) as (λ _. n ≡ k) [
  | inl same ↦ sym same.0
  | inr other ↦ absurd (omega (arith, some, other))
]

-- where all stays, only pages of any sheets have changed
pub only-same : (pages : Pages) (sheets : List Sheet) → OnlySheets pages pages sheets
only-same pages sheets = record {
  only = record { size = refl; each = λ n out. record { bytes_stay = refl; mark_stays = refl } };
  used = refl;
  long = λ n. refl;
  good = λ n was. was;
  bad = λ n sums was. was;
  front = refl;
}

-- the usable bytes of a page that was cleared behind them
take-cleared : (count usable : ℕ) (bytes : List ℕ) → count ≤ usable → usable ≤ length bytes → take count (cleared usable bytes) ≡ take count bytes
take-cleared count usable bytes less most =
    take-append-le count (take usable bytes) (replicate (length bytes - usable) 0) (omega (arith, length-take-le usable bytes most))
    ∙ take-take count usable bytes less

-- one page is put
only-put : (old : Pages) (sheet : Sheet) (content : List ℕ) → length content ≡ length (old.bytes sheet.number)
    → (sheet.number ≡ 1 → take 100 content ≡ take 100 (old.bytes sheet.number)) → OnlySheets old (with_page sheet.number content old) (sheet ∷ [])
only-put old sheet content long front =
    let x : ℕ = sheet.number in
    let new : Pages = with_page x content old in
    let at_other = λ (n : ℕ) (other : x ≢ n). page-stays x n content old (λ e. other (sym e)) in
    record {
      only = record {
        size = refl;
        each = λ n out. at_other n (λ e. let P : ℕ → Type 0 = λ m. Among (x ∷ []) m in out (subst P e (among-here x [])));
      };
      used = refl;
      long = λ n. elim (same_or_other n x) as (λ _. length (new.bytes n) ≡ length (old.bytes n)) [
        | inl same ↦ let P : ℕ → Type 0 = λ m. length (new.bytes m) ≡ length (old.bytes m) in
            subst P same.0 (ap (λ (l : List ℕ). length l) (page-written x content old) ∙ long)
        | inr other ↦ ap (λ (l : List ℕ). length l) (at_other n other.0).bytes_stay
      ];
      good = λ n was. elim (same_or_other n x) as (λ _. IsGood new n) [
        | inl same ↦ let P : ℕ → Type 0 = λ m. IsGood new m in subst P same.0 (page-good x content old)
        | inr other ↦ (at_other n other.0).mark_stays ∙ was
      ];
      bad = λ n sums now. elim (same_or_other n x) as (λ _. old.bad n ≡ Some sums) [
        | inl same ↦ let P : ℕ → Type 0 = λ m. IsGood new m in let good : new.bad n ≡ None = subst P same.0 (page-good x content old) in cc
        | inr other ↦ sym (at_other n other.0).mark_stays ∙ now
      ];
      front = elim (same_or_other 1 x) as (λ _. take 100 (new.bytes 1) ≡ take 100 (old.bytes 1)) [
        | inl same ↦ let P : ℕ → Type 0 = λ m. take 100 (new.bytes m) ≡ take 100 (old.bytes m) in
            subst P same.0 (ap (λ (l : List ℕ). take 100 l) (page-written x content old) ∙ front same.0)
        | inr other ↦ ap (λ (l : List ℕ). take 100 l) (at_other 1 other.0).bytes_stay
      ];
    }

-- what a page holds after its cells were written to it in a buffer, and the buffer was cleared behind what is used
pub record IsFilled (pages : Pages) (sheet : Sheet) (content : List ℕ) : Type 0 where
  pub long : length content ≡ length (pages.bytes sheet.number)
  pub front : sheet.number ≡ 1 → take 100 content ≡ take 100 (pages.bytes sheet.number)
  pub reads : IsPage content sheet.number pages.usable sheet.cells

pub filled : (old : SpaceState) (sheet : Sheet) (before after : List ℕ) → HasSizes old → IsTrue old.tells → MayStand old.pages sheet → length before ≡ old.page_size
    → (sheet.number ≡ 1 → before ≡ old.pages.bytes sheet.number) → length after ≡ length before → IsPage after sheet.number old.pages.usable sheet.cells
    → take (begin_of sheet.number) after ≡ take (begin_of sheet.number) before → IsFilled old.pages sheet (cleared old.pages.usable after)
filled old sheet before after sizes tells may one_page header same_long reads kept =
    let u : ℕ = old.pages.usable in
    let fits : u ≤ length after = omega (arith, sizes.most, same_long, one_page) in
    let least : 100 ≤ u = omega (arith, sizes.least) in
    let P : List ℕ → Type 0 = λ l. IsTreePage l sheet.number sheet.cells in
    let K : ℕ → Type 0 = λ n. take (begin_of n) after ≡ take (begin_of n) before in
    record {
      long = cleared-long u after fits ∙ same_long ∙ one_page ∙ sym ((sizes.each tells).each sheet.number may.there);
      front = λ one. take-cleared 100 u after least fits ∙ subst K one kept ∙ ap (λ (l : List ℕ). take 100 l) (header one);
      reads = subst P (sym (take-cleared u u after (omega arith) fits)) reads;
    }

-- what putting such a page leaves
wrote-put : (old : Pages) (sheet : Sheet) (content : List ℕ) → MayStand old sheet → IsFilled old sheet content → Wrote old (with_page sheet.number content old) (sheet ∷ [])
wrote-put old sheet content may is =
    let x : ℕ = sheet.number in
    let P : List ℕ → Type 0 = λ l. IsPage l x old.usable sheet.cells in
    record {
      only = only-put old sheet content is.long is.front;
      good = (λ m. page-good x content old, tt);
      each = λ different. (
        λ m. record {
          there = record { least = may.there.least; most = may.there.most };
          good = page-good x content old;
          reads = subst P (sym (page-written x content old)) is.reads;
        },
        tt,
      );
    }

pub put-leaves : (old new : SpaceState) (sheet : Sheet) (content : List ℕ) (result : Result Unit SpaceFault) → MayStand old.pages sheet
    → (IsTrue old.tells → IsFilled old.pages sheet content) → PutLeaves old new sheet.number content result → WriteLeaves old new (sheet ∷ []) result
put-leaves old new sheet content (Ok u) may is put = λ t.
    let P : Pages → Type 0 = λ p. Wrote old.pages p (sheet ∷ []) in
    subst P (sym (put.pages_are t)) (wrote-put old.pages sheet content may (is t))
put-leaves old new sheet content (Err fault) may is stays = λ t.
    let P : Pages → Type 0 = λ p. OnlySheets old.pages p (sheet ∷ []) in
    subst P (sym (stays.pages_stay t)) (only-same old.pages (sheet ∷ []))

-- a sheet that may not stand is passed over
pub passed-over : (old : SpaceState) (sheet : Sheet) → ¬ (MayStand old.pages sheet) → Wrote old.pages old.pages (sheet ∷ [])
passed-over old sheet not = record {
  only = only-same old.pages (sheet ∷ []);
  good = (λ may. absurd (not may), tt);
  each = λ different. (λ may. absurd (not may), tt);
}

-- after a read that leaves all
pub later-leaves : (old mid new : SpaceState) (sheets : List Sheet) (result : Result Unit SpaceFault) → Steady old mid → Stays old mid → WriteLeaves mid new sheets result
    → WriteLeaves old new sheets result
later-leaves old mid new sheets (Ok u) steady stays leaves = λ t.
    let P : Pages → Type 0 = λ p. Wrote p new.pages sheets in subst P (stays.pages_stay t) (leaves (steady.told ∙ t))
later-leaves old mid new sheets (Err fault) steady stays leaves = λ t.
    let P : Pages → Type 0 = λ p. OnlySheets p new.pages sheets in subst P (stays.pages_stay t) (leaves (steady.told ∙ t))

-- one sheet more

may-still : (old mid : Pages) (sheet : Sheet) → mid.size ≡ old.size → mid.usable ≡ old.usable → MayStand old sheet → MayStand mid sheet
may-still old mid sheet size used may =
    let P : ℕ → Type 0 = λ u. Fits sheet.cells sheet.number u in
    record { there = record { least = may.there.least; most = omega (arith, may.there.most, size) }; fits = subst P (sym used) may.fits }

cells-still : (mid new : Pages) (x y : Sheet) → OnlySheets mid new (x ∷ []) → y.number ≢ x.number → HasCells mid y.number y.cells → HasCells new y.number y.cells
cells-still mid new x y only apart has =
    let same = only.only.each y.number (λ some. apart (is-number y.number x.number some)) in
    let P : ℕ → Type 0 = λ u. IsPage (mid.bytes y.number) y.number u y.cells in
    let Q : List ℕ → Type 0 = λ l. IsPage l y.number new.usable y.cells in
    record {
      there = record { least = has.there.least; most = omega (arith, has.there.most, only.only.size) };
      good = only.good y.number has.good;
      reads = subst Q (sym same.bytes_stay) (subst P (sym only.used) has.reads);
    }

-- the sheets before keep their cells where none of them is of the page of the new one
each-still : (old mid new : Pages) (x : Sheet) → OnlySheets mid new (x ∷ []) → (ys : List Sheet) → ¬ (Among (numbers ys) x.number)
    → AllByRecursion (λ sheet. MayStand old sheet → HasCells mid sheet.number sheet.cells) ys
    → AllByRecursion (λ sheet. MayStand old sheet → HasCells new sheet.number sheet.cells) ys
each-still old mid new x only [] none all = tt
each-still old mid new x only (y ∷ ys) none all = (
  λ may. cells-still mid new x y only (λ e. let P : ℕ → Type 0 = λ m. Among (numbers (y ∷ ys)) m in none (subst P e (among-here y.number (numbers ys)))) (all.0 may),
  each-still old mid new x only ys (λ some. none (among-back x.number (y.number ∷ []) (numbers ys) some)) all.1,
)

numbers-more : (xs : List Sheet) (x : Sheet) → numbers (xs ++ x ∷ []) ≡ numbers xs ++ x.number ∷ []
numbers-more xs x = map-append _ xs (x ∷ [])

only-more : (old mid new : Pages) (xs : List Sheet) (x : Sheet) → OnlySheets old mid xs → OnlySheets mid new (x ∷ []) → OnlySheets old new (xs ++ x ∷ [])
only-more old mid new xs x a b = record {
  only = record {
    size = b.only.size ∙ a.only.size;
    each = λ n out.
        let P : List ℕ → Type 0 = λ l. Among l n in
        let p = a.only.each n (λ some. out (subst P (sym (numbers-more xs x)) (among-front n (numbers xs) (x.number ∷ []) some))) in
        let q = b.only.each n (λ some. out (subst P (sym (numbers-more xs x)) (among-back n (numbers xs) (x.number ∷ []) some))) in
        record { bytes_stay = q.bytes_stay ∙ p.bytes_stay; mark_stays = q.mark_stays ∙ p.mark_stays };
  };
  used = b.used ∙ a.used;
  long = λ n. b.long n ∙ a.long n;
  good = λ n was. b.good n (a.good n was);
  bad = λ n sums now. a.bad n sums (b.bad n sums now);
  front = b.front ∙ a.front;
}

wrote-more : (old mid new : Pages) (xs : List Sheet) (x : Sheet) → Wrote old mid xs → Wrote mid new (x ∷ []) → Wrote old new (xs ++ x ∷ [])
wrote-more old mid new xs x a b =
    let still = λ (sheet : Sheet) (may : MayStand old sheet). may-still old mid sheet a.only.only.size a.only.used may in
    let D : List ℕ → Type 0 = λ l. AllDifferent l in
    let count = λ (n : ℕ). times-append n (numbers xs) (x.number ∷ []) in
    record {
      only = only-more old mid new xs x a.only b.only;
      good = all-append (λ (sheet : Sheet). MayStand old sheet → IsGood new sheet.number) xs (x ∷ [])
          (all-map (λ sheet was may. b.only.good sheet.number (was may)) xs a.good) (λ may. b.good.0 (still x may), tt);
      each = λ different.
          let all = subst D (numbers-more xs x) different in
          let last = b.each (record { once = λ n. omega (arith, all.once n, count n) }) in
          all-append (λ (sheet : Sheet). MayStand old sheet → HasCells new sheet.number sheet.cells) xs (x ∷ [])
          (each-still old mid new x b.only xs (λ some. omega (arith, some, all.once x.number, count x.number, times-same x.number))
          (a.each (record { once = λ n. omega (arith, all.once n, count n) })))
          (λ may. last.0 (still x may), tt);
    }

-- what holds while sheets are written

pub record WritesAlong (old now : SpaceState) (done : List Sheet) : Type 0 where
  pub steady : Steady old now
  pub size : now.pages.size ≡ old.pages.size
  pub noted : NotesChange old now
  pub notes : NotesSheets old now done
  pub told : IsTrue old.tells → Wrote old.pages now.pages done

pub writes-begin : (old : SpaceState) → HasSizes old → WritesAlong old old []
writes-begin old sizes = record {
  steady = steady-same sizes;
  size = refl;
  noted = inr stays-same;
  notes = tt;
  told = λ t. record { only = only-same old.pages []; good = tt; each = λ different. tt };
}

pub noted-on : {a b c : SpaceState} → Steady a b → NotesChange a b → NotesChange b c → NotesChange a c
noted-on s n (inl changed) = inl changed
noted-on s (inl changed) (inr stays) = inl (stays.change ∙ changed)
noted-on s (inr first) (inr stays) = inr (stays-on s first stays)

still-changed : (b c : SpaceState) → NotesChange b c → IsTrue b.changed → IsTrue c.changed
still-changed b c (inl changed) was = changed
still-changed b c (inr stays) was = stays.change ∙ was

pub writes-on : (old now new : SpaceState) (xs : List Sheet) (x : Sheet) → WritesAlong old now xs → Steady now new → new.pages.size ≡ now.pages.size
    → NotesChange now new → NotesSheets now new (x ∷ []) → (IsTrue now.tells → Wrote now.pages new.pages (x ∷ [])) → WritesAlong old new (xs ++ x ∷ [])
writes-on old now new xs x along steady size noted notes told = record {
  steady = steady-on along.steady steady;
  size = size ∙ along.size;
  noted = noted-on along.steady along.noted noted;
  notes = all-append (λ (sheet : Sheet). MayStand old.pages sheet → IsTrue new.changed) xs (x ∷ [])
      (all-map (λ sheet was may. still-changed now new noted (was may)) xs along.notes)
      (λ may. notes.0 (may-still old.pages now.pages x along.size along.steady.used may), tt);
  told = λ t. wrote-more old.pages now.pages new.pages xs x (along.told t) (told (along.steady.told ∙ t));
}

-- the next of some sheets

take-next : (sheets : List Sheet) (at : ℕ) (x : Sheet) → at < length sheets → x ≡ get_or sheets at x → take (at + 1) sheets ≡ take at sheets ++ x ∷ []
take-next sheets at x within here = take_more sheets at x within ∙ ap (λ y. take at sheets ++ y ∷ []) (sym here)

pub writes-next : (old now new : SpaceState) (sheets : List Sheet) (at : ℕ) (x : Sheet) → at < length sheets → x ≡ get_or sheets at x
    → WritesAlong old now (take at sheets) → Steady now new → new.pages.size ≡ now.pages.size
    → NotesChange now new → NotesSheets now new (x ∷ []) → (IsTrue now.tells → Wrote now.pages new.pages (x ∷ [])) → WritesAlong old new (take (at + 1) sheets)
writes-next old now new sheets at x within here along steady size noted notes told =
    let P : List Sheet → Type 0 = λ l. WritesAlong old new l in
    subst P (sym (take-next sheets at x within here)) (writes-on old now new (take at sheets) x along steady size noted notes told)

times-take : (n at : ℕ) (sheets : List Sheet) → times n (numbers (take at sheets)) ≤ times n (numbers sheets)
times-take n zero sheets = omega arith
times-take n (suc at) [] = omega arith
times-take n (suc at) (s ∷ more) = omega (arith, times-take n at more)

-- after a refusal of one sheet, those before it are written
pub refused-leaves : (old now new : SpaceState) (sheets : List Sheet) (at : ℕ) (x : Sheet) → at < length sheets → x ≡ get_or sheets at x
    → WritesAlong old now (take at sheets) → (IsTrue now.tells → OnlySheets now.pages new.pages (x ∷ [])) → IsTrue old.tells → OnlySheets old.pages new.pages sheets
refused-leaves old now new sheets at x within here along leaves t =
    let more = only-more old.pages now.pages new.pages (take at sheets) x (along.told t).only (leaves (along.steady.told ∙ t)) in
    let next = take-next sheets at x within here in
    let P : List Sheet → ℕ → Type 0 = λ l n. Among (numbers l) n in
    record {
      only = record {
        size = more.only.size;
        each = λ n out. more.only.each n (λ some.
            let Q : List Sheet → Type 0 = λ l. Among (numbers l) n in
            let there : Among (numbers (take (at + 1) sheets)) n = subst Q (sym next) some in
            out (omega (arith, there, times-take n (at + 1) sheets)));
      };
      used = more.used;
      long = more.long;
      good = more.good;
      bad = more.bad;
      front = more.front;
    }

pub refused-cause : (old now new : SpaceState) (sheets : List Sheet) (at : ℕ) (x : Sheet) (fault : SpaceFault) → at < length sheets → x ≡ get_or sheets at x
    → WritesAlong old now (take at sheets) → PutRefused now new (x.number ∷ []) fault → PutRefused old new (numbers sheets) fault
refused-cause old now new sheets at x Failed within here along cause = rose-on old.faults now.faults new.faults along.steady.counted cause
refused-cause old now new sheets at x Memory within here along cause = tt
refused-cause old now new sheets at x (Bad page kept found) within here along cause = λ t.
    let was = cause (along.steady.told ∙ t) in
    let Q : List Sheet → Type 0 = λ l. Among (numbers l) page in
    let P : List ℕ → Type 0 = λ l. Among l page in
    let last : Among (numbers (take at sheets ++ x ∷ [])) page =
    subst P (sym (numbers-more (take at sheets) x)) (among-back page (numbers (take at sheets)) (x.number ∷ []) was.0) in
    let there : Among (numbers (take (at + 1) sheets)) page = subst Q (sym (take-next sheets at x within here)) last in
    (omega (arith, there, times-take page (at + 1) sheets), (along.told t).only.bad page (kept, found) was.1)
refused-cause old now new sheets at x (Corrupt page) within here along cause = absurd cause
refused-cause old now new sheets at x (Large pages) within here along cause = absurd cause
