-- Records taken one after another.
use Rattle.std.proofs.Common.{arith, ◌≡◌, ℕ, suc, ◌+◌, ◌-◌, ◌*◌, ◌≤◌, ◌<◌, Bool, true, false, List, [], ◌∷◌, ◌++◌, length, drop, refl, sym, ◌∙◌, ap, subst, append-nil}
use Rattle.std.proofs.Math.Nat.{suc-mul}
use Rattle.journal_format.specs.Undo.{Paged, ArePages, AreUpTo}
use Rattle.journal_format.specs.Journal.{played}
use Rattle.journal_format.specs.Values.{paged, all_paged}
use Rattle.journal_format.specs.Steps.{GoesOn, IsRecord}
use Rattle.journal_format.specs.declared.read.Step.{Step}
use Rattle.journal_format.specs.declared.read.Step.TheVariants.{Take}
use Rattle.journal_format.specs.declared.pages.NumberedPage.{NumberedPage}

-- of the records that are left there is room for one, and behind it for the rest
one_of : (count k size : ℕ) → k < count → (count - k) * size ≡ (count - (k + 1)) * size + size
one_of count k size more = ap (λ n. n * size) (omega (arith, more)) ∙ suc-mul (count - (k + 1)) size

pub room_for_one : (count k size len : ℕ) → k < count → (count - k) * size ≤ len → size ≤ len
room_for_one count k size len more room = omega (arith, one_of count k size more, room)

pub room_for_rest : (count k size len : ℕ) → k < count → (count - k) * size ≤ len → (count - (k + 1)) * size ≤ len - size
room_for_rest count k size len more room = omega (arith, one_of count k size more, room)

pub one_left : (count k : ℕ) → k < count → count - k ≡ suc (count - (k + 1))
one_left count k more = omega (arith, more)

-- what is taken, when no record is left, when the playback ends, and when it goes on
pub ended : (before : List Paged) (page initial nonce left : ℕ) (rest : List ℕ) (all : List Paged) → left ≡ 0 → before ++ played page initial nonce left rest ≡ all → before ≡ all
unfolding played
ended before page initial nonce left rest all none e =
    let z : before ++ [] ≡ all = ap (λ n. before ++ played page initial nonce n rest) (sym none) ∙ e in
    sym (append-nil before) ∙ z

pub ends : (before after all : List Paged) (page initial nonce left more : ℕ) (rest : List ℕ) (goes : Bool) → goes ≡ false → GoesOn goes before after page initial nonce rest → left ≡ suc more
    → before ++ played page initial nonce left rest ≡ all → after ≡ all
ends before after all page initial nonce left more rest goes is on some e =
    let P : Bool → Type 0 = λ b. GoesOn b before after page initial nonce rest in
    let end : P false = subst P is on in
    end more ∙ ap (λ n. before ++ played page initial nonce n rest) (sym some) ∙ e

pub goes_on : (before after all : List Paged) (page initial nonce left more : ℕ) (rest : List ℕ) (goes : Bool) → goes ≡ true → GoesOn goes before after page initial nonce rest → left ≡ suc more
    → before ++ played page initial nonce left rest ≡ all → after ++ played page initial nonce more (drop (page + 8) rest) ≡ all
goes_on before after all page initial nonce left more rest goes is on some e =
    let P : Bool → Type 0 = λ b. GoesOn b before after page initial nonce rest in
    let step : P true = subst P is on in
    step more ∙ ap (λ n. before ++ played page initial nonce n rest) (sym some) ∙ e

-- a record more
one_more : (page : ℕ) (xs : List Paged) (r : Paged) → ArePages page xs → 1 ≤ r.0 → length r.1 ≡ page → ArePages page (xs ++ r ∷ [])
one_more page [] r are one size = (one, size, tt)
one_more page (x ∷ xs) r are one size = (are.0, are.1, one_more page xs r are.2 one size)

one_within : (last : ℕ) (xs : List Paged) (r : Paged) → AreUpTo last xs → r.0 ≤ last → AreUpTo last (xs ++ r ∷ [])
one_within last [] r upto h = (h, tt)
one_within last (x ∷ xs) r upto h = (upto.0, one_within last xs r upto.1 h)

paged_more : (xs : List NumberedPage) (p : NumberedPage) → all_paged (xs ++ p ∷ []) ≡ all_paged xs ++ paged p ∷ []
paged_more [] p = refl
paged_more (x ∷ xs) p = ap (λ ps. paged x ∷ ps) (paged_more xs p)

pub taken_pages : (page initial : ℕ) (olds news : List NumberedPage) (step : Step) (p : NumberedPage) → step ≡ Take p → IsRecord page initial step → news ≡ olds ++ p ∷ []
    → ArePages page (all_paged olds) → ArePages page (all_paged news)
taken_pages page initial olds news step p is fits e are =
    let P : Step → Type 0 = IsRecord page initial in
    let Q : List Paged → Type 0 = ArePages page in
    let f = subst P is fits in
    subst Q (sym (ap all_paged e ∙ paged_more olds p)) (one_more page (all_paged olds) (paged p) are f.0 f.2)

pub taken_within : (page initial : ℕ) (olds news : List NumberedPage) (step : Step) (p : NumberedPage) → step ≡ Take p → IsRecord page initial step → news ≡ olds ++ p ∷ []
    → AreUpTo initial (all_paged olds) → AreUpTo initial (all_paged news)
taken_within page initial olds news step p is fits e upto =
    let P : Step → Type 0 = IsRecord page initial in
    let Q : List Paged → Type 0 = AreUpTo initial in
    let f = subst P is fits in
    subst Q (sym (ap all_paged e ∙ paged_more olds p)) (one_within initial (all_paged olds) (paged p) upto f.1)
