-- Keys that rise, with some put among them.
use Rattle.std.proofs.Common.{◌≡◌, ℕ, zero, suc, ◌-◌, ◌≤◌, ◌<◌, ◌↔◌, ℤ, ◌<ℤ◌, int_lt, IsTrue, false, List, [], ◌∷◌, ◌++◌, length, map, take, drop, get_or, refl, sym, ap, subst, ◌∙◌, arith}
use Rattle.std.proofs.lemmas.Bool.{false≢true}
use Rattle.std.proofs.lemmas.List.{take-append-drop}
use Rattle.tree_page.specs.declared.cell.InnerCell.{InnerCell}
use Rattle.tree_page.specs.Page.{inner, rowid_of, AreAbove, AreRising}
use Rattle.page_cut.specs.declared.parts.Sheet.{Sheet}
use Rattle.tree_model.specs.declared.level.Level.{Level}
use Rattle.tree_plan.specs.Climb.{Rises}
use Rattle.tree_write.specs.Steps.{last_key, key_at, EndsBelow, BeginsAbove}

abbrev pub keys : List InnerCell → List ℤ
keys cells = map rowid_of (map inner cells)

above-append : (low : ℤ) (xs ys : List InnerCell) → AreAbove low (keys xs) → AreAbove (last_key low xs) (keys ys) → AreAbove low (keys (xs ++ ys))
above-append low [] ys a b = b
above-append low (x ∷ xs) ys a b = (a.0, above-append x.rowid xs ys a.1 b)

above-split : (low : ℤ) (xs ys : List InnerCell) → AreAbove low (keys (xs ++ ys)) → AreAbove low (keys xs) × AreAbove (last_key low xs) (keys ys)
above-split low [] ys all = (tt, all)
above-split low (x ∷ xs) ys all = let rest = above-split x.rowid xs ys all.1 in ((all.0, rest.0), rest.1)

above-of : (key : ℤ) (ys : List InnerCell) → AreRising (keys ys) → BeginsAbove key ys → AreAbove key (keys ys)
above-of key [] rising begins = tt
above-of key (y ∷ ys) rising begins = (begins, rising)

begins-of : (key : ℤ) (ys : List InnerCell) → AreAbove key (keys ys) → BeginsAbove key ys
begins-of key [] above = tt
begins-of key (y ∷ ys) above = above.0

rising-of : (key : ℤ) (ys : List InnerCell) → AreAbove key (keys ys) → AreRising (keys ys)
rising-of key [] above = tt
rising-of key (y ∷ ys) above = above.1

rising-front : (xs ys : List InnerCell) → AreRising (keys (xs ++ ys)) → AreRising (keys xs)
rising-front [] ys all = tt
rising-front (x ∷ xs) ys all = (above-split x.rowid xs ys all).0

rising-back : (xs ys : List InnerCell) → AreRising (keys (xs ++ ys)) → AreRising (keys ys)
rising-back [] ys all = all
rising-back (x ∷ xs) ys all = rising-of _ ys (above-split x.rowid xs ys all).1

rising-join : (xs : List InnerCell) (u : InnerCell) (us : List InnerCell) → AreRising (keys xs) → EndsBelow xs u.rowid → AreAbove u.rowid (keys us) → AreRising (keys (xs ++ u ∷ us))
rising-join [] u us rising ends above = above
rising-join (x ∷ xs) u us rising ends above = above-append x.rowid xs (u ∷ us) rising (ends, above)

rising-split : (xs : List InnerCell) (u : InnerCell) (us : List InnerCell) → AreRising (keys (xs ++ u ∷ us)) → EndsBelow xs u.rowid × AreAbove u.rowid (keys us)
rising-split [] u us all = (tt, all)
rising-split (x ∷ xs) u us all = let rest = (above-split x.rowid xs (u ∷ us) all).1 in (rest.0, rest.1)

-- what has to hold of the keys beside those that come up
pub record HavePlace (level : Level) (front : List Sheet) : Type 0 where
  pub before : EndsBelow (take level.at level.cells) (key_at front 0)
  pub two : length front ≡ 2 → key_at front 0 <ℤ key_at front (length front - 1)
  pub behind : BeginsAbove (key_at front (length front - 1)) (drop level.at level.cells)

part-front : (at : ℕ) (cells : List InnerCell) → AreRising (keys cells) → AreRising (keys (take at cells))
part-front at cells rising =
    let P : List InnerCell → Type 0 = λ l. AreRising (keys l) in rising-front (take at cells) (drop at cells) (subst P (sym (take-append-drop at cells)) rising)

part-back : (at : ℕ) (cells : List InnerCell) → AreRising (keys cells) → AreRising (keys (drop at cells))
part-back at cells rising =
    let P : List InnerCell → Type 0 = λ l. AreRising (keys l) in rising-back (take at cells) (drop at cells) (subst P (sym (take-append-drop at cells)) rising)

rises-where : (level : Level) (front : List Sheet) → AreRising (keys level.cells) → 1 ≤ length front → length front ≤ 2 → HavePlace level front → Rises level front
rises-where level [] rising some few place = absurd (omega (arith, some))
rises-where level (s ∷ []) rising some few place =
    rising-join (take level.at level.cells) (record { child = s.number; rowid = s.key }) (drop level.at level.cells) (part-front level.at level.cells rising)
    place.before (above-of s.key (drop level.at level.cells) (part-back level.at level.cells rising) place.behind)
rises-where level (s ∷ t ∷ []) rising some few place =
    rising-join (take level.at level.cells) (record { child = s.number; rowid = s.key }) (record { child = t.number; rowid = t.key } ∷ drop level.at level.cells)
    (part-front level.at level.cells rising) place.before
    (place.two refl, above-of t.key (drop level.at level.cells) (part-back level.at level.cells rising) place.behind)
rises-where level (s ∷ t ∷ r ∷ more) rising some few place = absurd (omega (arith, few))

place-where : (level : Level) (front : List Sheet) → 1 ≤ length front → length front ≤ 2 → Rises level front → HavePlace level front
place-where level [] some few rises = absurd (omega (arith, some))
place-where level (s ∷ []) some few rises =
    let parts = rising-split (take level.at level.cells) (record { child = s.number; rowid = s.key }) (drop level.at level.cells) rises in
    record { before = parts.0; two = λ two. absurd (omega (arith, two)); behind = begins-of s.key (drop level.at level.cells) parts.1 }
place-where level (s ∷ t ∷ []) some few rises =
    let parts = rising-split (take level.at level.cells) (record { child = s.number; rowid = s.key }) (record { child = t.number; rowid = t.key } ∷ drop level.at level.cells) rises in
    record { before = parts.0; two = λ two. parts.1.0; behind = begins-of t.key (drop level.at level.cells) parts.1.1 }
place-where level (s ∷ t ∷ r ∷ more) some few rises = absurd (omega (arith, few))

-- the last of some cells
pub ends-where : (cells : List InnerCell) (x : InnerCell) (key : ℤ) → 1 ≤ length cells → x ≡ get_or cells (length cells - 1) x → (x.rowid <ℤ key) ↔ EndsBelow cells key
ends-where [] x key some last = absurd (omega (arith, some))
ends-where (c ∷ more) x key some last =
    let index : length (c ∷ more) - 1 ≡ length more = omega arith in
    let is : x.rowid ≡ last_key c.rowid more = ap (λ (y : InnerCell). y.rowid) (last ∙ ap (λ n. get_or (c ∷ more) n x) index) ∙ last-is c more x in
    let P : ℤ → Type 0 = λ k. k <ℤ key in
    (subst P is, subst P (sym is))
  where
    last-is : (c : InnerCell) (more : List InnerCell) (x : InnerCell) → (get_or (c ∷ more) (length more) x).rowid ≡ last_key c.rowid more
    last-is c [] x = refl
    last-is c (d ∷ more) x = last-is d more x

-- a test of two keys as code makes it
pub lt-is : {P : Type 0} (A B a b : ℤ) → A ≡ a → B ≡ b → (a <ℤ b) ↔ P → IsTrue (int_lt A B) ↔ P
lt-is A B a b p q is = (
  λ t. is.0 (let h : A <ℤ B = grind (arith, t) in let F : ℤ → Type 0 = λ x. x <ℤ B in let G : ℤ → Type 0 = λ y. a <ℤ y in subst G q (subst F p h)),
  λ x. let h = is.1 x in let F : ℤ → Type 0 = λ x. x <ℤ b in let G : ℤ → Type 0 = λ y. A <ℤ y in let k : A <ℤ B = subst G (sym q) (subst F (sym p) h) in grind (arith, k),
)

-- the parts of a list of cells under another name, and a key under another name
pub at-both : (P : List InnerCell → ℤ → Type 0) (l m : List InnerCell) (j k : ℤ) → l ≡ m → j ≡ k → P l j → P m k
at-both P l m j k d e h = let Q : ℤ → Type 0 = λ x. P l x in subst (λ (n : List InnerCell). P n k) d (subst Q e h)

pub rises-iff : (level : Level) (front : List Sheet) (P : Type 0) → AreRising (keys level.cells) → 1 ≤ length front → length front ≤ 2
    → EndsBelow (take level.at level.cells) (key_at front 0) → BeginsAbove (key_at front (length front - 1)) (drop level.at level.cells)
    → P ↔ (length front ≡ 2 → key_at front 0 <ℤ key_at front (length front - 1)) → P ↔ Rises level front
rises-iff level front P rising some few before behind is =
    (λ p. rises-where level front rising some few (record { before = before; two = is.0 p; behind = behind }), λ r. is.1 (place-where level front some few r).two)

pub no-place-before : (level : Level) (front : List Sheet) → 1 ≤ length front → length front ≤ 2 → ¬ (EndsBelow (take level.at level.cells) (key_at front 0))
    → IsTrue false ↔ Rises level front
no-place-before level front some few not = (λ t. absurd (false≢true t), λ r. absurd (not (place-where level front some few r).before))

pub no-place-behind : (level : Level) (front : List Sheet) → 1 ≤ length front → length front ≤ 2
    → ¬ (BeginsAbove (key_at front (length front - 1)) (drop level.at level.cells)) → IsTrue false ↔ Rises level front
no-place-behind level front some few not = (λ t. absurd (false≢true t), λ r. absurd (not (place-where level front some few r).behind))

-- the key behind the part at a place
pub key-is : (front : List Sheet) (at : ℕ) (x : Sheet) → at < length front → x ≡ get_or front at x → x.key ≡ key_at front at
key-is [] at x within is = absurd (omega (arith, within))
key-is (s ∷ more) zero x within is = ap (λ (y : Sheet). y.key) is
key-is (s ∷ more) (suc at) x within is = key-is more at x (omega (arith, within)) is
