-- Keys that rise, cell by cell.
use Rattle.std.proofs.Common.{◌≡◌, ℕ, zero, suc, ◌+◌, ◌≤◌, ◌<◌, ◌↔◌, ℤ, Option, Some, None, IsTrue, true, false, List, [], ◌∷◌, length, map, drop, slice_index_or, refl, sym, ap, subst, ◌∙◌, arith}
use Rattle.std.proofs.lemmas.Bool.{false≢true}
use Rattle.std.proofs.lemmas.List.{drop_all}
use Rattle.tree_page.specs.declared.cell.InnerCell.{InnerCell}
use Rattle.tree_page.specs.Page.{inner, rowid_of, AreAbove}
use Rattle.tree_join.specs.Join.{KeysRise}
use Rattle.tree_join.specs.Steps.{IsBehind}

-- the keys of the cells rise behind the last one, if there is one
abbrev pub AreBehind : Option ℤ → List InnerCell → Type 0
AreBehind None cells = KeysRise cells
AreBehind (Some last) cells = AreAbove last (map rowid_of (map inner cells))

pub head_at : {A : Type 0} (at : ℕ) (cells : List A) (d : A) → at < length cells → drop at cells ≡ slice_index_or cells at d ∷ drop (at + 1) cells
head_at at [] d within = absurd (omega (arith, within))
head_at zero (c ∷ more) d within = refl
head_at (suc at) (c ∷ more) d within =
    let e : suc (at + 1) ≡ suc at + 1 = omega arith in
    head_at at more d (omega (arith, within)) ∙ ap (λ n. slice_index_or more at d ∷ drop n (c ∷ more)) e

split : (last : Option ℤ) (x : InnerCell) (more : List InnerCell) → AreBehind last (x ∷ more) ↔ (IsBehind last x.rowid × AreAbove x.rowid (map rowid_of (map inner more)))
split None x more = (λ a. (tt, a), λ a. a.1)
split (Some last) x more = (λ a. a, λ a. a)

-- the key of the next cell, by a name of its own
next : (all : Type 0) (last : Option ℤ) (at : ℕ) (cells : List InnerCell) (d : InnerCell) (key : ℤ) → at < length cells → all ↔ AreBehind last (drop at cells) → key ≡ (slice_index_or cells at d).rowid →
    all ↔ (IsBehind last key × AreAbove key (map rowid_of (map inner (drop (at + 1) cells))))
next all last at cells d key within so_far is =
    let more : List InnerCell = drop (at + 1) cells in
    let both = split last (slice_index_or cells at d) more in
    let P : List InnerCell → Type 0 = λ l. AreBehind last l in
    let Q : ℤ → Type 0 = λ k. IsBehind last k × AreAbove k (map rowid_of (map inner more)) in
    (λ a. subst Q (sym is) (both.0 (subst P (head_at at cells d within) (so_far.0 a))), λ b. so_far.1 (subst P (sym (head_at at cells d within)) (both.1 (subst Q is b))))

pub goes_on : (all : Type 0) (last : Option ℤ) (at : ℕ) (cells : List InnerCell) (d : InnerCell) (key : ℤ) → at < length cells → all ↔ AreBehind last (drop at cells) → key ≡ (slice_index_or cells at d).rowid →
    IsBehind last key → all ↔ AreBehind (Some key) (drop (at + 1) cells)
goes_on all last at cells d key within so_far is behind =
    let n = next all last at cells d key within so_far is in (λ a. (n.0 a).1, λ b. n.1 (behind, b))

pub ends_here : (all : Type 0) (last : Option ℤ) (at : ℕ) (cells : List InnerCell) (d : InnerCell) (key : ℤ) → at < length cells → all ↔ AreBehind last (drop at cells) → key ≡ (slice_index_or cells at d).rowid →
    ¬ (IsBehind last key) → IsTrue false ↔ all
ends_here all last at cells d key within so_far is not =
    let n = next all last at cells d key within so_far is in (λ t. absurd (false≢true t), λ a. absurd (not (n.0 a).0))

pub past_all : (all : Type 0) (last : Option ℤ) (at : ℕ) (cells : List InnerCell) → length cells ≤ at → all ↔ AreBehind last (drop at cells) → IsTrue true ↔ all
past_all all last at cells past so_far =
    let P : List InnerCell → Type 0 = λ l. AreBehind last l in
    (λ t. so_far.1 (subst P (sym (drop_all at cells past)) (none last)), λ a. refl)
  where
    none : (last : Option ℤ) → AreBehind last []
    none None = tt
    none (Some k) = tt
