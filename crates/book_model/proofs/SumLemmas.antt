-- Sums over the values of a map that is made of entries with different keys.
use Rattle.std.proofs.Common.{◌≡◌, ◌≢◌, ℕ, ◌+◌, Bool, false, cond, List, [], ◌∷◌, map, None, Some, refl, sym, ap, ◌∙◌, arith}
use Rattle.std.proofs.lemmas.List.{nil_from_length}
use Rattle.std.specs.List.{AllByRecursion}
use Rattle.std.specs.Ordering.{eq_by_cmp, is_eq}
use Rattle.std.specs.declared.cmp.Ordering.{Ordering}
use Rattle.std.specs.declared.cmp.Ordering.TheVariants.{Less, Equal, Greater}
use Rattle.std.specs.Cmp.{IsTotalOrder}
use Rattle.std.specs.FinMap as map
use Rattle.std.specs.FinMap.{FinMap, IsAntisymmetric, entries, from_entries, empty, get-entries, get-from_entries, entries-insert, len-entries, len-empty}
use Rattle.std.specs.FinMap.Entries.{put, find, by_order}

not_tied : {K : Type 0} (R : K → K → Ordering) → IsAntisymmetric R → (a b : K) → b ≢ a → eq_by_cmp R a b ≡ false
not_tied {K} R same a b other = by (R a b) refl
  where
    by : (o : Ordering) → R a b ≡ o → is_eq (R a b) ≡ false
    by Less e = ap is_eq e
    by Equal e = absurd (other (sym (same a b e)))
    by Greater e = ap is_eq e

module _ {K X : Type 0} (R : K → K → Ordering) where
  -- no entry has the key of a later one
  abbrev pub KeysDiffer : List (K × X) → Type 0
  KeysDiffer [] = Unit {0}
  KeysDiffer (e ∷ es) = AllByRecursion (λ other. other.0 ≢ e.0) es × KeysDiffer es

  not_found : IsAntisymmetric R → (key : K) (es : List (K × X)) → AllByRecursion (λ other. other.0 ≢ key) es → find R key es ≡ None
  not_found same key [] apart = refl
  not_found same key (e ∷ es) apart = ap (λ (b : Bool). cond b (Some e.1) (find R key es)) (not_tied R same key e.0 apart.0) ∙ not_found same key es apart.1

  -- what adds up over a list counts a new entry where it is put, and all others
  module _ (F : List X → ℕ) (f : X → ℕ) (step : (x : X) (xs : List X) → F (x ∷ xs) ≡ f x + F xs) where
    sum_put : (key : K) (x : X) (es : List (K × X)) → find R key es ≡ None → F (map (λ e. e.1) (put R key x es)) ≡ f x + F (map (λ e. e.1) es)
    sum_put key x [] none = step x []
    sum_put key x (e ∷ es) none = by (sum_put key x es) (R key e.0) none
      where
        by : (find R key es ≡ None → F (map (λ e. e.1) (put R key x es)) ≡ f x + F (map (λ e. e.1) es)) → (o : Ordering) → cond (is_eq o) (Some e.1) (find R key es) ≡ None
            → F (map (λ e. e.1) (by_order o ((key, x) ∷ e ∷ es) ((e.0, x) ∷ es) (e ∷ put R key x es))) ≡ f x + F (map (λ e. e.1) (e ∷ es))
        by more Less none = step x (e.1 ∷ map (λ e. e.1) es)
        by more Equal none = absurd cc
        by more Greater none =
            let rest = more none in
            let long = step e.1 (map (λ e. e.1) (put R key x es)) in
            let short = step e.1 (map (λ e. e.1) es) in
            omega (arith, rest, long, short)

    pub sum_values : IsTotalOrder R → IsAntisymmetric R → (es : List (K × X)) → KeysDiffer es → F (map.values (from_entries {R = R} es)) ≡ F (map (λ e. e.1) es)
    sum_values total same [] apart = ap (λ (l : List (K × X)). F (map (λ e. e.1) l)) (nil_from_length (entries (empty {X = X} {R = R})) (sym (len-entries (empty {X = X} {R = R})) ∙ len-empty R X))
    sum_values total same (e ∷ es) apart =
        let made : FinMap R X = from_entries es in
        let none : find R e.0 (entries made) ≡ None = sym (get-entries made e.0) ∙ get-from_entries total es e.0 ∙ not_found same e.0 es apart.0 in
        ap (λ (l : List (K × X)). F (map (λ e. e.1) l)) (entries-insert total made e.0 e.1) ∙ sum_put e.0 e.1 (entries made) none
        ∙ ap (λ n. f e.1 + n) (sum_values total same es apart.1) ∙ sym (step e.1 (map (λ e. e.1) es))
