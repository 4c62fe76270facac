-- Two maps whose values show the same at each key show the same entries.
use Rattle.std.proofs.Common.{◌≡◌, true, false, cond, ◌&&◌, T, List, [], ◌∷◌, map, Some, Ordering, refl, sym, ap, ap₂, subst, ◌∙◌}
use Rattle.std.specs.Prelude.{option_map}
use Rattle.std.specs.Ordering.{eq_by_cmp, is_lt}
use Rattle.std.specs.Cmp.{IsTotalOrder}
use Rattle.std.specs.FinMap as map
use Rattle.std.specs.FinMap.{FinMap, IsAntisymmetric, get-entries, entries_sorted}
use Rattle.std.specs.FinMap.Entries.{find, below_all, is_sorted, same_entries}

-- the keys, each with what its value shows
abbrev pub shown_by : {K X Z : Type 0} → (X → Z) → List (K × X) → List (K × Z)
shown_by f es = map (λ e. (e.0, f e.1)) es

module _ {K X Z : Type 0} (R : K → K → Ordering) (f : X → Z) where
  found_shown : (key : K) (es : List (K × X)) → find R key (shown_by f es) ≡ option_map f (find R key es)
  found_shown key [] = refl
  found_shown key (e ∷ es) = elim (eq_by_cmp R key e.0) as (λ b. cond b (Some (f e.1)) (find R key (shown_by f es)) ≡ option_map f (cond b (Some e.1) (find R key es))) [
    | true ↦ refl
    | false ↦ found_shown key es
  ]

  above_shown : (key : K) (es : List (K × X)) → below_all R key (shown_by f es) ≡ below_all R key es
  above_shown key [] = refl
  above_shown key (e ∷ es) = ap (λ b. is_lt (R key e.0) && b) (above_shown key es)

  order_shown : (es : List (K × X)) → is_sorted R (shown_by f es) ≡ is_sorted R es
  order_shown [] = refl
  order_shown (e ∷ es) = ap₂ (λ a b. a && b) (above_shown e.0 es) (order_shown es)

  in_order : (m : FinMap R X) → T (is_sorted R (shown_by f (map.entries m)))
  in_order m = subst T (sym (order_shown (map.entries m))) (entries_sorted m)

  at_shown : (m : FinMap R X) (key : K) → find R key (shown_by f (map.entries m)) ≡ option_map f (map.get m key)
  at_shown m key = found_shown key (map.entries m) ∙ ap (option_map f) (sym (get-entries m key))

pub same_shown : {K X Y Z : Type 0} (R : K → K → Ordering) (f : X → Z) (g : Y → Z) → IsTotalOrder R → IsAntisymmetric R → (m : FinMap R X) (n : FinMap R Y)
    → ((key : K) → option_map f (map.get m key) ≡ option_map g (map.get n key)) → shown_by f (map.entries m) ≡ shown_by g (map.entries n)
same_shown R f g total same m n each =
    same_entries R total same (shown_by f (map.entries m)) (shown_by g (map.entries n)) (in_order R f m) (in_order R g n) (λ key. at_shown R f m key ∙ each key ∙ sym (at_shown R g n key))
