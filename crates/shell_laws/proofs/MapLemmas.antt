-- Maps whose values show the same.
use Rattle.std.proofs.Common.{◌≡◌, Bool, true, false, cond, ◌&&◌, T, List, [], ◌∷◌, ◌++◌, map, Option, Some, None, refl, ap, sym, ◌∙◌, subst, Ordering}
use Rattle.std.specs.Prelude.{option_map}
use Rattle.std.specs.List.{flat_map}
use Rattle.std.specs.Ordering.{eq_by_cmp, is_lt}
use Rattle.std.specs.Cmp.{IsTotalOrder}
use Rattle.std.specs.FinMap as map
use Rattle.std.specs.FinMap.{FinMap, IsAntisymmetric, get-entries, get-insert, get-remove, entries_sorted}
use Rattle.std.specs.FinMap.Entries.{find, below_all, is_sorted, same_entries}

-- what the values show, by key
abbrev pub shown_by : {K X Y : Type 0} → (X → Y) → List (K × X) → List (K × Y)
shown_by f es = map (λ e. (e.0, f e.1)) es

module _ {K X Y : Type 0} (R : K → K → Ordering) (f : X → Y) where
  find_shown : (q : K) (es : List (K × X)) → find R q (shown_by f es) ≡ option_map f (find R q es)
  find_shown q [] = refl
  find_shown q (e ∷ es) = elim (eq_by_cmp R q e.0) as (λ b. cond b (Some (f e.1)) (find R q (shown_by f es)) ≡ option_map f (cond b (Some e.1) (find R q es))) [
    | true ↦ refl
    | false ↦ find_shown q es
  ]

  below_shown : (k : K) (es : List (K × X)) → below_all R k (shown_by f es) ≡ below_all R k es
  below_shown k [] = refl
  below_shown k (e ∷ es) = ap (λ b. is_lt (R k e.0) && b) (below_shown k es)

  sorted_shown : (es : List (K × X)) → is_sorted R (shown_by f es) ≡ is_sorted R es
  sorted_shown [] = refl
  sorted_shown (e ∷ es) = ap (λ b. b && is_sorted R (shown_by f es)) (below_shown e.0 es) ∙ ap (λ b. below_all R e.0 es && b) (sorted_shown es)

  -- maps that show the same at each key show the same
  pub same_shown : IsTotalOrder R → IsAntisymmetric R → (a b : FinMap R X) → ((q : K) → option_map f (map.get b q) ≡ option_map f (map.get a q)) →
      shown_by f (map.entries b) ≡ shown_by f (map.entries a)
  same_shown order same a b each =
      same_entries R order same (shown_by f (map.entries b)) (shown_by f (map.entries a)) (subst T (sym (sorted_shown (map.entries b))) (entries_sorted b))
      (subst T (sym (sorted_shown (map.entries a))) (entries_sorted a))
      (λ q. find_shown q (map.entries b) ∙ (ap (option_map f) (sym (get-entries b q)) ∙ (each q ∙ (ap (option_map f) (get-entries a q) ∙ sym (find_shown q (map.entries a))))))

keys_shown : {K X Y : Type 0} (f : X → Y) (es : List (K × X)) → map (λ e. e.0) (shown_by f es) ≡ map (λ e. e.0) es
keys_shown f [] = refl
keys_shown f (e ∷ es) = ap (λ l. e.0 ∷ l) (keys_shown f es)

pub same_keys : {K X Y : Type 0} (f : X → Y) (es fs : List (K × X)) → shown_by f fs ≡ shown_by f es → map (λ e. e.0) fs ≡ map (λ e. e.0) es
same_keys f es fs same = sym (keys_shown f fs) ∙ (ap (map (λ e. e.0)) same ∙ keys_shown f es)

flat_shown : {K X A : Type 0} (f : X → List A) (es : List (K × X)) → flat_map (λ e. e.1) (shown_by f es) ≡ flat_map f (map (λ e. e.1) es)
flat_shown f [] = refl
flat_shown f (e ∷ es) = ap (λ l. f e.1 ++ l) (flat_shown f es)

pub same_flat : {K X A : Type 0} (f : X → List A) (es fs : List (K × X)) → shown_by f fs ≡ shown_by f es → flat_map f (map (λ e. e.1) fs) ≡ flat_map f (map (λ e. e.1) es)
same_flat f es fs same = sym (flat_shown f fs) ∙ (ap (flat_map (λ e. e.1)) same ∙ flat_shown f es)

cond_shown : {X Y : Type 0} (f : X → Y) (b : Bool) (v w : X) (x y : Option X) → f w ≡ f v → option_map f y ≡ option_map f x → option_map f (cond b (Some w) y) ≡ option_map f (cond b (Some v) x)
cond_shown f true v w x y row rest = ap Some row
cond_shown f false v w x y row rest = rest

none_shown : {X Y : Type 0} (f : X → Y) (b : Bool) (x y : Option X) → option_map f y ≡ option_map f x → option_map f (cond b None y) ≡ option_map f (cond b None x)
none_shown f true x y rest = refl
none_shown f false x y rest = rest

module _ {K X Y : Type 0} {R : K → K → Ordering} (o : IsTotalOrder R) (f : X → Y) where
  pub insert_shown : (a b : FinMap R X) (k : K) (v w : X) (q : K) → f w ≡ f v → option_map f (map.get b q) ≡ option_map f (map.get a q) →
      option_map f (map.get (map.insert b k w) q) ≡ option_map f (map.get (map.insert a k v) q)
  insert_shown a b k v w q row rest =
      ap (option_map f) (get-insert o b k w q) ∙ (cond_shown f (eq_by_cmp R q k) v w (map.get a q) (map.get b q) row rest ∙ sym (ap (option_map f) (get-insert o a k v q)))

  pub remove_shown : (a b : FinMap R X) (k q : K) → option_map f (map.get b q) ≡ option_map f (map.get a q) →
      option_map f (map.get (map.remove b k) q) ≡ option_map f (map.get (map.remove a k) q)
  remove_shown a b k q rest =
      ap (option_map f) (get-remove o b k q) ∙ (none_shown f (eq_by_cmp R q k) (map.get a q) (map.get b q) rest ∙ sym (ap (option_map f) (get-remove o a k q)))
