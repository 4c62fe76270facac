-- What the calls of `lru` leave, seen as the list of the pages.
use Rattle.std.proofs.Common.{◌≡◌, ℕ, ◌-◌, nat_eq, Bool, true, false, cond, List, [], ◌∷◌, map, take, Option, Some, None, option_map, refl, sym, ap, ◌∙◌}
use Rattle.std.specs.Map.{lookup_entry, remove_entry}
use Rattle.std.specs.Option.{option_map_or}
use Rattle.std.proofs.lemmas.List.{take-map}
use Rattle.lru.specs.LruCache.{lru_cache, promoted, put_entries}

-- entries with each value seen by a function
module _ {V : Type 0} (seen : V → List ℕ) where
  abbrev pub shown : List (ℕ × V) → List (ℕ × List ℕ)
  shown = map (λ e. (e.0, seen e.1))

  abbrev pub shown_entry : ℕ × V → ℕ × List ℕ
  shown_entry e = (e.0, seen e.1)

  module _ (test : ℕ → Bool) where
    lookup_entry-shown : (es : List (ℕ × V)) → lookup_entry test (shown es) ≡ option_map shown_entry (lookup_entry test es)
    lookup_entry-shown [] = refl
    lookup_entry-shown (e ∷ es) = by (test e.0) (lookup_entry-shown es)
      where
        by : (b : Bool) → lookup_entry test (shown es) ≡ option_map shown_entry (lookup_entry test es) → cond b (Some (shown_entry e)) (lookup_entry test (shown es)) ≡ option_map shown_entry (cond b (Some e) (lookup_entry test es))
        by true rest = refl
        by false rest = rest

    remove_entry-shown : (es : List (ℕ × V)) → remove_entry test (shown es) ≡ shown (remove_entry test es)
    remove_entry-shown [] = refl
    remove_entry-shown (e ∷ es) = by (test e.0) (remove_entry-shown es)
      where
        by : (b : Bool) → remove_entry test (shown es) ≡ shown (remove_entry test es) → cond b (shown es) (shown_entry e ∷ remove_entry test (shown es)) ≡ shown (cond b es (e ∷ remove_entry test es))
        by true rest = refl
        by false rest = ap (λ l. shown_entry e ∷ l) rest

    pub shown-promoted : (es : List (ℕ × V)) → shown (promoted test es) ≡ promoted test (shown es)
    shown-promoted es = by (lookup_entry test es) ∙ ap (λ o. option_map_or (λ e. e ∷ remove_entry test (shown es)) o (shown es)) (sym (lookup_entry-shown es))
      where
        by : (o : Option (ℕ × V)) → shown (option_map_or (λ e. e ∷ remove_entry test es) o es) ≡ option_map_or (λ e. e ∷ remove_entry test (shown es)) (option_map shown_entry o) (shown es)
        by None = refl
        by (Some e) = ap (λ l. shown_entry e ∷ l) (sym (remove_entry-shown es))

  pub shown-put_entries : (es : List (ℕ × V)) (cap number : ℕ) (v : V) → shown (put_entries nat_eq (lru_cache es cap) number v) ≡ put_entries nat_eq (lru_cache (shown es) cap) number (seen v)
  shown-put_entries es cap number v = by (lookup_entry (nat_eq number) es)
      ∙ ap (λ o. option_map_or (λ e. (e.0, seen v) ∷ remove_entry (nat_eq number) (shown es)) o ((number, seen v) ∷ take (cap - 1) (shown es))) (sym (lookup_entry-shown (nat_eq number) es))
    where
      by : (o : Option (ℕ × V)) → shown (option_map_or (λ e. (e.0, v) ∷ remove_entry (nat_eq number) es) o ((number, v) ∷ take (cap - 1) es))
          ≡ option_map_or (λ e. (e.0, seen v) ∷ remove_entry (nat_eq number) (shown es)) (option_map shown_entry o) ((number, seen v) ∷ take (cap - 1) (shown es))
      by None = ap (λ l. (number, seen v) ∷ l) (sym (take-map shown_entry (cap - 1) es))
      by (Some e) = ap (λ l. (e.0, seen v) ∷ l) (sym (remove_entry-shown (nat_eq number) es))
