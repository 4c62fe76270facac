-- The pages that nothing names, page by page.
use Rattle.std.proofs.Common.{◌≡◌, ◌≢◌, ℕ, zero, suc, ◌-◌, Bool, true, false, cond, nat_lt, List, [], ◌∷◌, ◌++◌, map, reverse, refl, sym, ap, ◌∙◌, arith}
use Rattle.std.proofs.lemmas.Bool.Decides.{Decides-ltb, not_from_Decides}
use Rattle.std.proofs.lemmas.List.{append-nil, append_assoc, reverse-append, map-append}
use Rattle.page_list.specs.Pages.{times}
use Rattle.tree_laws.specs.Whole.{missing_in}

module _ (bytes : ℕ → List ℕ) (named : List ℕ) where
  abbrev listed : ℕ → List (ℕ × List ℕ)
  listed n = map (λ n. (n, bytes n)) (reverse (missing_in named n))

  back : (n : ℕ) → suc n - 1 ≡ n
  back n = omega arith

  pub none_listed : (n : ℕ) (all : List (ℕ × List ℕ)) → n ≡ 0 → all ≡ all ++ listed n
  none_listed zero all none = sym (append-nil all)
  none_listed (suc n) all none = absurd (omega (arith, none))

  pub listed_same : (n : ℕ) (old new : List (ℕ × List ℕ)) → n ≢ 0 → times n named ≢ 0 → new ≡ old ++ listed (n - 1) → new ≡ old ++ listed n
  listed_same zero old new some among is = absurd (some refl)
  listed_same (suc n) old new some among is = is ∙ ap (λ (m : ℕ). old ++ listed m) (back n) ∙ ap (λ (l : List ℕ). old ++ map (λ n. (n, bytes n)) (reverse l)) (sym (by (nat_lt 0 (times (suc n) named)) refl))
    where
      by : (b : Bool) → nat_lt 0 (times (suc n) named) ≡ b → cond b (missing_in named n) (suc n ∷ missing_in named n) ≡ missing_in named n
      by true e = refl
      by false e = absurd (not_from_Decides (nat_lt 0 (times (suc n) named)) (Decides-ltb 0 (times (suc n) named)) e (omega (arith, among)))

  pub listed_more : (n : ℕ) (old mid new : List (ℕ × List ℕ)) (content : List ℕ) → n ≢ 0 → times n named ≡ 0 → content ≡ bytes n → mid ≡ old ++ listed (n - 1) → new ≡ mid ++ (n, content) ∷ [] → new ≡ old ++ listed n
  listed_more zero old mid new content some among held is grown = absurd (some refl)
  listed_more (suc n) old mid new content some among held is grown =
      let missing : missing_in named (suc n) ≡ suc n ∷ missing_in named n = by (nat_lt 0 (times (suc n) named)) refl in
      let turned : reverse (missing_in named (suc n)) ≡ reverse (missing_in named n) ++ suc n ∷ [] = ap reverse missing ∙ reverse_more (suc n) (missing_in named n) in
      grown ∙ (λ i. is i ++ (suc n, held i) ∷ []) ∙ ap (λ (m : ℕ). (old ++ listed m) ++ (suc n, bytes (suc n)) ∷ []) (back n) ∙ append_assoc old (listed n) ((suc n, bytes (suc n)) ∷ [])
      ∙ ap (λ (l : List (ℕ × List ℕ)). old ++ l) (sym (ap (map (λ n. (n, bytes n))) turned ∙ map-append (λ n. (n, bytes n)) (reverse (missing_in named n)) (suc n ∷ [])))
    where
      by : (b : Bool) → nat_lt 0 (times (suc n) named) ≡ b → cond b (missing_in named n) (suc n ∷ missing_in named n) ≡ suc n ∷ missing_in named n
      by true e = absurd (omega (arith, among, (Decides-ltb 0 (times (suc n) named)).0 e))
      by false e = refl

      reverse_more : (x : ℕ) (xs : List ℕ) → reverse (x ∷ xs) ≡ reverse xs ++ x ∷ []
      reverse_more x xs = reverse-append (x ∷ []) xs
