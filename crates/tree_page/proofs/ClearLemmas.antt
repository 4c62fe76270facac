use Rattle.std.proofs.Common.{◌≡◌, ℕ, ◌+◌, ◌≤◌, ◌<◌, ◌⊎◌, inl, inr, Bool, true, false, List, ◌∷◌, sym, ◌∙◌}
use Rattle.std.proofs.lemmas.Bool.{cases_lt}
use Rattle.tree_page.specs.Page.{Extent, Within}
use Rattle.tree_page.specs.Steps.{IsClear, Marks, AreClear}

-- whether a place is one of an extent
pub within_or : (e : Extent) (place : ℕ) → Within e place ⊎ ((place < e.place) ⊎ (e.place + e.size ≤ place))
within_or e place =
    elim (cases_lt place e.place) [
      | inl before ↦ inr (inl before)
      | inr low ↦ elim (cases_lt place (e.place + e.size)) [ inl high ↦ inl (low, high) | inr behind ↦ inr (inr behind) ]
    ]

true_false : (b : Bool) → b ≡ true → b ≡ false → ⊥
true_false b set clear = let e : true ≡ false = sym set ∙ clear in cc

-- an extent is marked in front of others that are clear of the marks
pub clear_more : (old new : List Bool) (e : Extent) (es : List Extent) → IsClear old e → Marks old new e → AreClear new es → AreClear old (e ∷ es)
clear_more old new e es clear marks rest = record {
  apart = (λ place within covered. true_false _ (marks.inside place within) (rest.clear place covered), rest.apart);
  clear = λ place covered. elim covered [
    | inl within ↦ clear place within
    | inr behind ↦ elim (within_or e place) [
      | inl within ↦ absurd (true_false _ (marks.inside place within) (rest.clear place behind))
      | inr beside ↦ sym (marks.beside place beside) ∙ rest.clear place behind
    ]
  ];
}

-- what is clear with the extent is clear of its marks
pub clear_rest : (old new : List Bool) (e : Extent) (es : List Extent) → Marks old new e → AreClear old (e ∷ es) → AreClear new es
clear_rest old new e es marks all = record {
  apart = all.apart.1;
  clear = λ place covered. elim (within_or e place) [
    | inl within ↦ absurd (all.apart.0 place within covered)
    | inr beside ↦ marks.beside place beside ∙ all.clear place (inr covered)
  ];
}

pub clear_first : (old : List Bool) (e : Extent) (es : List Extent) → AreClear old (e ∷ es) → IsClear old e
clear_first old e es all = λ place within. all.clear place (inl within)
