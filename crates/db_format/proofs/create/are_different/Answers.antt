use Rattle.std.proofs.Common.{refl, ◌≡◌, ◌≢◌, ℕ, ◌+◌, ◌<◌, List, [], ◌∷◌, ◌++◌, length, get_or, take, AllPairs, Contains, sym, ap, ◌∙◌, subst}
use Rattle.std.proofs.lemmas.List.{take_more, take_all, get_or_default}
use Rattle.std.proofs.lemmas.List.Quantifiers.{all_pairs_push}
use Rattle.db_format.proofs.create.are_different.Goals as goal

-- one more name that is not among those before
different_more : (names : List (List ℕ)) (at : ℕ) (item : List ℕ) → at < length names → item ≡ get_or names at item
    → (Contains (take at names) item → ⊥) → AllPairs (λ a b. a ≢ b) (take at names) → AllPairs (λ a b. a ≢ b) (take (at + 1) names)
different_more names at item within item_is apart different =
    let longer : take (at + 1) names ≡ take at names ++ item ∷ [] =
    take_more names at item within ∙ ap (λ x. take at names ++ x ∷ []) (sym item_is) in
    subst (AllPairs (λ a b. a ≢ b)) (sym longer)
    (all_pairs_push (λ a b. a ≢ b) (take at names) item different
    (λ k d before same. apart (k, before, get_or_default (take at names) k item d before ∙ same)))

pub loop-at-preserved : goal.loop-at-preserved
loop-at-preserved c =
    different_more c.args.names.now c.loop-at.at c.index-names-at.result c.loop-at-test.true c.index-names-at.is
    (λ among. let found = c.contains.ensures.1 (subst (Contains (take c.loop-at.at c.args.names.now)) (sym c.as_slice.ensures) among) in absurd (cc))
    c.loop-at.invariant

pub returns : goal.returns
returns c = (λ _. subst (AllPairs (λ a b. a ≢ b)) (take_all c.loop-at.at c.args.names.now c.loop-at-test.false) c.loop-at.invariant, λ _. refl)
