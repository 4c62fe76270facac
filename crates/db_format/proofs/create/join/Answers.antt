use Rattle.std.proofs.Common.{◌≡◌, ℕ, ◌-◌, ◌≤◌, List, [], ◌∷◌, ◌++◌, length, get_or, take, drop, sym, ap, ◌∙◌, arith, append_assoc, rules}
use Rattle.std.proofs.lemmas.List.{take_all}
use Rattle.std.specs.List.{flat_map, join_with_byte}
use Rattle.db_format.proofs.ColumnLemmas.{join_is}
use Rattle.db_format.proofs.create.join.Goals as goal

-- the first name, and each other behind a comma, are the names with commas between them
joined : (names : List (List ℕ)) (first old begun new : List ℕ) (count : ℕ) → 1 ≤ length names → first ≡ get_or names 0 first
    → begun ≡ old ++ first → length (take (length names - 1) (drop 1 names)) ≤ count
    → new ≡ begun ++ flat_map (λ (y : List ℕ). 44 ∷ y) (take count (take (length names - 1) (drop 1 names))) → new ≡ old ++ join_with_byte 44 names
joined [] first old begun new count some first_is begun_is all new_is = absurd (omega arith)
joined (x ∷ xs) first old begun new count some first_is begun_is all new_is =
    let rest : take (length (x ∷ xs) - 1) xs ≡ xs = take_all (length (x ∷ xs) - 1) xs (omega arith) in
    let whole : take count (take (length (x ∷ xs) - 1) xs) ≡ xs = take_all count _ all ∙ rest in
    new_is ∙ ap (λ b. b ++ flat_map (λ (y : List ℕ). 44 ∷ y) (take count (take (length (x ∷ xs) - 1) xs))) (begun_is ∙ ap (λ f. old ++ f) first_is)
    ∙ ap (λ ys. (old ++ x) ++ flat_map (λ (y : List ℕ). 44 ∷ y) ys) whole
    ∙ append_assoc old x _ ∙ ap (λ t. old ++ t) (sym (join_is x xs))

pub returns : goal.returns
returns c =
    joined c.args.names.now c.first-item.result c.args.text.now.items c.extend_from_slice.new.self.items c.loop-name.text.items c.loop-name.name-index
    c.in-len1-up.len_at_least c.first-item.is (search rules) c.loop-name-test.false c.loop-name.invariant
