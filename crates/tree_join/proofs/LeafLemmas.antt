-- A row taken out of a leaf.
use Rattle.std.proofs.Common.{◌≡◌, ℕ, suc, ◌<◌, ℤ, ◌≤ℤ◌, ◌<ℤ◌, List, [], ◌∷◌, ◌++◌, length, take, drop, get_or, refl, sym, ap, subst, ◌∙◌, arith}
use Rattle.std.specs.List.{AllByRecursion}
use Rattle.std.proofs.lemmas.List.{take-append-drop}
use Rattle.tree_page.specs.declared.cell.LeafCell.{LeafCell}
use Rattle.tree_model.proofs.IntLemmas.{le_is, not_le_is}
use Rattle.tree_plan.specs.Plan.{IsPlace}
use Rattle.tree_plan.proofs.LeafLemmas.{head_at}
use Rattle.tree_join.specs.Leaf.{other_cells}

others_front : (key : ℤ) (xs ys : List LeafCell) → AllByRecursion (λ c. c.rowid <ℤ key) xs → other_cells key (xs ++ ys) ≡ xs ++ other_cells key ys
others_front key [] ys less = refl
others_front key (x ∷ xs) ys less = let a = not_le_is key x.rowid less.0 in let b = others_front key xs ys less.1 in cc

others_here : (key : ℤ) (c : LeafCell) (more : List LeafCell) → c.rowid ≡ key → other_cells key (c ∷ more) ≡ more
others_here key c more same =
    let a = le_is key c.rowid (subst (λ k. key ≤ℤ k) (sym same) (self_le key)) in
    let b = le_is c.rowid key (subst (λ k. k ≤ℤ key) (sym same) (self_le key)) in
    cc
  where
    self_le : (k : ℤ) → k ≤ℤ k
    self_le k = grind arith

-- the cell at its place is the one that goes
pub others_at : (key : ℤ) (cells : List LeafCell) (at : ℕ) (c : LeafCell) → IsPlace key cells at → at < length cells → c ≡ get_or cells at c → c.rowid ≡ key →
    take at cells ++ drop (suc at) cells ≡ other_cells key cells
others_at key cells at c is within here same =
    let split : cells ≡ take at cells ++ (c ∷ drop (suc at) cells) =
    sym (take-append-drop at cells) ∙ ap (λ (l : List LeafCell). take at cells ++ l) (head_at at cells c within ∙ ap (λ (x : LeafCell). x ∷ drop (suc at) cells) (sym here)) in
    sym (ap (other_cells key) split ∙ others_front key (take at cells) (c ∷ drop (suc at) cells) is.before ∙ ap (λ (l : List LeafCell). take at cells ++ l) (others_here key c (drop (suc at) cells) same))

-- a place of a key and among cells under other names
pub place_in : (key' key : ℤ) (seen cells : List LeafCell) (at : ℕ) → key' ≡ key → seen ≡ cells → IsPlace key' seen at → IsPlace key cells at
place_in key' key seen cells at same are is =
    let P : ℤ → Type 0 = λ k. IsPlace k seen at in let Q : List LeafCell → Type 0 = λ l. IsPlace key l at in subst Q are (subst P same is)
