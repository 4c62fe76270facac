-- Every page that is named is there.
use Rattle.std.proofs.Common.{inl, inr, ℕ, nat_eq, Bool, true, false, if◌then◌else◌, List, [], ◌∷◌, ◌++◌, subst, arith}
use Rattle.std.specs.List.{flat_map, AllByRecursion, AllZip}
use Rattle.std.proofs.lemmas.Bool.{cases_lt}
use Rattle.page_list.specs.Pages.{Pages, HasPage, times, Among}
use Rattle.page_list.specs.Freelist.{Trunk, free_pages}
use Rattle.page_list.proofs.ChainLemmas.{times-append, same_or_other}
use Rattle.tree_page.specs.declared.cell.InnerCell.{InnerCell}
use Rattle.tree_model.specs.Tree.{Row, Tree, Leaf, Child, Right, pages_of}
use Rattle.tree_model.specs.Held.{HasRow, HoldsBehind}
use Rattle.tree_model.specs.Whole.{IsWholeTree, IsWholeFor, first_page, used_pages, named_pages}

-- what holds of the numbers of two lists holds of those of both together
pub in_both : (P : ℕ → Type 0) (a b : List ℕ) → ((n : ℕ) → Among a n → P n) → ((n : ℕ) → Among b n → P n) → (n : ℕ) → Among (a ++ b) n → P n
in_both P a b front back n some = elim (cases_lt 0 (times n a)) [
  | inl here ↦ front n (omega (arith, here))
  | inr none ↦ back n (omega (arith, none, some, times-append n a b))
]

in_one : (P : ℕ → Type 0) (page : ℕ) → P page → (n : ℕ) → Among (page ∷ []) n → P n
in_one P page holds n some = elim (same_or_other n page) [
  | inl same ↦ subst P same.0 holds
  | inr other ↦ absurd (omega (arith, other.1, some))
]

chains_there : (pages : Pages) (rows : List Row) → AllByRecursion (HasRow pages) rows → (n : ℕ) → Among (flat_map (λ row. row.chain) rows) n → HasPage pages n
chains_there pages [] has n some = absurd (omega (arith, some))
chains_there pages (row ∷ more) has n some = in_both (HasPage pages) row.chain _ (λ m is. (has.0.chained.walked.each m is).0) (chains_there pages more has.1) n some

tree_there : (pages : Pages) (front : List InnerCell) (tree : Tree) → HoldsBehind pages front tree → (n : ℕ) → Among (pages_of tree) n → HasPage pages n
tree_there pages front (Leaf page rows) holds = in_both (HasPage pages) (page ∷ []) _ (in_one (HasPage pages) page holds.1.there) (chains_there pages rows holds.2)
tree_there pages front (Child child key more) holds = in_both (HasPage pages) (pages_of child) _ (tree_there pages [] child holds.0) (tree_there pages _ more holds.1)
tree_there pages front (Right page child) holds = in_both (HasPage pages) (page ∷ []) _ (in_one (HasPage pages) page holds.0.there) (tree_there pages [] child holds.1)

trees_there : (pages : Pages) (roots : List ℕ) (trees : List Tree) → AllZip (IsWholeTree pages) roots trees → (n : ℕ) → Among (flat_map pages_of trees) n → HasPage pages n
trees_there pages roots [] whole n some = absurd (omega (arith, some))
trees_there pages [] (tree ∷ trees) whole n some = absurd whole
trees_there pages (root ∷ roots) (tree ∷ trees) whole n some =
    in_both (HasPage pages) (pages_of tree) _ (tree_there pages [] tree whole.0.held) (trees_there pages roots trees whole.1) n some

first_there : (pages : Pages) (none : Bool) → HasPage pages 1 → (n : ℕ) → Among (if none then 1 ∷ [] else []) n → HasPage pages n
first_there pages true one n some = in_one (HasPage pages) 1 one n some
first_there pages false one n some = absurd (omega (arith, some))

pub used_there : (pages : Pages) (roots : List ℕ) (trees : List Tree) (trunks : List Trunk) → IsWholeFor pages roots trees trunks
    → (n : ℕ) → Among (used_pages roots trees) n → HasPage pages n
used_there pages roots trees trunks whole =
    in_both (HasPage pages) (first_page roots) (flat_map pages_of trees)
    (first_there pages (nat_eq (times 1 roots) 0) whole.header.there) (trees_there pages roots trees whole.each_tree)

pub named_there : (pages : Pages) (roots : List ℕ) (trees : List Tree) (trunks : List Trunk) → IsWholeFor pages roots trees trunks → (n : ℕ)
    → Among (named_pages roots trees trunks) n → HasPage pages n
named_there pages roots trees trunks whole =
    in_both (HasPage pages) (used_pages roots trees) (free_pages trunks) (used_there pages roots trees trunks whole) (λ n some. (whole.freelist.within n some).0)
