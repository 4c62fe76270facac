-- How many pages a removal needs at most.
use Rattle.std.proofs.Common.{◌≡◌, inl, inr, ℕ, ◌+◌, ◌*◌, ◌≤◌, ℤ, List, [], ◌∷◌, ◌++◌, length, map, sym, ap, subst, ◌∙◌, arith}
use Rattle.std.proofs.lemmas.List.{length-map, length-reverse}
use Rattle.db_format.specs.Header.{greatest_length}
use Rattle.page_list.specs.Pages.{Pages}
use Rattle.page_list.specs.Freelist.{Trunk, free_pages, first_trunk, take_each}
use Rattle.page_list.specs.Edits.{after_takes}
use Rattle.tree_page.specs.declared.cell.LeafCell.{LeafCell}
use Rattle.tree_page.specs.Laws.{FrontApart}
use Rattle.tree_page.specs.Page.{OnePage}
use Rattle.tree_model.specs.Tree.{Row, Tree, Leaf, rows_of}
use Rattle.tree_model.specs.Whole.{below_all, greatest, IsWholeTree}
use Rattle.tree_model.specs.Laws.{shown}
use Rattle.tree_model.specs.declared.level.Level.{Level}
use Rattle.tree_model.proofs.IntLemmas.{le_is, not_le_is, by_le}
use Rattle.tree_laws.proofs.CountLemmas.{pages_add_up}
use Rattle.tree_laws.proofs.DeepLemmas.{whole_one}
use Rattle.tree_put.specs.Way.{Beside, tree_over, IsWay}
use Rattle.tree_put.proofs.WayLemmas.{way_from, held_from}
use Rattle.tree_put.proofs.TookLemmas.{took}
use Rattle.tree_put.proofs.LargeLemmas.{no_trunk, rows_over, leaf_some}
use Rattle.tree_removed.specs.Keeps.{without_shown}
use Rattle.tree_removed.specs.Large.{RemoveMayBeLarge}

-- at most one row is taken out
without_long : (key : ℤ) (rows : List (ℤ × List ℕ)) → length rows ≤ length (without_shown key rows) + 1
without_long key [] = omega arith
without_long key (r ∷ more) =
    let rest = without_long key more in
    let L : List (ℤ × List ℕ) → ℕ = λ l. length l in
    by_le key r.0
    (λ at. let a = le_is key r.0 at in
    by_le r.0 key
    (λ back. let b = le_is r.0 key back in
    let e : without_shown key (r ∷ more) ≡ more = cc in omega (arith, ap L e))
    (λ above. let b = not_le_is r.0 key above in
    let e : without_shown key (r ∷ more) ≡ r ∷ more = cc in omega (arith, ap L e)))
    (λ past. let a = not_le_is key r.0 past in
    let e : without_shown key (r ∷ more) ≡ r ∷ without_shown key more = cc in omega (arith, rest, ap L e))

-- a tree has as many rows as the way has interior pages
many_rows : (old : Pages) (root : ℕ) (tree : Tree) (key : ℤ) (levels : List Level) (page : ℕ) (cells : List LeafCell) → IsWholeTree old root tree
    → IsWay key tree levels page cells → length levels ≤ length (rows_of tree)
many_rows old root tree key levels page cells whole way =
    let rows : List Row = way.rows in
    let steps : List Beside = way.steps in
    let child : Tree = Leaf page rows in
    let held = held_from old root tree key levels page cells whole way in
    let over = rows_over old below_all greatest key 1 child steps way.beside held.standing in
    let tree_is : length (rows_of tree) ≡ length (rows_of (tree_over child steps)) = ap (λ (t : Tree). length (rows_of t)) way.is in
    let level_in : Beside → Level = λ s. s.level in
    let long : length levels ≡ length steps = sym (length-reverse levels) ∙ ap (λ (l : List Level). length l) way.levels_are ∙ length-map steps level_in in
    elim (leaf_some old below_all greatest 1 child steps held.standing) [
      | inl none ↦ omega (arith, long, ap (λ (l : List Beside). length l) none)
      | inr some ↦ omega (arith, some, over.1, tree_is, long)
    ]

pub remove_may_be_large : FrontApart → OnePage → RemoveMayBeLarge
remove_may_be_large front_apart one_page page_size old stopped root key roots before behind tree trunks s whole rooted =
    let trees : List Tree = before ++ tree ∷ behind in
    let E : Pages → Type 0 = λ p. p.size * page_size ≤ greatest_length in
    let Z : Pages → Type 0 = λ p. first_trunk p ≡ 0 in
    let t = took front_apart page_size s.count old roots trees trunks s.size_of_page s.spare s.sized whole (subst E s.pages_are s.few) in
    let none = no_trunk (after_takes page_size s.count old) (take_each s.count trunks) t.whole.freelist (subst Z s.pages_are s.none_free) in
    let one = whole_one old roots before behind tree whole.each_tree in
    let T : ℕ → Type 0 = λ r. IsWholeTree old r tree in
    let tree_whole : IsWholeTree old root tree = subst T (sym one.1.rooted ∙ rooted) one.1 in
    let way = way_from one_page s.levels old root tree key s.leaf s.cells tree_whole s.above s.below s.descends in
    let many = many_rows old root tree key s.levels s.leaf s.cells tree_whole way in
    let rows : List (ℤ × List ℕ) = map shown (rows_of tree) in
    omega (
      arith,
      t.counted,
      ap (λ (l : List Trunk). length (free_pages l)) none,
      ap (λ (p : Pages). p.size) s.pages_are,
      pages_add_up old roots trees trunks whole,
      s.fewer,
      many,
      without_long key rows,
      length-map (rows_of tree) shown,
      length-map (without_shown key rows) (λ (row : ℤ × List ℕ). length row.1),
    )
