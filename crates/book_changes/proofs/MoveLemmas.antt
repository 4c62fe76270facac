-- The roots of whole pages in another order, with their trees.
use Rattle.std.proofs.Common.{◌≡◌, ◌≢◌, ℕ, ◌+◌, ◌≤◌, nat_eq, if◌then◌else◌, List, [], ◌∷◌, ◌++◌, length, sym, ap, subst, ◌∙◌, arith, length-append}
use Rattle.std.proofs.lemmas.Bool.Decides.{nat_tests}
use Rattle.std.specs.List.{flat_map}
use Rattle.page_list.specs.Pages.{Pages, times, Among}
use Rattle.page_list.specs.Freelist.{Trunk, free_pages}
use Rattle.page_list.proofs.ChainLemmas.{times-append, among-here}
use Rattle.tree_model.specs.Tree.{Tree, Leaf, Child, Right, pages_of}
use Rattle.tree_model.specs.Whole.{IsWholeTree, IsWholeFor, first_page, used_pages, named_pages}
use Rattle.tree_model.specs.Need.{use_of as pages_in_use}
use Rattle.tree_model.proofs.WholeLemmas.{flat_append, root_named}
use Rattle.tree_model.proofs.OthersLemmas.{split_named}
use Rattle.book_changes.proofs.TableLemmas.{zip_append, zip_at}

first_alike : (a b : List ℕ) → times 1 a ≡ times 1 b → first_page a ≡ first_page b
first_alike a b same = ap (λ n. if nat_eq n 0 then 1 ∷ [] else []) same

moved_times : (n root : ℕ) (front back : List ℕ) → times n ((front ++ back) ++ root ∷ []) ≡ times n (front ++ root ∷ back)
moved_times n root front back =
    omega (arith, times-append n (front ++ back) (root ∷ []), times-append n front back, times-append n front (root ∷ back), times-append n (root ∷ []) back)

-- as often as before
pub moved_named : (front back : List ℕ) (root : ℕ) (before behind : List Tree) (tree : Tree) (trunks : List Trunk) (n : ℕ)
    → times n (named_pages ((front ++ back) ++ root ∷ []) ((before ++ behind) ++ tree ∷ []) trunks) ≡ times n (named_pages (front ++ root ∷ back) (before ++ tree ∷ behind) trunks)
moved_named front back root before behind tree trunks n =
    let roots : List ℕ = (front ++ back) ++ root ∷ [] in
    let roots' : List ℕ = front ++ root ∷ back in
    let trees : List Tree = (before ++ behind) ++ tree ∷ [] in
    let trees' : List Tree = before ++ tree ∷ behind in
    let a = times-append n (used_pages roots trees) (free_pages trunks) in
    let b = times-append n (first_page roots) (flat_map pages_of trees) in
    let c = ap (times n) (flat_append (before ++ behind) (tree ∷ [])) ∙ times-append n (flat_map pages_of (before ++ behind)) (flat_map pages_of (tree ∷ [])) in
    let d = ap (times n) (flat_append before behind) ∙ times-append n (flat_map pages_of before) (flat_map pages_of behind) in
    let e = times-append n (used_pages roots' trees') (free_pages trunks) in
    let f = times-append n (first_page roots') (flat_map pages_of trees') in
    let g = ap (times n) (flat_append before (tree ∷ behind)) ∙ times-append n (flat_map pages_of before) (flat_map pages_of (tree ∷ behind)) in
    let h = times-append n (pages_of tree) (flat_map pages_of behind) in
    let i = times-append n (pages_of tree) [] in
    let j = ap (times n) (first_alike roots roots' (moved_times 1 root front back)) in
    omega (arith, a, b, c, d, e, f, g, h, i, j)

-- and as many pages are in use
pub moved_use : (front back : List ℕ) (root : ℕ) (before behind : List Tree) (tree : Tree)
    → pages_in_use ((front ++ back) ++ root ∷ []) ((before ++ behind) ++ tree ∷ []) ≡ pages_in_use (front ++ root ∷ back) (before ++ tree ∷ behind)
moved_use front back root before behind tree =
    let roots : List ℕ = (front ++ back) ++ root ∷ [] in
    let roots' : List ℕ = front ++ root ∷ back in
    let long : List ℕ → ℕ = λ l. length l in
    let b = length-append (first_page roots) (flat_map pages_of ((before ++ behind) ++ tree ∷ [])) in
    let c = ap long (flat_append (before ++ behind) (tree ∷ [])) ∙ length-append (flat_map pages_of (before ++ behind)) (flat_map pages_of (tree ∷ [])) in
    let d = ap long (flat_append before behind) ∙ length-append (flat_map pages_of before) (flat_map pages_of behind) in
    let f = length-append (first_page roots') (flat_map pages_of (before ++ tree ∷ behind)) in
    let g = ap long (flat_append before (tree ∷ behind)) ∙ length-append (flat_map pages_of before) (flat_map pages_of (tree ∷ behind)) in
    let h = length-append (pages_of tree) (flat_map pages_of behind) in
    let i = length-append (pages_of tree) [] in
    let j = ap long (first_alike roots roots' (moved_times 1 root front back)) in
    omega (arith, b, c, d, f, g, h, i, j)

-- whole pages stay whole for the same roots in another order: the last one with its tree stands between others
pub whole_moved : (pages : Pages) (front back : List ℕ) (root : ℕ) (before behind : List Tree) (tree : Tree) (trunks : List Trunk) → length front ≡ length before → length back ≡ length behind
    → IsWholeFor pages ((front ++ back) ++ root ∷ []) ((before ++ behind) ++ tree ∷ []) trunks → IsWholeFor pages (front ++ root ∷ back) (before ++ tree ∷ behind) trunks
whole_moved pages front back root before behind tree trunks long long' whole =
    let both : length (front ++ back) ≡ length (before ++ behind) = omega (arith, long, long', length-append front back, length-append before behind) in
    let first = zip_at (IsWholeTree pages) (front ++ back) (root ∷ []) (before ++ behind) (tree ∷ []) both whole.each_tree in
    let parts = zip_at (IsWholeTree pages) front back before behind long first.0 in
    record {
      header = whole.header;
      each_tree = zip_append (IsWholeTree pages) front (root ∷ back) before (tree ∷ behind) parts.0 (first.1.0, parts.1);
      freelist = whole.freelist;
      good_free = whole.good_free;
      counted = whole.counted;
      different = record { once = λ n. omega (arith, whole.different.once n, moved_named front back root before behind tree trunks n) };
    }

pub none_first : (roots : List ℕ) → length (first_page (1 ∷ roots)) ≡ 0
none_first roots = grind (arith, nat_tests)

-- one page more is in use where a root without a row comes behind the others
pub one_more_used : (roots : List ℕ) (trees : List Tree) (number : ℕ) → pages_in_use (1 ∷ (roots ++ number ∷ [])) (trees ++ Leaf number [] ∷ []) ≡ pages_in_use (1 ∷ roots) trees + 1
one_more_used roots trees number =
    let long : List ℕ → ℕ = λ l. length l in
    omega (
      arith,
      length-append (first_page (1 ∷ (roots ++ number ∷ []))) (flat_map pages_of (trees ++ Leaf number [] ∷ [])),
      length-append (first_page (1 ∷ roots)) (flat_map pages_of trees),
      ap long (flat_append trees (Leaf number [] ∷ [])) ∙ length-append (flat_map pages_of trees) (number ∷ []),
      none_first roots,
      none_first (roots ++ number ∷ []),
    )

-- a root behind page 1 is another page
pub not_first : (pages : Pages) (roots : List ℕ) (schema : Tree) (trees : List Tree) (number : ℕ) (trunks : List Trunk)
    → IsWholeFor pages (1 ∷ (roots ++ number ∷ [])) (schema ∷ (trees ++ Leaf number [] ∷ [])) trunks → number ≢ 1
not_first pages roots schema trees number trunks whole same =
    let one : Among (pages_of schema) 1 = subst (Among (pages_of schema)) whole.each_tree.0.rooted (root_named schema) in
    let here : Among (number ∷ []) 1 = subst (λ n. Among (n ∷ []) 1) (sym same) (among-here 1 []) in
    let a = split_named (1 ∷ (roots ++ number ∷ [])) [] (trees ++ Leaf number [] ∷ []) schema trunks 1 in
    let b = ap (times 1) (flat_append trees (Leaf number [] ∷ [])) ∙ times-append 1 (flat_map pages_of trees) (number ∷ []) in
    omega (arith, one, here, a, b, whole.different.once 1)

some_page : (tree : Tree) → 1 ≤ length (pages_of tree)
some_page (Leaf page rows) = omega arith
some_page (Child child key more) = omega (arith, some_page child, length-append (pages_of child) (pages_of more))
some_page (Right page child) = omega arith

-- the schema has a page
pub some_used : (roots : List ℕ) (schema : Tree) (trees : List Tree) → 1 ≤ pages_in_use (1 ∷ roots) (schema ∷ trees)
some_used roots schema trees =
    omega (arith, some_page schema, length-append (pages_of schema) (flat_map pages_of trees), length-append (first_page (1 ∷ roots)) (flat_map pages_of (schema ∷ trees)))
