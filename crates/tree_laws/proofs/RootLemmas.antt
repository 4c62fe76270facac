-- A root other than page 1 is left out.
use Rattle.std.proofs.Common.{◌≡◌, ◌≢◌, ℕ, ◌+◌, nat_eq, if◌then◌else◌, List, [], ◌∷◌, ◌++◌, length, ap, ◌∙◌, arith}
use Rattle.std.specs.List.{flat_map, AllZip}
use Rattle.page_list.specs.Pages.{Pages, times}
use Rattle.page_list.specs.Freelist.{Trunk, free_pages}
use Rattle.page_list.proofs.ChainLemmas.{times-append, times-other}
use Rattle.tree_model.specs.Tree.{Tree, pages_of}
use Rattle.tree_model.specs.Whole.{IsWholeTree, first_page, used_pages, named_pages}
use Rattle.tree_model.proofs.WholeLemmas.{flat_append}
use Rattle.tree_model.proofs.OthersLemmas.{others, split_named}
use Rattle.tree_laws.specs.Whole.{RootRemoved}

zip_removed : (pages : Pages) (front back : List ℕ) (root : ℕ) (before behind : List Tree) (tree : Tree) → length front ≡ length before
    → AllZip (IsWholeTree pages) (front ++ root ∷ back) (before ++ tree ∷ behind) → AllZip (IsWholeTree pages) (front ++ back) (before ++ behind)
zip_removed pages [] back root [] behind tree long all = all.1
zip_removed pages [] back root (t ∷ before) behind tree long all = absurd (omega (arith, long))
zip_removed pages (r ∷ front) back root [] behind tree long all = absurd (omega (arith, long))
zip_removed pages (r ∷ front) back root (t ∷ before) behind tree long all = (all.0, zip_removed pages front back root before behind tree (omega (arith, long)) all.1)

-- page 1 is named for the header as often as before
first_stays : (front back : List ℕ) (root : ℕ) → root ≢ 1 → first_page (front ++ root ∷ back) ≡ first_page (front ++ back)
first_stays front back root other =
    let same : times 1 (front ++ root ∷ back) ≡ times 1 (front ++ back) =
    omega (arith, times-append 1 front (root ∷ back), times-append 1 (root ∷ []) back, times-append 1 front back, times-other 1 root other) in
    ap (λ n. if nat_eq n 0 then 1 ∷ [] else []) same

-- how often a page is named but by this tree
rest_named : (front back : List ℕ) (root : ℕ) (before behind : List Tree) (trunks : List Trunk) (n : ℕ) → root ≢ 1
    → times n (named_pages (front ++ back) (before ++ behind) trunks) ≡ others (front ++ root ∷ back) before behind trunks n
rest_named front back root before behind trunks n other =
    let a = times-append n (used_pages (front ++ back) (before ++ behind)) (free_pages trunks) in
    let b = times-append n (first_page (front ++ back)) (flat_map pages_of (before ++ behind)) in
    let c = ap (times n) (flat_append before behind) ∙ times-append n (flat_map pages_of before) (flat_map pages_of behind) in
    let d = ap (times n) (first_stays front back root other) in
    omega (arith, a, b, c, d)

-- so it is named as often as without it, and as often as the tree has it
pub removed_count : (front back : List ℕ) (root : ℕ) (before behind : List Tree) (tree : Tree) (trunks : List Trunk) (n : ℕ) → root ≢ 1
    → times n (named_pages (front ++ root ∷ back) (before ++ tree ∷ behind) trunks) ≡ times n (named_pages (front ++ back) (before ++ behind) trunks) + times n (pages_of tree)
removed_count front back root before behind tree trunks n other =
    omega (arith, split_named (front ++ root ∷ back) before behind tree trunks n, rest_named front back root before behind trunks n other)

pub root_removed : RootRemoved
root_removed pages front back root before behind tree trunks long other whole =
    let named : List ℕ = named_pages (front ++ root ∷ back) (before ++ tree ∷ behind) trunks in
    let left : List ℕ = named_pages (front ++ back) (before ++ behind) trunks in
    let rest : (n : ℕ) → times n named ≡ times n left + times n (pages_of tree) =
    λ n. removed_count front back root before behind tree trunks n other in (
      record {
        header = whole.header;
        each_tree = zip_removed pages front back root before behind tree long whole.each_tree;
        freelist = whole.freelist;
        good_free = whole.good_free;
        counted = whole.counted;
        different = record { once = λ n. omega (arith, rest n, whole.different.once n) };
      },
      λ n some still. omega (arith, rest n, whole.different.once n, some, still),
    )
