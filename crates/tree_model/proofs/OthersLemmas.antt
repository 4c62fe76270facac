-- Where the rows of one leaf are replaced, all other trees and the freelist stay.
use Rattle.std.proofs.Common.{◌≡◌, ◌≢◌, ◌⊎◌, inl, inr, ℕ, ◌+◌, ◌≤◌, List, [], ◌∷◌, ◌++◌, sym, ap, subst, ◌∙◌, arith}
use Rattle.std.specs.List.{flat_map, AllZip}
use Rattle.std.proofs.lemmas.Bool.{cases_order, cases_lt}
use Rattle.std.proofs.lemmas.Bool.Decides.{nat_tests}
use Rattle.db_format.specs.Header.{HeaderInFront}
use Rattle.page_list.specs.Pages.{Pages, times, Among, AllDifferent}
use Rattle.page_list.specs.Freelist.{Trunk, AreTrunks, free_pages, first_trunk}
use Rattle.tree_model.specs.Tree.{Row, Tree, Leaf, Child, Right, pages_of, with_leaf}
use Rattle.tree_model.specs.Whole.{IsWholeTree, first_page, used_pages, named_pages}
use Rattle.tree_model.specs.Laws.{Keeps, chains_of, leaf_rows, NewChains, WholeReplaced}
use Rattle.page_list.proofs.ChainLemmas.{times-append, among-front, among-back}
use Rattle.tree_model.proofs.WholeLemmas.{whole_tree_stays, trees_stay, trunks_stay, flat_append}
use Rattle.tree_model.proofs.ReplaceLemmas.{whole_new, pages_change, leaf_named, chains_append}
use Rattle.tree_model.proofs.FrontLemmas.{header_kept, trunk_kept, count_kept}

-- the pages that all but one tree name, and those that all name
abbrev pub others : List ℕ → List Tree → List Tree → List Trunk → ℕ → ℕ
others roots before behind trunks n = times n (first_page roots) + times n (flat_map pages_of before) + times n (flat_map pages_of behind) + times n (free_pages trunks)

pub split_named : (roots : List ℕ) (before behind : List Tree) (tree : Tree) (trunks : List Trunk) (n : ℕ)
    → times n (named_pages roots (before ++ tree ∷ behind) trunks) ≡ others roots before behind trunks n + times n (pages_of tree)
split_named roots before behind tree trunks n =
    let a = times-append n (used_pages roots (before ++ tree ∷ behind)) (free_pages trunks) in
    let b = times-append n (first_page roots) (flat_map pages_of (before ++ tree ∷ behind)) in
    let c = ap (times n) (flat_append before (tree ∷ behind)) in
    let d = times-append n (flat_map pages_of before) (flat_map pages_of (tree ∷ behind)) in
    let e = times-append n (pages_of tree) (flat_map pages_of behind) in
    omega (arith, a, b, c, d, e)

-- the chains of a leaf are pages of its tree
chains_named : (at n : ℕ) (tree : Tree) → times n (chains_of (leaf_rows at tree)) ≤ times n (pages_of tree)
chains_named at n (Leaf page rows) = grind (arith, nat_tests)
chains_named at n (Child child key more) =
    omega (arith, chains_named at n child, chains_named at n more, chains_append n (leaf_rows at child) (leaf_rows at more), times-append n (pages_of child) (pages_of more))
chains_named at n (Right page child) = omega (arith, chains_named at n child)

-- a page that another part names is neither the leaf nor in the chains of its new rows
other_part : (roots : List ℕ) (before behind : List Tree) (tree : Tree) (trunks : List Trunk) (at : ℕ) (rows : List Row) → AllDifferent (named_pages roots (before ++ tree ∷ behind) trunks)
    → Among (pages_of tree) at → NewChains (named_pages roots (before ++ tree ∷ behind) trunks) (leaf_rows at tree) rows → (n : ℕ) → 1 ≤ others roots before behind trunks n → ¬ (Among (at ∷ chains_of rows) n)
other_part roots before behind tree trunks at rows different has chains n some among = elim (cases_order at n) [
  | inl same ↦ let P : ℕ → Type 0 = λ m. Among (pages_of tree) m in
      omega (arith, subst P same has, some, different.once n, split_named roots before behind tree trunks n)
  | inr (inl less) ↦ in_chain (later at n (chains_of rows) among (λ e. omega (arith, less, e)))
  | inr (inr more) ↦ in_chain (later at n (chains_of rows) among (λ e. omega (arith, more, e)))
]
  where
    later : (x m : ℕ) (xs : List ℕ) → Among (x ∷ xs) m → x ≢ m → Among xs m
    later x m xs is other = grind (arith, nat_tests, is, other)

    in_chain : Among (chains_of rows) n → ⊥
    in_chain is = elim (chains.free n is) [
      | inl old ↦ omega (arith, old, some, chains_named at n tree, different.once n, split_named roots before behind tree trunks n)
      | inr none ↦ none (omega (arith, some, split_named roots before behind tree trunks n))
    ]

pub zip_replace : (old new : Pages) (kept : ℕ → Type 0) (roots : List ℕ) (before behind : List Tree) (tree tree' : Tree) → Keeps old new kept
    → ((root : ℕ) → IsWholeTree old root tree → IsWholeTree new root tree') → ((n : ℕ) → Among (flat_map pages_of before) n → kept n) → ((n : ℕ) → Among (flat_map pages_of behind) n → kept n)
    → AllZip (IsWholeTree old) roots (before ++ tree ∷ behind) → AllZip (IsWholeTree new) roots (before ++ tree' ∷ behind)
zip_replace old new kept [] [] behind tree tree' keeps one b h all = absurd all
zip_replace old new kept (root ∷ roots) [] behind tree tree' keeps one b h all = (one root all.0, trees_stay old new kept roots behind keeps h all.1)
zip_replace old new kept [] (t ∷ before) behind tree tree' keeps one b h all = absurd all
zip_replace old new kept (root ∷ roots) (t ∷ before) behind tree tree' keeps one b h all = (
  whole_tree_stays old new kept root t keeps (λ n some. b n (among-front n (pages_of t) _ some)) all.0,
  zip_replace old new kept roots before behind tree tree' keeps one (λ n some. b n (among-back n (pages_of t) _ some)) h all.1,
)

-- no page is named twice afterwards
still_different : (named named' chains chains' : ℕ) → named' + chains ≡ named + chains' → named ≤ 1 → chains' ≤ 1 → chains ≤ named → (1 ≤ chains' → (1 ≤ chains) ⊎ ¬ (1 ≤ named)) → named' ≤ 1
still_different named named' chains chains' e most most' within free = elim (cases_lt 0 chains') [
  | inl some ↦ elim (free (omega (arith, some))) [
    | inl old ↦ omega (arith, e, most, most', old)
    | inr none ↦ omega (arith, e, most', none, within)
  ]
  | inr none ↦ omega (arith, e, most, none)
]

pub whole_replaced : HeaderInFront → WholeReplaced
whole_replaced front old new roots before behind tree trunks at rows whole replaces chains keeps header sized =
    let kept : ℕ → Type 0 = λ page. Among (named_pages roots (before ++ with_leaf at rows tree ∷ behind) trunks) page × ¬ (Among (at ∷ chains_of rows) page) in
    let has = leaf_named at tree replaces.has_leaf in
    let part : (n : ℕ) → 1 ≤ others roots before behind trunks n → kept n = λ n some.
    (omega (arith, some, split_named roots before behind (with_leaf at rows tree) trunks n), other_part roots before behind tree trunks at rows whole.different has chains n some) in
    let free : (n : ℕ) → Among (free_pages trunks) n → kept n = λ n some. part n (omega (arith, some)) in
    let once : AllDifferent (pages_of tree) = record { once = λ n. omega (arith, whole.different.once n, split_named roots before behind tree trunks n) } in
    let P : ℕ → Type 0 = λ n. AreTrunks new n trunks in
    record {
      header = header_kept front old new header keeps.used sized (record { least = whole.header.there.least; most = omega (arith, whole.header.there.most, sized) }) whole.header;
      each_tree = zip_replace old new kept roots before behind tree (with_leaf at rows tree) keeps (λ root is. whole_new old new root tree at rows is replaces)
          (λ n some. part n (omega (arith, some))) (λ n some. part n (omega (arith, some))) whole.each_tree;
      freelist = record {
        linked = subst P (sym (trunk_kept old new header)) (trunks_stay old new kept (first_trunk old) trunks keeps free whole.freelist.linked);
        within = λ n some. (keeps.there n (free n some) (whole.freelist.within n some).0, (whole.freelist.within n some).1);
        different = whole.freelist.different;
      };
      good_free = λ n some. (keeps.same n (free n some)).mark_stays ∙ whole.good_free n some;
      counted = count_kept old new header ∙ whole.counted;
      different = record {
        once = λ n.
            let a = split_named roots before behind tree trunks n in
            let b = split_named roots before behind (with_leaf at rows tree) trunks n in
            let c = pages_change at rows tree once replaces.has_leaf n in
            still_different (times n (named_pages roots (before ++ tree ∷ behind) trunks)) (times n (named_pages roots (before ++ with_leaf at rows tree ∷ behind) trunks))
            (times n (chains_of (leaf_rows at tree))) (times n (chains_of rows)) (omega (arith, a, b, c)) (whole.different.once n) (chains.different.once n)
            (omega (arith, a, chains_named at n tree)) (chains.free n);
      };
    }
