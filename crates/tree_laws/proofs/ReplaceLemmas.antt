-- One tree becomes another, or its top moves to another page.
use Rattle.std.proofs.Common.{◌≡◌, ◌⊎◌, inl, inr, ℕ, zero, suc, ◌+◌, ◌≤◌, ℤ, List, [], ◌∷◌, ◌++◌, refl, sym, ap, subst, ◌∙◌, arith}
use Rattle.std.specs.Int.Signed.{≤ℤ_refl}
use Rattle.std.proofs.lemmas.Bool.{cases_lt}
use Rattle.db_format.specs.Header.{HeaderInFront}
use Rattle.page_list.specs.Pages.{Pages, times, Among}
use Rattle.page_list.specs.Freelist.{AreTrunks, free_pages, first_trunk}
use Rattle.page_list.proofs.TimesLemmas.{times-append, among-front, among-back}
use Rattle.tree_page.specs.declared.cell.InnerCell.{InnerCell}
use Rattle.tree_page.specs.declared.cell.PageCells.{PageCells}
use Rattle.tree_model.specs.Tree.{Row, Tree, Leaf, Child, Right, root_of, rows_of, pages_of, IsOrdered, HasDepth, IsFilled, IsFilledRoot}
use Rattle.tree_model.specs.Held.{HasCells, HoldsBehind}
use Rattle.tree_model.specs.Whole.{named_pages}
use Rattle.tree_model.specs.Laws.{Keeps}
use Rattle.tree_model.proofs.IntLemmas.{le_trans_ℤ, le_lt_ℤ}
use Rattle.tree_model.proofs.StayLemmas.{rows_stay, tree_behind_stays}
use Rattle.tree_model.proofs.PathLemmas.{all_weaker}
use Rattle.tree_model.proofs.WholeLemmas.{trunks_stay}
use Rattle.tree_model.proofs.OthersLemmas.{others, split_named, zip_replace}
use Rattle.tree_model.proofs.FrontLemmas.{header_kept, trunk_kept, count_kept}
use Rattle.tree_laws.specs.Replace.{TreeReplaced, Widens, renumbered, below_top, TopMoved}

-- one tree of the roots is replaced

once_still : (all all' was now rest : ℕ) → all ≡ rest + was → all' ≡ rest + now → all ≤ 1 → now ≤ 1 → (1 ≤ now → (1 ≤ was) ⊎ ¬ (1 ≤ all)) → all' ≤ 1
once_still all all' was now rest e e' most most' free = elim (cases_lt 0 now) [
  | inl some ↦ elim (free (omega (arith, some))) [
    | inl old ↦ omega (arith, e, e', most, most', old)
    | inr none ↦ omega (arith, e, e', most', none)
  ]
  | inr none ↦ omega (arith, e, e', most, none)
]

pub tree_replaced : HeaderInFront → TreeReplaced
tree_replaced front old new roots before behind tree tree' trunks whole is pages keeps header sized =
    let kept : ℕ → Type 0 = λ page. Among (named_pages roots (before ++ tree' ∷ behind) trunks) page × ¬ (Among (pages_of tree') page) in
    let was = split_named roots before behind tree trunks in
    let now = split_named roots before behind tree' trunks in
    let part : (n : ℕ) → 1 ≤ others roots before behind trunks n → kept n = λ n some. (
      omega (arith, some, now n),
      λ own. elim (pages.free n own) [
        | inl old_one ↦ omega (arith, old_one, some, whole.different.once n, was n)
        | inr none ↦ none (omega (arith, some, was n))
      ],
    ) in
    let free : (n : ℕ) → Among (free_pages trunks) n → kept n = λ n some. part n (omega (arith, some)) in
    let P : ℕ → Type 0 = λ n. AreTrunks new n trunks in
    record {
      header = header_kept front old new header keeps.used sized (record { least = whole.header.there.least; most = omega (arith, whole.header.there.most, sized) }) whole.header;
      each_tree = zip_replace old new kept roots before behind tree tree' keeps (λ root one. is root one.rooted)
          (λ n some. part n (omega (arith, some))) (λ n some. part n (omega (arith, some))) whole.each_tree;
      freelist = record {
        linked = subst P (sym (trunk_kept old new header)) (trunks_stay old new kept (first_trunk old) trunks keeps free whole.freelist.linked);
        within = λ n some. (keeps.there n (free n some) (whole.freelist.within n some).0, (whole.freelist.within n some).1);
        different = whole.freelist.different;
      };
      good_free = λ n some. (keeps.same n (free n some)).mark_stays ∙ whole.good_free n some;
      counted = count_kept old new header ∙ whole.counted;
      different = record {
        once = λ n. once_still (times n (named_pages roots (before ++ tree ∷ behind) trunks)) (times n (named_pages roots (before ++ tree' ∷ behind) trunks))
            (times n (pages_of tree)) (times n (pages_of tree')) (others roots before behind trunks n)
            (was n) (now n) (whole.different.once n) (pages.different.once n) (pages.free n);
      };
    }

-- bounds may be wider

pub widens : Widens
widens low high low' high' (Leaf page rows) a b h = all_weaker _ _ (λ row w. (le_lt_ℤ _ _ _ a w.0, le_trans_ℤ _ _ _ w.1 b)) rows h
widens low high low' high' (Child child key more) a b h = (
  (le_lt_ℤ low' low key a h.0.0, le_trans_ℤ key high high' h.0.1 b),
  widens low key low' key child a (≤ℤ_refl key) h.1,
  widens key high key high' more (≤ℤ_refl key) b h.2,
)
widens low high low' high' (Right page child) a b h = widens low high low' high' child a b h

-- the top moves

top_held : (old new : Pages) (kept : ℕ → Type 0) (page : ℕ) (front : List InnerCell) (tree : Tree) → HoldsBehind old front tree
    → ((cells : PageCells) → HasCells old (root_of tree) cells → HasCells new page cells) → Keeps old new kept
    → ((n : ℕ) → Among (below_top tree) n → kept n) → HoldsBehind new front (renumbered page tree)
top_held old new kept page front (Leaf was rows) holds move keeps among = (holds.0, move _ holds.1, rows_stay old new kept rows keeps among holds.2)
top_held old new kept page front (Child child key more) holds move keeps among = (
  tree_behind_stays old new kept [] child keeps (λ n some. among n (among-front n (pages_of child) _ some)) holds.0,
  top_held old new kept page _ more holds.1 move keeps (λ n some. among n (among-back n (pages_of child) _ some)),
)
top_held old new kept page front (Right was child) holds move keeps among = (move _ holds.0, tree_behind_stays old new kept [] child keeps among holds.1)

top_rooted : (page : ℕ) (tree : Tree) → root_of (renumbered page tree) ≡ page
top_rooted page (Leaf was rows) = refl
top_rooted page (Child child key more) = top_rooted page more
top_rooted page (Right was child) = refl

top_rows : (page : ℕ) (tree : Tree) → rows_of (renumbered page tree) ≡ rows_of tree
top_rows page (Leaf was rows) = refl
top_rows page (Child child key more) = ap (λ (l : List Row). rows_of child ++ l) (top_rows page more)
top_rows page (Right was child) = refl

top_ordered : (page : ℕ) (low high : ℤ) (tree : Tree) → IsOrdered low high tree → IsOrdered low high (renumbered page tree)
top_ordered page low high (Leaf was rows) h = h
top_ordered page low high (Child child key more) h = (h.0, h.1, top_ordered page key high more h.2)
top_ordered page low high (Right was child) h = h

top_depth : (page depth : ℕ) (tree : Tree) → HasDepth depth tree → HasDepth depth (renumbered page tree)
top_depth page depth (Leaf was rows) h = h
top_depth page zero (Child child key more) h = h
top_depth page (suc depth) (Child child key more) h = (h.0, top_depth page (suc depth) more h.1)
top_depth page zero (Right was child) h = h
top_depth page (suc depth) (Right was child) h = h

top_filled : (page cells : ℕ) (tree : Tree) → IsFilled cells tree → IsFilled cells (renumbered page tree)
top_filled page cells (Leaf was rows) h = h
top_filled page cells (Child child key more) h = (h.0, top_filled page (cells + 1) more h.1)
top_filled page cells (Right was child) h = h

top_as_root : (page : ℕ) (tree : Tree) → IsFilled 0 tree → IsFilledRoot (renumbered page tree)
top_as_root page (Leaf was rows) h = tt
top_as_root page (Child child key more) h = (h.0, top_filled page 1 more h.1)
top_as_root page (Right was child) h = absurd (omega (arith, h.0))

top_named : (n page : ℕ) (tree : Tree) → times n (pages_of (renumbered page tree)) + times n (root_of tree ∷ []) ≡ times n (pages_of tree) + times n (page ∷ [])
top_named n page (Leaf was rows) = omega arith
top_named n page (Child child key more) =
    omega (arith, top_named n page more, times-append n (pages_of child) (pages_of (renumbered page more)), times-append n (pages_of child) (pages_of more))
top_named n page (Right was child) = omega arith

pub top_moved : TopMoved
top_moved = record {
  held = λ old new page tree holds move keeps. top_held old new _ page [] tree holds move keeps (λ n some. some);
  rooted = top_rooted;
  rows = top_rows;
  ordered = top_ordered;
  depth = top_depth;
  filled = top_filled;
  as_root = top_as_root;
  named = top_named;
}
