-- Whole pages stay whole where no named page changes, and where an empty root is added.
use Rattle.std.proofs.Common.{◌≡◌, ◌≢◌, inl, inr, ℕ, ◌+◌, ◌*◌, ◌≤◌, nat_eq, if◌then◌else◌, List, [], ◌∷◌, ◌++◌, length, take, drop, slice_index, None, IsOk, refl, sym, ap, ap₂, subst, ◌∙◌, arith, append_assoc}
use Rattle.std.specs.List.{flat_map, AllZip}
use Rattle.std.proofs.lemmas.Bool.{cases_order, cases_lt}
use Rattle.std.proofs.lemmas.Bool.Decides.{nat_tests}
use Rattle.page_list.specs.Pages.{Pages, SamePage, times, Among, word}
use Rattle.byte_base.specs.Numbers.{number_at}
use Rattle.page_list.specs.Freelist.{Trunk, IsTrunk, AreTrunks, IsFreelist, free_pages, first_trunk, next_trunk, most_leaves}
use Rattle.db_format.specs.Header.{header_of, page_of}
use Rattle.tree_page.specs.declared.cell.PageCells.TheVariants.{Leaf as LeafPage}
use Rattle.tree_model.specs.Tree.{Tree, Leaf, Child, Right, root_of, pages_of}
use Rattle.tree_model.specs.Held.{HasCells}
use Rattle.tree_model.specs.Whole.{IsWholeTree, HasHeader, unsized_header, first_page, used_pages, named_pages}
use Rattle.tree_model.specs.Laws.{Keeps, Admits, WholeStays, RootAdded}
use Rattle.page_list.proofs.ChainLemmas.{times-append, among-front, among-back, among-here}
use Rattle.tree_model.proofs.StayLemmas.{tree_behind_stays}
use Rattle.tree_model.proofs.SizeLemmas.{longer_accepted, no_size}

-- a tree names its root
pub root_named : (tree : Tree) → Among (pages_of tree) (root_of tree)
root_named (Leaf page rows) = among-here page _
root_named (Child child key more) = among-back (root_of more) (pages_of child) (pages_of more) (root_named more)
root_named (Right page child) = among-here page _

-- the pages of a tree of the roots are named, and so is page 1
pub first_here : (roots : List ℕ) → times 1 roots ≡ 0 → Among (first_page roots) 1
first_here roots none = let P : ℕ → Type 0 = λ n. Among (if nat_eq n 0 then 1 ∷ [] else []) 1 in subst P (sym none) (among-here 1 [])

root_among : (pages : Pages) (root : ℕ) (roots : List ℕ) (trees : List Tree) → AllZip (IsWholeTree pages) roots trees → Among roots root → Among (flat_map pages_of trees) root
root_among pages root [] [] whole some = absurd (omega (arith, some))
root_among pages root [] (tree ∷ trees) whole some = absurd whole
root_among pages root (r ∷ roots) [] whole some = absurd whole
root_among pages root (r ∷ roots) (tree ∷ trees) whole some = elim (cases_order r root) [
  | inl same ↦ let P : ℕ → Type 0 = λ n. Among (pages_of tree) n in
      among-front root (pages_of tree) (flat_map pages_of trees) (subst P (whole.0.rooted ∙ same) (root_named tree))
  | inr (inl less) ↦ among-back root (pages_of tree) _ (root_among pages root roots trees whole.1 (later root r roots some (λ e. omega (arith, less, e))))
  | inr (inr more) ↦ among-back root (pages_of tree) _ (root_among pages root roots trees whole.1 (later root r roots some (λ e. omega (arith, more, e))))
]
  where
    later : (n x : ℕ) (xs : List ℕ) → Among (x ∷ xs) n → x ≢ n → Among xs n
    later n x xs some other = grind (arith, nat_tests, some, other)

pub one_named : (pages : Pages) (roots : List ℕ) (trees : List Tree) (trunks : List Trunk) → AllZip (IsWholeTree pages) roots trees → Among (named_pages roots trees trunks) 1
one_named pages roots trees trunks whole = among-front 1 (used_pages roots trees) (free_pages trunks) (elim (cases_lt 0 (times 1 roots)) [
  | inl some ↦ among-back 1 (first_page roots) (flat_map pages_of trees) (root_among pages 1 roots trees whole (omega (arith, some)))
  | inr none ↦ among-front 1 (first_page roots) (flat_map pages_of trees) (first_here roots (omega (arith, none)))
])

-- the header
pub header_stays : (old new : Pages) (kept : ℕ → Type 0) → Keeps old new kept → kept 1 → Admits old new → HasHeader old → HasHeader new
header_stays old new kept keeps one admits has =
    let same = keeps.same 1 one in
    let header : List ℕ = unsized_header old in
    let bytes : unsized_header new ≡ unsized_header old = ap (λ (b : List ℕ). take 28 b ++ 0 ∷ 0 ∷ 0 ∷ 0 ∷ drop 32 b) same.bytes_stay in
    let P : List ℕ → Type 0 = λ b. IsOk (header_of b (page_of b * new.size) None) in
    record {
      there = keeps.there 1 one has.there;
      good = same.mark_stays ∙ has.good;
      accepted = subst P (sym bytes) (longer_accepted header old.size new.size (no_size (old.bytes 1)) admits.0 admits.1 has.accepted);
      used = ap page_of bytes ∙ has.used ∙ ap₂ (λ (u : ℕ) (b : List ℕ). u + slice_index b 20) (sym keeps.used) (sym bytes);
      reserve = omega (arith, ap (λ (b : List ℕ). slice_index b 20) bytes, has.reserve);
    }

-- the trees
pub whole_tree_stays : (old new : Pages) (kept : ℕ → Type 0) (root : ℕ) (tree : Tree) → Keeps old new kept → ((n : ℕ) → Among (pages_of tree) n → kept n) → IsWholeTree old root tree → IsWholeTree new root tree
whole_tree_stays old new kept root tree keeps among whole = record {
  rooted = whole.rooted;
  held = tree_behind_stays old new kept [] tree keeps among whole.held;
  ordered = whole.ordered;
  depth = whole.depth;
  level = whole.level;
  shallow = whole.shallow;
  filled = whole.filled;
}

pub trees_stay : (old new : Pages) (kept : ℕ → Type 0) (roots : List ℕ) (trees : List Tree) → Keeps old new kept → ((n : ℕ) → Among (flat_map pages_of trees) n → kept n)
    → AllZip (IsWholeTree old) roots trees → AllZip (IsWholeTree new) roots trees
trees_stay old new kept [] [] keeps among whole = tt
trees_stay old new kept [] (tree ∷ trees) keeps among whole = whole
trees_stay old new kept (root ∷ roots) [] keeps among whole = whole
trees_stay old new kept (root ∷ roots) (tree ∷ trees) keeps among whole = (
  whole_tree_stays old new kept root tree keeps (λ n some. among n (among-front n (pages_of tree) _ some)) whole.0,
  trees_stay old new kept roots trees keeps (λ n some. among n (among-back n (pages_of tree) _ some)) whole.1,
)

-- the freelist
word_stays : (old new : Pages) (page place : ℕ) → SamePage old new page → word new page place ≡ word old page place
word_stays old new page place same = ap (λ (b : List ℕ). number_at 4 b place) same.bytes_stay

trunk_stays : (old new : Pages) (trunk : Trunk) → new.usable ≡ old.usable → SamePage old new trunk.number → IsTrunk old trunk → IsTrunk new trunk
trunk_stays old new trunk used same is = record {
  counted = word_stays old new trunk.number 4 same ∙ is.counted;
  few = let P : ℕ → Type 0 = λ u. length trunk.leaves ≤ most_leaves u in subst P (sym used) is.few;
  each = λ i within. word_stays old new trunk.number (8 + 4 * i) same ∙ is.each i within;
}

pub trunks_stay : (old new : Pages) (kept : ℕ → Type 0) (next : ℕ) (trunks : List Trunk) → Keeps old new kept → ((n : ℕ) → Among (free_pages trunks) n → kept n) → AreTrunks old next trunks → AreTrunks new next trunks
trunks_stay old new kept next [] keeps among are = are
trunks_stay old new kept next (trunk ∷ more) keeps among are =
    let same = keeps.same trunk.number (among trunk.number (among-front trunk.number (trunk.number ∷ trunk.leaves) (free_pages more) (among-here trunk.number trunk.leaves))) in
    let P : ℕ → Type 0 = λ n. AreTrunks new n more in (
      are.0,
      trunk_stays old new trunk keeps.used same are.1,
      subst P (sym (word_stays old new trunk.number 0 same)) (trunks_stay old new kept (next_trunk old trunk.number) more keeps (λ n some. among n (among-back n (trunk.number ∷ trunk.leaves) (free_pages more) some)) are.2),
    )

pub freelist_stays : (old new : Pages) (kept : ℕ → Type 0) (trunks : List Trunk) → Keeps old new kept → kept 1 → ((n : ℕ) → Among (free_pages trunks) n → kept n) → IsFreelist old trunks → IsFreelist new trunks
freelist_stays old new kept trunks keeps one among free =
    let P : ℕ → Type 0 = λ n. AreTrunks new n trunks in
    record {
      linked = subst P (sym (word_stays old new 1 32 (keeps.same 1 one))) (trunks_stay old new kept (first_trunk old) trunks keeps among free.linked);
      within = λ n some. (keeps.there n (among n some) (free.within n some).0, (free.within n some).1);
      different = free.different;
    }

pub whole_stays : WholeStays
whole_stays old new roots trees trunks whole keeps admits =
    let named : ℕ → Type 0 = Among (named_pages roots trees trunks) in
    let one = one_named old roots trees trunks whole.each_tree in
    let used : (n : ℕ) → Among (used_pages roots trees) n → named n = λ n some. among-front n (used_pages roots trees) (free_pages trunks) some in
    let free : (n : ℕ) → Among (free_pages trunks) n → named n = λ n some. among-back n (used_pages roots trees) (free_pages trunks) some in
    record {
      header = header_stays old new named keeps one admits whole.header;
      each_tree = trees_stay old new named roots trees keeps (λ n some. used n (among-back n (first_page roots) (flat_map pages_of trees) some)) whole.each_tree;
      freelist = freelist_stays old new named trunks keeps one free whole.freelist;
      good_free = λ n some. (keeps.same n (free n some)).mark_stays ∙ whole.good_free n some;
      counted = word_stays old new 1 36 (keeps.same 1 one) ∙ whole.counted;
      different = whole.different;
    }

-- how often a number stands in a list of one
alone_once : (n page : ℕ) → times n (page ∷ []) ≤ 1
alone_once n page = grind (arith, nat_tests)

alone_not : (n page : ℕ) → page ≢ n → times n (page ∷ []) ≡ 0
alone_not n page other = grind (arith, nat_tests, other)

-- an empty root
empty_tree : (pages : Pages) (page : ℕ) → HasCells pages page (LeafPage []) → IsWholeTree pages page (Leaf page [])
empty_tree pages page has = record {
  rooted = refl;
  held = (refl, has, tt);
  ordered = tt;
  depth = 1;
  level = refl;
  shallow = omega arith;
  filled = tt;
}

zip_append : (pages : Pages) (roots : List ℕ) (trees : List Tree) (root : ℕ) (tree : Tree) → AllZip (IsWholeTree pages) roots trees → IsWholeTree pages root tree → AllZip (IsWholeTree pages) (roots ++ root ∷ []) (trees ++ tree ∷ [])
zip_append pages [] [] root tree all one = (one, tt)
zip_append pages [] (t ∷ trees) root tree all one = absurd all
zip_append pages (r ∷ roots) [] root tree all one = absurd all
zip_append pages (r ∷ roots) (t ∷ trees) root tree all one = (all.0, zip_append pages roots trees root tree all.1 one)

pub flat_append : (xs ys : List Tree) → flat_map pages_of (xs ++ ys) ≡ flat_map pages_of xs ++ flat_map pages_of ys
flat_append [] ys = refl
flat_append (x ∷ xs) ys = ap (λ (l : List ℕ). pages_of x ++ l) (flat_append xs ys) ∙ sym (append_assoc (pages_of x) (flat_map pages_of xs) (flat_map pages_of ys))

first_same : (roots : List ℕ) (page : ℕ) → page ≢ 1 → first_page (roots ++ page ∷ []) ≡ first_page roots
first_same roots page other = ap (λ n. if nat_eq n 0 then 1 ∷ [] else []) (times-append 1 roots (page ∷ []) ∙ no_more (times 1 roots) page other)
  where
    no_more : (n page : ℕ) → page ≢ 1 → n + times 1 (page ∷ []) ≡ n
    no_more n page other = grind (arith, nat_tests, other)

-- how often a page is named, root added: as often as before, and the root once
named_more : (roots : List ℕ) (trees : List Tree) (trunks : List Trunk) (page n : ℕ) → page ≢ 1
    → times n (named_pages (roots ++ page ∷ []) (trees ++ Leaf page [] ∷ []) trunks) ≡ times n (named_pages roots trees trunks) + times n (page ∷ [])
named_more roots trees trunks page n other =
    let a = times-append n (used_pages (roots ++ page ∷ []) (trees ++ Leaf page [] ∷ [])) (free_pages trunks) in
    let b = times-append n (first_page (roots ++ page ∷ [])) (flat_map pages_of (trees ++ Leaf page [] ∷ [])) in
    let c = ap (times n) (flat_append trees (Leaf page [] ∷ [])) ∙ times-append n (flat_map pages_of trees) (page ∷ []) in
    let d = ap (times n) (first_same roots page other) in
    let e = times-append n (used_pages roots trees) (free_pages trunks) in
    let f = times-append n (first_page roots) (flat_map pages_of trees) in
    omega (arith, a, b, c, d, e, f)

pub root_added : RootAdded
root_added old new roots trees trunks page whole keeps admits fresh has =
    let stays = whole_stays old new roots trees trunks whole keeps admits in
    let one = one_named old roots trees trunks whole.each_tree in
    let P : ℕ → Type 0 = λ n. Among (named_pages roots trees trunks) n in
    let other : page ≢ 1 = λ e. fresh (subst P (sym e) one) in
    record {
      header = stays.header;
      each_tree = zip_append new roots trees page (Leaf page []) stays.each_tree (empty_tree new page has);
      freelist = stays.freelist;
      good_free = stays.good_free;
      counted = stays.counted;
      different = record { once = λ n. once n (named_more roots trees trunks page n other) (whole.different.once n) };
    }
  where
    once : (n : ℕ) → times n (named_pages (roots ++ page ∷ []) (trees ++ Leaf page [] ∷ []) trunks) ≡ times n (named_pages roots trees trunks) + times n (page ∷ []) → times n (named_pages roots trees trunks) ≤ 1
        → times n (named_pages (roots ++ page ∷ []) (trees ++ Leaf page [] ∷ []) trunks) ≤ 1
    once n count most = elim (cases_order page n) [
      | inl same ↦
          let Q : ℕ → Type 0 = λ m. ¬ (Among (named_pages roots trees trunks) m) in
          let none : ¬ (Among (named_pages roots trees trunks) n) = subst Q same fresh in
          omega (arith, none, count, alone_once n page)
      | inr (inl less) ↦ omega (arith, count, most, alone_not n page (λ e. omega (arith, less, e)))
      | inr (inr more) ↦ omega (arith, count, most, alone_not n page (λ e. omega (arith, more, e)))
    ]
