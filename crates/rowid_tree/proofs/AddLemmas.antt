-- A root more in whole pages.
use Rattle.std.proofs.Common.{◌≡◌, inl, inr, ℕ, ◌≢◌, ◌⊎◌, ◌+◌, ◌*◌, ◌≤◌, ◌<◌, nat_eq, if◌then◌else◌, List, [], ◌∷◌, ◌++◌, length, IsTrue, refl, sym, ap, subst, ◌∙◌, arith, mul-le-mul_left}
use Rattle.std.specs.List.{flat_map}
use Rattle.std.proofs.lemmas.Bool.{cases_lt}
use Rattle.db_format.specs.Header.{greatest_length}
use Rattle.page_list.specs.Pages.{Pages, HasPage, times, Among}
use Rattle.page_list.specs.Freelist.{Trunk, free_pages, take_each}
use Rattle.page_list.specs.Edits.{taken_number, after_take}
use Rattle.page_list.proofs.EditLemmas.{same-on}
use Rattle.page_list.proofs.TimesLemmas.{times-append, times-other, among-here, same_or_other}
use Rattle.page_pool.specs.Space.{SpaceState, HasSizes, Steady}
use Rattle.page_pool.specs.Pool.{Grows}
use Rattle.tree_model.specs.Tree.{Tree, Leaf, pages_of}
use Rattle.tree_model.specs.Whole.{HasHeader, IsWholeFor, first_page, used_pages, named_pages}
use Rattle.tree_model.specs.Laws.{Admits, RootAdded}
use Rattle.tree_page.specs.Laws.{FrontApart}
use Rattle.tree_model.proofs.WholeLemmas.{one_named, flat_append}
use Rattle.tree_laws.proofs.CountLemmas.{pages_add_up}
use Rattle.tree_laws.proofs.KeptLemmas.{front_steps, head_front, header_front}
use Rattle.tree_put.proofs.TookLemmas.{took}
use Rattle.tree_laws.specs.Front.{HeaderSize}
use Rattle.tree_laws.specs.Whole.{WholeTakes}
use Rattle.rowid_tree.specs.Roots.{EmptyLeaf, RootMade, IsRootAdded, AddsRoot}

is_number : (n k : ℕ) → Among (k ∷ []) n → k ≡ n
is_number n k some = elim (same_or_other n k) as (λ _. k ≡ n) [
  | inl same ↦ same.0
  | inr other ↦ absurd (omega (arith, some, other))
]

-- the header admits as many pages as a space of this usable size has
admits : HeaderSize → (s : SpaceState) (old new : Pages) → HasSizes s → HasHeader old → old.usable ≡ s.pages.usable → new.size ≡ s.pages.size → old.size ≤ new.size → Admits old new
admits header_size s old new sizes header used size grows =
    let same = header_size old s.page_size header sizes.size_of_page (omega (arith, used, sizes.most)) (omega (arith, used, sizes.spare)) in
    let P : ℕ → Type 0 = λ n. n * new.size ≤ greatest_length in
    let Q : ℕ → Type 0 = λ n. s.page_size * n ≤ greatest_length in
    let enough : s.page_size * s.pages.size ≤ greatest_length = omega (arith, sizes.few) in
    (grows, subst P (sym same) (subst Q (sym size) enough))

few_pages : (s : SpaceState) → HasSizes s → s.pages.size + 1 < 4294967296
few_pages s sizes = omega (arith, mul-le-mul_left s.pages.size sizes.size_of_page.least, sizes.few)

grown : (old new : SpaceState) → Grows old new → old.pages.size ≤ new.pages.size
grown old new (inl same) = omega arith
grown old new (inr more) = omega (arith, more.0)

add : WholeTakes → HeaderSize → RootAdded → (old new : SpaceState) → IsTrue old.tells → HasSizes old → Steady old new → old.pages.size ≤ new.pages.size
    → EmptyLeaf (after_take old.page_size old.pages) new.pages (taken_number old.pages) → (roots : List ℕ) (trees : List Tree) (trunks : List Trunk)
    → IsWholeFor old.pages roots trees trunks
    → IsWholeFor new.pages (roots ++ taken_number old.pages ∷ []) (trees ++ Leaf (taken_number old.pages) [] ∷ []) (take_each 1 trunks)
add whole_takes header_size root_added old new told sizes steady grows leaf roots trees trunks whole =
    let number : ℕ = taken_number old.pages in
    let mid : Pages = after_take old.page_size old.pages in
    let named : List ℕ = named_pages roots trees (take_each 1 trunks) in
    let both = whole_takes old.page_size 1 old.pages roots trees trunks (sizes.each told) (few_pages old sizes) whole
    (admits header_size new old.pages mid steady.sizes whole.header (sym steady.used) (sym leaf.only.size) (omega (arith, grows, leaf.only.size))) in
    let unnamed : ¬ (Among named number) = (both.1.each number (among-here number [])).2 in
    let P : ℕ → Type 0 = λ n. Among named n in
    root_added mid new.pages roots trees (take_each 1 trunks) number both.0
    (record {
      used = leaf.used;
      there = λ n some has. record { least = has.least; most = omega (arith, has.most, leaf.only.size) };
      same = λ n some. leaf.only.each n (λ here. unnamed (subst P (sym (is_number n number here)) some));
    })
    (admits header_size new mid new.pages steady.sizes both.0.header (sym leaf.used) refl (omega (arith, leaf.only.size)))
    unnamed leaf.cells

-- how often a page is named then: as often as before, and the root once
first_same : (roots : List ℕ) (page : ℕ) → page ≢ 1 → first_page (roots ++ page ∷ []) ≡ first_page roots
first_same roots page other = ap (λ n. if nat_eq n 0 then 1 ∷ [] else []) (times-append 1 roots (page ∷ []) ∙ no_more (times 1 roots) page other)
  where
    no_more : (n page : ℕ) → page ≢ 1 → n + times 1 (page ∷ []) ≡ n
    no_more n page other = omega (arith, times-other 1 page other)

named_more : (roots : List ℕ) (trees : List Tree) (trunks left : List Trunk) (page n : ℕ) → page ≢ 1
    → times n (named_pages (roots ++ page ∷ []) (trees ++ Leaf page [] ∷ []) left) + times n (free_pages trunks)
    ≡ times n (named_pages roots trees trunks) + times n (page ∷ []) + times n (free_pages left)
named_more roots trees trunks left page n other =
    omega (
      arith,
      times-append n (used_pages (roots ++ page ∷ []) (trees ++ Leaf page [] ∷ [])) (free_pages left),
      times-append n (first_page (roots ++ page ∷ [])) (flat_map pages_of (trees ++ Leaf page [] ∷ [])),
      ap (times n) (flat_append trees (Leaf page [] ∷ [])),
      times-append n (flat_map pages_of trees) (page ∷ []),
      ap (times n) (first_same roots page other),
      times-append n (used_pages roots trees) (free_pages trunks),
      times-append n (first_page roots) (flat_map pages_of trees),
    )

free_named : (roots : List ℕ) (trees : List Tree) (trunks : List Trunk) (n : ℕ) → times n (free_pages trunks) ≤ times n (named_pages roots trees trunks)
free_named roots trees trunks n = omega (arith, times-append n (used_pages roots trees) (free_pages trunks))

-- the page taken is not page 1, and all else that the freelist had it has
record OneTaken (old : Pages) (number : ℕ) (before after : List Trunk) : Type 0 where
  pub not_first : number ≢ 1
  pub came : (n : ℕ) → Among (number ∷ []) n → Among (free_pages before) n ⊎ (old.size < n)
  pub rest : (n : ℕ) → ¬ (Among (number ∷ []) n) → times n (free_pages after) ≡ times n (free_pages before)

taken_apart : (old : Pages) (number : ℕ) (roots : List ℕ) (trees : List Tree) (trunks left : List Trunk) → OneTaken old number trunks left → (n : ℕ) → HasPage old n
    → ¬ (Among (named_pages roots trees trunks) n) → ¬ (Among (number ∷ []) n)
taken_apart old number roots trees trunks left one n has none some = elim (one.came n some) [
  | inl free ↦ none (omega (arith, free, free_named roots trees trunks n))
  | inr beyond ↦ omega (arith, beyond, has.most)
]

one_more : FrontApart → (old new : SpaceState) → IsTrue old.tells → HasSizes old → Steady old new
    → EmptyLeaf (after_take old.page_size old.pages) new.pages (taken_number old.pages) → (roots : List ℕ) (trees : List Tree) (trunks : List Trunk)
    → IsWholeFor old.pages roots trees trunks
    → IsWholeFor new.pages (roots ++ taken_number old.pages ∷ []) (trees ++ Leaf (taken_number old.pages) [] ∷ []) (take_each 1 trunks)
    → IsRootAdded old.pages new.pages (taken_number old.pages) roots trees trunks
one_more front_apart old new told sizes steady leaf roots trees trunks whole whole_now =
    let p : Pages = old.pages in
    let number : ℕ = taken_number p in
    let mid : Pages = after_take old.page_size p in
    let left : List Trunk = take_each 1 trunks in
    let same_size : new.pages.size ≡ mid.size = leaf.only.size in
    let E : ℕ → Type 0 = λ k. new.pages.size * k ≤ greatest_length in
    let F : ℕ → Type 0 = λ k. k * old.page_size ≤ greatest_length in
    let t = took front_apart old.page_size 1 p roots trees trunks sizes.size_of_page sizes.spare (sizes.each told) whole (subst F same_size (subst E steady.sized steady.sizes.few)) in
    let one : OneTaken p number trunks left = record {
      not_first = λ e. omega (arith, e, (t.many.each number (among-here number [])).0);
      came = λ n some. (t.many.each n some).2;
      rest = t.many.rest;
    } in
    record {
      whole = whole_now;
      unnamed = λ n has none.
          let apart = taken_apart p number roots trees trunks left one n has none in
          let no_free : ¬ (Among (free_pages trunks) n) = λ free. none (omega (arith, free, free_named roots trees trunks n)) in
          let other : n ≢ 1 = λ is_one. none (let P : ℕ → Type 0 = λ m. Among (named_pages roots trees trunks) m in
          subst P (sym is_one) (one_named p roots trees trunks whole.each_tree)) in
          record {
            unnamed = λ named. apart (omega (arith, named, none, one.rest n apart, named_more roots trees trunks left number n one.not_first));
            same = same-on p mid new.pages n (t.many.leaves.others n other no_free apart) (leaf.only.each n apart);
          };
      none_lost = λ n has none.
          let apart : ¬ (Among (number ∷ []) n) =
          λ some. none (omega (arith, some, named_more roots trees trunks left number n one.not_first, new_free n some (t.many.each n some).3, free_named roots trees trunks n)) in (
            record {
              least = has.least;
              most = elim (cases_lt p.size n) [
                | inl beyond ↦ absurd (apart (t.added n beyond (omega (arith, has.most, same_size))))
                | inr within ↦ within
              ];
            },
            λ named. none (omega (arith, named, one.rest n apart, named_more roots trees trunks left number n one.not_first)),
          );
      front = front_steps p mid new.pages (head_front p mid t.many.leaves.first (sizes.each told).least) (header_front mid new.pages leaf.front);
      bound = elim t.left [
        | inl none ↦ omega (arith, same_size, t.counted, ap (λ (l : List Trunk). length (free_pages l)) none, pages_add_up p roots trees trunks whole)
        | inr same ↦ omega (arith, same_size, same)
      ];
    }
  where
    new_free : (n : ℕ) → Among (taken_number old.pages ∷ []) n → ¬ (Among (free_pages (take_each 1 trunks)) n) → times n (free_pages (take_each 1 trunks)) ≤ 0
    new_free n some none = omega (arith, none)

pub adds_root : WholeTakes → HeaderSize → RootAdded → FrontApart → (old new : SpaceState) (number : ℕ) → IsTrue old.tells → HasSizes old → Steady old new
    → RootMade old new number → AddsRoot old.pages new.pages number
adds_root whole_takes header_size root_added front_apart old new number told sizes steady made =
    let is : number ≡ taken_number old.pages = made.is told in
    let L : ℕ → Type 0 = λ n. EmptyLeaf (after_take old.page_size old.pages) new.pages n in
    let leaf = subst L is (made.leaf told) in
    let grows = grown old new made.grows in
    record {
      no_fewer = grows;
      each = λ roots trees trunks whole.
          let A : ℕ → Type 0 = λ n. IsRootAdded old.pages new.pages n roots trees trunks in
          subst A (sym is)
          (one_more front_apart old new told sizes steady leaf roots trees trunks whole
          (add whole_takes header_size root_added old new told sizes steady grows leaf roots trees trunks whole));
    }
