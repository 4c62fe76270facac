-- What stands in the first 100 bytes of page 1 is no part of its b-tree page.
use Rattle.std.proofs.Common.{◌≡◌, ℕ, ◌+◌, ◌-◌, ◌≤◌, List, [], ◌∷◌, length, take, drop, slice_index, sym, ap, subst, ◌∙◌, arith}
use Rattle.std.specs.List.{AllByRecursion}
use Rattle.std.proofs.lemmas.List.{get_or-drop, drop-drop}
use Rattle.byteorder.specs.Endian.{big_number}
use Rattle.byte_base.specs.Numbers.{number_at}
use Rattle.tree_page.specs.declared.cell.PageCells.{PageCells}
use Rattle.tree_page.specs.declared.cell.PageCells.TheVariants.{Leaf, Interior}
use Rattle.tree_page.specs.Page.{page_kind, first_pointer, content_start, Spells, Extent, Placed, Stands, ArePointers, AreFreeblocks, HasRight, IsTreePage}
use Rattle.tree_page.specs.Laws.{FrontApart}

drop_same : (a b : List ℕ) (place : ℕ) → drop 100 a ≡ drop 100 b → 100 ≤ place → drop place a ≡ drop place b
drop_same a b place same behind =
    let e : 100 + (place - 100) ≡ place = omega (arith, behind) in
    ap (λ k. drop k a) (sym e) ∙ sym (drop-drop (place - 100) 100 a) ∙ ap (λ (l : List ℕ). drop (place - 100) l) same ∙ drop-drop (place - 100) 100 b ∙ ap (λ k. drop k b) e

number_same : (width : ℕ) (a b : List ℕ) (place : ℕ) → drop 100 a ≡ drop 100 b → 100 ≤ place → number_at width a place ≡ number_at width b place
unfolding number_at
number_same width a b place same behind = ap (big_number width) (drop_same a b place same behind)

content_same : (a b : List ℕ) → drop 100 a ≡ drop 100 b → content_start a 1 ≡ content_start b 1
unfolding content_start
content_same a b same = let two = number_same 2 a b 105 same (omega arith) in cc

kind_same : (a b : List ℕ) → drop 100 a ≡ drop 100 b → slice_index a 100 ≡ slice_index b 100
kind_same a b same = sym (get_or-drop 100 a 0 0) ∙ ap (λ (l : List ℕ). slice_index l 0) same ∙ get_or-drop 100 b 0 0

right_same : (a b : List ℕ) (cells : PageCells) → drop 100 a ≡ drop 100 b → HasRight a 1 cells → HasRight b 1 cells
right_same a b (Leaf cells) same h = h
right_same a b (Interior cells right) same h = h ∙ number_same 4 a b 108 same (omega arith)

pointers_same : (a b : List ℕ) (pointer : ℕ) (placed : List Placed) → drop 100 a ≡ drop 100 b → 100 ≤ pointer → ArePointers a pointer placed → ArePointers b pointer placed
pointers_same a b pointer [] same behind h = h
pointers_same a b pointer (p ∷ more) same behind h =
    (sym (number_same 2 a b pointer same behind) ∙ h.0, pointers_same a b (pointer + 2) more same (omega (arith, behind)) h.1)

stands_same : (a b : List ℕ) (content : ℕ) (placed : List Placed) → length b ≡ length a → drop 100 a ≡ drop 100 b → 100 ≤ content
    → AllByRecursion (Stands a content) placed → AllByRecursion (Stands b content) placed
stands_same a b content [] long same behind h = tt
stands_same a b content (p ∷ more) long same behind h =
    let P : ℕ → Type 0 = λ n. Spells n h.0.cell_is.text p.cell in (
      record {
        cell_is = record {
          text = h.0.cell_is.text;
          behind = h.0.cell_is.behind;
          spelled = subst P (sym long) h.0.cell_is.spelled;
          size_is = h.0.cell_is.size_is;
          joined = sym (drop_same a b p.place same (omega (arith, behind, h.0.low))) ∙ h.0.cell_is.joined;
        };
        low = h.0.low;
        within = omega (arith, h.0.within, long);
      },
      stands_same a b content more long same behind h.1,
    )

blocks_same : (a b : List ℕ) (content last place : ℕ) (blocks : List Extent) → length b ≡ length a → drop 100 a ≡ drop 100 b → 100 ≤ content
    → AreFreeblocks a content last place blocks → AreFreeblocks b content last place blocks
blocks_same a b content last place [] long same behind h = h
blocks_same a b content last place (block ∷ more) long same behind h =
    let P : ℕ → Type 0 = λ next. AreFreeblocks b content place next more in (
      record {
        here = h.0.here;
        size_is = h.0.size_is ∙ number_same 2 a b (place + 2) same (omega (arith, behind, h.0.low));
        least = h.0.least;
        rises = h.0.rises;
        low = h.0.low;
        within = omega (arith, h.0.within, long);
      },
      subst P (number_same 2 a b place same (omega (arith, behind, h.0.low))) (blocks_same a b content place (number_at 2 a place) more long same behind h.1),
    )

page_same : (a b : List ℕ) (cells : PageCells) → length b ≡ length a → drop 100 a ≡ drop 100 b → IsTreePage a 1 cells → IsTreePage b 1 cells
page_same a b cells long same is =
    let content = content_same a b same in
    let behind : 100 ≤ content_start a 1 = omega (arith, is.content_behind) in
    let P : ℕ → Type 0 = λ c. AllByRecursion (Stands b c) is.placed in
    let Q : ℕ → Type 0 = λ c. AreFreeblocks b c 0 (number_at 2 b 101) is.free in
    let R : ℕ → Type 0 = λ first. AreFreeblocks b (content_start a 1) 0 first is.free in
    record {
      placed = is.placed;
      free = is.free;
      kind = sym (kind_same a b same) ∙ is.kind;
      right = right_same a b cells same is.right;
      count = sym (number_same 2 a b 103 same (omega arith)) ∙ is.count;
      pointers_within = omega (arith, is.pointers_within, long);
      content_behind = omega (arith, is.content_behind, content);
      content_within = omega (arith, is.content_within, content, long);
      cells_are = is.cells_are;
      pointers = pointers_same a b (first_pointer 1 (page_kind cells)) is.placed same (omega arith) is.pointers;
      stand = subst P content (stands_same a b (content_start a 1) is.placed long same behind is.stand);
      blocks = subst Q content (subst R (number_same 2 a b 101 same (omega arith)) (blocks_same a b (content_start a 1) 0 (number_at 2 a 101) is.free long same behind is.blocks));
      apart = is.apart;
      rising = is.rising;
    }

pub front_apart : FrontApart
front_apart old new usable cells long same is = page_same (take usable old) (take usable new) cells long (sym same) is
