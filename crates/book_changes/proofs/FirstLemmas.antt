-- The book of a database whose first page is an empty leaf behind a new header.
use Rattle.std.proofs.Common.{◌≡◌, inl, inr, ℕ, zero, suc, ◌+◌, ◌*◌, ◌-◌, ◌≤◌, ◌<◌, List, [], ◌∷◌, ◌++◌, length, take, drop, map, reverse, get_or, slice_index, None, IsOk, refl, sym, ap, ap₂, subst, ◌∙◌, arith, length-append, length-drop}
use Rattle.std.proofs.lemmas.Bool.{cases_lt}
use Rattle.std.proofs.lemmas.Bool.Decides.{nat_tests}
use Rattle.std.proofs.lemmas.Grind.{same_number_lists}
use Rattle.std.proofs.lemmas.List.{get_or-drop, get_or-take, get_or-append_right, get_or_append_left, length-take-le}
use Rattle.byte_base.specs.Numbers.{number_at}
use Rattle.db_format.specs.Header.{Fits, header_of, page_of, blank}
use Rattle.page_list.specs.Pages.{Pages, times}
use Rattle.tree_page.specs.declared.cell.PageCells.TheVariants.{Leaf as LeafPage}
use Rattle.tree_model.specs.Tree.{Leaf}
use Rattle.tree_model.specs.Held.{HasCells}
use Rattle.tree_model.specs.Whole.{IsWholeTree, IsWholeFor, HasHeader, unsized_header, named_pages}
use Rattle.tree_laws.specs.Whole.{missing_in}
use Rattle.book_changes.specs.First.{IsFirstPage, FirstPage}

-- each byte of a number that is zero
zero_bytes : (bytes : List ℕ) → number_at 4 bytes 28 ≡ 0 → (k : ℕ) → k < 4 → get_or (drop 28 bytes) k 0 ≡ 0
unfolding number_at
zero_bytes bytes is zero few = omega (arith, is)
zero_bytes bytes is (suc zero) few = omega (arith, is)
zero_bytes bytes is (suc (suc zero)) few = omega (arith, is)
zero_bytes bytes is (suc (suc (suc zero))) few = omega (arith, is)
zero_bytes bytes is (suc (suc (suc (suc k)))) few = absurd (omega (arith, few))

abbrev unsized : List ℕ → List ℕ
unsized bytes = take 28 bytes ++ (0 ∷ 0 ∷ 0 ∷ 0 ∷ drop 32 bytes)

-- the zeros at the place of a size that is zero
abbrev zeros : List ℕ
zeros = 0 ∷ 0 ∷ 0 ∷ 0 ∷ []

zeros_there : (k : ℕ) → k < 4 → slice_index zeros k ≡ 0
zeros_there zero few = refl
zeros_there (suc zero) few = refl
zeros_there (suc (suc zero)) few = refl
zeros_there (suc (suc (suc zero))) few = refl
zeros_there (suc (suc (suc (suc k)))) few = absurd (omega (arith, few))

-- a header without a size is one without its size
same_unsized : (bytes : List ℕ) → 100 ≤ length bytes → number_at 4 bytes 28 ≡ 0 → unsized bytes ≡ bytes
same_unsized bytes long is =
    let front : length (take 28 bytes) ≡ 28 = length-take-le 28 bytes (omega (arith, long)) in
    let same : length (unsized bytes) ≡ length bytes =
    omega (arith, front, long, length-append (take 28 bytes) (0 ∷ 0 ∷ 0 ∷ 0 ∷ drop 32 bytes), length-drop 32 bytes) in
    same_number_lists (unsized bytes) bytes same (λ k within. elim (cases_lt k 28) [
      | inl before ↦ get_or_append_left (take 28 bytes) (0 ∷ 0 ∷ 0 ∷ 0 ∷ drop 32 bytes) 0 k (omega (arith, front, before)) ∙ get_or-take 28 bytes k 0 before
      | inr behind ↦
          get_or-append_right (take 28 bytes) (0 ∷ 0 ∷ 0 ∷ 0 ∷ drop 32 bytes) 28 k 0 front behind
          ∙ elim (cases_lt (k - 28) 4) [
            | inl few ↦
                get_or_append_left (0 ∷ 0 ∷ 0 ∷ 0 ∷ []) (drop 32 bytes) 0 (k - 28) few ∙ zeros_there (k - 28) few
                ∙ sym (zero_bytes bytes is (k - 28) few) ∙ get_or-drop 28 bytes (k - 28) 0 ∙ (let same : 28 + (k - 28) ≡ k = omega (arith, behind) in ap (λ n. get_or bytes n 0) same)
            | inr more ↦
                get_or-append_right (0 ∷ 0 ∷ 0 ∷ 0 ∷ []) (drop 32 bytes) 4 (k - 28) 0 refl more
                ∙ get_or-drop 32 bytes (k - 28 - 4) 0 ∙ (let same : 32 + (k - 28 - 4) ≡ k = omega (arith, behind, more) in ap (λ n. get_or bytes n 0) same)
          ]
    ])

first_header : (page reserved : ℕ) (pages : Pages) → IsFirstPage page reserved pages → HasHeader pages
first_header page reserved pages is =
    let same : unsized_header pages ≡ pages.bytes 1 = same_unsized (pages.bytes 1) is.long is.header.fields.pages in
    let page_is : page_of (unsized_header pages) ≡ page = ap page_of same ∙ is.header.fields.page_size in
    let byte : slice_index (unsized_header pages) 20 ≡ reserved = ap (λ (l : List ℕ). slice_index l 20) same ∙ is.header.fields.reserve in
    let fits : Fits (record (blank page reserved) { size = 1 }) None = record {
      page_size = is.page_is;
      usable = omega (arith, is.used, is.least);
      layer = tt;
      some = omega arith;
      small = omega (arith, is.page_is.most);
    } in
    let read = is.reads.read 1 None fits in
    let A : List ℕ → ℕ → Type 0 = λ bytes len. IsOk (header_of bytes len None) in
    let len : page * 1 ≡ page_of (unsized_header pages) * pages.size = ap₂ (λ p n. p * n) (sym page_is) (sym is.size) in
    record {
      there = is.cells.there;
      good = is.cells.good;
      accepted = subst (λ n. A (unsized_header pages) n) len (subst (λ bytes. A bytes (page * 1)) (sym same) (subst IsOk (sym read) refl));
      used = omega (arith, page_is, byte, is.used);
      reserve = omega (arith, byte, is.few);
    }

first_tree : (pages : Pages) → HasCells pages 1 (LeafPage []) → IsWholeTree pages 1 (Leaf 1 [])
first_tree pages has = record {
  rooted = refl;
  held = (refl, has, tt);
  ordered = tt;
  depth = 1;
  level = refl;
  shallow = omega arith;
  filled = tt;
}

one_once : (n : ℕ) → times n (1 ∷ []) ≤ 1
one_once n = grind (arith, nat_tests)

pub first_page : FirstPage
first_page page reserved pages is =
    let whole : IsWholeFor pages (1 ∷ []) (Leaf 1 [] ∷ []) [] = record {
      header = first_header page reserved pages is;
      each_tree = (first_tree pages is.cells, tt);
      freelist = record {
        linked = is.header.fields.trunk;
        within = λ n some. absurd (omega (arith, some));
        different = record { once = λ n. omega arith };
      };
      good_free = λ n some. absurd (omega (arith, some));
      counted = is.header.fields.free;
      different = record { once = one_once };
    } in
    record {
      schema = Leaf 1 [];
      rows = [];
      found = [];
      trees = [];
      trunks = [];
      whole = record { whole = whole; schema_rows = tt; five = tt; roots_within = tt; plain = tt; once = tt; records = tt };
      tables = [];
      each = tt;
      tables_are = refl;
      foreign_are = refl;
      schema_is = record { contents = []; each = tt; is = refl };
      unnamed_are = ap (λ n. map {B = ℕ × List ℕ} (λ n. (n, pages.bytes n)) (reverse (missing_in (named_pages (1 ∷ []) (Leaf 1 [] ∷ []) []) n))) (sym is.size);
      counter_is = sym is.header.fields.change_counter;
      pages_are = sym is.size;
      free_are = refl;
      page_is = sym is.header.fields.page_size;
      usable_is = refl;
    }
