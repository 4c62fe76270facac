-- The header and the numbers of the freelist are in the first 100 bytes of page 1.
use Rattle.std.proofs.Common.{◌≡◌, inl, inr, ℕ, ◌+◌, ◌*◌, ◌≤◌, ◌<◌, List, [], ◌∷◌, ◌++◌, length, take, drop, slice_index, None, Result, IsOk, append_assoc, length-append, sym, ap, ap₂, subst, ◌∙◌, arith}
use Rattle.std.proofs.lemmas.Bool.{cases_lt}
use Rattle.std.proofs.Math.Seq.{take-add}
use Rattle.std.proofs.lemmas.List.{get_or-drop, get_or-take, take_all, take-take, drop-take, take_at, drop_at, length-take-le, length-take}
use Rattle.db_format.specs.Header.{header_of, page_of, HeaderInFront}
use Rattle.byte_base.specs.Numbers.{number_at}
use Rattle.db_format.specs.declared.header.Header.{Header}
use Rattle.db_format.specs.declared.header.HeaderFault.{HeaderFault}
use Rattle.page_list.specs.Pages.{Pages, HasPage}
use Rattle.page_list.specs.Freelist.{first_trunk, free_count}
use Rattle.tree_model.specs.Whole.{HasHeader, unsized_header}
use Rattle.tree_model.specs.Laws.{KeepsHeader}

-- a byte of the first 100
byte_in_front : (a b : List ℕ) (k : ℕ) → take 100 a ≡ take 100 b → k < 100 → slice_index a k ≡ slice_index b k
byte_in_front a b k same within = sym (get_or-take 100 a k 0 within) ∙ ap (λ (l : List ℕ). slice_index l k) same ∙ get_or-take 100 b k 0 within

byte_behind : (a b : List ℕ) (place i : ℕ) → take 100 a ≡ take 100 b → place + i < 100 → slice_index (drop place a) i ≡ slice_index (drop place b) i
byte_behind a b place i same within = get_or-drop place a i 0 ∙ byte_in_front a b (place + i) same within ∙ sym (get_or-drop place b i 0)

pub number_front : (a b : List ℕ) (place : ℕ) → take 100 a ≡ take 100 b → place + 3 < 100 → number_at 4 a place ≡ number_at 4 b place
unfolding number_at
number_front a b place same within =
    let p0 = byte_behind a b place 0 same (omega (arith, within)) in
    let p1 = byte_behind a b place 1 same (omega (arith, within)) in
    let p2 = byte_behind a b place 2 same (omega (arith, within)) in
    let p3 = byte_behind a b place 3 same (omega (arith, within)) in
    omega (arith, p0, p1, p2, p3)

two_in_front : (a b : List ℕ) (place : ℕ) → take 100 a ≡ take 100 b → place + 1 < 100 → number_at 2 a place ≡ number_at 2 b place
unfolding number_at
two_in_front a b place same within =
    let p0 = byte_behind a b place 0 same (omega (arith, within)) in
    let p1 = byte_behind a b place 1 same (omega (arith, within)) in
    omega (arith, p0, p1)

page_in_front : (a b : List ℕ) → take 100 a ≡ take 100 b → page_of a ≡ page_of b
unfolding page_of
page_in_front a b same = let two = two_in_front a b 16 same (omega arith) in cc

-- the same of the header without its size
abbrev without_size : List ℕ → List ℕ
without_size bytes = take 28 bytes ++ 0 ∷ 0 ∷ 0 ∷ 0 ∷ drop 32 bytes

abbrev from_front : List ℕ → List ℕ
from_front front = (take 28 front ++ 0 ∷ 0 ∷ 0 ∷ 0 ∷ []) ++ drop 32 front

long_front : (a : List ℕ) → 100 ≤ length a → take 100 (without_size a) ≡ from_front (take 100 a)
long_front a long =
    let head : List ℕ = take 28 a ++ 0 ∷ 0 ∷ 0 ∷ 0 ∷ [] in
    let size : length head ≡ 32 = length-append (take 28 a) (0 ∷ 0 ∷ 0 ∷ 0 ∷ []) ∙ ap (λ n. n + 4) (length-take-le 28 a (omega (arith, long))) in
    ap (take 100) (sym (append_assoc (take 28 a) (0 ∷ 0 ∷ 0 ∷ 0 ∷ []) (drop 32 a)))
    ∙ take-add 32 68 (head ++ drop 32 a)
    ∙ ap₂ (λ (x y : List ℕ). x ++ take 68 y) (take_at head (drop 32 a) 32 size) (drop_at head (drop 32 a) 32 size)
    ∙ ap₂ (λ (x y : List ℕ). (x ++ 0 ∷ 0 ∷ 0 ∷ 0 ∷ []) ++ y) (sym (take-take 28 100 a (omega arith))) (sym (drop-take 32 68 a))

unsized_in_front : (a b : List ℕ) → take 100 a ≡ take 100 b → take 100 (without_size a) ≡ take 100 (without_size b)
unsized_in_front a b same =
    let lens = ap (λ (l : List ℕ). length l) same in
    elim (cases_lt (length a) 100) [
      | inl short ↦
          let b_short : length b < 100 = omega (arith, short, lens, length-take 100 a, length-take 100 b) in
          let whole : a ≡ b = sym (take_all 100 a (omega (arith, short))) ∙ same ∙ take_all 100 b (omega (arith, b_short)) in
          ap (λ (l : List ℕ). take 100 (without_size l)) whole
      | inr long ↦
          let b_long : 100 ≤ length b = omega (arith, long, lens, length-take 100 a, length-take 100 b) in
          long_front a long ∙ ap from_front same ∙ sym (long_front b b_long)
    ]

-- the header stays where the first 100 bytes do
pub header_kept : HeaderInFront → (old new : Pages) → KeepsHeader old new → new.usable ≡ old.usable → new.size ≡ old.size → HasPage new 1 → HasHeader old → HasHeader new
header_kept front old new keeps used sized there has =
    let same = unsized_in_front (new.bytes 1) (old.bytes 1) keeps.front in
    let pages = page_in_front (unsized_header new) (unsized_header old) same in
    let len : ℕ = page_of (unsized_header old) * old.size in
    let lens : page_of (unsized_header new) * new.size ≡ len = ap₂ (λ (p s : ℕ). p * s) pages sized in
    let headers : header_of (unsized_header new) len None ≡ header_of (unsized_header old) len None =
    sym (front (unsized_header new) len None) ∙ ap (λ (b : List ℕ). header_of b len None) same ∙ front (unsized_header old) len None in
    record {
      there = there;
      good = keeps.good;
      accepted = ok_same _ _ (ap (λ n. header_of (unsized_header new) n None) lens ∙ headers) has.accepted;
      used = pages ∙ has.used ∙ ap₂ (λ (u b : ℕ). u + b) (sym used) (sym (byte_in_front (unsized_header new) (unsized_header old) 20 same (omega arith)));
      reserve = omega (arith, byte_in_front (unsized_header new) (unsized_header old) 20 same (omega arith), has.reserve);
    }
  where
    ok_same : (a b : Result Header HeaderFault) → a ≡ b → IsOk b → IsOk a
    ok_same a b e ok = let P : Result Header HeaderFault → Type 0 = λ r. IsOk r in subst P (sym e) ok

pub trunk_kept : (old new : Pages) → KeepsHeader old new → first_trunk new ≡ first_trunk old
trunk_kept old new keeps = number_front (new.bytes 1) (old.bytes 1) 32 keeps.front (omega arith)

pub count_kept : (old new : Pages) → KeepsHeader old new → free_count new ≡ free_count old
count_kept old new keeps = number_front (new.bytes 1) (old.bytes 1) 36 keeps.front (omega arith)
