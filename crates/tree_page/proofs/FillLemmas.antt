use Rattle.std.proofs.Common.{◌≡◌, ℕ, ◌+◌, ◌-◌, ◌%◌, ◌≤◌, max, List, [], ◌∷◌, ◌++◌, length, take, drop, replicate, refl, sym, subst, ap, ◌∙◌, arith, append_assoc, length-append}
use Rattle.std.proofs.lemmas.List.{drop_at, take_at, length-take-le, replicate-append-replicate, length-replicate}
use Rattle.byteorder.specs.Endian.{big_bytes}
use Rattle.byteorder.specs.Numbers.{length-bytes_high_first}
use Rattle.tree_page.specs.declared.cell.InnerCell.{InnerCell}
use Rattle.tree_page.specs.declared.cell.PageCells.{PageCells}
use Rattle.tree_page.specs.declared.cell.PageCells.TheVariants.{Interior}
use Rattle.tree_page.specs.Page.{Cell, cells_of, page_kind, type_byte}
use Rattle.tree_page.specs.Written.{IsSound, written_size, padded, pointers_to, content_of, header_of}
use Rattle.tree_page.specs.Steps.{Lays, LaysCell, LaysNext, Fills, IsBlank}
use Rattle.tree_page.proofs.LayLemmas.{lay_two}

-- the header with the right-most child behind what both kinds of page have
pub lay_header : (old mid new : List ℕ) (begin kind count content right : ℕ) (page : PageCells) (cells : List InnerCell)
    → page ≡ Interior cells right → kind ≡ type_byte (page_kind page) → count ≡ length (cells_of page)
    → Lays old mid begin (kind ∷ 0 ∷ 0 ∷ (big_bytes 2 count ++ (big_bytes 2 (content % 65536) ++ (0 ∷ []))))
    → Lays mid new (begin + 8) (big_bytes 4 right) → Lays old new begin (header_of page content)
lay_header old mid new begin kind count content right page cells page_is kind_is count_is front behind =
    let kind_5 : kind ≡ 5 = kind_is ∙ ap (λ p. type_byte (page_kind p)) page_is in
    let count_cells : count ≡ length (cells_of (Interior cells right)) = count_is ∙ ap (λ p. length (cells_of p)) page_is in
    let all = lay_two begin (begin + 8) old mid new (kind ∷ 0 ∷ 0 ∷ (big_bytes 2 count ++ (big_bytes 2 (content % 65536) ++ (0 ∷ [])))) (big_bytes 4 right) refl front behind in
    let header : ℕ → ℕ → List ℕ = λ k n. (k ∷ 0 ∷ 0 ∷ (big_bytes 2 n ++ (big_bytes 2 (content % 65536) ++ (0 ∷ [])))) ++ big_bytes 4 right in
    subst (Lays old new begin) (ap (λ k. header k count) kind_5 ∙ ap (header 5) count_cells ∙ ap (λ p. header_of p content) (sym page_is)) all

regroup : (a b c d : List ℕ) → a ++ ((b ++ c) ++ d) ≡ (a ++ b) ++ (c ++ d)
regroup a b c d = simp append_assoc

regroup_mid : (a b c d e f : List ℕ) → a ++ (b ++ ((c ++ (d ++ e)) ++ f)) ≡ (a ++ (b ++ c)) ++ (d ++ (e ++ f))
regroup_mid a b c d e f = simp append_assoc

regroup_new : (a b c d e f : List ℕ) → (a ++ (b ++ c)) ++ (d ++ (e ++ f)) ≡ a ++ (b ++ (c ++ ((d ++ e) ++ f)))
regroup_new a b c d e f = simp append_assoc

regroup_back : (a b c d : List ℕ) → a ++ (b ++ (c ++ d)) ≡ (a ++ (b ++ c)) ++ d
regroup_back a b c d = simp append_assoc

regroup_fills : (a b c d e f g : List ℕ) → (a ++ b) ++ (c ++ (d ++ (e ++ (f ++ g)))) ≡ a ++ ((b ++ c) ++ (d ++ ((e ++ f) ++ g)))
regroup_fills a b c d e f g = simp append_assoc

-- a pointer at the front of the zeros, and a text at their end
pub next_laid : (old mid new text : List ℕ) (pointer place end : ℕ) → IsBlank old pointer end → end ≤ length old → pointer + 2 ≤ place
    → place + length (padded text) ≡ end → Lays old mid pointer (big_bytes 2 place) → Lays mid new place text
    → new ≡ take pointer old ++ (big_bytes 2 place ++ (replicate (place - (pointer + 2)) 0 ++ (padded text ++ drop end old)))
next_laid old mid new text pointer place end blank within behind place_is first second =
    let front = take pointer old in
    let back = drop end old in
    let gap : List ℕ = replicate (place - (pointer + 2)) 0 in
    let under : List ℕ = replicate (length text) 0 in
    let pad : List ℕ = replicate (4 - length text) 0 in
    let two = length-bytes_high_first 2 place in
    let front_len : length front ≡ pointer = length-take-le pointer old (omega (arith, first.room)) in
    let sizes : length (padded text) ≡ length text + (4 - length text) = length-append text pad ∙ ap (λ n. length text + n) (length-replicate {A = ℕ} (4 - length text) 0) in
    let zeros : replicate (end - pointer) 0 ≡ replicate 2 0 ++ (gap ++ (under ++ pad)) =
    sym (ap (λ xs. replicate 2 0 ++ (gap ++ xs)) (replicate-append-replicate (length text) (4 - length text) 0)
    ∙ ap (λ xs. replicate 2 0 ++ xs) (replicate-append-replicate (place - (pointer + 2)) (length text + (4 - length text)) 0)
    ∙ replicate-append-replicate 2 (place - (pointer + 2) + (length text + (4 - length text))) 0
    ∙ ap (λ n. replicate n 0) (omega arith)) in
    let old_is : old ≡ (front ++ replicate 2 0) ++ ((gap ++ (under ++ pad)) ++ back) =
    blank ∙ ap (λ z. front ++ (z ++ back)) zeros ∙ regroup front (replicate 2 0) (gap ++ (under ++ pad)) back in
    let after : drop (pointer + length (big_bytes 2 place)) old ≡ (gap ++ (under ++ pad)) ++ back =
    ap (λ xs. drop (pointer + length (big_bytes 2 place)) xs) old_is
    ∙ drop_at (front ++ replicate 2 0) ((gap ++ (under ++ pad)) ++ back) _ (omega (arith, length-append front (replicate 2 0))) in
    let mid_is : mid ≡ (front ++ (big_bytes 2 place ++ gap)) ++ (under ++ (pad ++ back)) =
    first.bytes ∙ ap (λ xs. front ++ (big_bytes 2 place ++ xs)) after ∙ regroup_mid front (big_bytes 2 place) gap under pad back in
    let head = front ++ (big_bytes 2 place ++ gap) in
    let head_len : length head ≡ place =
    omega (arith, length-append front (big_bytes 2 place ++ gap), length-append (big_bytes 2 place) gap, length-replicate {A = ℕ} (place - (pointer + 2)) 0) in
    let before : take place mid ≡ head = ap (take place) mid_is ∙ take_at head (under ++ (pad ++ back)) place head_len in
    let behind_text : drop (place + length text) mid ≡ pad ++ back =
    ap (drop (place + length text)) (mid_is ∙ sym (append_assoc head under (pad ++ back)))
    ∙ drop_at (head ++ under) (pad ++ back) (place + length text) (omega (arith, length-append head under, length-replicate {A = ℕ} (length text) 0)) in
    second.bytes ∙ ap (λ xs. xs ++ (text ++ drop (place + length text) mid)) before ∙ ap (λ xs. head ++ (text ++ xs)) behind_text
    ∙ regroup_new front (big_bytes 2 place) gap text pad back

-- the same by the steps of the code
pub lays_next : (old mid new : List ℕ) (pointer place end : ℕ) (cell : Cell) → IsBlank old pointer end → end ≤ length old → pointer + 2 ≤ place
    → place + max 4 (written_size cell) ≡ end → Lays old mid pointer (big_bytes 2 place) → LaysCell mid new place cell → LaysNext old new pointer end place cell
lays_next old mid new pointer place end cell blank within behind ends first second =
    let pad : List ℕ = replicate (4 - length second.text) 0 in
    let place_is : place + length (padded second.text) ≡ end =
    omega (arith, second.length_is, length-append second.text pad, length-replicate {A = ℕ} (4 - length second.text) 0) in
    record {
      text = second.text;
      is = second.is;
      behind = behind;
      place_is = place_is;
      extent_is = ends;
      bytes = next_laid old mid new second.text pointer place end blank within behind place_is first second.lays;
    }

-- the front of what such a step leaves, and its back
next_front : (old new : List ℕ) (pointer end place : ℕ) (cell : Cell) → end ≤ length old → (next : LaysNext old new pointer end place cell)
    → take (pointer + 2) new ≡ take pointer old ++ big_bytes 2 place
next_front old new pointer end place cell within next =
    let front = take pointer old in
    let front_len : length front ≡ pointer = length-take-le pointer old (omega (arith, next.behind, next.place_is)) in
    let rest = replicate (place - (pointer + 2)) 0 ++ (padded next.text ++ drop end old) in
    ap (take (pointer + 2)) (next.bytes ∙ sym (append_assoc front (big_bytes 2 place) rest))
    ∙ take_at (front ++ big_bytes 2 place) rest (pointer + 2) (omega (arith, length-append front (big_bytes 2 place), length-bytes_high_first 2 place))

next_back : (old new : List ℕ) (pointer end place : ℕ) (cell : Cell) → end ≤ length old → (next : LaysNext old new pointer end place cell)
    → drop place new ≡ padded next.text ++ drop end old
next_back old new pointer end place cell within next =
    let front = take pointer old in
    let front_len : length front ≡ pointer = length-take-le pointer old (omega (arith, next.behind, next.place_is)) in
    let gap : List ℕ = replicate (place - (pointer + 2)) 0 in
    let rest = padded next.text ++ drop end old in
    ap (drop place) (next.bytes ∙ regroup_back front (big_bytes 2 place) gap rest)
    ∙ drop_at (front ++ (big_bytes 2 place ++ gap)) rest place
    (omega (
      arith,
      next.behind,
      length-append front (big_bytes 2 place ++ gap),
      length-append (big_bytes 2 place) gap,
      length-bytes_high_first 2 place,
      length-replicate {A = ℕ} (place - (pointer + 2)) 0,
    ))

-- between them all is zero again
pub next_blank : (old new : List ℕ) (pointer end place : ℕ) (cell : Cell) → end ≤ length old → LaysNext old new pointer end place cell → IsBlank new (pointer + 2) place
next_blank old new pointer end place cell within next =
    let gap : List ℕ = replicate (place - (pointer + 2)) 0 in
    next.bytes ∙ sym (append_assoc (take pointer old) (big_bytes 2 place) (gap ++ (padded next.text ++ drop end old)))
    ∙ ap (λ xs. xs ++ (gap ++ (padded next.text ++ drop end old))) (sym (next_front old new pointer end place cell within next))
    ∙ ap (λ xs. take (pointer + 2) new ++ (gap ++ xs)) (sym (next_back old new pointer end place cell within next))

-- what fills the rest fills the whole, with the cell
pub fills_more : (usable : ℕ) (old new final : List ℕ) (pointer end place content : ℕ) (cell : Cell) (cells : List Cell) → end ≤ length old → IsSound usable cell
    → LaysNext old new pointer end place cell → Fills usable (pointer + 2) place (take (pointer + 2) new) (drop place new) cells content final
    → Fills usable pointer end (take pointer old) (drop end old) (cell ∷ cells) content final
fills_more usable old new final pointer end place content cell cells within sound next fills =
    let size = length (padded next.text) in
    let place_of : place ≡ end - size = omega (arith, next.place_is) in
    let all = length-append (content_of fills.texts) (padded next.text) in
    let zeros : List ℕ = replicate fills.gap 0 in
    let inside = pointers_to place fills.texts ++ (zeros ++ (content_of fills.texts ++ drop place new)) in
    record {
      texts = next.text ∷ fills.texts;
      each = (next.is usable sound, fills.each);
      gap = fills.gap;
      filled = omega (arith, fills.filled, next.place_is, all);
      content_is = omega (arith, fills.content_is, next.place_is, all);
      joined = fills.joined
          ∙ ap (λ xs. xs ++ inside) (next_front old new pointer end place cell within next)
          ∙ ap (λ xs. (take pointer old ++ big_bytes 2 place) ++ (pointers_to place fills.texts ++ (zeros ++ (content_of fills.texts ++ xs)))) (next_back old new pointer end place cell within next)
          ∙ regroup_fills (take pointer old) (big_bytes 2 place) (pointers_to place fills.texts) zeros (content_of fills.texts) (padded next.text) (drop end old)
          ∙ ap (λ p. take pointer old ++ ((big_bytes 2 p ++ pointers_to p fills.texts) ++ (zeros ++ ((content_of fills.texts ++ padded next.text) ++ drop end old)))) place_of;
    }

-- without cells all is zero
pub fills_end : (usable : ℕ) (bytes : List ℕ) (pointer end : ℕ) → pointer ≤ end → IsBlank bytes pointer end → Fills usable pointer end (take pointer bytes) (drop end bytes) [] end bytes
fills_end usable bytes pointer end order blank = record { texts = []; each = tt; gap = end - pointer; filled = omega arith; content_is = omega arith; joined = blank }
