use Rattle.std.proofs.Common.{◌≡◌, ℕ, suc, ◌+◌, ◌-◌, ◌*◌, ◌%◌, ◌≤◌, ◌<◌, ◌==◌, inl, inr, max, if◌then◌else◌, List, [], ◌∷◌, ◌++◌, length, map, get_or, take, drop, replicate, refl, sym, subst, ap, ◌∙◌, arith, append_assoc, length-append, length-drop}
use Rattle.std.specs.List.{AllByRecursion}
use Rattle.std.proofs.lemmas.List.{drop_at, take_at, drop-drop, take-take, take-append-le, length-take-le, length-replicate, replicate-append-replicate, append-nil, get_or_at}
use Rattle.std.proofs.lemmas.Bool.{cases_lt}
use Rattle.std.proofs.lemmas.Bool.Decides.{nat_tests}
use Rattle.byteorder.specs.Endian.{big_bytes, big_number}
use Rattle.byteorder.specs.Numbers.{length-bytes_high_first, big_number-reads_back}
use Rattle.byte_base.specs.Numbers.{number_at}
use Rattle.tree_page.specs.declared.cell.PageCells.{PageCells}
use Rattle.tree_page.specs.declared.cell.PageCells.TheVariants.{Leaf, Interior}
use Rattle.tree_page.specs.Page.{Cell, rowid_of, cells_of, page_kind, type_byte, begin_of, header_size, first_pointer, content_start, Covered, AreApart, Placed, extent_of, Spells, Stands, ArePointers, HasRight, IsTreePage, IsPage, AreRising}
use Rattle.tree_page.specs.Written.{Fits, AreTexts, padded, content_of, pointers_to, space_of, right_bytes, header_of, IsWritten}
use Rattle.tree_page.specs.Steps.{Lays, Fills, IsBlank, IsNumbered}

length-header : (cells : PageCells) (content : ℕ) → length (header_of cells content) ≡ header_size (page_kind cells)
length-header (Leaf cells) content = refl
length-header (Interior cells right) content = refl

regroup : (a b c d e f : List ℕ) → a ++ (b ++ (c ++ (d ++ (e ++ f)))) ≡ (a ++ (b ++ (c ++ (d ++ e)))) ++ f
regroup a b c d e f = simp append_assoc

regroup_lead : (a b c d e : List ℕ) → a ++ (b ++ (c ++ (d ++ e))) ≡ (a ++ (b ++ (c ++ d))) ++ (e ++ [])
regroup_lead a b c d e = simp (append_assoc, append-nil)

regroup_some : (a b c d : List ℕ) → a ++ ((b ++ c) ++ d) ≡ (a ++ b) ++ (c ++ d)
regroup_some a b c d = simp append_assoc

-- the bytes of the steps, one over the other
pub written : (old blank filled new : List ℕ) (number usable content : ℕ) (cells : PageCells) → begin_of number ≤ usable → usable ≤ length old
    → take (begin_of number) blank ≡ take (begin_of number) old → drop usable blank ≡ drop usable old → length blank ≡ length old
    → Fills usable (first_pointer number (page_kind cells)) usable (take (first_pointer number (page_kind cells)) blank) (drop usable blank) (cells_of cells) content filled
    → Lays filled new (begin_of number) (header_of cells content) → IsWritten old new number usable cells
written old blank filled new number usable content cells order within front_is back_is size fills header =
    let begin = begin_of number in
    let first = first_pointer number (page_kind cells) in
    let inside = pointers_to usable fills.texts ++ (replicate fills.gap 0 ++ (content_of fills.texts ++ drop usable blank)) in
    let head_len = length-header cells content in
    let first_len : length (take first blank) ≡ first = length-take-le first blank (omega (arith, fills.filled)) in
    let content_is : content ≡ usable - length (content_of fills.texts) = omega (arith, fills.content_is) in
    let before : take begin filled ≡ take begin old =
    ap (take begin) fills.joined ∙ take-append-le begin (take first blank) inside (omega arith) ∙ take-take begin first blank (omega arith) ∙ front_is in
    let after : drop (begin + length (header_of cells content)) filled ≡ inside =
    ap (drop (begin + length (header_of cells content))) fills.joined ∙ drop_at (take first blank) inside _ (omega arith) in
    record {
      texts = fills.texts;
      each = fills.each;
      gap = fills.gap;
      filled = fills.filled;
      bytes = header.bytes ∙ ap (λ xs. xs ++ (header_of cells content ++ drop (begin + length (header_of cells content)) filled)) before
          ∙ ap (λ xs. take begin old ++ (header_of cells content ++ xs)) after
          ∙ ap (λ xs. take begin old ++ (header_of cells content ++ (pointers_to usable fills.texts ++ (replicate fills.gap 0 ++ (content_of fills.texts ++ xs))))) back_is
          ∙ ap (λ n. take begin old ++ (header_of cells n ++ (pointers_to usable fills.texts ++ (replicate fills.gap 0 ++ (content_of fills.texts ++ drop usable old))))) content_is;
    }

-- the cells of texts that end at a place
abbrev pub placed_to : ℕ → List (List ℕ) → List Cell → List Placed
placed_to end [] cells = []
placed_to end (text ∷ texts) [] = []
placed_to end (text ∷ texts) (cell ∷ cells) =
    record { place = end - length (padded text); size = length text; cell = cell } ∷ placed_to (end - length (padded text)) texts cells

-- how many bytes a text takes
pub length-padded : (text : List ℕ) → length (padded text) ≡ max 4 (length text)
length-padded text = omega (arith, length-append text (replicate (4 - length text) 0), length-replicate {A = ℕ} (4 - length text) 0)

placed_cells : (usable end : ℕ) (texts : List (List ℕ)) (cells : List Cell) → AreTexts usable texts cells → cells ≡ map (λ p. p.cell) (placed_to end texts cells)
placed_cells usable end [] [] each = refl
placed_cells usable end [] (cell ∷ cells) each = absurd each
placed_cells usable end (text ∷ texts) [] each = absurd each
placed_cells usable end (text ∷ texts) (cell ∷ cells) each = ap (λ cs. cell ∷ cs) (placed_cells usable (end - length (padded text)) texts cells each.1)

placed_keys : (usable end : ℕ) (texts : List (List ℕ)) (cells : List Cell) → AreTexts usable texts cells
    → map rowid_of cells ≡ map (λ p. rowid_of p.cell) (placed_to end texts cells)
placed_keys usable end [] [] each = refl
placed_keys usable end [] (cell ∷ cells) each = absurd each
placed_keys usable end (text ∷ texts) [] each = absurd each
placed_keys usable end (text ∷ texts) (cell ∷ cells) each = ap (λ ks. rowid_of cell ∷ ks) (placed_keys usable (end - length (padded text)) texts cells each.1)

placed_count : (usable end : ℕ) (texts : List (List ℕ)) (cells : List Cell) → AreTexts usable texts cells
    → (length (placed_to end texts cells) ≡ length texts) × (length cells ≡ length texts)
placed_count usable end [] [] each = (refl, refl)
placed_count usable end [] (cell ∷ cells) each = absurd each
placed_count usable end (text ∷ texts) [] each = absurd each
placed_count usable end (text ∷ texts) (cell ∷ cells) each =
    let rest = placed_count usable (end - length (padded text)) texts cells each.1 in
    (ap suc rest.0, ap suc rest.1)

-- all of them are before their end
covered_before : (end place : ℕ) (texts : List (List ℕ)) (cells : List Cell) → length (content_of texts) ≤ end
    → Covered (map extent_of (placed_to end texts cells) ++ []) place → place < end
covered_before end place [] cells room covered = absurd covered
covered_before end place (text ∷ texts) [] room covered = absurd covered
covered_before end place (text ∷ texts) (cell ∷ cells) room covered =
    let all = length-append (content_of texts) (padded text) in
    let size = length-padded text in
    elim covered [
      | inl here ↦ omega (arith, here.1)
      | inr behind ↦ let rest = covered_before (end - length (padded text)) place texts cells (omega arith) behind in omega arith
    ]

placed_apart : (end : ℕ) (texts : List (List ℕ)) (cells : List Cell) → length (content_of texts) ≤ end → AreApart (map extent_of (placed_to end texts cells) ++ [])
placed_apart end [] cells room = tt
placed_apart end (text ∷ texts) [] room = tt
placed_apart end (text ∷ texts) (cell ∷ cells) room =
    let all = length-append (content_of texts) (padded text) in
    let size = length-padded text in (
      λ place within covered. let before = covered_before (end - length (padded text)) place texts cells (omega arith) covered in absurd (omega (arith, within.0)),
      placed_apart (end - length (padded text)) texts cells (omega arith),
    )

-- each stands where it should
placed_stand : (usable content end : ℕ) (bytes front tail : List ℕ) (texts : List (List ℕ)) (cells : List Cell) → length bytes ≡ usable → AreTexts usable texts cells
    → bytes ≡ front ++ (content_of texts ++ tail) → content ≤ length front → end ≡ length front + length (content_of texts)
    → AllByRecursion (Stands bytes content) (placed_to end texts cells)
placed_stand usable content end bytes front tail [] cells usable_is each bytes_is low end_is = tt
placed_stand usable content end bytes front tail (text ∷ texts) [] usable_is each bytes_is low end_is = tt
placed_stand usable content end bytes front tail (text ∷ texts) (cell ∷ cells) usable_is each bytes_is low end_is =
    let before = content_of texts in
    let size = length-padded text in
    let all = length-append before (padded text) in
    let place = end - length (padded text) in
    let pad : List ℕ = replicate (4 - length text) 0 in
    let next_is : bytes ≡ front ++ (before ++ (padded text ++ tail)) = bytes_is ∙ ap (λ xs. front ++ xs) (append_assoc before (padded text) tail) in
    let here : drop place bytes ≡ text ++ (pad ++ tail) =
    ap (drop place) (next_is ∙ sym (append_assoc front before (padded text ++ tail)))
    ∙ drop_at (front ++ before) (padded text ++ tail) place (omega (arith, length-append front before))
    ∙ append_assoc text pad tail in (
      record {
        cell_is = record { text = text; behind = pad ++ tail; spelled = subst (λ n. Spells n text cell) (sym usable_is) each.0.spelled; size_is = refl; joined = here };
        low = omega arith;
        within = omega (arith, ap length bytes_is, length-append front ((before ++ padded text) ++ tail), length-append (before ++ padded text) tail);
      },
      placed_stand usable content place bytes front (padded text ++ tail) texts cells usable_is each.1 next_is low (omega arith),
    )

-- the number that stands behind a front
pub number_behind : (width place j : ℕ) (front rest : List ℕ) → length front ≡ place → number_at width (front ++ rest) (place + j) ≡ big_number width (drop j rest)
unfolding number_at
number_behind width place j front rest place_is =
    ap (big_number width) (sym (drop-drop j place (front ++ rest)) ∙ ap (drop j) (drop_at front rest place place_is))

-- their pointers are those that were written
placed_pointers : (usable pointer end : ℕ) (front rest : List ℕ) (texts : List (List ℕ)) (cells : List Cell) → AreTexts usable texts cells → length front ≡ pointer
    → end ≤ 65536 → length (content_of texts) ≤ end → ArePointers (front ++ (pointers_to end texts ++ rest)) pointer (placed_to end texts cells)
placed_pointers usable pointer end front rest [] cells each pointer_is most room = tt
placed_pointers usable pointer end front rest (text ∷ texts) [] each pointer_is most room = tt
placed_pointers usable pointer end front rest (text ∷ texts) (cell ∷ cells) each pointer_is most room =
    let all = length-append (content_of texts) (padded text) in
    let size = length-padded text in
    let place = end - length (padded text) in
    let two = big_bytes 2 place in
    let more = pointers_to place texts ++ rest in
    let small : place < 65536 = omega arith in
    let same : front ++ (two ++ more) ≡ (front ++ two) ++ more = sym (append_assoc front two more) in
    let here : number_at 2 (front ++ (two ++ more)) pointer ≡ place =
    ap (number_at 2 (front ++ (two ++ more))) (let e : pointer ≡ pointer + 0 = omega arith in e)
    ∙ number_behind 2 pointer 0 front (two ++ more) pointer_is ∙ big_number-reads_back 2 place more small in (
      here,
      subst (λ bytes. ArePointers bytes (pointer + 2) (placed_to place texts cells)) (sym same)
          (placed_pointers usable (pointer + 2) place (front ++ two) rest texts cells each.1 (omega (arith, length-append front two, length-bytes_high_first 2 place)) (omega arith) (omega arith)),
    )

start_is : (n content : ℕ) → n ≡ content % 65536 → 0 < content → content ≤ 65536 → (if n == 0 then 65536 else n) ≡ content
start_is n content n_is some most =
    elim (cases_lt content 65536) [
      | inl below ↦ let e : n ≡ content = omega arith in grind (arith, nat_tests)
      | inr whole ↦ let e : content ≡ 65536 = omega arith in let z : n ≡ 0 = n_is ∙ ap (λ c. c % 65536) e in grind (arith, nat_tests)
    ]

length-pointers : (end : ℕ) (texts : List (List ℕ)) → length (pointers_to end texts) ≡ 2 * length texts
length-pointers end [] = omega arith
length-pointers end (text ∷ texts) =
    let place = end - length (padded text) in
    omega (arith, length-append (big_bytes 2 place) (pointers_to place texts), length-bytes_high_first 2 place, length-pointers place texts)

-- the right-most child is read where it was written
has_right : (number content : ℕ) (front rest : List ℕ) (cells : PageCells) → length front ≡ begin_of number → IsNumbered cells
    → HasRight (front ++ (header_of cells content ++ rest)) number cells
has_right number content front rest (Leaf cells) front_is numbered = tt
has_right number content front rest (Interior cells right) front_is numbered =
    sym (number_behind 4 (begin_of number) 8 front (header_of (Interior cells right) content ++ rest) front_is ∙ big_number-reads_back 4 right rest numbered)

-- the header is read as it was written
pub record Heads (bytes : List ℕ) (number content : ℕ) (cells : PageCells) : Type 0 where
  pub kind : get_or bytes (begin_of number) 0 ≡ type_byte (page_kind cells)
  pub free : number_at 2 bytes (begin_of number + 1) ≡ 0
  pub count : number_at 2 bytes (begin_of number + 3) ≡ length (cells_of cells)
  pub start : content_start bytes number ≡ content

heads : (number content : ℕ) (front rest : List ℕ) (cells : PageCells) → length front ≡ begin_of number → length (cells_of cells) < 65536 → 0 < content → content ≤ 65536
    → Heads (front ++ (header_of cells content ++ rest)) number content cells
unfolding content_start
heads number content front rest cells front_is few some most =
    let header = header_of cells content ++ rest in
    let behind = right_bytes cells ++ rest in
    let low : content % 65536 < 65536 = omega arith in
    record {
      kind = get_or_at front (type_byte (page_kind cells)) _ 0 (begin_of number) front_is;
      free = number_behind 2 (begin_of number) 1 front header front_is;
      count = number_behind 2 (begin_of number) 3 front header front_is ∙ big_number-reads_back 2 (length (cells_of cells)) (big_bytes 2 (content % 65536) ++ (0 ∷ behind)) few;
      start = start_is _ content (number_behind 2 (begin_of number) 5 front header front_is ∙ big_number-reads_back 2 (content % 65536) (0 ∷ behind) low) some most;
    }

pub written_page : (old new : List ℕ) (number usable : ℕ) (cells : PageCells) → Fits cells number usable → IsNumbered cells → begin_of number ≤ length old → usable ≤ 65536
    → IsWritten old new number usable cells → IsPage new number usable cells
written_page old new number usable cells fits numbered order most w =
    let begin = begin_of number in
    let first = first_pointer number (page_kind cells) in
    let front = take begin old in
    let content = usable - length (content_of w.texts) in
    let header = header_of cells content in
    let ptrs = pointers_to usable w.texts in
    let zeros : List ℕ = replicate w.gap 0 in
    let cont = content_of w.texts in
    let part = front ++ (header ++ (ptrs ++ (zeros ++ cont))) in
    let front_is : length front ≡ begin = length-take-le begin old order in
    let header_is = length-header cells content in
    let ptrs_is = length-pointers usable w.texts in
    let gap_is : length zeros ≡ w.gap = length-replicate {A = ℕ} w.gap 0 in
    let before : length (front ++ header) ≡ first = omega (arith, length-append front header) in
    let lead = front ++ (header ++ (ptrs ++ zeros)) in
    let lead_is : length lead ≡ content =
    omega (arith, w.filled, length-append front (header ++ (ptrs ++ zeros)), length-append header (ptrs ++ zeros), length-append ptrs zeros) in
    let part_lead : part ≡ lead ++ (cont ++ []) = regroup_lead front header ptrs zeros cont in
    let part_is : length part ≡ usable = omega (arith, w.filled, ap length part_lead, length-append lead (cont ++ []), length-append cont []) in
    let same : take usable new ≡ part =
    ap (take usable) (w.bytes ∙ regroup front header ptrs zeros cont (drop usable old)) ∙ take_at part (drop usable old) usable part_is in
    let counts = placed_count usable usable w.texts (cells_of cells) w.each in
    let head = heads number content front (ptrs ++ (zeros ++ cont)) cells front_is (omega (arith, counts.1, w.filled)) (omega (arith, w.filled)) (omega arith) in
    let placed = placed_to usable w.texts (cells_of cells) in
    subst (λ bytes. IsTreePage bytes number cells) (sym same)
    (record {
      placed = placed;
      free = [];
      kind = head.kind;
      right = has_right number content front (ptrs ++ (zeros ++ cont)) cells front_is numbered;
      count = head.count ∙ counts.1 ∙ sym counts.0;
      pointers_within = omega (arith, w.filled, counts.0);
      content_behind = omega (arith, w.filled, counts.0, head.start);
      content_within = omega (arith, head.start);
      cells_are = placed_cells usable usable w.texts (cells_of cells) w.each;
      pointers = subst (λ bytes. ArePointers bytes first placed) (append_assoc front header (ptrs ++ (zeros ++ cont)))
          (placed_pointers usable first usable (front ++ header) (zeros ++ cont) w.texts (cells_of cells) w.each before most (omega (arith, w.filled)));
      stand = subst (λ n. AllByRecursion (Stands part n) placed) (sym head.start)
          (placed_stand usable content usable part lead [] w.texts (cells_of cells) part_is w.each part_lead (omega arith) (omega (arith, w.filled)));
      blocks = head.free;
      apart = placed_apart usable w.texts (cells_of cells) (omega (arith, w.filled));
      rising = subst AreRising (placed_keys usable usable w.texts (cells_of cells) w.each) fits.rising;
    })

-- the bytes behind the usable part stay
pub written_back : (old new : List ℕ) (number usable : ℕ) (cells : PageCells) → begin_of number ≤ length old
    → IsWritten old new number usable cells → drop usable new ≡ drop usable old
written_back old new number usable cells order w =
    let front = take (begin_of number) old in
    let content = usable - length (content_of w.texts) in
    let header = header_of cells content in
    let ptrs = pointers_to usable w.texts in
    let zeros : List ℕ = replicate w.gap 0 in
    let cont = content_of w.texts in
    let front_is : length front ≡ begin_of number = length-take-le (begin_of number) old order in
    let header_is = length-header cells content in
    let gap_is : length zeros ≡ w.gap = length-replicate {A = ℕ} w.gap 0 in
    ap (drop usable) (w.bytes ∙ regroup front header ptrs zeros cont (drop usable old))
    ∙ drop_at (front ++ (header ++ (ptrs ++ (zeros ++ cont)))) (drop usable old) usable
    (omega (
      arith,
      w.filled,
      length-pointers usable w.texts,
      length-append front (header ++ (ptrs ++ (zeros ++ cont))),
      length-append header (ptrs ++ (zeros ++ cont)),
      length-append ptrs (zeros ++ cont),
      length-append zeros cont,
    ))

-- each cell takes at least six bytes of the room
pub count_fits : (cells : List Cell) → 2 * length cells ≤ space_of cells
count_fits [] = omega arith
count_fits (cell ∷ cells) = omega (arith, count_fits cells)

-- what is left where the bytes from a place to an end were made zero
pub cleared_size : (old new : List ℕ) (from end : ℕ) → from ≤ end → end ≤ length old → new ≡ take from old ++ (replicate (end - from) 0 ++ drop end old) → length new ≡ length old
cleared_size old new from end order within new_is =
    let zeros : List ℕ = replicate (end - from) 0 in
    ap length new_is ∙ omega (
      arith,
      length-append (take from old) (zeros ++ drop end old),
      length-append zeros (drop end old),
      length-replicate {A = ℕ} (end - from) 0,
      length-drop end old,
      length-take-le from old (omega arith),
    )

pub cleared_front : (old new : List ℕ) (from end : ℕ) → from ≤ end → end ≤ length old → new ≡ take from old ++ (replicate (end - from) 0 ++ drop end old) → take from new ≡ take from old
cleared_front old new from end order within new_is =
    let zeros : List ℕ = replicate (end - from) 0 in
    ap (take from) new_is ∙ take_at (take from old) (zeros ++ drop end old) from (length-take-le from old (omega arith))

pub cleared_back : (old new : List ℕ) (from end : ℕ) → from ≤ end → end ≤ length old → new ≡ take from old ++ (replicate (end - from) 0 ++ drop end old) → drop end new ≡ drop end old
cleared_back old new from end order within new_is =
    let zeros : List ℕ = replicate (end - from) 0 in
    ap (drop end) (new_is ∙ sym (append_assoc (take from old) zeros (drop end old)))
    ∙ drop_at (take from old ++ zeros) (drop end old) end
    (omega (arith, length-append (take from old) zeros, length-replicate {A = ℕ} (end - from) 0, length-take-le from old (omega arith)))

-- so are those from any place in between
pub cleared_blank : (old new : List ℕ) (from place end : ℕ) → from ≤ place → place ≤ end → end ≤ length old
    → new ≡ take from old ++ (replicate (end - from) 0 ++ drop end old) → IsBlank new place end
cleared_blank old new from place end low order within new_is =
    let front = take from old in
    let some : List ℕ = replicate (place - from) 0 in
    let rest : List ℕ = replicate (end - place) 0 in
    let zeros : replicate (end - from) 0 ≡ some ++ rest =
    sym (replicate-append-replicate (place - from) (end - place) 0 ∙ ap (λ n. replicate n 0) (let e : place - from + (end - place) ≡ end - from = omega arith in e)) in
    let front_is : length (front ++ some) ≡ place = omega (arith, length-append front some, length-replicate {A = ℕ} (place - from) 0, length-take-le from old (omega arith)) in
    let parts : new ≡ (front ++ some) ++ (rest ++ drop end old) =
    new_is ∙ ap (λ z. front ++ (z ++ drop end old)) zeros ∙ regroup_some front some rest (drop end old) in
    let before : take place new ≡ front ++ some = ap (take place) parts ∙ take_at (front ++ some) (rest ++ drop end old) place front_is in
    parts ∙ ap (λ xs. xs ++ (rest ++ drop end old)) (sym before)
    ∙ ap (λ xs. take place new ++ (rest ++ xs)) (sym (cleared_back old new from end (omega arith) within new_is))

-- the page by the steps of the code
pub page_steps : (old blank filled new : List ℕ) (number usable content begin first : ℕ) (cells : PageCells) → begin ≡ begin_of number
    → first ≡ first_pointer number (page_kind cells) → begin ≤ usable → usable ≤ length old
    → blank ≡ take begin old ++ (replicate (usable - begin) 0 ++ drop usable old)
    → Fills usable first usable (take first blank) (drop usable blank) (cells_of cells) content filled
    → Lays filled new begin (header_of cells content) → IsWritten old new number usable cells
page_steps old blank filled new number usable content begin first cells begin_is first_is order within blank_is fills header =
    written old blank filled new number usable content cells (subst (λ b. b ≤ usable) begin_is order) within
    (subst (λ b. take b blank ≡ take b old) begin_is (cleared_front old blank begin usable order within blank_is))
    (cleared_back old blank begin usable order within blank_is) (cleared_size old blank begin usable order within blank_is)
    (subst (λ f. Fills usable f usable (take f blank) (drop usable blank) (cells_of cells) content filled) first_is fills)
    (subst (λ b. Lays filled new b (header_of cells content)) begin_is header)
