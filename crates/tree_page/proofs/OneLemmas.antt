use Rattle.std.proofs.Common.{◌≡◌, ℕ, ℤ, ◌+◌, List, [], ◌∷◌, ◌++◌, length, map, take, drop, refl, sym, subst, ap, ◌∙◌, arith, append_assoc, length-append}
use Rattle.std.specs.List.{AllByRecursion}
use Rattle.std.specs.Int.{w64, cast_signed}
use Rattle.std.proofs.lemmas.Int.{of_z-to_z}
use Rattle.std.proofs.lemmas.List.{take_at}
use Rattle.byteorder.specs.Endian.{big_number}
use Rattle.db_format.specs.Varint.{IsVarint, OneVarint}
use Rattle.tree_page.specs.declared.cell.Kind.{Kind}
use Rattle.tree_page.specs.declared.cell.LeafCell.{LeafCell}
use Rattle.tree_page.specs.declared.cell.InnerCell.{InnerCell}
use Rattle.tree_page.specs.declared.cell.PageCells.{PageCells}
use Rattle.tree_page.specs.declared.cell.PageCells.TheVariants.{Leaf, Interior}
use Rattle.tree_page.specs.Page.{Cell, leaf, inner, kind_of, page_kind, cells_of, first_pointer, content_start, Placed, IsAt, Stands, ArePointers, HasRight, IsTreePage, OnePage}
use Rattle.tree_page.specs.Steps.{ReadsVarint}
use Rattle.tree_page.proofs.ReadLemmas.{reads_varint, leaf_parts, parts_overflow, leaf_only, inner_only, after}
use Rattle.tree_page.proofs.PageLemmas.{same_kind, page_kinds, all_unmap, other_kind}

-- a varint in front of other bytes
front_varint : OneVarint → (bytes text behind : List ℕ) (value : ℤ) → IsVarint text value → bytes ≡ text ++ behind → ReadsVarint bytes (length text) value
front_varint law bytes text behind value is joined =
    reads_varint law bytes (length text) value (omega (arith, ap length joined, length-append text behind))
    (subst (λ xs. IsVarint xs value) (sym (ap (take (length text)) joined ∙ take_at text behind (length text) refl)) is)

one_leaf : OneVarint → (bytes : List ℕ) (place m n : ℕ) (c d : LeafCell) → IsAt bytes place m (leaf c) → IsAt bytes place n (leaf d) → leaf c ≡ leaf d
one_leaf law bytes place m n c d at_c at_d =
    let s = at_c.spelled in
    let rest = c.local ++ s.overflow_text in
    let one : drop place bytes ≡ s.length_text ++ ((s.rowid_text ++ rest) ++ at_c.behind) =
    at_c.joined ∙ ap (λ xs. xs ++ at_c.behind) s.joined ∙ append_assoc s.length_text (s.rowid_text ++ rest) at_c.behind in
    let two : drop (length s.length_text) (drop place bytes) ≡ s.rowid_text ++ (rest ++ at_c.behind) =
    after (drop place bytes) s.length_text ((s.rowid_text ++ rest) ++ at_c.behind) (length s.length_text) one refl ∙ append_assoc s.rowid_text rest at_c.behind in
    let value = cast_signed w64 c.payload_len in
    let first = front_varint law (drop place bytes) s.length_text ((s.rowid_text ++ rest) ++ at_c.behind) value s.sized one in
    let second = front_varint law (drop (length s.length_text) (drop place bytes)) s.rowid_text (rest ++ at_c.behind) c.rowid s.keyed two in
    let payload = sym (of_z-to_z w64 c.payload_len s.unsigned) in
    let a = length s.length_text in
    let b = length s.rowid_text in
    let p = leaf_parts bytes place a b m c.payload_len value c.rowid c first second payload at_c in
    let has = parts_overflow _ a b m c.payload_len (length bytes) (length c.local) c.rowid c p.local_is p in
    let of_c = leaf_only bytes place a b c.payload_len (length c.local) c.overflow (length p.over) value c.rowid first second payload p.local_is has m c at_c in
    let of_d = leaf_only bytes place a b c.payload_len (length c.local) c.overflow (length p.over) value c.rowid first second payload p.local_is has n d at_d in
    of_c.1 ∙ sym of_d.1

one_inner : OneVarint → (bytes : List ℕ) (place m n : ℕ) (c d : InnerCell) → IsAt bytes place m (inner c) → IsAt bytes place n (inner d) → inner c ≡ inner d
one_inner law bytes place m n c d at_c at_d =
    let s = at_c.spelled in
    let one : drop place bytes ≡ s.child_text ++ (s.rowid_text ++ at_c.behind) = at_c.joined ∙ ap (λ xs. xs ++ at_c.behind) s.joined ∙ append_assoc s.child_text s.rowid_text at_c.behind in
    let two = after (drop place bytes) s.child_text (s.rowid_text ++ at_c.behind) 4 one s.four in
    let second = front_varint law (drop 4 (drop place bytes)) s.rowid_text at_c.behind c.rowid s.keyed two in
    let child = big_number 4 (drop place bytes) in
    let of_c = inner_only bytes place (length s.rowid_text) child c.rowid refl second m c at_c in
    let of_d = inner_only bytes place (length s.rowid_text) child c.rowid refl second n d at_d in
    of_c.1 ∙ sym of_d.1

-- one cell of a kind stands at a place at most
one_cell : OneVarint → (bytes : List ℕ) (place m n : ℕ) (c d : Cell) → kind_of c ≡ kind_of d → IsAt bytes place m c → IsAt bytes place n d → c ≡ d
one_cell law bytes place m n (leaf c) (leaf d) same at_c at_d = one_leaf law bytes place m n c d at_c at_d
one_cell law bytes place m n (leaf c) (inner d) same at_c at_d = absurd (other_kind same)
one_cell law bytes place m n (inner c) (leaf d) same at_c at_d = absurd (other_kind (sym same))
one_cell law bytes place m n (inner c) (inner d) same at_c at_d = one_inner law bytes place m n c d at_c at_d

one_list : OneVarint → (bytes : List ℕ) (content pointer : ℕ) (kind : Kind) (ps qs : List Placed) → length ps ≡ length qs
    → ArePointers bytes pointer ps → ArePointers bytes pointer qs → AllByRecursion (Stands bytes content) ps → AllByRecursion (Stands bytes content) qs
    → AllByRecursion (λ p. kind_of p.cell ≡ kind) ps → AllByRecursion (λ p. kind_of p.cell ≡ kind) qs → map (λ p. p.cell) ps ≡ map (λ p. p.cell) qs
one_list law bytes content pointer kind [] [] count at_p at_q stand_p stand_q kind_p kind_q = refl
one_list law bytes content pointer kind [] (q ∷ qs) count at_p at_q stand_p stand_q kind_p kind_q = absurd (omega arith)
one_list law bytes content pointer kind (p ∷ ps) [] count at_p at_q stand_p stand_q kind_p kind_q = absurd (omega arith)
one_list law bytes content pointer kind (p ∷ ps) (q ∷ qs) count at_p at_q stand_p stand_q kind_p kind_q =
    let same_place : q.place ≡ p.place = sym at_q.0 ∙ at_p.0 in
    let here = one_cell law bytes p.place p.size q.size p.cell q.cell (kind_p.0 ∙ sym kind_q.0) stand_p.0.cell_is (subst (λ n. IsAt bytes n q.size q.cell) same_place stand_q.0.cell_is) in
    let rest = one_list law bytes content (pointer + 2) kind ps qs (omega arith) at_p.1 at_q.1 stand_p.1 stand_q.1 kind_p.1 kind_q.1 in
    ap (λ c. c ∷ map (λ p. p.cell) ps) here ∙ ap (λ cs. q.cell ∷ cs) rest

leaves_same : (xs ys : List LeafCell) → map leaf xs ≡ map leaf ys → xs ≡ ys
leaves_same [] [] same = refl
leaves_same [] (y ∷ ys) same = cc
leaves_same (x ∷ xs) [] same = cc
leaves_same (x ∷ xs) (y ∷ ys) same =
    let first : leaf x ≡ leaf y = cc in
    let one : x ≡ y = cc in
    let rest : map leaf xs ≡ map leaf ys = cc in
    ap (λ c. c ∷ xs) one ∙ ap (λ cs. y ∷ cs) (leaves_same xs ys rest)

inners_same : (xs ys : List InnerCell) → map inner xs ≡ map inner ys → xs ≡ ys
inners_same [] [] same = refl
inners_same [] (y ∷ ys) same = cc
inners_same (x ∷ xs) [] same = cc
inners_same (x ∷ xs) (y ∷ ys) same =
    let first : inner x ≡ inner y = cc in
    let one : x ≡ y = cc in
    let rest : map inner xs ≡ map inner ys = cc in
    ap (λ c. c ∷ xs) one ∙ ap (λ cs. y ∷ cs) (inners_same xs ys rest)

-- pages of one kind with the same cells and right-most child
same_page : (bytes : List ℕ) (number : ℕ) (a b : PageCells) → page_kind a ≡ page_kind b → cells_of a ≡ cells_of b → HasRight bytes number a → HasRight bytes number b → a ≡ b
same_page bytes number (Leaf xs) (Leaf ys) kind cells right_a right_b = ap Leaf (leaves_same xs ys cells)
same_page bytes number (Leaf xs) (Interior ys right) kind cells right_a right_b = absurd (other_kind kind)
same_page bytes number (Interior xs right) (Leaf ys) kind cells right_a right_b = absurd (other_kind (sym kind))
same_page bytes number (Interior xs some) (Interior ys other) kind cells right_a right_b =
    ap (λ cs. Interior cs some) (inners_same xs ys cells) ∙ ap (Interior ys) (right_a ∙ sym right_b)

one_tree_page : OneVarint → (bytes : List ℕ) (number : ℕ) (a b : PageCells) → IsTreePage bytes number a → IsTreePage bytes number b → a ≡ b
one_tree_page law bytes number a b of_a of_b =
    let kind : page_kind b ≡ page_kind a = same_kind _ _ (sym of_b.kind ∙ of_a.kind) in
    let kinds_a = all_unmap (page_kind a) of_a.placed (subst (AllByRecursion (λ c. kind_of c ≡ page_kind a)) of_a.cells_are (page_kinds a)) in
    let kinds_b = all_unmap (page_kind b) of_b.placed (subst (AllByRecursion (λ c. kind_of c ≡ page_kind b)) of_b.cells_are (page_kinds b)) in
    let cells = one_list law bytes (content_start bytes number) (first_pointer number (page_kind a)) (page_kind a) of_a.placed of_b.placed (sym of_a.count ∙ of_b.count)
    of_a.pointers (subst (λ k. ArePointers bytes (first_pointer number k) of_b.placed) kind of_b.pointers) of_a.stand of_b.stand
    kinds_a (subst (λ k. AllByRecursion (λ p. kind_of p.cell ≡ k) of_b.placed) kind kinds_b) in
    same_page bytes number a b (sym kind) (of_a.cells_are ∙ cells ∙ sym of_b.cells_are) of_a.right of_b.right

pub one_page : OneVarint → OnePage
one_page law = λ page number usable some other of_some of_other. one_tree_page law (take usable page) number some other of_some of_other
