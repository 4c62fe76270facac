use Rattle.std.proofs.Common.{◌≡◌, ℕ, ◌+◌, ◌≤◌, List, ◌++◌, length, take, drop, sym, ap, ◌∙◌, arith, append_assoc, length-append, length-drop}
use Rattle.std.proofs.lemmas.List.{drop_at, take_at, drop-drop, length-take-le}
use Rattle.tree_page.specs.Steps.{Lays}

-- a text over the front of the rest of a page
pub lay_front : (place n : ℕ) (old text new : List ℕ) → length text ≡ n → place + n ≤ length old
    → new ≡ take place old ++ (text ++ drop n (drop place old)) → Lays old new place text
lay_front place n old text new n_is room new_is = record {
  room = omega arith;
  bytes = new_is ∙ ap (λ xs. take place old ++ (text ++ xs)) (drop-drop n place old ∙ ap (λ k. drop (place + k) old) (sym n_is));
}

pub length_lays : (place : ℕ) (old new text : List ℕ) → Lays old new place text → length new ≡ length old
length_lays place old new text lays =
    let rest = drop (place + length text) old in
    let front : length (take place old) ≡ place = length-take-le place old (omega (arith, lays.room)) in
    ap length lays.bytes
    ∙ omega (arith, lays.room, length-append (take place old) (text ++ rest), length-append text rest, length-drop (place + length text) old)

-- two texts, one behind the other, are one
pub lay_two : (place next : ℕ) (old mid new a b : List ℕ) → next ≡ place + length a → Lays old mid place a → Lays mid new next b → Lays old new place (a ++ b)
lay_two place next old mid new a b next_is first second =
    let rest = drop (place + length a) old in
    let front : length (take place old) ≡ place = length-take-le place old (omega (arith, first.room)) in
    let both : length (take place old ++ a) ≡ next = omega (arith, length-append (take place old) a) in
    let mid_is : mid ≡ (take place old ++ a) ++ rest = first.bytes ∙ sym (append_assoc (take place old) a rest) in
    let size = length_lays place old mid a first in
    let before : take next mid ≡ take place old ++ a = ap (take next) mid_is ∙ take_at (take place old ++ a) rest next both in
    let behind : drop (next + length b) mid ≡ drop (place + length (a ++ b)) old =
    sym (drop-drop (length b) next mid) ∙ ap (λ xs. drop (length b) (drop next xs)) mid_is
    ∙ ap (drop (length b)) (drop_at (take place old ++ a) rest next both)
    ∙ drop-drop (length b) (place + length a) old
    ∙ ap (λ n. drop n old) (omega (arith, length-append a b)) in
    record {
      room = omega (arith, second.room, length-append a b);
      bytes = second.bytes ∙ ap (λ xs. xs ++ (b ++ drop (next + length b) mid)) before
          ∙ ap (λ xs. (take place old ++ a) ++ (b ++ xs)) behind
          ∙ append_assoc (take place old) a (b ++ drop (place + length (a ++ b)) old)
          ∙ ap (λ xs. take place old ++ xs) (sym (append_assoc a b (drop (place + length (a ++ b)) old)));
    }
