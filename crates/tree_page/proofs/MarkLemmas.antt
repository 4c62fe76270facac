-- A part of the marks, read and filled.
use Rattle.std.proofs.Common.{◌≡◌, ℕ, ◌+◌, ◌-◌, ◌≤◌, ◌<◌, inl, inr, Bool, true, false, List, ◌++◌, length, take, drop, replicate, get_or, refl, sym, ap, ◌∙◌, arith, length-append, length-drop}
use Rattle.std.proofs.lemmas.List.{get_or-take, get_or-drop, get_or-replicate, get_or_append_left, get_or-append_right, length-take-le, length-replicate}
use borrow.Rule.Slice.PartMut.{put_mid}
use Rattle.std.proofs.Math.Bool.{beq}
use Rattle.tree_page.specs.Steps.{IsClear, Marks}

-- a place of the part from a place on
part_at : (marks : List Bool) (place size k : ℕ) → k < size → get_or (take size (drop place marks)) k false ≡ get_or marks (place + k) false
part_at marks place size k below = get_or-take size (drop place marks) k false below ∙ get_or-drop place marks k false

part_length : (marks : List Bool) (place size : ℕ) → place + size ≤ length marks → length (take size (drop place marks)) ≡ size
part_length marks place size room = length-take-le size (drop place marks) (omega (arith, length-drop place marks))

not_set : (b : Bool) → beq b true ≡ false → b ≡ false
not_set true e = cc
not_set false e = refl

is_set : (b : Bool) → beq b true ≡ true → b ≡ true
is_set true e = refl
is_set false e = cc

-- none of a part is set
pub clear_part : (marks : List Bool) (place size n : ℕ) → place + size ≤ length marks → n ≡ size
    → ((k : ℕ) (d : Bool) → 0 ≤ k → k < length (take n (drop place marks)) → beq (get_or (take n (drop place marks)) k d) true ≡ false) → IsClear marks (record { place = place; size = size })
clear_part marks place size n room same none at within =
    let back : place + (at - place) ≡ at = omega (arith, within) in
    ap (λ m. get_or marks m false) (sym back) ∙ sym (part_at marks place n (at - place) (omega (arith, within)))
    ∙ not_set _ (none (at - place) false (omega arith) (omega (arith, within, same, part_length marks place n (omega arith))))

-- one of a part is set
pub set_part : (marks : List Bool) (place size n : ℕ) → place + size ≤ length marks → n ≡ size
    → (k : ℕ) × k < length (take n (drop place marks)) × ((d : Bool) → beq (get_or (take n (drop place marks)) k d) true ≡ true) → ¬ (IsClear marks (record { place = place; size = size }))
set_part marks place size n room same found clear =
    let below : found.0 < n = omega (arith, found.1, part_length marks place n (omega arith)) in
    let e : true ≡ false = sym (is_set _ (found.2 false)) ∙ part_at marks place n found.0 below ∙ clear (place + found.0) (omega arith, omega arith) in cc

-- all of a part is set
pub part_set : (old filled : List Bool) (place size n : ℕ) → place + size ≤ length old → n ≡ size → filled ≡ replicate (length (take n (drop place old))) true
    → Marks old (put_mid place n old filled) (record { place = place; size = size })
part_set old filled place size n room same filled_is =
    let front = length-take-le place old (omega arith) in
    let full : filled ≡ replicate n true = filled_is ∙ ap (λ m. replicate m true) (part_length old place n (omega arith)) in
    let mid : length filled ≡ n = ap (λ (xs : List Bool). length xs) full ∙ length-replicate n true in
    let rest = drop n (drop place old) in
    record {
      size = omega (arith, front, mid, length-append (take place old) (filled ++ rest), length-append filled rest, length-drop n (drop place old), length-drop place old);
      inside = λ at within.
          get_or-append_right (take place old) (filled ++ rest) place at false front within.0
          ∙ get_or_append_left filled rest false (at - place) (omega (arith, mid, within))
          ∙ ap (λ xs. get_or xs (at - place) false) full ∙ get_or-replicate n (at - place) true false (omega (arith, within));
      beside = λ at outside. elim outside [
        | inl before ↦ get_or_append_left (take place old) (filled ++ rest) false at (omega (arith, front, before)) ∙ get_or-take place old at false before
        | inr behind ↦
            let back : place + (n + (at - place - n)) ≡ at = omega (arith, behind) in
            get_or-append_right (take place old) (filled ++ rest) place at false front (omega (arith, behind))
            ∙ get_or-append_right filled rest n (at - place) false mid (omega (arith, behind))
            ∙ get_or-drop n (drop place old) (at - place - n) false ∙ get_or-drop place old (n + (at - place - n)) false ∙ ap (λ m. get_or old m false) back
      ];
    }
