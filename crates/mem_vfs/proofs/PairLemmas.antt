-- Lists of files of which each stems from what stands at its place in another list.
use Rattle.std.proofs.Common.{◌≡◌, ℕ, zero, suc, ◌+◌, ◌<◌, ◌≤◌, Bool, true, false, cond, List, [], ◌∷◌, ◌++◌, length, take, get_or, refl, sym, ap, subst, ◌∙◌, arith, Option, Some, None, slice_set, find}
use Rattle.std.specs.Str.{bytes_eq}
use Rattle.std.proofs.lemmas.List.{take_more, take_all}
use Rattle.mem_vfs.specs.declared.file.File.{File}
use Rattle.mem_vfs.specs.Memory.{is_named}

abbrev pub Paired : {X : Type 0} → (X → File → Type 0) → List X → List File → Type 0
Paired R [] [] = Unit {0}
Paired R [] (f ∷ files) = ⊥
Paired R (x ∷ xs) [] = ⊥
Paired R (x ∷ xs) (f ∷ files) = R x f × Paired R xs files

paired_push : {X : Type 0} (R : X → File → Type 0) (xs : List X) (files : List File) (x : X) (f : File) → Paired R xs files → R x f → Paired R (xs ++ x ∷ []) (files ++ f ∷ [])
paired_push R [] [] x f h new = (new, tt)
paired_push R [] (g ∷ files) x f h new = absurd h
paired_push R (y ∷ xs) [] x f h new = absurd h
paired_push R (y ∷ xs) (g ∷ files) x f h new = (h.0, paired_push R xs files x f h.1 new)

-- one more file was pushed
pub paired_kept : {X : Type 0} (R : X → File → Type 0) (xs : List X) (old new : List File) (i : ℕ) (x : X) (f : File) → i < length xs → x ≡ get_or xs i x
    → new ≡ old ++ f ∷ [] → Paired R (take i xs) old → R x f → Paired R (take (i + 1) xs) new
paired_kept {X = X} R xs old new i x f within is is_pushed h new_one =
    let P : List File → Type 0 = λ fs. Paired R (take (i + 1) xs) fs in
    let Q : X → Type 0 = λ y. R y f in
    let S : List X → Type 0 = λ ys. Paired R ys (old ++ f ∷ []) in
    subst P (sym is_pushed) (subst S (sym (take_more xs i x within)) (paired_push R (take i xs) old (get_or xs i x) f h (subst Q is new_one)))

pub paired_all : {X : Type 0} (R : X → File → Type 0) (xs : List X) (files : List File) (i : ℕ) → length xs ≤ i → Paired R (take i xs) files → Paired R xs files
paired_all {X = X} R xs files i past h = let S : List X → Type 0 = λ ys. Paired R ys files in subst S (take_all i xs past) h

-- so many at the beginning were turned, and the others are as they were
abbrev pub Turned : (File → File → Type 0) → ℕ → List File → List File → Type 0
Turned R n [] [] = Unit {0}
Turned R n [] (g ∷ gs) = ⊥
Turned R n (f ∷ fs) [] = ⊥
Turned R zero (f ∷ fs) (g ∷ gs) = (g ≡ f) × Turned R zero fs gs
Turned R (suc n) (f ∷ fs) (g ∷ gs) = R f g × Turned R n fs gs

pub turned_none : (R : File → File → Type 0) (files : List File) → Turned R 0 files files
turned_none R [] = tt
turned_none R (f ∷ files) = (refl, turned_none R files)

turned_next : (R : File → File → Type 0) (old new : List File) (i : ℕ) (f g : File) → i < length new → f ≡ get_or new i f → R f g → Turned R i old new → Turned R (suc i) old (slice_set new i g)
turned_next R [] [] i f g within is holds h = absurd (omega (arith, within))
turned_next R [] (y ∷ new) i f g within is holds h = absurd h
turned_next R (x ∷ old) [] i f g within is holds h = absurd h
turned_next R (x ∷ old) (y ∷ new) zero f g within is holds h = let P : File → Type 0 = λ z. R z g in (subst P (is ∙ h.0) holds, h.1)
turned_next R (x ∷ old) (y ∷ new) (suc i) f g within is holds h = (h.0, turned_next R old new i f g (omega (arith, within)) is holds h.1)

pub turned_more : (R : File → File → Type 0) (old new : List File) (i : ℕ) (f g : File) → i < length new → f ≡ get_or new i f → R f g → Turned R i old new → Turned R (i + 1) old (slice_set new i g)
turned_more R old new i f g within is holds h =
    let P : ℕ → Type 0 = λ n. Turned R n old (slice_set new i g) in
    let e : suc i ≡ i + 1 = omega arith in
    subst P e (turned_next R old new i f g within is holds h)

pub turned_all : (R : File → File → Type 0) (old new : List File) (n : ℕ) → length new ≤ n → Turned R n old new → Paired R old new
turned_all R [] [] n past h = tt
turned_all R [] (g ∷ new) n past h = absurd h
turned_all R (f ∷ old) [] n past h = absurd h
turned_all R (f ∷ old) (g ∷ new) zero past h = absurd (omega (arith, past))
turned_all R (f ∷ old) (g ∷ new) (suc n) past h = (h.0, turned_all R old new n (omega (arith, past)) h.1)

module _ (R : File → File → Type 0) (named : (f g : File) → R f g → g.name ≡ f.name) (Q : Option File → Option File → Type 0) (none : Q None None) (some : (f g : File) → R f g → Q (Some f) (Some g)) where
  pick : (b c : Bool) (f g : File) (o p : Option File) → c ≡ b → R f g → Q o p → Q (cond b (Some f) o) (cond c (Some g) p)
  pick true true f g o p e holds rest = some f g holds
  pick true false f g o p e holds rest = cc
  pick false true f g o p e holds rest = cc
  pick false false f g o p e holds rest = rest

  -- what holds of each pair holds of the two that a name finds
  pub paired_find : (old new : List File) → Paired R old new → (name : List ℕ) → Q (find (is_named name) old) (find (is_named name) new)
  paired_find [] [] h name = none
  paired_find [] (g ∷ new) h name = absurd h
  paired_find (f ∷ old) [] h name = absurd h
  paired_find (f ∷ old) (g ∷ new) h name =
      pick (bytes_eq f.name name) (bytes_eq g.name name) f g (find (is_named name) old) (find (is_named name) new) (ap (λ n. bytes_eq n name) (named f g h.0)) h.0 (paired_find old new h.1 name)
