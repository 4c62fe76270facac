-- Files by their names: what one changed file, or one more, changes of all.
use Rattle.std.proofs.Common.{◌≡◌, ◌≢◌, ℕ, zero, suc, Bool, true, false, cond, List, [], ◌∷◌, ◌++◌, get_or, refl, sym, ap, subst, ◌∙◌, arith, IsTrue, Option, Some, None, slice_set, find}
use Rattle.std.specs.Option.{option_map_or}
use Rattle.std.specs.Str.{bytes_eq}
use Rattle.std.proofs.lemmas.Slice.Eq.{bytes_eq-Decides}
use Rattle.vfs_model.specs.File.{FileState, absent}
use Rattle.vfs_model.specs.Effect.{NoLooser}
use Rattle.mem_vfs.specs.declared.file.File.{File}
use Rattle.mem_vfs.specs.Memory.{is_named, IsPlace, store, file_state, IsThere}
use Rattle.mem_vfs.specs.Change.{Changes, StayThere}

pub same_name : (a b : List ℕ) → bytes_eq a b ≡ true → a ≡ b
same_name a b h = (bytes_eq-Decides a b).0 h

pub own_name : (a : List ℕ) → bytes_eq a a ≡ true
own_name a = (bytes_eq-Decides a a).1 refl

pub other_name : (a b : List ℕ) → a ≢ b → bytes_eq a b ≡ false
other_name a b apart = elim (bytes_eq a b) as (λ r. bytes_eq a b ≡ r → bytes_eq a b ≡ false) [
  | true ↦ λ e. absurd (apart (same_name a b e))
  | false ↦ λ e. e
] refl

-- a file is no looser than itself
pub looser_same : (s : FileState) → NoLooser s s
looser_same s = record {
  now = refl;
  tame = λ tame. tame;
  was_tame = λ tame. tame;
  sure = λ h. h;
  stop = λ _. record { kept = λ place any kept. kept; floor_is = omega arith; reach_is = omega arith };
}

pub looser_equal : (s t : FileState) → t ≡ s → NoLooser s t
looser_equal s t is = let P : FileState → Type 0 = λ u. NoLooser s u in subst P (sym is) (looser_same s)

-- a test that stands twice
again : {X : Type 0} (b : Bool) (x y z : X) → cond b x z ≡ cond b x (cond b y z)
again true x y z = refl
again false x y z = refl

exchange : {X : Type 0} (p q : Bool) (x y z : X) → (p ≡ true → q ≡ true → ⊥) → cond p x (cond q y z) ≡ cond q y (cond p x z)
exchange true true x y z h = absurd (h refl refl)
exchange true false x y z h = refl
exchange false q x y z h = refl

not_both : (a b other : List ℕ) → bytes_eq a b ≡ false → bytes_eq a other ≡ true → bytes_eq b other ≡ true → ⊥
not_both a b other differ p q =
    let same : bytes_eq a b ≡ true = ap (λ n. bytes_eq n b) (same_name a other p) ∙ ap (λ n. bytes_eq n b) (sym (same_name b other q)) ∙ own_name b in
    let wrong : true ≡ false = sym same ∙ differ in
    cc

not_first : {X : Type 0} (b : Bool) (x : X) (o : Option X) → cond b (Some x) o ≡ None → (b ≡ false) × (o ≡ None)
not_first true x o e = cc
not_first false x o e = (refl, e)

-- two tests of which only one passes
apart : (a b other : List ℕ) {X : Type 0} (x y z : X) → bytes_eq a b ≡ false
    → cond (bytes_eq a other) x (cond (bytes_eq b other) y z) ≡ cond (bytes_eq b other) y (cond (bytes_eq a other) x z)
apart a b other x y z differ =
    exchange (bytes_eq a other) (bytes_eq b other) x y z (λ p q. absurd (not_both a b other differ p q))

-- the first file of a name has it
pub named_at : (files : List File) (name : List ℕ) (i : ℕ) (f : File) → IsPlace files name i → f ≡ get_or files i f → f.name ≡ name
named_at [] name i f h e = absurd h
named_at (g ∷ files) name zero f h e = ap (λ x. x.name) e ∙ same_name g.name name h
named_at (g ∷ files) name (suc i) f h e = named_at files name i f h.1 e

pub store_at : (files : List File) (name : List ℕ) (i : ℕ) (f : File) → IsPlace files name i → f ≡ get_or files i f → store files name ≡ file_state f
store_at [] name i f h e = absurd h
store_at (g ∷ files) name zero f h e = ap (λ b. option_map_or file_state (cond b (Some g) (find (is_named name) files)) absent) h ∙ ap file_state (sym e)
store_at (g ∷ files) name (suc i) f h e =
    ap (λ b. option_map_or file_state (cond b (Some g) (find (is_named name) files)) absent) h.0 ∙ store_at files name i f h.1 e

-- a file in place of the first one of its name
find-set : (files : List File) (i : ℕ) (name : List ℕ) (f : File) (other : List ℕ) → IsPlace files name i → f.name ≡ name
    → find (is_named other) (slice_set files i f) ≡ cond (bytes_eq name other) (Some f) (find (is_named other) files)
find-set [] i name f other h e = absurd h
find-set (g ∷ files) zero name f other h e =
    let same : bytes_eq g.name other ≡ bytes_eq name other = ap (λ n. bytes_eq n other) (same_name g.name name h) in
    ap (λ n. cond (bytes_eq n other) (Some f) (find (is_named other) files)) e
    ∙ again (bytes_eq name other) (Some f) (Some g) (find (is_named other) files)
    ∙ ap (λ b. cond (bytes_eq name other) (Some f) (cond b (Some g) (find (is_named other) files))) (sym same)
find-set (g ∷ files) (suc i) name f other h e =
    ap (cond (bytes_eq g.name other) (Some g)) (find-set files i name f other h.1 e)
    ∙ apart g.name name other (Some g) (Some f) (find (is_named other) files) h.0

find-push : (files : List File) (f : File) (other : List ℕ) → find (is_named f.name) files ≡ None
    → find (is_named other) (files ++ f ∷ []) ≡ cond (bytes_eq f.name other) (Some f) (find (is_named other) files)
find-push [] f other none = refl
find-push (g ∷ files) f other none =
    let parts : (bytes_eq g.name f.name ≡ false) × (find (is_named f.name) files ≡ None) = not_first (bytes_eq g.name f.name) g (find (is_named f.name) files) none in
    ap (cond (bytes_eq g.name other) (Some g)) (find-push files f other parts.1)
    ∙ apart g.name f.name other (Some g) (Some f) (find (is_named other) files) parts.0

-- what a store is of which a test picks one file
picked : (b : Bool) (f : File) (o : Option File) → option_map_or file_state (cond b (Some f) o) absent ≡ cond b (file_state f) (option_map_or file_state o absent)
picked true f o = refl
picked false f o = refl

-- two stores that differ at one name
abbrev pub IsSet : List File → List File → List ℕ → File → Type 0
IsSet old new name f = (other : List ℕ) → store new other ≡ cond (bytes_eq name other) (file_state f) (store old other)

pub is_set : (files : List File) (i : ℕ) (name : List ℕ) (f : File) → IsPlace files name i → f.name ≡ name → IsSet files (slice_set files i f) name f
is_set files i name f h e other = ap (λ o. option_map_or file_state o absent) (find-set files i name f other h e) ∙ picked (bytes_eq name other) f (find (is_named other) files)

is_pushed : (files : List File) (f : File) → find (is_named f.name) files ≡ None → IsSet files (files ++ f ∷ []) f.name f
is_pushed files f none other = ap (λ o. option_map_or file_state o absent) (find-push files f other none) ∙ picked (bytes_eq f.name other) f (find (is_named other) files)

set_here : (old new : List File) (name : List ℕ) (f : File) → IsSet old new name f → store new name ≡ file_state f
set_here old new name f h = h name ∙ ap (λ b. cond b (file_state f) (store old name)) (own_name name)

set_beside : (old new : List File) (name other : List ℕ) (f : File) → IsSet old new name f → name ≢ other → store new other ≡ store old other
set_beside old new name other f h differ = h other ∙ ap (λ b. cond b (file_state f) (store old other)) (other_name name other differ)

pub set_changes : (P : FileState → FileState → Type 0) (old new : List File) (name : List ℕ) (f : File) → IsSet old new name f → P (store old name) (file_state f) → Changes P old new name
set_changes P old new name f h holds = record {
  file = let Q : FileState → Type 0 = λ s. P (store old name) s in subst Q (sym (set_here old new name f h)) holds;
  others = record { each = λ other differ. looser_equal (store old other) (store new other) (set_beside old new name other f h differ) };
}

-- files are there after as before where one that was there still is
pub changes_stay : (P : FileState → FileState → Type 0) (old new : List File) (name : List ℕ) → Changes P old new name → (IsThere old name → IsThere new name) → StayThere old new
changes_stay P old new name h stays = record {
  each = λ other there. elim (bytes_eq name other) as (λ b. bytes_eq name other ≡ b → IsThere new other) [
    | true ↦ λ e. let here : name ≡ other = same_name name other e in
        let Q : List ℕ → Type 0 = λ n. IsThere new n in
        let R : List ℕ → Type 0 = λ n. IsThere old n in
        subst Q here (stays (subst R (sym here) there))
    | false ↦ λ e.
        let differ : name ≢ other = λ s. (let wrong : true ≡ false = sym (own_name name) ∙ ap (bytes_eq name) s ∙ e in cc) in
        let Q : Bool → Type 0 = IsTrue in
        subst Q (ap (λ f. f.there) (sym ((h.others).each other differ).now)) there
  ] refl;
}

-- so where the one of the name is there as before, and where it is there now
pub still_there : (P : FileState → FileState → Type 0) (old new : List File) (name : List ℕ) → Changes P old new name → (store new name).now.there ≡ (store old name).now.there → StayThere old new
still_there P old new name h same = changes_stay P old new name h (λ there. same ∙ there)

pub now_there : (P : FileState → FileState → Type 0) (old new : List File) (name : List ℕ) → Changes P old new name → IsThere new name → StayThere old new
now_there P old new name h there = changes_stay P old new name h (λ _. there)

-- a file that keeps its name in place of the first one of a name: f is that one, as it was read
kept_name : (files : List File) (i : ℕ) (name : List ℕ) (f new : File) → IsPlace files name i → f ≡ get_or files i f
    → new.name ≡ (get_or files i f).name → new.name ≡ name
kept_name files i name f new h is e = e ∙ ap (λ x. x.name) (sym is) ∙ named_at files name i f h is

-- what changed of the file changed of the state of its name
pub changes : (P : FileState → FileState → Type 0) (files : List File) (i : ℕ) (name : List ℕ) (f new : File) → IsPlace files name i → f ≡ get_or files i f
    → new.name ≡ (get_or files i f).name → P (file_state (get_or files i f)) (file_state new) → Changes P files (slice_set files i new) name
changes P files i name f new h is e holds =
    let Q : FileState → Type 0 = λ s. P s (file_state new) in
    set_changes P files (slice_set files i new) name new (is_set files i name new h (kept_name files i name f new h is e))
    (subst Q (ap file_state (sym is) ∙ sym (store_at files name i f h is)) holds)

-- files with one more at their end, whose name had none
pub pushed : (P : FileState → FileState → Type 0) (old new : List File) (name : List ℕ) (f : File) → new ≡ old ++ f ∷ [] → f.name ≡ name → find (is_named name) old ≡ None
    → P absent (file_state f) → Changes P old new name
pushed P old new name f is named none holds =
    let Q : List File → Type 0 = λ fs. Changes P old fs name in
    let R : List ℕ → Type 0 = λ n. Changes P old (old ++ f ∷ []) n in
    let S : FileState → Type 0 = λ s. P s (file_state f) in
    let none_here : find (is_named f.name) old ≡ None = ap (λ n. find (is_named n) old) named ∙ none in
    subst Q (sym is) (subst R named (set_changes P old (old ++ f ∷ []) f.name f (is_pushed old f none_here)
    (subst S (sym (ap (λ o. option_map_or file_state o absent) none_here)) holds)))
