use Rattle.std.proofs.Common.{◌≡◌, ℕ, zero, suc, ◌+◌, ◌<◌, true, false, cond, List, [], ◌∷◌, length, drop, get_or, sym, ap, subst, ◌∙◌, arith, Option, Some, None, IsSome, MatchOption, find, rules}
use Rattle.std.specs.Str.{bytes_eq}
use Rattle.std.proofs.lemmas.List.{at_drop_more}
use Rattle.mem_vfs.specs.declared.file.File.{File}
use Rattle.std.specs.Option.{option_map_or}
use Rattle.vfs_model.specs.File.{absent}
use Rattle.mem_vfs.specs.Memory.{is_named, IsPlace, IsThere, file_state}

-- the files before the one at this place do not have the name, so its place in the rest leads to its place
abbrev pub LeadsTo : List File → List ℕ → ℕ → Type 0
LeadsTo files name at = (i : ℕ) → IsPlace (drop at files) name i → IsPlace files name (at + i)

pub place_within : (files : List File) (name : List ℕ) (i : ℕ) → IsPlace files name i → i < length files
place_within [] name i h = absurd h
place_within (f ∷ files) name zero h = omega arith
place_within (f ∷ files) name (suc i) h = omega (arith, place_within files name i h.1)

pub leads_on : (files : List File) (name : List ℕ) (at : ℕ) (f : File) → at < length files → f ≡ get_or files at f
    → bytes_eq f.name name ≡ false → LeadsTo files name at → LeadsTo files name (at + 1)
leads_on files name at f within here other leads i h =
    let e : at + suc i ≡ at + 1 + i = omega arith in
    let P : ℕ → Type 0 = IsPlace files name in
    let Q : List File → Type 0 = λ fs. IsPlace fs name (suc i) in
    let R : File → Type 0 = λ g. IsPlace (g ∷ drop (at + 1) files) name (suc i) in
    subst P e (leads (suc i) (subst Q (sym (at_drop_more (λ fs. fs) files at f within)) (subst R here (other, h))))

pub leads_here : (files : List File) (name : List ℕ) (at : ℕ) (f : File) → at < length files → f ≡ get_or files at f
    → bytes_eq f.name name ≡ true → LeadsTo files name at → IsPlace files name at
leads_here files name at f within here same leads =
    let e : at + 0 ≡ at = omega arith in
    let P : ℕ → Type 0 = IsPlace files name in
    let Q : List File → Type 0 = λ fs. IsPlace fs name 0 in
    let R : File → Type 0 = λ g. IsPlace (g ∷ drop (at + 1) files) name 0 in
    subst P e (leads 0 (subst Q (sym (at_drop_more (λ fs. fs) files at f within)) (subst R here same)))

pub find_on : (files : List File) (name : List ℕ) (at : ℕ) (f : File) → at < length files → f ≡ get_or files at f
    → bytes_eq f.name name ≡ false → find (is_named name) (drop at files) ≡ find (is_named name) (drop (at + 1) files)
find_on files name at f within here other =
    at_drop_more (find (is_named name)) files at f within
    ∙ ap (λ g. find (is_named name) (g ∷ drop (at + 1) files)) (sym here)
    ∙ ap (λ b. cond b (Some f) (find (is_named name) (drop (at + 1) files))) other

-- a file that is there has a place
pub some_place : (files : List File) (name : List ℕ) (place : Option ℕ) → MatchOption place (find (is_named name) files ≡ None) (IsPlace files name)
    → IsThere files name → IsSome place
some_place files name (Some i) h there = search rules
some_place files name None h there = let wrong : false ≡ true = sym (ap (λ o. (option_map_or file_state o absent).now.there) h) ∙ there in cc

pub place_found : (files : List File) (name : List ℕ) (place : Option ℕ) (i : ℕ) → MatchOption place (find (is_named name) files ≡ None) (IsPlace files name)
    → place ≡ Some i → IsPlace files name i
place_found files name place i h is = let P : Option ℕ → Type 0 = λ o. MatchOption o (find (is_named name) files ≡ None) (IsPlace files name) in subst P is h
