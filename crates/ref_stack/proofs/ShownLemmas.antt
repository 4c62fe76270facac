-- What layers show.
use Rattle.std.proofs.Common.{◌≡◌, ℕ, suc, ◌+◌, ◌-◌, ◌/◌, ◌<◌, ◌≤◌, Bool, true, false, if◌then◌else◌, List, [], ◌∷◌, ◌++◌, length, take, refl, sym, ap, ◌∙◌, arith, add-one}
use Rattle.std.proofs.lemmas.Bool.{lt-ltb, le-ltb}
use Rattle.std.proofs.Math.Nat.{div-zero}
use Rattle.std.specs.Str.{bytes_eq}
use Rattle.vfs_model.specs.File.{Found}
use Rattle.vfs_model.specs.Store.{Files}
use Rattle.vfs_model.specs.View.{plain, chunk_then, chunk_name, bytes_from, most_chunks}
use Rattle.ref_stack.specs.declared.files.Shown.{Shown}
use Rattle.ref_stack.specs.Seen.{files_of, Shows}

pub over_zero : (page place : ℕ) → page ≡ 0 → place / page ≡ 0
over_zero page place none = ap (λ p. place / p) none ∙ div-zero place

-- no file that is given has a bad place
good_either : (test : Bool) (f g : Found) (place : ℕ) → f.bad place ≡ false → g.bad place ≡ false → (if test then f else g).bad place ≡ false
good_either true f g place h k = h
good_either false f g place h k = k

pub none_bad : (files : List (List ℕ × List ℕ)) (name : List ℕ) (place : ℕ) → (files_of files name).bad place ≡ false
none_bad [] name place = refl
none_bad (file ∷ more) name place = good_either (bytes_eq file.0 name) (plain true file.1) (files_of more name) place refl (none_bad more name place)

-- the chunks that are left
pub left_more : (number : ℕ) → number < 100000 → most_chunks - number ≡ suc (most_chunks - (number + 1))
unfolding most_chunks
left_more number few = omega (arith, few)

pub chunks_end : (number chunk : ℕ) (files : Files) (name : List ℕ) → 100000 ≤ number → bytes_from (most_chunks - number) chunk files name number ≡ []
unfolding most_chunks
chunks_end number chunk files name all =
    let none : 100000 - number ≡ 0 = omega (arith, all) in
    ap (λ n. bytes_from n chunk files name number) none

here : (number chunk : ℕ) (files : Files) (name : List ℕ) (s : Shown) → number < 100000 → Shows (files (chunk_name name number)) s → s.there ≡ true →
    chunk_then chunk s.bytes (bytes_from (most_chunks - (number + 1)) chunk files name (number + 1)) ≡ bytes_from (most_chunks - number) chunk files name number
here number chunk files name s few shows there =
    ap (λ bytes. chunk_then chunk bytes (bytes_from (most_chunks - (number + 1)) chunk files name (number + 1))) shows.bytes
    ∙ ap (λ n. chunk_then chunk (files (chunk_name name number)).bytes (bytes_from (most_chunks - (number + 1)) chunk files name n)) (add-one number)
    ∙ ap (λ b. if b then chunk_then chunk (files (chunk_name name number)).bytes (bytes_from (most_chunks - (number + 1)) chunk files name (suc number)) else []) (sym there ∙ shows.there)
    ∙ ap (λ n. bytes_from n chunk files name number) (sym (left_more number few))

pub chunk_short : (number chunk : ℕ) (files : Files) (name : List ℕ) (s : Shown) → number < 100000 → Shows (files (chunk_name name number)) s → s.there ≡ true → length s.bytes < chunk →
    bytes_from (most_chunks - number) chunk files name number ≡ s.bytes
chunk_short number chunk files name s few shows there short =
    sym (here number chunk files name s few shows there)
    ∙ ap (λ b. if b then s.bytes else (take chunk s.bytes ++ bytes_from (most_chunks - (number + 1)) chunk files name (number + 1))) (lt-ltb (length s.bytes) chunk short)

pub chunk_full : (number chunk : ℕ) (files : Files) (name : List ℕ) (s : Shown) → number < 100000 → Shows (files (chunk_name name number)) s → s.there ≡ true → chunk ≤ length s.bytes →
    bytes_from (most_chunks - number) chunk files name number ≡ take chunk s.bytes ++ bytes_from (most_chunks - (number + 1)) chunk files name (number + 1)
chunk_full number chunk files name s few shows there full =
    sym (here number chunk files name s few shows there)
    ∙ ap (λ b. if b then s.bytes else (take chunk s.bytes ++ bytes_from (most_chunks - (number + 1)) chunk files name (number + 1))) (le-ltb (length s.bytes) chunk full)
