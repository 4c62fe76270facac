-- The names of the chunks of a file.
use Rattle.std.proofs.Common.{◌≡◌, ℕ, suc, ◌+◌, ◌-◌, ◌<◌, ◌≤◌, false, true, List, [], ◌∷◌, length, nat_lt, if◌then◌else◌, sym, ap, ◌∙◌, arith, add-one}
use Rattle.std.proofs.lemmas.Bool.{lt-ltb, le-ltb}
use Rattle.vfs_model.specs.Store.{Files}
use Rattle.vfs_model.specs.View.{chunk_name, most_chunks}
use Rattle.vfs_model.specs.Pass.{chunk_names}
use Rattle.ref_stack.specs.declared.files.Shown.{Shown}
use Rattle.ref_stack.specs.Seen.{Shows}
use Rattle.ref_stack.proofs.ShownLemmas.{left_more}

pub names_over : (number chunk : ℕ) (files : Files) (name : List ℕ) → 100000 ≤ number → chunk_names (most_chunks - number) chunk files name number ≡ []
unfolding most_chunks chunk_names
names_over number chunk files name all =
    let none : 100000 - number ≡ 0 = omega (arith, all) in
    ap (λ n. chunk_names n chunk files name number) none

pub names_none : (number chunk : ℕ) (files : Files) (name : List ℕ) (s : Shown) → number < 100000 → Shows (files (chunk_name name number)) s → s.there ≡ false →
    chunk_names (most_chunks - number) chunk files name number ≡ []
unfolding chunk_names
names_none number chunk files name s few shows gone =
    ap (λ n. chunk_names n chunk files name number) (left_more number few)
    ∙ ap (λ b. if b then chunk_name name number ∷ (if nat_lt (length (files (chunk_name name number)).bytes) chunk then []
    else chunk_names (most_chunks - (number + 1)) chunk files name (suc number)) else []) (sym shows.there ∙ gone)

-- a chunk that is there
here : (number chunk : ℕ) (files : Files) (name : List ℕ) (s : Shown) → number < 100000 → Shows (files (chunk_name name number)) s → s.there ≡ true →
    chunk_names (most_chunks - number) chunk files name number
    ≡ chunk_name name number ∷ (if nat_lt (length s.bytes) chunk then [] else chunk_names (most_chunks - (number + 1)) chunk files name (number + 1))
unfolding chunk_names
here number chunk files name s few shows there =
    ap (λ n. chunk_names n chunk files name number) (left_more number few)
    ∙ ap (λ b. if b then chunk_name name number ∷ (if nat_lt (length (files (chunk_name name number)).bytes) chunk then []
    else chunk_names (most_chunks - (number + 1)) chunk files name (suc number)) else []) (sym shows.there ∙ there)
    ∙ ap (λ bytes. chunk_name name number ∷ (if nat_lt (length bytes) chunk then [] else chunk_names (most_chunks - (number + 1)) chunk files name (suc number))) (sym shows.bytes)
    ∙ ap (λ n. chunk_name name number ∷ (if nat_lt (length s.bytes) chunk then [] else chunk_names (most_chunks - (number + 1)) chunk files name n)) (sym (add-one number))

pub names_last : (number chunk : ℕ) (files : Files) (name : List ℕ) (s : Shown) → number < 100000 → Shows (files (chunk_name name number)) s → s.there ≡ true →
    length s.bytes < chunk → chunk_names (most_chunks - number) chunk files name number ≡ chunk_name name number ∷ []
names_last number chunk files name s few shows there short =
    here number chunk files name s few shows there
    ∙ ap (λ b. chunk_name name number ∷ (if b then [] else chunk_names (most_chunks - (number + 1)) chunk files name (number + 1))) (lt-ltb (length s.bytes) chunk short)

pub names_more : (number chunk : ℕ) (files : Files) (name : List ℕ) (s : Shown) → number < 100000 → Shows (files (chunk_name name number)) s → s.there ≡ true →
    chunk ≤ length s.bytes →
    chunk_names (most_chunks - number) chunk files name number ≡ chunk_name name number ∷ chunk_names (most_chunks - (number + 1)) chunk files name (number + 1)
names_more number chunk files name s few shows there full =
    here number chunk files name s few shows there
    ∙ ap (λ b. chunk_name name number ∷ (if b then [] else chunk_names (most_chunks - (number + 1)) chunk files name (number + 1))) (le-ltb (length s.bytes) chunk full)
