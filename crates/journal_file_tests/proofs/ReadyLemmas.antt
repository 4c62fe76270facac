-- A file of two pages under a journal of both as they are.
use Rattle.std.proofs.Common.{arith, ◌≡◌, ℕ, ◌+◌, ◌-◌, Bool, false, List, [], ◌∷◌, length, take, drop, slice_get, IsTrue, Option, Some, None, inl, inr, refl, sym, ◌∙◌, ap, subst}
use Rattle.std.proofs.lemmas.List.{append-nil, take_all, length-take-le, length-drop}
use Rattle.vfs_model.specs.Places.{get-take, get-drop}
use Rattle.vfs_model.specs.File.{Found, FileState, IsSettled}
use Rattle.journal_format.specs.Undo.{Paged, Undo, laid, start, ArePages, AreOriginals}
use Rattle.journal_format.specs.Journal.{IsPlan}
use Rattle.journal_format.specs.Laws.{SameLaid}
use Rattle.journal_file.specs.Content.{cleared, all_cleared, bad_unless, IsUndone}
use Rattle.journal_file.specs.Commit.{AreAmong, IsReady}

-- the two pages of a file
abbrev pub both : List ℕ → List Paged
both bytes = (1, take 512 bytes) ∷ (2, drop 512 bytes) ∷ []

pub both_are : (bytes : List ℕ) → length bytes ≡ 1024 → ArePages 512 (both bytes)
both_are bytes size = (omega arith, length-take-le 512 bytes (omega (arith, size)), (omega arith, omega (arith, length-drop 512 bytes, size), tt))

pub both_planned : (bytes : List ℕ) → length bytes ≡ 1024 → IsPlan 1 (record { page = 512; initial = 2; originals = both bytes; super_name = None })
both_planned bytes size = record {
  nonce_fits = omega arith;
  page_is_size = refl;
  small = omega arith;
  pages = both_are bytes size;
  within = (omega arith, (omega arith, tt));
  rising = (omega arith, (omega arith, tt));
  super_is = λ name is. absurd (none name is);
} where
  none : (name : List ℕ) → None ≡ Some name → ⊥
  none name is = cc

pub both_among : (a b : List ℕ) → AreAmong (both a) (both b)
both_among a b = (inl refl, (inr (inl refl), tt))

all_of : (bytes : List ℕ) → cleared 0 bytes ≡ bytes
all_of bytes = append-nil (take (length bytes - 0) bytes) ∙ take_all (length bytes - 0) bytes (omega arith)

cleared_both : (bytes : List ℕ) → all_cleared 0 (both bytes) ≡ both bytes
cleared_both bytes = let e = all_of (take 512 bytes) in let k = all_of (drop 512 bytes) in cc

originals : (bytes : List ℕ) → AreOriginals 512 (both bytes) bytes
originals bytes = (λ k w. (let e : k ≡ start 512 1 + k = omega arith in get-take bytes 512 k w ∙ ap (slice_get bytes) e), (λ k w. get-drop bytes 512 k, tt))

unmarked : (o : Option ℕ) (bad : Bool) → bad ≡ false → bad ≡ bad_unless o bad
unmarked None bad is = refl
unmarked (Some byte) bad is = is

-- what a plan of both pages undoes
abbrev pub both_of : ℕ → ℕ → List Paged → Option (List ℕ) → Undo
both_of page initial os name = record { page = page; initial = initial; originals = os; super_name = name }

both_undone : SameLaid → (f : Found) (name : Option (List ℕ)) → length f.bytes ≡ 1024 → ((place : ℕ) → f.bad place ≡ false) → IsUndone (both_of 512 2 (both f.bytes) name) f f
both_undone law f name size good = record {
  bytes = record {
    long = omega (arith, size);
    cut = size;
    each = λ place w. sym (law 512 (both f.bytes) f.bytes place (originals f.bytes));
  };
  bad = λ place w. unmarked (laid 512 (both f.bytes) place) (f.bad place) (good place);
}

both_ready : SameLaid → (s : FileState) (name : Option (List ℕ)) → length s.now.bytes ≡ 1024 → ((place : ℕ) → s.now.bad place ≡ false) → IsSettled s → IsTrue s.now.there → IsReady 0 (both_of 512 2 (both s.now.bytes) name) s
both_ready law s name size good settled there = record {
  settled = settled;
  there = there;
  same = let P : List Paged → Type 0 = λ os. IsUndone (both_of 512 2 os name) s.now s.now in subst P (sym (cleared_both s.now.bytes)) (both_undone law s.now name size good);
}

-- a file of which a plan has both pages, as it was found
pub plan_ready : SameLaid → (page initial : ℕ) (os : List Paged) (name : Option (List ℕ)) (s : FileState) (bytes : List ℕ) → page ≡ 512 → initial ≡ 2 → os ≡ both bytes → bytes ≡ s.now.bytes → length bytes ≡ 1024 →
    ((place : ℕ) → s.now.bad place ≡ false) → IsSettled s → IsTrue s.now.there → IsReady 0 (both_of page initial os name) s
plan_ready law page initial os name s bytes page_is initial_is os_is bytes_is size good settled there =
    let P : ℕ → Type 0 = λ n. IsReady 0 (both_of n initial os name) s in
    let Q : ℕ → Type 0 = λ n. IsReady 0 (both_of 512 n os name) s in
    let R : List Paged → Type 0 = λ l. IsReady 0 (both_of 512 2 l name) s in
    subst P (sym page_is) (subst Q (sym initial_is) (subst R (sym (os_is ∙ ap both bytes_is)) (both_ready law s name (sym (ap length bytes_is) ∙ size) good settled there)))

pub are_pages : (page : ℕ) (os : List Paged) (bytes : List ℕ) → page ≡ 512 → os ≡ both bytes → length bytes ≡ 1024 → ArePages page os
are_pages page os bytes page_is is size =
    let P : ℕ → Type 0 = λ n. ArePages n os in
    let Q : List Paged → Type 0 = λ l. ArePages 512 l in
    subst P (sym page_is) (subst Q (sym is) (both_are bytes size))

pub are_among : (os rs : List Paged) (a b : List ℕ) → os ≡ both a → rs ≡ both b → AreAmong os rs
are_among os rs a b is is' =
    let P : List Paged → Type 0 = λ l. AreAmong l rs in
    let Q : List Paged → Type 0 = λ l. AreAmong (both a) l in
    subst P (sym is) (subst Q (sym is') (both_among a b))
