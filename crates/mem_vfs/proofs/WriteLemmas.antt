use Rattle.std.proofs.Common.{◌≡◌, ◌⊎◌, ℕ, ◌+◌, ◌-◌, ◌<◌, ◌≤◌, true, false, max, List, ◌++◌, length, length-append, replicate, refl, sym, ap, ◌∙◌, arith, slice_get, get_or, unwrap_or, inl, inr, subst, Result, Ok, Err, OnOk, OnErr}
use Rattle.std.proofs.lemmas.List.{length-replicate}
use Rattle.vfs_model.specs.Places.{get-append_left}
use Rattle.vfs_model.specs.Effect.{Beside, Wrote, WriteFailed}
use Rattle.mem_vfs.specs.declared.file.File.{File}
use Rattle.mem_vfs.specs.Splice.{spliced}
use Rattle.mem_vfs.specs.Written.{IsWritten, missing}
use Rattle.mem_vfs.specs.Memory.{file_state}
use Rattle.vfs_model.specs.File.{FileState}
use Rattle.vfs_trait.specs.Follows.{Unsettles, Inside}
use Rattle.mem_vfs.specs.Change.{Writes}
use Rattle.std.specs.declared.alloc.AllocError.{AllocError}
use Rattle.mem_vfs.proofs.SpliceLemmas.{length-spliced, inside-spliced, beside-spliced, or_get, get_replicate, grown_mark}

new_size : (old new : File) (off : ℕ) (bytes : List ℕ) → off ≤ length old.present.items → length old.present.items ≤ length old.marks.items → IsWritten old new off bytes → length new.present.items ≡ max (length old.present.items) (off + length bytes)
new_size old new off bytes reach room h =
    let grown = length-append old.present.items (replicate (missing (length old.present.items) (off + length bytes)) 0) in
    let nil : ℕ = 0 in
    let rest = length-replicate (missing (length old.present.items) (off + length bytes)) nil in
    ap length h.present ∙ length-spliced (old.present.items ++ replicate (missing (length old.present.items) (off + length bytes)) 0) off bytes (omega (arith, grown, rest)) ∙ omega (arith, grown, rest)

new_longest : (old new : File) (off : ℕ) (bytes : List ℕ) → off ≤ length old.present.items → length old.present.items ≤ length old.marks.items → IsWritten old new off bytes → length new.marks.items ≡ max (length old.marks.items) (off + length bytes)
new_longest old new off bytes reach room h =
    let grown = length-append old.marks.items (replicate (missing (length old.marks.items) (off + length bytes)) false) in
    let rest = length-replicate (missing (length old.marks.items) (off + length bytes)) false in
    let range = length-replicate (length bytes) true in
    ap length h.marks ∙ length-spliced (old.marks.items ++ replicate (missing (length old.marks.items) (off + length bytes)) false) off (replicate (length bytes) true) (omega (arith, grown, rest, range)) ∙ omega (arith, grown, rest)

beside_mark : (old new : File) (off : ℕ) (bytes : List ℕ) (place : ℕ) → off ≤ length old.present.items → length old.present.items ≤ length old.marks.items → IsWritten old new off bytes → Beside off (length bytes) place
    → get_or new.marks.items place false ≡ get_or old.marks.items place false
beside_mark old new off bytes place reach room h beside =
    let range = length-replicate (length bytes) true in
    let grown = length-append old.marks.items (replicate (missing (length old.marks.items) (off + length bytes)) false) in
    let P : ℕ → Type 0 = λ n. Beside off n place in
    ap (λ ms. get_or ms place false) h.marks
    ∙ or_get (spliced (old.marks.items ++ replicate (missing (length old.marks.items) (off + length bytes)) false) off (replicate (length bytes) true)) place false
    ∙ ap (λ o. unwrap_or o false) (beside-spliced (old.marks.items ++ replicate (missing (length old.marks.items) (off + length bytes)) false) off (replicate (length bytes) true) place (omega (arith, grown, reach, room)) (subst P (sym range) beside))
    ∙ sym (or_get (old.marks.items ++ replicate (missing (length old.marks.items) (off + length bytes)) false) place false)
    ∙ grown_mark old.marks.items (missing (length old.marks.items) (off + length bytes)) place

inside_mark : (old new : File) (off : ℕ) (bytes : List ℕ) (place : ℕ) → off ≤ length old.present.items → length old.present.items ≤ length old.marks.items → IsWritten old new off bytes → off ≤ place → place < off + length bytes
    → get_or new.marks.items place false ≡ true
inside_mark old new off bytes place reach room h from less =
    let range = length-replicate (length bytes) true in
    let grown = length-append old.marks.items (replicate (missing (length old.marks.items) (off + length bytes)) false) in
    let e : off + (place - off) ≡ place = omega (arith, from) in
    ap (λ ms. get_or ms place false) h.marks
    ∙ or_get (spliced (old.marks.items ++ replicate (missing (length old.marks.items) (off + length bytes)) false) off (replicate (length bytes) true)) place false
    ∙ ap (λ i. unwrap_or (slice_get (spliced (old.marks.items ++ replicate (missing (length old.marks.items) (off + length bytes)) false) off (replicate (length bytes) true)) i) false) (sym e)
    ∙ ap (λ o. unwrap_or o false) (inside-spliced (old.marks.items ++ replicate (missing (length old.marks.items) (off + length bytes)) false) off (replicate (length bytes) true) (place - off) (omega (arith, grown, reach, room)) (omega (arith, range, less, from))
    ∙ get_replicate (length bytes) (place - off) true (omega (arith, less, from)))

in_or_beside : (off len place : ℕ) → (Beside off len place) ⊎ ((off ≤ place) × (place < off + len))
in_or_beside off len place = grind arith

pub written : (old new : File) (off : ℕ) (bytes : List ℕ) → off ≤ length old.present.items → length old.present.items ≤ length old.marks.items → IsWritten old new off bytes → Wrote false (file_state old) (file_state new) off bytes
written old new off bytes reach room h =
    let size = new_size old new off bytes reach room h in
    let longest = new_longest old new off bytes reach room h in
    let grown = length-append old.present.items (replicate (missing (length old.present.items) (off + length bytes)) 0) in
    record {
      touched = record {
        there = h.there;
        no_shorter = omega (arith, size);
        no_longer = omega (arith, size);
        beside = λ place less beside. (
          ap (λ bs. slice_get bs place) h.present
              ∙ beside-spliced (old.present.items ++ replicate (missing (length old.present.items) (off + length bytes)) 0) off bytes place (omega (arith, grown, reach)) beside
              ∙ get-append_left old.present.items (replicate (missing (length old.present.items) (off + length bytes)) 0) place less,
          refl,
        );
        sure = λ sure. h.sure ∙ sure;
        tame = λ _ _ _. refl;
        was_tame = λ _. refl;
        stop = λ _ _. record {
          kept = λ place beside kept. record { tame = refl; below = omega (arith, h.shortest, kept.below); synced = beside_mark old new off bytes place reach room h beside ∙ kept.synced };
          floor_is = omega (arith, h.shortest);
          reach_is = omega (arith, longest);
        };
      };
      size = size;
      inside = λ place less. ap (λ bs. slice_get bs (off + place)) h.present ∙ inside-spliced (old.present.items ++ replicate (missing (length old.present.items) (off + length bytes)) 0) off bytes place (omega (arith, grown, reach)) less;
      good = λ place less. refl;
    }

pub write_follows : (old new : File) (off : ℕ) (bytes : List ℕ) → off ≤ length old.present.items → length old.present.items ≤ length old.marks.items → IsWritten old new off bytes → Unsettles (file_state old) (file_state new) (Inside off (length bytes)) old.shortest (off + length bytes)
write_follows old new off bytes reach room h =
    let longest = new_longest old new off bytes reach room h in
    record {
      marks = λ place inside. inside_mark old new off bytes place reach room h inside.0 inside.1;
      stays = λ place less is. elim (in_or_beside off (length bytes) place) as (λ _. get_or new.marks.items place false ≡ true) [
        | inl beside ↦ beside_mark old new off bytes place reach room h beside ∙ is
        | inr inside ↦ inside_mark old new off bytes place reach room h inside.0 inside.1
      ];
      shortest = omega (arith, h.shortest);
      longest = omega (arith, longest);
    }

-- a write, by its result
pub writes : (result : Result Unit AllocError) (old new : File) (off : ℕ) (bytes : List ℕ) → off ≤ length old.present.items → length old.present.items ≤ length old.marks.items
    → OnOk result (IsWritten old new off bytes) → OnErr result (WriteFailed false (file_state old) (file_state new) off (length bytes))
    → Writes result off bytes (file_state old) (file_state new)
writes (Ok _) old new off bytes reach room ok err = record { wrote = written old new off bytes reach room ok; unsettles = write_follows old new off bytes reach room ok }
writes (Err _) old new off bytes reach room ok err = err

pub writes_there : (result : Result Unit AllocError) (off : ℕ) (bytes : List ℕ) (old new : FileState) → Writes result off bytes old new → new.now.there ≡ old.now.there
writes_there (Ok _) off bytes old new h = h.wrote.touched.there
writes_there (Err _) off bytes old new h = h.there
