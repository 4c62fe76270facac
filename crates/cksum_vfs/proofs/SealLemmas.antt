-- A page with its sums, written below, is the page with zeros, written above.
use Rattle.std.proofs.Common.{◌≡◌, ◌⊎◌, ℕ, ◌+◌, ◌-◌, ◌*◌, ◌/◌, ◌%◌, ◌<◌, ◌≤◌, Bool, true, false, not, ◌&&◌, ◌||◌, nat_eq, nat_le, if◌then◌else◌, List, ◌++◌, length, take, drop, replicate, slice_get, get_or, Option, Some, None, inl, inr, refl, ap, sym, subst, ◌∙◌, arith, eq-eqb}
use Rattle.std.proofs.lemmas.Bool.{lt-ltb, le-leb, lt-leb}
use Rattle.std.proofs.lemmas.List.{take_all, append-nil, get_or-replicate, length-replicate}
use Rattle.std.proofs.lemmas.Option.{slice_get-get_or}
use Rattle.vfs_model.specs.Places.{get-take, get-drop}
use Rattle.vfs_model.specs.File.{FileState, IsOrderly}
use Rattle.vfs_model.specs.Effect.{Wrote, WriteFailed}
use Rattle.vfs_model.specs.Sums.{sum_of, kept_sums, kept_size, fails, without_sums}
use Rattle.vfs_trait.specs.Calls.{IsWholePage}
use Rattle.cksum_vfs.specs.Summed.{file_over, IsSized}
use Rattle.cksum_vfs.specs.Page.{other_sums, page_bad, IsSealed, IsSealedBy}
use Rattle.cksum_vfs.proofs.RowLemmas.{row_is}
use Rattle.cksum_vfs.proofs.PageLemmas.{shown, shown_of, get_shown, length_without, part, padded, fails_part, take_same}
use Rattle.cksum_vfs.proofs.StateLemmas.{some_page}
use Rattle.cksum_vfs.proofs.EffectLemmas.{write_failed_over}

-- what a checksum layer asks of a write
abbrev pub IsPageWrite : Option ℕ → ℕ → List ℕ → Type 0
IsPageWrite None off bytes = Unit {0}
IsPageWrite (Some page) off bytes = IsWholePage page off bytes

pub good_sums : (page : ℕ) (own : List ℕ) → kept_sums (drop (page - kept_size) own) ≡ sum_of (take (page - kept_size) own) → other_sums page own ≡ false
good_sums page own kept =
    let s = sum_of (take (page - kept_size) own) in
    ap (λ (t : ℕ × ℕ). not (nat_eq s.0 t.0 && nat_eq s.1 t.1)) kept
    ∙ ap (λ b. not (b && nat_eq s.1 s.1)) (eq-eqb s.0 s.0 refl) ∙ ap (λ b. not (true && b)) (eq-eqb s.1 s.1 refl)

pub good_page : (page : ℕ) (own : List ℕ) → 1 ≤ page → other_sums page own ≡ false → page_bad page own page ≡ false
good_page page own some good =
    ap (λ b. b && (not (nat_le page page) || other_sums page own)) (lt-ltb 0 page some)
    ∙ ap (λ b. true && (not b || other_sums page own)) (le-leb page page (omega arith))
    ∙ ap (λ b. true && (not true || b)) good

-- a byte before the sums is shown, and one of the sums is not
pub shown_before : (page place b : ℕ) → place % page + 8 < page → shown page place b ≡ b
shown_before page place b less = ap (λ t. if t then 0 else b) (lt-leb page (place % page + kept_size) less)

pub shown_behind : (page place b : ℕ) → page ≤ place % page + 8 → shown page place b ≡ 0
shown_behind page place b more = ap (λ t. if t then 0 else b) (le-leb page (place % page + kept_size) more)

pub shown_before_of : (page place : ℕ) (o : Option ℕ) → place % page + 8 < page → shown_of page place o ≡ o
shown_before_of page place None less = refl
shown_before_of page place (Some b) less = ap (λ x. Some x) (shown_before page place b less)

pub mod_of : (page off place : ℕ) → place < page → off % page ≡ 0 → (off + place) % page ≡ place
mod_of page off place less at =
    let q : page * (off / page) ≡ off = omega arith in
    let d : (off + place) / page ≡ off / page = row_is page (off / page) (off + place) (omega (arith, less)) (omega (arith, q)) (omega (arith, q, less)) in
    let e : page * ((off + place) / page) ≡ page * (off / page) = ap (λ n. page * n) d in
    omega (arith, e, q)

cases : (a b : ℕ) → (a < b) ⊎ (b ≤ a)
cases a b = grind arith

-- the last bytes of a page to be written are zeros
pub zero_at : (page : ℕ) (bytes : List ℕ) (place : ℕ) → 8 ≤ page → drop (page - kept_size) bytes ≡ replicate kept_size 0 → page ≤ place + 8 → place < page → slice_get bytes place ≡ Some 0
zero_at page bytes place least zeros more less =
    let e : page - kept_size + (place - (page - kept_size)) ≡ place = omega (arith, least, more) in
    ap (slice_get bytes) (sym e) ∙ sym (get-drop bytes (page - kept_size) (place - (page - kept_size)))
    ∙ ap (λ xs. slice_get xs (place - (page - kept_size))) zeros
    ∙ slice_get-get_or (replicate kept_size 0) (place - (page - kept_size)) 0 (omega (arith, less, more, length-replicate {A = ℕ} kept_size 0))
    ∙ ap (λ x. Some x) (get_or-replicate kept_size (place - (page - kept_size)) 0 0 (omega (arith, less, more)))

whole_over : (page : ℕ) (delicate : Bool) (old new : FileState) (off : ℕ) (bytes sealed : List ℕ) → IsSized (Some page) → IsWholePage page off bytes → IsSealed bytes sealed →
    off ≤ length old.now.bytes → IsOrderly old → Wrote delicate old new off sealed → Wrote delicate (file_over (Some page) old) (file_over (Some page) new) off bytes
whole_over page delicate old new off bytes sealed sized whole seal reach orderly h =
    let some = some_page page sized in
    let is = sized.each page refl in
    let long : length sealed ≡ page = seal.size ∙ whole.one in
    let touched : WriteFailed delicate old new off (length bytes) = subst (λ n. WriteFailed delicate old new off n) seal.size h.touched in
    record {
      touched = write_failed_over (Some page) delicate old new off (length bytes) sized (whole.at, whole.one) reach orderly touched;
      size = omega (arith, h.size, seal.size, length_without page 0 old.now.bytes, length_without page 0 new.now.bytes);
      inside = λ place within. inside place (omega (arith, within, whole.one)) (omega (arith, is.least));
      good = λ place within. good place (omega (arith, within, whole.one)) some long;
    } where
      body : take (page - kept_size) sealed ≡ take (page - kept_size) bytes
      body = subst (λ n. take (n - kept_size) sealed ≡ take (n - kept_size) bytes) whole.one seal.body

      kept : kept_sums (drop (page - kept_size) sealed) ≡ sum_of (take (page - kept_size) sealed)
      kept = subst (λ n. kept_sums (drop (n - kept_size) sealed) ≡ sum_of (take (n - kept_size) bytes)) whole.one seal.kept ∙ ap sum_of (sym body)

      inside : (place : ℕ) → place < page → 8 ≤ page → slice_get (without_sums page 0 new.now.bytes) (off + place) ≡ slice_get bytes place
      inside place less least =
          let m : (off + place) % page ≡ place = mod_of page off place less whole.at in
          let first : slice_get (without_sums page 0 new.now.bytes) (off + place) ≡ shown_of page (off + place) (slice_get sealed place) =
          get_shown page new.now.bytes (off + place) ∙ ap (shown_of page (off + place)) (h.inside place (omega (arith, less, seal.size, whole.one))) in
          elim (cases (place + 8) page) as (λ _. slice_get (without_sums page 0 new.now.bytes) (off + place) ≡ slice_get bytes place) [
            | inl before ↦
                let lower : place < page - kept_size = omega (arith, before) in
                first ∙ shown_before_of page (off + place) (slice_get sealed place) (omega (arith, m, before))
                ∙ sym (get-take sealed (page - kept_size) place lower) ∙ ap (λ xs. slice_get xs place) body ∙ get-take bytes (page - kept_size) place lower
            | inr behind ↦
                first ∙ ap (shown_of page (off + place)) (slice_get-get_or sealed place 0 (omega (arith, less, seal.size, whole.one)))
                ∙ ap (λ x. Some x) (shown_behind page (off + place) (get_or sealed place 0) (omega (arith, m, behind)))
                ∙ sym (zero_at page bytes place least whole.zeros behind less)
          ]

      good : (place : ℕ) → place < page → 1 ≤ page → length sealed ≡ page → fails page new.now.bytes ((off + place) / page) ≡ false
      good place less some long =
          let q : page * (off / page) ≡ off = omega (arith, whole.at) in
          let d : (off + place) / page ≡ off / page = row_is page (off / page) (off + place) some (omega (arith, q)) (omega (arith, q, less)) in
          let same : part page new.now.bytes (off / page) ≡ sealed =
          take_same page (drop (page * (off / page)) new.now.bytes) sealed (λ i lower.
          get-drop new.now.bytes (page * (off / page)) i ∙ ap (λ n. slice_get new.now.bytes (n + i)) q ∙ h.inside i (omega (arith, lower, long)))
          ∙ take_all page sealed (omega (arith, long)) in
          let none : page - length sealed ≡ 0 = omega (arith, long) in
          let full : padded page sealed ≡ sealed = ap (λ n. sealed ++ replicate n 0) none ∙ append-nil sealed in
          ap (fails page new.now.bytes) d ∙ fails_part page (off / page) new.now.bytes some
          ∙ ap (λ own. page_bad page (padded page own) (length own)) same
          ∙ ap (λ own. page_bad page own (length sealed)) full ∙ ap (page_bad page sealed) long
          ∙ good_page page sealed some (good_sums page sealed kept)

pub wrote_over : (own : Option ℕ) (delicate : Bool) (old new : FileState) (off : ℕ) (bytes sealed : List ℕ) → IsSized own → IsPageWrite own off bytes → IsSealedBy own bytes sealed →
    off ≤ length old.now.bytes → IsOrderly old → Wrote delicate old new off sealed → Wrote delicate (file_over own old) (file_over own new) off bytes
wrote_over None delicate old new off bytes sealed sized whole seal reach orderly h = subst (λ b. Wrote delicate old new off b) seal h
wrote_over (Some page) delicate old new off bytes sealed sized whole seal reach orderly h = whole_over page delicate old new off bytes sealed sized whole seal reach orderly h
