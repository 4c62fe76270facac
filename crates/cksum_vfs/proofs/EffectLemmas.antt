-- What a call leaves of a file below is what it leaves of the file above.
use Rattle.std.proofs.Common.{◌≡◌, ◌⊎◌, ℕ, ◌+◌, ◌*◌, ◌/◌, ◌%◌, ◌<◌, ◌≤◌, Bool, List, length, max, min, slice_get, Option, Some, None, inl, inr, ap, sym, subst, ◌∙◌, arith}
use Rattle.std.proofs.lemmas.Option.{slice_get_past}
use Rattle.vfs_model.specs.File.{FileState, Stays, IsOrderly}
use Rattle.vfs_model.specs.Effect.{Beside, Anywhere, NoLooser, WriteFailed, WriteFull, CutFailed, Cut, Synced, NameSynced, OpenFailed, Opened, Closed, DeleteFailed, Deleted}
use Rattle.vfs_model.specs.Sums.{without_sums}
use Rattle.cksum_vfs.specs.Summed.{found_over, file_over, IsSized}
use Rattle.cksum_vfs.proofs.RowLemmas.{row, row_before, row_past}
use Rattle.cksum_vfs.proofs.PageLemmas.{length_without, same_shown, SamePage, same_fails}
use Rattle.cksum_vfs.proofs.StateLemmas.{some_page, StaysByPage, loosens_over, one_content_over}

-- no looser

pub no_looser_over : (own : Option ℕ) (old new : FileState) → IsSized own → NoLooser old new → NoLooser (file_over own old) (file_over own new)
no_looser_over None old new sized h = h
no_looser_over (Some page) old new sized h =
    let some = some_page page sized in
    record {
      now = ap (found_over (Some page)) h.now;
      tame = h.tame;
      was_tame = h.was_tame;
      sure = h.sure;
      stop = λ tame. loosens_over page old new Anywhere old.shortest 0 some
          (record { pages = λ place is other from to. tt; lone = λ place is less short. omega (arith, some); whole = λ place is whole. whole })
          (h.stop tame);
    }

-- writes and cuts of whole pages

-- what a layer asks of a write and of a cut
abbrev pub IsPageAt : Option ℕ → ℕ → ℕ → Type 0
IsPageAt None off len = Unit {0}
IsPageAt (Some page) off len = (off % page ≡ 0) × (len ≡ page)

abbrev pub IsCutAt : Option ℕ → ℕ → Type 0
IsCutAt None len = Unit {0}
IsCutAt (Some page) len = len % page ≡ 0

both_past : (a b : List ℕ) (i : ℕ) → length a ≤ i → length b ≤ i → slice_get a i ≡ slice_get b i
both_past a b i past past' = slice_get_past a i past ∙ sym (slice_get_past b i past')

lt_or : (a b : ℕ) → (a < b) ⊎ (b ≤ a)
lt_or a b = grind arith

-- a page beside a written one is the same
page_beside : (page : ℕ) (old new : FileState) (off : ℕ) → 1 ≤ page → off % page ≡ 0 → off ≤ length old.now.bytes → length new.now.bytes ≤ max (length old.now.bytes) (off + page) →
    ((place : ℕ) → place < length old.now.bytes → Beside off page place → Stays old.now new.now place) → (place : ℕ) → place < length old.now.bytes → Beside off page place →
    SamePage page (place / page) new.now.bytes old.now.bytes
page_beside page old new off some at reach longer beside place within (inl less) =
    let b = row_before page off place some at less in
    record { each = λ other from to. (beside other (omega (arith, to, b, reach)) (inl (omega (arith, to, b)))).0 }
page_beside page old new off some at reach longer beside place within (inr more) =
    let b = row_past page off place some at more in
    let r = row page place some in
    record {
      each = λ other from to. elim (lt_or other (length old.now.bytes)) as (λ _. slice_get new.now.bytes other ≡ slice_get old.now.bytes other) [
        | inl less ↦ (beside other less (inr (omega (arith, from, b)))).0
        | inr past ↦ both_past new.now.bytes old.now.bytes other (omega (arith, past, longer, within, r.from, b)) past
      ];
    }

beside_by_page : (page : ℕ) (old : FileState) (off : ℕ) → 1 ≤ page → off % page ≡ 0 → off ≤ length old.now.bytes → IsOrderly old → StaysByPage page old (Beside off page) old.shortest (off + page)
beside_by_page page old off some at reach orderly = record { pages = pages; lone = lone; whole = λ place is whole. whole } where
  pages : (place : ℕ) → Beside off page place → (other : ℕ) → page * (place / page) ≤ other → other < page * (place / page) + page → Beside off page other
  pages place (inl less) other from to = inl (omega (arith, to, row_before page off place some at less))
  pages place (inr more) other from to = inr (omega (arith, from, row_past page off place some at more))

  lone : (place : ℕ) → Beside off page place → place < old.shortest → old.longest < page * (place / page) + page → off + page < page * (place / page) + page
  lone place (inl less) below short = absurd (omega (arith, row_before page off place some at less, reach, orderly.no_longer, short))
  lone place (inr more) below short = omega (arith, row_past page off place some at more, some)

pub write_failed_over : (own : Option ℕ) (delicate : Bool) (old new : FileState) (off len : ℕ) → IsSized own → IsPageAt own off len → off ≤ length old.now.bytes → IsOrderly old →
    WriteFailed delicate old new off len → WriteFailed delicate (file_over own old) (file_over own new) off len
write_failed_over None delicate old new off len sized at reach orderly h = h
write_failed_over (Some page) delicate old new off len sized at reach orderly h =
    let some = some_page page sized in
    let P : ℕ → Type 0 = λ n. WriteFailed delicate old new off n → WriteFailed delicate (file_over (Some page) old) (file_over (Some page) new) off n in
    subst P (sym at.1) (λ k. whole some k) h where
      whole : 1 ≤ page → WriteFailed delicate old new off page → WriteFailed delicate (file_over (Some page) old) (file_over (Some page) new) off page
      whole some k = record {
        there = k.there;
        no_shorter = omega (arith, k.no_shorter, length_without page 0 old.now.bytes, length_without page 0 new.now.bytes);
        no_longer = omega (arith, k.no_longer, length_without page 0 old.now.bytes, length_without page 0 new.now.bytes);
        beside = λ place within is.
            let inside : place < length old.now.bytes = omega (arith, within, length_without page 0 old.now.bytes) in (
              same_shown page new.now.bytes old.now.bytes place (k.beside place inside is).0,
              same_fails page (place / page) new.now.bytes old.now.bytes some (page_beside page old new off some at.0 reach k.no_longer k.beside place inside is),
            );
        sure = k.sure;
        tame = λ tame sturdy inside. k.tame tame sturdy (omega (arith, inside, length_without page 0 old.now.bytes));
        was_tame = k.was_tame;
        stop = λ tame tame'. loosens_over page old new (Beside off page) old.shortest (off + page) some (beside_by_page page old off some at.0 reach orderly) (k.stop tame tame');
      }

before_by_page : (page : ℕ) (old : FileState) (off reach : ℕ) → 1 ≤ page → off % page ≡ 0 → off ≤ length old.now.bytes → IsOrderly old → StaysByPage page old (λ place. place < off) old.shortest reach
before_by_page page old off reach some at within orderly = record {
  pages = λ place is other from to. omega (arith, to, row_before page off place some at is);
  lone = λ place is below short. absurd (omega (arith, row_before page off place some at is, within, orderly.no_longer, short));
  whole = λ place is whole. whole;
}

pub write_full_over : (own : Option ℕ) (delicate : Bool) (old new : FileState) (off len : ℕ) → IsSized own → IsPageAt own off len → off ≤ length old.now.bytes → IsOrderly old →
    WriteFull delicate old new off len → WriteFull delicate (file_over own old) (file_over own new) off len
write_full_over None delicate old new off len sized at reach orderly h = h
write_full_over (Some page) delicate old new off len sized at reach orderly h =
    let some = some_page page sized in
    record {
      grows = omega (arith, h.grows, length_without page 0 old.now.bytes);
      there = h.there;
      size = length_without page 0 new.now.bytes ∙ h.size ∙ sym (length_without page 0 old.now.bytes);
      before = λ place within less.
          let b = row_before page off place some at.0 less in (
            same_shown page new.now.bytes old.now.bytes place (h.before place (omega (arith, less, reach)) less).0,
            same_fails page (place / page) new.now.bytes old.now.bytes some (record { each = λ other from to. (h.before other (omega (arith, to, b, reach)) (omega (arith, to, b))).0 }),
          );
      sure = h.sure;
      was_tame = h.was_tame;
      stop = λ tame tame'. loosens_over page old new (λ place. place < off) old.shortest (off + len) some (before_by_page page old off (off + len) some at.0 reach orderly) (h.stop tame tame');
    }

cut_by_page : (page : ℕ) (old : FileState) (len : ℕ) → 1 ≤ page → len % page ≡ 0 → StaysByPage page old (λ place. place < len) (min old.shortest len) 0
cut_by_page page old len some at = record {
  pages = λ place is other from to. omega (arith, to, row_before page len place some at is);
  lone = λ place is below short. omega (arith, some);
  whole = λ place is whole. omega (arith, whole, row_before page len place some at is);
}

pub cut_failed_over : (own : Option ℕ) (old new : FileState) (len : ℕ) → IsSized own → IsCutAt own len → len ≤ length old.now.bytes →
    CutFailed old new len → CutFailed (file_over own old) (file_over own new) len
cut_failed_over None old new len sized at reach h = h
cut_failed_over (Some page) old new len sized at reach h =
    let some = some_page page sized in
    record {
      there = h.there;
      no_shorter = omega (arith, h.no_shorter, length_without page 0 old.now.bytes, length_without page 0 new.now.bytes);
      no_longer = omega (arith, h.no_longer, length_without page 0 old.now.bytes, length_without page 0 new.now.bytes);
      bytes = λ place within. same_shown page new.now.bytes old.now.bytes place (h.bytes place (omega (arith, within, length_without page 0 new.now.bytes)));
      marks = λ place less.
          let b = row_before page len place some at less in
          same_fails page (place / page) new.now.bytes old.now.bytes some (record { each = λ other from to. h.bytes other (omega (arith, to, b, reach, h.no_shorter)) });
      sure = h.sure;
      tame = λ tame same. h.tame tame (omega (arith, same, length_without page 0 old.now.bytes));
      was_tame = h.was_tame;
      stop = λ tame tame'. loosens_over page old new (λ place. place < len) (min old.shortest len) 0 some (cut_by_page page old len some at) (h.stop tame tame');
    }

pub cut_over : (own : Option ℕ) (old new : FileState) (len : ℕ) → IsSized own → IsCutAt own len → len ≤ length old.now.bytes → Cut old new len → Cut (file_over own old) (file_over own new) len
cut_over None old new len sized at reach h = h
cut_over (Some page) old new len sized at reach h = record {
  touched = cut_failed_over (Some page) old new len sized at reach h.touched;
  size = length_without page 0 new.now.bytes ∙ h.size;
}

-- syncs and names

pub synced_over : (own : Option ℕ) (old new : FileState) → IsSized own → Synced old new → Synced (file_over own old) (file_over own new)
synced_over own old new sized h = record {
  now = ap (found_over own) h.now;
  tame = h.tame;
  sure = h.sure;
  content = λ tame. one_content_over own new sized tame (h.content tame);
}

pub name_synced_over : (own : Option ℕ) (old new : FileState) → IsSized own → NameSynced old new → NameSynced (file_over own old) (file_over own new)
name_synced_over own old new sized h = record { stays = no_looser_over own old new sized h.stays; sure = h.sure; gone = h.gone }

pub open_failed_over : (own : Option ℕ) (old new : FileState) → IsSized own → OpenFailed old new → OpenFailed (file_over own old) (file_over own new)
open_failed_over None old new sized h = h
open_failed_over (Some page) old new sized h = record {
  found = λ there tame. no_looser_over (Some page) old new sized (h.found there tame);
  made = λ gone. ap (without_sums page 0) (h.made gone);
  tame = h.tame;
  longest = h.longest;
}

pub opened_over : (own : Option ℕ) (old new : FileState) → IsSized own → Opened old new → Opened (file_over own old) (file_over own new)
opened_over own old new sized h = record { touched = open_failed_over own old new sized h.touched; there = h.there }

pub closed_over : (own : Option ℕ) (old new : FileState) → IsSized own → Closed old new → Closed (file_over own old) (file_over own new)
closed_over own old new sized h = record { tame = λ tame. no_looser_over own old new sized (h.tame tame); there = h.there; sure = h.sure }

pub delete_failed_over : (own : Option ℕ) (old new : FileState) → DeleteFailed old new → DeleteFailed (file_over own old) (file_over own new)
delete_failed_over own old new h = record { stays = λ there. ap (found_over own) (h.stays there); longest = h.longest }

pub deleted_over : (own : Option ℕ) (old new : FileState) → Deleted old new → Deleted (file_over own old) (file_over own new)
deleted_over own old new h = record { touched = delete_failed_over own old new h.touched; gone = h.gone }
