-- What a stop may leave of a file in pages.
use Rattle.std.proofs.Common.{◌≡◌, ◌⊎◌, ℕ, zero, suc, ◌+◌, ◌*◌, ◌/◌, ◌<◌, ◌≤◌, Bool, true, false, nat_le, if◌then◌else◌, length, IsTrue, Option, Some, None, inl, inr, refl, ap, sym, subst, ◌∙◌, arith}
use Rattle.std.proofs.lemmas.Bool.{lt-ltb, le-ltb, le-leb, lt-leb, or_parts, or_from, true≢false}
use Rattle.vfs_model.specs.File.{Found, FileState, Stays, IsOrderly, IsKept, IsImage, HasOneContent, IsSettled}
use Rattle.vfs_model.specs.Effect.{Loosens}
use Rattle.vfs_model.specs.Sums.{without_sums}
use Rattle.cksum_vfs.specs.Summed.{found_over, some_from, page_unsynced, file_over, IsPage, IsSized}
use Rattle.cksum_vfs.proofs.RowLemmas.{row}
use Rattle.cksum_vfs.proofs.PageLemmas.{length_without, same_shown, same_fails, short_fails}

pub some_page : (page : ℕ) → IsSized (Some page) → 1 ≤ page
some_page page sized = let h = sized.each page refl in omega (arith, h.least)

-- marks of a range
some_none : (marks : ℕ → Bool) (from n : ℕ) → ((i : ℕ) → from ≤ i → i < from + n → marks i ≡ false) → some_from marks from n ≡ false
some_none marks from zero none = refl
some_none marks from (suc n) none =
    or_from (marks from) (some_from marks (suc from) n) (none from (omega arith) (omega arith)) (some_none marks (suc from) n (λ i a b. none i (omega (arith, a)) (omega (arith, b))))

none_of : (marks : ℕ → Bool) (from n : ℕ) → some_from marks from n ≡ false → (i : ℕ) → from ≤ i → i < from + n → marks i ≡ false
none_of marks from zero none i a b = absurd (omega (arith, a, b))
none_of marks from (suc n) none i a b =
    let parts = or_parts (marks from) (some_from marks (suc from) n) none in
    elim (side from i a) as (λ _. marks i ≡ false) [
      | inl same ↦ ap marks (sym same) ∙ parts.0
      | inr more ↦ none_of marks (suc from) n parts.1 i more (omega (arith, b))
    ] where
      side : (a b : ℕ) → a ≤ b → (a ≡ b) ⊎ (suc a ≤ b)
      side a b h = grind arith

-- a place that a stop leaves in pages lies on one that no stop leaves whole, or on one that every stop leaves as it is
pub record LoneKept (page : ℕ) (s : FileState) (place : ℕ) : Type 0 where
  pub short : s.longest < page * (place / page) + page
  pub kept : IsKept s place

pub record PageKept (page : ℕ) (s : FileState) (place : ℕ) : Type 0 where
  pub whole : page * (place / page) + page ≤ s.shortest
  pub each : (other : ℕ) → page * (place / page) ≤ other → other < page * (place / page) + page → IsKept s other

lt_or : (a b : ℕ) → (a < b) ⊎ (b ≤ a)
lt_or a b = grind arith

le_or : (a b : ℕ) → (a ≤ b) ⊎ (b < a)
le_or a b = grind arith

unsynced_lone : (page : ℕ) (s : FileState) (place : ℕ) → s.longest < page * (place / page + 1) → page_unsynced page s place ≡ s.unsynced place
unsynced_lone page s place short =
    ap (λ b. if b then s.unsynced place else (if nat_le (page * (place / page + 1)) s.shortest then some_from s.unsynced (page * (place / page)) page else true)) (lt-ltb s.longest (page * (place / page + 1)) short)

unsynced_long : (page : ℕ) (s : FileState) (place : ℕ) → page * (place / page + 1) ≤ s.longest →
    page_unsynced page s place ≡ (if nat_le (page * (place / page + 1)) s.shortest then some_from s.unsynced (page * (place / page)) page else true)
unsynced_long page s place long =
    ap (λ b. if b then s.unsynced place else (if nat_le (page * (place / page + 1)) s.shortest then some_from s.unsynced (page * (place / page)) page else true)) (le-ltb s.longest (page * (place / page + 1)) long)

unsynced_whole : (page : ℕ) (s : FileState) (place : ℕ) → page * (place / page + 1) ≤ s.longest → page * (place / page + 1) ≤ s.shortest →
    page_unsynced page s place ≡ some_from s.unsynced (page * (place / page)) page
unsynced_whole page s place long whole =
    unsynced_long page s place long ∙ ap (λ b. if b then some_from s.unsynced (page * (place / page)) page else true) (le-leb (page * (place / page + 1)) s.shortest whole)

unsynced_part : (page : ℕ) (s : FileState) (place : ℕ) → page * (place / page + 1) ≤ s.longest → s.shortest < page * (place / page + 1) → page_unsynced page s place ≡ true
unsynced_part page s place long part =
    unsynced_long page s place long ∙ ap (λ b. if b then some_from s.unsynced (page * (place / page)) page else true) (lt-leb (page * (place / page + 1)) s.shortest part)

pub kept_cases : (page : ℕ) (s : FileState) (place : ℕ) → 1 ≤ page → IsKept (file_over (Some page) s) place → (LoneKept page s place) ⊎ (PageKept page s place)
kept_cases page s place some kept =
    let r = row page place some in
    elim (lt_or s.longest (page * (place / page + 1))) as (λ _. (LoneKept page s place) ⊎ (PageKept page s place)) [
      | inl short ↦ inl (record { short = omega (arith, short, r.next); kept = record { tame = kept.tame; below = kept.below; synced = sym (unsynced_lone page s place short) ∙ kept.synced } })
      | inr long ↦ elim (le_or (page * (place / page + 1)) s.shortest) as (λ _. (LoneKept page s place) ⊎ (PageKept page s place)) [
        | inl whole ↦
            let none : some_from s.unsynced (page * (place / page)) page ≡ false = sym (unsynced_whole page s place long whole) ∙ kept.synced in
            inr (record {
              whole = omega (arith, whole, r.next);
              each = λ other from to. record {
                tame = kept.tame;
                below = omega (arith, whole, r.next, to);
                synced = none_of s.unsynced (page * (place / page)) page none other from to;
              };
            })
        | inr part ↦ absurd (true≢false (sym (unsynced_part page s place long part) ∙ kept.synced))
      ]
    ]

pub lone_kept : (page : ℕ) (s : FileState) (place : ℕ) → 1 ≤ page → LoneKept page s place → IsKept (file_over (Some page) s) place
lone_kept page s place some h =
    let r = row page place some in
    record { tame = h.kept.tame; below = h.kept.below; synced = unsynced_lone page s place (omega (arith, h.short, r.next)) ∙ h.kept.synced }

pub page_kept : (page : ℕ) (s : FileState) (place : ℕ) → 1 ≤ page → PageKept page s place → IsKept (file_over (Some page) s) place
page_kept page s place some h =
    let r = row page place some in
    let own = h.each place r.from r.to in
    record {
      tame = own.tame;
      below = own.below;
      synced = elim (lt_or s.longest (page * (place / page + 1))) as (λ _. page_unsynced page s place ≡ false) [
        | inl short ↦ unsynced_lone page s place short ∙ own.synced
        | inr long ↦ unsynced_whole page s place long (omega (arith, h.whole, r.next)) ∙ some_none s.unsynced (page * (place / page)) page (λ i a b. (h.each i a b).synced)
      ];
    }

-- States and images

pub orderly_over : (own : Option ℕ) (s : FileState) → IsOrderly s → IsOrderly (file_over own s)
orderly_over None s h = h
orderly_over (Some page) s h = record {
  no_shorter = omega (arith, h.no_shorter, length_without page 0 s.now.bytes);
  no_longer = omega (arith, h.no_longer, length_without page 0 s.now.bytes);
  missing = λ gone. ap (without_sums page 0) (h.missing gone);
}

pub image_over : (own : Option ℕ) (s : FileState) (i : Found) → IsSized own → IsOrderly s → IsImage s i → IsImage (file_over own s) (found_over own i)
image_over None s i sized orderly h = h
image_over (Some page) s i sized orderly h =
    let some = some_page page sized in
    record {
      name = h.name;
      missing = λ gone. ap (without_sums page 0) (h.missing gone);
      no_shorter = λ tame there. omega (arith, h.no_shorter tame there, length_without page 0 i.bytes);
      no_longer = λ tame. omega (arith, h.no_longer tame, length_without page 0 i.bytes);
      kept = λ there place kept. stays there place (kept_cases page s place some kept);
    } where
      stays : IsTrue i.there → (place : ℕ) → (LoneKept page s place) ⊎ (PageKept page s place) → Stays (found_over (Some page) s.now) (found_over (Some page) i) place
      stays there place (inl lone) =
          let some = some_page page sized in
          let r = row page place some in
          let least = h.no_shorter lone.kept.tame there in
          let most = h.no_longer lone.kept.tame in (
            same_shown page i.bytes s.now.bytes place (h.kept there place lone.kept).0,
            short_fails page (place / page) i.bytes (omega (arith, lone.kept.below, r.from, least)) (omega (arith, lone.short, r.next, most))
                ∙ sym (short_fails page (place / page) s.now.bytes (omega (arith, lone.kept.below, r.from, orderly.no_shorter)) (omega (arith, lone.short, r.next, orderly.no_longer))),
          )
      stays there place (inr whole) =
          let some = some_page page sized in
          let r = row page place some in (
            same_shown page i.bytes s.now.bytes place (h.kept there place (whole.each place r.from r.to)).0,
            same_fails page (place / page) i.bytes s.now.bytes some (record { each = λ other from to. (h.kept there other (whole.each other from to)).0 }),
          )

-- a layer adds to what a stop may change no more than is added below, where the places that stay are whole pages
pub record StaysByPage (page : ℕ) (old : FileState) (stays : ℕ → Type 0) (floor reach : ℕ) : Type 0 where
  pub pages : (place : ℕ) → stays place → (other : ℕ) → page * (place / page) ≤ other → other < page * (place / page) + page → stays other
  pub lone : (place : ℕ) → stays place → place < old.shortest → old.longest < page * (place / page) + page → reach < page * (place / page) + page
  pub whole : (place : ℕ) → stays place → page * (place / page) + page ≤ old.shortest → page * (place / page) + page ≤ floor

pub loosens_over : (page : ℕ) (old new : FileState) (stays : ℕ → Type 0) (floor reach : ℕ) → 1 ≤ page → StaysByPage page old stays floor reach → Loosens old new stays floor reach →
    Loosens (file_over (Some page) old) (file_over (Some page) new) stays floor reach
loosens_over page old new stays floor reach some by_page h = record {
  kept = λ place is kept. each place is (kept_cases page old place some kept);
  floor_is = h.floor_is;
  reach_is = h.reach_is;
} where
  each : (place : ℕ) → stays place → (LoneKept page old place) ⊎ (PageKept page old place) → IsKept (file_over (Some page) new) place
  each place is (inl lone) =
      let less = by_page.lone place is lone.kept.below lone.short in
      lone_kept page new place some (record { short = omega (arith, less, lone.short, h.reach_is); kept = h.kept place is lone.kept })
  each place is (inr whole) =
      let more = by_page.whole place is whole.whole in
      page_kept page new place some (record { whole = omega (arith, more, h.floor_is); each = λ other from to. h.kept other (by_page.pages place is other from to) (whole.each other from to) })

-- a settled file is settled above
pub one_content_over : (own : Option ℕ) (s : FileState) → IsSized own → s.wild ≡ false → HasOneContent s → HasOneContent (file_over own s)
one_content_over None s sized tame h = h
one_content_over (Some page) s sized tame h =
    let some = some_page page sized in
    record {
      shortest = omega (arith, h.shortest, length_without page 0 s.now.bytes);
      longest = omega (arith, h.longest, length_without page 0 s.now.bytes);
      synced = λ place within. kept place some (omega (arith, within, length_without page 0 s.now.bytes));
    } where
      kept : (place : ℕ) → 1 ≤ page → place < length s.now.bytes → page_unsynced page s place ≡ false
      kept place some within =
          let r = row page place some in
          let own : IsKept s place = record { tame = tame; below = omega (arith, within, h.shortest); synced = h.synced place within } in
          elim (lt_or s.longest (page * (place / page) + page)) as (λ _. page_unsynced page s place ≡ false) [
            | inl short ↦ (lone_kept page s place some (record { short = short; kept = own })).synced
            | inr long ↦ (page_kept page s place some (record {
              whole = omega (arith, long, h.longest, h.shortest);
              each = λ other from to. record { tame = tame; below = omega (arith, long, h.longest, h.shortest, to); synced = h.synced other (omega (arith, long, h.longest, to)) };
            })).synced
          ]

pub settled_over : (own : Option ℕ) (s : FileState) → IsSized own → IsSettled s → IsSettled (file_over own s)
settled_over own s sized h = record { tame = h.tame; sure = h.sure; content = one_content_over own s sized h.tame h.content }

some_same : (a b : ℕ) → Some a ≡ Some b → a ≡ b
some_same a b h = cc

pub sized_of : (page : ℕ) → IsPage page → IsSized (Some page)
sized_of page h = record { each = λ other is. subst IsPage (some_same page other is) h }
