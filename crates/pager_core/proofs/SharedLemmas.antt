-- A connection that is granted Shared.
use Rattle.std.proofs.Common.{arith, ◌≡◌, ◌≢◌, ℕ, ◌-◌, ◌≤◌, ◌<◌, List, length, Option, Some, None, refl, sym, ◌∙◌, ap, subst, inl, inr}
use Rattle.std.proofs.lemmas.List.{get_or-set_same, get_or-set_other, get_or_past}
use Rattle.std.proofs.lemmas.Bool.{cases_eq, cases_lt}
use Rattle.vfs_model.specs.Lock.{IsOwner, level_at, rank, with_level, Grants}
use Rattle.vfs_model.specs.declared.level.Level.{Level}
use Rattle.vfs_model.specs.declared.level.Level.TheVariants.{Free, Shared}
use Rattle.vfs_trait.specs.State.{StackState, OpenStays, LevelsStay}
use Rattle.vfs_trait.specs.Calls.{LocksAt}
use Rattle.page_draft.specs.Draft.{IsClean}
use Rattle.pager_core.specs.Locks.{HasOneWriter}
use Rattle.pager_core.specs.Seen.{OwnerHolds, Fits}
use Rattle.pager_core.specs.Read.{SameDatabase}
use Rattle.pager_core.specs.declared.pager.Pager.{Pager}

-- the level of a writer stays
not_writer : (old : List Level) (who : ℕ) → rank (level_at old who) < 1 → rank (level_at (with_level old who Shared) who) ≤ 1
not_writer old who low = elim (cases_lt (who - 1) (length old)) [
  | inl within ↦ omega (arith, ap rank (get_or-set_same old (who - 1) Shared Free within))
  | inr past ↦ omega (arith, ap rank (get_or_past (with_level old who Shared) (who - 1) Free (omega (arith, past, Rattle.std.proofs.Common.length-set old (who - 1) Shared))))
]

other_stays : (old : List Level) (who other : ℕ) → IsOwner who → IsOwner other → other ≢ who → level_at (with_level old who Shared) other ≡ level_at old other
other_stays old who other is_who is_other another = get_or-set_other old (who - 1) (other - 1) Shared Free (λ same. another (omega (arith, is_who.0, is_other.0, same)))

was_writer : (old new : List Level) (who other : ℕ) → IsOwner who → IsOwner other → Grants old new who Shared → 2 ≤ rank (level_at new other) → 2 ≤ rank (level_at old other)
was_writer old new who other is_who is_other grants writes = elim (cases_lt (rank (level_at old who)) 1) [
  | inr held ↦ subst (λ l. 2 ≤ rank (level_at l other)) (grants.held held) writes
  | inl low ↦
      let at : 2 ≤ rank (level_at (with_level old who Shared) other) = subst (λ l. 2 ≤ rank (level_at l other)) (grants.raised low) writes in
      elim (cases_eq other who) [
        | inl same ↦ absurd (omega (arith, not_writer old who low, subst (λ o. 2 ≤ rank (level_at (with_level old who Shared) o)) same at))
        | inr another ↦ omega (arith, at, ap rank (other_stays old who other is_who is_other another))
      ]
]

still_writer : (old new : List Level) (who other : ℕ) → IsOwner who → IsOwner other → Grants old new who Shared → 2 ≤ rank (level_at old other) → 2 ≤ rank (level_at new other)
still_writer old new who other is_who is_other grants writes = elim (cases_lt (rank (level_at old who)) 1) [
  | inr held ↦ subst (λ l. 2 ≤ rank (level_at l other)) (sym (grants.held held)) writes
  | inl low ↦ elim (cases_eq other who) [
    | inl same ↦ absurd (omega (arith, low, subst (λ o. 2 ≤ rank (level_at old o)) same writes))
    | inr another ↦ subst (λ l. 2 ≤ rank (level_at l other)) (sym (grants.raised low)) (omega (arith, writes, ap rank (other_stays old who other is_who is_other another)))
  ]
]

shared_owner : (old new : Pager) (levels levels' : List Level) (who : ℕ) → IsOwner who → Grants levels levels' who Shared → new.owner ≡ old.owner → (IsClean old.pages → IsClean new.pages) →
    OwnerHolds old.owner old levels → OwnerHolds new.owner new levels'
shared_owner old new levels levels' who is_who grants owned clean holds = subst (λ o. OwnerHolds o new levels') (sym owned) (by_owner old.owner refl) where
  by_owner : (o : Option ℕ) → old.owner ≡ o → OwnerHolds o new levels'
  by_owner None none = clean (subst (λ o. OwnerHolds o old levels) none holds)
  by_owner (Some owner) some =
      let was : IsOwner owner × (2 ≤ rank (level_at levels owner)) = subst (λ o. OwnerHolds o old levels) some holds in
      (was.0, still_writer levels levels' who owner is_who was.0 grants was.1)

pub fits_shared : (old new : Pager) (a b d : StackState) (who : ℕ) → IsOwner who → SameDatabase old new → (IsClean old.pages → IsClean new.pages) → OpenStays a b → LocksAt a b old.fid.0 (λ x y. Grants x y who Shared) →
    OpenStays b d → LevelsStay b d → Fits old a → Fits new d
fits_shared old new a b d who is_who same clean opens locks opens' levels fits = record {
  named = ap (λ f. d.open_files f.0) same.numbered ∙ opens'.names old.fid.0 ∙ opens.names old.fid.0 ∙ fits.named ∙ ap Some (sym same.named);
  one = subst (λ f. HasOneWriter (d.levels f.0)) (sym same.numbered) (subst HasOneWriter (sym (levels.each old.fid.0)) (record {
    one = λ x y is_x is_y x_writes y_writes. fits.one.one x y is_x is_y
        (was_writer (a.levels old.fid.0) (b.levels old.fid.0) who x is_who is_x locks.0 x_writes) (was_writer (a.levels old.fid.0) (b.levels old.fid.0) who y is_who is_y locks.0 y_writes);
  }));
  owned = subst (λ f. OwnerHolds new.owner new (d.levels f.0)) (sym same.numbered) (subst (OwnerHolds new.owner new) (sym (levels.each old.fid.0))
      (shared_owner old new (a.levels old.fid.0) (b.levels old.fid.0) who is_who locks.0 same.owned clean fits.owned));
}
