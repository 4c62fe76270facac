-- A connection that falls to a lower level leaves the others theirs, and one writer at most.
use Rattle.std.proofs.Common.{◌≡◌, ◌≢◌, true, false, if◌then◌else◌, Option, Some, None, eq-eqb, ℕ, ◌-◌, ◌≤◌, ◌<◌, List, length, refl, sym, ◌∙◌, ap, subst, inl, inr, arith}
use Rattle.std.proofs.lemmas.List.{get_or-set_same, get_or-set_other, get_or_past}
use Rattle.std.proofs.lemmas.Bool.{cases_eq, cases_lt, ne_eqb}
use Rattle.vfs_model.specs.Lock.{IsOwner, level_at, rank, with_level, Lowers}
use Rattle.vfs_model.specs.declared.level.Level.{Level}
use Rattle.vfs_model.specs.declared.level.Level.TheVariants.{Free}
use Rattle.page_draft.specs.Draft.{IsClean}
use Rattle.vfs_trait.specs.State.{StackState, OpenStays}
use Rattle.vfs_trait.specs.Calls.{LocksAt}
use Rattle.pager_core.specs.Locks.{HasOneWriter}
use Rattle.pager_core.specs.Seen.{owns, SameFile, OwnerHolds, Fits}
use Rattle.pager_core.specs.Leave.{owner_without, DropsDraft}
use Rattle.pager_core.specs.declared.pager.Pager.{Pager}

-- the level of another stays
pub other_level : (old new : List Level) (who other : ℕ) (level : Level) → IsOwner who → IsOwner other → other ≢ who → Lowers old new who level → level_at new other ≡ level_at old other
other_level old new who other level is_who is_other another lowers = elim (cases_lt (rank level) (rank (level_at old who))) [
  | inl lower ↦ ap (λ levels. level_at levels other) (lowers.lowered lower) ∙ get_or-set_other old (who - 1) (other - 1) level Free (λ same. another (omega (arith, is_who.0, is_other.0, same)))
  | inr above ↦ ap (λ levels. level_at levels other) (lowers.kept above)
]

-- and its own does not rise
own_level : (old : List Level) (who : ℕ) (level : Level) → rank level < rank (level_at old who) → rank (level_at (with_level old who level) who) ≤ rank (level_at old who)
own_level old who level lower = elim (cases_lt (who - 1) (length old)) [
  | inl within ↦ omega (arith, lower, ap rank (get_or-set_same old (who - 1) level Free within))
  | inr past ↦ absurd (omega (arith, lower, ap rank (get_or_past old (who - 1) Free past)))
]

pub falls : (old new : List Level) (who : ℕ) (level : Level) → Lowers old new who level → rank (level_at new who) ≤ rank (level_at old who)
falls old new who level lowers = elim (cases_lt (rank level) (rank (level_at old who))) [
  | inl lower ↦ subst (λ levels. rank (level_at levels who) ≤ rank (level_at old who)) (sym (lowers.lowered lower)) (own_level old who level lower)
  | inr above ↦ omega (arith, ap (λ levels. rank (level_at levels who)) (lowers.kept above))
]

pub none_rises : (old new : List Level) (who other : ℕ) (level : Level) → IsOwner who → IsOwner other → Lowers old new who level → rank (level_at new other) ≤ rank (level_at old other)
none_rises old new who other level is_who is_other lowers = elim (cases_eq other who) [
  | inl same ↦ subst (λ o. rank (level_at new o) ≤ rank (level_at old o)) (sym same) (falls old new who level lowers)
  | inr another ↦ omega (arith, ap rank (other_level old new who other level is_who is_other another lowers))
]

pub one_writer_left : (old new : List Level) (who : ℕ) (level : Level) → IsOwner who → Lowers old new who level → HasOneWriter old → HasOneWriter new
one_writer_left old new who level is_who lowers one = record {
  one = λ a b is_a is_b a_writes b_writes. one.one a b is_a is_b
      (omega (arith, a_writes, none_rises old new who a level is_who is_a lowers)) (omega (arith, b_writes, none_rises old new who b level is_who is_b lowers));
}

-- what is left of a pager whose connection fell to a lower level without a draft fits what is left of the stack
pub owner_left : (old new : Pager) (levels levels' : List Level) (who : ℕ) (level : Level) → IsOwner who → Lowers levels levels' who level → DropsDraft old new who →
    OwnerHolds old.owner old levels → OwnerHolds new.owner new levels'
owner_left old new levels levels' who level is_who lowers drops holds = by_owner old.owner refl where
  by_owner : (o : Option ℕ) → old.owner ≡ o → OwnerHolds new.owner new levels'
  by_owner None none =
      let new_none : new.owner ≡ None = drops.owner ∙ ap (λ o. owner_without o who) none in
      let was : IsClean old.pages = subst (λ o. OwnerHolds o old levels) none holds in
      let stays : new.pages ≡ old.pages = drops.others (ap (λ o. owns o who) none) in
      subst (λ o. OwnerHolds o new levels') (sym new_none) (subst IsClean (sym stays) was)
  by_owner (Some owner) some =
      let was : IsOwner owner × (2 ≤ rank (level_at levels owner)) = subst (λ o. OwnerHolds o old levels) some holds in
      elim (cases_eq owner who) [
        | inl same ↦
            let mine : owns old.owner who ≡ true = ap (λ o. owns o who) some ∙ eq-eqb owner who same in
            let new_none : new.owner ≡ None = drops.owner ∙ ap (λ b. if b then None else old.owner) mine in
            subst (λ o. OwnerHolds o new levels') (sym new_none) (drops.own mine)
        | inr another ↦
            let not_mine : owns old.owner who ≡ false = ap (λ o. owns o who) some ∙ ne_eqb owner who another in
            let new_some : new.owner ≡ Some owner = drops.owner ∙ ap (λ b. if b then None else old.owner) not_mine ∙ some in
            let level_is : level_at levels' owner ≡ level_at levels owner = other_level levels levels' who owner level is_who was.0 another lowers in
            subst (λ o. OwnerHolds o new levels') (sym new_some) (was.0, omega (arith, was.1, ap rank level_is))
      ]

pub fits_lowered : (old new : Pager) (a b : StackState) (who : ℕ) (level : Level) → IsOwner who → SameFile old new → DropsDraft old new who → OpenStays a b →
    LocksAt a b old.fid.0 (λ x y. Lowers x y who level) → Fits old a → Fits new b
fits_lowered old new a b who level is_who same drops opens locks fits = record {
  named = ap (λ f. b.open_files f.0) same.numbered ∙ opens.names old.fid.0 ∙ fits.named ∙ ap Some (sym same.named);
  one = subst (λ f. HasOneWriter (b.levels f.0)) (sym same.numbered) (one_writer_left (a.levels old.fid.0) (b.levels old.fid.0) who level is_who locks.0 fits.one);
  owned = subst (λ f. OwnerHolds new.owner new (b.levels f.0)) (sym same.numbered) (owner_left old new (a.levels old.fid.0) (b.levels old.fid.0) who level is_who locks.0 drops fits.owned);
}
