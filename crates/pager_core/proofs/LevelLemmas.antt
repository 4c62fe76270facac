-- What a level that is granted, refused or lowered leaves of the levels of a pager's file.
use Rattle.std.proofs.Common.{if◌then◌else◌, ◌≡◌, ◌≢◌, ◌⊎◌, ℕ, ◌-◌, ◌<◌, ◌≤◌, ◌∙◌, List, length, Some, Err, inl, inr, refl, sym, ap, subst, arith, get_or-set_same, get_or-set_other}
use Rattle.std.proofs.lemmas.Bool.{cases_eq, cases_lt, eq-eqb}
use Rattle.std.proofs.lemmas.List.{get_or_past, set-set}
use Rattle.vfs_model.specs.Lock.{IsOwner, level_at, with_level, rank, Grants, Lowers}
use Rattle.vfs_model.specs.declared.level.Level.{Level}
use Rattle.vfs_model.specs.declared.level.Level.TheVariants.{Free, Pending, Exclusive}
use Rattle.vfs_trait.specs.State.{StackState, OpenStays}
use Rattle.vfs_trait.specs.Calls.{LockRule}
use Rattle.vfs_trait.specs.declared.fault.VfsFault.{VfsFault}
use Rattle.vfs_trait.specs.declared.fault.VfsFault.TheVariants.{Failed, Memory, Busy, Full, BadPage}
use Rattle.page_draft.specs.Draft.{now_pages, read_pages}
use Rattle.pager_core.specs.Locks.{HasOneWriter}
use Rattle.pager_core.specs.Seen.{seen, owns, OwnerHolds, Fits}
use Rattle.pager_core.specs.Commit.{ReturnsAlone}
use Rattle.pager_core.specs.declared.pager.Pager.{Pager}

-- who holds a level has a place among them
within : (levels : List Level) (who : ℕ) → 1 ≤ rank (level_at levels who) → who - 1 < length levels
within levels who some = elim (cases_lt (who - 1) (length levels)) [
  | inl less ↦ less
  | inr past ↦ absurd (omega (arith, some, ap rank (get_or_past levels (who - 1) Free past)))
]

own_rank : (levels : List Level) (who : ℕ) (level : Level) → 1 ≤ rank (level_at levels who) → rank (level_at (with_level levels who level) who) ≡ rank level
own_rank levels who level some = ap rank (get_or-set_same levels (who - 1) level Free (within levels who some))

other_rank : (levels : List Level) (who other : ℕ) (level : Level) → IsOwner who → IsOwner other → other ≢ who → rank (level_at (with_level levels who level) other) ≡ rank (level_at levels other)
other_rank levels who other level is is' differs = ap rank (get_or-set_other levels (who - 1) (other - 1) level Free (λ same. differs (omega (arith, same, is.0, is'.0))))

-- where nobody who had less than Reserved has it now, there is one writer still
one_still : (old new : List Level) → HasOneWriter old → ((x : ℕ) → IsOwner x → 2 ≤ rank (level_at new x) → 2 ≤ rank (level_at old x)) → HasOneWriter new
one_still old new h had = record { one = λ x y is is' writes writes'. h.one x y is is' (had x is writes) (had y is' writes') }

-- ---- a level is raised

raised_fits : (p : Pager) (a b : StackState) (who : ℕ) (level : Level) → Fits p a → p.owner ≡ Some who → OpenStays a b → 2 ≤ rank level → b.levels p.fid.0 ≡ with_level (a.levels p.fid.0) who level → Fits p b
raised_fits p a b who level fits owned opens high is =
    let levels = a.levels p.fid.0 in
    let holds : IsOwner who × (2 ≤ rank (level_at levels who)) = subst (λ o. OwnerHolds o p levels) owned fits.owned in
    let had : (x : ℕ) → IsOwner x → 2 ≤ rank (level_at (with_level levels who level) x) → 2 ≤ rank (level_at levels x) = λ x is_x writes. elim (cases_eq x who) [
      | inl same ↦ subst (λ k. 2 ≤ rank (level_at levels k)) (sym same) holds.1
      | inr differs ↦ omega (arith, writes, other_rank levels who x level holds.0 is_x differs)
    ] in
    record {
      named = opens.names p.fid.0 ∙ fits.named;
      one = subst HasOneWriter (sym is) (one_still levels (with_level levels who level) fits.one had);
      owned = subst (λ o. OwnerHolds o p (b.levels p.fid.0)) (sym owned)
          (holds.0, omega (arith, high, ap (λ lv. rank (level_at lv who)) is, own_rank levels who level (omega (arith, holds.1))));
    }

same_fits : (p : Pager) (a b : StackState) → Fits p a → OpenStays a b → b.levels p.fid.0 ≡ a.levels p.fid.0 → Fits p b
same_fits p a b fits opens is = record {
  named = opens.names p.fid.0 ∙ fits.named;
  one = subst HasOneWriter (sym is) fits.one;
  owned = subst (λ lv. OwnerHolds p.owner p lv) (sym is) fits.owned;
}

pub granted_fits : (p : Pager) (a b : StackState) (who : ℕ) → Fits p a → p.owner ≡ Some who → OpenStays a b → Grants (a.levels p.fid.0) (b.levels p.fid.0) who Exclusive → Fits p b
granted_fits p a b who fits owned opens grants = elim (cases_lt (rank (level_at (a.levels p.fid.0) who)) 4) [
  | inl lower ↦ raised_fits p a b who Exclusive fits owned opens (omega arith) (grants.raised lower)
  | inr held ↦ same_fits p a b fits opens (grants.held held)
]

refused_leaves : (who : ℕ) (fault : VfsFault) (old new : List Level) → LockRule who Exclusive (Err fault) old new → new ≡ with_level old who Pending
refused_leaves who Failed old new h = absurd h
refused_leaves who Memory old new h = absurd h
refused_leaves who (Busy holder level) old new h = h.levels
refused_leaves who (Full total limit) old new h = absurd h
refused_leaves who (BadPage page kept found) old new h = absurd h

pub refused_fits : (p : Pager) (a b : StackState) (who : ℕ) (fault : VfsFault) → Fits p a → p.owner ≡ Some who → OpenStays a b → LockRule who Exclusive (Err fault) (a.levels p.fid.0) (b.levels p.fid.0) → Fits p b
refused_fits p a b who fault fits owned opens rule = raised_fits p a b who Pending fits owned opens (omega arith) (refused_leaves who fault (a.levels p.fid.0) (b.levels p.fid.0) rule)

-- ---- a level is raised, and then ends

pub raised_and_lowered : (old mid new : List Level) (who : ℕ) → 2 ≤ rank (level_at old who) → Grants old mid who Exclusive → Lowers mid new who Free → ReturnsAlone old new who
raised_and_lowered old mid new who holds grants lowers = record {
  alone = grants.unhindered;
  lowered = record { kept = λ none. absurd (omega (arith, holds, none)); lowered = λ some. lowered (cases_lt (rank (level_at old who)) 4) };
} where
  lowered : (rank (level_at old who) < 4) ⊎ (4 ≤ rank (level_at old who)) → new ≡ with_level old who Free
  lowered (inl lower) =
      let is = grants.raised lower in
      lowers.lowered (omega (arith, ap (λ lv. rank (level_at lv who)) is, own_rank old who Exclusive (omega (arith, holds)))) ∙ ap (λ lv. with_level lv who Free) is ∙ set-set old (who - 1) Exclusive Free
  lowered (inr held) =
      let is = grants.held held in
      lowers.lowered (omega (arith, ap (λ lv. rank (level_at lv who)) is, holds)) ∙ ap (λ lv. with_level lv who Free) is

pub owner_holds : (p : Pager) (levels : List Level) (who : ℕ) → p.owner ≡ Some who → OwnerHolds p.owner p levels → 2 ≤ rank (level_at levels who)
owner_holds p levels who owned holds = (subst (λ o. OwnerHolds o p levels) owned holds).1

-- who has the draft sees it
pub own_seen : (p : Pager) (who : ℕ) → p.owner ≡ Some who → seen p who ≡ now_pages p.pages
own_seen p who owned = ap (λ o. if owns o who then now_pages p.pages else read_pages p.pages) owned ∙ ap (λ own. if own then now_pages p.pages else read_pages p.pages) (eq-eqb who who refl)
