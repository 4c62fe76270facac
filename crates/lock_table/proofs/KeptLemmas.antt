-- What no call of a lock table breaks, by induction over the calls.
use Rattle.std.proofs.Common.{◌≡◌, ◌≢◌, ℕ, ◌-◌, ◌≤◌, ◌<◌, List, length, refl, sym, ◌∙◌, ap, subst, inl, inr, arith, length-set}
use Rattle.std.proofs.lemmas.List.{get_or-set_same, get_or-set_other, get_or-replicate}
use Rattle.std.proofs.lemmas.Bool.{cases_eq, cases_lt}
use Rattle.vfs_model.specs.Lock.{IsOwner, rank, all_free, level_at, with_level, MayAsk, InTheWay, IsUnhindered, after_refusal}
use Rattle.vfs_model.specs.declared.level.Level.{Level}
use Rattle.vfs_model.specs.declared.level.Level.TheVariants.{Free, Shared, Reserved, Pending, Exclusive}
use Rattle.lock_table.specs.Reached.{Reached}
use Rattle.lock_table.specs.Reached.Reached.{fresh, granted, refused, lowered}

abbrev pub rank_at : List Level → ℕ → ℕ
rank_at levels owner = rank (level_at levels owner)

-- one writer at most, and no lock beside Exclusive
pub record IsSafe (levels : List Level) : Type 0 where
  pub eight : length levels ≡ 8
  pub writer : (a b : ℕ) → IsOwner a → IsOwner b → 2 ≤ rank_at levels a → 2 ≤ rank_at levels b → a ≡ b
  pub alone : (a b : ℕ) → IsOwner a → IsOwner b → b ≢ a → 4 ≤ rank_at levels a → rank_at levels b ≡ 0

-- what the others may hold beside a new level of an owner
pub record MayHold (levels : List Level) (owner : ℕ) (level : Level) : Type 0 where
  pub writer : 2 ≤ rank level → (other : ℕ) → IsOwner other → other ≢ owner → rank_at levels other < 2
  pub alone : 4 ≤ rank level → (other : ℕ) → IsOwner other → other ≢ owner → rank_at levels other ≡ 0
  pub beside : 1 ≤ rank level → (other : ℕ) → IsOwner other → other ≢ owner → rank_at levels other < 4

own : (levels : List Level) (owner : ℕ) (level : Level) → length levels ≡ 8 → IsOwner owner → rank_at (with_level levels owner level) owner ≡ rank level
own levels owner level eight is_owner = ap rank (get_or-set_same levels (owner - 1) level Free (omega arith))

others : (levels : List Level) (owner other : ℕ) (level : Level) → IsOwner owner → IsOwner other → other ≢ owner → rank_at (with_level levels owner level) other ≡ rank_at levels other
others levels owner other level is_owner is_other another =
    ap rank (get_or-set_other levels (owner - 1) (other - 1) level Free (λ same. another (omega arith)))

IsSafe-with_level : (levels : List Level) (owner : ℕ) (level : Level) → IsSafe levels → IsOwner owner → MayHold levels owner level → IsSafe (with_level levels owner level)
IsSafe-with_level levels owner level safe is_owner may = record {
  eight = length-set levels (owner - 1) level ∙ safe.eight;
  writer = λ a b is_a is_b a_writes b_writes. elim (cases_eq a owner) [
    | inl a_is ↦ elim (cases_eq b owner) [
      | inl b_is ↦ a_is ∙ sym b_is
      | inr b_not ↦ let own_level = own levels owner level safe.eight is_owner in let stays = others levels owner b level is_owner is_b b_not in
          let at_a : 2 ≤ rank_at (with_level levels owner level) owner = subst (λ x. 2 ≤ rank_at (with_level levels owner level) x) a_is a_writes in
          absurd (omega (arith, may.writer (omega arith) b is_b b_not))
    ]
    | inr a_not ↦ let a_stays = others levels owner a level is_owner is_a a_not in elim (cases_eq b owner) [
      | inl b_is ↦ let own_level = own levels owner level safe.eight is_owner in
          let at_b : 2 ≤ rank_at (with_level levels owner level) owner = subst (λ x. 2 ≤ rank_at (with_level levels owner level) x) b_is b_writes in
          absurd (omega (arith, may.writer (omega arith) a is_a a_not))
      | inr b_not ↦ let b_stays = others levels owner b level is_owner is_b b_not in safe.writer a b is_a is_b (omega arith) (omega arith)
    ]
  ];
  alone = λ a b is_a is_b apart a_alone. elim (cases_eq a owner) [
    | inl a_is ↦ let own_level = own levels owner level safe.eight is_owner in
        let b_not : b ≢ owner = λ same. apart (same ∙ sym a_is) in
        let stays = others levels owner b level is_owner is_b b_not in
        let at_a : 4 ≤ rank_at (with_level levels owner level) owner = subst (λ x. 4 ≤ rank_at (with_level levels owner level) x) a_is a_alone in
        stays ∙ may.alone (omega arith) b is_b b_not
    | inr a_not ↦ let a_stays = others levels owner a level is_owner is_a a_not in elim (cases_eq b owner) [
      | inl b_is ↦ let own_level = own levels owner level safe.eight is_owner in
          ap (λ x. rank_at (with_level levels owner level) x) b_is ∙ own_level ∙ free level (λ some. absurd (omega (arith, may.beside some a is_a a_not)))
      | inr b_not ↦ let b_stays = others levels owner b level is_owner is_b b_not in b_stays ∙ safe.alone a b is_a is_b apart (omega arith)
    ]
  ];
} where
  free : (level : Level) → (1 ≤ rank level → ⊥) → rank level ≡ 0
  free level none = omega (arith, cases_lt (rank level) 1, none)

rank-le : (level : Level) → rank level ≤ 4
rank-le Free = omega arith
rank-le Shared = omega arith
rank-le Reserved = omega arith
rank-le Pending = omega arith
rank-le Exclusive = omega arith

module _ (old : List Level) (owner : ℕ) where
  -- what keeps the level out is not held by another
  unheld : (asked : Level) (limit other : ℕ) → IsUnhindered old owner asked → (limit ≤ rank_at old other → InTheWay old owner asked other) → rank_at old other < limit
  unheld asked limit other unhindered held = elim (cases_lt (rank_at old other) limit) [
    | inl below ↦ below
    | inr above ↦ absurd (unhindered.none other (held above))
  ]

  MayHold-granted : (asked : Level) → MayAsk old owner asked → IsUnhindered old owner asked → MayHold old owner asked
  MayHold-granted Free may unhindered = absurd may
  MayHold-granted Shared may unhindered =
      let below : (other : ℕ) → IsOwner other → other ≢ owner → rank_at old other < 3 =
      λ other is_other another. unheld Shared 3 other unhindered (λ high. record { numbered = is_other; another = another; keeps_out = high }) in
      record { writer = λ h. absurd (omega arith); alone = λ h. absurd (omega arith); beside = λ h other is_other another. omega (arith, below other is_other another) }
  MayHold-granted Reserved may unhindered =
      let below : (other : ℕ) → IsOwner other → other ≢ owner → rank_at old other < 2 =
      λ other is_other another. unheld Reserved 2 other unhindered (λ high. record { numbered = is_other; another = another; keeps_out = high }) in
      record { writer = λ h. below; alone = λ h. absurd (omega arith); beside = λ h other is_other another. omega (arith, below other is_other another) }
  MayHold-granted Pending may unhindered = absurd may
  MayHold-granted Exclusive may unhindered =
      let below : (other : ℕ) → IsOwner other → other ≢ owner → rank_at old other < 1 =
      λ other is_other another. unheld Exclusive 1 other unhindered (λ high. record { numbered = is_other; another = another; keeps_out = high }) in
      record { writer = λ h other is_other another. omega (arith, below other is_other another); alone = λ h other is_other another. omega (arith, below other is_other another); beside = λ h other is_other another. omega (arith, below other is_other another) }

  module _ (safe : IsSafe old) (is_owner : IsOwner owner) where
    -- beside one that writes no other does
    reads : 2 ≤ rank_at old owner → (other : ℕ) → IsOwner other → other ≢ owner → rank_at old other < 2
    reads writes other is_other another = elim (cases_lt (rank_at old other) 2) [
      | inl below ↦ below
      | inr above ↦ absurd (another (safe.writer other owner is_other is_owner above writes))
    ]

    MayHold-lower : (level : Level) → 2 ≤ rank_at old owner → rank level < 4 → MayHold old owner level
    MayHold-lower level writes lower = record { writer = λ h. reads writes; alone = λ h. absurd (omega arith); beside = λ h other is_other another. omega (arith, reads writes other is_other another) }

    IsSafe-after_refusal : (asked : Level) → MayAsk old owner asked → IsSafe (after_refusal old owner asked)
    IsSafe-after_refusal Free may = safe
    IsSafe-after_refusal Shared may = safe
    IsSafe-after_refusal Reserved may = safe
    IsSafe-after_refusal Pending may = safe
    IsSafe-after_refusal Exclusive may = IsSafe-with_level old owner Pending safe is_owner (MayHold-lower Pending may (omega arith))

    MayHold-free : (level : Level) → rank level ≡ 0 → MayHold old owner level
    MayHold-free level zero = record { writer = λ h. absurd (omega arith); alone = λ h. absurd (omega arith); beside = λ h. absurd (omega arith) }

    MayHold-lowered : (level : Level) → rank level < rank_at old owner → MayHold old owner level
    MayHold-lowered level lower = elim (cases_lt (rank level) 1) [
      | inl none ↦ MayHold-free level (omega arith)
      | inr some ↦ MayHold-lower level (omega arith) (omega (arith, rank-le (level_at old owner)))
    ]

free_at : (owner : ℕ) → IsOwner owner → rank_at all_free owner ≡ 0
free_at owner is_owner = ap rank (get_or-replicate 8 (owner - 1) Free Free (omega arith))

pub IsSafe-reached : (levels : List Level) → Reached levels → IsSafe levels
IsSafe-reached _ fresh = record { eight = refl; writer = λ a b is_a is_b a_writes b_writes. absurd (omega (arith, free_at a is_a)); alone = λ a b is_a is_b apart a_alone. free_at b is_b }
IsSafe-reached _ (granted old new owner asked before is_owner may grants) = elim (cases_lt (rank_at old owner) (rank asked)) [
  | inl higher ↦ subst IsSafe (sym (grants.raised higher)) (IsSafe-with_level old owner asked (IsSafe-reached old before) is_owner (MayHold-granted old owner asked may (grants.unhindered higher)))
  | inr held ↦ subst IsSafe (sym (grants.held held)) (IsSafe-reached old before)
]
IsSafe-reached _ (refused old new owner asked holder level before is_owner may refuses) =
    subst IsSafe (sym refuses.levels) (IsSafe-after_refusal old owner (IsSafe-reached old before) is_owner asked may)
IsSafe-reached _ (lowered old new owner level before is_owner lowers) = elim (cases_lt (rank level) (rank_at old owner)) [
  | inl lower ↦ subst IsSafe (sym (lowers.lowered lower)) (IsSafe-with_level old owner level (IsSafe-reached old before) is_owner (MayHold-lowered old owner (IsSafe-reached old before) is_owner level lower))
  | inr kept ↦ subst IsSafe (sym (lowers.kept kept)) (IsSafe-reached old before)
]

-- the one level of rank 0
pub free_from_rank : (level : Level) → rank level ≡ 0 → level ≡ Free
free_from_rank Free zero = refl
free_from_rank Shared zero = absurd (omega arith)
free_from_rank Reserved zero = absurd (omega arith)
free_from_rank Pending zero = absurd (omega arith)
free_from_rank Exclusive zero = absurd (omega arith)
