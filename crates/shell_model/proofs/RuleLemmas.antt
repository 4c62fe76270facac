-- The test of the lock rule, and the rule.
use Rattle.std.proofs.Common.{◌≡◌, ◌≢◌, ℕ, suc, zero, ◌+◌, ◌-◌, ◌<◌, Bool, true, false, not, ◌&&◌, ◌||◌, ◌⊎◌, ◌↔◌, inl, inr, List, [], ◌∷◌, length, get_or, refl, sym, ◌∙◌, ap, arith}
use Rattle.std.specs.Prelude.{nat_lt, nat_le, ◌==◌}
use Rattle.std.specs.Bool.{Decides}
use Rattle.std.specs.List.{list_any}
use Rattle.std.proofs.lemmas.Bool.{cases_Bool, cases_eq, and_from, and_parts, ltb-true, lt-ltb, leb-true, le-leb}
use Rattle.std.proofs.lemmas.Bool.Decides.{Decides-and, Decides-not, Decides-eqb}
use Rattle.std.proofs.lemmas.List.Folds.{list_any_at}
use Rattle.std.proofs.lemmas.List.FromFn.{get_or-range_with_len}
use Rattle.vfs_model.specs.declared.level.Level.{Level}
use Rattle.vfs_model.specs.declared.level.Level.TheVariants.{Free, Shared, Reserved, Pending, Exclusive}
use Rattle.vfs_model.specs.Lock.{IsOwner, rank, level_at, KeepsOut, InTheWay, IsHolder, Refuses, after_refusal}
use Rattle.shell_model.specs.State.{keeps_out, owners, is_refused}

-- what is true is not false
never : {A : Type 0} {b : Bool} → b ≡ true → b ≡ false → A
never is not = absurd (let e : true ≡ false = sym is ∙ not in cc)

keeps_out-Decides : (asked other : Level) → Decides (keeps_out asked other) (KeepsOut asked other)
keeps_out-Decides Free other = (λ e. absurd (cc), λ out. absurd out)
keeps_out-Decides Shared other = (leb-true 3 (rank other), le-leb 3 (rank other))
keeps_out-Decides Reserved other = (leb-true 2 (rank other), le-leb 2 (rank other))
keeps_out-Decides Pending other = (λ e. absurd (cc), λ out. absurd out)
keeps_out-Decides Exclusive other = (leb-true 1 (rank other), le-leb 1 (rank other))

-- another is in the way, as a test
abbrev pub is_in_way : List Level → ℕ → Level → ℕ → Bool
is_in_way levels who asked other = not (other == who) && keeps_out asked (level_at levels other)

in_way-Decides : (levels : List Level) (who : ℕ) (asked : Level) (other : ℕ) → Decides (is_in_way levels who asked other) ((other ≢ who) × KeepsOut asked (level_at levels other))
in_way-Decides levels who asked other =
    Decides-and (not (other == who)) (keeps_out asked (level_at levels other)) (Decides-not (other == who) (Decides-eqb other who)) (keeps_out-Decides asked (level_at levels other))

-- ---- the connections as a list

any_place : (test : ℕ → Bool) (xs : List ℕ) → list_any test xs ≡ true → (place : ℕ) × (place < length xs) × (test (get_or xs place 0) ≡ true)
any_place test [] found = absurd (cc)
any_place test (x ∷ xs) found = elim (cases_Bool (test x)) [
  | inl is ↦ (0, omega arith, is)
  | inr out ↦
      let rest = any_place test xs (sym (ap (λ b. b || list_any test xs) out) ∙ found) in
      (suc rest.0, omega arith, rest.2)
]

owner_at : (place : ℕ) → place < 8 → get_or owners place 0 ≡ 1 + place
owner_at place within = get_or-range_with_len 1 8 place 0 within

an_owner : (test : ℕ → Bool) → list_any test owners ≡ true → (other : ℕ) × IsOwner other × (test other ≡ true)
an_owner test found =
    let at = any_place test owners found in
    let within : at.0 < 8 = at.1 in
    (1 + at.0, (omega arith, omega arith), sym (ap test (owner_at at.0 within)) ∙ at.2)

any_owner : (test : ℕ → Bool) (other : ℕ) → IsOwner other → test other ≡ true → list_any test owners ≡ true
any_owner test other is_owner is =
    let within : other - 1 < 8 = omega arith in
    let same : 1 + (other - 1) ≡ other = omega arith in
    list_any_at test owners (other - 1) 0 within (ap test (owner_at (other - 1) within ∙ same) ∙ is)

-- the least number below one that passes a test
least : (test : ℕ → Bool) (n : ℕ) → ((least : ℕ) × (least < n) × (test least ≡ true) × ((other : ℕ) → other < least → test other ≡ false)) ⊎ ((other : ℕ) → other < n → test other ≡ false)
least test zero = inr (λ other below. absurd (omega arith))
least test (suc n) = elim (least test n) [
  | inl found ↦ inl (found.0, omega arith, found.2, found.3)
  | inr none ↦ elim (cases_Bool (test n)) [
    | inl is ↦ inl (n, omega arith, is, none)
    | inr out ↦ inr (λ other below. elim (cases_eq other n) [
      | inl same ↦ ap test same ∙ out
      | inr another ↦ none other (omega arith)
    ])
  ]
]

-- ---- the rule

module _ (levels : List Level) (who : ℕ) (asked : Level) where
  -- a connection is in the way, as a test on any number
  owner_in_way : ℕ → Bool
  owner_in_way other = nat_le 1 other && is_in_way levels who asked other

  in_the_way : (other : ℕ) → IsOwner other → is_in_way levels who asked other ≡ true → InTheWay levels who asked other
  in_the_way other is_owner is = let parts = (in_way-Decides levels who asked other).0 is in record { numbered = is_owner; another = parts.0; keeps_out = parts.1 }

  pub refused_by_way : (other : ℕ) → rank (level_at levels who) < rank asked → InTheWay levels who asked other → is_refused levels who asked ≡ true
  refused_by_way other higher way = and_from _ _ (lt-ltb _ _ higher) (any_owner (is_in_way levels who asked) other way.numbered ((in_way-Decides levels who asked other).1 (way.another, way.keeps_out)))

  holder_is : (holder : ℕ) → holder < 9 → owner_in_way holder ≡ true → ((other : ℕ) → other < holder → owner_in_way other ≡ false) → IsHolder levels who asked holder
  unfolding owner_in_way
  holder_is holder within is none =
      let parts = and_parts _ _ is in
      let numbered : IsOwner holder = (leb-true 1 holder parts.0, omega arith) in
      record {
        in_the_way = in_the_way holder numbered parts.1;
        least = λ other below way. never (and_from _ _ (le-leb 1 other way.numbered.0) ((in_way-Decides levels who asked other).1 (way.another, way.keeps_out))) (none other below);
      }

  held : is_refused levels who asked ≡ true → (holder : ℕ) × IsHolder levels who asked holder
  unfolding owner_in_way
  held refused =
      let way = is_in_way levels who asked in
      let found = and_parts (nat_lt (rank (level_at levels who)) (rank asked)) (list_any way owners) refused in
      let there = an_owner way found.1 in
      let within : there.0 < 9 = omega (arith, there.1) in
      elim (least owner_in_way 9) [
        | inl found ↦ (found.0, holder_is found.0 found.1 found.2 found.3)
        | inr none ↦ never (and_from (nat_le 1 there.0) (way there.0) (le-leb 1 there.0 there.1.0) there.2) (none there.0 within)
      ]

  pub by_rule : (is_refused levels who asked ≡ true) ↔ ((after : List Level) × (holder : ℕ) × (level : Level) × Refuses levels after who asked holder level)
  by_rule = (
    λ refused. let holder = held refused in
        (after_refusal levels who asked, holder.0, level_at levels holder.0, record { higher = ltb-true _ _ (and_parts _ _ refused).0; holder_is = holder.1; level_is = refl; levels = refl }),
    λ refuses. refused_by_way refuses.1 refuses.3.higher refuses.3.holder_is.in_the_way,
  )

  -- what is not refused is kept out by nobody
  pub unhindered : is_refused levels who asked ≡ false → rank (level_at levels who) < rank asked → (other : ℕ) → ¬ InTheWay levels who asked other
  unhindered free higher other way = never (refused_by_way other higher way) free
