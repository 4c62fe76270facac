-- What each state that a step may leave keeps of a settled one.
use Rattle.std.proofs.Common.{◌≡◌, ◌≢◌, ℕ, ◌-◌, ◌≤◌, ◌<◌, Bool, true, false, cond, inl, inr, List, length, Option, Some, None, refl, ap, sym, ◌∙◌, subst, arith, length-set}
use Rattle.std.specs.Prelude.{nat_lt, slice_set, slice_index_or}
use Rattle.std.proofs.lemmas.Bool.{cases_Bool, cases_eq, cases_lt, ltb-true, ltb-false}
use Rattle.std.proofs.lemmas.Bool.Decides.{nat_tests}
use Rattle.std.proofs.lemmas.List.{get_or-set_same, get_or-set_other, get_or-replicate}
use Rattle.vfs_model.specs.declared.level.Level.{Level}
use Rattle.vfs_model.specs.declared.level.Level.TheVariants.{Free, Reserved, Pending}
use Rattle.vfs_model.specs.Lock.{IsOwner, rank, all_free, level_at, with_level}
use Rattle.book_model.specs.Book.{Book}
use Rattle.shell_model.specs.State.{State, Draft, Doubt, own, own_of, without_own, is_inside, none_inside, is_refused, granted, reached, waiting, begun, ended, drafted, committed}
use Rattle.shell_laws.specs.Laws.{IsSettled}
use Rattle.shell_laws.proofs.CaseLemmas.{never, same_from_some}
use Rattle.shell_model.proofs.RuleLemmas.{unhindered}

-- the rank of what a connection holds
abbrev pub rank_at : List Level → ℕ → ℕ
rank_at levels who = rank (level_at levels who)

module _ {A : Type 0} (xs : List A) (who : ℕ) (a d : A) where
  own_place : length xs ≡ 8 → IsOwner who → slice_index_or (slice_set xs (who - 1) a) (who - 1) d ≡ a
  own_place eight is_owner = get_or-set_same xs (who - 1) a d (omega arith)

  other_place : (other : ℕ) → IsOwner who → IsOwner other → other ≢ who → slice_index_or (slice_set xs (who - 1) a) (other - 1) d ≡ slice_index_or xs (other - 1) d
  other_place other is_owner is_other another = get_or-set_other xs (who - 1) (other - 1) a d (λ same. another (omega arith))

free_at : (who : ℕ) → IsOwner who → level_at all_free who ≡ Free
free_at who is_owner = get_or-replicate 8 (who - 1) Free Free (omega arith)

outside_at : (who : ℕ) → IsOwner who → slice_index_or none_inside (who - 1) false ≡ false
outside_at who is_owner = get_or-replicate 8 (who - 1) false false (omega arith)

-- ---- states in which nobody holds anything

rank_free : (who : ℕ) → IsOwner who → rank_at all_free who ≡ 0
rank_free who is_owner = ap rank (free_at who is_owner)

pub emptied : (book : Book) (stopped : Bool) (doubt : Option Doubt) → ((d : Doubt) → doubt ≡ Some d → stopped ≡ true) →
    IsSettled (record { kept = book; draft = None; levels = all_free; inside = none_inside; stopped = stopped; doubt = doubt })
emptied book stopped doubt doubted = record {
  eight = refl;
  eight_inside = refl;
  free_outside = λ who is_owner outside. free_at who is_owner;
  drafted = λ draft is. absurd (cc);
  one_writer = λ who other is_owner is_other writes writes'. absurd (omega (arith, rank_free who is_owner));
  doubted = doubted;
  halted = λ is who is_owner. outside_at who is_owner;
}

-- ---- states that differ from a settled one

module _ (s : State) (who : ℕ) (settled : IsSettled s) (is_owner : IsOwner who) where
  -- a connection inside a transaction holds another level, beside which no other writes where it does
  raised : (level : Level) → is_inside s who ≡ true → (2 ≤ rank_at s.levels who → 2 ≤ rank level) → (2 ≤ rank level → (other : ℕ) → IsOwner other → other ≢ who → rank_at s.levels other < 2) →
      IsSettled (record s { levels = with_level s.levels who level })
  raised level inside more none =
      let own : rank_at (with_level s.levels who level) who ≡ rank level = ap rank (own_place s.levels who level Free settled.eight is_owner) in
      let others = λ (other : ℕ) (is_other : IsOwner other) (another : other ≢ who). other_place s.levels who level Free other is_owner is_other another in
      record {
        eight = length-set s.levels (who - 1) level ∙ settled.eight;
        eight_inside = settled.eight_inside;
        free_outside = λ other is_other outside. elim (cases_eq other who) [
          | inl same ↦ never inside (sym (ap (is_inside s) same) ∙ outside)
          | inr another ↦ others other is_other another ∙ settled.free_outside other is_other outside
        ];
        drafted = λ draft is. let old = settled.drafted draft is in (
          old.0,
          old.1,
          elim (cases_eq draft.owner who) [
            | inl same ↦ subst (λ x. 2 ≤ rank_at (with_level s.levels who level) x) (sym same) (subst (λ x. 2 ≤ x) (sym own) (more (subst (λ x. 2 ≤ rank_at s.levels x) same old.2)))
            | inr another ↦ subst (λ x. 2 ≤ rank x) (sym (others draft.owner old.0 another)) old.2
          ],
        );
        one_writer = λ a b is_a is_b writes writes'. elim (cases_eq a who) [
          | inl a_is ↦ elim (cases_eq b who) [
            | inl b_is ↦ a_is ∙ sym b_is
            | inr b_not ↦
                let at_who : 2 ≤ rank level = subst (λ x. 2 ≤ x) (ap (rank_at (with_level s.levels who level)) a_is ∙ own) writes in
                absurd (omega (arith, none at_who b is_b b_not, ap rank (others b is_b b_not)))
          ]
          | inr a_not ↦ elim (cases_eq b who) [
            | inl b_is ↦
                let at_who : 2 ≤ rank level = subst (λ x. 2 ≤ x) (ap (rank_at (with_level s.levels who level)) b_is ∙ own) writes' in
                absurd (omega (arith, none at_who a is_a a_not, ap rank (others a is_a a_not)))
            | inr b_not ↦ settled.one_writer a b is_a is_b (subst (λ x. 2 ≤ rank x) (others a is_a a_not) writes) (subst (λ x. 2 ≤ rank x) (others b is_b b_not) writes')
          ]
        ];
        doubted = settled.doubted;
        halted = settled.halted;
      }

  -- beside one that was not refused Reserved no other writes
  pub alone : is_refused s.levels who Reserved ≡ false → (other : ℕ) → IsOwner other → other ≢ who → rank_at s.levels other < 2
  alone free other is_other another = elim (cases_lt (rank_at s.levels other) 2) [
    | inl below ↦ below
    | inr writes ↦ elim (cases_lt (rank_at s.levels who) 2) [
      | inl higher ↦ absurd (unhindered s.levels who Reserved free higher other (record { numbered = is_other; another = another; keeps_out = writes }))
      | inr had ↦ absurd (another (settled.one_writer other who is_other is_owner writes had))
    ]
  ]

  -- a connection inside a transaction was granted a level
  record Grown (level : Level) : Type 0 where
    is_settled : IsSettled (record s { levels = granted s.levels who level })
    has : rank level ≤ rank_at (granted s.levels who level) who

  grown : (level : Level) → is_inside s who ≡ true → (2 ≤ rank level → (other : ℕ) → IsOwner other → other ≢ who → rank_at s.levels other < 2) → Grown level
  grown level inside others = elim (cases_Bool (nat_lt (rank_at s.levels who) (rank level))) [
    | inl less ↦ record {
      is_settled = subst (λ b. IsSettled (record s { levels = cond b (with_level s.levels who level) s.levels })) (sym less) (raised level inside (λ writes. omega (arith, ltb-true _ _ less)) others);
      has = subst (λ b. rank level ≤ rank_at (cond b (with_level s.levels who level) s.levels) who) (sym less) (omega (arith, ap rank (own_place s.levels who level Free settled.eight is_owner)));
    }
    | inr had ↦ record {
      is_settled = subst (λ b. IsSettled (record s { levels = cond b (with_level s.levels who level) s.levels })) (sym had) settled;
      has = subst (λ b. rank level ≤ rank_at (cond b (with_level s.levels who level) s.levels) who) (sym had) (omega (arith, ltb-false _ _ had));
    }
  ]

  pub reached_settled : (level : Level) → (2 ≤ rank level → (other : ℕ) → IsOwner other → other ≢ who → rank_at s.levels other < 2) → IsSettled (reached s who level)
  reached_settled level others = elim (cases_Bool (is_inside s who)) [
    | inl inside ↦ subst (λ b. IsSettled (cond b (record s { levels = granted s.levels who level }) s)) (sym inside) (grown level inside others).is_settled
    | inr outside ↦ subst (λ b. IsSettled (cond b (record s { levels = granted s.levels who level }) s)) (sym outside) settled
  ]

  pub drafted_settled : (book : Book) → is_inside s who ≡ true → is_refused s.levels who Reserved ≡ false → IsSettled (drafted s who book)
  drafted_settled book inside free =
      let g = grown Reserved inside (λ writes. alone free) in
      let old = g.is_settled in
      record {
        eight = old.eight;
        eight_inside = old.eight_inside;
        free_outside = old.free_outside;
        drafted = λ draft is. subst (λ (d : Draft). IsOwner d.owner × (is_inside s d.owner ≡ true) × (2 ≤ rank_at (granted s.levels who Reserved) d.owner))
            {y = draft} (same_from_some (record { owner = who; book = book }) draft is) (is_owner, inside, g.has);
        one_writer = old.one_writer;
        doubted = old.doubted;
        halted = old.halted;
      }

  -- whose draft it is has Reserved, so that it may wait for Exclusive
  pub waiting_settled : (book : Book) → own s who ≡ Some book → IsSettled (waiting s who)
  waiting_settled book is =
      let mine = own_is s.draft book is in
      let old = settled.drafted mine.0 mine.1 in
      let writes : 2 ≤ rank_at s.levels who = subst (λ x. 2 ≤ rank_at s.levels x) mine.2 old.2 in
      raised Pending (subst (λ x. is_inside s x ≡ true) mine.2 old.1) (λ _. omega arith) (λ high other is_other another. elim (cases_lt (rank_at s.levels other) 2) [
        | inl below ↦ below
        | inr writes' ↦ absurd (another (settled.one_writer other who is_other is_owner writes' writes))
      ])
    where
      own_is : (draft : Option Draft) (book : Book) → own_of draft who ≡ Some book → (d : Draft) × (draft ≡ Some d) × (d.owner ≡ who)
      own_is None book is = absurd (cc)
      own_is (Some draft) book is = (draft, refl, grind (arith, nat_tests))

  pub begun_settled : s.stopped ≡ false → IsSettled (begun s who)
  begun_settled goes = record {
    eight = settled.eight;
    eight_inside = length-set s.inside (who - 1) true ∙ settled.eight_inside;
    free_outside = λ other is_other outside. elim (cases_eq other who) [
      | inl same ↦ never (own_place s.inside who true false settled.eight_inside is_owner) (sym (ap (is_inside (begun s who)) same) ∙ outside)
      | inr another ↦ settled.free_outside other is_other (sym (other_place s.inside who true false other is_owner is_other another) ∙ outside)
    ];
    drafted = λ draft is. let old = settled.drafted draft is in (
      old.0,
      elim (cases_eq draft.owner who) [
        | inl same ↦ ap (is_inside (begun s who)) same ∙ own_place s.inside who true false settled.eight_inside is_owner
        | inr another ↦ other_place s.inside who true false draft.owner is_owner old.0 another ∙ old.1
      ],
      old.2,
    );
    one_writer = settled.one_writer;
    doubted = settled.doubted;
    halted = λ is. never is goes;
  }

  -- what is left of a draft is another's
  without_some : (draft : Option Draft) (left : Draft) → without_own draft who ≡ Some left → (draft ≡ Some left) × (left.owner ≢ who)
  without_some None left is = absurd (cc)
  without_some (Some draft) left is = elim (cases_eq draft.owner who) [
    | inl same ↦ absurd (grind (arith, nat_tests))
    | inr another ↦ let e : draft ≡ left = grind (arith, nat_tests) in (ap Some e, subst (λ (d : Draft). d.owner ≢ who) e another)
  ]

  pub ended_settled : IsSettled (ended s who)
  ended_settled =
      let own = own_place s.levels who Free Free settled.eight is_owner in
      let others = λ (other : ℕ) (is_other : IsOwner other) (another : other ≢ who). other_place s.levels who Free Free other is_owner is_other another in
      let insides = λ (other : ℕ) (is_other : IsOwner other) (another : other ≢ who). other_place s.inside who false false other is_owner is_other another in
      let writer = λ (a : ℕ) (is_a : IsOwner a) (writes : 2 ≤ rank_at (with_level s.levels who Free) a). not_who s.levels own a writes in
      record {
        eight = length-set s.levels (who - 1) Free ∙ settled.eight;
        eight_inside = length-set s.inside (who - 1) false ∙ settled.eight_inside;
        free_outside = λ other is_other outside. elim (cases_eq other who) [
          | inl same ↦ ap (level_at (with_level s.levels who Free)) same ∙ own
          | inr another ↦ others other is_other another ∙ settled.free_outside other is_other (sym (insides other is_other another) ∙ outside)
        ];
        drafted = λ draft is.
            let left = without_some s.draft draft is in
            let old = settled.drafted draft left.0 in
            (old.0, insides draft.owner old.0 left.1 ∙ old.1, subst (λ x. 2 ≤ rank x) (sym (others draft.owner old.0 left.1)) old.2);
        one_writer = λ a b is_a is_b writes writes'.
            settled.one_writer a b is_a is_b (subst (λ x. 2 ≤ rank x) (others a is_a (writer a is_a writes)) writes) (subst (λ x. 2 ≤ rank x) (others b is_b (writer b is_b writes')) writes');
        doubted = settled.doubted;
        halted = λ is other is_other. elim (cases_eq other who) [
          | inl same ↦ ap (is_inside (ended s who)) same ∙ own_place s.inside who false false settled.eight_inside is_owner
          | inr another ↦ insides other is_other another ∙ settled.halted is other is_other
        ];
      }
    where
      not_who : (levels : List Level) → level_at (with_level levels who Free) who ≡ Free → (a : ℕ) → 2 ≤ rank_at (with_level levels who Free) a → a ≢ who
      not_who levels free a writes same = absurd (omega (arith, ap (rank_at (with_level levels who Free)) same, ap rank free))

  pub committed_settled : (book : Book) → IsSettled (committed s who book)
  committed_settled book = let e = ended_settled in record {
    eight = e.eight;
    eight_inside = e.eight_inside;
    free_outside = e.free_outside;
    drafted = e.drafted;
    one_writer = e.one_writer;
    doubted = e.doubted;
    halted = e.halted;
  }
