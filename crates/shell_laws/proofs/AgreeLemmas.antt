-- Cases that agree allow the same replies, but for the free ones.
use Rattle.std.proofs.Common.{◌≡◌, ℕ, ◌==◌, Bool, true, false, cond, ◌&&◌, inl, inr, not, List, [], ◌∷◌, Option, Some, None, refl, ap, sym, ◌∙◌, subst}
use Rattle.std.specs.Prelude.{is_some, unwrap_or}
use Rattle.vfs_model.specs.declared.level.Level.{Level}
use Rattle.vfs_model.specs.declared.level.Level.TheVariants.{Shared, Reserved, Exclusive}
use Rattle.shell_lang.specs.declared.reply.Reply.{Reply}
use Rattle.book_model.specs.Book.{Book, Name, is_plain, is_foreign}
use Rattle.shell_model.specs.State.{State, Draft, is_inside, own, own_of, seen, is_refused, granted, reached, waiting, begun, without_own, ended, drafted, committed, opened}
use Rattle.shell_model.specs.Cases.{Case, due, may, Allows, asked, reading, writing, looking, committing, changing}
use Rattle.shell_model.specs.Step.{is_free}
use Rattle.shell_laws.specs.Agree.{IsSameBook}
use Rattle.shell_laws.proofs.SameBookLemmas.{same_plain, same_foreign, commit_with}

-- the draft is that of the same connection
abbrev pub IsSameDraft : Option Draft → Option Draft → Type 0
IsSameDraft None None = Unit {0}
IsSameDraft (Some d) (Some e) = (e.owner ≡ d.owner) × IsSameBook d.book e.book
IsSameDraft None (Some e) = ⊥
IsSameDraft (Some d) None = ⊥

-- states that differ in nothing that a reply has to show
pub record IsAlike (s t : State) : Type 0 where
  pub kept : IsSameBook s.kept t.kept
  pub drafts : IsSameDraft s.draft t.draft
  pub levels : t.levels ≡ s.levels
  pub inside : t.inside ≡ s.inside
  pub stopped : t.stopped ≡ s.stopped
  pub sure : s.doubt ≡ None
  pub also : t.doubt ≡ None

abbrev pub IsSameOwn : Option Book → Option Book → Type 0
IsSameOwn None None = Unit {0}
IsSameOwn (Some a) (Some b) = IsSameBook a b
IsSameOwn None (Some b) = ⊥
IsSameOwn (Some a) None = ⊥

own_same : (o p : Option Draft) (who : ℕ) → IsSameDraft o p → IsSameOwn (own_of o who) (own_of p who)
own_same None None who same = tt
own_same None (Some e) who same = absurd same
own_same (Some d) None who same = absurd same
own_same (Some d) (Some e) who same = subst (λ (n : ℕ). IsSameOwn (own_of (Some d) who) (cond (n == who) (Some e.book) None)) (sym same.0) (at (d.owner == who))
  where
    at : (b : Bool) → IsSameOwn (cond b (Some d.book) None) (cond b (Some e.book) None)
    at true = same.1
    at false = tt

some_same : (o p : Option Book) → IsSameOwn o p → is_some p ≡ is_some o
some_same None None same = refl
some_same None (Some b) same = absurd same
some_same (Some a) None same = absurd same
some_same (Some a) (Some b) same = refl

or_same : (o p : Option Book) (k l : Book) → IsSameOwn o p → IsSameBook k l → IsSameBook (unwrap_or o k) (unwrap_or p l)
or_same None None k l same kept = kept
or_same None (Some b) k l same kept = absurd same
or_same (Some a) None k l same kept = absurd same
or_same (Some a) (Some b) k l same kept = same

without_same : (o p : Option Draft) (who : ℕ) → IsSameDraft o p → IsSameDraft (without_own o who) (without_own p who)
without_same None None who same = tt
without_same None (Some e) who same = absurd same
without_same (Some d) None who same = absurd same
without_same (Some d) (Some e) who same = subst (λ (n : ℕ). IsSameDraft (without_own (Some d) who) (cond (n == who) None (Some e))) (sym same.0) (at (d.owner == who))
  where
    at : (b : Bool) → IsSameDraft (cond b None (Some d)) (cond b None (Some e))
    at true = tt
    at false = same

module _ (s t : State) (who : ℕ) (h : IsAlike s t) where
  pub same_own : is_some (own t who) ≡ is_some (own s who)
  same_own = some_same (own s who) (own t who) (own_same s.draft t.draft who h.drafts)

  pub same_seen : IsSameBook (seen s who) (seen t who)
  same_seen = or_same (own s who) (own t who) s.kept t.kept (own_same s.draft t.draft who h.drafts) h.kept

  pub same_inside : is_inside t who ≡ is_inside s who
  same_inside = ap (λ (l : List Bool). is_inside (record s { inside = l }) who) h.inside

  pub same_refused : (level : Level) → is_refused t.levels who level ≡ is_refused s.levels who level
  same_refused level = ap (λ (l : List Level). is_refused l who level) h.levels

  with_levels : (l m : List Level) → m ≡ l → IsAlike (record s { levels = l }) (record t { levels = m })
  with_levels l m is = record { kept = h.kept; drafts = h.drafts; levels = is; inside = h.inside; stopped = h.stopped; sure = h.sure; also = h.also }

  pub reached_same : (level : Level) → IsAlike (reached s who level) (reached t who level)
  reached_same level = subst (λ (b : Bool). IsAlike (reached s who level) (cond b (record t { levels = granted t.levels who level }) t)) (sym same_inside) (at (is_inside s who))
    where
      at : (b : Bool) → IsAlike (cond b (record s { levels = granted s.levels who level }) s) (cond b (record t { levels = granted t.levels who level }) t)
      at true = with_levels (granted s.levels who level) (granted t.levels who level) (ap (λ (l : List Level). granted l who level) h.levels)
      at false = h

  pub waiting_same : IsAlike (waiting s who) (waiting t who)
  waiting_same = with_levels (waiting s who).levels (waiting t who).levels (ap (λ (l : List Level). (waiting (record s { levels = l }) who).levels) h.levels)

  pub begun_same : IsAlike (begun s who) (begun t who)
  begun_same = record {
    kept = h.kept;
    drafts = h.drafts;
    levels = h.levels;
    inside = ap (λ (l : List Bool). (begun (record s { inside = l }) who).inside) h.inside;
    stopped = h.stopped;
    sure = h.sure;
    also = h.also;
  }

  pub ended_same : IsAlike (ended s who) (ended t who)
  ended_same = record {
    kept = h.kept;
    drafts = without_same s.draft t.draft who h.drafts;
    levels = ap (λ (l : List Level). (ended (record s { levels = l }) who).levels) h.levels;
    inside = ap (λ (l : List Bool). (ended (record s { inside = l }) who).inside) h.inside;
    stopped = h.stopped;
    sure = h.sure;
    also = h.also;
  }

  pub drafted_same : (a b : Book) → IsSameBook a b → IsAlike (drafted s who a) (drafted t who b)
  drafted_same a b same = record {
    kept = h.kept;
    drafts = (refl, same);
    levels = ap (λ (l : List Level). granted l who Reserved) h.levels;
    inside = h.inside;
    stopped = h.stopped;
    sure = h.sure;
    also = h.also;
  }

  pub committed_same : (a b : Book) → IsSameBook a b → IsAlike (committed s who a) (committed t who b)
  committed_same a b same = record {
    kept = commit_with s.kept t.kept a b h.kept same;
    drafts = ended_same.drafts;
    levels = ended_same.levels;
    inside = ended_same.inside;
    stopped = h.stopped;
    sure = h.sure;
    also = h.also;
  }

pub opened_same : (a b : Book) → IsSameBook a b → IsAlike (opened a) (opened b)
opened_same a b same = record { kept = same; drafts = tt; levels = refl; inside = refl; stopped = refl; sure = refl; also = refl }

-- ---- lists of cases

-- the same are due, with the same replies and states that are alike; what may come is free
abbrev pub Pairs : List Case → List Case → Type 0
Pairs [] [] = Unit {0}
Pairs (due h r s ∷ cs) (due h' r' s' ∷ ds) = (h' ≡ h) × (r' ≡ r) × IsAlike s s' × Pairs cs ds
Pairs (may h r s ∷ cs) (may h' r' s' ∷ ds) = (is_free r ≡ true) × (is_free r' ≡ true) × Pairs cs ds
Pairs [] (d ∷ ds) = ⊥
Pairs (c ∷ cs) [] = ⊥
Pairs (due h r s ∷ cs) (may h' r' s' ∷ ds) = ⊥
Pairs (may h r s ∷ cs) (due h' r' s' ∷ ds) = ⊥

pub record Agree (cs ds : List Case) : Type 0 where
  pub each : Pairs cs ds

pub at_end : Agree [] []
at_end = record { each = tt }

pub is_due : {h h' : Bool} {r r' : Reply} {s s' : State} {cs ds : List Case} → h' ≡ h → r' ≡ r → IsAlike s s' → Agree cs ds → Agree (due h r s ∷ cs) (due h' r' s' ∷ ds)
is_due holds same alike rest = record { each = (holds, same, alike, rest.each) }

pub may_be : {h h' : Bool} {r r' : Reply} {s s' : State} {cs ds : List Case} → is_free r ≡ true → is_free r' ≡ true → Agree cs ds → Agree (may h r s ∷ cs) (may h' r' s' ∷ ds)
may_be free free' rest = record { each = (free, free', rest.each) }

free_not : {A : Type 0} (r answer : Reply) → is_free r ≡ true → answer ≡ r → is_free answer ≡ false → A
free_not r answer free is bound = absurd (let e : true ≡ false = sym free ∙ (ap is_free (sym is) ∙ bound) in cc)

pub agree : (cs ds : List Case) (answer answer' : Reply) (next next' : State) → Pairs cs ds → Allows cs answer next → Allows ds answer' next' → is_free answer ≡ false →
    is_free answer' ≡ false → (answer' ≡ answer) × IsAlike next next'
agree [] [] answer answer' next next' same allowed allowed' bound bound' = absurd allowed
agree [] (d ∷ ds) answer answer' next next' same allowed allowed' bound bound' = absurd same
agree (c ∷ cs) [] answer answer' next next' same allowed allowed' bound bound' = absurd same
agree (due h r s ∷ cs) (may h' r' s' ∷ ds) answer answer' next next' same allowed allowed' bound bound' = absurd same
agree (may h r s ∷ cs) (due h' r' s' ∷ ds) answer answer' next next' same allowed allowed' bound bound' = absurd same
agree (due true r s ∷ cs) (due true r' s' ∷ ds) answer answer' next next' same allowed allowed' bound bound' =
    (allowed'.0 ∙ (same.1 ∙ sym allowed.0), subst (λ (n : State). IsAlike n next') (sym allowed.1) (subst (λ (n : State). IsAlike s n) (sym allowed'.1) same.2))
agree (due false r s ∷ cs) (due false r' s' ∷ ds) answer answer' next next' same allowed allowed' bound bound' = agree cs ds answer answer' next next' same.3 allowed allowed' bound bound'
agree (due true r s ∷ cs) (due false r' s' ∷ ds) answer answer' next next' same allowed allowed' bound bound' = absurd (let e = same.0 in cc)
agree (due false r s ∷ cs) (due true r' s' ∷ ds) answer answer' next next' same allowed allowed' bound bound' = absurd (let e = same.0 in cc)
agree (may h r s ∷ cs) (may h' r' s' ∷ ds) answer answer' next next' same allowed allowed' bound bound' = elim allowed [
  | inl here ↦ free_not r answer same.0 here.1 bound
  | inr rest ↦ (elim allowed' [
    | inl here ↦ free_not r' answer' same.1 here.1 bound'
    | inr rest' ↦ agree cs ds answer answer' next next' same.2 rest rest' bound bound'
  ])
]

-- ---- the parts that several commands share

module _ (s t : State) (who : ℕ) (h : IsAlike s t) where
  pub asked_same : {cs ds : List Case} → Agree cs ds → Agree (asked s cs) (asked t ds)
  asked_same rest = is_due h.stopped refl h (may_be refl refl rest)

  pub reading_same : {cs ds : List Case} → Agree cs ds → Agree (reading s who cs) (reading t who ds)
  reading_same rest = is_due (same_refused s t who h Shared) refl h (may_be refl refl rest)

  pub writing_same : {cs ds : List Case} → Agree cs ds → Agree (writing s who cs) (writing t who ds)
  writing_same rest = reading_same (is_due (same_refused s t who h Reserved) refl h rest)

  pub committing_same : (a b : Book) (worn worn' busy busy' : State) (said said' : Reply) → IsSameBook a b → IsAlike worn worn' → IsAlike busy busy' → said' ≡ said →
      Agree (committing s who a worn busy said) (committing t who b worn' busy' said')
  committing_same a b worn worn' busy busy' said said' same at_worn at_busy is =
      is_due (ap (λ (n : ℕ). n == 4294967295) h.kept.counter) refl at_worn
      (is_due (same_refused s t who h Exclusive) refl at_busy (may_be refl refl (may_be refl refl (is_due refl is (committed_same s t who h a b same) at_end))))

  pub changing_same : (a b : Book) (said said' : Reply) → IsSameBook a b → said' ≡ said → Agree (changing s who a said) (changing t who b said')
  changing_same a b said said' same is =
      may_be refl refl (is_due (same_inside s t who h) is (drafted_same s t who h a b same) (committing_same a b s t s t said said' same h h is))

pub looking_same : {cs ds : List Case} (after after' : State) (a b : Book) (name : Name) → IsAlike after after' → IsSameBook a b → Agree cs ds →
    Agree (looking after a name cs) (looking after' b name ds)
looking_same after after' a b name alike same rest =
    is_due (ap (λ (p : Bool). not p && not (is_foreign b name)) (same_plain a b same name) ∙ ap (λ (f : Bool). not (is_plain a name) && not f) (same_foreign a b same name)) refl alike
    (is_due (same_foreign a b same name) refl alike rest)
