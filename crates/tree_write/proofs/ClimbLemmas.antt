-- A climb from the leaf up to the root.
use Rattle.std.proofs.Common.{◌≡◌, inl, inr, ℕ, ◌+◌, ◌≤◌, List, [], ◌∷◌, ◌++◌, length, reverse, IsTrue, Some, None, Option, refl, sym, ap, subst, ◌∙◌, arith, append_assoc, append-nil, length-append}
use Rattle.std.proofs.lemmas.List.{reverse-append}
use Rattle.std.specs.List.{AllByRecursion}
use Rattle.page_list.specs.Edits.{taken_numbers, after_takes}
use Rattle.page_pool.specs.Space.{SpaceState, HasSizes}
use Rattle.page_pool.specs.Pool.{NotesChange}
use Rattle.payload_chain.specs.Chains.{TookEach}
use Rattle.payload_chain.proofs.StateLemmas.{stays-same}
use Rattle.payload_chain.proofs.TakeLemmas.{took-none}
use Rattle.db_format.specs.declared.fault.SpaceFault.{SpaceFault}
use Rattle.tree_page.specs.declared.cell.PageCells.{PageCells}
use Rattle.tree_page.specs.declared.cell.PageCells.TheVariants.{Leaf, Interior}
use Rattle.tree_model.specs.declared.level.Level.{Level}
use Rattle.page_cut.specs.declared.parts.Sheet.{Sheet}
use Rattle.page_cut.specs.declared.parts.Sheets.{Sheets}
use Rattle.page_cut.specs.Cut.{IsCut, AreFew}
use Rattle.tree_level.specs.Level.{numbers}
use Rattle.tree_plan.specs.Plan.{IsInnerPlan}
use Rattle.tree_plan.specs.Climb.{on, Settles, RootSettles, AreClimbed}
use Rattle.tree_write.specs.Climb.{MayClimb, IsPlanOf, Climbed, spare, ClimbRefused}
use Rattle.tree_write.specs.Steps.{IsNext, StepsUp, RootSettled}
use Rattle.tree_write.proofs.WriteLemmas.{noted-on}
use Rattle.tree_write.proofs.TakesLemmas.{numbers-on, took-on, stops-on}

-- how many parts a page has before its last one

few-parts : (usable : ℕ) (front : List Sheet) (whole : PageCells) → AreFew usable front whole → length front ≤ 2
few-parts usable front (Interior cells right) few = omega (arith, few)
few-parts usable front (Leaf cells) (inl one) = omega (arith, one)
few-parts usable front (Leaf cells) (inr (inl two)) = omega (arith, two.0)
few-parts usable front (Leaf cells) (inr (inr none)) = omega (arith, none.0)

pub plan-few : (number usable : ℕ) (plan : Sheets) → IsPlanOf number usable plan → length plan.front.items ≤ 2
plan-few number usable plan is = of is.cut
  where
    of : IsCut number usable is.whole plan → length plan.front.items ≤ 2
    of (inl fits) = omega (arith, ap (λ (l : List Sheet). length l) fits.none)
    of (inr cut) = few-parts usable plan.front.items is.whole cut.few

inner-few : (usable : ℕ) (level : Level) (front : List Sheet) (next : Sheets) → IsInnerPlan usable level front next → length next.front.items ≤ 1
inner-few usable level front next (inl fits) = omega (arith, ap (λ (l : List Sheet). length l) fits.none)
inner-few usable level front next (inr cut) = omega (arith, cut.few)

-- what holds on the way: so many pages are taken, and what comes of the pages above, with what there is, is what comes of all
pub record ClimbsAlong (old now : SpaceState) (leaf : ℕ) (plan : Sheets) (all left : List Level) (number : ℕ) (sheets : Sheets) (out : List Sheet) : Type 0 where
  pub count : ℕ
  pub took : TookEach old now count
  pub noted : NotesChange old now
  pub short : length sheets.front.items ≤ 2
  pub plan_short : length plan.front.items ≤ 2
  pub few : count + length sheets.front.items + length left ≤ length plan.front.items + length all
  pub each : AllByRecursion (MayClimb old.pages.usable) left
  pub rest : IsTrue old.tells → (more : List ℕ) (others : List Sheet) → AreClimbed old.pages.usable number sheets (reverse left) more others
      → AreClimbed old.pages.usable leaf plan (reverse all) (taken_numbers old.page_size count old.pages ++ more) (out ++ others)

pub climbs-begin : (old : SpaceState) (leaf : ℕ) (plan : Sheets) (all : List Level) → HasSizes old → IsPlanOf leaf old.pages.usable plan
    → AllByRecursion (MayClimb old.pages.usable) all → ClimbsAlong old old leaf plan all all leaf plan []
climbs-begin old leaf plan all sizes is each =
    let short = plan-few leaf old.pages.usable plan is in
    record {
      count = 0;
      took = (took-none sizes).took;
      noted = inr stays-same;
      short = short;
      plan_short = short;
      few = omega arith;
      each = each;
      rest = λ t more others climbed. climbed;
    }

all-front : {A : Type 0} (P : A → Type 0) (xs : List A) (x : A) → AllByRecursion P (xs ++ x ∷ []) → AllByRecursion P xs
all-front P [] x all = tt
all-front P (y ∷ ys) x all = (all.0, all-front P ys x all.1)

-- the numbers of one step more
numbers-next : {old now : SpaceState} {count : ℕ} (more : ℕ) → TookEach old now count → IsTrue old.tells
    → taken_numbers old.page_size (count + more) old.pages ≡ taken_numbers old.page_size count old.pages ++ taken_numbers now.page_size more now.pages
numbers-next {old = old} {now = now} {count = count} more took t =
    numbers-on old.page_size count more old.pages
    ∙ ap (λ l. taken_numbers old.page_size count old.pages ++ l)
    ((λ i. taken_numbers (sym took.steady.sized i) more (after_takes old.page_size count old.pages)) ∙ (λ i. taken_numbers now.page_size more (sym (took.pages_are t) i)))

-- one page is settled, and what comes of the one above it is known
step-rest : {old now new : SpaceState} {leaf : ℕ} {plan : Sheets} {all left : List Level} {number : ℕ} {sheets : Sheets} {out : List Sheet}
    (left' : List Level) (level : Level) (out' : List Sheet) (next : Option Sheets) (along : ClimbsAlong old now leaf plan all left number sheets out) → left ≡ left' ++ level ∷ []
    → (steps : StepsUp now new number now.pages.usable sheets level out out' next) → IsTrue old.tells → (more : List ℕ) (others : List Sheet)
    → ((settles : Settles number sheets steps.front (numbers steps.front ++ more) more (steps.front ++ (on number sheets.last ∷ others)) others)
    → AreClimbed old.pages.usable number sheets (level ∷ reverse left') (numbers steps.front ++ more) (steps.front ++ (on number sheets.last ∷ others)))
    → AreClimbed old.pages.usable leaf plan (reverse all) (taken_numbers old.page_size (along.count + length sheets.front.items) old.pages ++ more) (out' ++ others)
step-rest {old = old} {now = now} {leaf = leaf} {plan = plan} {all = all} {left = left} {number = number} {sheets = sheets} {out = out} left' level out' next along pop steps t more others climbed =
    let front = steps.front in
    let one : List Sheet = on number sheets.last ∷ [] in
    let back : reverse left ≡ level ∷ reverse left' = ap reverse pop ∙ reverse-append left' (level ∷ []) in
    let L : List Level → Type 0 = λ l. AreClimbed old.pages.usable number sheets l (numbers front ++ more) (front ++ (on number sheets.last ∷ others)) in
    let above = climbed (record { numbered = steps.placed.numbered; taken_are = refl; out_are = refl }) in
    let all_climbed = along.rest t (numbers front ++ more) (front ++ (on number sheets.last ∷ others)) (subst L (sym back) above) in
    let was : List ℕ = taken_numbers old.page_size along.count old.pages in
    let taken_is : was ++ (numbers front ++ more) ≡ taken_numbers old.page_size (along.count + length sheets.front.items) old.pages ++ more =
    sym (append_assoc was (numbers front) more)
    ∙ ap (λ l. l ++ more) (ap (λ l. was ++ l) (steps.placed.are (along.took.steady.told ∙ t)) ∙ sym (numbers-next (length sheets.front.items) along.took t)) in
    let out_is : out ++ (front ++ (on number sheets.last ∷ others)) ≡ out' ++ others =
    ap (λ (l : List Sheet). out ++ l) (sym (append_assoc front one others)) ∙ sym (append_assoc out (front ++ one) others) ∙ ap (λ (l : List Sheet). l ++ others) (sym steps.behind) in
    let P : List ℕ → Type 0 = λ l. AreClimbed old.pages.usable leaf plan (reverse all) l (out ++ (front ++ (on number sheets.last ∷ others))) in
    let Q : List Sheet → Type 0 =
    λ l. AreClimbed old.pages.usable leaf plan (reverse all) (taken_numbers old.page_size (along.count + length sheets.front.items) old.pages ++ more) l in
    subst Q out_is (subst P taken_is all_climbed)

pub climbs-on : {old now : SpaceState} {leaf : ℕ} {plan : Sheets} {all left : List Level} {number : ℕ} {sheets : Sheets} {out : List Sheet}
    (new : SpaceState) (left' : List Level) (level : Level) (out' : List Sheet) (next : Sheets) → ClimbsAlong old now leaf plan all left number sheets out → left ≡ left' ++ level ∷ []
    → NotesChange now new → StepsUp now new number now.pages.usable sheets level out out' (Some next) → ClimbsAlong old new leaf plan all left' level.number next out'
climbs-on {old = old} {now = now} {left = left} {sheets = sheets} new left' level out' next along pop noted steps =
    let P : List Level → Type 0 = λ l. AllByRecursion (MayClimb old.pages.usable) l in
    let Q : ℕ → Type 0 = λ u. IsInnerPlan u level steps.front next in
    let used = along.took.steady.used in
    let plan_is = subst Q used steps.next_is.2 in
    let few = inner-few old.pages.usable level steps.front next plan_is in
    let long : length left ≡ length left' + 1 = ap (λ (l : List Level). length l) pop ∙ length-append left' (level ∷ []) in
    record {
      count = along.count + length sheets.front.items;
      took = took-on along.took steps.placed.took;
      noted = noted-on along.took.steady along.noted noted;
      short = omega (arith, few);
      plan_short = along.plan_short;
      few = omega (arith, few, long, along.few);
      each = all-front (MayClimb old.pages.usable) left' level (subst P pop along.each);
      rest = λ t more others climbed.
          step-rest left' level out' (Some next) along pop steps t more others
          (λ settles. (steps.front, more, others, settles, inr (inr (steps.next_is.0, steps.next_is.1, (next, plan_is, climbed)))));
    }

-- no cell comes up, or it has no place
ends : (usable number : ℕ) (sheets : Sheets) (level : Level) (above : List Level) (front : List Sheet) → IsNext usable level front None
    → Settles number sheets front (numbers front ++ []) [] (front ++ (on number sheets.last ∷ [])) []
    → AreClimbed usable number sheets (level ∷ above) (numbers front ++ []) (front ++ (on number sheets.last ∷ []))
ends usable number sheets level above front (inl none) settles = (front, [], [], settles, inl (none, refl, refl))
ends usable number sheets level above front (inr no_place) settles = (front, [], [], settles, inr (inl (no_place.0, no_place.1, refl, refl)))

pub climbs-end : {old now : SpaceState} {leaf : ℕ} {plan : Sheets} {all left : List Level} {number : ℕ} {sheets : Sheets} {out : List Sheet}
    (new : SpaceState) (left' : List Level) (level : Level) (out' : List Sheet) → ClimbsAlong old now leaf plan all left number sheets out → left ≡ left' ++ level ∷ []
    → StepsUp now new number now.pages.usable sheets level out out' None → Climbed old new leaf plan all out'
climbs-end {old = old} {now = now} {leaf = leaf} {plan = plan} {all = all} {number = number} {sheets = sheets} new left' level out' along pop steps = record {
  count = along.count + length sheets.front.items;
  few = omega (arith, along.few, along.plan_short);
  took = took-on along.took steps.placed.took;
  are = λ t.
      let P : List ℕ → Type 0 = λ l. AreClimbed old.pages.usable leaf plan (reverse all) l out' in
      let Q : List Sheet → Type 0 = λ l. AreClimbed old.pages.usable leaf plan (reverse all) (taken_numbers old.page_size (along.count + length sheets.front.items) old.pages ++ []) l in
      let U : ℕ → Type 0 = λ u. IsNext u level steps.front None in
      subst P (append-nil _) (subst Q (append-nil out') (step-rest left' level out' None along pop steps t [] [] (ends old.pages.usable number sheets level (reverse left') steps.front
      (subst U along.took.steady.used steps.next_is))));
}

-- the root is settled
pub climbs-top : {old now : SpaceState} {leaf : ℕ} {plan : Sheets} {all left : List Level} {number : ℕ} {sheets : Sheets} {out : List Sheet}
    (new : SpaceState) (out' : List Sheet) → ClimbsAlong old now leaf plan all left number sheets out → left ≡ []
    → RootSettled now new number now.pages.usable sheets out out' → Climbed old new leaf plan all out'
climbs-top {old = old} {now = now} {leaf = leaf} {plan = plan} {all = all} {number = number} {sheets = sheets} {out = out} new out' along none root =
    let used = along.took.steady.used in
    record {
      count = along.count + root.count;
      few = omega (arith, along.few, along.plan_short, root.few);
      took = took-on along.took root.took;
      are = λ t.
          let told = along.took.steady.told ∙ t in
          let taken : List ℕ = taken_numbers now.page_size root.count now.pages in
          let U : ℕ → Type 0 = λ u. RootSettles u number sheets taken root.others in
          let L : List Level → Type 0 = λ l. AreClimbed old.pages.usable number sheets l taken root.others in
          let P : List ℕ → Type 0 = λ l. AreClimbed old.pages.usable leaf plan (reverse all) l (out ++ root.others) in
          let Q : List Sheet → Type 0 = λ l. AreClimbed old.pages.usable leaf plan (reverse all) (taken_numbers old.page_size (along.count + root.count) old.pages) l in
          subst Q (sym root.behind) (subst P (sym (numbers-next root.count along.took t))
          (along.rest t taken root.others (subst L (sym (ap reverse none)) (subst U used (root.are told)))));
    }

-- a step is refused
pub climb-stops : {old now : SpaceState} {leaf : ℕ} {plan : Sheets} {all left : List Level} {number : ℕ} {sheets : Sheets} {out : List Sheet}
    (new : SpaceState) (needed : ℕ) (fault : SpaceFault) → ClimbsAlong old now leaf plan all left number sheets out → ClimbRefused now new needed fault
    → needed ≤ length sheets.front.items + 1 → ClimbRefused old new (length plan.front.items + length all + 1) fault
climb-stops {plan = plan} {all = all} new needed fault along stops few =
    stops-on new (length plan.front.items + length all + 1 + spare fault) fault along.took stops (omega (arith, along.few, few))
