-- A walk along a chain: what holds while it goes on, why it is refused, and what it has come over at its end.
use Rattle.std.proofs.Common.{◌≡◌, ◌≢◌, inl, inr, ℕ, ◌+◌, ◌-◌, ◌*◌, ◌≤◌, ◌<◌, nat_lt, true, false, cond, replicate, List, [], ◌∷◌, ◌++◌, length, take, drop, sym, ap, ◌∙◌, subst, arith, length-append, length-drop, IsTrue}
use Rattle.std.proofs.lemmas.Bool.Decides.{nat_tests}
use Rattle.std.proofs.lemmas.List.{take-append-le, length-take-le, length-replicate}
use Rattle.std.specs.List.{flat_map}
use Rattle.std.specs.Ordering.{nat_cmp}
use Rattle.std.specs.BTreeMap.{is_at}
use Rattle.std.specs.BTreeSet.{BTreeSet, contains, Updates}
use Rattle.byte_base.specs.Numbers.{number_at}
use Rattle.page_list.specs.Pages.{Pages, HasPage, times}
use Rattle.page_list.specs.Chain.{HasWalked, pages_needed, piece, holder}
use Rattle.page_list.proofs.ChainLemmas.{times-append, same_or_other, walked-more, holder-more, among-more, among-here, among-cons}
use Rattle.page_pool.specs.Space.{SpaceState, HasSizes, Steady, Stays}
use Rattle.payload_chain.specs.Chains.{ReadRefused, HasEach, HasPages}
use Rattle.payload_chain.specs.Steps.{HasMet, StepsOn, StepRefused}
use Rattle.payload_chain.specs.declared.walk.Walk.{Walk}
use Rattle.payload_chain.proofs.StateLemmas.{steady-on, stays-on, rose-on, page-later}
use Rattle.payload_chain.proofs.CountLemmas.{needed_enough}
use Rattle.db_format.specs.declared.fault.SpaceFault.{SpaceFault}
use Rattle.db_format.specs.declared.fault.SpaceFault.TheVariants.{Failed, Memory, Bad, Corrupt, Large}

-- the set has one number more, as the list has
at_same : (x q : ℕ) → x ≡ q → is_at (nat_cmp x) q ≡ true
at_same x q same = grind (arith, nat_tests)

at_other : (x q : ℕ) → x ≢ q → is_at (nat_cmp x) q ≡ false
at_other x q other = grind (arith, nat_tests)

above_none : (n m : ℕ) → n ≡ m + 1 → nat_lt 0 n ≡ true
above_none n m is = grind (arith, nat_tests)

pub met-more : (met now : BTreeSet ℕ) (numbers : List ℕ) (x : ℕ) → HasMet met numbers → Updates nat_cmp met now x true
    → HasMet now (numbers ++ x ∷ [])
met-more met now numbers x has updates = record {
  each = λ q. elim (same_or_other q x) as (λ _. contains nat_cmp now q ≡ nat_lt 0 (times q (numbers ++ x ∷ []))) [
    | inl same ↦
        let joined = times-append q numbers (x ∷ []) in let one = same.1 in
        updates.0 q ∙ ap (λ b. cond b true (contains nat_cmp met q)) (at_same x q same.0)
        ∙ sym (above_none (times q (numbers ++ x ∷ [])) (times q numbers) (omega arith))
    | inr other ↦
        let joined = times-append q numbers (x ∷ []) in let none = other.1 in
        let as_many : times q numbers ≡ times q (numbers ++ x ∷ []) = omega arith in
        updates.0 q ∙ ap (λ b. cond b true (contains nat_cmp met q)) (at_other x q other.0)
        ∙ has.each q ∙ ap (λ n. nat_lt 0 n) as_many
  ];
}

pub each-more : (pages : Pages) (numbers : List ℕ) (next : ℕ) → HasEach pages numbers → HasPage pages next → HasEach pages (numbers ++ next ∷ [])
each-more pages numbers next has there = record {
  each = λ n among. elim (among-more n next numbers among) as (λ _. HasPage pages n) [
    | inl before ↦ has.each n before
    | inr same ↦ let P : ℕ → Type 0 = λ m. HasPage pages m in subst P same there
  ];
}

-- what holds while a walk goes on: from a state to the one now, over so many pages
pub record WalksAlong (old now : SpaceState) (first count : ℕ) (walk : Walk) : Type 0 where
  pub steady : Steady old now
  pub stays : Stays old now
  pub met_are : HasMet walk.met walk.numbers.items
  pub as_many : length walk.numbers.items ≡ count
  pub there : HasEach old.pages walk.numbers.items
  pub held : walk.holder ≡ holder first walk.numbers.items
  pub walked : IsTrue old.tells → HasWalked old.pages first walk.numbers.items walk.next

pub walks-on : {old now new : SpaceState} {first count : ℕ} {walk after : Walk} {page : List ℕ} → WalksAlong old now first count walk
    → Steady now new → Stays now new → StepsOn now walk after page → WalksAlong old new first (count + 1) after
walks-on {old = old} {first = first} {walk = walk} along steady stays steps =
    let grow = steps.numbers_grow in
    let there = page-later _ old.pages walk.next (omega (arith, along.stays.number)) steps.there in
    record {
      steady = steady-on along.steady steady;
      stays = stays-on along.steady along.stays stays;
      met_are = steps.met_too;
      as_many = ap (λ l. length l) grow ∙ length-append walk.numbers.items (walk.next ∷ []) ∙ ap (λ n. n + 1) along.as_many;
      there = rw grow (each-more old.pages walk.numbers.items walk.next along.there there);
      held = steps.holds ∙ sym (holder-more first walk.next walk.numbers.items) ∙ ap (λ l. holder first l) (sym grow);
      walked = λ t.
          let told = along.steady.told ∙ t in
          let same = along.stays.pages_stay t in
          let next_was = steps.next_is ∙ ap (λ b. number_at 4 b 0) (steps.holds_page told ∙ ap (λ p. p.bytes walk.next) same) in
          rw (grow, next_was) (walked-more old.pages first walk.next walk.numbers.items (along.walked t) there
          (ap (λ p. p.bad walk.next) (sym same) ∙ steps.good told) steps.again);
    }

-- why a walk is refused
pub walk-refused : {old now new : SpaceState} {first count : ℕ} {walk : Walk} (len : ℕ) (fault : SpaceFault) → WalksAlong old now first count walk
    → Steady now new → count < pages_needed old.pages.usable len → StepRefused now new walk fault → ReadRefused old new first len fault
walk-refused {old = old} {now = now} {new = new} len Failed along steady fewer cause = rose-on old.faults now.faults new.faults along.steady.counted cause
walk-refused len Memory along steady fewer cause = tt
walk-refused {old = old} {first = first} {walk = walk} len (Bad page kept found) along steady fewer cause =
    λ t. record {
      numbers = walk.numbers.items;
      walked = rw cause.0 (along.walked t);
      needed = omega (arith, along.as_many);
      there = page-later _ old.pages page (omega (arith, along.stays.number)) cause.1;
      again = cause.2;
      fails = ap (λ p. p.bad page) (sym (along.stays.pages_stay t)) ∙ cause.3 (along.steady.told ∙ t);
    }
walk-refused {old = old} {now = now} {walk = walk} len (Corrupt page) along steady fewer cause =
    λ t. record {
      numbers = walk.numbers.items;
      next = walk.next;
      walked = along.walked t;
      why = inl (
        omega (arith, along.as_many),
        elim cause [
          | inl leaves ↦ inl ((λ there. leaves.0 (page-later old.pages now.pages walk.next (omega (arith, along.stays.number)) there)), leaves.1 ∙ along.held)
          | inr again ↦ inr again
        ],
      );
    }
walk-refused len (Large pages) along steady fewer cause = absurd cause

-- the chain goes on behind the pages that it needs
pub late-refused : {old now : SpaceState} {first count : ℕ} {walk : Walk} (len : ℕ) (fault : SpaceFault) → WalksAlong old now first count walk
    → count ≡ pages_needed old.pages.usable len → (fault ≡ Corrupt walk.holder) × (walk.next ≢ 0) → ReadRefused old now first len fault
late-refused {old = old} {now = now} {first = first} {walk = walk} len fault along enough late =
    let P : SpaceFault → Type 0 = λ f. ReadRefused old now first len f in
    subst P (sym late.0) (λ t. record {
      numbers = walk.numbers.items;
      next = walk.next;
      walked = along.walked t;
      why = inr (along.as_many ∙ enough, late.1, along.held);
    })

-- the pieces of the pages are full
pub piece-long : (pages : Pages) (n : ℕ) → 4 ≤ pages.usable → pages.usable ≤ length (pages.bytes n) → length (piece pages n) ≡ pages.usable - 4
piece-long pages n least most = length-take-le (pages.usable - 4) (drop 4 (pages.bytes n)) (omega (arith, length-drop 4 (pages.bytes n)))

pub pieces-long : (s : SpaceState) (numbers : List ℕ) → HasSizes s → IsTrue s.tells → HasEach s.pages numbers
    → length (flat_map (piece s.pages) numbers) ≡ (s.pages.usable - 4) * length numbers
pieces-long s [] sizes t has = omega arith
pieces-long s (n ∷ more) sizes t has =
    let least = sizes.least in
    let most = sizes.most in
    let sized = (sizes.each t).each n (has.each n (among-here n more)) in
    let first = piece-long s.pages n (omega arith) (omega (arith, sized)) in
    let rest = pieces-long s more sizes t (record { each = λ m among. has.each m (among-cons m n more among) }) in
    let joined = length-append (piece s.pages n) (flat_map (piece s.pages) more) in
    omega arith

-- a walk that ends where it should has come over the chain
pub walk-ends : {old now : SpaceState} {first count : ℕ} {walk : Walk} (len : ℕ) → HasSizes old → WalksAlong old now first count walk
    → count ≡ pages_needed old.pages.usable len → walk.next ≡ 0 → HasPages old first len walk.numbers.items
walk-ends {old = old} {walk = walk} len sizes along enough ends =
    let numbers : List ℕ = walk.numbers.items in
    let bytes : List ℕ = flat_map (piece old.pages) numbers in
    let long : length (take len (bytes ++ replicate len 0)) ≡ len =
    length-take-le len (bytes ++ replicate len 0) (omega (arith, length-append bytes (replicate len 0), length-replicate {A = ℕ} len 0)) in
    let least = sizes.least in
    let many : length numbers ≡ pages_needed old.pages.usable len = along.as_many ∙ enough in
    record {
      there = along.there;
      enough = many;
      payload = take len (bytes ++ replicate len 0);
      long = long;
      chain = λ t.
          let whole : (old.pages.usable - 4) * length numbers ≡ (old.pages.usable - 4) * pages_needed old.pages.usable len = ap (λ n. (old.pages.usable - 4) * n) many in
          let full : len ≤ length bytes = omega (arith, pieces-long old numbers sizes t along.there, needed_enough old.pages.usable len (omega arith)) in
          record {
            walked = rw (← ends) (along.walked t);
            enough = many ∙ ap (λ n. pages_needed old.pages.usable n) (sym long);
            holds = take-append-le len bytes (replicate len 0) full ∙ ap (λ n. take n bytes) (sym long);
          };
    }
