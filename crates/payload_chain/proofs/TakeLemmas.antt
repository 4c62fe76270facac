-- Pages that are taken, one after the other.
use Rattle.std.proofs.Common.{◌≡◌, inl, inr, ℕ, zero, suc, ◌+◌, ◌≤◌, ◌<◌, List, [], ◌∷◌, ◌++◌, length, refl, sym, ap, ◌∙◌, subst, arith, add-one, length-append, IsTrue}
use Rattle.page_list.specs.Pages.{Pages, HasPage, IsGood, Among}
use Rattle.page_list.specs.Freelist.{HasHead}
use Rattle.page_list.specs.Chain.{pages_needed}
use Rattle.page_list.specs.Edits.{taken_number, after_take, taken_numbers, after_takes}
use Rattle.page_list.proofs.ChainLemmas.{among-here}
use Rattle.page_pool.specs.Space.{SpaceState, HasSizes, Steady}
use Rattle.page_pool.specs.Pool.{Grows, Taken, TakeRefused}
use Rattle.payload_chain.specs.Chains.{midway, MayTakeEach, TookEach, StopsTaking, StopsPutting, PutRefused, WriteRefused, Wrote, OnlyThese, first_of, with_chain, TookThese}
use Rattle.payload_chain.specs.Steps.{PutEach, StopsPuttingEach}
use Rattle.payload_chain.proofs.StateLemmas.{here, steady-same, steady-on, steady-here, stays-here, page-later, each-later, at_same}
use Rattle.payload_chain.proofs.WalkLemmas.{each-more}
use Rattle.db_format.specs.declared.fault.SpaceFault.{SpaceFault}
use Rattle.db_format.specs.declared.fault.SpaceFault.TheVariants.{Failed, Memory, Bad, Corrupt, Large}

-- one page more is taken
takes-more : (page_size count : ℕ) (pages : Pages) → after_takes page_size (suc count) pages ≡ after_take page_size (after_takes page_size count pages)
takes-more page_size zero pages = refl
takes-more page_size (suc count) pages = takes-more page_size count (after_take page_size pages)

numbers-more : (page_size count : ℕ) (pages : Pages)
    → taken_numbers page_size (suc count) pages ≡ taken_numbers page_size count pages ++ taken_number (after_takes page_size count pages) ∷ []
numbers-more page_size zero pages = refl
numbers-more page_size (suc count) pages = ap (λ l. taken_number pages ∷ l) (numbers-more page_size count (after_take page_size pages))

-- one page may be taken
MayTake : ℕ → Pages → Type 0
MayTake page_size pages = HasHead pages × HasPage (after_take page_size pages) (taken_number pages)

may-more : (page_size count : ℕ) (pages : Pages) → MayTakeEach page_size count pages → HasHead (after_takes page_size count pages)
    → HasPage (after_take page_size (after_takes page_size count pages)) (taken_number (after_takes page_size count pages)) → MayTakeEach page_size (suc count) pages
may-more page_size zero pages may head there = (head, there, tt)
may-more page_size (suc count) pages may head there = (may.0, may.1, may-more page_size count (after_take page_size pages) may.2 head there)

grew : (old new : SpaceState) → Grows old new → (old.pages.size ≤ new.pages.size) × (new.pages.size ≤ old.pages.size + 1)
grew old new (inl same) = (omega arith, omega arith)
grew old new (inr more) = (omega (arith, more.0), omega (arith, more.0))

pub took-more : {old now new : SpaceState} {count number : ℕ} → TookEach old now count → Steady now new → Taken now new number → TookEach old new (count + 1)
took-more {old = old} {now = now} {new = new} {count = count} {number = number} took steady taken =
    let size = grew now new taken.grows in
    let P : ℕ → Type 0 = λ k. TookEach old new k in
    subst P (sym (add-one count)) (record {
      steady = steady-on took.steady steady;
      no_fewer = omega (arith, took.no_fewer, size.0);
      no_more = omega (arith, took.no_more, size.1);
      may = λ t.
          let told = took.steady.told ∙ t in
          let P : ℕ → Pages → Type 0 = λ n p. HasPage (after_take n p) (taken_number p) in
          let there : HasPage (after_take now.page_size now.pages) (taken_number now.pages) =
          subst (λ (p : Pages). HasPage p (taken_number now.pages)) (taken.pages_are told) (subst (λ (n : ℕ). HasPage new.pages n) (taken.is told) taken.within) in
          may-more old.page_size count old.pages (took.may t) (subst (λ (p : Pages). HasHead p) (took.pages_are t) (taken.head told))
          (at_same P took.steady.sized (took.pages_are t) there);
      pages_are = λ t. taken.pages_are (took.steady.told ∙ t) ∙ (λ i. after_take (took.steady.sized i) (took.pages_are t i)) ∙ sym (takes-more old.page_size count old.pages);
    })

pub took-these-more : {old now new : SpaceState} {count number : ℕ} {numbers : List ℕ} → TookThese old now count numbers → Steady now new → Taken now new number
    → TookThese old new (count + 1) (numbers ++ number ∷ [])
took-these-more {old = old} {now = now} {new = new} {count = count} {number = number} {numbers = numbers} these steady taken =
    let size = grew now new taken.grows in
    record {
      took = took-more these.took steady taken;
      many = length-append numbers (number ∷ []) ∙ ap (λ n. n + 1) these.many;
      there = each-more new.pages numbers number (each-later now.pages new.pages numbers size.0 these.there) taken.within;
      are = λ t.
          let number_is : number ≡ taken_number (after_takes old.page_size count old.pages) = taken.is (these.took.steady.told ∙ t) ∙ ap (λ p. taken_number p) (these.took.pages_are t) in
          (λ i. these.are t i ++ number_is i ∷ []) ∙ sym (numbers-more old.page_size count old.pages) ∙ ap (λ n. taken_numbers old.page_size n old.pages) (sym (add-one count));
    }

-- what is said of a state is said of it as a state midway
took-here : {a b : SpaceState} {count : ℕ} → TookEach a b count → TookEach a (midway a (here b)) count
took-here took = record { steady = steady-here took.steady; no_fewer = took.no_fewer; no_more = took.no_more; may = took.may; pages_are = took.pages_are }

refused-here : {a b : SpaceState} (c : SpaceState) (fault : SpaceFault) → Steady a b → TakeRefused b c fault → TakeRefused (midway a (here b)) c fault
refused-here c Failed s r = (r.0, record { size = r.1.size; only = λ t. r.1.only (s.told ∙ t) })
refused-here c Memory s r = record { size = r.size; only = λ t. r.only (s.told ∙ t) }
refused-here c (Bad page kept found) s r = record {
  size = r.size;
  stays = λ t. stays-here s (r.stays (s.told ∙ t));
  fails = λ t. r.fails (s.told ∙ t);
  asks = λ t. r.asks (s.told ∙ t);
}
refused-here c (Corrupt page) s r = (stays-here s r.0, λ t. r.1 (s.told ∙ t))
refused-here c (Large pages) s r = let large = r.1 in let e = s.sized in (stays-here s r.0, rw e at large, r.2, λ t. r.3 (s.told ∙ t))

pub stops-taking : {old now : SpaceState} {count : ℕ} (new : SpaceState) (needed : ℕ) (fault : SpaceFault) → TookEach old now count → count < needed
    → TakeRefused now new fault → StopsTaking old new needed fault
stops-taking {now = now} {count = count} new needed fault took fewer refused = record {
  count = count;
  fewer = fewer;
  met = here now;
  took = took-here took;
  refused = refused-here new fault took.steady refused;
}

-- no page is taken yet
pub took-none : {old : SpaceState} → HasSizes old → TookThese old old 0 []
took-none {old = old} sizes = record {
  took = record { steady = steady-same sizes; no_fewer = omega arith; no_more = omega arith; may = λ t. tt; pages_are = λ t. refl };
  many = refl;
  there = record { each = λ n among. absurd (omega (arith, among)) };
  are = λ t. refl;
}

-- no memory for the numbers
pub stops-noting : {old : SpaceState} (needed : ℕ) → HasSizes old → 1 ≤ needed → StopsTaking old old needed Memory
stops-noting {old = old} needed sizes some =
    stops-taking old needed Memory (took-none sizes).took some
    (record { size = refl; only = λ t. record { size = refl; each = λ n a b. record { bytes_stay = refl; mark_stays = refl } } })

-- why a chain could not be written: pages could not be taken
pub write-refused : {old new : SpaceState} (needed : ℕ) (payload : List ℕ) (fault : SpaceFault) → needed ≡ pages_needed old.pages.usable (length payload)
    → StopsTaking old new needed fault → WriteRefused old new payload fault
write-refused {old = old} {new = new} needed payload fault is stops = let P : ℕ → Type 0 = λ n. StopsTaking old new n fault in inl (subst P is stops)

-- or one of them could not be put
put-here : {a b : SpaceState} (c : SpaceState) (numbers numbers' : List ℕ) (fault : SpaceFault) → Steady a b → (IsTrue a.tells → numbers ≡ numbers')
    → PutRefused b c numbers fault → PutRefused (midway a (here b)) c numbers' fault
put-here c numbers numbers' Failed s same r = r
put-here c numbers numbers' Memory s same r = tt
put-here c numbers numbers' (Bad page kept found) s same r = λ t.
    let P : List ℕ → Type 0 = λ l. Among l page in
    let was = r (s.told ∙ t) in (subst P (same t) was.0, was.1)
put-here c numbers numbers' (Corrupt page) s same r = absurd r
put-here c numbers numbers' (Large pages) s same r = absurd r

pub stops-writing : {old mid new : SpaceState} {needed : ℕ} {numbers : List ℕ} (payload : List ℕ) (fault : SpaceFault)
    → needed ≡ pages_needed old.pages.usable (length payload) → TookThese old mid needed numbers → StopsPuttingEach mid new numbers fault → WriteRefused old new payload fault
stops-writing {old = old} {mid = mid} {new = new} {needed = needed} {numbers = numbers} payload fault is these stops =
    let P : ℕ → Type 0 = λ n. StopsPutting old new n fault in
    inr (subst P is (record {
      met = here mid;
      took = took-here these.took;
      size = stops.size;
      only = λ t. let Q : List ℕ → Type 0 = λ l. OnlyThese mid.pages new.pages l in subst Q (these.are t) (stops.only (these.took.steady.told ∙ t));
      refused = put-here new numbers (taken_numbers old.page_size needed old.pages) fault these.took.steady these.are stops.refused;
    }))

-- pages were taken, and the chain put to them
first-among : (numbers : List ℕ) → 1 ≤ length numbers → Among numbers (first_of numbers)
first-among [] some = absurd (omega arith)
first-among (x ∷ more) some = among-here x more

first-taken : (page_size count : ℕ) (pages : Pages) → 1 ≤ count → first_of (taken_numbers page_size count pages) ≡ taken_number pages
first-taken page_size zero pages some = absurd (omega arith)
first-taken page_size (suc count) pages some = refl

pub wrote : {old mid new : SpaceState} {first needed : ℕ} {numbers payload : List ℕ} → needed ≡ pages_needed old.pages.usable (length payload) → 1 ≤ needed
    → TookThese old mid needed numbers → PutEach mid new numbers payload first → Wrote old new first payload
wrote {old = old} {mid = mid} {new = new} {first = first} {needed = needed} {numbers = numbers} {payload = payload} is some these put =
    let steady = these.took.steady in
    let all : ℕ = pages_needed old.pages.usable (length payload) in
    let P : ℕ → Type 0 = λ n. TookEach old (midway old (here mid)) n in
    let Q : ℕ → Type 0 = λ n. HasPage new.pages n in
    let are : IsTrue old.tells → numbers ≡ taken_numbers old.page_size all old.pages = λ t. these.are t ∙ ap (λ n. taken_numbers old.page_size n old.pages) is in
    record {
      met = here mid;
      took = subst P is (took-here these.took);
      size = put.size;
      change = put.change;
      within = subst Q (sym put.is) (page-later mid.pages new.pages (first_of numbers) (omega (arith, put.size))
          (these.there.each (first_of numbers) (first-among numbers (omega (arith, these.many)))));
      is = λ t. put.is ∙ ap (λ l. first_of l) (are t) ∙ first-taken old.page_size all old.pages (omega arith);
      good = λ t. let R : List ℕ → Type 0 = λ l. (n : ℕ) → Among l n → IsGood mid.pages n in subst R (are t) (put.good (steady.told ∙ t));
      pages_are = λ t. put.pages_are (steady.told ∙ t) ∙ (λ i. with_chain (steady.sized i) (are t i) payload mid.pages);
    }
