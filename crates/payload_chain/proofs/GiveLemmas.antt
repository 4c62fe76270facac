-- Pages that are given, one after the other.
use Rattle.std.proofs.Common.{◌≡◌, ℕ, ◌+◌, ◌<◌, List, [], ◌∷◌, ◌++◌, length, take, drop, slice_index, refl, sym, ap, ◌∙◌, subst, arith, append_assoc}
use Rattle.std.proofs.lemmas.List.{take_more, take-append-drop}
use Rattle.page_list.specs.Pages.{Pages, IsGood, Among}
use Rattle.page_list.specs.Freelist.{HasHead}
use Rattle.page_list.specs.Edits.{after_give, after_gives}
use Rattle.page_list.proofs.ChainLemmas.{among-here, among-back}
use Rattle.page_pool.specs.Space.{SpaceState, Steady, Stays}
use Rattle.page_pool.specs.Pool.{HasNoRoom, Given, GiveRefused}
use Rattle.payload_chain.specs.Chains.{midway, MayGiveEach, HasPages, GaveEach, GaveAll, StopsGivingEach, Freed, StopsFreeing}
use Rattle.payload_chain.proofs.StateLemmas.{here, steady-on, steady-here, stays-here, at_same}
use Rattle.payload_chain.proofs.CountLemmas.{needed-some}
use Rattle.db_format.specs.declared.fault.SpaceFault.{SpaceFault}
use Rattle.db_format.specs.declared.fault.SpaceFault.TheVariants.{Failed, Memory, Bad, Corrupt, Large}

-- the front of a list goes on by its next number
pub split_at : (i : ℕ) (l : List ℕ) → i < length l → l ≡ take i l ++ slice_index l i ∷ drop (i + 1) l
split_at i l below =
    sym (take-append-drop (i + 1) l) ∙ ap (λ m. m ++ drop (i + 1) l) (take_more l i 0 below)
    ∙ append_assoc (take i l) (slice_index l i ∷ []) (drop (i + 1) l)

pub among_at : (i : ℕ) (l : List ℕ) → i < length l → Among l (slice_index l i)
among_at i l below =
    let x : ℕ = slice_index l i in
    let P : List ℕ → Type 0 = λ m. Among m x in
    subst P (sym (split_at i l below)) (among-back x (take i l) (x ∷ drop (i + 1) l) (among-here x (drop (i + 1) l)))

-- one page more is given
gives-more : (page_size x : ℕ) (numbers : List ℕ) (pages : Pages)
    → after_gives page_size (numbers ++ x ∷ []) pages ≡ after_give page_size x (after_gives page_size numbers pages)
gives-more page_size x [] pages = refl
gives-more page_size x (n ∷ more) pages = gives-more page_size x more (after_give page_size n pages)

may-more : (page_size x : ℕ) (numbers : List ℕ) (pages : Pages) → MayGiveEach page_size numbers pages → HasHead (after_gives page_size numbers pages)
    → (HasNoRoom (after_gives page_size numbers pages) → IsGood (after_gives page_size numbers pages) x) → MayGiveEach page_size (numbers ++ x ∷ []) pages
may-more page_size x [] pages may head good = (head, good, tt)
may-more page_size x (n ∷ more) pages may head good = (may.0, may.1, may-more page_size x more (after_give page_size n pages) may.2 head good)

pub gave-more : {old now new : SpaceState} {numbers : List ℕ} {x : ℕ} → GaveEach old now numbers → Steady now new → Given now new x → GaveEach old new (numbers ++ x ∷ [])
gave-more {old = old} {numbers = numbers} {x = x} gave steady given = record {
  steady = steady-on gave.steady steady;
  size = given.size ∙ gave.size;
  may = λ t.
      let told = gave.steady.told ∙ t in
      let P : Pages → Type 0 = λ p. HasHead p × (HasNoRoom p → IsGood p x) in
      let asked = subst P (gave.pages_are t) (given.head told, given.good told) in
      may-more old.page_size x numbers old.pages (gave.may t) asked.0 asked.1;
  pages_are = λ t.
      given.pages_are (gave.steady.told ∙ t) ∙ (λ i. after_give (gave.steady.sized i) x (gave.pages_are t i)) ∙ sym (gives-more old.page_size x numbers old.pages);
}

-- pages given later, where nothing had changed before
pub gave-later : {old mid new : SpaceState} {numbers : List ℕ} → Steady old mid → Stays old mid → GaveEach mid new numbers → GaveEach old new numbers
gave-later {numbers = numbers} steady stays gave = record {
  steady = steady-on steady gave.steady;
  size = gave.size ∙ stays.number;
  may = λ t. at_same (λ n p. MayGiveEach n numbers p) steady.sized (stays.pages_stay t) (gave.may (steady.told ∙ t));
  pages_are = λ t. gave.pages_are (steady.told ∙ t) ∙ (λ i. after_gives (steady.sized i) numbers (stays.pages_stay t i));
}

-- what is said of a state is said of it as a state midway
gave-here : {a b : SpaceState} {numbers : List ℕ} → GaveEach a b numbers → GaveEach a (midway a (here b)) numbers
gave-here gave = record { steady = steady-here gave.steady; size = gave.size; may = gave.may; pages_are = gave.pages_are }

refused-here : {a b : SpaceState} (c : SpaceState) (x : ℕ) (fault : SpaceFault) → Steady a b → GiveRefused b c x fault → GiveRefused (midway a (here b)) c x fault
refused-here c x Failed s r = (r.0, record { size = r.1.size; only = λ t. r.1.only (s.told ∙ t) })
refused-here c x Memory s r = record { size = r.size; only = λ t. r.only (s.told ∙ t) }
refused-here c x (Bad page kept found) s r = record {
  size = r.size;
  stays = λ t. stays-here s (r.stays (s.told ∙ t));
  fails = λ t. r.fails (s.told ∙ t);
  asks = λ t. r.asks (s.told ∙ t);
}
refused-here c x (Corrupt page) s r = (stays-here s r.0, λ t. r.1 (s.told ∙ t))
refused-here c x (Large pages) s r = absurd r

pub stops-giving : {old now : SpaceState} (new : SpaceState) (numbers : List ℕ) (i : ℕ) (fault : SpaceFault) → i < length numbers → GaveEach old now (take i numbers)
    → GiveRefused now new (slice_index numbers i) fault → StopsGivingEach old new numbers fault
stops-giving {now = now} new numbers i fault below gave refused = record {
  given = take i numbers;
  number = slice_index numbers i;
  more = drop (i + 1) numbers;
  are = split_at i numbers below;
  met = here now;
  gave = gave-here gave;
  refused = refused-here new (slice_index numbers i) fault gave.steady refused;
}

-- a chain that was walked, and then given
pub freed : {old mid new : SpaceState} {first len : ℕ} {numbers : List ℕ} → Steady old mid → Stays old mid → HasPages old first len numbers → GaveAll mid new numbers
    → Freed old new first len
freed {old = old} {len = len} {numbers = numbers} steady stays has gave = record {
  numbers = numbers;
  payload = has.payload;
  chain = has.chain;
  long = has.long;
  gave = gave-later steady stays gave.gave;
  change = λ some. gave.change (let least = steady.sizes.least in omega (arith, has.enough, steady.used, needed-some old.pages.usable len (omega arith) some));
}

pub stops-later : {old mid new : SpaceState} {numbers : List ℕ} (fault : SpaceFault) → Steady old mid → Stays old mid → StopsGivingEach mid new numbers fault
    → StopsGivingEach old new numbers fault
stops-later {mid = mid} {new = new} fault steady stays stops =
    let gave = gave-later steady stays stops.gave in
    record {
      given = stops.given;
      number = stops.number;
      more = stops.more;
      are = stops.are;
      met = here (midway mid stops.met);
      gave = gave-here gave;
      refused = refused-here new stops.number fault gave.steady stops.refused;
    }

pub stops-freeing : {old mid new : SpaceState} {first len : ℕ} {numbers : List ℕ} (fault : SpaceFault) → Steady old mid → Stays old mid → HasPages old first len numbers
    → StopsGivingEach mid new numbers fault → StopsFreeing old new first len fault
stops-freeing fault steady stays has stops =
    let later = stops-later fault steady stays stops in
    record {
      given = later.given;
      number = later.number;
      more = later.more;
      payload = has.payload;
      chain = λ t. rw later.are at (has.chain t);
      long = has.long;
      met = later.met;
      gave = later.gave;
      refused = later.refused;
    }
