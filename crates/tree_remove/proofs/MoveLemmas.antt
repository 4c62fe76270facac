-- A step from one state to the next, said of these states as states midway from another.
use Rattle.std.proofs.Common.{◌≡◌, inl, inr, ℕ, List, Ok, Err, Result, refl, sym, ◌∙◌}
use Rattle.page_list.specs.Edits.{after_takes, after_gives}
use Rattle.page_pool.specs.Space.{SpaceState, Steady, Stays}
use Rattle.page_pool.specs.Pool.{TakeRefused, GiveRefused}
use Rattle.payload_chain.specs.Chains.{Midway, midway, MayTakeEach, TookEach, StopsTaking, PutRefused, MayGiveEach, GaveEach, StopsGivingEach, ReadRefused, FreeRefused}
use Rattle.payload_chain.proofs.StateLemmas.{here, at_same}
use Rattle.db_format.specs.declared.fault.SpaceFault.{SpaceFault}
use Rattle.db_format.specs.declared.fault.SpaceFault.TheVariants.{Failed, Memory, Bad, Corrupt, Large}
use Rattle.page_cut.specs.declared.parts.Sheet.{Sheet}
use Rattle.tree_write.specs.Write.{WriteLeaves}

-- the state b is one of a run that began at a, and a' one to which the run leads
pub record Moved (a b a' : SpaceState) : Type 0 where
  pub told : b.tells ≡ a.tells
  pub sized : b.page_size ≡ a.page_size
  pub told_on : a'.tells ≡ a.tells
  pub sized_on : a'.page_size ≡ a.page_size
  pub ready : a.ready → a'.ready
  pub writable : a.writable → a'.writable

pub moved-midway : {a b : SpaceState} → Steady a b → Moved a b a
moved-midway s = record { told = s.told; sized = s.sized; told_on = refl; sized_on = refl; ready = λ h. h; writable = λ h. h }

pub moved-to : {a b c : SpaceState} → Steady a b → Steady a c → Moved a b c
moved-to s e = record { told = s.told; sized = s.sized; told_on = e.told; sized_on = e.sized; ready = e.is_ready; writable = e.is_writable }

pub within : {a b a' : SpaceState} (met : Midway) → Moved a b a' → Moved a (midway b met) a'
within met m = record { told = m.told; sized = m.sized; told_on = m.told_on; sized_on = m.sized_on; ready = m.ready; writable = m.writable }

pub back : {a b a' : SpaceState} → Moved a b a' → Moved a b a
back m = record { told = m.told; sized = m.sized; told_on = refl; sized_on = refl; ready = λ h. h; writable = λ h. h }

pub steady-moved : {a b a' c : SpaceState} → Moved a b a' → Steady b c → Steady (midway a (here b)) (midway a' (here c))
steady-moved {a' = a'} {c = c} m s =
    let z = s.sizes in
    let e : c.page_size ≡ a'.page_size = s.sized ∙ m.sized ∙ sym m.sized_on in
    record {
      told = m.told_on;
      sized = m.sized_on;
      used = s.used;
      is_ready = m.ready;
      is_writable = m.writable;
      counted = s.counted;
      sizes = record {
        size_of_page = rw e at z.size_of_page;
        least = z.least;
        most = rw e at z.most;
        spare = rw e at z.spare;
        few = rw e at z.few;
        each = λ t. rw e at (z.each (s.told ∙ m.told ∙ sym m.told_on ∙ t));
      };
    }

pub stays-moved : {a b a' c : SpaceState} → Moved a b a' → Stays b c → Stays (midway a (here b)) (midway a' (here c))
stays-moved m s = record { number = s.number; change = s.change; pages_stay = λ t. s.pages_stay (m.told ∙ t) }

pub took-moved : {a b a' c : SpaceState} (count : ℕ) → Moved a b a' → TookEach b c count → TookEach (midway a (here b)) (midway a' (here c)) count
took-moved {b = b} {c = c} count m took = record {
  steady = steady-moved m took.steady;
  no_fewer = took.no_fewer;
  no_more = took.no_more;
  may = λ t. at_same (λ k p. MayTakeEach k count p) m.sized refl (took.may (m.told ∙ t));
  pages_are = λ t. at_same (λ k p. c.pages ≡ after_takes k count p) m.sized refl (took.pages_are (m.told ∙ t));
}

-- pages taken, and why no more were

pub take_refused-moved : {a b a' : SpaceState} (c : SpaceState) (fault : SpaceFault) → Moved a b a' → TakeRefused b c fault → TakeRefused (midway a (here b)) (midway a' (here c)) fault
take_refused-moved c Failed m r = (r.0, record { size = r.1.size; only = λ t. r.1.only (m.told ∙ t) })
take_refused-moved c Memory m r = record { size = r.size; only = λ t. r.only (m.told ∙ t) }
take_refused-moved c (Bad page kept found) m r = record {
  size = r.size;
  stays = λ t. stays-moved m (r.stays (m.told ∙ t));
  fails = λ t. r.fails (m.told ∙ t);
  asks = λ t. r.asks (m.told ∙ t);
}
take_refused-moved c (Corrupt page) m r = (stays-moved m r.0, λ t. r.1 (m.told ∙ t))
take_refused-moved c (Large pages) m r = let large = r.1 in let e = m.sized in (stays-moved m r.0, rw e at large, r.2, λ t. r.3 (m.told ∙ t))

pub stops_taking-moved : {a b a' : SpaceState} (c : SpaceState) (needed : ℕ) (fault : SpaceFault) → Moved a b a' → StopsTaking b c needed fault
    → StopsTaking (midway a (here b)) (midway a' (here c)) needed fault
stops_taking-moved c needed fault m stops = record {
  count = stops.count;
  fewer = stops.fewer;
  met = stops.met;
  took = took-moved stops.count (back m) stops.took;
  refused = take_refused-moved c fault (within stops.met m) stops.refused;
}

-- pages put

pub put_refused-moved : {a b a' : SpaceState} (c : SpaceState) (numbers : List ℕ) (fault : SpaceFault) → Moved a b a' → PutRefused b c numbers fault
    → PutRefused (midway a (here b)) (midway a' (here c)) numbers fault
put_refused-moved c numbers Failed m r = r
put_refused-moved c numbers Memory m r = tt
put_refused-moved c numbers (Bad page kept found) m r = λ t. r (m.told ∙ t)
put_refused-moved c numbers (Corrupt page) m r = absurd r
put_refused-moved c numbers (Large pages) m r = absurd r

-- sheets written

pub leaves-moved : {a b a' : SpaceState} (c : SpaceState) (sheets : List Sheet) (result : Result Unit SpaceFault) → Moved a b a' → WriteLeaves b c sheets result
    → WriteLeaves (midway a (here b)) (midway a' (here c)) sheets result
leaves-moved c sheets (Ok u) m leaves = λ t. leaves (m.told ∙ t)
leaves-moved c sheets (Err fault) m leaves = λ t. leaves (m.told ∙ t)

-- pages given back, and a chain

pub gave-moved : {a b a' : SpaceState} (c : SpaceState) (numbers : List ℕ) → Moved a b a' → GaveEach b c numbers → GaveEach (midway a (here b)) (midway a' (here c)) numbers
gave-moved c numbers m gave = record {
  steady = steady-moved m gave.steady;
  size = gave.size;
  may = λ t. at_same (λ k p. MayGiveEach k numbers p) m.sized refl (gave.may (m.told ∙ t));
  pages_are = λ t. at_same (λ k p. c.pages ≡ after_gives k numbers p) m.sized refl (gave.pages_are (m.told ∙ t));
}

pub give_refused-moved : {a b a' : SpaceState} (c : SpaceState) (number : ℕ) (fault : SpaceFault) → Moved a b a' → GiveRefused b c number fault
    → GiveRefused (midway a (here b)) (midway a' (here c)) number fault
give_refused-moved c number Failed m r = (r.0, record { size = r.1.size; only = λ t. r.1.only (m.told ∙ t) })
give_refused-moved c number Memory m r = record { size = r.size; only = λ t. r.only (m.told ∙ t) }
give_refused-moved c number (Bad page kept found) m r = record {
  size = r.size;
  stays = λ t. stays-moved m (r.stays (m.told ∙ t));
  fails = λ t. r.fails (m.told ∙ t);
  asks = λ t. r.asks (m.told ∙ t);
}
give_refused-moved c number (Corrupt page) m r = (stays-moved m r.0, λ t. r.1 (m.told ∙ t))
give_refused-moved c number (Large pages) m r = absurd r

pub read_refused-moved : {a b a' : SpaceState} (c : SpaceState) (first len : ℕ) (fault : SpaceFault) → Moved a b a' → ReadRefused b c first len fault
    → ReadRefused (midway a (here b)) (midway a' (here c)) first len fault
read_refused-moved c first len Failed m r = r
read_refused-moved c first len Memory m r = tt
read_refused-moved c first len (Bad page kept found) m r = λ t. r (m.told ∙ t)
read_refused-moved c first len (Corrupt page) m r = λ t. r (m.told ∙ t)
read_refused-moved c first len (Large pages) m r = absurd r

pub free_refused-moved : {a b a' : SpaceState} (c : SpaceState) (first len : ℕ) (fault : SpaceFault) → Moved a b a' → FreeRefused b c first len fault
    → FreeRefused (midway a (here b)) (midway a' (here c)) first len fault
free_refused-moved c first len fault m (inl read) = inl (stays-moved m read.0, read_refused-moved c first len fault m read.1)
free_refused-moved {b = b} c first len fault m (inr stops) = inr (record {
  given = stops.given;
  number = stops.number;
  more = stops.more;
  payload = stops.payload;
  chain = λ t. stops.chain (m.told ∙ t);
  long = stops.long;
  met = stops.met;
  gave = gave-moved (midway b stops.met) stops.given (back m) stops.gave;
  refused = give_refused-moved c stops.number fault (within stops.met m) stops.refused;
})

pub giving_refused-moved : {a b a' : SpaceState} (c : SpaceState) (numbers : List ℕ) (fault : SpaceFault) → Moved a b a' → StopsGivingEach b c numbers fault
    → StopsGivingEach (midway a (here b)) (midway a' (here c)) numbers fault
giving_refused-moved {b = b} c numbers fault m stops = record {
  given = stops.given;
  number = stops.number;
  more = stops.more;
  are = stops.are;
  met = stops.met;
  gave = gave-moved (midway b stops.met) stops.given (back m) stops.gave;
  refused = give_refused-moved c stops.number fault (within stops.met m) stops.refused;
}
