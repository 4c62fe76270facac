-- A put that is refused as too large.
use Rattle.std.proofs.Common.{◌≡◌, inl, inr, ℕ, ◌+◌, ◌-◌, ◌*◌, ◌≤◌, ◌<◌, ℤ, ◌<ℤ◌, ◌≤ℤ◌, List, length, drop, Option, None, Some, IsTrue, refl, sym, ap, subst, arith}
use Rattle.db_format.specs.Spill.{local_size}
use Rattle.db_format.specs.Header.{greatest_length}
use Rattle.db_format.specs.declared.fault.SpaceFault.{SpaceFault}
use Rattle.db_format.specs.declared.fault.SpaceFault.TheVariants.{Failed, Memory, Bad, Corrupt, Large}
use Rattle.page_list.specs.Pages.{Pages}
use Rattle.page_list.specs.Freelist.{first_trunk}
use Rattle.page_list.specs.Chain.{pages_needed}
use Rattle.page_list.specs.Edits.{after_takes}
use Rattle.page_pool.specs.Space.{SpaceState}
use Rattle.payload_chain.specs.Chains.{midway, StopsTaking, WriteRefused}
use Rattle.tree_model.specs.Whole.{below_all, greatest}
use Rattle.tree_page.specs.declared.cell.LeafCell.{LeafCell}
use Rattle.tree_plan.specs.Plan.{IsLeafPlan}
use Rattle.tree_put.specs.Large.{PutStops, PutMayBeLarge}
use Rattle.tree_search.specs.declared.path.Descent.{Descent}
use Rattle.tree_search.specs.Search.{Descends}
use Rattle.rowid_tree.specs.Steps.{rest_part, CellRefused, PlaceRefused, StopsClimbing, FreeingRefused}
use Rattle.rowid_tree.specs.Puts.{StopsAtCell, StopsAtLeaf, StopsAtChain, PutRefused, IsTooLarge, MayBeLarge}
use Rattle.rowid_tree.proofs.WholeLemmas.{chained}

-- so many pages were taken, and the next take was refused as too large
pub record StopsAtLarge (s : SpaceState) (needed n : ℕ) : Type 0 where
  pub count : ℕ
  pub fewer : count < needed
  pub stopped : Pages
  pub pages_are : stopped ≡ after_takes s.page_size count s.pages
  pub none_free : first_trunk stopped ≡ 0
  pub few : stopped.size * s.page_size ≤ greatest_length
  pub next : n ≡ stopped.size + 1
  pub passes : greatest_length < n * s.page_size

pub stops_at : (s new : SpaceState) (needed n : ℕ) → IsTrue s.tells → StopsTaking s new needed (Large n) → StopsAtLarge s needed n
stops_at s new needed n told stops =
    let refused = stops.refused in
    record {
      count = stops.count;
      fewer = stops.fewer;
      stopped = stops.met.pages;
      pages_are = stops.took.pages_are told;
      none_free = (refused.3 told).1;
      few = stops.took.steady.sizes.few;
      next = refused.2;
      passes = (let e = ap (λ k. k * s.page_size) refused.2 in omega (arith, e, refused.1));
    }

write_stops : (s new : SpaceState) (rest : List ℕ) (n : ℕ) → IsTrue s.tells → WriteRefused s new rest (Large n) → StopsAtLarge s (pages_needed s.pages.usable (length rest)) n
write_stops s new rest n told (inl stops) = stops_at s new (pages_needed s.pages.usable (length rest)) n told stops
write_stops s new rest n told (inr stops) = absurd stops.refused

pub not_memory : (n : ℕ) → Large n ≡ Memory → ⊥
not_memory n is = cc

cell_stops : (s new : SpaceState) (payload : List ℕ) (n : ℕ) → IsTrue s.tells → CellRefused s new payload (Large n)
    → StopsAtLarge s (pages_needed s.pages.usable (length (rest_part s.pages.usable payload))) n
cell_stops s new payload n told (inl none) = absurd (not_memory n none.0)
cell_stops s new payload n told (inr some) = write_stops s new (rest_part s.pages.usable payload) n told some.1

place_stops : (s new : SpaceState) (descent : Descent) (cell : LeafCell) (n : ℕ) → PlaceRefused s new descent cell (Large n) → StopsClimbing s new descent cell (Large n)
place_stops s new descent cell n (inl none) = absurd (not_memory n none.0)
place_stops s new descent cell n (inr (inl stops)) = stops
place_stops s new descent cell n (inr (inr stops)) = absurd stops.refused

is_large : PutMayBeLarge → (s : SpaceState) (needed n root : ℕ) (old : Pages) (key : ℤ) (payload : List ℕ) (at : StopsAtLarge s needed n)
    → PutStops s.page_size old at.stopped root key payload → IsTooLarge old root key payload s.page_size n
is_large law s needed n root old key payload at stops =
    let P : ℕ → Type 0 = λ k. k * s.page_size ≤ greatest_length in
    let before : n - 1 ≡ at.stopped.size = omega (arith, at.next) in
    record {
      passes = at.passes;
      least = subst P (sym before) at.few;
      within = λ roots before behind tree trunks whole is.
          let bound = law s.page_size old at.stopped root key payload roots before behind tree trunks stops whole is in omega (arith, at.next, bound);
    }

at_cell : PutMayBeLarge → (old new : SpaceState) (root : ℕ) (key : ℤ) (payload : List ℕ) (n : ℕ) → IsTrue old.tells → StopsAtCell old new root key payload (Large n)
    → IsTooLarge old.pages root key payload old.page_size n
at_cell law old new root key payload n told stop =
    let s : SpaceState = midway old stop.searched in
    let way = stop.way in
    let at = cell_stops s new payload n told stop.refused in
    let P : Pages → Type 0 = λ p. IsTooLarge p root key payload old.page_size n in
    subst P (way.stays.pages_stay told)
    (is_large law s _ n root s.pages key payload at (record {
      size_of_page = way.steady.sizes.size_of_page;
      spare = way.steady.sizes.spare;
      sized = way.steady.sizes.each told;
      few = at.few;
      none_free = at.none_free;
      needs = inl (record { count = at.count; fewer = at.fewer; pages_are = at.pages_are });
    }))

at_leaf : PutMayBeLarge → (old new : SpaceState) (root : ℕ) (key : ℤ) (payload : List ℕ) (n : ℕ) → IsTrue old.tells → below_all <ℤ key → key ≤ℤ greatest
    → StopsAtLeaf old new root key payload (Large n) → IsTooLarge old.pages root key payload old.page_size n
at_leaf law old new root key payload n told above below stop =
    let searched : Pages = stop.before.searched.pages in
    let s : SpaceState = midway old stop.written in
    let way = stop.before.way in
    let wrote = stop.before.wrote in
    let climb = place_stops s new stop.descent stop.cell n stop.refused in
    let at = stops_at s new _ n told climb.refused in
    let is : searched ≡ old.pages = way.stays.pages_stay told in
    let D : Pages → Type 0 = λ p. Descends p key root stop.descent.levels.items stop.descent.leaf stop.descent.cells in
    let L : ℕ → Type 0 = λ u. IsLeafPlan stop.descent.leaf u stop.descent.cells stop.cell climb.plan in
    let P : Pages → Type 0 = λ p. IsTooLarge p root key payload old.page_size n in
    subst P is
    (is_large law s _ n root searched key payload at (record {
      size_of_page = way.steady.sizes.size_of_page;
      spare = way.steady.sizes.spare;
      sized = way.steady.sizes.each told;
      few = at.few;
      none_free = at.none_free;
      needs = inr (record {
        above = above;
        below = below;
        levels = stop.descent.levels.items;
        leaf = stop.descent.leaf;
        cells = stop.descent.cells;
        descends = subst D (sym is) (way.found told);
        chained = stop.written.pages;
        first = stop.cell.overflow;
        chain = chained (midway old stop.before.searched) s (drop (local_size searched.usable (length payload)) payload) stop.cell.overflow told wrote.rest;
        chain_sized = wrote.steady.sizes.each told;
        cell = stop.cell;
        cell_of = record { keyed = wrote.keyed; long = wrote.long; keeps = wrote.keeps; begins = refl };
        plan = climb.plan;
        planned = subst L wrote.steady.used climb.planned;
        count = at.count;
        fewer = omega (arith, at.fewer);
        pages_are = at.pages_are;
      });
    }))

at_chain : (old new : SpaceState) (root : ℕ) (key : ℤ) (payload : List ℕ) (n : ℕ) → StopsAtChain old new root key payload (Large n) → ⊥
at_chain old new root key payload n stop = freed (midway old stop.placed) new stop.was n stop.refused
  where
    freed : (s new : SpaceState) (was : Option LeafCell) (n : ℕ) → FreeingRefused s new was (Large n) → ⊥
    freed s new None n refused = refused
    freed s new (Some cell) n (inl read) = read.1
    freed s new (Some cell) n (inr stops) = stops.refused

pub may_be_large : PutMayBeLarge → (old new : SpaceState) (root : ℕ) (key : ℤ) (payload : List ℕ) (fault : SpaceFault) → IsTrue old.tells → below_all <ℤ key
    → key ≤ℤ greatest → PutRefused old new root key payload fault → MayBeLarge old.pages root key payload old.page_size fault
may_be_large law old new root key payload Failed told above below refused = tt
may_be_large law old new root key payload Memory told above below refused = tt
may_be_large law old new root key payload (Bad page kept found) told above below refused = tt
may_be_large law old new root key payload (Corrupt page) told above below refused = tt
may_be_large law old new root key payload (Large n) told above below (inl search) = absurd search.1
may_be_large law old new root key payload (Large n) told above below (inr (inl stop)) = at_cell law old new root key payload n told stop
may_be_large law old new root key payload (Large n) told above below (inr (inr (inl stop))) = at_leaf law old new root key payload n told above below stop
may_be_large law old new root key payload (Large n) told above below (inr (inr (inr stop))) = absurd (at_chain old new root key payload n stop)
