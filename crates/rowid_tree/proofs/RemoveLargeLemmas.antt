-- A removal that is refused as too large.
use Rattle.std.proofs.Common.{inl, inr, ◌≡◌, ℕ, ◌+◌, ◌*◌, ◌-◌, ◌≤◌, ℤ, ◌<ℤ◌, ◌≤ℤ◌, List, length, Option, Some, None, IsTrue, sym, subst, arith}
use Rattle.db_format.specs.Header.{greatest_length}
use Rattle.db_format.specs.declared.fault.SpaceFault.{SpaceFault}
use Rattle.db_format.specs.declared.fault.SpaceFault.TheVariants.{Failed, Memory, Bad, Corrupt, Large}
use Rattle.page_pool.specs.Space.{SpaceState, HasSizes}
use Rattle.payload_chain.specs.Chains.{midway, FreeRefused}
use Rattle.tree_model.specs.Whole.{below_all, greatest}
use Rattle.tree_write.specs.Climb.{spare}
use Rattle.tree_remove.specs.Shrink.{ShrinkRefused, TakingRefused}
use Rattle.tree_remove.specs.Remove.{StopsShrinking, StopsSettling, TakeOverRefused, GivingRefused, RemoveRefused}
use Rattle.tree_removed.specs.Large.{RemovalStops, RemoveMayBeLarge}
use Rattle.rowid_tree.specs.Removes.{IsTooLargeWithout, MayBeLargeWithout}
use Rattle.rowid_tree.proofs.LargeLemmas.{stops_at, not_memory}

-- what comes behind the takes is not refused as too large

over_not_large : (old new : SpaceState) (root : ℕ) (over : Option ℕ) (n : ℕ) → TakeOverRefused old new root over (Large n) → ⊥
over_not_large old new root None n refused = refused
over_not_large old new root (Some child) n (inl meets) = meets.1
over_not_large old new root (Some child) n (inr top) = top.root_refused.refused

give_not_large : (old new : SpaceState) (numbers : List ℕ) (n : ℕ) → GivingRefused old new numbers (Large n) → ⊥
give_not_large old new numbers n (inl none) = not_memory n none.0
give_not_large old new numbers n (inr stops) = stops.refused

settle_not_large : (old new : SpaceState) (root : ℕ) (key : ℤ) (n : ℕ) → StopsSettling old new root key (Large n) → ⊥
settle_not_large old new root key n stop = elim stop.refused [
  | inl writing ↦ writing.refused
  | inr behind ↦ (elim behind [
    | inl taking ↦ over_not_large (midway (midway old stop.grown) taking.written) new root stop.shrunk.over n taking.refused
    | inr giving ↦ give_not_large (midway (midway old stop.grown) giving.topped) new _ n giving.refused
  ])
]

free_not_large : (old new : SpaceState) (first len n : ℕ) → FreeRefused old new first len (Large n) → ⊥
free_not_large old new first len n (inl read) = read.1
free_not_large old new first len n (inr stops) = stops.refused

-- so many pages were taken as a removal may take
taking : RemoveMayBeLarge → (old new : SpaceState) (root : ℕ) (key : ℤ) (n : ℕ) → IsTrue old.tells → HasSizes old → below_all <ℤ key → key ≤ℤ greatest
    → (stop : StopsShrinking old new root key (Large n)) → TakingRefused old new stop.descent.levels.items (Large n) → IsTooLargeWithout old.pages root key old.page_size n
taking law old new root key n told sizes above below stop refused =
    let at = stops_at old new (length stop.descent.levels.items + 2 * spare (Large n)) n told refused in
    let P : ℕ → Type 0 = λ k. k * old.page_size ≤ greatest_length in
    let before : n - 1 ≡ at.stopped.size = omega (arith, at.next) in
    let stops : RemovalStops old.page_size old.pages at.stopped root key = record {
      size_of_page = sizes.size_of_page;
      spare = sizes.spare;
      sized = sizes.each told;
      few = at.few;
      none_free = at.none_free;
      above = above;
      below = below;
      levels = stop.descent.levels.items;
      leaf = stop.descent.leaf;
      cells = stop.descent.cells;
      descends = stop.found told;
      count = at.count;
      fewer = omega (arith, at.fewer);
      pages_are = at.pages_are;
    } in
    record {
      passes = at.passes;
      least = subst P (sym before) at.few;
      within = λ roots before behind tree trunks whole is.
          let bound = law old.page_size old.pages at.stopped root key roots before behind tree trunks stops whole is in omega (arith, at.next, bound);
    }

shrinking : RemoveMayBeLarge → (old new : SpaceState) (root : ℕ) (key : ℤ) (n : ℕ) → IsTrue old.tells → HasSizes old → below_all <ℤ key → key ≤ℤ greatest
    → (stop : StopsShrinking old new root key (Large n)) → ShrinkRefused old new stop.descent.levels.items (Large n) → IsTooLargeWithout old.pages root key old.page_size n
shrinking law old new root key n told sizes above below stop (inl meets) = absurd meets.1
shrinking law old new root key n told sizes above below stop (inr refused) = taking law old new root key n told sizes above below stop refused

pub may_be_large_without : RemoveMayBeLarge → (old new : SpaceState) (root : ℕ) (key : ℤ) (fault : SpaceFault) → IsTrue old.tells → HasSizes old → below_all <ℤ key
    → key ≤ℤ greatest → RemoveRefused old new root key fault → MayBeLargeWithout old.pages root key old.page_size fault
may_be_large_without law old new root key Failed told sizes above below refused = tt
may_be_large_without law old new root key Memory told sizes above below refused = tt
may_be_large_without law old new root key (Bad page kept found) told sizes above below refused = tt
may_be_large_without law old new root key (Corrupt page) told sizes above below refused = tt
may_be_large_without law old new root key (Large n) told sizes above below (inl search) = absurd search.1
may_be_large_without law old new root key (Large n) told sizes above below (inr (inl stop)) = shrinking law old new root key n told sizes above below stop stop.refused
may_be_large_without law old new root key (Large n) told sizes above below (inr (inr (inl stop))) = absurd (settle_not_large old new root key n stop)
may_be_large_without law old new root key (Large n) told sizes above below (inr (inr (inr stop))) = absurd (free_not_large (midway old stop.settled) new _ _ n stop.refused)
