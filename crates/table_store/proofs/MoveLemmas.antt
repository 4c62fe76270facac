-- A put and a removal that come after reads, said of their states as states midway from the first.
use Rattle.std.proofs.Common.{inl, inr, ℕ, ℤ, Bool, List, Option, None, reverse, refl, subst, ◌∙◌}
use Rattle.page_list.specs.Edits.{taken_numbers}
use Rattle.page_pool.specs.Space.{SpaceState, Stays}
use Rattle.payload_chain.specs.Chains.{Midway, midway}
use Rattle.payload_chain.proofs.StateLemmas.{here, at_same}
use Rattle.db_format.specs.declared.fault.SpaceFault.{SpaceFault}
use Rattle.db_format.specs.declared.fault.SpaceFault.TheVariants.{Failed, Memory, Bad, Corrupt, Large}
use Rattle.tree_page.specs.declared.cell.LeafCell.{LeafCell}
use Rattle.tree_model.specs.declared.ends.Fault.{Fault}
use Rattle.tree_model.specs.declared.ends.PathEnd.TheVariants.{Ends}
use Rattle.tree_model.specs.declared.level.Level.{Level}
use Rattle.tree_model.specs.Walk.{Path, rest_of}
use Rattle.tree_search.specs.declared.path.Descent.{Descent}
use Rattle.tree_search.specs.Search.{SearchRefused}
use Rattle.tree_join.specs.declared.leaf.Taken.{Taken}
use Rattle.tree_join.specs.declared.level.Left.{Left}
use Rattle.tree_remove.specs.Shrink.{AreShrunk, ShrunkTo, MeetsBeside, ShrinkRefused}
use Rattle.tree_remove.specs.Remove.{Settled, WayShrunk, RemoveRefused}
use Rattle.tree_remove.proofs.MoveLemmas.{Moved, within, back, steady-moved, stays-moved, took-moved, stops_taking-moved, free_refused-moved}
use Rattle.tree_remove.proofs.SettleLemmas.{settling-moved}
use Rattle.rowid_tree.specs.Puts.{WayFound, WroteCell, PlacedCell, PutDone, PutRefused}
use Rattle.rowid_tree.proofs.MoveLemmas.{cell-moved, cell_refused-moved, placed-moved, place_refused-moved, freed-moved, freeing_refused-moved}

pub search-moved : {a b a' : SpaceState} (c : SpaceState) (A : Fault → Type 0) (fault : SpaceFault) → Moved a b a' → SearchRefused b c A fault
    → SearchRefused (midway a (here b)) (midway a' (here c)) A fault
search-moved c A Failed m r = r
search-moved c A Memory m r = tt
search-moved c A (Bad page kept found) m r = (λ t. r.0 (m.told ∙ t), λ t. r.1 (m.told ∙ t))
search-moved c A (Corrupt page) m r = λ t. r (m.told ∙ t)
search-moved c A (Large pages) m r = absurd r

pub stays-met : {a b : SpaceState} → Stays a b → Stays a (midway a (here b))
stays-met s = record { number = s.number; change = s.change; pages_stay = s.pages_stay }

-- ---- a put

way-moved : {a b : SpaceState} {root : ℕ} {rowid : ℤ} {descent : Descent} (met : Midway) → Moved a b a → WayFound b (midway b met) root rowid descent
    → WayFound (midway a (here b)) (midway a met) root rowid descent
way-moved met m way = record { steady = steady-moved m way.steady; stays = stays-moved m way.stays; found = λ t. way.found (m.told ∙ t); sound = way.sound }

wrote-moved : {a b : SpaceState} {root : ℕ} {rowid : ℤ} {payload : List ℕ} {descent : Descent} {cell : LeafCell} (met : Midway) → Moved a b a
    → WroteCell b (midway b met) root rowid payload descent cell → WroteCell (midway a (here b)) (midway a met) root rowid payload descent cell
wrote-moved {b = b} {rowid = rowid} {payload = payload} {cell = cell} met m wrote = record {
  searched = wrote.searched;
  way = way-moved wrote.searched m wrote.way;
  wrote = cell-moved (midway b met) rowid payload cell (within wrote.searched m) wrote.wrote;
}

cell_in-moved : {a b : SpaceState} {root : ℕ} {rowid : ℤ} {payload : List ℕ} {was : Option LeafCell} (met : Midway) → Moved a b a
    → PlacedCell b (midway b met) root rowid payload was → PlacedCell (midway a (here b)) (midway a met) root rowid payload was
cell_in-moved {b = b} {was = was} met m p = record {
  descent = p.descent;
  cell = p.cell;
  written = p.written;
  before = wrote-moved p.written m p.before;
  placed = placed-moved (midway b met) p.descent p.cell was (within p.written m) p.placed;
}

pub done-moved : {a b a' c : SpaceState} {root : ℕ} {rowid : ℤ} {payload : List ℕ} {replaced : Bool} → Moved a b a' → PutDone b c root rowid payload replaced
    → PutDone (midway a (here b)) (midway a' (here c)) root rowid payload replaced
done-moved {c = c} m d = record {
  was = d.was;
  placed = d.placed;
  before = cell_in-moved d.placed (back m) d.before;
  steady = steady-moved (within d.placed m) d.steady;
  freed = freed-moved c d.was (within d.placed m) d.freed;
  noted = d.noted;
  told = d.told;
}

pub put_refused-moved : {a b c : SpaceState} (root : ℕ) (rowid : ℤ) (payload : List ℕ) (fault : SpaceFault) → Moved a b c → PutRefused b c root rowid payload fault
    → PutRefused (midway a (here b)) c root rowid payload fault
put_refused-moved {b = b} {c = c} root rowid payload fault m (inl none) =
    inl (stays-moved m none.0, search-moved c (λ f. Path None b.pages root rowid (Ends f)) fault m none.1)
put_refused-moved {c = c} root rowid payload fault m (inr (inl stops)) = inr (inl (record {
  descent = stops.descent;
  searched = stops.searched;
  way = way-moved stops.searched (back m) stops.way;
  refused = cell_refused-moved c payload fault (within stops.searched m) stops.refused;
}))
put_refused-moved {c = c} root rowid payload fault m (inr (inr (inl stops))) = inr (inr (inl (record {
  descent = stops.descent;
  cell = stops.cell;
  written = stops.written;
  before = wrote-moved stops.written (back m) stops.before;
  refused = place_refused-moved c stops.descent stops.cell fault (within stops.written m) stops.refused;
})))
put_refused-moved {c = c} root rowid payload fault m (inr (inr (inr stops))) = inr (inr (inr (record {
  was = stops.was;
  placed = stops.placed;
  before = cell_in-moved stops.placed (back m) stops.before;
  refused = freeing_refused-moved c stops.was fault (within stops.placed m) stops.refused;
})))

-- ---- a removal

shrunk_to-moved : {a b : SpaceState} (met : Midway) (number : ℕ) (left : Left) (levels : List Level) (shrunk : _) → Moved a b a
    → ShrunkTo b (midway b met) number left levels shrunk → ShrunkTo (midway a (here b)) (midway a met) number left levels shrunk
shrunk_to-moved {b = b} met number left levels shrunk m to = record {
  count = to.count;
  few = to.few;
  took = took-moved to.count m to.took;
  there = to.there;
  are = λ t. at_same (λ k p. AreShrunk b.pages number left (reverse levels) (taken_numbers k to.count p) shrunk.out.items shrunk.lost.items shrunk.over) m.sized refl (to.are (m.told ∙ t));
}

way_shrunk-moved : {a b : SpaceState} {root : ℕ} {rowid : ℤ} {taken : Taken} {shrunk : _} (met : Midway) → Moved a b a → WayShrunk b (midway b met) root rowid taken shrunk
    → WayShrunk (midway a (here b)) (midway a met) root rowid taken shrunk
way_shrunk-moved {shrunk = shrunk} met m w = record {
  descent = w.descent;
  found = λ t. w.found (m.told ∙ t);
  taken_is = w.taken_is;
  left = w.left;
  left_is = w.left_is;
  to = shrunk_to-moved met w.descent.leaf w.left w.descent.levels.items shrunk m w.to;
}

shrink_refused-moved : {a b a' : SpaceState} (c : SpaceState) (levels : List Level) (fault : SpaceFault) → Moved a b a' → ShrinkRefused b c levels fault
    → ShrinkRefused (midway a (here b)) (midway a' (here c)) levels fault
shrink_refused-moved {b = b} c levels fault m (inl meets) = inl (stays-moved m meets.0, search-moved c (MeetsBeside b.pages levels) fault m meets.1)
shrink_refused-moved c levels fault m (inr stops) = inr (stops_taking-moved c _ fault m stops)

pub remove_refused-moved : {a b c : SpaceState} (root : ℕ) (rowid : ℤ) (fault : SpaceFault) → Moved a b c → RemoveRefused b c root rowid fault
    → RemoveRefused (midway a (here b)) c root rowid fault
remove_refused-moved {b = b} {c = c} root rowid fault m (inl none) =
    inl (stays-moved m none.0, search-moved c (λ f. Path None b.pages root rowid (Ends f)) fault m none.1)
remove_refused-moved {c = c} root rowid fault m (inr (inl stops)) = inr (inl (record {
  descent = stops.descent;
  found = λ t. stops.found (m.told ∙ t);
  refused = shrink_refused-moved c stops.descent.levels.items fault m stops.refused;
}))
remove_refused-moved {c = c} root rowid fault m (inr (inr (inl stops))) = inr (inr (inl (record {
  taken = stops.taken;
  shrunk = stops.shrunk;
  grown = stops.grown;
  before = way_shrunk-moved stops.grown (back m) stops.before;
  refused = settling-moved c root stops.shrunk fault (within stops.grown m) stops.refused;
})))
remove_refused-moved {a = a} {b = b} {c = c} root rowid fault m (inr (inr (inr stops))) =
    let S : ℕ → Type 0 = λ k. Settled k stops.grown.pages stops.settled.pages root stops.shrunk in
    inr (inr (inr (record {
      taken = stops.taken;
      shrunk = stops.shrunk;
      grown = stops.grown;
      before = way_shrunk-moved stops.grown (back m) stops.before;
      settled = stops.settled;
      steady = steady-moved (back m) stops.steady;
      size = stops.size;
      done = λ t. subst S m.sized (stops.done (m.told ∙ t));
      refused = free_refused-moved c stops.taken.cell.overflow (rest_of stops.taken.cell) fault (within stops.settled m) stops.refused;
    })))
