-- The steps of a put, said of their states as states midway from another.
use Rattle.std.proofs.Common.{◌≡◌, inl, inr, ◌+◌, List, length, Option, None, Some, ℕ, Ok, Err, refl, ◌∙◌}
use Rattle.page_list.specs.Pages.{Among, IsGood}
use Rattle.page_list.specs.Chain.{pages_needed}
use Rattle.page_list.specs.Edits.{taken_numbers}
use Rattle.page_pool.specs.Space.{SpaceState}
use Rattle.payload_chain.specs.Chains.{midway, Wrote, OnlyThese, PutRefused, WriteRefused, with_chain}
use Rattle.payload_chain.proofs.StateLemmas.{here, at_same}
use Rattle.db_format.specs.declared.fault.SpaceFault.{SpaceFault}
use Rattle.tree_page.specs.declared.cell.LeafCell.{LeafCell}
use Rattle.tree_model.specs.declared.level.Level.{Level}
use Rattle.page_cut.specs.declared.parts.Sheet.{Sheet}
use Rattle.page_cut.specs.declared.parts.Sheets.{Sheets}
use Rattle.tree_plan.specs.Climb.{AreClimbed}
use Rattle.std.specs.Prelude.{reverse}
use Rattle.tree_search.specs.declared.path.Descent.{Descent}
use Rattle.tree_write.specs.Climb.{spare, Climbed}
use Rattle.tree_remove.proofs.MoveLemmas.{Moved, within, back, steady-moved, stays-moved, took-moved, stops_taking-moved, put_refused-moved, leaves-moved, gave-moved, free_refused-moved}
use Rattle.rowid_tree.specs.Steps.{RestWritten, CellWritten, CellRefused, CellPlaced, PlaceRefused, ReplacedFreed, FreeingRefused}

-- a chain written

pub wrote-moved : {a b a' : SpaceState} (c : SpaceState) (first : ℕ) (payload : List ℕ) → Moved a b a' → Wrote b c first payload
    → Wrote (midway a (here b)) (midway a' (here c)) first payload
wrote-moved {b = b} c first payload m w =
    let count : ℕ = pages_needed b.pages.usable (length payload) in
    record {
      met = w.met;
      took = took-moved count (back m) w.took;
      size = w.size;
      change = w.change;
      within = w.within;
      is = λ t. w.is (m.told ∙ t);
      good = λ t. at_same (λ k p. (number : ℕ) → Among (taken_numbers k count p) number → IsGood w.met.pages number) m.sized refl (w.good (m.told ∙ t));
      pages_are = λ t. at_same (λ k p. c.pages ≡ with_chain k (taken_numbers k count p) payload w.met.pages) m.sized refl (w.pages_are (m.told ∙ t));
    }

pub write_refused-moved : {a b a' : SpaceState} (c : SpaceState) (payload : List ℕ) (fault : SpaceFault) → Moved a b a' → WriteRefused b c payload fault
    → WriteRefused (midway a (here b)) (midway a' (here c)) payload fault
write_refused-moved {b = b} c payload fault m (inl stops) = inl (stops_taking-moved c (pages_needed b.pages.usable (length payload)) fault m stops)
write_refused-moved {a = a} {b = b} {a' = a'} c payload fault m (inr stops) =
    let count : ℕ = pages_needed b.pages.usable (length payload) in
    inr (record {
      met = stops.met;
      took = took-moved count (back m) stops.took;
      size = stops.size;
      only = λ t. at_same (λ k p. OnlyThese stops.met.pages c.pages (taken_numbers k count p)) m.sized refl (stops.only (m.told ∙ t));
      refused = at_same (λ k p. PutRefused (midway a stops.met) (midway a' (here c)) (taken_numbers k count p) fault) m.sized refl
          (put_refused-moved c (taken_numbers b.page_size count b.pages) fault (within stops.met m) stops.refused);
    })

-- the cell written

pub cell-moved : {a b a' : SpaceState} (c : SpaceState) (rowid : _) (payload : List ℕ) (cell : LeafCell) → Moved a b a' → CellWritten b c rowid payload cell
    → CellWritten (midway a (here b)) (midway a' (here c)) rowid payload cell
cell-moved {a = a} {b = b} {a' = a'} c rowid payload cell m w = record {
  keyed = w.keyed;
  long = w.long;
  keeps = w.keeps;
  sound = w.sound;
  steady = steady-moved m w.steady;
  rest = elim w.rest as (λ _. RestWritten (midway a (here b)) (midway a' (here c)) _ cell.overflow) [
    | inl none ↦ inl (none.0, none.1, stays-moved m none.2)
    | inr some ↦ inr (some.0, wrote-moved c cell.overflow _ m some.1)
  ];
}

pub cell_refused-moved : {a b a' : SpaceState} (c : SpaceState) (payload : List ℕ) (fault : SpaceFault) → Moved a b a' → CellRefused b c payload fault
    → CellRefused (midway a (here b)) (midway a' (here c)) payload fault
cell_refused-moved c payload fault m (inl none) = inl (none.0, stays-moved m none.1)
cell_refused-moved c payload fault m (inr some) = inr (some.0, write_refused-moved c _ fault m some.1)

-- the cell put into its leaf

climbed-moved : {a b a' : SpaceState} (c : SpaceState) (number : ℕ) (plan : Sheets) (levels : List Level) (sheets : List Sheet) → Moved a b a'
    → Climbed b c number plan levels sheets → Climbed (midway a (here b)) (midway a' (here c)) number plan levels sheets
climbed-moved {b = b} c number plan levels sheets m climbed =
    let count : ℕ = climbed.count in
    record {
      count = count;
      few = climbed.few;
      took = took-moved count m climbed.took;
      are = λ t. at_same (λ k p. AreClimbed b.pages.usable number plan (reverse levels) (taken_numbers k count p) sheets) m.sized refl (climbed.are (m.told ∙ t));
    }

pub placed-moved : {a b a' : SpaceState} (c : SpaceState) (descent : Descent) (cell : LeafCell) (replaced : Option LeafCell) → Moved a b a'
    → CellPlaced b c descent cell replaced → CellPlaced (midway a (here b)) (midway a' (here c)) descent cell replaced
placed-moved {b = b} c descent cell replaced m p = record {
  plan = p.plan;
  planned = p.planned;
  replaced_is = p.replaced_is;
  sheets = p.sheets;
  met = p.met;
  climbed = climbed-moved (midway b p.met) descent.leaf p.plan.sheets descent.levels.items p.sheets (back m) p.climbed;
  steady = steady-moved m p.steady;
  size = p.size;
  leaves = leaves-moved c p.sheets (Ok tt) (within p.met m) p.leaves;
  notes = p.notes;
}

pub place_refused-moved : {a b a' : SpaceState} (c : SpaceState) (descent : Descent) (cell : LeafCell) (fault : SpaceFault) → Moved a b a'
    → PlaceRefused b c descent cell fault → PlaceRefused (midway a (here b)) (midway a' (here c)) descent cell fault
place_refused-moved c descent cell fault m (inl none) = inl (none.0, stays-moved m none.1)
place_refused-moved c descent cell fault m (inr (inl stops)) = inr (inl (record {
  plan = stops.plan;
  planned = stops.planned;
  refused = stops_taking-moved c (length stops.plan.sheets.front.items + length descent.levels.items + 1 + spare fault) fault m stops.refused;
}))
place_refused-moved {b = b} c descent cell fault m (inr (inr stops)) = inr (inr (record {
  plan = stops.plan;
  planned = stops.planned;
  sheets = stops.sheets;
  met = stops.met;
  climbed = climbed-moved (midway b stops.met) descent.leaf stops.plan.sheets descent.levels.items stops.sheets (back m) stops.climbed;
  size = stops.size;
  leaves = leaves-moved c stops.sheets (Err fault) (within stops.met m) stops.leaves;
  refused = put_refused-moved c _ fault (within stops.met m) stops.refused;
}))

-- the old chain given back

pub freed-moved : {a b a' : SpaceState} (c : SpaceState) (was : Option LeafCell) → Moved a b a' → ReplacedFreed b c was → ReplacedFreed (midway a (here b)) (midway a' (here c)) was
freed-moved c None m stays = stays-moved m stays
freed-moved c (Some cell) m freed = record {
  numbers = freed.numbers;
  payload = freed.payload;
  chain = λ t. freed.chain (m.told ∙ t);
  long = freed.long;
  gave = gave-moved c freed.numbers m freed.gave;
  change = freed.change;
}

pub freeing_refused-moved : {a b a' : SpaceState} (c : SpaceState) (was : Option LeafCell) (fault : SpaceFault) → Moved a b a' → FreeingRefused b c was fault
    → FreeingRefused (midway a (here b)) (midway a' (here c)) was fault
freeing_refused-moved c None fault m r = absurd r
freeing_refused-moved c (Some cell) fault m r = free_refused-moved c _ _ fault m r
