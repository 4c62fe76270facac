-- The steps of a put, joined.
use Rattle.std.proofs.Common.{◌≡◌, ◌∙◌, refl, inl, inr, IsTrue, ℕ, ℤ, Bool, List, Option, is_some, Ok, Err}
use Rattle.db_format.specs.declared.fault.SpaceFault.{SpaceFault}
use Rattle.page_pool.specs.Space.{SpaceState, Steady}
use Rattle.page_pool.specs.Pool.{NotesChange}
use Rattle.payload_chain.specs.Chains.{midway}
use Rattle.payload_chain.specs.Chains.{PutRefused as PagePutRefused, TookEach}
use Rattle.payload_chain.proofs.StateLemmas.{here, steady-here, steady-on}
use Rattle.tree_page.specs.declared.cell.LeafCell.{LeafCell}
use Rattle.page_cut.specs.declared.parts.Sheet.{Sheet}
use Rattle.tree_level.specs.Level.{numbers}
use Rattle.tree_plan.specs.declared.leaf.LeafPlan.{LeafPlan}
use Rattle.tree_plan.specs.Plan.{IsLeafPlan}
use Rattle.tree_write.specs.Climb.{Climbed}
use Rattle.tree_write.specs.Write.{WriteLeaves, NotesSheets}
use Rattle.tree_search.specs.declared.path.Descent.{Descent}
use Rattle.rowid_tree.specs.Steps.{CellWritten, CellRefused, CellPlaced, StopsWriting, PlaceRefused, ReplacedFreed, FreeingRefused}
use Rattle.rowid_tree.specs.Puts.{WayFound, WroteCell, PlacedCell, PutDone, StopsAtCell, StopsAtLeaf, StopsAtChain}
use Rattle.tree_remove.proofs.MoveLemmas.{moved-midway, moved-to, steady-moved, put_refused-moved}
use Rattle.rowid_tree.proofs.MoveLemmas.{cell-moved, cell_refused-moved, placed-moved, place_refused-moved, freed-moved, freeing_refused-moved}

-- where the space said that it was changed, it still does
still_changed : (a b : SpaceState) → NotesChange a b → IsTrue a.changed → IsTrue b.changed
still_changed a b (inl is) was = is
still_changed a b (inr stays) was = stays.change ∙ was

took-here : {a b : SpaceState} {count : ℕ} → TookEach a b count → TookEach a (midway a (here b)) count
took-here took = record { steady = steady-here took.steady; no_fewer = took.no_fewer; no_more = took.no_more; may = took.may; pages_are = took.pages_are }

pub way_here : {a b : SpaceState} {root : ℕ} {rowid : ℤ} {descent : Descent} → WayFound a b root rowid descent → WayFound a (midway a (here b)) root rowid descent
way_here way = record {
  steady = steady-here way.steady;
  stays = record { number = way.stays.number; change = way.stays.change; pages_stay = way.stays.pages_stay };
  found = way.found;
  sound = way.sound;
}

pub wrote_here : {a b c : SpaceState} {root : ℕ} {rowid : ℤ} {payload : List ℕ} {descent : Descent} {cell : LeafCell} → WayFound a b root rowid descent
    → CellWritten b c rowid payload cell → WroteCell a (midway a (here c)) root rowid payload descent cell
wrote_here {b = b} {c = c} {rowid = rowid} {payload = payload} {cell = cell} way wrote = record {
  searched = here b;
  way = way_here way;
  wrote = cell-moved c rowid payload cell (moved-midway way.steady) wrote;
}

pub placed_here : {a b c d : SpaceState} {root : ℕ} {rowid : ℤ} {payload : List ℕ} {descent : Descent} {cell : LeafCell} {was : Option LeafCell}
    → WayFound a b root rowid descent → CellWritten b c rowid payload cell → CellPlaced c d descent cell was → PlacedCell a (midway a (here d)) root rowid payload was
placed_here {c = c} {d = d} {descent = descent} {cell = cell} {was = was} way wrote placed = record {
  descent = descent;
  cell = cell;
  written = here c;
  before = wrote_here way wrote;
  placed = placed-moved d descent cell was (moved-midway (steady-on way.steady wrote.steady)) placed;
}

pub put_done : {a b c d e : SpaceState} {root : ℕ} {rowid : ℤ} {payload : List ℕ} {descent : Descent} {cell : LeafCell} {was : Option LeafCell} {replaced : Bool}
    → WayFound a b root rowid descent → CellWritten b c rowid payload cell → CellPlaced c d descent cell was → Steady d e → ReplacedFreed d e was → NotesChange d e → replaced ≡ is_some was
    → PutDone a e root rowid payload replaced
put_done {d = d} {e = e} {was = was} way wrote placed steady freed noted told =
    let before = steady-on (steady-on way.steady wrote.steady) placed.steady in
    let moved = moved-to before (steady-on before steady) in
    record {
      was = was;
      placed = here d;
      before = placed_here way wrote placed;
      steady = steady-moved moved steady;
      freed = freed-moved e was moved freed;
      noted = still_changed d e noted;
      told = told;
    }

pub stops_at_cell : {a b c : SpaceState} {root : ℕ} {rowid : ℤ} {payload : List ℕ} {descent : Descent} (fault : SpaceFault) → WayFound a b root rowid descent → Steady b c
    → CellRefused b c payload fault → StopsAtCell a c root rowid payload fault
stops_at_cell {b = b} {c = c} {payload = payload} {descent = descent} fault way steady refused = record {
  descent = descent;
  searched = here b;
  way = way_here way;
  refused = cell_refused-moved c payload fault (moved-to way.steady (steady-on way.steady steady)) refused;
}

pub stops_at_leaf : {a b c d : SpaceState} {root : ℕ} {rowid : ℤ} {payload : List ℕ} {descent : Descent} {cell : LeafCell} (fault : SpaceFault)
    → WayFound a b root rowid descent → CellWritten b c rowid payload cell → Steady c d → PlaceRefused c d descent cell fault → StopsAtLeaf a d root rowid payload fault
stops_at_leaf {c = c} {d = d} {descent = descent} {cell = cell} fault way wrote steady refused =
    let before = steady-on way.steady wrote.steady in
    record {
      descent = descent;
      cell = cell;
      written = here c;
      before = wrote_here way wrote;
      refused = place_refused-moved d descent cell fault (moved-to before (steady-on before steady)) refused;
    }

pub stops_at_chain : {a b c d e : SpaceState} {root : ℕ} {rowid : ℤ} {payload : List ℕ} {descent : Descent} {cell : LeafCell} {was : Option LeafCell} (fault : SpaceFault)
    → WayFound a b root rowid descent → CellWritten b c rowid payload cell → CellPlaced c d descent cell was → Steady d e → FreeingRefused d e was fault
    → StopsAtChain a e root rowid payload fault
stops_at_chain {d = d} {e = e} {was = was} fault way wrote placed steady refused =
    let before = steady-on (steady-on way.steady wrote.steady) placed.steady in
    record {
      was = was;
      placed = here d;
      before = placed_here way wrote placed;
      refused = freeing_refused-moved e was fault (moved-to before (steady-on before steady)) refused;
    }

-- a cell put into its leaf: planned, climbed and written
pub cell_placed : {a b c : SpaceState} (descent : Descent) (cell : LeafCell) (plan : LeafPlan) (sheets : List Sheet) → IsLeafPlan descent.leaf a.pages.usable descent.cells cell plan
    → Climbed a b descent.leaf plan.sheets descent.levels.items sheets → Steady a b → Steady b c → c.pages.size ≡ b.pages.size → WriteLeaves b c sheets (Ok tt)
    → NotesSheets b c sheets → CellPlaced a c descent cell plan.replaced
cell_placed {a = a} {b = b} {c = c} descent cell plan sheets planned climbed before steady size leaves notes = record {
  plan = plan;
  planned = planned;
  replaced_is = refl;
  sheets = sheets;
  met = here b;
  climbed = record { count = climbed.count; few = climbed.few; took = took-here climbed.took; are = climbed.are };
  steady = steady-on before steady;
  size = size;
  leaves = λ t. leaves (before.told ∙ t);
  notes = notes;
}

pub stops_writing : {a b c : SpaceState} (descent : Descent) (cell : LeafCell) (plan : LeafPlan) (sheets : List Sheet) (fault : SpaceFault)
    → IsLeafPlan descent.leaf a.pages.usable descent.cells cell plan → Climbed a b descent.leaf plan.sheets descent.levels.items sheets → Steady a b → Steady b c
    → c.pages.size ≡ b.pages.size → WriteLeaves b c sheets (Err fault) → PagePutRefused b c (numbers sheets) fault → StopsWriting a c descent cell fault
stops_writing {a = a} {b = b} {c = c} descent cell plan sheets fault planned climbed before steady size leaves refused = record {
  plan = plan;
  planned = planned;
  sheets = sheets;
  met = here b;
  climbed = record { count = climbed.count; few = climbed.few; took = took-here climbed.took; are = climbed.are };
  size = size;
  leaves = λ t. leaves (before.told ∙ t);
  refused = put_refused-moved c (numbers sheets) fault (moved-to before (steady-on before steady)) refused;
}
