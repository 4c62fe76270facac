-- A put that was done over a space that tells is one of its pages alone.
use Rattle.std.proofs.Common.{◌≡◌, inl, inr, ℕ, ℤ, ◌<ℤ◌, ◌≤ℤ◌, Bool, List, length, drop, Option, None, Some, is_some, IsTrue, refl, sym, ap, subst, ◌∙◌}
use Rattle.std.specs.Prelude.{reverse}
use Rattle.db_format.specs.Spill.{local_size}
use Rattle.page_list.specs.Pages.{Pages}
use Rattle.page_list.specs.Chain.{pages_needed}
use Rattle.page_list.specs.Edits.{taken_numbers}
use Rattle.page_pool.specs.Space.{SpaceState}
use Rattle.payload_chain.specs.Chains.{midway, with_chain}
use Rattle.tree_page.specs.declared.cell.LeafCell.{LeafCell}
use Rattle.tree_model.specs.Whole.{below_all, greatest}
use Rattle.tree_plan.specs.Plan.{IsLeafPlan}
use Rattle.tree_plan.specs.Climb.{AreClimbed}
use Rattle.tree_search.specs.Search.{Descends}
use Rattle.tree_put.specs.Keeps.{IsChained, IsGiven, PutDone as PagesPut, PutKeepsWhole}
use Rattle.tree_removed.proofs.StepLemmas.{each_written}
use Rattle.rowid_tree.specs.Steps.{RestWritten, ReplacedFreed}
use Rattle.rowid_tree.specs.Puts.{PutDone, PutsRow}

pub chained : (old new : SpaceState) (rest : List ℕ) (first : ℕ) → IsTrue old.tells → RestWritten old new rest first → IsChained old.page_size old.pages new.pages rest first
chained old new rest first told (inl none) = inl (none.0, none.1, none.2.pages_stay told)
chained old new rest first told (inr some) =
    let wrote = some.1 in
    let numbers : List ℕ = taken_numbers old.page_size (pages_needed old.pages.usable (length rest)) old.pages in
    inr (record {
      some = some.0;
      first_is = wrote.is told;
      pages_are = wrote.pages_are told ∙ ap (λ (p : Pages). with_chain old.page_size numbers rest p) (wrote.took.pages_are told);
    })

given : (old new : SpaceState) (was : Option LeafCell) → IsTrue old.tells → ReplacedFreed old new was → IsGiven old.page_size old.pages new.pages was
given old new None told stays = stays.pages_stay told
given old new (Some cell) told freed =
    inr (record { given = freed.numbers; bytes = freed.payload; chain = freed.chain told; long = freed.long; pages_are = freed.gave.pages_are told })

pages_put : (old new : SpaceState) (root : ℕ) (key : ℤ) (payload : List ℕ) (replaced : Bool) → IsTrue old.tells → below_all <ℤ key → key ≤ℤ greatest
    → PutDone old new root key payload replaced → PagesPut old.page_size old.pages new.pages root key payload replaced
pages_put old new root key payload replaced told above below done =
    let put = done.before in
    let wrote = put.before.wrote in
    let way = put.before.way in
    let searched : Pages = put.before.searched.pages in
    let placed = put.placed in
    let is : searched ≡ old.pages = way.stays.pages_stay told in
    let leaves = placed.leaves told in
    let D : Pages → Type 0 = λ p. Descends p key root put.descent.levels.items put.descent.leaf put.descent.cells in
    let L : ℕ → Type 0 = λ u. IsLeafPlan put.descent.leaf u put.descent.cells put.cell placed.plan in
    let C : ℕ → Type 0 = λ u.
    AreClimbed u put.descent.leaf placed.plan.sheets (reverse put.descent.levels.items) (taken_numbers old.page_size placed.climbed.count put.written.pages) placed.sheets in
    let G : Option LeafCell → Type 0 = λ o. IsGiven old.page_size done.placed.pages new.pages o in
    let P : Pages → Type 0 = λ p. PagesPut old.page_size p new.pages root key payload replaced in
    subst P is (record {
      size_of_page = way.steady.sizes.size_of_page;
      spare = way.steady.sizes.spare;
      sized = way.steady.sizes.each told;
      above = above;
      below = below;
      levels = put.descent.levels.items;
      leaf = put.descent.leaf;
      cells = put.descent.cells;
      descends = subst D (sym is) (way.found told);
      chained = put.written.pages;
      first = put.cell.overflow;
      chain = chained (midway old put.before.searched) (midway old put.written) (drop (local_size searched.usable (length payload)) payload) put.cell.overflow told wrote.rest;
      chain_sized = wrote.steady.sizes.each told;
      cell = put.cell;
      cell_of = record { keyed = wrote.keyed; long = wrote.long; keeps = wrote.keeps; begins = refl };
      plan = placed.plan;
      planned = subst L wrote.steady.used placed.planned;
      count = placed.climbed.count;
      grown = placed.met.pages;
      grown_is = placed.climbed.took.pages_are told;
      few = placed.climbed.took.steady.sizes.few;
      out = placed.sheets;
      climbed = subst C wrote.steady.used (placed.climbed.are told);
      written = done.placed.pages;
      write = record {
        sized = placed.steady.sizes.each told;
        size = leaves.only.only.size;
        used = leaves.only.used;
        each = λ different. each_written placed.met.pages done.placed.pages placed.sheets (leaves.each different);
        others = leaves.only.only.each;
        front = leaves.only.front;
        good = leaves.only.good 1;
      };
      give = subst G placed.replaced_is (given (midway old done.placed) new done.was told done.freed);
      told = done.told ∙ ap (λ (o : Option LeafCell). is_some o) placed.replaced_is;
    })

pub puts_row : PutKeepsWhole → (old new : SpaceState) (root : ℕ) (key : ℤ) (payload : List ℕ) (replaced : Bool) → IsTrue old.tells → below_all <ℤ key → key ≤ℤ greatest
    → PutDone old new root key payload replaced → PutsRow old.pages new.pages root key payload replaced
puts_row keeps old new root key payload replaced told above below done = record {
  each = λ roots before behind tree trunks whole is.
      keeps old.page_size old.pages new.pages root key payload replaced roots before behind tree trunks (pages_put old new root key payload replaced told above below done) whole is;
}
