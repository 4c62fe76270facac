-- The steps of a removal, joined.
use Rattle.std.proofs.Common.{◌≡◌, inl, inr, ℕ, ◌+◌, ◌*◌, ◌≤◌, ℤ, List, length, reverse, IsTrue, subst, ◌∙◌, arith}
use Rattle.page_list.specs.Pages.{Pages}
use Rattle.page_list.specs.Edits.{taken_numbers, after_takes}
use Rattle.page_pool.specs.Space.{SpaceState, Steady, Stays}
use Rattle.page_pool.specs.Pool.{NotesChange}
use Rattle.payload_chain.specs.Chains.{midway, MayTakeEach, FreeRefused}
use Rattle.payload_chain.proofs.StateLemmas.{here, steady-on, steady-here, stays-on, each-later, at_same}
use Rattle.db_format.specs.declared.fault.SpaceFault.{SpaceFault}
use Rattle.tree_model.specs.declared.level.Level.{Level}
use Rattle.tree_model.specs.Walk.{rest_of}
use Rattle.tree_write.specs.Climb.{spare}
use Rattle.tree_write.proofs.TakesLemmas.{stops-on}
use Rattle.tree_search.specs.declared.path.Descent.{Descent}
use Rattle.tree_search.specs.Search.{Descends}
use Rattle.tree_search.proofs.StateLemmas.{refused_on}
use Rattle.tree_join.specs.declared.leaf.Taken.{Taken}
use Rattle.tree_join.specs.declared.level.Left.{Left}
use Rattle.tree_join.specs.Leaf.{IsTakenOut}
use Rattle.tree_join.specs.Join.{IsLeafLeft}
use Rattle.tree_remove.specs.declared.upward.Shrunk.{Shrunk}
use Rattle.tree_remove.specs.Shrink.{AreShrunk, ShrunkTo, MeetsBeside, ShrinkRefused}
use Rattle.tree_remove.specs.Remove.{Settled, ChainGone, Removed, NotesSettled, WayShrunk, SettleRefused, RemoveRefused}
use Rattle.tree_remove.proofs.ShrinkLemmas.{took_zero}
use Rattle.tree_remove.proofs.MoveLemmas.{moved-to, free_refused-moved}
use Rattle.tree_remove.proofs.SettleLemmas.{notes_later, settling-moved}

pub shrink_refused_on : (old mid new : SpaceState) (levels : List Level) (fault : SpaceFault) → Steady old mid → Stays old mid → ShrinkRefused mid new levels fault → ShrinkRefused old new levels fault
shrink_refused_on old mid new levels fault steady stays (inl meets) = inl (stays-on steady stays meets.0, refused_on old mid new (λ p. MeetsBeside p levels) fault steady stays meets.1)
shrink_refused_on old mid new levels fault steady stays (inr stops) = inr (stops-on new (length levels + 2 * spare fault) fault (took_zero steady stays) stops (omega arith))

-- the row is out of its leaf, and the way is shrunk
pub record Begun (old b c : SpaceState) (root : ℕ) (rowid : ℤ) (descent : Descent) (taken : Taken) (left : Left) (shrunk : Shrunk) : Type 0 where
  pub first : Steady old b
  pub stays : Stays old b
  pub second : Steady b c
  pub found : IsTrue old.tells → Descends old.pages rowid root descent.levels.items descent.leaf descent.cells
  pub taken_is : IsTakenOut rowid descent.cells taken
  pub left_is : IsLeafLeft descent.leaf old.pages.usable taken.others left
  pub to : ShrunkTo b c descent.leaf left descent.levels.items shrunk

pub begun : {old b c : SpaceState} {root : ℕ} {seen : ℤ} {descent : Descent} {taken : Taken} {left : Left} {shrunk : Shrunk} (rowid : ℤ) → seen ≡ rowid → Steady old b
    → Stays old b → Steady b c → (IsTrue old.tells → Descends old.pages seen root descent.levels.items descent.leaf descent.cells) → IsTakenOut seen descent.cells taken
    → IsLeafLeft descent.leaf old.pages.usable taken.others left → ShrunkTo b c descent.leaf left descent.levels.items shrunk
    → Begun old b c root rowid descent taken left shrunk
begun {old = old} {root = root} {descent = descent} {taken = taken} rowid same first stays second found taken_is left_is to =
    let T : ℤ → Type 0 = λ k. IsTakenOut k descent.cells taken in
    let D : ℤ → Type 0 = λ k. Descends old.pages k root descent.levels.items descent.leaf descent.cells in
    record { first = first; stays = stays; second = second; found = λ t. subst D same (found t); taken_is = subst T same taken_is; left_is = left_is; to = to }

pub removed_is : {old b c : SpaceState} (d e : SpaceState) {root : ℕ} {rowid : ℤ} {descent : Descent} {taken : Taken} {left : Left} {shrunk : Shrunk} → IsTrue old.tells
    → Begun old b c root rowid descent taken left shrunk → Steady c d → (IsTrue c.tells → Settled c.page_size c.pages d.pages root shrunk)
    → (IsTrue d.tells → ChainGone d.page_size d.pages e.pages taken.cell) → NotesSettled c.pages d.changed root shrunk → NotesChange d e → (1 ≤ rest_of taken.cell → IsTrue e.changed)
    → Removed old.page_size old.pages e.pages e.changed root rowid
removed_is {old = old} {b = b} {c = c} d e {root = root} {descent = descent} {taken = taken} {left = left} {shrunk = shrunk} t is third settled gone notes noted chain =
    let to = is.to in
    let told = is.first.told ∙ t in
    let pages_stay = is.stays.pages_stay t in
    let to_c = steady-on is.first is.second in
    let to_d = steady-on to_c third in
    let now : c.pages ≡ after_takes old.page_size to.count old.pages = at_same (λ s p. c.pages ≡ after_takes s to.count p) is.first.sized pages_stay (to.took.pages_are told) in
    let G : ℕ → Type 0 = λ s. ChainGone s d.pages e.pages taken.cell in
    let N : Pages → Type 0 = λ p. NotesSettled p e.changed root shrunk in
    record {
      descent = descent;
      found = is.found t;
      taken = taken;
      taken_is = is.taken_is;
      left = left;
      left_is = is.left_is;
      shrunk = shrunk;
      count = to.count;
      few = to.few;
      may = at_same (λ s p. MayTakeEach s to.count p) is.first.sized pages_stay (to.took.may told);
      are = at_same (λ s p. AreShrunk p descent.leaf left (reverse descent.levels.items) (taken_numbers s to.count p) shrunk.out.items shrunk.lost.items shrunk.over) is.first.sized
          pages_stay (to.are told);
      given = d.pages;
      settled = at_same (λ s p. Settled s p d.pages root shrunk) to_c.sized now (settled (to_c.told ∙ t));
      freed = subst G to_d.sized (gone (to_d.told ∙ t));
      notes = subst N now (notes_later c.pages d e root shrunk noted notes);
      notes_chain = chain;
    }

-- the same as states midway, and where it stops then

shrunk_on : {old b c : SpaceState} (number : ℕ) (left : Left) (levels : List Level) (shrunk : Shrunk) → Steady old b → Stays old b → ShrunkTo b c number left levels shrunk
    → ShrunkTo old (midway old (here c)) number left levels shrunk
shrunk_on {old = old} {b = b} {c = c} number left levels shrunk first stays to =
    let took = to.took in
    record {
      count = to.count;
      few = to.few;
      took = record {
        steady = steady-here (steady-on first took.steady);
        no_fewer = omega (arith, took.no_fewer, stays.number);
        no_more = omega (arith, took.no_more, stays.number);
        may = λ t. at_same (λ s p. MayTakeEach s to.count p) first.sized (stays.pages_stay t) (took.may (first.told ∙ t));
        pages_are = λ t. at_same (λ s p. c.pages ≡ after_takes s to.count p) first.sized (stays.pages_stay t) (took.pages_are (first.told ∙ t));
      };
      there = each-later b.pages old.pages shrunk.lost.items (omega (arith, stays.number)) to.there;
      are = λ t. at_same (λ s p. AreShrunk p number left (reverse levels) (taken_numbers s to.count p) shrunk.out.items shrunk.lost.items shrunk.over) first.sized
          (stays.pages_stay t) (to.are (first.told ∙ t));
    }

way_shrunk : {old b c : SpaceState} {root : ℕ} {rowid : ℤ} {descent : Descent} {taken : Taken} {left : Left} {shrunk : Shrunk}
    → Begun old b c root rowid descent taken left shrunk → WayShrunk old (midway old (here c)) root rowid taken shrunk
way_shrunk {descent = descent} {left = left} {shrunk = shrunk} is = record {
  descent = descent;
  found = is.found;
  taken_is = is.taken_is;
  left = left;
  left_is = is.left_is;
  to = shrunk_on descent.leaf left descent.levels.items shrunk is.first is.stays is.to;
}

pub stops_settling : {old b c : SpaceState} (new : SpaceState) {root : ℕ} {rowid : ℤ} {descent : Descent} {taken : Taken} {left : Left} {shrunk : Shrunk} (fault : SpaceFault)
    → Begun old b c root rowid descent taken left shrunk → Steady c new → SettleRefused c new root shrunk fault → RemoveRefused old new root rowid fault
stops_settling {c = c} new {root = root} {taken = taken} {shrunk = shrunk} fault is steady refused =
    let before = steady-on is.first is.second in
    inr (inr (inl (record {
      taken = taken;
      shrunk = shrunk;
      grown = here c;
      before = way_shrunk is;
      refused = settling-moved new root shrunk fault (moved-to before (steady-on before steady)) refused;
    })))

pub stops_freeing : {old b c d : SpaceState} (new : SpaceState) {root : ℕ} {rowid : ℤ} {descent : Descent} {taken : Taken} {left : Left} {shrunk : Shrunk} (fault : SpaceFault)
    → Begun old b c root rowid descent taken left shrunk → Steady c d → d.pages.size ≡ c.pages.size → (IsTrue c.tells → Settled c.page_size c.pages d.pages root shrunk)
    → Steady d new → FreeRefused d new taken.cell.overflow (rest_of taken.cell) fault → RemoveRefused old new root rowid fault
stops_freeing {c = c} {d = d} new {root = root} {taken = taken} {shrunk = shrunk} fault is third size settled steady refused =
    let before = steady-on is.first is.second in
    let to_d = steady-on before third in
    let S : ℕ → Type 0 = λ s. Settled s c.pages d.pages root shrunk in
    inr (inr (inr (record {
      taken = taken;
      shrunk = shrunk;
      grown = here c;
      before = way_shrunk is;
      settled = here d;
      steady = steady-here to_d;
      size = size;
      done = λ t. subst S before.sized (settled (before.told ∙ t));
      refused = free_refused-moved new taken.cell.overflow (rest_of taken.cell) fault (moved-to to_d (steady-on to_d steady)) refused;
    })))
