-- A put over whole pages names no page at fault.
use Rattle.std.proofs.Common.{◌≡◌, inl, inr, ℕ, suc, ◌+◌, ◌-◌, ◌*◌, ◌≤◌, ℤ, ◌<ℤ◌, ◌≤ℤ◌, reverse, List, [], ◌∷◌, ◌++◌, length, drop, Option, None, Some, IsTrue}
use Rattle.std.proofs.Common.{refl, sym, ap, subst, ◌∙◌, arith, mul-le-mul_right}
use Rattle.std.proofs.lemmas.Bool.{cases_lt}
use Rattle.std.proofs.lemmas.List.{take-append-drop}
use Rattle.db_format.specs.Header.{HeaderInFront, IsPageSize, greatest_length}
use Rattle.db_format.specs.Spill.{local_size}
use Rattle.db_format.specs.declared.fault.SpaceFault.{SpaceFault}
use Rattle.db_format.specs.declared.fault.SpaceFault.TheVariants.{Failed, Memory, Bad, Corrupt, Large}
use Rattle.page_list.specs.Pages.{Pages, IsGood, AreSized, times, Among}
use Rattle.page_list.specs.Freelist.{Trunk, take_each}
use Rattle.page_list.specs.Chain.{IsChain}
use Rattle.page_list.specs.Edits.{taken_numbers, after_takes}
use Rattle.page_list.proofs.TimesLemmas.{times-append, among-first, among-back}
use Rattle.page_pool.specs.Space.{SpaceState}
use Rattle.payload_chain.specs.Chains.{Midway, midway}
use Rattle.tree_page.specs.declared.cell.LeafCell.{LeafCell}
use Rattle.tree_page.specs.Laws.{FrontApart}
use Rattle.tree_page.specs.Page.{OnePage}
use Rattle.tree_model.specs.declared.ends.PathEnd.TheVariants.{Ends}
use Rattle.tree_model.specs.declared.level.Level.{Level}
use Rattle.tree_model.specs.Walk.{Path}
use Rattle.tree_model.specs.Tree.{Row, Tree, Leaf, root_of, pages_of}
use Rattle.tree_model.specs.Held.{HasRow}
use Rattle.tree_model.specs.Whole.{below_all, greatest, IsWholeTree, IsWholeFor, named_pages}
use Rattle.tree_model.specs.Laws.{OnePath, PathFinds}
use Rattle.tree_model.proofs.OnePathLemmas.{rest_length}
use Rattle.tree_model.proofs.OthersLemmas.{split_named}
use Rattle.tree_model.proofs.StayLemmas.{chain_stays}
use Rattle.page_cut.specs.declared.parts.Sheet.{Sheet}
use Rattle.tree_level.specs.Level.{numbers}
use Rattle.tree_plan.specs.declared.leaf.LeafPlan.{LeafPlan}
use Rattle.tree_plan.specs.Plan.{IsLeafPlan, cell_of}
use Rattle.tree_run.specs.Edit.{chain_at}
use Rattle.tree_plan.specs.Climb.{AreClimbed}
use Rattle.tree_write.specs.Climb.{Climbed}
use Rattle.tree_laws.proofs.DeepLemmas.{whole_one}
use Rattle.tree_put.specs.Way.{Beside, with_child, AreStanding, IsWay}
use Rattle.tree_put.specs.Puts.{IsClimb}
use Rattle.tree_put.specs.Keeps.{IsChained, IsCellOf, AreWritten}
use Rattle.tree_put.proofs.CountLemmas.{level_numbers, levels_of, out_count}
use Rattle.tree_put.proofs.WayLemmas.{way_from, held_from}
use Rattle.tree_put.proofs.TookLemmas.{takes_mono}
use Rattle.tree_put.proofs.PreparedLemmas.{chain_count, chain_numbers, has_chain, Prepared, prepared}
use Rattle.tree_put.proofs.RowLemmas.{row_of}
use Rattle.tree_put.proofs.WrittenLemmas.{counted, Written, written_whole}
use Rattle.tree_search.specs.declared.path.Descent.{Descent}
use Rattle.tree_search.specs.Search.{Descends, SearchRefused, IsNoDamage}
use Rattle.tree_search.proofs.RowLemmas.{row_clean}
use Rattle.rowid_tree.specs.Steps.{rest_part, chained_len, FreeingRefused}
use Rattle.rowid_tree.specs.Puts.{WroteCell, PlacedCell, StopsAtCell, StopsAtLeaf, PutRefused, IsSoundlyRefused}
use Rattle.tree_removed.proofs.StepLemmas.{each_written}
use Rattle.rowid_tree.proofs.WholeLemmas.{chained}
use Rattle.rowid_tree.proofs.CleanLemmas.{taking_clean, all_taken_good, put_clean, write_clean, IsLoose, free_clean}

-- want of memory names no page
pub memory_clean : (fault : SpaceFault) → fault ≡ Memory → IsNoDamage fault
memory_clean fault is = let P : SpaceFault → Type 0 = IsNoDamage in subst P (sym is) tt

-- the search
pub search_clean : OnePath → PathFinds → (old new : SpaceState) (root : ℕ) (key : ℤ) (fault : SpaceFault) → IsTrue old.tells
    → SearchRefused old new (λ f. Path None old.pages root key (Ends f)) fault → (tree : Tree) → IsWholeTree old.pages root tree → IsNoDamage fault
search_clean once finds old new root key Failed told refused tree whole = tt
search_clean once finds old new root key Memory told refused tree whole = tt
search_clean once finds old new root key (Bad page kept found) told refused tree whole =
    row_clean once finds old new root key (Bad page kept found) told (refused.0, λ t. record { leads = refused.1 t }) tree whole
search_clean once finds old new root key (Corrupt page) told refused tree whole =
    row_clean once finds old new root key (Corrupt page) told (λ t. record { leads = refused t }) tree whole
search_clean once finds old new root key (Large pages) told refused tree whole = tt

cell_clean : FrontApart → (old new : SpaceState) (root : ℕ) (key : ℤ) (payload roots : List ℕ) (trees : List Tree) (trunks : List Trunk) (fault : SpaceFault)
    → IsTrue old.tells → IsWholeFor old.pages roots trees trunks → StopsAtCell old new root key payload fault → IsNoDamage fault
cell_clean front_apart old new root key payload roots trees trunks fault told whole stop =
    let s : SpaceState = midway old stop.searched in
    let W : Pages → Type 0 = λ p. IsWholeFor p roots trees trunks in
    let now = subst W (sym (stop.way.stays.pages_stay told)) whole in
    elim stop.refused [
      | inl none ↦ memory_clean fault none.0
      | inr some ↦ write_clean front_apart s new (rest_part s.pages.usable payload) roots trees trunks fault told stop.way.steady.sizes now some.1
    ]

-- pages were taken for what is to be written
pub record Climbing (page_size : ℕ) (old chained : Pages) (root : ℕ) (key : ℤ) (payload : List ℕ) (levels : List Level) (leaf : ℕ) (cells : List LeafCell) (cell : LeafCell)
    (plan : LeafPlan) (count : ℕ) (out : List Sheet) : Type 0 where
  pub size_of_page : IsPageSize page_size
  pub spare : page_size ≤ old.usable + 255
  pub sized : AreSized page_size old
  pub above : below_all <ℤ key
  pub below : key ≤ℤ greatest
  pub descends : Descends old key root levels leaf cells
  pub chain : IsChained page_size old chained (drop (local_size old.usable (length payload)) payload) cell.overflow
  pub chain_sized : AreSized page_size chained
  pub cell_of : IsCellOf old.usable key payload cell.overflow cell
  pub planned : IsLeafPlan leaf old.usable cells cell plan
  pub few : (after_takes page_size count chained).size * page_size ≤ greatest_length
  pub climbed : AreClimbed old.usable leaf plan.sheets (reverse levels) (taken_numbers page_size count chained) out

pub climbing : (old : SpaceState) (written met : Midway) (root : ℕ) (key : ℤ) (payload : List ℕ) (descent : Descent) (cell : LeafCell) (plan : LeafPlan) (out : List Sheet)
    → IsTrue old.tells → below_all <ℤ key → key ≤ℤ greatest → (w : WroteCell old (midway old written) root key payload descent cell)
    → IsLeafPlan descent.leaf written.pages.usable descent.cells cell plan
    → (c : Climbed (midway old written) (midway old met) descent.leaf plan.sheets descent.levels.items out)
    → Climbing old.page_size w.searched.pages written.pages root key payload descent.levels.items descent.leaf descent.cells cell plan c.count out
climbing old written met root key payload descent cell plan out told above below w planned c =
    let searched : Pages = w.searched.pages in
    let wrote = w.wrote in
    let D : Pages → Type 0 = λ p. Descends p key root descent.levels.items descent.leaf descent.cells in
    let L : ℕ → Type 0 = λ u. IsLeafPlan descent.leaf u descent.cells cell plan in
    let C : ℕ → Type 0 = λ u. AreClimbed u descent.leaf plan.sheets (reverse descent.levels.items) (taken_numbers old.page_size c.count written.pages) out in
    let E : Pages → Type 0 = λ p. p.size * old.page_size ≤ greatest_length in
    record {
      size_of_page = w.way.steady.sizes.size_of_page;
      spare = w.way.steady.sizes.spare;
      sized = w.way.steady.sizes.each told;
      above = above;
      below = below;
      descends = subst D (sym (w.way.stays.pages_stay told)) (w.way.found told);
      chain = chained (midway old w.searched) (midway old written) (drop (local_size searched.usable (length payload)) payload) cell.overflow told wrote.rest;
      chain_sized = wrote.steady.sizes.each told;
      cell_of = record { keyed = wrote.keyed; long = wrote.long; keeps = wrote.keeps; begins = refl };
      planned = subst L wrote.steady.used planned;
      few = subst E (c.took.pages_are told) c.took.steady.sizes.few;
      climbed = subst C wrote.steady.used (c.are told);
    }

-- what these pages are then
pub record Grown (page_size : ℕ) (old chained : Pages) (payload : List ℕ) (cell : LeafCell) (plan : LeafPlan) (count : ℕ) (out : List Sheet) (roots : List ℕ)
    (before : List Tree) (tree : Tree) (behind : List Tree) (trunks left : List Trunk) : Type 0 where
  pub made_ready : Prepared page_size count old chained (drop (local_size old.usable (length payload)) payload) cell.overflow roots before tree behind trunks left
  pub climb : IsClimb (after_takes page_size count chained) roots before tree behind left cell plan (taken_numbers page_size count chained) out
  pub has : HasRow (after_takes page_size count chained)
      (record { cell = cell; chain = chain_numbers page_size old (drop (local_size old.usable (length payload)) payload); payload = payload })
  pub taken_good : (n : ℕ) → Among (taken_numbers page_size count chained) n → IsGood (after_takes page_size count chained) n

abbrev pub left_of : ℕ → Pages → List ℕ → List Trunk → List Trunk
left_of count old payload trunks = take_each count (take_each (chain_count old (drop (local_size old.usable (length payload)) payload)) trunks)

pub grown : FrontApart → OnePage → (page_size : ℕ) (old mid : Pages) (root : ℕ) (key : ℤ) (payload : List ℕ) (levels : List Level) (leaf : ℕ) (cells : List LeafCell)
    (cell : LeafCell) (plan : LeafPlan) (count : ℕ) (out : List Sheet) (roots : List ℕ) (before behind : List Tree) (tree : Tree) (trunks : List Trunk)
    → Climbing page_size old mid root key payload levels leaf cells cell plan count out → IsWholeFor old roots (before ++ tree ∷ behind) trunks → root_of tree ≡ root
    → Grown page_size old mid payload cell plan count out roots before tree behind trunks (left_of count old payload trunks)
grown front_apart one_page page_size old mid root key payload levels leaf cells cell plan count out roots before behind tree trunks d whole rooted =
    let trees : List Tree = before ++ tree ∷ behind in
    let rest : List ℕ = drop (local_size old.usable (length payload)) payload in
    let taken : List ℕ = taken_numbers page_size count mid in
    let new : Pages = after_takes page_size count mid in
    let grows = takes_mono page_size count mid in
    let few_mid : mid.size * page_size ≤ greatest_length = omega (arith, d.few, mul-le-mul_right page_size grows) in
    let h = has_chain front_apart page_size old mid rest cell.overflow roots trees trunks d.size_of_page d.spare d.sized whole d.chain few_mid in
    let p = prepared front_apart page_size count old mid rest cell.overflow roots before behind tree trunks d.size_of_page d.spare d.sized d.chain_sized whole d.chain d.few in
    let one = whole_one old roots before behind tree whole.each_tree in
    let T : ℕ → Type 0 = λ r. IsWholeTree old r tree in
    let tree_whole : IsWholeTree old root tree = subst T (sym one.1.rooted ∙ rooted) one.1 in
    let K : ℤ → Type 0 = λ k. IsWay k tree levels leaf cells in
    let A : ℤ → Type 0 = λ k. (below_all <ℤ k) × (k ≤ℤ greatest) in
    let bounds = subst A (sym d.cell_of.keyed) (d.above, d.below) in
    let U : ℕ → Type 0 = λ u. IsLeafPlan leaf u cells cell plan × AreClimbed u leaf plan.sheets (reverse levels) taken out in
    let planned = subst U (sym p.used) (d.planned, d.climbed) in
    record {
      made_ready = p;
      climb = record {
        least = omega (arith, d.sized.least, p.used);
        whole = p.whole;
        above = bounds.0;
        below = bounds.1;
        levels = levels;
        leaf = leaf;
        cells = cells;
        way = subst K (sym d.cell_of.keyed) (way_from one_page levels old root tree key leaf cells tree_whole d.above d.below d.descends);
        planned = planned.0;
        climbed = planned.1;
        fresh = record {
          different = record { once = λ n. omega (arith, p.once n) };
          each = λ n some. (p.least n some, λ named. omega (arith, some, named, p.once n));
        };
      };
      has = record {
        rest = rest;
        joined = sym (take-append-drop (local_size old.usable (length payload)) payload) ∙ ap (λ (l : List ℕ). l ++ rest) (sym d.cell_of.keeps);
        whole = sym d.cell_of.long;
        chained = p.chain;
      };
      taken_good = all_taken_good front_apart page_size count mid roots trees (take_each (chain_count old rest) trunks) d.size_of_page (omega (arith, d.spare, h.used)) d.chain_sized
          h.whole d.few;
    }

-- the pages of the way are good
way_good : (pages : Pages) (low high : ℤ) (depth : ℕ) (child : Tree) (steps : List Beside) (n : ℕ) → AreStanding pages low high depth child steps
    → Among (level_numbers (levels_of steps)) n → IsGood pages n
way_good pages low high depth child [] n standing some = absurd (omega (arith, some))
way_good pages low high depth child (step ∷ steps) n standing some = elim (among-first n step.level.number (level_numbers (levels_of steps)) some) as (λ _. IsGood pages n) [
  | inl same ↦ let P : ℕ → Type 0 = IsGood pages in subst P same standing.0.page.good
  | inr more ↦ way_good pages low high (suc depth) (with_child child step) steps n standing.2 more
]

-- and so are all that are written
out_good : (old : Pages) (roots : List ℕ) (before behind : List Tree) (tree : Tree) (trunks : List Trunk) (cell : LeafCell) (plan : LeafPlan) (taken : List ℕ) (out : List Sheet)
    → IsClimb old roots before tree behind trunks cell plan taken out → ((n : ℕ) → Among taken n → IsGood old n) → (n : ℕ) → Among (numbers out) n → IsGood old n
out_good old roots before behind tree trunks cell plan taken out c good n some =
    let way = c.way in
    let whole = whole_one old roots before behind tree c.whole.each_tree in
    let held = held_from old whole.0 tree cell.rowid c.levels c.leaf c.cells whole.1 way in
    let L : List Level → Type 0 = λ l. AreClimbed old.usable c.leaf plan.sheets l taken out in
    let counts = out_count old.usable c.leaf plan.sheets (levels_of way.steps) taken out (subst L way.levels_are c.climbed) n in
    elim (cases_lt 0 (times n taken)) [
      | inl new ↦ good n (omega (arith, new))
      | inr none ↦ elim (among-first n c.leaf (level_numbers (levels_of way.steps)) (omega (arith, some, none, counts))) as (λ _. IsGood old n) [
        | inl same ↦ let P : ℕ → Type 0 = IsGood old in subst P same held.leaf_has.good
        | inr more ↦ way_good old below_all greatest 1 (Leaf c.leaf way.rows) way.steps n held.standing more
      ]
    ]

leaf_clean : FrontApart → OnePage → (old new : SpaceState) (root : ℕ) (key : ℤ) (payload roots : List ℕ) (before behind : List Tree) (tree : Tree) (trunks : List Trunk)
    (fault : SpaceFault) → IsTrue old.tells → below_all <ℤ key → key ≤ℤ greatest → IsWholeFor old.pages roots (before ++ tree ∷ behind) trunks → root_of tree ≡ root
    → StopsAtLeaf old new root key payload fault → IsNoDamage fault
leaf_clean front_apart one_page old new root key payload roots before behind tree trunks fault told above below whole rooted stop =
    let w = stop.before in
    let searched : Pages = w.searched.pages in
    let s : SpaceState = midway old stop.written in
    let d : Descent = stop.descent in
    let trees : List Tree = before ++ tree ∷ behind in
    let rest : List ℕ = drop (local_size searched.usable (length payload)) payload in
    let W : Pages → Type 0 = λ p. IsWholeFor p roots trees trunks in
    let now = subst W (sym (w.way.stays.pages_stay told)) whole in
    let z = w.way.steady.sizes in
    elim stop.refused [
      | inl none ↦ memory_clean fault none.0
      | inr (inl climb) ↦
          let h = has_chain front_apart old.page_size searched s.pages rest stop.cell.overflow roots trees trunks z.size_of_page z.spare (z.each told) now
          (chained (midway old w.searched) s rest stop.cell.overflow told w.wrote.rest) w.wrote.steady.sizes.few in
          taking_clean front_apart s new _ roots trees (take_each (chain_count searched rest) trunks) fault told w.wrote.steady.sizes h.whole climb.refused
      | inr (inr write) ↦
          let c = climbing old stop.written write.met root key payload d stop.cell write.plan write.sheets told above below w write.planned write.climbed in
          let count : ℕ = write.climbed.count in
          let taken : List ℕ = taken_numbers old.page_size count stop.written.pages in
          let g = grown front_apart one_page old.page_size searched stop.written.pages root key payload d.levels.items d.leaf d.cells stop.cell write.plan count write.sheets
          roots before behind tree trunks c now rooted in
          let G : Pages → Type 0 = λ p. (n : ℕ) → Among (numbers write.sheets) n → IsGood p n in
          put_clean (midway s write.met) new (numbers write.sheets) fault told
          (subst G (sym (write.climbed.took.pages_are told))
          (out_good (after_takes old.page_size count stop.written.pages) roots before behind tree (left_of count searched payload trunks) stop.cell write.plan taken write.sheets
          g.climb g.taken_good))
          write.refused
    ]

-- the chain of the cell that was replaced is loose
loose_chain : (grown written : Pages) (roots : List ℕ) (before behind : List Tree) (tree : Tree) (trunks : List Trunk) (row : Row) (plan : LeafPlan) (taken : List ℕ)
    (out : List Sheet) (c : IsClimb grown roots before tree behind trunks row.cell plan taken out) (w : Written grown written roots before tree behind trunks row taken out)
    → ((n : ℕ) → times n (pages_of tree) + times n row.chain + times n taken ≤ 1) → (was : LeafCell) → plan.replaced ≡ Some was
    → ((n : ℕ) → Among (chain_at row.cell.rowid c.way.rows) n → ¬ (Among (named_pages roots (before ++ w.put.tree ∷ behind) trunks) n))
    → IsLoose written was.overflow (was.payload_len - length was.local) (named_pages roots (before ++ w.put.tree ∷ behind) trunks)
loose_chain grown written roots before behind tree trunks row plan taken out c w once was is unnamed =
    let key : ℤ = row.cell.rowid in
    let rows : List Row = c.way.rows in
    let k = counted grown roots before behind tree trunks row.cell plan taken out c in
    let R : List LeafCell → Type 0 = λ l. plan.replaced ≡ cell_of key l in
    let found = sym (subst R c.way.cells_are c.planned.replaced) ∙ is in
    let r = row_of grown key rows was k.held.rows_are.each found in
    let gone : List ℕ = chain_at key rows in
    let C : List ℕ → Type 0 = λ l. IsChain written r.row.cell.overflow l r.has.rest in
    let F : LeafCell → Type 0 = λ x. IsChain written x.overflow gone r.has.rest × (length r.has.rest ≡ x.payload_len - length x.local) in
    let among : (n : ℕ) → Among r.row.chain n → Among gone n = λ n some. omega (arith, some, ap (times n) r.chain_is) in
    let chain = chain_stays grown written (λ n. ¬ (Among (numbers out) n)) r.row.cell.overflow r.row.chain r.has.rest w.keeps
    (λ n some written_too. omega (arith, among n some, written_too, once n, k.out_few n, k.gone_is n, k.gone_few n)) r.has.chained in
    let both = subst F r.cell_is (subst C (sym r.chain_is) chain, rest_length grown r.row r.has) in
    record { gone = gone; bytes = r.has.rest; chain = both.0; long = both.1; unnamed = unnamed }

chain_clean : FrontApart → HeaderInFront → OnePage → (old new : SpaceState) (root : ℕ) (key : ℤ) (payload roots : List ℕ) (before behind : List Tree) (tree : Tree)
    (trunks : List Trunk) (fault : SpaceFault) → IsTrue old.tells → below_all <ℤ key → key ≤ℤ greatest → IsWholeFor old.pages roots (before ++ tree ∷ behind) trunks
    → root_of tree ≡ root → (placed : Midway) (was : Option LeafCell) → PlacedCell old (midway old placed) root key payload was → FreeingRefused (midway old placed) new was fault
    → IsNoDamage fault
chain_clean front_apart front one_page old new root key payload roots before behind tree trunks fault told above below whole rooted placed None put refused = absurd refused
chain_clean front_apart front one_page old new root key payload roots before behind tree trunks fault told above below whole rooted placed (Some was) put refused =
    let w = put.before in
    let p = put.placed in
    let searched : Pages = w.searched.pages in
    let d : Descent = put.descent in
    let cell : LeafCell = put.cell in
    let mid : Pages = put.written.pages in
    let count : ℕ = p.climbed.count in
    let rest : List ℕ = drop (local_size searched.usable (length payload)) payload in
    let taken : List ℕ = taken_numbers old.page_size count mid in
    let chain_pages : List ℕ = chain_numbers old.page_size searched rest in
    let full : Pages = after_takes old.page_size count mid in
    let left : List Trunk = left_of count searched payload trunks in
    let row : Row = record { cell = cell; chain = chain_pages; payload = payload } in
    let W : Pages → Type 0 = λ q. IsWholeFor q roots (before ++ tree ∷ behind) trunks in
    let now = subst W (sym (w.way.stays.pages_stay told)) whole in
    let c = climbing old put.written p.met root key payload d cell p.plan p.sheets told above below w p.planned p.climbed in
    let g = grown front_apart one_page old.page_size searched mid root key payload d.levels.items d.leaf d.cells cell p.plan count p.sheets
    roots before behind tree trunks c now rooted in
    let leaves = p.leaves told in
    let write : AreWritten old.page_size p.met.pages placed.pages p.sheets = record {
      sized = p.steady.sizes.each told;
      size = leaves.only.only.size;
      used = leaves.only.used;
      each = λ different. each_written p.met.pages placed.pages p.sheets (leaves.each different);
      others = leaves.only.only.each;
      front = leaves.only.front;
      good = leaves.only.good 1;
    } in
    let A : Pages → Type 0 = λ q. AreWritten old.page_size q placed.pages p.sheets in
    let r = g.made_ready in
    let v = written_whole one_page front old.page_size full placed.pages roots before behind tree left row p.plan taken p.sheets g.climb g.has
    (subst A (p.climbed.took.pages_are told) write) (λ n some. r.there n (among-back n chain_pages taken some)) r.once in
    let k = counted full roots before behind tree left cell p.plan taken p.sheets g.climb in
    free_clean front_apart (midway old placed) new was.overflow (chained_len was) roots (before ++ v.put.tree ∷ behind) left fault told p.steady.sizes v.whole
    (loose_chain full placed.pages roots before behind tree left row p.plan taken p.sheets g.climb v (λ n. omega (arith, r.once n)) was (sym p.replaced_is)
    (λ n some named. omega (
      arith,
      some,
      named,
      r.once n,
      k.gone_is n,
      k.gone_few n,
      v.put.named n,
      split_named roots before behind v.put.tree left n,
      times-append n chain_pages taken,
    )))
    refused

pub soundly_refused : FrontApart → HeaderInFront → OnePage → OnePath → PathFinds → (old new : SpaceState) (root : ℕ) (key : ℤ) (payload : List ℕ) (fault : SpaceFault)
    → IsTrue old.tells → below_all <ℤ key → key ≤ℤ greatest → PutRefused old new root key payload fault → IsSoundlyRefused old.pages root fault
soundly_refused front_apart front one_page once finds old new root key payload fault told above below refused = record {
  each = λ roots before behind tree trunks whole rooted.
      let one = whole_one old.pages roots before behind tree whole.each_tree in
      let T : ℕ → Type 0 = λ r. IsWholeTree old.pages r tree in
      elim refused [
        | inl search ↦ search_clean once finds old new root key fault told search.1 tree (subst T (sym one.1.rooted ∙ rooted) one.1)
        | inr (inl stop) ↦ cell_clean front_apart old new root key payload roots (before ++ tree ∷ behind) trunks fault told whole stop
        | inr (inr (inl stop)) ↦ leaf_clean front_apart one_page old new root key payload roots before behind tree trunks fault told above below whole rooted stop
        | inr (inr (inr stop)) ↦ chain_clean front_apart front one_page old new root key payload roots before behind tree trunks fault told above below whole rooted
            stop.placed stop.was stop.before stop.refused
      ];
}
