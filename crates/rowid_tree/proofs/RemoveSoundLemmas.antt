-- A removal over whole pages names no page at fault.
use Rattle.std.proofs.Common.{◌≡◌, inl, inr, ℕ, suc, ◌*◌, ◌≤◌, ℤ, ◌<ℤ◌, ◌≤ℤ◌, reverse, List, [], ◌∷◌, ◌++◌, length, Option, None, Some, IsTrue}
use Rattle.std.proofs.Common.{refl, sym, ap, subst, ◌∙◌, arith, append_assoc, length-append}
use Rattle.std.proofs.lemmas.Bool.{cases_lt}
use Rattle.std.proofs.lemmas.List.{nil_from_length, reverse-append}
use Rattle.db_format.specs.Header.{HeaderInFront, greatest_length}
use Rattle.db_format.specs.declared.fault.SpaceFault.{SpaceFault}
use Rattle.db_format.specs.declared.fault.SpaceFault.TheVariants.{Failed, Memory, Bad, Corrupt, Large}
use Rattle.page_list.specs.Pages.{Pages, HasPage, IsGood, Among, AreSized}
use Rattle.page_list.specs.Freelist.{Trunk}
use Rattle.page_list.specs.Edits.{taken_numbers, after_takes}
use Rattle.page_pool.specs.Space.{SpaceState, HasSizes}
use Rattle.payload_chain.specs.Chains.{Midway, midway, FreeRefused}
use Rattle.tree_page.specs.declared.cell.InnerCell.{InnerCell}
use Rattle.tree_page.specs.declared.cell.LeafCell.{LeafCell}
use Rattle.tree_page.specs.declared.cell.PageCells.{PageCells}
use Rattle.tree_page.specs.Laws.{FrontApart, PageFits}
use Rattle.tree_page.specs.Page.{OnePage}
use Rattle.tree_model.specs.declared.ends.Fault.{Fault}
use Rattle.tree_model.specs.declared.ends.Fault.TheVariants.{BadPage, Broken}
use Rattle.tree_model.specs.declared.level.Level.{Level}
use Rattle.tree_model.specs.Walk.{IsFault, rest_of}
use Rattle.tree_model.specs.Tree.{Tree, Leaf, root_of, rows_of}
use Rattle.tree_model.specs.Held.{HasCells}
use Rattle.tree_model.specs.Whole.{below_all, greatest, IsWholeTree, IsWholeFor}
use Rattle.tree_model.specs.Laws.{OnePath, PathFinds}
use Rattle.tree_run.specs.Edit.{chain_at}
use Rattle.tree_run.specs.Node.{Piece}
use Rattle.tree_run.specs.Run.{Run, one, within, Behind, Nothing, Next}
use Rattle.page_cut.specs.declared.parts.Sheet.{Sheet}
use Rattle.tree_level.specs.Level.{numbers, Has}
use Rattle.tree_plan.specs.Plan.{cell_of}
use Rattle.tree_laws.proofs.DeepLemmas.{whole_one}
use Rattle.tree_shrink.specs.Root.{content_of}
use Rattle.tree_join.specs.Join.{IsLeafLeft, sibling_of}
use Rattle.tree_join.specs.declared.leaf.Taken.{Taken}
use Rattle.tree_put.specs.Way.{Beside, with_child, low_at, high_at, IsBeside, AreBeside, Stands, AreStanding}
use Rattle.tree_put.specs.Keeps.{AreWritten}
use Rattle.tree_put.proofs.CountLemmas.{levels_of}
use Rattle.tree_put.proofs.WayLemmas.{way_from, held_from}
use Rattle.tree_search.specs.declared.path.Descent.{Descent}
use Rattle.tree_search.specs.Search.{SearchRefused, IsNoDamage}
use Rattle.tree_remove.specs.Shrink.{MeetsBeside}
use Rattle.tree_remove.specs.Remove.{Rewritten, Settled, WayShrunk, TakeOverRefused, SettleRefused, StopsShrinking, RemoveRefused}
use Rattle.tree_removed.specs.Removes.{IsShrinking}
use Rattle.tree_removed.proofs.FitLemmas.{counted}
use Rattle.tree_removed.proofs.PairLemmas.{paired, numbered}
use Rattle.tree_removed.proofs.MovedLemmas.{in_one, has_content, other_held}
use Rattle.tree_removed.proofs.StepLemmas.{Searched, are_written, is_topped}
use Rattle.tree_removed.proofs.ToppedLemmas.{Topped, topped}
use Rattle.tree_removed.proofs.DoneLemmas.{Apart, AreGone, are_gone, with_tree, lost_unnamed, lost_given, chain_of, chain_unnamed}
use Rattle.tree_removed.proofs.StopLemmas.{left_after, on_grown, out_good, root_good, child_has}
use Rattle.rowid_tree.specs.Puts.{IsSoundlyRefused}
use Rattle.rowid_tree.proofs.CleanLemmas.{taking_clean, all_taken_good, put_clean, giving_clean, free_clean}
use Rattle.rowid_tree.proofs.SoundLemmas.{memory_clean, search_clean}

-- a page with cells can be gone over

no_fault : (pages : Pages) (above page : ℕ) (cells : PageCells) (fault : Fault) → HasCells pages page cells → IsFault pages 1 above page fault → ⊥
no_fault pages above page cells fault has (inl missing) = missing.0 has.there
no_fault pages above page cells fault has (inr (inl deep)) = omega (arith, deep.1)
no_fault pages above page cells fault has (inr (inr (inl bad))) = bad.2 has.good
no_fault pages above page cells fault has (inr (inr (inr unreadable))) = unreadable.3 cells has.reads

meets_clean : (old new : SpaceState) (AtFault : Fault → Type 0) (fault : SpaceFault) → IsTrue old.tells → ((f : Fault) → ¬ (AtFault f)) → SearchRefused old new AtFault fault
    → IsNoDamage fault
meets_clean old new AtFault Failed told none refused = tt
meets_clean old new AtFault Memory told none refused = tt
meets_clean old new AtFault (Bad page kept found) told none refused = none (BadPage page) (refused.1 told)
meets_clean old new AtFault (Corrupt page) told none refused = none (Broken page) (refused told)
meets_clean old new AtFault (Large pages) told none refused = tt

-- the page beside one of a way has cells

-- of a page without a cell it is its one child
sibling_alone : (level : Level) → level.cells ≡ [] → level.at ≡ 0 → sibling_of level ≡ level.right
sibling_alone level none first =
    let S : List InnerCell → ℕ → Type 0 = λ l i. sibling_of (record { number = level.number; cells = l; right = level.right; at = i }) ≡ level.right in
    let A : ℕ → Type 0 = λ i. S [] i in
    let B : List InnerCell → Type 0 = λ l. S l level.at in
    subst B (sym none) (subst A (sym first) refl)

front_none : (before : List Piece) (child : Tree) (behind : Behind) (cells : List InnerCell) (right : ℕ) → Has cells right (within before (one child) behind) → cells ≡ []
    → length before ≡ 0
front_none [] child behind cells right has none = refl
front_none (p ∷ before) child Nothing cells right has none = absurd (omega (arith, ap (λ (l : List InnerCell). length l) (has.cells_are ∙ none)))
front_none (p ∷ before) child (Next key rest) cells right has none = absurd (omega (arith, ap (λ (l : List InnerCell). length l) (has.cells_are ∙ none)))

beside_has : (pages : Pages) (low high : ℤ) (depth : ℕ) (key : ℤ) (child : Tree) (step : Beside) → IsBeside low high key child step → Stands pages low high depth child step
    → (cells : PageCells) × HasCells pages (sibling_of step.level) cells
beside_has pages low high depth key child step beside stands = elim (cases_lt 0 (length step.level.cells)) [
  | inl some ↦
      let p = paired low high key child step beside (omega (arith, some)) in
      let n = numbered low high key child step p beside in
      let H : ℕ → Type 0 = λ m. HasCells pages m (content_of p.other) in
      (content_of p.other, subst H (sym n.other) (has_content pages p.other (other_held pages low high depth child step p stands)))
  | inr none ↦
      let run : Run = within step.before (one child) step.behind in
      let empty : step.level.cells ≡ [] = nil_from_length step.level.cells (omega (arith, none)) in
      let first = front_none step.before child step.behind step.level.cells step.level.right beside.has empty in
      let H : ℕ → Type 0 = λ m. HasCells pages m (content_of run.last) in
      let alone = sibling_alone step.level empty (beside.at ∙ first) in
      (content_of run.last, subst H (beside.has.right_is ∙ sym alone) (has_content pages run.last stands.is.last_child.held))
]

head_is : (a b : Level) (xs ys : List Level) → a ∷ xs ≡ b ∷ ys → a ≡ b
head_is a b xs ys same = cc

tail_is : (a b : Level) (xs ys : List Level) → a ∷ xs ≡ b ∷ ys → xs ≡ ys
tail_is a b xs ys same = cc

way_has : (pages : Pages) (low high : ℤ) (depth : ℕ) (key : ℤ) (child : Tree) (steps : List Beside) (front : List Level) (level : Level) (back : List Level)
    → AreBeside low high key child steps → AreStanding pages low high depth child steps → levels_of steps ≡ front ++ level ∷ back
    → (cells : PageCells) × HasCells pages (sibling_of level) cells
way_has pages low high depth key child [] front level back beside standing same =
    absurd (omega (arith, ap (λ (l : List Level). length l) same, length-append front (level ∷ back)))
way_has pages low high depth key child (step ∷ steps) [] level back beside standing same =
    let is = head_is step.level level (levels_of steps) back same in
    let P : Level → Type 0 = λ l. (cells : PageCells) × HasCells pages (sibling_of l) cells in
    subst P is (beside_has pages (low_at low steps) (high_at high steps) depth key child step beside.0 standing.0)
way_has pages low high depth key child (step ∷ steps) (l ∷ front) level back beside standing same =
    way_has pages low high (suc depth) key (with_child child step) steps front level back beside.1 standing.2 (tail_is step.level l (levels_of steps) (front ++ level ∷ back) same)

reversed : (front back : List Level) (level : Level) → reverse (front ++ level ∷ back) ≡ reverse back ++ level ∷ reverse front
reversed front back level =
    reverse-append front (level ∷ back) ∙ ap (λ (l : List Level). l ++ reverse front) (reverse-append (level ∷ []) back)
    ∙ append_assoc (reverse back) (level ∷ []) (reverse front)

-- so the pages beside those of a way are gone over
shrink_clean : FrontApart → OnePage → (old new : SpaceState) (root : ℕ) (key : ℤ) (roots : List ℕ) (before behind : List Tree) (tree : Tree) (trunks : List Trunk)
    (fault : SpaceFault) → IsTrue old.tells → HasSizes old → below_all <ℤ key → key ≤ℤ greatest → IsWholeFor old.pages roots (before ++ tree ∷ behind) trunks → root_of tree ≡ root
    → StopsShrinking old new root key fault → IsNoDamage fault
shrink_clean front_apart one_page old new root key roots before behind tree trunks fault told sizes above below whole rooted stop =
    let d : Descent = stop.descent in
    let one = whole_one old.pages roots before behind tree whole.each_tree in
    let T : ℕ → Type 0 = λ r. IsWholeTree old.pages r tree in
    let way = way_from one_page d.levels.items old.pages root tree key d.leaf d.cells (subst T (sym one.1.rooted ∙ rooted) one.1) above below (stop.found told) in
    let held = held_from old.pages one.0 tree key d.levels.items d.leaf d.cells one.1 way in
    elim stop.refused [
      | inl meets ↦
          meets_clean old new (MeetsBeside old.pages d.levels.items) fault told
          (λ f m.
          let L : List Level → Type 0 = λ l. reverse d.levels.items ≡ reverse l in
          let same = sym way.levels_are ∙ subst L m.among refl ∙ reversed m.front m.back m.level in
          let has = way_has old.pages below_all greatest 1 key (Leaf d.leaf way.rows) way.steps (reverse m.back) m.level (reverse m.front) way.beside held.standing same in
          no_fault old.pages m.level.number (sibling_of m.level) has.0 f has.1 m.is)
          meets.1
      | inr climb ↦ taking_clean front_apart old new _ roots (before ++ tree ∷ behind) trunks fault told sizes whole climb
    ]

-- what is so once the pages are taken

pub record Underway (page_size : ℕ) (grown : Pages) (roots : List ℕ) (before : List Tree) (tree : Tree) (behind : List Tree) (free : List Trunk) (key : ℤ) (fresh : List ℕ)
    (out : List Sheet) (lost : List ℕ) (over : Option ℕ) (cell : LeafCell) : Type 0 where
  pub is : IsShrinking grown roots before tree behind free key fresh out lost over
  pub has : cell_of key is.cells ≡ Some cell
  pub once : Apart roots before behind tree free fresh
  pub there : (n : ℕ) → Among fresh n → HasPage grown n
  pub good : (n : ℕ) → Among fresh n → IsGood grown n
  pub sized : AreSized page_size grown

underway : FrontApart → OnePage → (old : SpaceState) (grown : Midway) (root : ℕ) (key : ℤ) (taken : Taken) (shrunk : _) (roots : List ℕ) (before behind : List Tree)
    (tree : Tree) (trunks : List Trunk) → IsTrue old.tells → HasSizes old → below_all <ℤ key → key ≤ℤ greatest → IsWholeFor old.pages roots (before ++ tree ∷ behind) trunks
    → root_of tree ≡ root → (b : WayShrunk old (midway old grown) root key taken shrunk)
    → Underway old.page_size grown.pages roots before tree behind (left_after b.to.count old.pages trunks) key (taken_numbers old.page_size b.to.count old.pages)
    shrunk.out.items shrunk.lost.items shrunk.over taken.cell
underway front_apart one_page old grown root key taken shrunk roots before behind tree trunks told sizes above below whole rooted b =
    let d : Descent = b.descent in
    let count : ℕ = b.to.count in
    let fresh : List ℕ = taken_numbers old.page_size count old.pages in
    let is : grown.pages ≡ after_takes old.page_size count old.pages = b.to.took.pages_are told in
    let steady = b.to.took.steady in
    let E : Pages → Type 0 = λ p. p.size * old.page_size ≤ greatest_length in
    let few = subst E is steady.sizes.few in
    let S : Pages → Type 0 = λ p. AreSized old.page_size p in
    let L : List LeafCell → Type 0 = λ l. IsLeafLeft d.leaf old.pages.usable l b.left in
    let way : Searched old.page_size old.pages root key = record {
      size_of_page = sizes.size_of_page;
      spare = sizes.spare;
      sized = sizes.each told;
      above = above;
      below = below;
      levels = d.levels.items;
      leaf = d.leaf;
      cells = d.cells;
      descends = b.found told;
    } in
    let g = on_grown front_apart one_page old.page_size old.pages root key roots before behind tree trunks way whole rooted
    (record {
      cell = taken.cell;
      has = b.taken_is.cell;
      left = b.left;
      left_is = subst L b.taken_is.others b.left_is;
      count = count;
      few = few;
      out = shrunk.out.items;
      lost = shrunk.lost.items;
      over = shrunk.over;
      shrunk = b.to.are told;
    }) in
    let U : Pages → Type 0 = λ p. Underway old.page_size p roots before tree behind (left_after count old.pages trunks) key fresh shrunk.out.items
    shrunk.lost.items shrunk.over taken.cell in
    subst U (sym is)
    (record {
      is = g.is;
      has = g.has;
      once = g.once;
      there = g.taken_there;
      good = all_taken_good front_apart old.page_size count old.pages roots (before ++ tree ∷ behind) trunks sizes.size_of_page sizes.spare (sizes.each told) whole few;
      sized = subst S is (steady.sizes.each told);
    })

-- the root takes over its one child

over_clean : OnePage → (s new : SpaceState) (written : Midway) (roots : List ℕ) (before behind : List Tree) (tree : Tree) (free : List Trunk) (key : ℤ) (fresh : List ℕ)
    (out : List Sheet) (lost : List ℕ) (over : Option ℕ) (fault : SpaceFault) → IsTrue s.tells → IsShrinking s.pages roots before tree behind free key fresh out lost over
    → ((n : ℕ) → Among fresh n → HasPage s.pages n) → AreWritten s.page_size s.pages written.pages out → IsGood written.pages (root_of tree)
    → TakeOverRefused (midway s written) new (root_of tree) over fault → IsNoDamage fault
over_clean one_page s new written roots before behind tree free key fresh out lost None fault told is there write good refused = absurd refused
over_clean one_page s new written roots before behind tree free key fresh out lost (Some child) fault told is there write good (inl read) =
    let has = child_has one_page s.page_size s.pages written.pages roots before behind tree free key fresh out lost child is write there in
    meets_clean (midway s written) new (IsFault written.pages 1 (root_of tree) child) fault told (λ f m. no_fault written.pages (root_of tree) child has.0 f has.1 m) read.1
over_clean one_page s new written roots before behind tree free key fresh out lost (Some child) fault told is there write good (inr top) =
    put_clean (midway s written) new (root_of tree ∷ []) fault told (in_one (IsGood written.pages) (root_of tree) good) top.root_refused.refused

-- all is written

record Finished (page_size : ℕ) (grown topped : Pages) (roots : List ℕ) (before : List Tree) (tree : Tree) (behind : List Tree) (free : List Trunk) (key : ℤ) (fresh : List ℕ)
    (out : List Sheet) (all : List ℕ) : Type 0 where
  top : Topped page_size grown topped tree key fresh out all
  whole : IsWholeFor topped roots (before ++ top.removed.tree ∷ behind) free
  gone : AreGone roots before behind top.removed.tree free (chain_at key (rows_of tree) ++ all)

finished : HeaderInFront → OnePage → PageFits → (page_size : ℕ) (grown topped_pages : Pages) (roots : List ℕ) (before behind : List Tree) (tree : Tree) (free : List Trunk) (key : ℤ)
    (fresh : List ℕ) (shrunk : _) (cell : LeafCell) (also : List ℕ) → Rewritten grown topped_pages (root_of tree) shrunk also
    → Underway page_size grown roots before tree behind free key fresh shrunk.out.items shrunk.lost.items shrunk.over cell
    → Finished page_size grown topped_pages roots before tree behind free key fresh shrunk.out.items (shrunk.lost.items ++ also)
finished front one_page page_fits page_size grown topped_pages roots before behind tree free key fresh shrunk cell also r u =
    let out : List Sheet = shrunk.out.items in
    let lost : List ℕ = shrunk.lost.items in
    let all : List ℕ = lost ++ also in
    let k = counted grown roots before behind tree free key fresh out lost shrunk.over u.is in
    let write = are_written page_size grown r.written out u.sized r.wrote in
    let t = topped one_page page_fits page_size grown r.written topped_pages roots before behind tree free key fresh out lost all shrunk.over u.is write u.there
    (is_topped page_size r.written topped_pages (root_of tree) lost shrunk.over also write.sized r.over) in
    record {
      top = t;
      whole = with_tree front page_size grown topped_pages roots before behind tree free key fresh out all u.is.whole t u.once (λ n. omega (arith, k.out_few n));
      gone = are_gone page_size grown topped_pages roots before behind tree free key fresh out all u.is.whole u.once t;
    }

settle_clean : FrontApart → HeaderInFront → OnePage → PageFits → (s new : SpaceState) (roots : List ℕ) (before behind : List Tree) (tree : Tree) (free : List Trunk) (key : ℤ)
    (fresh : List ℕ) (shrunk : _) (cell : LeafCell) (fault : SpaceFault) → IsTrue s.tells → SettleRefused s new (root_of tree) shrunk fault
    → Underway s.page_size s.pages roots before tree behind free key fresh shrunk.out.items shrunk.lost.items shrunk.over cell → IsNoDamage fault
settle_clean front_apart front one_page page_fits s new roots before behind tree free key fresh shrunk cell fault told (inl write) u =
    put_clean s new (numbers shrunk.out.items) fault told
    (out_good s.pages roots before behind tree free key fresh shrunk.out.items shrunk.lost.items shrunk.over u.is u.good) write.refused
settle_clean front_apart front one_page page_fits s new roots before behind tree free key fresh shrunk cell fault told (inr (inl over)) u =
    let wrote = over.wrote told in
    over_clean one_page s new over.written roots before behind tree free key fresh shrunk.out.items shrunk.lost.items shrunk.over fault told u.is u.there
    (are_written s.page_size s.pages over.written.pages shrunk.out.items u.sized wrote)
    (wrote.only.good (root_of tree) (root_good s.pages roots before behind tree free u.is.whole).1) over.refused
settle_clean front_apart front one_page page_fits s new roots before behind tree free key fresh shrunk cell fault told (inr (inr giving)) u =
    let all : List ℕ = shrunk.lost.items ++ giving.also in
    let f = finished front one_page page_fits s.page_size s.pages giving.topped.pages roots before behind tree free key fresh shrunk cell giving.also (giving.rewritten told) u in
    elim giving.refused [
      | inl none ↦ memory_clean fault none.0
      | inr stops ↦ giving_clean front_apart (midway s giving.topped) new all roots (before ++ f.top.removed.tree ∷ behind) free fault told giving.steady.sizes f.whole
          (lost_unnamed s.page_size s.pages giving.topped.pages roots before behind tree free key fresh shrunk.out.items all u.is.whole f.top f.gone) stops
    ]

-- and the chain of the row

chain_clean : FrontApart → HeaderInFront → OnePage → PageFits → (new : SpaceState) (grown : Pages) (s : SpaceState) (roots : List ℕ) (before behind : List Tree)
    (tree : Tree) (free : List Trunk) (key : ℤ) (fresh : List ℕ) (shrunk : _) (cell : LeafCell) (fault : SpaceFault) → IsTrue s.tells → HasSizes s
    → Settled s.page_size grown s.pages (root_of tree) shrunk
    → Underway s.page_size grown roots before tree behind free key fresh shrunk.out.items shrunk.lost.items shrunk.over cell
    → FreeRefused s new cell.overflow (rest_of cell) fault → IsNoDamage fault
chain_clean front_apart front one_page page_fits new grown s roots before behind tree free key fresh shrunk cell fault told sizes done u refused =
    let size : ℕ = s.page_size in
    let out : List Sheet = shrunk.out.items in
    let lost : List ℕ = shrunk.lost.items in
    let all : List ℕ = lost ++ done.also in
    let chain : List ℕ = chain_at key (rows_of tree) in
    let f = finished front one_page page_fits size grown done.topped roots before behind tree free key fresh shrunk cell done.also done.rewritten u in
    let tree' : Tree = f.top.removed.tree in
    let first = lost_given front_apart size grown done.topped s.pages roots before behind tree free key fresh out all u.is.whole f.top f.gone f.whole done.gives.are in
    let row = chain_of size grown done.topped s.pages roots before behind tree free key fresh out lost all shrunk.over cell u.is f.top f.gone first u.has in
    free_clean front_apart s new cell.overflow (rest_of cell) roots (before ++ tree' ∷ behind) first.given.trunks' fault told sizes first.given.whole
    (record {
      gone = row.chain;
      bytes = row.rest;
      chain = row.is;
      long = row.long;
      unnamed = chain_unnamed size done.topped s.pages roots before behind tree' free chain all cell f.gone first row;
    })
    refused

pub removal_clean : FrontApart → HeaderInFront → OnePage → PageFits → OnePath → PathFinds → (old new : SpaceState) (root : ℕ) (key : ℤ) (fault : SpaceFault)
    → IsTrue old.tells → HasSizes old → below_all <ℤ key → key ≤ℤ greatest → RemoveRefused old new root key fault → IsSoundlyRefused old.pages root fault
removal_clean front_apart front one_page page_fits once finds old new root key fault told sizes above below refused = record {
  each = λ roots before behind tree trunks whole rooted.
      let one = whole_one old.pages roots before behind tree whole.each_tree in
      let T : ℕ → Type 0 = λ r. IsWholeTree old.pages r tree in
      elim refused [
        | inl search ↦ search_clean once finds old new root key fault told search.1 tree (subst T (sym one.1.rooted ∙ rooted) one.1)
        | inr (inl stop) ↦ shrink_clean front_apart one_page old new root key roots before behind tree trunks fault told sizes above below whole rooted stop
        | inr (inr (inl stop)) ↦
            let b = stop.before in
            let u = underway front_apart one_page old stop.grown root key stop.taken stop.shrunk roots before behind tree trunks told sizes above below whole rooted b in
            let R : ℕ → Type 0 = λ r. SettleRefused (midway old stop.grown) new r stop.shrunk fault in
            settle_clean front_apart front one_page page_fits (midway old stop.grown) new roots before behind tree (left_after b.to.count old.pages trunks) key
            (taken_numbers old.page_size b.to.count old.pages) stop.shrunk stop.taken.cell fault told (subst R (sym rooted) stop.refused) u
        | inr (inr (inr stop)) ↦
            let b = stop.before in
            let u = underway front_apart one_page old stop.grown root key stop.taken stop.shrunk roots before behind tree trunks told sizes above below whole rooted b in
            let D : ℕ → Type 0 = λ r. Settled old.page_size stop.grown.pages stop.settled.pages r stop.shrunk in
            chain_clean front_apart front one_page page_fits new stop.grown.pages (midway old stop.settled) roots before behind tree (left_after b.to.count old.pages trunks) key
            (taken_numbers old.page_size b.to.count old.pages) stop.shrunk stop.taken.cell fault told stop.steady.sizes (subst D (sym rooted) (stop.done told)) u stop.refused
      ];
}
