-- A removal keeps pages whole.
use Rattle.std.proofs.Common.{◌≡◌, ◌≢◌, ◌⊎◌, inl, inr, ℕ, zero, suc, ◌+◌, ◌-◌, ◌*◌, ◌≤◌, max, Bool, true, false, ℤ, ◌≤ℤ◌, List, [], ◌∷◌, ◌++◌, length, map, Option, Some, None, is_some, IsTrue, refl}
use Rattle.std.proofs.Common.{sym, ap, subst, ◌∙◌, arith, length-append}
use Rattle.std.specs.List.{flat_map}
use Rattle.std.proofs.lemmas.Bool.{cases_lt}
use Rattle.db_format.specs.Header.{HeaderInFront, greatest_length}
use Rattle.page_list.specs.Pages.{Pages, HasPage, SamePage, times, Among}
use Rattle.page_list.specs.Freelist.{Trunk, free_pages, take_each}
use Rattle.page_list.specs.Chain.{IsChain}
use Rattle.page_list.specs.Edits.{taken_numbers, after_takes, after_gives}
use Rattle.page_list.proofs.EditLemmas.{same-on}
use Rattle.page_list.proofs.TimesLemmas.{times-append, times-same, among-back, not_among}
use Rattle.tree_page.specs.Laws.{FrontApart, PageFits}
use Rattle.tree_page.specs.declared.cell.LeafCell.{LeafCell}
use Rattle.tree_page.specs.Page.{OnePage}
use Rattle.tree_model.specs.Tree.{Row, Tree, Leaf, rowid, root_of, rows_of, pages_of}
use Rattle.tree_model.specs.Whole.{below_all, greatest, IsWholeTree, IsWholeFor, first_page, named_pages}
use Rattle.tree_model.specs.Laws.{Keeps, shown, row_at}
use Rattle.tree_model.specs.Need.{use_of}
use Rattle.tree_model.specs.declared.level.Level.{Level}
use Rattle.tree_model.specs.declared.ends.PathEnd.TheVariants.{HasPayload}
use Rattle.tree_model.proofs.IntLemmas.{le_is, not_le_is, by_le}
use Rattle.tree_model.proofs.OnePathLemmas.{rest_length}
use Rattle.tree_model.proofs.OthersLemmas.{others, split_named}
use Rattle.tree_model.proofs.StayLemmas.{chain_stays}
use Rattle.tree_model.proofs.WholeLemmas.{flat_append}
use Rattle.tree_run.specs.Edit.{chain_at, without}
use Rattle.tree_run.proofs.EditLemmas.{taken_later, not_taken}
use Rattle.tree_run.proofs.PutLemmas.{by_place, passed}
use Rattle.tree_level.specs.Level.{numbers}
use Rattle.page_cut.specs.declared.parts.Sheet.{Sheet}
use Rattle.tree_plan.specs.Plan.{cell_of}
use Rattle.tree_laws.specs.Front.{FreelistFront}
use Rattle.tree_laws.specs.Whole.{missing_in}
use Rattle.tree_laws.proofs.CountLemmas.{tally, tally_all, pages_add_up}
use Rattle.tree_laws.proofs.DeepLemmas.{whole_one}
use Rattle.tree_laws.proofs.FrontLemmas.{top_count}
use Rattle.tree_laws.proofs.KeptLemmas.{front_steps, header_front, same_front}
use Rattle.tree_laws.proofs.RangeLemmas.{named_there}
use Rattle.tree_laws.proofs.ReplaceLemmas.{tree_replaced}
use Rattle.tree_search.specs.declared.path.Descent.{Descent}
use Rattle.tree_search.specs.Search.{Descends}
use Rattle.tree_join.specs.Join.{IsLeafLeft}
use Rattle.tree_join.specs.Leaf.{other_cells}
use Rattle.tree_put.specs.Way.{IsWay}
use Rattle.tree_put.specs.Keeps.{IsGiven}
use Rattle.tree_put.proofs.WayLemmas.{way_from, held_from}
use Rattle.tree_put.proofs.TookLemmas.{as_many_taken, took}
use Rattle.tree_put.proofs.PreparedLemmas.{none_needed, chain_count, chain_numbers, prepared}
use Rattle.tree_put.proofs.RowLemmas.{told_of, row_of}
use Rattle.tree_remove.specs.Shrink.{AreShrunk}
use Rattle.tree_removed.specs.Removes.{IsShrinking}
use Rattle.tree_removed.specs.Keeps.{IsRemoval, without_shown, IsRemoved, RemoveKeepsWhole}
use Rattle.tree_removed.proofs.RemovesLemmas.{row_at_key}
use Rattle.tree_removed.proofs.FitLemmas.{tree_above_one, counted}
use Rattle.tree_removed.proofs.MovedLemmas.{shrunk_moves}
use Rattle.tree_removed.proofs.GivenLemmas.{AreUnnamed, Gave, gave, chain_given}
use Rattle.tree_removed.proofs.StepLemmas.{Searched, IsTopped, RowShrunk, RowRemoved, removed_size, row_steps}
use Rattle.tree_removed.proofs.ToppedLemmas.{Topped, topped}

-- the rows as a caller sees them

shown_without : (key : ℤ) (rows : List Row) → map shown (without key rows) ≡ without_shown key (map shown rows)
shown_without key [] = refl
shown_without key (r ∷ more) =
    let inner = shown_without key more in
    by_le key (rowid r)
    (λ at. let a = le_is key (rowid r) at in
    by_le (rowid r) key
    (λ back. let b = le_is (rowid r) key back in cc)
    (λ above. let b = not_le_is (rowid r) key above in cc))
    (λ past. let a = not_le_is key (rowid r) past in cc)

row_here : (key : ℤ) (r : Row) (more : List Row) → key ≤ℤ rowid r → rowid r ≤ℤ key → row_at key (r ∷ more) ≡ HasPayload r.payload
row_here key r more at back = let a = le_is key (rowid r) at in let b = le_is (rowid r) key back in cc

-- rows without a rowid that none of them has
without_none : (key : ℤ) (rows : List Row) → ((was : List ℕ) → row_at key rows ≡ HasPayload was → ⊥) → without key rows ≡ rows
without_none key [] none = refl
without_none key (r ∷ more) none = by_place key r
    (λ past. (taken_later key r more past).0 ∙ ap (λ (l : List Row). r ∷ l) (without_none key more (λ was is. none was (passed key r more past ∙ is))))
    (λ at back. absurd (none r.payload (row_here key r more at back)))
    (λ above. (not_taken key r more above).0)

-- numbers that stand in another list at least as often are no more than that list has

tally_less : (xs ys : List ℕ) (size : ℕ) → ((n : ℕ) → times n xs ≤ times n ys) → tally xs size ≤ tally ys size
tally_less xs ys zero less = omega arith
tally_less xs ys (suc n) less = omega (arith, less (suc n), tally_less xs ys n less)

no_longer : (pages : Pages) (xs ys : List ℕ) → ((n : ℕ) → times n xs ≤ times n ys) → ((n : ℕ) → Among ys n → HasPage pages n) → length xs ≤ length ys
no_longer pages xs ys less there =
    omega (
      arith,
      tally_less xs ys pages.size less,
      tally_all xs pages.size (λ n some. let has = there n (omega (arith, some, less n)) in (has.least, has.most)),
      tally_all ys pages.size (λ n some. let has = there n some in (has.least, has.most)),
    )

-- one tree is a part of all that is used
use_least : (roots : List ℕ) (before behind : List Tree) (tree : Tree) → length (pages_of tree) ≤ use_of roots (before ++ tree ∷ behind)
use_least roots before behind tree =
    omega (
      arith,
      length-append (first_page roots) (flat_map pages_of (before ++ tree ∷ behind)),
      ap (λ (l : List ℕ). length l) (flat_append before (tree ∷ behind)),
      length-append (flat_map pages_of before) (flat_map pages_of (tree ∷ behind)),
      length-append (pages_of tree) (flat_map pages_of behind),
    )

at_most : (new old unnamed uses uses' added size : ℕ) → new ≡ size → (size ≡ old) ⊎ (size ≡ added + uses + unnamed) → added ≤ uses' → new ≤ max old (unnamed + uses + uses')
at_most new old unnamed uses uses' added size is (inl same) less = omega (arith, is, same)
at_most new old unnamed uses uses' added size is (inr more) less = omega (arith, is, more, less)

-- the way of the search

way_of : OnePage → (page_size : ℕ) (old : Pages) (root : ℕ) (key : ℤ) (roots : List ℕ) (before behind : List Tree) (tree : Tree) (trunks : List Trunk)
    → (d : Searched page_size old root key) → IsWholeFor old roots (before ++ tree ∷ behind) trunks → root_of tree ≡ root → IsWay key tree d.levels d.leaf d.cells
way_of one_page page_size old root key roots before behind tree trunks d whole rooted =
    let one = whole_one old roots before behind tree whole.each_tree in
    let T : ℕ → Type 0 = λ r. IsWholeTree old r tree in
    way_from one_page d.levels old root tree key d.leaf d.cells (subst T (sym one.1.rooted ∙ rooted) one.1) d.above d.below d.descends

-- there was no such row: nothing has changed

not_true : IsTrue false → ⊥
not_true is = cc

none_removed : OnePage → (page_size : ℕ) (old : Pages) (root : ℕ) (key : ℤ) (roots : List ℕ) (before behind : List Tree) (tree : Tree) (trunks : List Trunk)
    → (d : Searched page_size old root key) → IsWholeFor old roots (before ++ tree ∷ behind) trunks → root_of tree ≡ root → cell_of key d.cells ≡ None
    → IsRemoved old old roots before tree behind trunks key false
none_removed one_page page_size old root key roots before behind tree trunks d whole rooted none =
    let one = whole_one old roots before behind tree whole.each_tree in
    let way = way_of one_page page_size old root key roots before behind tree trunks d whole rooted in
    let held = held_from old one.0 tree key d.levels d.leaf d.cells one.1 way in
    let found : cell_of key (map (λ r. r.cell) way.rows) ≡ None = ap (cell_of key) (sym way.cells_are) ∙ none in
    let told = told_of old (row_at_key key) 1 (Leaf d.leaf way.rows) tree way.rows below_all greatest way.steps false way.beside held.standing way.is refl
    (sym (ap (λ (o : Option LeafCell). is_some o) found)) in
    let stays : (n : ℕ) → SamePage old old n = λ n. record { bytes_stay = refl; mark_stays = refl } in
    record {
      tree' = tree;
      trunks' = trunks;
      whole = whole;
      rooted = refl;
      rows = ap (map shown) (sym (without_none key (rows_of tree) (λ was is. not_true (told.1 (was, is))))) ∙ shown_without key (rows_of tree);
      told = told;
      unnamed = λ n there not_named. record { unnamed = not_named; same = stays n };
      none_lost = λ n there not_named. (there, not_named);
      front = same_front old old (stays 1);
      no_fewer = omega arith;
      bound = omega arith;
    }

-- the pages are whole with the new tree, while some are still to be given back
pub with_tree : HeaderInFront → (page_size : ℕ) (old new : Pages) (roots : List ℕ) (before behind : List Tree) (tree : Tree) (trunks : List Trunk) (key : ℤ) (taken : List ℕ)
    (out : List Sheet) (all : List ℕ) → IsWholeFor old roots (before ++ tree ∷ behind) trunks → (t : Topped page_size old new tree key taken out all)
    → ((n : ℕ) → others roots before behind trunks n + times n (pages_of tree) + times n taken ≤ 1)
    → ((n : ℕ) → times n (numbers out) ≤ times n taken + times n (pages_of tree)) → IsWholeFor new roots (before ++ t.removed.tree ∷ behind) trunks
with_tree front page_size old new roots before behind tree trunks key taken out all whole t once few =
    let tree' : Tree = t.removed.tree in
    let split = split_named roots before behind tree trunks in
    let split' = split_named roots before behind tree' trunks in
    let now = t.removed.named in
    let W : ℕ → Type 0 = λ root. IsWholeTree new root tree' in
    tree_replaced front old new roots before behind tree tree' trunks whole (λ root rooted. subst W rooted t.removed.whole)
    (record {
      different = record { once = λ n. omega (arith, now n, once n) };
      free = λ n some. elim (cases_lt 0 (times n (pages_of tree))) [
        | inl was ↦ inl (omega (arith, was))
        | inr none ↦ inr (λ named. omega (arith, some, none, named, now n, once n, split n))
      ];
    })
    (record {
      used = t.used;
      there = λ n kept is. record { least = is.least; most = omega (arith, is.most, t.size) };
      same = λ n kept.
          let beside : 1 ≤ others roots before behind trunks n = omega (arith, kept.0, split' n, not_among n (pages_of tree') kept.1) in
          t.others n (λ written. omega (arith, written, beside, once n, few n))
          (λ same. omega (arith, beside, once n, top_count n tree, ap (λ m. times n (m ∷ [])) same, times-same n));
    })
    (record { front = t.front; good = t.good whole.header.good }) t.size

-- the pages that are gone are given back, and then the chain of the row
record GivenBack (old new : Pages) (roots : List ℕ) (before : List Tree) (tree : Tree) (behind : List Tree) (trunks : List Trunk) (taken : List ℕ) (tree' : Tree) (gone : List ℕ) : Type 0 where
  trunks' : List Trunk
  whole : IsWholeFor new roots (before ++ tree' ∷ behind) trunks'
  size : new.size ≡ old.size
  named : (n : ℕ) → times n (named_pages roots (before ++ tree' ∷ behind) trunks') ≡ others roots before behind trunks n + times n (pages_of tree') + times n gone
  stays : (n : ℕ) → n ≢ 1 → others roots before behind trunks n + times n (pages_of tree) + times n taken ≡ 0 → SamePage old new n
  kept : FreelistFront old new

abbrev pub Apart : List ℕ → List Tree → List Tree → Tree → List Trunk → List ℕ → Type 0
Apart roots before behind tree trunks taken = (n : ℕ) → others roots before behind trunks n + times n (pages_of tree) + times n taken ≤ 1

-- the pages that are gone are of the tree below its root, and nothing names them then
pub record AreGone (roots : List ℕ) (before behind : List Tree) (tree' : Tree) (trunks : List Trunk) (gone : List ℕ) : Type 0 where
  pub above : (n : ℕ) → Among gone n → 2 ≤ n
  pub nowhere : (n : ℕ) → Among gone n → (others roots before behind trunks n ≡ 0) × (times n (pages_of tree') ≡ 0)
  pub different : (n : ℕ) → times n gone ≤ 1

pub are_gone : (page_size : ℕ) (old new : Pages) (roots : List ℕ) (before behind : List Tree) (tree : Tree) (trunks : List Trunk) (key : ℤ) (taken : List ℕ) (out : List Sheet)
    (all : List ℕ) → IsWholeFor old roots (before ++ tree ∷ behind) trunks → Apart roots before behind tree trunks taken → (t : Topped page_size old new tree key taken out all)
    → AreGone roots before behind t.removed.tree trunks (chain_at key (rows_of tree) ++ all)
are_gone page_size old new roots before behind tree trunks key taken out all whole once t = record {
  above = λ n some. tree_above_one old roots before behind tree trunks whole n (omega (arith, some, t.gone_few n))
      (λ same. omega (arith, some, t.gone_few n, once n, ap (λ m. times n (m ∷ [])) same, times-same n));
  nowhere = λ n some. (omega (arith, some, t.gone_few n, once n), omega (arith, some, t.gone_few n, once n, t.removed.named n));
  different = λ n. omega (arith, t.gone_few n, once n);
}

pub lost_unnamed : (page_size : ℕ) (old new : Pages) (roots : List ℕ) (before behind : List Tree) (tree : Tree) (trunks : List Trunk) (key : ℤ) (taken : List ℕ)
    (out : List Sheet) (all : List ℕ) → IsWholeFor old roots (before ++ tree ∷ behind) trunks → (t : Topped page_size old new tree key taken out all)
    → AreGone roots before behind t.removed.tree trunks (chain_at key (rows_of tree) ++ all)
    → AreUnnamed new all (named_pages roots (before ++ t.removed.tree ∷ behind) trunks)
lost_unnamed page_size old new roots before behind tree trunks key taken out all whole t gone =
    let tree' : Tree = t.removed.tree in
    let chain : List ℕ = chain_at key (rows_of tree) in
    let inside : (n : ℕ) → Among all n → Among (chain ++ all) n = λ n some. among-back n chain all some in
    record {
      different = record { once = λ n. omega (arith, gone.different n, times-append n chain all) };
      each = λ n some.
          let there = named_there old roots (before ++ tree ∷ behind) trunks whole n
          (omega (arith, inside n some, t.gone_few n, split_named roots before behind tree trunks n)) in
          (gone.above n (inside n some), record { least = there.least; most = omega (arith, there.most, t.size) }, t.each_good n some);
      unnamed = λ n some named. let none = gone.nowhere n (inside n some) in omega (arith, named, none.0, none.1, split_named roots before behind tree' trunks n);
    }

pub lost_given : FrontApart → (page_size : ℕ) (old new given : Pages) (roots : List ℕ) (before behind : List Tree) (tree : Tree) (trunks : List Trunk) (key : ℤ) (taken : List ℕ)
    (out : List Sheet) (all : List ℕ) → IsWholeFor old roots (before ++ tree ∷ behind) trunks → (t : Topped page_size old new tree key taken out all)
    → AreGone roots before behind t.removed.tree trunks (chain_at key (rows_of tree) ++ all) → IsWholeFor new roots (before ++ t.removed.tree ∷ behind) trunks
    → given ≡ after_gives page_size all new → Gave page_size new given roots (before ++ t.removed.tree ∷ behind) trunks all
lost_given front_apart page_size old new given roots before behind tree trunks key taken out all whole t gone topped_whole given_is =
    let tree' : Tree = t.removed.tree in
    let G : Pages → Type 0 = λ q. Gave page_size new q roots (before ++ tree' ∷ behind) trunks all in
    let loose = lost_unnamed page_size old new roots before behind tree trunks key taken out all whole t gone in
    subst G (sym given_is) (gave front_apart page_size new roots (before ++ tree' ∷ behind) trunks all t.sized topped_whole loose.different loose.each loose.unnamed)

-- the chain of the row, on the pages then
pub record ChainOf (given : Pages) (cell : LeafCell) (gone : List ℕ) : Type 0 where
  pub chain : List ℕ
  pub rest : List ℕ
  pub is : IsChain given cell.overflow chain rest
  pub long : length rest ≡ cell.payload_len - length cell.local
  pub same : (n : ℕ) → times n chain ≡ times n gone

pub chain_of : (page_size : ℕ) (old new given : Pages) (roots : List ℕ) (before behind : List Tree) (tree : Tree) (trunks : List Trunk) (key : ℤ) (taken : List ℕ)
    (out : List Sheet) (lost all : List ℕ) (above : Option ℕ) (cell : LeafCell) → (c : IsShrinking old roots before tree behind trunks key taken out lost above)
    → (t : Topped page_size old new tree key taken out all) → AreGone roots before behind t.removed.tree trunks (chain_at key (rows_of tree) ++ all)
    → Gave page_size new given roots (before ++ t.removed.tree ∷ behind) trunks all → cell_of key c.cells ≡ Some cell → ChainOf given cell (chain_at key (rows_of tree))
chain_of page_size old new given roots before behind tree trunks key taken out lost all above cell c t gone first has =
    let k = counted old roots before behind tree trunks key taken out lost above c in
    let chain : List ℕ = chain_at key (rows_of tree) in
    let row = row_of old key c.way.rows cell k.held.rows_are.each (ap (cell_of key) (sym c.way.cells_are) ∙ has) in
    let chain_is : (n : ℕ) → times n row.row.chain ≡ times n chain = λ n. ap (times n) (sym row.chain_is) ∙ sym (k.chain_is n) in
    let stays : Keeps old given (Among row.row.chain) = record {
      used = first.used ∙ t.used;
      there = λ n some is. record { least = is.least; most = omega (arith, is.most, t.size, first.given.size) };
      same = λ n some.
          let inside : Among (chain ++ all) n = omega (arith, some, chain_is n, times-append n chain all) in
          same-on old new given n
          (t.others n (λ written. omega (arith, written, some, chain_is n, k.out_few n, k.once n, times-append n chain lost))
          (λ same. omega (arith, inside, t.gone_few n, k.once n, ap (λ m. times n (m ∷ [])) same, times-same n)))
          (first.given.others_stay n (λ same. omega (arith, same, gone.above n inside)) (λ free. omega (arith, free, (gone.nowhere n inside).0))
          (λ all_too. omega (arith, all_too, some, chain_is n, gone.different n, times-append n chain all)));
    } in
    let F : LeafCell → Type 0 = λ x. IsChain given x.overflow row.row.chain row.has.rest × (length row.has.rest ≡ x.payload_len - length x.local) in
    let both = subst F row.cell_is
    (chain_stays old given (Among row.row.chain) row.row.cell.overflow row.row.chain row.has.rest stays (λ n some. some) row.has.chained, rest_length old row.row row.has) in
    record { chain = row.row.chain; rest = row.has.rest; is = both.0; long = both.1; same = chain_is }

-- which nothing names
pub chain_unnamed : (page_size : ℕ) (new given : Pages) (roots : List ℕ) (before behind : List Tree) (tree' : Tree) (trunks : List Trunk) (chain all : List ℕ) (cell : LeafCell)
    → AreGone roots before behind tree' trunks (chain ++ all) → (first : Gave page_size new given roots (before ++ tree' ∷ behind) trunks all) → (row : ChainOf given cell chain)
    → (n : ℕ) → Among row.chain n → ¬ (Among (named_pages roots (before ++ tree' ∷ behind) first.given.trunks') n)
chain_unnamed page_size new given roots before behind tree' trunks chain all cell gone first row n some named =
    let none = gone.nowhere n (omega (arith, some, row.same n, times-append n chain all)) in
    omega (
      arith,
      named,
      some,
      none.0,
      none.1,
      row.same n,
      times-append n chain all,
      gone.different n,
      first.given.free n,
      split_named roots before behind tree' first.given.trunks' n,
    )

given_back : FrontApart → HeaderInFront → (page_size : ℕ) (old new given end : Pages) (roots : List ℕ) (before behind : List Tree) (tree : Tree) (trunks : List Trunk) (key : ℤ)
    (taken : List ℕ) (out : List Sheet) (lost all : List ℕ) (above : Option ℕ) (cell : LeafCell) → (c : IsShrinking old roots before tree behind trunks key taken out lost above)
    → (t : Topped page_size old new tree key taken out all) → Apart roots before behind tree trunks taken → given ≡ after_gives page_size all new → cell_of key c.cells ≡ Some cell
    → IsGiven page_size given end (Some cell) → GivenBack old end roots before tree behind trunks taken t.removed.tree (chain_at key (rows_of tree) ++ all)
given_back front_apart front page_size old new given end roots before behind tree trunks key taken out lost all above cell c t once given_is has give =
    let k = counted old roots before behind tree trunks key taken out lost above c in
    let tree' : Tree = t.removed.tree in
    let trees' : List Tree = before ++ tree' ∷ behind in
    let chain : List ℕ = chain_at key (rows_of tree) in
    let topped_whole = with_tree front page_size old new roots before behind tree trunks key taken out all c.whole t once (λ n. omega (arith, k.out_few n)) in
    let gone = are_gone page_size old new roots before behind tree trunks key taken out all c.whole once t in
    let first = lost_given front_apart page_size old new given roots before behind tree trunks key taken out all c.whole t gone topped_whole given_is in
    let row = chain_of page_size old new given roots before behind tree trunks key taken out lost all above cell c t gone first has in
    let in_chain : (n : ℕ) → Among row.chain n → Among (chain ++ all) n = λ n some. omega (arith, some, row.same n, times-append n chain all) in
    let second = chain_given front_apart page_size given end roots trees' first.given.trunks' row.chain row.rest cell first.sized first.given.whole row.is row.long
    (λ n some. gone.above n (in_chain n some))
    (chain_unnamed page_size new given roots before behind tree' trunks chain all cell gone first row) give in
    record {
      trunks' = second.trunks';
      whole = second.whole;
      size = second.size ∙ first.given.size ∙ t.size;
      named = λ n. omega (
        arith,
        first.given.free n,
        second.free n,
        row.same n,
        times-append n chain all,
        split_named roots before behind tree' second.trunks' n,
      );
      stays = λ n differs none. same-on old new end n
          (t.others n (λ written. omega (arith, written, none, k.out_few n))
          (λ same. omega (arith, none, top_count n tree, ap (λ m. times n (m ∷ [])) same, times-same n)))
          (same-on new given end n
          (first.given.others_stay n differs (λ free. omega (arith, free, none)) (λ all_too. omega (arith, all_too, none, times-append n chain all, t.gone_few n)))
          (second.others_stay n differs (λ free. omega (arith, free, none, first.given.free n, times-append n chain all, t.gone_few n))
          (λ chain_too. omega (arith, chain_too, row.same n, none, times-append n chain all, t.gone_few n))));
      kept = front_steps old new end (header_front old new t.front) (front_steps new given end first.given.front second.front);
    }

-- what is shrunk, on the pages with those that were taken
pub shrinking : OnePage → (page_size : ℕ) (old grown : Pages) (root : ℕ) (key : ℤ) (roots : List ℕ) (before behind : List Tree)
    (tree : Tree) (trunks free : List Trunk) → (d : Searched page_size old root key) → IsWholeFor old roots (before ++ tree ∷ behind) trunks → root_of tree ≡ root
    → (r : RowShrunk page_size old key d.levels d.leaf d.cells) → IsWholeFor grown roots (before ++ tree ∷ behind) free → grown.usable ≡ old.usable
    → Apart roots before behind tree free (taken_numbers page_size r.count old) → ((n : ℕ) → Among (taken_numbers page_size r.count old) n → 2 ≤ n)
    → (c : IsShrinking grown roots before tree behind free key (taken_numbers page_size r.count old) r.out r.lost r.over) × (cell_of key c.cells ≡ Some r.cell)
shrinking one_page page_size old grown root key roots before behind tree trunks free d whole rooted r grown_whole used once least =
    let taken : List ℕ = taken_numbers page_size r.count old in
    let way = way_of one_page page_size old root key roots before behind tree trunks d whole rooted in
    let one = whole_one old roots before behind tree whole.each_tree in
    let one' = whole_one grown roots before behind tree grown_whole.each_tree in
    let held = held_from old one.0 tree key d.levels d.leaf d.cells one.1 way in
    let held' = held_from grown one'.0 tree key d.levels d.leaf d.cells one'.1 way in
    let child : Tree = Leaf d.leaf way.rows in
    let O : List Level → Type 0 = λ l. AreShrunk old d.leaf r.left l taken r.out r.lost r.over in
    let N : List Level → Type 0 = λ l. AreShrunk grown d.leaf r.left l taken r.out r.lost r.over in
    let U : ℕ → Type 0 = λ u. IsLeafLeft d.leaf u (other_cells key d.cells) r.left in (
      record {
        least = omega (arith, d.sized.least, used);
        most = omega (arith, d.sized.most, d.sized.short, used);
        whole = grown_whole;
        above = d.above;
        below = d.below;
        levels = d.levels;
        leaf = d.leaf;
        cells = d.cells;
        way = way;
        cell = r.cell;
        has = r.has;
        left = r.left;
        left_is = subst U (sym used) r.left_is;
        shrunk = subst N (sym way.levels_are) (shrunk_moves one_page old grown used below_all greatest key 1 child r.left way.steps taken r.out r.lost r.over way.beside held.standing
            held'.standing (subst O way.levels_are r.shrunk));
        fresh = record {
          different = record { once = λ n. omega (arith, once n) };
          each = λ n some. (least n some, λ named. omega (arith, some, named, once n));
        };
      },
      r.has,
    )

-- no page that nothing named is named then, and no other is left without a name
count_then : (others tree unused taken now gone named : ℕ) → now + gone ≡ tree + taken → gone ≤ tree → named ≡ others + now + gone
    → (others + tree + unused + taken ≡ 0 → named ≡ 0) × (named ≡ 0 → unused ≡ 0 → others + tree + unused + taken ≡ 0)
count_then others tree unused taken now gone named a b c = (λ none. omega (arith, none, a, b, c), λ none used. omega (arith, none, used, a, b, c))

searched : (page_size : ℕ) (old new : Pages) (root : ℕ) (key : ℤ) (removed : Bool) → IsRemoval page_size old new root key removed → (descent : Descent)
    → Descends old key root descent.levels.items descent.leaf descent.cells → Searched page_size old root key
searched page_size old new root key removed removal descent found = record {
  size_of_page = removal.size_of_page;
  spare = removal.spare;
  sized = removal.sized;
  above = removal.above;
  below = removal.below;
  levels = descent.levels.items;
  leaf = descent.leaf;
  cells = descent.cells;
  descends = found;
}

-- the row is taken out

row_removed : FrontApart → HeaderInFront → OnePage → PageFits → (page_size : ℕ) (old new : Pages) (root : ℕ) (key : ℤ) (roots : List ℕ) (before behind : List Tree)
    (tree : Tree) (trunks : List Trunk) → (d : Searched page_size old root key) → IsWholeFor old roots (before ++ tree ∷ behind) trunks → root_of tree ≡ root
    → RowRemoved page_size old new root key d.levels d.leaf d.cells → IsRemoved old new roots before tree behind trunks key true
row_removed front_apart front one_page page_fits page_size old new root key roots before behind tree trunks d whole rooted r =
    let w = r.way in
    let trees : List Tree = before ++ tree ∷ behind in
    let taken : List ℕ = taken_numbers page_size w.count old in
    let unused : List ℕ = chain_numbers page_size old [] in
    let none_used : chain_count old [] ≡ 0 = none_needed old.usable d.sized.least in
    let grown : Pages = after_takes page_size w.count old in
    let free : List Trunk = take_each w.count (take_each (chain_count old []) trunks) in
    let p = prepared front_apart page_size w.count old old [] 0 roots before behind tree trunks d.size_of_page d.spare d.sized d.sized whole (inl (refl, refl, refl)) w.few in
    let once : Apart roots before behind tree free taken = λ n. omega (arith, p.once n) in
    let c = shrinking one_page page_size old grown root key roots before behind tree trunks free d whole rooted w p.whole p.used once p.least in
    let k = counted grown roots before behind tree free key taken w.out w.lost w.over c.0 in
    let T : ℕ → Type 0 = λ m. IsTopped page_size r.written r.topped m w.lost w.over r.all in
    let t = topped one_page page_fits page_size grown r.written r.topped roots before behind tree free key taken w.out w.lost r.all w.over c.0 r.write
    (λ n some. p.there n (among-back n unused taken some)) (subst T (sym rooted) r.top) in
    let g = given_back front_apart front page_size grown r.topped r.given new roots before behind tree free key taken w.out w.lost r.all w.over w.cell c.0 t once r.given_is c.1 r.give in
    let tree' : Tree = t.removed.tree in
    let trees' : List Tree = before ++ tree' ∷ behind in
    let gone : List ℕ = chain_at key (rows_of tree) ++ r.all in
    let gone_within : (n : ℕ) → times n gone ≤ times n (pages_of tree) = λ n. omega (arith, t.gone_few n) in
    let counts = λ (n : ℕ). count_then (others roots before behind free n) (times n (pages_of tree)) (times n unused) (times n taken) (times n (pages_of tree')) (times n gone)
    (times n (named_pages roots trees' g.trunks')) (t.removed.named n) (gone_within n) (g.named n) in
    let added : length taken ≤ length (pages_of tree') = no_longer new taken (pages_of tree') (λ n. omega (arith, t.removed.named n, gone_within n))
    (λ n some. named_there new roots trees' g.trunks' g.whole n (omega (arith, some, g.named n))) in
    let full : (grown.size ≡ old.size) ⊎ (grown.size ≡ w.count + use_of roots trees + length (missing_in (named_pages roots trees trunks) old.size)) = elim p.empty [
      | inl none ↦ inr (omega (arith, p.counted, none_used, ap (λ (l : List Trunk). length (free_pages l)) none, pages_add_up old roots trees trunks whole))
      | inr same ↦ inl same
    ] in
    record {
      tree' = tree';
      trunks' = g.trunks';
      whole = g.whole;
      rooted = t.removed.whole.rooted;
      rows = ap (map shown) t.removed.rows ∙ shown_without key (rows_of tree);
      told = told_of grown (row_at_key key) 1 (Leaf c.0.leaf c.0.way.rows) tree c.0.way.rows below_all greatest c.0.way.steps true c.0.way.beside k.held.standing c.0.way.is refl
          (sym (ap (λ (o : Option LeafCell). is_some o) (ap (cell_of key) (sym c.0.way.cells_are) ∙ c.1)));
      unnamed = λ n there not_named.
          let fresh = p.new_ones n there not_named in
          record {
            unnamed = λ named. omega (arith, named, (counts n).0 fresh.0);
            same = same-on old grown new n fresh.1 (g.stays n fresh.2 (omega (arith, fresh.0)));
          };
      none_lost = λ n there not_named.
          let has_it : HasPage grown n = record { least = there.least; most = omega (arith, there.most, g.size) } in
          p.were_new n has_it ((counts n).1 (omega (arith, not_named)) (ap (λ count. times n (taken_numbers page_size count old)) none_used));
      front = front_steps old grown new p.front g.kept;
      no_fewer = omega (arith, g.size, p.no_fewer);
      bound = at_most new.size old.size (length (missing_in (named_pages roots trees trunks) old.size)) (use_of roots trees) (use_of roots trees') w.count grown.size g.size full
          (omega (arith, added, as_many_taken page_size w.count old, use_least roots before behind tree'));
    }

pub remove_keeps_whole : FrontApart → HeaderInFront → OnePage → PageFits → RemoveKeepsWhole
unfolding searched
remove_keeps_whole front_apart front one_page page_fits page_size old new root key false roots before behind tree trunks removal whole rooted =
    let P : Pages → Type 0 = λ q. IsRemoved old q roots before tree behind trunks key false in
    let none = removal.done.1 in
    subst P (sym removal.done.0) (none_removed one_page page_size old root key roots before behind tree trunks
    (searched page_size old new root key false removal none.descent none.found) whole rooted none.none)
remove_keeps_whole front_apart front one_page page_fits page_size old new root key true roots before behind tree trunks removal whole rooted =
    let r = removal.done in
    let few : (after_takes page_size r.count old).size * page_size ≤ greatest_length =
    let E : ℕ → Type 0 = λ size. size * page_size ≤ greatest_length in subst E (removed_size page_size old new removal.changed root key r) removal.few in
    let grown = took front_apart page_size r.count old roots (before ++ tree ∷ behind) trunks removal.size_of_page removal.spare removal.sized whole few in
    row_removed front_apart front one_page page_fits page_size old new root key roots before behind tree trunks
    (searched page_size old new root key true removal r.descent r.found) whole rooted (row_steps page_size old new removal.changed root key r grown.sized few)
