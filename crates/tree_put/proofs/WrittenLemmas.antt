-- The sheets of a put are written: the pages are whole with the new tree.
use Rattle.std.proofs.Common.{◌≡◌, ◌≢◌, inl, inr, ℕ, ℤ, ◌+◌, ◌-◌, ◌≤◌, List, [], ◌∷◌, ◌++◌, length, map, Option, Some, None, refl, sym, ap, subst, ◌∙◌, arith}
use Rattle.std.specs.List.{AllByRecursion}
use Rattle.std.proofs.lemmas.Bool.{cases_lt}
use Rattle.std.proofs.lemmas.List.{nil_from_length}
use Rattle.db_format.specs.Header.{HeaderInFront}
use Rattle.page_list.specs.Pages.{Pages, HasPage, SamePage, times, Among, AreSized}
use Rattle.page_list.specs.Freelist.{Trunk, free_pages, give_each}
use Rattle.page_list.specs.Chain.{IsChain, pages_needed}
use Rattle.page_list.specs.Edits.{after_gives}
use Rattle.page_list.proofs.ChainLemmas.{one_chain_holds}
use Rattle.page_list.proofs.ManyLemmas.{gives_keep_holds}
use Rattle.page_list.proofs.TimesLemmas.{times-append, not_among, among-back}
use Rattle.tree_page.specs.declared.cell.LeafCell.{LeafCell}
use Rattle.tree_page.specs.Laws.{FrontApart}
use Rattle.tree_page.specs.Page.{OnePage}
use Rattle.tree_page.specs.Written.{Fits}
use Rattle.tree_model.specs.Tree.{Row, Tree, Leaf, rows_of, pages_of}
use Rattle.tree_model.specs.Held.{HasCells, HasRow}
use Rattle.tree_model.specs.Whole.{below_all, greatest, IsWholeTree, IsWholeFor, named_pages}
use Rattle.tree_model.specs.Laws.{Keeps, chains_of}
use Rattle.tree_model.specs.declared.level.Level.{Level}
use Rattle.tree_model.proofs.OnePathLemmas.{rest_length}
use Rattle.tree_model.proofs.OthersLemmas.{others, split_named}
use Rattle.tree_model.proofs.StayLemmas.{chain_stays, row_stays}
use Rattle.tree_model.proofs.WholeLemmas.{one_named}
use Rattle.page_cut.specs.declared.parts.Sheet.{Sheet}
use Rattle.tree_level.specs.Level.{numbers}
use Rattle.tree_plan.specs.declared.leaf.LeafPlan.{LeafPlan}
use Rattle.tree_plan.specs.Plan.{cell_of}
use Rattle.tree_run.specs.Edit.{chain_at}
use Rattle.tree_plan.specs.Climb.{AreClimbed}
use Rattle.tree_laws.specs.Front.{FreelistFront}
use Rattle.tree_laws.proofs.DeepLemmas.{whole_one}
use Rattle.tree_laws.proofs.KeptLemmas.{head_front, same_front}
use Rattle.tree_laws.proofs.RangeLemmas.{named_there}
use Rattle.tree_laws.proofs.ReplaceLemmas.{tree_replaced}
use Rattle.tree_laws.proofs.TakeLemmas.{whole_gives}
use Rattle.tree_put.specs.Way.{Beside, around, HoldWay}
use Rattle.tree_put.specs.Puts.{IsClimb, HasPut, IsKept, HasPlace}
use Rattle.tree_put.specs.Keeps.{AreWritten, IsFreed, IsGiven}
use Rattle.tree_put.proofs.WayLemmas.{held_from}
use Rattle.tree_put.proofs.CountLemmas.{levels_of, out_count, levels_around, way_pages}
use Rattle.tree_put.proofs.KeptLemmas.{keeps_less}
use Rattle.tree_put.proofs.ChainLemmas.{without_count, chain_over}
use Rattle.tree_put.proofs.PutsLemmas.{climb_puts}
use Rattle.tree_put.proofs.FitLemmas.{climb_fits}
use Rattle.tree_put.proofs.RowLemmas.{row_of, no_chain}
use Rattle.tree_put.proofs.PreparedLemmas.{none_needed}

-- what is held along the way, and how often pages are written and chains replaced
pub record Counted (pages : Pages) (tree : Tree) (cell : LeafCell) (rows : List Row) (leaf : ℕ) (steps : List Beside) (taken : List ℕ) (out : List Sheet) : Type 0 where
  pub held : HoldWay pages rows leaf steps
  pub gone_is : (n : ℕ) → times n (chain_at cell.rowid (rows_of tree)) ≡ times n (chain_at cell.rowid rows)
  pub gone_few : (n : ℕ) → times n (chain_at cell.rowid (rows_of tree)) ≤ times n (pages_of tree)
  pub out_few : (n : ℕ) → times n (numbers out) + times n (chain_at cell.rowid (rows_of tree)) ≤ times n taken + times n (pages_of tree)

pub counted : (old : Pages) (roots : List ℕ) (before behind : List Tree) (tree : Tree) (trunks : List Trunk) (cell : LeafCell) (plan : LeafPlan) (taken : List ℕ) (out : List Sheet)
    → (c : IsClimb old roots before tree behind trunks cell plan taken out) → Counted old tree cell c.way.rows c.leaf c.way.steps taken out
counted old roots before behind tree trunks cell plan taken out c =
    let row : Row = record { cell = cell; chain = []; payload = [] } in
    let whole = whole_one old roots before behind tree c.whole.each_tree in
    let way = c.way in
    let rows : List Row = way.rows in
    let steps : List Beside = way.steps in
    let child : Tree = Leaf c.leaf rows in
    let held = held_from old whole.0 tree cell.rowid c.levels c.leaf c.cells whole.1 way in
    let pages : (n : ℕ) → times n (pages_of tree) ≡ times n (c.leaf ∷ []) + times n (chains_of rows) + times n (around steps) =
    λ n. omega (arith, ap (λ t. times n (pages_of t)) way.is, way_pages n child steps) in
    let L : List Level → Type 0 = λ l. AreClimbed old.usable c.leaf plan.sheets l taken out in
    let counts = out_count old.usable c.leaf plan.sheets (levels_of steps) taken out (subst L way.levels_are c.climbed) in
    let replaced : (n : ℕ) → times n (chain_at cell.rowid (rows_of tree)) ≡ times n (chain_at cell.rowid rows) = λ n.
    ap (λ t. times n (chain_at cell.rowid (rows_of t))) way.is ∙ chain_over n old row below_all greatest 1 child steps way.beside held.standing in
    record {
      held = held;
      gone_is = replaced;
      gone_few = λ n. omega (arith, replaced n, without_count n row rows, pages n);
      out_few = λ n. omega (arith, replaced n, without_count n row rows, pages n, counts n, levels_around n steps);
    }

-- the sheets are on their pages
on_pages : (old new : Pages) (tree : Tree) (taken : List ℕ) (out : List Sheet) → ((n : ℕ) → Among (pages_of tree ++ taken) n → HasPage old n)
    → AllByRecursion (HasPlace old tree taken) out
    → AllByRecursion (λ sheet. HasPage old sheet.number → Fits sheet.cells sheet.number old.usable → HasCells new sheet.number sheet.cells) out
    → AllByRecursion (λ sheet. HasCells new sheet.number sheet.cells) out
on_pages old new tree taken [] there places each = tt
on_pages old new tree taken (s ∷ more) there places each = (each.0 (there s.number places.0.among) places.0.fits, on_pages old new tree taken more there places.1 each.1)

pub record Written (old new : Pages) (roots : List ℕ) (before : List Tree) (tree : Tree) (behind : List Tree) (trunks : List Trunk) (row : Row) (taken : List ℕ)
    (out : List Sheet) : Type 0 where
  pub put : HasPut new row tree taken
  pub whole : IsWholeFor new roots (before ++ put.tree ∷ behind) trunks
  pub keeps : Keeps old new (λ n. ¬ (Among (numbers out) n))

-- and the pages are whole with the new tree
with_tree : HeaderInFront → (page_size : ℕ) (old new : Pages) (roots : List ℕ) (before behind : List Tree) (tree : Tree) (trunks : List Trunk) (row : Row) (taken : List ℕ)
    (out : List Sheet) → IsWholeFor old roots (before ++ tree ∷ behind) trunks → AreWritten page_size old new out → (put : HasPut new row tree taken)
    → ((n : ℕ) → others roots before behind trunks n + times n (pages_of tree) + times n row.chain + times n taken ≤ 1)
    → ((n : ℕ) → times n (numbers out) ≤ times n taken + times n (pages_of tree)) → IsWholeFor new roots (before ++ put.tree ∷ behind) trunks
with_tree front page_size old new roots before behind tree trunks row taken out whole written put once few =
    let tree' : Tree = put.tree in
    let split = split_named roots before behind tree trunks in
    let split' = split_named roots before behind tree' trunks in
    let now : (n : ℕ) → times n (pages_of tree') ≤ times n (pages_of tree) + times n row.chain + times n taken =
    λ n. omega (arith, put.named n, times-append n row.chain taken) in
    let W : ℕ → Type 0 = λ root. IsWholeTree new root tree' in
    tree_replaced front old new roots before behind tree tree' trunks whole (λ root rooted. subst W rooted put.whole)
    (record {
      different = record { once = λ n. omega (arith, now n, once n) };
      free = λ n some. elim (cases_lt 0 (times n (pages_of tree))) [
        | inl was ↦ inl (omega (arith, was))
        | inr none ↦ inr (λ named. omega (arith, some, none, named, now n, once n, split n))
      ];
    })
    (record {
      used = written.used;
      there = λ n kept is. record { least = is.least; most = omega (arith, is.most, written.size) };
      same = λ n kept. written.others n (λ written_too. omega (arith, written_too, kept.0, split' n, not_among n (pages_of tree') kept.1, once n, few n));
    })
    (record { front = written.front; good = written.good whole.header.good }) written.size

pub written_whole : OnePage → HeaderInFront → (page_size : ℕ) (old new : Pages) (roots : List ℕ) (before behind : List Tree) (tree : Tree) (trunks : List Trunk)
    (row : Row) (plan : LeafPlan) (taken : List ℕ) (out : List Sheet)
    → IsClimb old roots before tree behind trunks row.cell plan taken out → HasRow old row → AreWritten page_size old new out → ((n : ℕ) → Among taken n → HasPage old n)
    → ((n : ℕ) → others roots before behind trunks n + times n (pages_of tree) + times n row.chain + times n taken ≤ 1)
    → Written old new roots before tree behind trunks row taken out
written_whole one_page front page_size old new roots before behind tree trunks row plan taken out c has written there once =
    let split = split_named roots before behind tree trunks in
    let k = counted old roots before behind tree trunks row.cell plan taken out c in
    let fits = climb_fits old roots before behind tree trunks row.cell plan taken out c in
    let keeps : Keeps old new (λ n. ¬ (Among (numbers out) n)) = record {
      used = written.used;
      there = λ n none is. record { least = is.least; most = omega (arith, is.most, written.size) };
      same = written.others;
    } in
    let all_there : (n : ℕ) → Among (pages_of tree ++ taken) n → HasPage old n = λ n some. elim (cases_lt 0 (times n taken)) [
      | inl new_one ↦ there n (omega (arith, new_one))
      | inr none ↦ named_there old roots (before ++ tree ∷ behind) trunks c.whole n (omega (arith, some, none, times-append n (pages_of tree) taken, split n))
    ] in
    let stands = on_pages old new tree taken out all_there fits.1 (written.each fits.0) in
    let has_new = row_stays old new (λ n. ¬ (Among (numbers out) n)) row keeps (λ n some out_too. omega (arith, some, out_too, once n, k.out_few n)) has in
    let kept = keeps_less old new (λ n. ¬ (Among (numbers out) n)) (IsKept row tree out) (λ n is. is.unwritten) keeps in
    let put = climb_puts one_page old new roots before behind tree trunks row plan taken out c has_new stands kept in
    record {
      put = put;
      whole = with_tree front page_size old new roots before behind tree trunks row taken out c.whole written put once (λ n. omega (arith, k.out_few n));
      keeps = keeps;
    }

-- the chain of the row that was replaced is given back

pub record Given (old new : Pages) (roots : List ℕ) (trees : List Tree) (trunks : List Trunk) (gone : List ℕ) : Type 0 where
  pub trunks' : List Trunk
  pub whole : IsWholeFor new roots trees trunks'
  pub size : new.size ≡ old.size
  pub free : (n : ℕ) → times n (free_pages trunks') ≡ times n (free_pages trunks) + times n gone
  pub others_stay : (n : ℕ) → n ≢ 1 → ¬ (Among (free_pages trunks) n) → ¬ (Among gone n) → SamePage old new n
  pub front : FreelistFront old new

none_given : (old new : Pages) (roots : List ℕ) (trees : List Tree) (trunks : List Trunk) (gone : List ℕ) → IsWholeFor old roots trees trunks → gone ≡ [] → new ≡ old
    → Given old new roots trees trunks gone
none_given old new roots trees trunks gone whole none same =
    let W : Pages → Type 0 = λ p. IsWholeFor p roots trees trunks in
    let S : Pages → Type 0 = λ p. (n : ℕ) → SamePage old p n in
    let stays : (n : ℕ) → SamePage old new n = subst S (sym same) (λ n. record { bytes_stay = refl; mark_stays = refl }) in
    record {
      trunks' = trunks;
      whole = subst W (sym same) whole;
      size = ap (λ (p : Pages). p.size) same;
      free = λ n. omega (arith, ap (times n) none);
      others_stay = λ n other free_not gone_not. stays n;
      front = same_front old new (stays 1);
    }

-- the pages of the old chain are those that are given back
freed_given : FrontApart → (page_size : ℕ) (old new : Pages) (roots : List ℕ) (trees : List Tree) (trunks : List Trunk) (gone : List ℕ) (first len : ℕ) (bytes : List ℕ)
    → AreSized page_size old
    → IsWholeFor old roots trees trunks → IsFreed page_size old new first len → IsChain old first gone bytes → length bytes ≡ len
    → ((n : ℕ) → Among gone n → ¬ (Among (named_pages roots trees trunks) n)) → Given old new roots trees trunks gone
freed_given front_apart page_size old new roots trees trunks gone first len bytes sized whole freed chain long unnamed =
    let same : freed.given ≡ gone = (one_chain_holds.one old first freed.given gone freed.bytes bytes freed.chain chain (freed.long ∙ sym long)).0 in
    let G : Pages → Type 0 = λ p. Given old p roots trees trunks gone in
    let free_unnamed : (n : ℕ) → Among (free_pages trunks) n → Among (named_pages roots trees trunks) n = λ n some. among-back n _ (free_pages trunks) some in
    let at_least : (n : ℕ) → Among gone n → 2 ≤ n = λ n some.
    let P : ℕ → Type 0 = λ m. ¬ (Among (named_pages roots trees trunks) m) in
    above_one n (chain.walked.each n some).0.least (λ is_one. subst P is_one (unnamed n some) (one_named old roots trees trunks whole.each_tree)) in
    let gives = gives_keep_holds page_size old trunks gone sized whole.header.good whole.freelist
    (record { each = λ n some. (at_least n some, (chain.walked.each n some).0, λ free. unnamed n some (free_unnamed n free)); different = chain.walked.different }) in
    let made : G (after_gives page_size gone old) = record {
      trunks' = give_each old.usable gone trunks;
      whole = whole_gives front_apart gives_keep_holds page_size old roots trees trunks gone sized whole
          (record { each = λ n some. (at_least n some, (chain.walked.each n some).0, unnamed n some); different = chain.walked.different })
          (λ n some. (chain.walked.each n some).1);
      size = gives.size;
      free = λ n. omega (arith, gives.count n);
      others_stay = gives.leaves.others;
      front = head_front old _ gives.leaves.first sized.least;
    } in
    subst G (sym (freed.pages_are ∙ ap (λ (l : List ℕ). after_gives page_size l old) same)) made
  where
    above_one : (n : ℕ) → 1 ≤ n → n ≢ 1 → 2 ≤ n
    above_one n least other = grind (arith, least, other)

pub given_back : FrontApart → (page_size : ℕ) (old written new : Pages) (roots : List ℕ) (before behind : List Tree) (tree : Tree) (trunks : List Trunk)
    (row : Row) (plan : LeafPlan) (taken : List ℕ) (out : List Sheet) → (c : IsClimb old roots before tree behind trunks row.cell plan taken out)
    → (w : Written old written roots before tree behind trunks row taken out)
    → AreSized page_size written
    → ((n : ℕ) → others roots before behind trunks n + times n (pages_of tree) + times n row.chain + times n taken ≤ 1)
    → (replaced : Option LeafCell) → replaced ≡ cell_of row.cell.rowid (map (λ r. r.cell) c.way.rows) → IsGiven page_size written new replaced
    → Given written new roots (before ++ w.put.tree ∷ behind) trunks (chain_at row.cell.rowid c.way.rows)
given_back front_apart page_size old written new roots before behind tree trunks row plan taken out c w sized once None found give =
    none_given written new roots (before ++ w.put.tree ∷ behind) trunks _ w.whole (no_chain row.cell.rowid c.way.rows (sym found)) give
given_back front_apart page_size old written new roots before behind tree trunks row plan taken out c w sized once (Some cell) found (inl none) =
    let rows : List Row = c.way.rows in
    let k = counted old roots before behind tree trunks row.cell plan taken out c in
    let r = row_of old row.cell.rowid rows cell k.held.rows_are.each (sym found) in
    let P : LeafCell → Type 0 = λ x. length r.has.rest ≡ x.payload_len - length x.local in
    let short : length r.has.rest ≡ 0 = omega (arith, subst P r.cell_is (rest_length old r.row r.has), none.0) in
    let empty : r.row.chain ≡ [] = nil_from_length r.row.chain
    (r.has.chained.enough ∙ ap (λ len. pages_needed old.usable len) short ∙ none_needed old.usable c.least) in
    none_given written new roots (before ++ w.put.tree ∷ behind) trunks _ w.whole (r.chain_is ∙ empty) none.1
given_back front_apart page_size old written new roots before behind tree trunks row plan taken out c w sized once (Some cell) found (inr freed) =
    let key : ℤ = row.cell.rowid in
    let rows : List Row = c.way.rows in
    let k = counted old roots before behind tree trunks row.cell plan taken out c in
    let r = row_of old key rows cell k.held.rows_are.each (sym found) in
    let gone : List ℕ = chain_at key rows in
    let C : List ℕ → Type 0 = λ l. IsChain written r.row.cell.overflow l r.has.rest in
    let F : LeafCell → Type 0 = λ x. IsChain written x.overflow gone r.has.rest × (length r.has.rest ≡ x.payload_len - length x.local) in
    let among : (n : ℕ) → Among r.row.chain n → Among gone n = λ n some. omega (arith, some, ap (times n) r.chain_is) in
    let chain = chain_stays old written (λ n. ¬ (Among (numbers out) n)) r.row.cell.overflow r.row.chain r.has.rest w.keeps
    (λ n some written_too. omega (arith, among n some, written_too, once n, k.out_few n, k.gone_is n, k.gone_few n)) r.has.chained in
    let both = subst F r.cell_is (subst C (sym r.chain_is) chain, rest_length old r.row r.has) in
    freed_given front_apart page_size written new roots (before ++ w.put.tree ∷ behind) trunks gone cell.overflow
    (cell.payload_len - length cell.local) r.has.rest sized w.whole freed both.0 both.1
    (λ n some named. omega (
      arith,
      some,
      named,
      once n,
      k.gone_is n,
      k.gone_few n,
      w.put.named n,
      split_named roots before behind w.put.tree trunks n,
      times-append n row.chain taken,
    ))
