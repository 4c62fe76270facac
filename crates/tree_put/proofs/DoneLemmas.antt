-- A put keeps pages whole.
use Rattle.std.proofs.Common.{◌≡◌, ◌⊎◌, ◌↔◌, inl, inr, ℕ, zero, suc, ◌+◌, ◌*◌, ◌≤◌, max, Bool, ℤ, ◌<ℤ◌, ◌≤ℤ◌, reverse, List, ◌∷◌, ◌++◌, length, map, drop, is_some, IsTrue, refl, []}
use Rattle.std.proofs.Common.{sym, ap, subst, ◌∙◌, arith, length-append}
use Rattle.std.proofs.lemmas.List.{take-append-drop}
use Rattle.std.specs.List.{flat_map}
use Rattle.db_format.specs.Header.{HeaderInFront, greatest_length}
use Rattle.db_format.specs.Spill.{local_size}
use Rattle.page_list.specs.Pages.{Pages, HasPage, times, Among}
use Rattle.page_list.specs.Freelist.{Trunk, free_pages, take_each}
use Rattle.page_list.specs.Edits.{taken_numbers, after_takes}
use Rattle.page_list.specs.Chain.{IsChain}
use Rattle.page_list.proofs.EditLemmas.{same-on}
use Rattle.page_list.proofs.TimesLemmas.{times-append, among-back, same_or_other, times_one}
use Rattle.tree_page.specs.declared.cell.LeafCell.{LeafCell}
use Rattle.tree_page.specs.Laws.{FrontApart}
use Rattle.tree_page.specs.Page.{OnePage}
use Rattle.tree_model.specs.Tree.{Row, Tree, Leaf, root_of, rows_of, pages_of}
use Rattle.tree_model.specs.Held.{HasRow}
use Rattle.tree_model.specs.Whole.{below_all, greatest, IsWholeTree, IsWholeFor, first_page, named_pages}
use Rattle.tree_model.specs.Laws.{shown, row_at}
use Rattle.tree_model.specs.Need.{use_of}
use Rattle.tree_model.specs.declared.ends.PathEnd.TheVariants.{HasPayload}
use Rattle.tree_model.proofs.OthersLemmas.{split_named}
use Rattle.tree_model.proofs.WholeLemmas.{flat_append, root_named}
use Rattle.tree_plan.specs.Plan.{cell_of, IsLeafPlan}
use Rattle.tree_run.specs.Edit.{chain_at}
use Rattle.tree_plan.specs.Climb.{AreClimbed}
use Rattle.tree_laws.specs.Whole.{missing_in}
use Rattle.tree_laws.proofs.CountLemmas.{tally, tally_all, pages_add_up}
use Rattle.tree_laws.proofs.DeepLemmas.{whole_one}
use Rattle.tree_laws.proofs.KeptLemmas.{front_steps, header_front}
use Rattle.tree_laws.proofs.RangeLemmas.{named_there}
use Rattle.tree_put.specs.Way.{IsWay}
use Rattle.tree_put.specs.Puts.{IsClimb}
use Rattle.tree_put.specs.Keeps.{AreWritten, put_shown, PutDone, IsPut, PutKeepsWhole}
use Rattle.tree_put.proofs.WayLemmas.{way_from}
use Rattle.tree_put.proofs.TookLemmas.{as_many_taken}
use Rattle.tree_put.proofs.PreparedLemmas.{chain_count, chain_numbers, prepared}
use Rattle.tree_put.proofs.RowLemmas.{shown_put, told_of}
use Rattle.tree_put.proofs.WrittenLemmas.{counted, written_whole, given_back}

-- numbers that stand in another list at least as often are no more than that list has

tally_less : (xs ys : List ℕ) (size : ℕ) → ((n : ℕ) → times n xs ≤ times n ys) → tally xs size ≤ tally ys size
tally_less xs ys zero less = omega arith
tally_less xs ys (suc n) less = omega (arith, less (suc n), tally_less xs ys n less)

no_longer : (pages : Pages) (xs ys : List ℕ) → ((n : ℕ) → times n xs ≤ times n ys) → ((n : ℕ) → Among ys n → HasPage pages n) → length xs ≤ length ys
no_longer pages xs ys less there =
    omega (
      arith,
      tally_less xs ys pages.size less,
      tally_all xs pages.size (λ n some. let has = there n (omega (arith, some, less n)) in (has.least, has.most)),
      tally_all ys pages.size (λ n some. let has = there n some in (has.least, has.most)),
    )

-- one tree is a part of all that is used
use_least : (roots : List ℕ) (before behind : List Tree) (tree : Tree) → length (pages_of tree) ≤ use_of roots (before ++ tree ∷ behind)
use_least roots before behind tree =
    omega (
      arith,
      length-append (first_page roots) (flat_map pages_of (before ++ tree ∷ behind)),
      ap (λ (l : List ℕ). length l) (flat_append before (tree ∷ behind)),
      length-append (flat_map pages_of before) (flat_map pages_of (tree ∷ behind)),
      length-append (pages_of tree) (flat_map pages_of behind),
    )

tight_most : (new old unnamed uses uses' added size : ℕ) → new ≡ size → (size ≡ old) ⊎ (size ≡ added + uses + unnamed) → added + 1 ≤ uses' → new + 1 ≤ max (old + 1) (unnamed + uses + uses')
tight_most new old unnamed uses uses' added size is (inl same) less = omega (arith, is, same)
tight_most new old unnamed uses uses' added size is (inr more) less = omega (arith, is, more, less)

at_most : (new old unnamed uses uses' added free size : ℕ) → new ≡ size → (size ≡ old) ⊎ (size ≡ added + uses + unnamed) → added ≤ uses' → new ≤ max old (unnamed + uses + uses')
at_most new old unnamed uses uses' added free size is (inl same) less = omega (arith, is, same)
at_most new old unnamed uses uses' added free size is (inr more) less = omega (arith, is, more, less)

put_done : FrontApart → HeaderInFront → OnePage → (page_size : ℕ) (old new : Pages) (root : ℕ) (payload : List ℕ) (replaced : Bool) (roots : List ℕ)
    (before behind : List Tree) (tree : Tree) (trunks : List Trunk) (key : ℤ) → (d : PutDone page_size old new root key payload replaced)
    → IsWholeFor old roots (before ++ tree ∷ behind) trunks → root_of tree ≡ root
    → IsPut old new roots before tree behind trunks key payload replaced
put_done front_apart front one_page page_size old new root payload replaced roots before behind tree trunks key d whole rooted =
    let trees : List Tree = before ++ tree ∷ behind in
    let usable : ℕ = old.usable in
    let rest : List ℕ = drop (local_size usable (length payload)) payload in
    let taken : List ℕ = taken_numbers page_size d.count d.chained in
    let chain_pages : List ℕ = chain_numbers page_size old rest in
    let grown : Pages = after_takes page_size d.count d.chained in
    let left : List Trunk = take_each d.count (take_each (chain_count old rest) trunks) in
    let E : Pages → Type 0 = λ p. p.size * page_size ≤ greatest_length in
    let W : Pages → Type 0 = λ p. AreWritten page_size p d.written d.out in
    let p = prepared front_apart page_size d.count old d.chained rest d.first roots before behind tree trunks d.size_of_page d.spare d.sized d.chain_sized whole d.chain
    (subst E d.grown_is d.few) in
    let write = subst W d.grown_is d.write in
    let cell : LeafCell = d.cell in
    let row : Row = record { cell = cell; chain = chain_pages; payload = payload } in
    let one = whole_one old roots before behind tree whole.each_tree in
    let T : ℕ → Type 0 = λ r. IsWholeTree old r tree in
    let tree_whole : IsWholeTree old root tree = subst T (sym one.1.rooted ∙ rooted) one.1 in
    let K : ℤ → Type 0 = λ k. IsWay k tree d.levels d.leaf d.cells in
    let A : ℤ → Type 0 = λ k. (below_all <ℤ k) × (k ≤ℤ greatest) in
    let way = subst K (sym d.cell_of.keyed) (way_from one_page d.levels old root tree key d.leaf d.cells tree_whole d.above d.below d.descends) in
    let bounds = subst A (sym d.cell_of.keyed) (d.above, d.below) in
    let U : ℕ → Type 0 = λ u. IsLeafPlan d.leaf u d.cells cell d.plan × AreClimbed u d.leaf d.plan.sheets (reverse d.levels) taken d.out in
    let planned = subst U (sym p.used) (d.planned, d.climbed) in
    let c : IsClimb grown roots before tree behind left cell d.plan taken d.out = record {
      least = omega (arith, d.sized.least, p.used);
      whole = p.whole;
      above = bounds.0;
      below = bounds.1;
      levels = d.levels;
      leaf = d.leaf;
      cells = d.cells;
      way = way;
      planned = planned.0;
      climbed = planned.1;
      fresh = record {
        different = record { once = λ n. omega (arith, p.once n) };
        each = λ n some. (p.least n some, λ named. omega (arith, some, named, p.once n));
      };
    } in
    let F : ℕ → Type 0 = λ f. IsChain grown f chain_pages rest in
    let has : HasRow grown row = record {
      rest = rest;
      joined = sym (take-append-drop (local_size usable (length payload)) payload) ∙ ap (λ (l : List ℕ). l ++ rest) (sym d.cell_of.keeps);
      whole = sym d.cell_of.long;
      chained = subst F (sym d.cell_of.begins) p.chain;
    } in
    let k = counted grown roots before behind tree left cell d.plan taken d.out c in
    let w = written_whole one_page front page_size grown d.written roots before behind tree left row d.plan taken d.out c has write
    (λ n some. p.there n (among-back n chain_pages taken some)) p.once in
    let C : List LeafCell → Type 0 = λ l. d.plan.replaced ≡ cell_of cell.rowid l in
    let found = subst C way.cells_are d.planned.replaced in
    let g = given_back front_apart page_size grown d.written new roots before behind tree left row d.plan taken d.out c w write.sized p.once d.plan.replaced found d.give in
    let tree' : Tree = w.put.tree in
    let now : (n : ℕ) → times n (pages_of tree') + times n (chain_at cell.rowid (rows_of tree)) ≡ times n (pages_of tree) + times n chain_pages + times n taken =
    λ n. omega (arith, w.put.named n, times-append n chain_pages taken) in
    let sizes : new.size ≡ grown.size = g.size ∙ write.size in
    let R : ℤ → Type 0 = λ r. map shown (rows_of tree') ≡ put_shown (r, payload) (map shown (rows_of tree)) in
    let S : ℤ → Type 0 = λ r. IsTrue replaced ↔ ((was : List ℕ) × (row_at r (rows_of tree) ≡ HasPayload was)) in
    let added : length (chain_pages ++ taken) ≤ length (pages_of tree') = no_longer grown (chain_pages ++ taken) (pages_of tree')
    (λ n. omega (arith, now n, k.gone_few n, times-append n chain_pages taken))
    (λ n some. let there = named_there d.written roots (before ++ tree' ∷ behind) left w.whole n (omega (arith, some, split_named roots before behind tree' left n)) in
    record { least = there.least; most = omega (arith, there.most, write.size) }) in
    let top : ℕ = root_of tree in
    let top_there : Among (pages_of tree') top = subst (Among (pages_of tree')) w.put.whole.rooted (root_named tree') in
    let top_old : times top (chain_pages ++ taken) ≡ 0 = omega (arith, p.once top, root_named tree, times-append top chain_pages taken) in
    let with_root : suc (length (chain_pages ++ taken)) ≤ length (pages_of tree') = no_longer grown (top ∷ (chain_pages ++ taken)) (pages_of tree')
    (λ n. elim (same_or_other n top) [
      | inl same ↦ subst (λ m. times m (top ∷ (chain_pages ++ taken)) ≤ times m (pages_of tree')) same.0
          (omega (arith, top_there, top_old, times-append top (top ∷ []) (chain_pages ++ taken), times_one top top))
      | inr other ↦ omega (arith, other.1, now n, k.gone_few n, times-append n chain_pages taken, times-append n (top ∷ []) (chain_pages ++ taken))
    ])
    (λ n some. let there = named_there d.written roots (before ++ tree' ∷ behind) left w.whole n (omega (arith, some, split_named roots before behind tree' left n)) in
    record { least = there.least; most = omega (arith, there.most, write.size) }) in
    let many : length (chain_pages ++ taken) ≡ chain_count old rest + d.count =
    omega (arith, length-append chain_pages taken, as_many_taken page_size (chain_count old rest) old, as_many_taken page_size d.count d.chained) in
    let full : (grown.size ≡ old.size) ⊎ (grown.size ≡ (chain_count old rest + d.count) + use_of roots trees + length
    (missing_in (named_pages roots trees trunks) old.size)) = elim p.empty [
      | inl none ↦ inr (omega (arith, p.counted, ap (λ (l : List Trunk). length (free_pages l)) none, pages_add_up old roots trees trunks whole))
      | inr same ↦ inl same
    ] in
    record {
      tree' = tree';
      trunks' = g.trunks';
      whole = g.whole;
      rooted = w.put.whole.rooted;
      rows = subst R d.cell_of.keyed (ap (map shown) w.put.rows ∙ shown_put row (rows_of tree));
      told = subst S d.cell_of.keyed
          (told_of grown row 1 (Leaf d.leaf way.rows) tree way.rows below_all greatest way.steps replaced way.beside k.held.standing way.is refl (d.told ∙ ap is_some found));
      unnamed = λ n there not_named.
          let fresh = p.new_ones n there not_named in
          let gone : times n (chain_at cell.rowid way.rows) ≤ 0 = omega (arith, fresh.0, k.gone_is n, k.gone_few n) in
          record {
            unnamed = λ named. omega (arith, named, fresh.0, gone, now n, g.free n, split_named roots before behind tree' g.trunks' n);
            same = same-on old d.written new n
                (same-on old grown d.written n fresh.1 (w.keeps.same n (λ written_too. omega (arith, written_too, fresh.0, k.out_few n))))
                (g.others_stay n fresh.2 (λ free. omega (arith, free, fresh.0)) (λ is_gone. omega (arith, is_gone, gone)));
          };
      none_lost = λ n there not_named.
          let has_it : HasPage grown n = record { least = there.least; most = omega (arith, there.most, sizes) } in
          p.were_new n has_it (omega (arith, not_named, now n, g.free n, k.gone_is n, k.gone_few n, split_named roots before behind tree' g.trunks' n));
      front = front_steps old grown new p.front (front_steps grown d.written new (header_front grown d.written write.front) g.front);
      no_fewer = omega (arith, sizes, p.no_fewer);
      bound = at_most new.size old.size (length (missing_in (named_pages roots trees trunks) old.size)) (use_of roots trees) (use_of roots (before ++ tree' ∷ behind))
          (chain_count old rest + d.count) 0 grown.size sizes full (omega (arith, added, many, use_least roots before behind tree'));
      tight = tight_most new.size old.size (length (missing_in (named_pages roots trees trunks) old.size)) (use_of roots trees) (use_of roots (before ++ tree' ∷ behind))
          (chain_count old rest + d.count) grown.size sizes full (omega (arith, with_root, many, use_least roots before behind tree'));
    }

pub put_keeps_whole : FrontApart → HeaderInFront → OnePage → PutKeepsWhole
put_keeps_whole front_apart front one_page page_size old new root key payload replaced roots before behind tree trunks d whole rooted =
    put_done front_apart front one_page page_size old new root payload replaced roots before behind tree trunks key d whole rooted
