-- Trees from a list of roots, one after the other.
use Rattle.std.proofs.Common.{◌≡◌, ◌≢◌, ℕ, zero, suc, ◌+◌, ◌≤◌, ◌<◌, List, [], ◌∷◌, ◌++◌, length, map, take, get_or, refl, sym, ap, ap₂, subst, ◌∙◌, arith, add_assoc, add-zero, zero-add}
use Rattle.std.proofs.lemmas.List.{take_more, append-nil, map-append}
use Rattle.std.proofs.lemmas.Grind.{flat_map-append}
use Rattle.std.specs.List.{AllZip, flat_map}
use Rattle.page_list.specs.Pages.{Pages, IsGood, times, Among}
use Rattle.page_list.specs.Freelist.{Trunk, IsFreelist, free_pages, free_count, OneFreelist}
use Rattle.tree_model.specs.Tree.{Row, Tree, rows_of, pages_of, HasDepth, IsOrdered, IsFilledRoot}
use Rattle.tree_model.specs.Whole.{below_all, greatest, most_depth, IsWholeTree, IsWholeFor, named_pages}
use Rattle.tree_model.specs.Need.{chain_pages, chains_pages, need_of_trees, need_of_rows}
use Rattle.tree_model.specs.Laws.{OneTree}
use Rattle.ref_trees.specs.Gathered.{HasTree, HasNoTree}
use Rattle.ref_trees.specs.Forest.{HasForest, HasFreelist, HasAmong, IsLack}
use Rattle.ref_trees.specs.ForestSteps.{HasTreeThat, IsTreeLack, IsWholeWith, AreWholeWith}
use Rattle.ref_trees.specs.declared.whole.Lacks.{Lacks}
use Rattle.ref_trees.specs.declared.whole.Lacks.TheVariants as lacks
use Rattle.ref_trees.proofs.GatherLemmas.{depth_is}
use Rattle.ref_pages.proofs.DifferentLemmas.{place_of}

pub zip_push : {A B : Type 0} (R : A → B → Type 0) (xs : List A) (ys : List B) (x : A) (y : B) → AllZip R xs ys → R x y → AllZip R (xs ++ x ∷ []) (ys ++ y ∷ [])
zip_push R [] [] x y all here = (here, tt)
zip_push R [] (b ∷ ys) x y all here = absurd all
zip_push R (a ∷ xs) [] x y all here = absurd all
zip_push R (a ∷ xs) (b ∷ ys) x y all here = (all.0, zip_push R xs ys x y all.1 here)

-- one root more, at the end of those so far
pub next_roots : (roots : List ℕ) (i : ℕ) → i < length roots → take (i + 1) roots ≡ take i roots ++ get_or roots i 0 ∷ []
next_roots roots i within = take_more roots i 0 within

pub flat_push : (trees : List Tree) (tree : Tree) → flat_map pages_of (trees ++ tree ∷ []) ≡ flat_map pages_of trees ++ pages_of tree
flat_push trees tree = flat_map-append pages_of trees (tree ∷ []) ∙ ap (λ (l : List ℕ). flat_map pages_of trees ++ l) (append-nil (pages_of tree))

pub forest_more : (pages : Pages) (roots : List ℕ) (i : ℕ) (P Q : List Tree → Type 0) (tree : Tree) → i < length roots → HasForest pages (take i roots) P
    → HasTree pages most_depth (get_or roots i 0) tree → ((trees : List Tree) → P trees → Q (trees ++ tree ∷ [])) → HasForest pages (take (i + 1) roots) Q
forest_more pages roots i P Q tree within f has step = record {
  trees = f.trees ++ tree ∷ [];
  each = let R : List ℕ → Type 0 = λ rs. AllZip (HasTree pages most_depth) rs (f.trees ++ tree ∷ []) in
      subst R (sym (next_roots roots i within)) (zip_push (HasTree pages most_depth) (take i roots) f.trees (get_or roots i 0) tree f.each has);
  said = step f.trees f.said;
}

pub whole_more : (pages : Pages) (roots : List ℕ) (i : ℕ) (named more all : List ℕ) → i < length roots → AreWholeWith pages (take i roots) named
    → IsWholeWith pages (get_or roots i 0) more → all ≡ named ++ more → AreWholeWith pages (take (i + 1) roots) all
whole_more pages roots i named more all within a w all_are = record {
  trees = a.trees ++ w.tree ∷ [];
  each = let R : List ℕ → Type 0 = λ rs. AllZip (IsWholeTree pages) rs (a.trees ++ w.tree ∷ []) in
      subst R (sym (next_roots roots i within)) (zip_push (IsWholeTree pages) (take i roots) a.trees (get_or roots i 0) w.tree a.each w.whole);
  named_are = all_are ∙ ap₂ (λ (x y : List ℕ). x ++ y) a.named_are w.named_are ∙ sym (flat_push a.trees w.tree);
}

pub need_push : (usable : ℕ) (trees : List Tree) (tree : Tree)
    → need_of_trees usable (trees ++ tree ∷ []) ≡ need_of_trees usable trees + need_of_rows usable (map (λ row. length row.payload) (rows_of tree))
need_push usable [] tree = omega arith
need_push usable (t ∷ trees) tree = let more = need_push usable trees tree in
    let here = need_of_rows usable (map (λ row. length row.payload) (rows_of t)) in
    ap (λ n. here + n) more ∙ sym (add_assoc here (need_of_trees usable trees) (need_of_rows usable (map (λ row. length row.payload) (rows_of tree))))

-- ---- why pages are not whole

among_that : (pages : Pages) (roots : List ℕ) (root at : ℕ) (Said : Tree → Type 0) → at ≡ root → Among roots root → HasTreeThat pages root Said → HasAmong pages roots at Said
among_that pages roots root at Said same among h =
    let P : ℕ → Type 0 = λ n. HasAmong pages roots n Said in
    subst P (sym same) (record { among = among; tree = h.tree; has_tree = h.has_tree; said = h.said })

pub lack_of_tree : (pages : Pages) (roots : List ℕ) (root : ℕ) (lack : Lacks) → Among roots root → IsTreeLack pages root lack → IsLack pages roots lack
lack_of_tree pages roots root (lacks.Tree at) among h =
    let P : ℕ → Type 0 = λ n. Among roots n × HasNoTree pages most_depth n in
    subst P (sym h.0) (among, h.1)
lack_of_tree pages roots root (lacks.Order at) among h = among_that pages roots root at _ h.0 among h.1
lack_of_tree pages roots root (lacks.Depth at) among h = among_that pages roots root at _ h.0 among h.1
lack_of_tree pages roots root (lacks.Empty at) among h = among_that pages roots root at _ h.0 among h.1
lack_of_tree pages roots root lacks.Header among h = absurd h
lack_of_tree pages roots root lacks.Freelist among h = absurd h
lack_of_tree pages roots root (lacks.BadFree page) among h = absurd h
lack_of_tree pages roots root lacks.Count among h = absurd h
lack_of_tree pages roots root (lacks.Twice page) among h = absurd h

-- a whole tree is no higher than a whole tree may be
pub tree_of_whole : (pages : Pages) (root : ℕ) (tree : Tree) → IsWholeTree pages root tree → HasTree pages most_depth root tree
tree_of_whole pages root tree w = record { held = w.held; rooted = w.rooted; low = omega (arith, w.shallow, depth_is w.depth tree w.level) }

-- the tree of one of the roots
record FoundTree (pages : Pages) (root : ℕ) : Type 0 where
  found : Tree
  is_whole : IsWholeTree pages root found

tree_at_place : (pages : Pages) (roots : List ℕ) (trees : List Tree) (i : ℕ) → i < length roots → AllZip (IsWholeTree pages) roots trees → FoundTree pages (get_or roots i 0)
tree_at_place pages [] trees i within all = absurd (omega arith)
tree_at_place pages (r ∷ roots) [] i within all = absurd all
tree_at_place pages (r ∷ roots) (t ∷ trees) zero within all = record { found = t; is_whole = all.0 }
tree_at_place pages (r ∷ roots) (t ∷ trees) (suc i) within all = tree_at_place pages roots trees i (omega arith) all.1

tree_among : (pages : Pages) (roots : List ℕ) (trees : List Tree) (root : ℕ) → Among roots root → AllZip (IsWholeTree pages) roots trees → FoundTree pages root
tree_among pages roots trees root among all =
    let p = place_of root roots among in
    subst (FoundTree pages) p.here (tree_at_place pages roots trees p.at p.within all)

same_trees : OneTree → (pages : Pages) (roots : List ℕ) (a b : List Tree) → AllZip (HasTree pages most_depth) roots a → AllZip (IsWholeTree pages) roots b → a ≡ b
same_trees one pages [] [] [] ha hb = refl
same_trees one pages [] [] (y ∷ b) ha hb = absurd hb
same_trees one pages [] (x ∷ a) b ha hb = absurd ha
same_trees one pages (r ∷ roots) [] b ha hb = absurd ha
same_trees one pages (r ∷ roots) (x ∷ a) [] ha hb = absurd hb
same_trees one pages (r ∷ roots) (x ∷ a) (y ∷ b) ha hb =
    ap₂ (λ (t : Tree) (l : List Tree). t ∷ l) (one pages x y ha.0.held hb.0.held (ha.0.rooted ∙ sym hb.0.rooted)) (same_trees one pages roots a b ha.1 hb.1)

-- what is said of the one tree from a root is said of the whole one
said_of_whole : OneTree → (pages : Pages) (roots : List ℕ) (trees : List Tree) (root : ℕ) (Said : Tree → Type 0) → HasAmong pages roots root Said
    → AllZip (IsWholeTree pages) roots trees → (tree : Tree) × IsWholeTree pages root tree × Said tree
said_of_whole one pages roots trees root Said h all =
    let f = tree_among pages roots trees root h.among all in
    (f.found, f.is_whole, subst Said (one pages h.tree f.found h.has_tree.held f.is_whole.held (h.has_tree.rooted ∙ sym f.is_whole.rooted)) h.said)

said_of_freelist : OneFreelist → (pages : Pages) (trunks : List Trunk) (Said : List Trunk → Type 0) → HasFreelist pages Said → IsFreelist pages trunks → Said trunks
said_of_freelist one pages trunks Said h has = subst Said (one pages h.trunks trunks h.has has) h.said

pub not_whole : OneTree → OneFreelist → (pages : Pages) (roots : List ℕ) (lack : Lacks) → IsLack pages roots lack
    → (trees : List Tree) (trunks : List Trunk) → ¬ (IsWholeFor pages roots trees trunks)
not_whole one free pages roots lacks.Header h trees trunks w = h w.header
not_whole one free pages roots (lacks.Tree root) h trees trunks w =
    let f = tree_among pages roots trees root h.0 w.each_tree in
    h.1 f.found (tree_of_whole pages root f.found f.is_whole)
not_whole one free pages roots (lacks.Order root) h trees trunks w =
    let s = said_of_whole one pages roots trees root (λ tree. ¬ (IsOrdered below_all greatest tree)) h w.each_tree in s.2 s.1.ordered
not_whole one free pages roots (lacks.Depth root) h trees trunks w =
    let s = said_of_whole one pages roots trees root (λ tree. (depth : ℕ) → ¬ (HasDepth depth tree)) h w.each_tree in s.2 s.1.depth s.1.level
not_whole one free pages roots (lacks.Empty root) h trees trunks w =
    let s = said_of_whole one pages roots trees root (λ tree. ¬ (IsFilledRoot tree)) h w.each_tree in s.2 s.1.filled
not_whole one free pages roots lacks.Freelist h trees trunks w = h trunks w.freelist
not_whole one free pages roots (lacks.BadFree page) h trees trunks w =
    let s = said_of_freelist free pages trunks (λ ts. Among (free_pages ts) page × ¬ (IsGood pages page)) h w.freelist in s.1 (w.good_free page s.0)
not_whole one free pages roots lacks.Count h trees trunks w =
    said_of_freelist free pages trunks (λ ts. free_count pages ≢ length (free_pages ts)) h w.freelist w.counted
not_whole one free pages roots (lacks.Twice page) h trees trunks w =
    let P : List Tree → Type 0 = λ ts. HasFreelist pages (λ us. 2 ≤ times page (named_pages roots ts us)) in
    let here = subst P (same_trees one pages roots h.trees trees h.each w.each_tree) h.said in
    let s = said_of_freelist free pages trunks (λ us. 2 ≤ times page (named_pages roots trees us)) here w.freelist in
    omega (arith, s, w.different.once page)

-- ---- need

chains_push : (usable : ℕ) (lens : List ℕ) (len : ℕ) → chains_pages usable (lens ++ len ∷ []) ≡ chains_pages usable lens + chain_pages usable len
chains_push usable [] len = add-zero (chain_pages usable len) ∙ sym (zero-add (chain_pages usable len))
chains_push usable (first ∷ lens) len =
    ap (λ n. chain_pages usable first + n) (chains_push usable lens len) ∙ sym (add_assoc (chain_pages usable first) (chains_pages usable lens) (chain_pages usable len))

pub chains_more : (usable i : ℕ) (rows : List Row) (row : Row) → i < length rows → row ≡ get_or rows i row
    → chains_pages usable (map (λ (r : Row). length r.payload) (take (i + 1) rows)) ≡ chains_pages usable (map (λ (r : Row). length r.payload) (take i rows)) + chain_pages usable (length row.payload)
chains_more usable i rows row within is =
    let longer : take (i + 1) rows ≡ take i rows ++ row ∷ [] = take_more rows i row within ∙ ap (λ (r : Row). take i rows ++ r ∷ []) (sym is) in
    ap (λ (rs : List Row). chains_pages usable (map (λ (r : Row). length r.payload) rs)) longer
    ∙ ap (chains_pages usable) (map-append (λ (r : Row). length r.payload) (take i rows) (row ∷ []))
    ∙ chains_push usable (map (λ (r : Row). length r.payload) (take i rows)) (length row.payload)

-- whole trees are trees
pub forest_of_whole : (pages : Pages) (roots : List ℕ) (trees : List Tree) → AllZip (IsWholeTree pages) roots trees → AllZip (HasTree pages most_depth) roots trees
forest_of_whole pages [] [] all = tt
forest_of_whole pages [] (t ∷ trees) all = absurd all
forest_of_whole pages (r ∷ roots) [] all = absurd all
forest_of_whole pages (r ∷ roots) (t ∷ trees) all = (tree_of_whole pages r t all.0, forest_of_whole pages roots trees all.1)
