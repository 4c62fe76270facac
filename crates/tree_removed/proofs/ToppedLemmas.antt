-- The sheets of a removal are written, and the root takes over the one child that it has left.
use Rattle.std.proofs.Common.{◌≡◌, ◌≢◌, inl, inr, ℕ, ◌+◌, ◌≤◌, ℤ, List, [], ◌∷◌, ◌++◌, take, Option, Some, None, sym, ap, subst, ◌∙◌, arith}
use Rattle.std.specs.List.{AllByRecursion}
use Rattle.std.proofs.lemmas.Bool.{cases_lt}
use Rattle.std.proofs.lemmas.Bool.Decides.{nat_tests}
use Rattle.page_list.specs.Pages.{Pages, HasPage, IsGood, SamePage, times, Among, AreSized}
use Rattle.page_list.specs.Freelist.{Trunk}
use Rattle.page_list.proofs.EditLemmas.{same-on}
use Rattle.page_list.proofs.TimesLemmas.{times-append, times-same, same_or_other}
use Rattle.tree_page.specs.Laws.{PageFits}
use Rattle.tree_page.specs.declared.cell.PageCells.{PageCells}
use Rattle.tree_page.specs.declared.cell.PageCells.TheVariants.{Interior as InteriorPage}
use Rattle.tree_page.specs.Page.{begin_of, OnePage}
use Rattle.tree_page.specs.Written.{Fits}
use Rattle.tree_model.specs.Tree.{Tree, root_of, rows_of, pages_of}
use Rattle.tree_model.specs.Held.{HasCells}
use Rattle.tree_model.specs.Whole.{IsWholeTree}
use Rattle.tree_model.proofs.OnePathLemmas.{same_cells}
use Rattle.tree_model.proofs.OthersLemmas.{split_named}
use Rattle.tree_run.specs.Run.{one, over}
use Rattle.tree_run.specs.Edit.{chain_at}
use Rattle.page_cut.specs.declared.parts.Sheet.{Sheet}
use Rattle.tree_level.specs.Level.{numbers}
use Rattle.tree_plan.specs.Climb.{on}
use Rattle.tree_laws.proofs.DeepLemmas.{whole_one}
use Rattle.tree_laws.proofs.FrontLemmas.{top_count}
use Rattle.tree_laws.proofs.RangeLemmas.{named_there}
use Rattle.tree_shrink.specs.Root.{RootLeft, content_of, moved}
use Rattle.tree_shrink.proofs.RootLemmas.{root_takes, root_over_one}
use Rattle.tree_put.specs.Puts.{HasPlace}
use Rattle.tree_put.specs.Keeps.{AreWritten}
use Rattle.tree_put.proofs.ClimbLemmas.{few_fit}
use Rattle.tree_removed.specs.Removes.{IsShrinking, HasRemoved, IsOver}
use Rattle.tree_removed.proofs.RemovesLemmas.{shrink_removes}
use Rattle.tree_removed.proofs.FitLemmas.{tree_above_one, counted, shrink_fits}
use Rattle.tree_removed.proofs.MovedLemmas.{tree_good, has_content}
use Rattle.tree_removed.proofs.StepLemmas.{IsTopped}

-- the sheets are on their pages
on_pages : (old new : Pages) (tree : Tree) (taken : List ℕ) (out : List Sheet) → ((n : ℕ) → Among (pages_of tree ++ taken) n → HasPage old n)
    → AllByRecursion (HasPlace old tree taken) out
    → AllByRecursion (λ sheet. HasPage old sheet.number → Fits sheet.cells sheet.number old.usable → HasCells new sheet.number sheet.cells) out
    → AllByRecursion (λ sheet. HasCells new sheet.number sheet.cells) out
on_pages old new tree taken [] there places each = tt
on_pages old new tree taken (s ∷ more) there places each = (each.0 (there s.number places.0.among) places.0.fits, on_pages old new tree taken more there places.1 each.1)

pub written_over : OnePage → (page_size : ℕ) (old new : Pages) (roots : List ℕ) (before behind : List Tree) (tree : Tree) (trunks : List Trunk) (key : ℤ) (taken : List ℕ) (out : List Sheet)
    (lost : List ℕ) (above : Option ℕ) → IsShrinking old roots before tree behind trunks key taken out lost above → AreWritten page_size old new out
    → ((n : ℕ) → Among taken n → HasPage old n) → IsOver new key tree taken (chain_at key (rows_of tree) ++ lost) above
written_over one_page page_size old new roots before behind tree trunks key taken out lost above c written there =
    let fits = shrink_fits.sheets old roots before behind tree trunks key taken out lost above c in
    let all_there : (n : ℕ) → Among (pages_of tree ++ taken) n → HasPage old n = λ n some. elim (cases_lt 0 (times n taken)) [
      | inl new_one ↦ there n (omega (arith, new_one))
      | inr none ↦ named_there old roots (before ++ tree ∷ behind) trunks c.whole n
          (omega (arith, some, none, times-append n (pages_of tree) taken, split_named roots before behind tree trunks n))
    ] in
    shrink_removes one_page old new roots before behind tree trunks key taken out lost above c (on_pages old new tree taken out all_there fits.1 (written.each fits.0))
    (record {
      used = written.used;
      there = λ n kept is. record { least = is.least; most = omega (arith, is.most, written.size) };
      same = λ n kept. written.others n kept.unwritten;
    })

-- what stands then, and what is still to be given back
pub record Topped (page_size : ℕ) (old new : Pages) (tree : Tree) (key : ℤ) (taken : List ℕ) (out : List Sheet) (all : List ℕ) : Type 0 where
  pub removed : HasRemoved new key tree taken (chain_at key (rows_of tree) ++ all)
  pub sized : AreSized page_size new
  pub size : new.size ≡ old.size
  pub used : new.usable ≡ old.usable
  pub others : (n : ℕ) → ¬ (Among (numbers out) n) → n ≢ root_of tree → SamePage old new n
  pub front : take 100 (new.bytes 1) ≡ take 100 (old.bytes 1)
  pub good : IsGood old 1 → IsGood new 1
  pub gone_few : (n : ℕ) → times n (chain_at key (rows_of tree) ++ all) + times n (root_of tree ∷ []) ≤ times n (pages_of tree)
  pub each_good : (n : ℕ) → Among all n → IsGood new n

-- the pages that are lost are good still
lost_good : (page_size : ℕ) (old new : Pages) (roots : List ℕ) (before behind : List Tree) (tree : Tree) (trunks : List Trunk) (key : ℤ) (taken : List ℕ) (out : List Sheet)
    (lost : List ℕ) (above : Option ℕ) → IsShrinking old roots before tree behind trunks key taken out lost above → AreWritten page_size old new out → (n : ℕ) → Among lost n → IsGood new n
lost_good page_size old new roots before behind tree trunks key taken out lost above c written n some =
    let k = counted old roots before behind tree trunks key taken out lost above c in
    let whole = whole_one old roots before behind tree c.whole.each_tree in
    let gone : List ℕ = chain_at key (rows_of tree) in
    (written.others n (λ out_too. omega (arith, some, out_too, k.out_few n, k.once n, times-append n gone lost))).mark_stays
    ∙ (tree_good old [] tree whole.1.held n (omega (arith, some, k.gone_few n, times-append n gone lost))).1

topped_none : (page_size : ℕ) (old new : Pages) (roots : List ℕ) (before behind : List Tree) (tree : Tree) (trunks : List Trunk) (key : ℤ) (taken : List ℕ) (out : List Sheet)
    (lost : List ℕ) (above : Option ℕ) → IsShrinking old roots before tree behind trunks key taken out lost above → AreWritten page_size old new out
    → HasRemoved new key tree taken (chain_at key (rows_of tree) ++ lost) → Topped page_size old new tree key taken out lost
topped_none page_size old new roots before behind tree trunks key taken out lost above c written removed = record {
  removed = removed;
  sized = written.sized;
  size = written.size;
  used = written.used;
  others = λ n unwritten differs. written.others n unwritten;
  front = written.front;
  good = written.good;
  gone_few = (counted old roots before behind tree trunks key taken out lost above c).gone_few;
  each_good = lost_good page_size old new roots before behind tree trunks key taken out lost above c written;
}

-- the root is written again

among_root : (n root : ℕ) → n ≢ root → ¬ (Among (root ∷ []) n)
among_root n root differs some = elim (same_or_other n root) [ inl same ↦ differs (sym same.0) | inr other ↦ omega (arith, some, other.1) ]

topped_some : (page_size : ℕ) (old mid new : Pages) (roots : List ℕ) (before behind : List Tree) (tree : Tree) (trunks : List Trunk) (key : ℤ) (taken : List ℕ) (out : List Sheet)
    (lost all : List ℕ) (above : Option ℕ) (cells : PageCells) → IsShrinking old roots before tree behind trunks key taken out lost above → AreWritten page_size old mid out
    → AreWritten page_size mid new (on (root_of tree) cells ∷ []) → HasRemoved new key tree taken (chain_at key (rows_of tree) ++ all)
    → ((n : ℕ) → times n (chain_at key (rows_of tree) ++ all) + times n (root_of tree ∷ []) ≤ times n (pages_of tree))
    → ((n : ℕ) → Among all n → IsGood mid n) → Topped page_size old new tree key taken out all
topped_some page_size old mid new roots before behind tree trunks key taken out lost all above cells c written again removed few good =
    let root : ℕ = root_of tree in
    let k = counted old roots before behind tree trunks key taken out lost above c in
    record {
      removed = removed;
      sized = again.sized;
      size = again.size ∙ written.size;
      used = again.used ∙ written.used;
      others = λ n unwritten differs. same-on old mid new n (written.others n unwritten) (again.others n (among_root n root differs));
      front = again.front ∙ written.front;
      good = λ is. again.good (written.good is);
      gone_few = few;
      each_good = λ n some. (again.others n (λ root_too. omega (
        arith,
        some,
        root_too,
        few n,
        k.once n,
        times-append n (chain_at key (rows_of tree)) all,
      ))).mark_stays ∙ good n some;
    }

-- the page of the child and the root have the same room, but for page 1
same_begin : (a b : ℕ) → 2 ≤ a → 2 ≤ b → begin_of a ≡ begin_of b
same_begin a b x y = grind (arith, nat_tests, x, y)

fits_too : (cells : PageCells) (a b usable : ℕ) → 2 ≤ a → 2 ≤ b → Fits cells a usable → Fits cells b usable
fits_too cells a b usable x y fits = record { rising = fits.rising; sound = fits.sound; room = omega (arith, fits.room, same_begin a b x y) }

-- the root has its new cells
root_has : (page_size : ℕ) (old new : Pages) (root : ℕ) (cells : PageCells) → AreWritten page_size old new (on root cells ∷ []) → HasPage old root → Fits cells root old.usable
    → HasCells new root cells
root_has page_size old new root cells again there fits = (again.each (record { once = λ n. omega (arith, one_at_most n root) })).0 there fits
  where
    one_at_most : (n root : ℕ) → times n (root ∷ []) ≤ 1
    one_at_most n root = elim (same_or_other n root) [ inl same ↦ omega (arith, same.1) | inr other ↦ omega (arith, other.1) ]

pub topped : OnePage → PageFits → (page_size : ℕ) (old mid new : Pages) (roots : List ℕ) (before behind : List Tree) (tree : Tree) (trunks : List Trunk) (key : ℤ) (taken : List ℕ)
    (out : List Sheet) (lost all : List ℕ) (above : Option ℕ) → IsShrinking old roots before tree behind trunks key taken out lost above → AreWritten page_size old mid out
    → ((n : ℕ) → Among taken n → HasPage old n) → IsTopped page_size mid new (root_of tree) lost above all → Topped page_size old new tree key taken out all
topped one_page page_fits page_size old mid new roots before behind tree trunks key taken out lost all None c written there top =
    let removed = written_over one_page page_size old mid roots before behind tree trunks key taken out lost None c written there in
    let P : Pages → Type 0 = λ p. Topped page_size old p tree key taken out all in
    let L : List ℕ → Type 0 = λ l. Topped page_size old mid tree key taken out l in
    subst P (sym top.0) (subst L (sym top.1) (topped_none page_size old mid roots before behind tree trunks key taken out lost None c written removed))
topped one_page page_fits page_size old mid new roots before behind tree trunks key taken out lost all (Some child) c written there (cells, has, how) =
    let root : ℕ = root_of tree in
    let gone : List ℕ = chain_at key (rows_of tree) in
    let k = counted old roots before behind tree trunks key taken out lost (Some child) c in
    let is = written_over one_page page_size old mid roots before behind tree trunks key taken out lost (Some child) c written there in
    let sub : Tree = is.1.0 in
    let left : RootLeft mid key tree sub (gone ++ lost) = is.1.2 in
    let H : ℕ → Type 0 = λ m. HasCells mid m (content_of sub) in
    let content : cells ≡ content_of sub = same_cells one_page mid child cells (content_of sub) has (subst H is.1.1 (has_content mid sub left.is.held)) in
    let child_is : (n : ℕ) → times n (child ∷ []) ≤ times n (pages_of sub) = λ n. omega (arith, top_count n sub, ap (λ m. times n (m ∷ [])) is.1.1) in
    let none_taken : (n : ℕ) → times n taken ≡ 0 = λ n. ap (times n) is.0 in
    let old_root = named_there old roots (before ++ tree ∷ behind) trunks c.whole root
    (omega (arith, top_count root tree, times-same root, split_named roots before behind tree trunks root)) in
    let has_root : HasPage mid root = record { least = old_root.least; most = omega (arith, old_root.most, written.size) } in
    let good_lost = lost_good page_size old mid roots before behind tree trunks key taken out lost (Some child) c written in
    elim how [
      | inl (fits, again, all_is) ↦
          let C : PageCells → Type 0 = λ x. HasCells new root x in
          let made = root_takes mid new key tree sub (gone ++ lost) left (subst C content (root_has page_size mid new root cells again has_root fits))
          (record {
            used = again.used;
            there = λ n kept h. record { least = h.least; most = omega (arith, h.most, again.size) };
            same = λ n kept. again.others n (λ root_too. omega (arith, kept, root_too, left.named n, k.once n));
          }) in
          let parts : (n : ℕ) → times n (gone ++ all) ≡ times n (gone ++ lost) + times n (child ∷ []) = λ n. omega (
            arith,
            times-append n gone all,
            times-append n gone lost,
            ap (times n) all_is,
            times-append n lost (child ∷ []),
          ) in
          topped_some page_size old mid new roots before behind tree trunks key taken out lost all (Some child) cells c written again
          (record {
            tree = moved root sub;
            whole = made.whole;
            rows = made.rows;
            named = λ n. omega (
              arith,
              made.named n,
              none_taken n,
              parts n,
              times-append n (gone ++ lost) (root_of sub ∷ []),
              ap (λ m. times n (m ∷ [])) is.1.1,
            );
          })
          (λ n. omega (arith, left.named n, parts n, child_is n))
          (λ n some. elim (cases_lt 0 (times n lost)) [
            | inl lost_too ↦ good_lost n (omega (arith, lost_too))
            | inr none ↦ elim (same_or_other n child) [
              | inl same ↦ let G : ℕ → Type 0 = IsGood mid in subst G same.0 has.good
              | inr other ↦ absurd (omega (arith, some, none, other.1, ap (times n) all_is, times-append n lost (child ∷ [])))
            ]
          ])
      | inr (over_full, again, all_is) ↦
          let first : root ≡ 1 = elim (cases_lt 1 root) [
            | inr small ↦ omega (arith, small, old_root.least)
            | inl big ↦
                let inside : Among (pages_of tree) child = omega (arith, child_is child, times-same child, left.named child) in
                let below : 2 ≤ child = tree_above_one old roots before behind tree trunks c.whole child inside
                (λ same. omega (arith, child_is child, times-same child, left.named child, k.once child, ap (λ m. times child (m ∷ [])) same)) in
                absurd (over_full (fits_too cells child root mid.usable below (omega (arith, big))
                (page_fits (mid.bytes child) child mid.usable cells (omega (arith, written.sized.each child has.there, written.sized.most)) has.reads)))
          ] in
          let fits = few_fit mid.usable root child [] written.sized.least (omega arith) tt in
          let bare = root_has page_size mid new root (InteriorPage [] child) again has_root fits in
          let B : ℕ → Type 0 = λ m. HasCells new m (InteriorPage [] (root_of sub)) in
          let D : ℕ → Type 0 = λ m. HasCells new root (InteriorPage [] m) in
          let made = root_over_one mid new key tree sub (gone ++ lost) left first (subst B first (subst D (sym is.1.1) bare))
          (record {
            used = again.used;
            there = λ n kept h. record { least = h.least; most = omega (arith, h.most, again.size) };
            same = λ n kept. again.others n (λ root_too. omega (arith, kept, root_too, left.named n, k.once n));
          }) in
          let parts : (n : ℕ) → times n (gone ++ all) ≡ times n (gone ++ lost) = λ n. ap (λ (l : List ℕ). times n (gone ++ l)) all_is in
          let W : ℕ → Type 0 = λ m. IsWholeTree new m (over 1 (one sub)) in
          topped_some page_size old mid new roots before behind tree trunks key taken out lost all (Some child) (InteriorPage [] child) c written again
          (record {
            tree = over 1 (one sub);
            whole = subst W (sym first) made.whole;
            rows = made.rows;
            named = λ n. omega (arith, made.named n, none_taken n, parts n);
          })
          (λ n. omega (arith, left.named n, parts n))
          (λ n some. good_lost n (omega (arith, some, ap (times n) all_is)))
    ]
