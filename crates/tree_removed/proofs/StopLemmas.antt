-- What is so of whole pages while a removal is under way.
use Rattle.std.proofs.Common.{◌≡◌, inl, inr, ℕ, ◌≤◌, ℤ, List, [], ◌∷◌, ◌++◌, length, Option, Some, None, ◌⊎◌, refl, sym, ap, subst, arith, length-append}
use Rattle.std.proofs.lemmas.Bool.{cases_lt}
use Rattle.page_list.specs.Pages.{Pages, HasPage, IsGood, times, Among}
use Rattle.page_list.specs.Freelist.{Trunk, take_each}
use Rattle.page_list.specs.Edits.{taken_numbers, after_takes}
use Rattle.page_list.proofs.TimesLemmas.{times-append, times-same, among-back}
use Rattle.tree_page.specs.Laws.{FrontApart}
use Rattle.tree_page.specs.Page.{OnePage}
use Rattle.tree_page.specs.declared.cell.LeafCell.{LeafCell}
use Rattle.tree_page.specs.declared.cell.PageCells.{PageCells}
use Rattle.tree_model.specs.Tree.{Tree, root_of, pages_of}
use Rattle.tree_model.specs.Held.{HasCells}
use Rattle.tree_model.specs.Whole.{IsWholeFor}
use Rattle.tree_model.specs.declared.level.Level.{Level}
use Rattle.tree_model.proofs.OthersLemmas.{split_named}
use Rattle.page_cut.specs.declared.parts.Sheet.{Sheet}
use Rattle.page_cut.specs.declared.parts.Sheets.{Sheets}
use Rattle.tree_level.specs.Level.{numbers, up_cells}
use Rattle.tree_plan.specs.Plan.{cell_of}
use Rattle.tree_plan.specs.Climb.{on, AreClimbed}
use Rattle.tree_page.specs.declared.cell.PageCells.TheVariants.{Interior}
use Rattle.tree_laws.proofs.DeepLemmas.{whole_one}
use Rattle.tree_laws.proofs.FrontLemmas.{top_count}
use Rattle.tree_laws.proofs.RangeLemmas.{named_there}
use Rattle.tree_shrink.specs.Root.{content_of}
use Rattle.tree_put.specs.Keeps.{AreWritten}
use Rattle.tree_put.proofs.PreparedLemmas.{chain_count, chain_numbers, prepared}
use Rattle.tree_join.specs.declared.level.Left.{Left}
use Rattle.tree_join.specs.Join.{listed}
use Rattle.tree_join.specs.declared.level.Left.TheVariants.{Parts, Over, Nothing}
use Rattle.tree_remove.specs.Shrink.{AreShrunk}
use Rattle.tree_removed.specs.Removes.{IsShrinking}
use Rattle.tree_removed.proofs.FitLemmas.{counted}
use Rattle.tree_removed.proofs.MovedLemmas.{tree_good, has_content}
use Rattle.tree_removed.proofs.StepLemmas.{Searched, RowShrunk}
use Rattle.tree_removed.proofs.ToppedLemmas.{written_over}
use Rattle.tree_removed.proofs.DoneLemmas.{Apart, shrinking}

abbrev pub left_after : ℕ → Pages → List Trunk → List Trunk
left_after count old trunks = take_each count (take_each (chain_count old []) trunks)

-- what is shrunk, on the pages with those that were taken
pub record OnGrown (page_size : ℕ) (old : Pages) (key : ℤ) (levels : List Level) (leaf : ℕ) (cells : List LeafCell) (w : RowShrunk page_size old key levels leaf cells)
    (roots : List ℕ) (before : List Tree) (tree : Tree) (behind : List Tree) (free : List Trunk) : Type 0 where
  pub is : IsShrinking (after_takes page_size w.count old) roots before tree behind free key (taken_numbers page_size w.count old) w.out w.lost w.over
  pub has : cell_of key is.cells ≡ Some w.cell
  pub once : Apart roots before behind tree free (taken_numbers page_size w.count old)
  pub taken_there : (n : ℕ) → Among (taken_numbers page_size w.count old) n → HasPage (after_takes page_size w.count old) n

pub on_grown : FrontApart → OnePage → (page_size : ℕ) (old : Pages) (root : ℕ) (key : ℤ) (roots : List ℕ) (before behind : List Tree) (tree : Tree) (trunks : List Trunk)
    → (d : Searched page_size old root key) → IsWholeFor old roots (before ++ tree ∷ behind) trunks → root_of tree ≡ root → (w : RowShrunk page_size old key d.levels d.leaf d.cells)
    → OnGrown page_size old key d.levels d.leaf d.cells w roots before tree behind (left_after w.count old trunks)
on_grown front_apart one_page page_size old root key roots before behind tree trunks d whole rooted w =
    let grown : Pages = after_takes page_size w.count old in
    let free : List Trunk = left_after w.count old trunks in
    let p = prepared front_apart page_size w.count old old [] 0 roots before behind tree trunks d.size_of_page d.spare d.sized d.sized whole (inl (refl, refl, refl)) w.few in
    let once : Apart roots before behind tree free (taken_numbers page_size w.count old) = λ n. omega (arith, p.once n) in
    let c = shrinking one_page page_size old grown root key roots before behind tree trunks free d whole rooted w p.whole p.used once p.least in
    record { is = c.0; has = c.1; once = once; taken_there = λ n some. p.there n (among-back n (chain_numbers page_size old []) (taken_numbers page_size w.count old) some) }

-- the pages of the tree, and those that were taken, are there
pub all_there : (old : Pages) (roots : List ℕ) (before behind : List Tree) (tree : Tree) (trunks : List Trunk) (taken : List ℕ)
    → IsWholeFor old roots (before ++ tree ∷ behind) trunks → ((n : ℕ) → Among taken n → HasPage old n) → (n : ℕ) → Among (pages_of tree ++ taken) n → HasPage old n
all_there old roots before behind tree trunks taken whole there n some = elim (cases_lt 0 (times n taken)) [
  | inl new_one ↦ there n (omega (arith, new_one))
  | inr none ↦ named_there old roots (before ++ tree ∷ behind) trunks whole n
      (omega (arith, some, none, times-append n (pages_of tree) taken, split_named roots before behind tree trunks n))
]

-- the pages of the sheets are good
pub out_good : (old : Pages) (roots : List ℕ) (before behind : List Tree) (tree : Tree) (trunks : List Trunk) (key : ℤ) (taken : List ℕ) (out : List Sheet) (lost : List ℕ)
    (above : Option ℕ) → IsShrinking old roots before tree behind trunks key taken out lost above → ((n : ℕ) → Among taken n → IsGood old n)
    → (n : ℕ) → Among (numbers out) n → IsGood old n
out_good old roots before behind tree trunks key taken out lost above c good n some =
    let k = counted old roots before behind tree trunks key taken out lost above c in
    let whole = whole_one old roots before behind tree c.whole.each_tree in
    elim (cases_lt 0 (times n taken)) [
      | inl new_one ↦ good n (omega (arith, new_one))
      | inr none ↦ (tree_good old [] tree whole.1.held n (omega (arith, some, none, k.out_few n))).1
    ]

-- and so is the root
pub root_good : (old : Pages) (roots : List ℕ) (before behind : List Tree) (tree : Tree) (trunks : List Trunk) → IsWholeFor old roots (before ++ tree ∷ behind) trunks
    → HasPage old (root_of tree) × IsGood old (root_of tree)
root_good old roots before behind tree trunks is =
    let root : ℕ = root_of tree in
    let whole = whole_one old roots before behind tree is.each_tree in tree_good old [] tree whole.1.held root (omega (arith, top_count root tree, times-same root))

-- the one child that the root has left has cells, once the sheets are written
pub child_has : OnePage → (page_size : ℕ) (old mid : Pages) (roots : List ℕ) (before behind : List Tree) (tree : Tree) (trunks : List Trunk) (key : ℤ) (taken : List ℕ)
    (out : List Sheet) (lost : List ℕ) (child : ℕ) → IsShrinking old roots before tree behind trunks key taken out lost (Some child) → AreWritten page_size old mid out
    → ((n : ℕ) → Among taken n → HasPage old n) → (cells : PageCells) × HasCells mid child cells
child_has one_page page_size old mid roots before behind tree trunks key taken out lost child c written there =
    let is = written_over one_page page_size old mid roots before behind tree trunks key taken out lost (Some child) c written there in
    let sub : Tree = is.1.0 in
    let H : ℕ → Type 0 = λ m. HasCells mid m (content_of sub) in
    (content_of sub, subst H is.1.1 (has_content mid sub is.1.2.is.held))

-- a removal writes a page at least, or gives one back, or leaves the root one child

pub climbed_some : (usable number : ℕ) (sheets : Sheets) (levels : List Level) (taken : List ℕ) (out : List Sheet) → AreClimbed usable number sheets levels taken out → 1 ≤ length out
climbed_some usable number sheets [] taken out (inl fits) = omega (arith, ap (λ (l : List Sheet). length l) fits.2)
climbed_some usable number sheets [] taken out (inr cut) =
    omega (arith, ap (λ (l : List Sheet). length l) cut.out_are, length-append cut.front (on cut.page sheets.last ∷ on number (Interior (up_cells cut.front) cut.page) ∷ []))
climbed_some usable number sheets (level ∷ above) taken out (front, more, others, settles, how) =
    omega (arith, ap (λ (l : List Sheet). length l) settles.out_are, length-append front (on number sheets.last ∷ others))

abbrev pub HasOver : Option ℕ → Type 0
HasOver None = ⊥
HasOver (Some child) = Unit {0}

abbrev pub LeavesSome : List Sheet → List ℕ → Option ℕ → Type 0
LeavesSome out lost over = (1 ≤ length out) ⊎ ((1 ≤ length lost) ⊎ HasOver over)

pub shrunk_some : (pages : Pages) (number : ℕ) (left : Left) (levels : List Level) (taken : List ℕ) (out : List Sheet) (lost : List ℕ) (over : Option ℕ)
    → AreShrunk pages number left levels taken out lost over → LeavesSome out lost over
shrunk_some pages number (Parts sheets) levels taken out lost over is = inl (climbed_some pages.usable number sheets levels taken out is.0)
shrunk_some pages number Nothing [] taken out lost over is = inl (omega (arith, ap (λ (l : List Sheet). length l) is.1))
shrunk_some pages number Nothing (level ∷ above) taken out lost over (left, more, left_out, lost_is, rest) = inr (inl (omega (arith, ap (λ (l : List ℕ). length l) lost_is)))
shrunk_some pages number (Over child) [] taken out lost over is = let P : Option ℕ → Type 0 = HasOver in inr (inr (subst P (sym is.3) tt))
shrunk_some pages number (Over child) (level ∷ above) taken out lost over (inl (others, more, only, rest)) = inr (inl (omega (arith, ap (λ (l : List ℕ). length l) only.lost_are)))
shrunk_some pages number (Over child) (level ∷ above) taken out lost over (inr (inl (plan, others, more, joined, rest))) =
    elim (shrunk_some pages level.number plan.left above taken others more over rest) [
      | inl written ↦ inl (omega (arith, written, ap (λ (l : List Sheet). length l) joined.out_are, length-append plan.sheets.items others))
      | inr (inl gone) ↦ inr (inl (omega (arith, gone, ap (λ (l : List ℕ). length l) joined.lost_are, length-append (listed plan.lost) more)))
      | inr (inr is) ↦ inr (inr is)
    ]
shrunk_some pages number (Over child) (level ∷ above) taken out lost over (inr (inr alone)) = inl (omega (arith, ap (λ (l : List Sheet). length l) alone.0.out_are))
