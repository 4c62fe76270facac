-- The steps of a removal, one after the other, on the pages alone.
use Rattle.std.proofs.Common.{◌≡◌, ◌⊎◌, inl, inr, ℕ, ◌+◌, ◌*◌, ◌≤◌, Bool, true, false, ℤ, ◌<ℤ◌, ◌≤ℤ◌, List, [], ◌∷◌, ◌++◌, Option, Some, None, refl, ap, subst, ◌∙◌, arith}
use Rattle.std.specs.Prelude.{reverse, nat_eq, nat_lt, if◌then◌else◌}
use Rattle.std.specs.List.{AllByRecursion}
use Rattle.std.proofs.lemmas.List.{append-nil}
use Rattle.db_format.specs.Header.{IsPageSize, greatest_length}
use Rattle.page_list.specs.Pages.{Pages, HasPage, AreSized}
use Rattle.page_list.specs.Freelist.{first_trunk, leaf_count, full}
use Rattle.page_list.specs.Edits.{taken_numbers, after_takes, after_give, after_gives}
use Rattle.tree_page.specs.declared.cell.LeafCell.{LeafCell}
use Rattle.tree_page.specs.declared.cell.PageCells.{PageCells}
use Rattle.tree_page.specs.declared.cell.PageCells.TheVariants.{Interior}
use Rattle.tree_page.specs.Written.{Fits}
use Rattle.tree_model.specs.Held.{HasCells}
use Rattle.tree_model.specs.Whole.{below_all, greatest}
use Rattle.tree_model.specs.declared.level.Level.{Level}
use Rattle.page_cut.specs.declared.parts.Sheet.{Sheet}
use Rattle.tree_plan.specs.Plan.{cell_of}
use Rattle.tree_plan.specs.Climb.{on}
use Rattle.tree_search.specs.Search.{Descends}
use Rattle.tree_write.specs.Write.{MayStand, Wrote}
use Rattle.tree_put.specs.Keeps.{AreWritten, IsGiven}
use Rattle.tree_join.specs.declared.level.Left.{Left}
use Rattle.tree_join.specs.Join.{IsLeafLeft}
use Rattle.tree_join.specs.Leaf.{other_cells}
use Rattle.tree_remove.specs.Shrink.{AreShrunk}
use Rattle.tree_remove.specs.Remove.{IsTakenOver, Removed}

-- the search of a removal, of pages that are sized
pub record Searched (page_size : ℕ) (old : Pages) (root : ℕ) (key : ℤ) : Type 0 where
  pub size_of_page : IsPageSize page_size
  pub spare : page_size ≤ old.usable + 255
  pub sized : AreSized page_size old
  pub above : below_all <ℤ key
  pub below : key ≤ℤ greatest
  pub levels : List Level
  pub leaf : ℕ
  pub cells : List LeafCell
  pub descends : Descends old key root levels leaf cells

-- the root takes over its one child, whose page is lost then; page 1, where the cells of the child do not fit, stands over it without a cell
abbrev pub IsTopped : ℕ → Pages → Pages → ℕ → List ℕ → Option ℕ → List ℕ → Type 0
IsTopped page_size old new root lost None all = (new ≡ old) × (all ≡ lost)
IsTopped page_size old new root lost (Some child) all =
    (cells : PageCells) × HasCells old child cells
    × ((Fits cells root old.usable × AreWritten page_size old new (on root cells ∷ []) × (all ≡ lost ++ child ∷ []))
    ⊎ (¬ (Fits cells root old.usable) × AreWritten page_size old new (on root (Interior [] child) ∷ []) × (all ≡ lost)))

-- there was a row: its cell, what is left of the way, and the pages taken
pub record RowShrunk (page_size : ℕ) (old : Pages) (key : ℤ) (levels : List Level) (leaf : ℕ) (cells : List LeafCell) : Type 0 where
  pub cell : LeafCell
  pub has : cell_of key cells ≡ Some cell
  pub left : Left
  pub left_is : IsLeafLeft leaf old.usable (other_cells key cells) left
  pub count : ℕ
  pub few : (after_takes page_size count old).size * page_size ≤ greatest_length
  pub out : List Sheet
  pub lost : List ℕ
  pub over : Option ℕ
  pub shrunk : AreShrunk old leaf left (reverse levels) (taken_numbers page_size count old) out lost over

-- then what was written, the root, the pages given back, and the chain of the row
pub record RowRemoved (page_size : ℕ) (old new : Pages) (root : ℕ) (key : ℤ) (levels : List Level) (leaf : ℕ) (cells : List LeafCell) : Type 0 where
  pub way : RowShrunk page_size old key levels leaf cells
  pub written : Pages
  pub write : AreWritten page_size (after_takes page_size way.count old) written way.out
  pub topped : Pages
  pub all : List ℕ
  pub top : IsTopped page_size written topped root way.lost way.over all
  pub given : Pages
  pub given_is : given ≡ after_gives page_size all topped
  pub give : IsGiven page_size given new (Some way.cell)

-- sheets that were written

pub each_written : (old new : Pages) (out : List Sheet) → AllByRecursion (λ sheet. MayStand old sheet → HasCells new sheet.number sheet.cells) out
    → AllByRecursion (λ sheet. HasPage old sheet.number → Fits sheet.cells sheet.number old.usable → HasCells new sheet.number sheet.cells) out
each_written old new [] all = tt
each_written old new (s ∷ more) all = (λ there fits. all.0 (record { there = there; fits = fits }), each_written old new more all.1)

pub are_written : (page_size : ℕ) (old new : Pages) (out : List Sheet) → AreSized page_size old → Wrote old new out → AreWritten page_size old new out
are_written page_size old new out sized wrote = record {
  sized = record {
    least = omega (arith, sized.least, wrote.only.used);
    most = omega (arith, sized.most, wrote.only.used);
    short = sized.short;
    few = omega (arith, sized.few, wrote.only.only.size);
    each = λ n there. wrote.only.long n ∙ sized.each n (record { least = there.least; most = omega (arith, there.most, wrote.only.only.size) });
  };
  size = wrote.only.only.size;
  used = wrote.only.used;
  each = λ different. each_written old new out (wrote.each different);
  others = wrote.only.only.each;
  front = wrote.only.front;
  good = wrote.only.good 1;
}

-- the root takes over its one child

pub is_topped : (page_size : ℕ) (old new : Pages) (root : ℕ) (lost : List ℕ) (over : Option ℕ) (also : List ℕ) → AreSized page_size old → IsTakenOver old new root over also
    → IsTopped page_size old new root lost over (lost ++ also)
is_topped page_size old new root lost None also sized (same, none) = (same, ap (λ (l : List ℕ). lost ++ l) none ∙ append-nil lost)
is_topped page_size old new root lost (Some child) also sized (cells, has, inl (fits, gone, wrote)) =
    (cells, has, inl (fits, are_written page_size old new (on root cells ∷ []) sized wrote, ap (λ (l : List ℕ). lost ++ l) gone))
is_topped page_size old new root lost (Some child) also sized (cells, has, inr (none, gone, wrote)) =
    (cells, has, inr (none, are_written page_size old new (on root (Interior [] child) ∷ []) sized wrote, ap (λ (l : List ℕ). lost ++ l) gone ∙ append-nil lost))

over_size : (old new : Pages) (root : ℕ) (over : Option ℕ) (also : List ℕ) → IsTakenOver old new root over also → new.size ≡ old.size
over_size old new root None also (same, none) = ap (λ (p : Pages). p.size) same
over_size old new root (Some child) also (cells, has, inl (fits, gone, wrote)) = wrote.only.only.size
over_size old new root (Some child) also (cells, has, inr (none, gone, wrote)) = wrote.only.only.size

-- pages that are given back are no fewer then, and no more

same_if : (b c : Bool) (x y z : Pages) (size : ℕ) → x.size ≡ size → y.size ≡ size → z.size ≡ size → (if b then x else if c then y else z).size ≡ size
same_if true c x y z size p q r = p
same_if false true x y z size p q r = q
same_if false false x y z size p q r = r

give_size : (page_size number : ℕ) (pages : Pages) → (after_give page_size number pages).size ≡ pages.size
unfolding after_give
give_size page_size number pages =
    same_if (nat_eq (first_trunk pages) 0) (nat_lt (leaf_count pages (first_trunk pages)) (full pages.usable)) _ _ _ pages.size refl refl refl

gives_size : (page_size : ℕ) (numbers : List ℕ) (pages : Pages) → (after_gives page_size numbers pages).size ≡ pages.size
gives_size page_size [] pages = refl
gives_size page_size (n ∷ more) pages = gives_size page_size more (after_give page_size n pages) ∙ give_size page_size n pages

-- so there are as many pages in the end as after the last take
pub removed_size : (page_size : ℕ) (old new : Pages) (changed : Bool) (root : ℕ) (key : ℤ) → (r : Removed page_size old new changed root key) → new.size ≡ (after_takes page_size r.count old).size
removed_size page_size old new changed root key r =
    let size : Pages → ℕ = λ p. p.size in
    omega (
      arith,
      ap size r.freed.gives.are,
      gives_size page_size r.freed.numbers r.given,
      ap size r.settled.gives.are,
      gives_size page_size (r.shrunk.lost.items ++ r.settled.also) r.settled.topped,
      over_size r.settled.rewritten.written r.settled.topped root r.shrunk.over r.settled.also r.settled.rewritten.over,
      r.settled.rewritten.wrote.only.only.size,
    )

abbrev pub row_shrunk : (page_size : ℕ) (old new : Pages) (changed : Bool) (root : ℕ) (key : ℤ) → (r : Removed page_size old new changed root key)
    → (after_takes page_size r.count old).size * page_size ≤ greatest_length → RowShrunk page_size old key r.descent.levels.items r.descent.leaf r.descent.cells
row_shrunk page_size old new changed root key r few =
    let L : List LeafCell → Type 0 = λ l. IsLeafLeft r.descent.leaf old.usable l r.left in
    record {
      cell = r.taken.cell;
      has = r.taken_is.cell;
      left = r.left;
      left_is = subst L r.taken_is.others r.left_is;
      count = r.count;
      few = few;
      out = r.shrunk.out.items;
      lost = r.shrunk.lost.items;
      over = r.shrunk.over;
      shrunk = r.are;
    }

pub row_steps : (page_size : ℕ) (old new : Pages) (changed : Bool) (root : ℕ) (key : ℤ) → (r : Removed page_size old new changed root key) → AreSized page_size (after_takes page_size r.count old)
    → (after_takes page_size r.count old).size * page_size ≤ greatest_length
    → RowRemoved page_size old new root key r.descent.levels.items r.descent.leaf r.descent.cells
row_steps page_size old new changed root key r sized few =
    let write = are_written page_size (after_takes page_size r.count old) r.settled.rewritten.written r.shrunk.out.items sized r.settled.rewritten.wrote in
    record {
      way = row_shrunk page_size old new changed root key r few;
      written = r.settled.rewritten.written;
      write = write;
      topped = r.settled.topped;
      all = r.shrunk.lost.items ++ r.settled.also;
      top = is_topped page_size r.settled.rewritten.written r.settled.topped root r.shrunk.lost.items r.shrunk.over r.settled.also write.sized r.settled.rewritten.over;
      given = r.given;
      given_is = r.settled.gives.are;
      give = inr (record { given = r.freed.numbers; bytes = r.freed.payload; chain = r.freed.chain; long = r.freed.long; pages_are = r.freed.gives.are });
    }
