-- A removal in whole pages writes a page or gives one back, so that the space says that it was changed.
use Rattle.std.proofs.Common.{◌≡◌, inl, inr, ℕ, ◌*◌, ◌≤◌, ℤ, ◌<ℤ◌, ◌≤ℤ◌, Bool, true, List, Option, None, Some, Result, Ok, Err, IfOk, IsTrue, subst}
use Rattle.db_format.specs.Header.{greatest_length}
use Rattle.db_format.specs.declared.fault.SpaceFault.{SpaceFault}
use Rattle.page_list.specs.Pages.{Pages, HasPage}
use Rattle.page_list.specs.Edits.{taken_numbers, after_takes}
use Rattle.page_list.specs.Freelist.{Trunk}
use Rattle.page_pool.specs.Space.{SpaceState, HasSizes, Steady}
use Rattle.tree_page.specs.Laws.{FrontApart}
use Rattle.tree_page.specs.Page.{OnePage}
use Rattle.tree_model.specs.Whole.{below_all, greatest}
use Rattle.tree_remove.specs.Remove.{Removed, RemoveDone, NotesOver}
use Rattle.tree_removed.specs.Removes.{ShrinkFits}
use Rattle.tree_removed.proofs.StepLemmas.{Searched, removed_size, row_shrunk}
use Rattle.tree_removed.proofs.StopLemmas.{HasOver, left_after, on_grown, all_there, root_good, shrunk_some}
use Rattle.rowid_tree.specs.Puts.{HasWholeTree}
use Rattle.rowid_tree.proofs.ChangedLemmas.{one_stands}

-- the root is a page, and has one child left
over_notes : (pages : Pages) (changed : Bool) (root : ℕ) (over : Option ℕ) → HasPage pages root → HasOver over → NotesOver pages changed root over → IsTrue changed
over_notes pages changed root None there some notes = absurd some
over_notes pages changed root (Some child) there some notes = notes there

pub removal_changes : FrontApart → OnePage → ShrinkFits → (old new : SpaceState) (root : ℕ) (key : ℤ) → IsTrue old.tells → HasSizes old → Steady old new → below_all <ℤ key
    → key ≤ℤ greatest → Removed old.page_size old.pages new.pages new.changed root key → HasWholeTree old.pages root → IsTrue new.changed
removal_changes front_apart one_page fits old new root key told sizes steady above below r h =
    let page_size : ℕ = old.page_size in
    let grown : Pages = after_takes page_size r.count old.pages in
    let fresh : List ℕ = taken_numbers page_size r.count old.pages in
    let free : List Trunk = left_after r.count old.pages h.trunks in
    let F : ℕ → Type 0 = λ size. new.pages.size * size ≤ greatest_length in
    let E : ℕ → Type 0 = λ size. size * page_size ≤ greatest_length in
    let few : grown.size * page_size ≤ greatest_length = subst E (removed_size page_size old.pages new.pages new.changed root key r) (subst F steady.sized steady.sizes.few) in
    let way : Searched page_size old.pages root key = record {
      size_of_page = sizes.size_of_page;
      spare = sizes.spare;
      sized = sizes.each told;
      above = above;
      below = below;
      levels = r.descent.levels.items;
      leaf = r.descent.leaf;
      cells = r.descent.cells;
      descends = r.found;
    } in
    let w = row_shrunk page_size old.pages new.pages new.changed root key r few in
    let g = on_grown front_apart one_page page_size old.pages root key h.roots h.before h.behind h.tree h.trunks way h.whole h.rooted w in
    let places = fits.sheets grown h.roots h.before h.behind h.tree free key fresh r.shrunk.out.items r.shrunk.lost.items r.shrunk.over g.is in
    let there = all_there grown h.roots h.before h.behind h.tree free fresh g.is.whole g.taken_there in
    elim (shrunk_some old.pages r.descent.leaf r.left _ fresh r.shrunk.out.items r.shrunk.lost.items r.shrunk.over r.are) [
      | inl some ↦ one_stands grown h.tree fresh r.shrunk.out.items new.changed some there places.1 r.notes.sheets
      | inr (inl some) ↦ r.notes.lost some
      | inr (inr some) ↦
          let P : ℕ → Type 0 = HasPage grown in
          over_notes grown new.changed root r.shrunk.over (subst P h.rooted (root_good grown h.roots h.before h.behind h.tree free g.is.whole).0) some r.notes.over
    ]

-- said of an answer, where there was such a row
pub removal_noted : (old new : SpaceState) (root : ℕ) (key : ℤ) (result : Result Bool SpaceFault)
    → (IsTrue old.tells → IfOk result (RemoveDone old.page_size old.pages new.pages new.changed root key))
    → (IsTrue old.tells → Removed old.page_size old.pages new.pages new.changed root key → HasWholeTree old.pages root → IsTrue new.changed)
    → IfOk result (λ there. there ≡ true → IsTrue old.tells → HasWholeTree old.pages root → IsTrue new.changed)
removal_noted old new root key (Err fault) done changes = tt
removal_noted old new root key (Ok there) done changes = λ is t whole.
    let P : Bool → Type 0 = λ b. RemoveDone old.page_size old.pages new.pages new.changed root key b in changes t (subst P is (done t)) whole
