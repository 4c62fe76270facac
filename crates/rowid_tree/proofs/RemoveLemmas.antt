-- A removal that was done over a space that tells is one of its pages alone.
use Rattle.std.proofs.Common.{ℕ, ℤ, ◌<ℤ◌, ◌≤ℤ◌, ◌*◌, ◌≤◌, Bool, IsTrue, subst}
use Rattle.db_format.specs.Header.{greatest_length}
use Rattle.page_pool.specs.Space.{SpaceState, HasSizes, Steady}
use Rattle.tree_model.specs.Whole.{below_all, greatest}
use Rattle.tree_remove.specs.Remove.{RemoveDone}
use Rattle.tree_removed.specs.Keeps.{RemoveKeepsWhole}
use Rattle.rowid_tree.specs.Removes.{RemovesRow}

pub removes_row : RemoveKeepsWhole → (old new : SpaceState) (root : ℕ) (key : ℤ) (removed : Bool) → IsTrue old.tells → HasSizes old → Steady old new → below_all <ℤ key
    → key ≤ℤ greatest → RemoveDone old.page_size old.pages new.pages new.changed root key removed → RemovesRow old.pages new.pages root key removed
removes_row keeps old new root key removed told sizes steady above below done =
    let F : ℕ → Type 0 = λ size. new.pages.size * size ≤ greatest_length in
    record {
      each = λ roots before behind tree trunks whole rooted. keeps old.page_size old.pages new.pages root key removed roots before behind tree trunks
          (record {
            size_of_page = sizes.size_of_page;
            spare = sizes.spare;
            sized = sizes.each told;
            few = subst F steady.sized steady.sizes.few;
            above = above;
            below = below;
            changed = new.changed;
            done = done;
          }) whole rooted;
    }
