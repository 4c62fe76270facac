-- The pages of a pager as a connection sees them.
use Rattle.std.specs.Prelude.{◌≡◌, ◌⊎◌, ℕ, ◌≤◌, ◌==◌, Bool, false, if◌then◌else◌, List, IsTrue, Option, Some, None}
use Rattle.page_list.specs.Pages.{Pages}
use Rattle.page_pool.specs.Space.{SpaceState}
use Rattle.page_draft.specs.Draft.{read_pages, now_pages, IsClean}
use Rattle.vfs_model.specs.Lock.{IsOwner, level_at, rank}
use Rattle.vfs_model.specs.declared.level.Level.{Level}
use Rattle.vfs_trait.specs.State.{StackState, file_at}
use Rattle.pager_core.specs.File.{Shows}
use Rattle.pager_core.specs.Locks.{HasOneWriter}
use Rattle.pager_core.specs.declared.pager.Pager.{Pager}

-- whether a connection has the draft
abbrev pub owns : Option ℕ → ℕ → Bool
owns None who = false
owns (Some owner) who = owner == who

-- its draft, or else what was read
abbrev pub seen : Pager → ℕ → Pages
seen p who = if owns p.owner who then now_pages p.pages else read_pages p.pages

-- whether it changed something
abbrev pub is_changed : Pager → ℕ → Bool
is_changed p who = if owns p.owner who then p.pages.changed else false

-- no other has a draft, and where this one has none there is none
pub record IsAlone (p : Pager) (who : ℕ) : Type 0 where
  pub alone : (p.owner ≡ Some who) ⊎ ((p.owner ≡ None) × IsClean p.pages)

-- the same file, and what was read of it
pub record SameFile (old new : Pager) : Type 0 where
  pub named : new.name ≡ old.name
  pub numbered : new.fid ≡ old.fid
  pub sized : new.pages.page_size ≡ old.pages.page_size
  pub used : new.pages.usable ≡ old.pages.usable
  pub read : read_pages new.pages ≡ read_pages old.pages

-- what a connection sees is as it was
pub record SeenStays (old new : Pager) (who : ℕ) : Type 0 where
  pub pages : seen new who ≡ seen old who
  pub change : is_changed new who ≡ is_changed old who

-- who has a draft holds Reserved; where nobody has one there is none
abbrev pub OwnerHolds : Option ℕ → Pager → List Level → Type 0
OwnerHolds None p levels = IsClean p.pages
OwnerHolds (Some owner) p levels = IsOwner owner × (2 ≤ rank (level_at levels owner))

-- a connection that holds Reserved may have made the draft its own
pub record KeepsOwner (old new : Pager) (who : ℕ) : Type 0 where
  pub each : (levels : List Level) → 2 ≤ rank (level_at levels who) → OwnerHolds old.owner old levels → OwnerHolds new.owner new levels

-- the file is open under its name, and one connection at most, the one that has the draft if there is one, holds Reserved or more
pub record Fits (p : Pager) (s : StackState) : Type 0 where
  pub named : s.open_files p.fid.0 ≡ Some p.name
  pub one : HasOneWriter (s.levels p.fid.0)
  pub owned : OwnerHolds p.owner p (s.levels p.fid.0)

-- where the stack tells, the file shows the pages that were read
abbrev pub IsShown : Pager → StackState → Type 0
IsShown p s = IsTrue s.tells → Shows p.pages.page_size (file_at s p.fid.0).now.bytes (read_pages p.pages)

abbrev pub space_state : StackState → Pager → ℕ → SpaceState
space_state s p who = record {
  tells = s.tells;
  page_size = p.pages.page_size;
  pages = seen p who;
  ready = Fits p s × IsShown p s × (1 ≤ rank (level_at (s.levels p.fid.0) who));
  writable = IsAlone p who × (2 ≤ rank (level_at (s.levels p.fid.0) who));
  changed = is_changed p who;
  faults = s.faults;
}
