-- What the rows keep of their entries.
use Rattle.std.specs.Prelude.{ℕ, ℤ, ◌≤◌, Bool, true, false, IsTrue, List, length}
use Rattle.std.specs.List.{AllByRecursion, flat_map}
use Rattle.std.specs.FinMap.Entries.{put}
use Rattle.shell_top.specs.Rows.{row_bytes}
use Rattle.std.specs.Ordering.{int_cmp}
use Rattle.std.specs.FinMap.{is_sorted}

-- the rowids rise, and no text is longer than a put allows
pub record AreKept (entries : List (ℤ × List ℕ)) : Type 0 where
  pub sorted : IsTrue (is_sorted int_cmp entries)
  pub short : AllByRecursion (λ e. length e.1 ≤ 65536) entries

-- what is left to write of the row file, by whether the new row was written
abbrev pub bytes_left : Bool → ℤ → List ℕ → List (ℤ × List ℕ) → List ℕ
bytes_left true rowid text rest = flat_map row_bytes rest
bytes_left false rowid text rest = flat_map row_bytes (put int_cmp rowid text rest)
