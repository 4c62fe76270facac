-- A whole page that has other sums than those that it keeps.
use Rattle.std.specs.Prelude.{ℕ, ◌-◌, Bool, not, ◌&&◌, nat_eq, List, length, take, drop}
use Rattle.vfs_model.specs.Sums.{sum_of, kept_sums, kept_size}

abbrev pub has_other_sums : List ℕ → Bool
has_other_sums page =
    not (nat_eq (sum_of (take (length page - kept_size) page)).0 (kept_sums (drop (length page - kept_size) page)).0
    && nat_eq (sum_of (take (length page - kept_size) page)).1 (kept_sums (drop (length page - kept_size) page)).1)
