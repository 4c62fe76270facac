-- One page by itself, as it is kept in memory: whether it fails, and what is put into its last bytes.
use Rattle.std.specs.Prelude.{◌≡◌, ℕ, ◌+◌, ◌-◌, Bool, not, ◌&&◌, ◌||◌, nat_eq, nat_lt, nat_le, List, ◌++◌, length, take, drop, replicate, Option, Some, None}
use Rattle.byte_base.specs.Numbers.{number_at}
use Rattle.vfs_model.specs.Sums.{sum_of, kept_sums, kept_size}
use Rattle.vfs_trait.specs.Calls.{sums_number}
use Rattle.vfs_trait.specs.declared.fault.VfsFault.{VfsFault}
use Rattle.vfs_trait.specs.declared.fault.VfsFault.TheVariants.{Failed, Memory, Busy, Full, BadPage}

-- the page keeps other sums than it has
abbrev pub other_sums : ℕ → List ℕ → Bool
other_sums page own =
    not (nat_eq (sum_of (take (page - kept_size) own)).0 (kept_sums (drop (page - kept_size) own)).0
    && nat_eq (sum_of (take (page - kept_size) own)).1 (kept_sums (drop (page - kept_size) own)).1)

-- a page of which so many bytes lie in its file, with zeros behind them, fails: it is not whole, or keeps other sums
abbrev pub page_bad : ℕ → List ℕ → ℕ → Bool
page_bad page own count = nat_lt 0 count && (not (nat_le page count) || other_sums page own)

-- the refusal that names a page, by its number from 0
abbrev pub Names : List ℕ → ℕ → VfsFault → Type 0
Names own number Failed = ⊥
Names own number Memory = ⊥
Names own number (Busy holder level) = ⊥
Names own number (Full total limit) = ⊥
Names own number (BadPage page kept found) =
    (page ≡ number + 1) × (kept ≡ number_at 8 own (length own - kept_size)) × (found ≡ sums_number (sum_of (take (length own - kept_size) own)))

-- the sums of all but the last eight bytes of a page were put into these
pub record IsSealed (bytes sealed : List ℕ) : Type 0 where
  pub size : length sealed ≡ length bytes
  pub body : take (length bytes - kept_size) sealed ≡ take (length bytes - kept_size) bytes
  pub kept : kept_sums (drop (length bytes - kept_size) sealed) ≡ sum_of (take (length bytes - kept_size) bytes)

-- and of a file that is not checked nothing
abbrev pub IsSealedBy : Option ℕ → List ℕ → List ℕ → Type 0
IsSealedBy None bytes sealed = sealed ≡ bytes
IsSealedBy (Some page) bytes sealed = IsSealed bytes sealed

-- a page with zeros in place of its sums
abbrev pub hidden : List ℕ → List ℕ
hidden own = take (length own - kept_size) own ++ replicate kept_size 0
