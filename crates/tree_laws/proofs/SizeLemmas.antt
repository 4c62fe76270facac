-- The page size that the header says, and how many pages there may be.
use Rattle.std.proofs.Common.{◌≡◌, ◌⊎◌, ℕ, ◌+◌, ◌*◌, ◌≤◌, IsTrue, None, arith}
use Rattle.std.proofs.lemmas.Grind.{common_steps}
use Rattle.db_format.specs.Header.{page_of, is_page_size, IsPageSize, fields_of}
use Rattle.db_format.proofs.HeaderLemmas.{none_accepted, page_size_kept}
use Rattle.page_list.specs.Pages.{Pages}
use Rattle.tree_model.specs.Whole.{HasHeader, unsized_header}
use Rattle.tree_model.proofs.SizeLemmas.{no_fault}
use Rattle.tree_laws.specs.Front.{HeaderSize}

-- the next power of two is twice as great
abbrev IsPower : ℕ → Type 0
IsPower n = (n ≡ 512) ⊎ (n ≡ 1024) ⊎ (n ≡ 2048) ⊎ (n ≡ 4096) ⊎ (n ≡ 8192) ⊎ (n ≡ 16384) ⊎ (n ≡ 32768) ⊎ (n ≡ 65536)

is_power : (n : ℕ) → IsTrue (is_page_size n) → IsPower n
is_power n is = grind (arith, common_steps)

same_power : (a b : ℕ) → IsPower a → IsPower b → a ≤ b + 255 → b ≤ a + 255 → a ≡ b
same_power a b p q low high = omega arith

-- the header that is accepted says a page size
pub says_size : (pages : Pages) → HasHeader pages → IsPageSize (page_of (unsized_header pages))
says_size pages has =
    let len : ℕ = page_of (unsized_header pages) * pages.size in
    page_size_kept (unsized_header pages) None (none_accepted (unsized_header pages) len None (no_fault _ (fields_of (unsized_header pages) len) has.accepted)).page

pub header_size : HeaderSize
header_size pages page_size has size most spare =
    same_power (page_of (unsized_header pages)) page_size (is_power _ (says_size pages has).power) (is_power _ size.power)
    (omega (arith, has.used, has.reserve, most)) (omega (arith, has.used, spare))
