-- The checksum of a page, and pages that fail it.
-- After sqlite.org, "The Checksum VFS Shim", section 2, "Computing The Checksum" (here always in the byte order given).
use Rattle.std.specs.Prelude.{ℕ, suc, ◌+◌, ◌-◌, ◌*◌, ◌%◌, Bool, not, ◌||◌, ◌&&◌, nat_eq, nat_lt, nat_le, if◌then◌else◌, List, [], ◌∷◌, ◌++◌, length, take, drop, replicate}

-- four bytes as a number, the least one first
abbrev pub little : ℕ → ℕ → ℕ → ℕ → ℕ
little a b c d = a + 256 * (b + 256 * (c + 256 * d))

abbrev pub word_size : ℕ
word_size = 4294967296

-- Two sums over pairs of words: to the first is added the first word of a pair and the second sum, to the second the
-- second word and the first sum. Fewer than eight bytes are left out.
abbrev pub sums : ℕ × ℕ → List ℕ → ℕ × ℕ
sums s [] = s
sums s (a ∷ []) = s
sums s (a ∷ b ∷ []) = s
sums s (a ∷ b ∷ c ∷ []) = s
sums s (a ∷ b ∷ c ∷ d ∷ []) = s
sums s (a ∷ b ∷ c ∷ d ∷ e ∷ []) = s
sums s (a ∷ b ∷ c ∷ d ∷ e ∷ f ∷ []) = s
sums s (a ∷ b ∷ c ∷ d ∷ e ∷ f ∷ g ∷ []) = s
sums s (a ∷ b ∷ c ∷ d ∷ e ∷ f ∷ g ∷ h ∷ more) = sums (after_pair s (little a b c d) (little e f g h)) more where
  after_pair : ℕ × ℕ → ℕ → ℕ → ℕ × ℕ
  after_pair s first second = ((s.0 + first + s.1) % word_size, (s.1 + second + (s.0 + first + s.1) % word_size) % word_size)

-- the sums of some bytes
abbrev pub sum_of : List ℕ → ℕ × ℕ
sum_of bytes = sums (0, 0) bytes

-- how many bytes at the end of a page keep its sums
abbrev pub kept_size : ℕ
kept_size = 8

-- the sums that a page keeps in its last bytes
abbrev pub kept_sums : List ℕ → ℕ × ℕ
kept_sums tail = words tail where
  words : List ℕ → ℕ × ℕ
  words (a ∷ b ∷ c ∷ d ∷ e ∷ f ∷ g ∷ h ∷ more) = (little a b c d, little e f g h)
  words other = (0, 0)

-- a page of a file, by its number from 0, with zeros in place of what the file lacks
abbrev pub page_at : ℕ → List ℕ → ℕ → List ℕ
page_at page bytes number = padded (take page (drop (page * number) bytes)) where
  padded : List ℕ → List ℕ
  padded part = part ++ replicate (page - length part) 0

-- the page is whole in the file
abbrev pub is_complete : ℕ → List ℕ → ℕ → Bool
is_complete page bytes number = nat_le (page * (number + 1)) (length bytes)

-- the sums that a page has, and those that it keeps
abbrev pub found_sums : ℕ → List ℕ → ℕ → ℕ × ℕ
found_sums page bytes number = sum_of (take (page - kept_size) (page_at page bytes number))

abbrev pub stored_sums : ℕ → List ℕ → ℕ → ℕ × ℕ
stored_sums page bytes number = kept_sums (drop (page - kept_size) (page_at page bytes number))

-- a page fails: it has other sums than those that it keeps, or is not complete. One of which no byte is there does not
abbrev pub fails : ℕ → List ℕ → ℕ → Bool
fails page bytes number =
    nat_lt (page * number) (length bytes) && (not (is_complete page bytes number)
    || not (nat_eq (found_sums page bytes number).0 (stored_sums page bytes number).0 && nat_eq (found_sums page bytes number).1 (stored_sums page bytes number).1))

-- the bytes from a place on, with zeros where each page keeps its sums
abbrev pub without_sums : ℕ → ℕ → List ℕ → List ℕ
without_sums page place [] = []
without_sums page place (b ∷ more) = (if nat_le page (place % page + kept_size) then 0 else b) ∷ without_sums page (suc place) more
