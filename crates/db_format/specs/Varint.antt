-- Varints: numbers of 64 bits in one to nine bytes.
-- After sqlite.org, "Database File Format", section 1.6, "B-tree Pages", which defines the variable-length integer.
use Rattle.std.specs.Prelude.{◌≡◌, ◌⊎◌, ℕ, ◌+◌, ◌-◌, ◌*◌, ◌^◌, ◌≤◌, ◌<◌, ℤ, List, [], ◌∷◌, ◌++◌, length, take, fold}
use Rattle.std.specs.List.{AllByRecursion}
use Rattle.std.specs.Int.{w64, cast_signed}

-- a byte whose high bit is set, which says that another follows
abbrev pub Continues : ℕ → Type 0
Continues byte = (128 ≤ byte) × (byte < 256)

-- the number in the low seven bits of such bytes, the highest first
abbrev pub sevens : List ℕ → ℕ
sevens bytes = fold (λ number byte. 128 * number + (byte - 128)) 0 bytes

-- The bytes spell a number: some that continue, at most eight, and a last one. After fewer than eight the
-- last one has its high bit clear and gives seven bits; after eight it gives all of its eight bits. The bits
-- are a two's complement number.
pub record IsVarint (bytes : List ℕ) (value : ℤ) : Type 0 where
  pub front : List ℕ
  pub last : ℕ
  pub bits : ℕ
  pub parts : bytes ≡ front ++ last ∷ []
  pub continues : AllByRecursion Continues front
  pub ends : ((length front < 8) × (last < 128) × (bits ≡ 128 * sevens front + last))
      ⊎ ((length front ≡ 8) × (last < 256) × (bits ≡ 256 * sevens front + last))
  pub signed : value ≡ cast_signed w64 bits

-- no spelling of the number has fewer bytes
abbrev pub IsShortest : List ℕ → ℤ → Type 0
IsShortest bytes value = (other : List ℕ) → IsVarint other value → length bytes ≤ length other

-- whatever follows the bytes, they and no others are the number at the front
abbrev pub ReadsAgain : List ℕ → ℤ → Type 0
ReadsAgain bytes value = (rest : List ℕ) (len : ℕ) (other : ℤ) → IsVarint (take len (bytes ++ rest)) other → (take len (bytes ++ rest) ≡ bytes) × (other ≡ value)

-- how many bytes the shortest spelling of these bits has: seven bits in each, and eight in the ninth
pub record IsSize (bits len : ℕ) : Type 0 where
  pub some : 1 ≤ len
  pub within : len ≤ 9
  pub room : len < 9 → bits < 128 ^ len
  pub needed : 1 < len → 128 ^ (len - 1) ≤ bits

-- the bytes end inside a number: fewer than nine, and each says that another follows
pub record EndsInside (bytes : List ℕ) : Type 0 where
  pub few : length bytes < 9
  pub continues : AllByRecursion Continues bytes

-- no front of the bytes spells a number
abbrev pub NoVarint : List ℕ → Type 0
NoVarint bytes = (len : ℕ) (value : ℤ) → ¬ (IsVarint (take len bytes) value)

-- no spelling of a number begins another: bytes that begin with two spellings begin with one, of one number
abbrev pub OneVarint : Type 0
OneVarint = (a b x y : List ℕ) (m n : ℤ) → IsVarint a m → IsVarint b n → a ++ x ≡ b ++ y → (a ≡ b) × (m ≡ n)

-- of each length a number has one spelling at most, so its shortest spelling is one
abbrev pub OneSpelling : Type 0
OneSpelling = (a b : List ℕ) (n : ℤ) → IsVarint a n → IsVarint b n → length a ≡ length b → a ≡ b
