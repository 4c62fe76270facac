-- The text by which the schema keeps a plain table: a name and its columns, and nothing else of SQL.
-- After sqlite.org, "Database File Format", section 2.6, "Storage Of The SQL Database Schema".
use Rattle.db_format.specs.declared.create.TheConstants.{NAME_LEN, COLUMNS}
use Rattle.std.specs.Prelude.{◌≡◌, ◌≢◌, ℕ, ◌≤◌, ◌==◌, nat_eq, Bool, false, ◌||◌, IsTrue, List, ◌++◌, length, replicate, codes, slice_index, All, AllPairs}
use Rattle.std.specs.Char.{is_ascii_lowercase, is_ascii_digit}
use Rattle.std.specs.List.{starts_with, join_with_byte, AllZip}
use Rattle.db_format.specs.declared.create.Create.{Create}

-- a letter from a to z, a digit or an underscore
abbrev pub is_identifier_byte : ℕ → Bool
is_identifier_byte b = is_ascii_lowercase b || (is_ascii_digit b || b == 95)

-- the name of a table or a column: 1 to NAME_LEN, which is 64, such bytes, a letter first. Names in `sqlite_` are those of
-- SQLite's own tables (section 2.6.2)
pub record IsIdentifier (name : List ℕ) : Type 0 where
  pub some : 1 ≤ length name
  pub short : length name ≤ NAME_LEN
  pub letter : IsTrue (is_ascii_lowercase (slice_index name 0))
  pub each : All (λ b. IsTrue (is_identifier_byte b)) name
  pub own : starts_with nat_eq name (codes "sqlite_") ≡ false

-- 1 to COLUMNS, which is 32, such names, all different
pub record AreColumns (columns : List (List ℕ)) : Type 0 where
  pub some : 1 ≤ length columns
  pub few : length columns ≤ COLUMNS
  pub each : All IsIdentifier columns
  pub different : AllPairs (λ a b. a ≢ b) columns

-- a plain table
pub record IsPlain (create : Create) : Type 0 where
  pub named : IsIdentifier create.name
  pub columned : AreColumns create.columns

-- so many blanks (byte 32)
abbrev pub blanks : ℕ → List ℕ
blanks count = replicate count 32

-- a name with blanks before and after it
pub record IsPadded (piece name : List ℕ) : Type 0 where
  pub before : ℕ
  pub after : ℕ
  pub whole : piece ≡ blanks before ++ (name ++ blanks after)

-- columns with blanks around each, and a comma (byte 44) between two
pub record SpellsColumns (text : List ℕ) (columns : List (List ℕ)) : Type 0 where
  pub pieces : List (List ℕ)
  pub whole : text ≡ join_with_byte 44 pieces
  pub padded : AllZip IsPadded pieces columns

-- a text with this name, and this between its parentheses: blanks may stand around each of them
pub record HasParts (text name inside : List ℕ) : Type 0 where
  pub before : ℕ
  pub after : ℕ
  pub whole : text ≡ codes "CREATE TABLE " ++ (name ++ (blanks before ++ (codes "(" ++ (inside ++ (codes ")" ++ blanks after)))))

-- a text of a plain table
pub record Spells (text : List ℕ) (create : Create) : Type 0 where
  pub plain : IsPlain create
  pub inside : List ℕ
  pub parts : HasParts text create.name inside
  pub columned : SpellsColumns inside create.columns

-- the text without those blanks
abbrev pub written : Create → List ℕ
written create = codes "CREATE TABLE " ++ (create.name ++ (codes "(" ++ (join_with_byte 44 create.columns ++ codes ")")))

-- each text spells at most one plain table
abbrev pub OneCreate : Type 0
OneCreate = (text : List ℕ) (a b : Create) → Spells text a → Spells text b → a ≡ b
