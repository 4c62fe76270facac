-- The rows of the row file, and the file as it is stored.
use Rattle.std.specs.Prelude.{ℕ, ℤ, List, ◌++◌, length}
use Rattle.std.specs.Int.{w32, w64, to_be_bytes, cast_unsigned}
use Rattle.std.specs.List.{flat_map}
use Rattle.std.specs.Ordering.{int_cmp}
use Rattle.std.specs.FinMap.{FinMap, entries}

-- texts by their rowids
abbrev pub Texts : Type 0
Texts = FinMap int_cmp (List ℕ)

-- a row: its rowid in eight bytes of two's complement, the length of its text in four, and the text
unfoldable pub row_bytes : ℤ × List ℕ → List ℕ
row_bytes row = to_be_bytes w64 (cast_unsigned w64 row.0) ++ (to_be_bytes w32 (length row.1) ++ row.1)

-- the rows one behind the other, in rising order of their signed rowids
abbrev pub row_file : Texts → List ℕ
row_file rows = flat_map row_bytes (entries rows)
