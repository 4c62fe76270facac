-- Big-endian numbers that stand in bytes. Places count from 0.
-- After sqlite.org, "Database File Format", section 1.
use Rattle.std.specs.Prelude.{ℕ, ◌+◌, List, ◌++◌, take, drop}
use Rattle.byteorder.specs.Endian.{big_number, big_bytes}

-- the number in so many bytes at a place
unfoldable pub number_at : ℕ → List ℕ → ℕ → ℕ
number_at width bytes place = big_number width (drop place bytes)

-- the bytes with a number in so many of them at a place
unfoldable pub with_number : ℕ → ℕ → ℕ → List ℕ → List ℕ
with_number width place number bytes = take place bytes ++ (big_bytes width number ++ drop (place + width) bytes)
