-- How many bytes the record of a row takes.
-- After sqlite.org, "Database File Format", section 2.1, "Record Format".
use Rattle.std.specs.Prelude.{ℕ, ◌+◌, ◌^◌, nat_lt, if◌then◌else◌, List, length}
use Rattle.std.specs.List.{sum_by}
use Rattle.db_format.specs.declared.value.Value.{Value}
use Rattle.db_format.specs.Writing.{written_type, written_content}

-- the bytes of the shortest varint of a number below 2 ^ 63
abbrev pub varint_size : ℕ → ℕ
varint_size n =
    if nat_lt n (2 ^ 7) then 1
    else (if nat_lt n (2 ^ 14) then 2
    else (if nat_lt n (2 ^ 21) then 3
    else (if nat_lt n (2 ^ 28) then 4
    else (if nat_lt n (2 ^ 35) then 5
    else (if nat_lt n (2 ^ 42) then 6
    else (if nat_lt n (2 ^ 49) then 7
    else (if nat_lt n (2 ^ 56) then 8 else 9)))))))

-- those of the serial types of some values
abbrev pub types_size : List Value → ℕ
types_size values = sum_by (λ value. varint_size (written_type value)) values

-- with the size of the header in front, which counts itself too: of at most three bytes, where the types take fewer than 2 ^ 21 - 3
abbrev pub header_size : ℕ → ℕ
header_size types = if nat_lt (types + 1) (2 ^ 7) then types + 1 else (if nat_lt (types + 2) (2 ^ 14) then types + 2 else types + 3)

-- the record as it is written
unfoldable pub record_size : List Value → ℕ
record_size values = header_size (types_size values) + sum_by (λ value. length (written_content value)) values
