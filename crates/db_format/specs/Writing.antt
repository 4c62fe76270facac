-- How each value is written. Only the steps of writing speak by these words: that it is a record, and that no
-- shorter one is, is said without them.
-- After sqlite.org, "Database File Format", section 2.1, "Record Format".
use Rattle.std.specs.Prelude.{◌≡◌, ℕ, ◌+◌, ◌*◌, ◌^◌, ◌≤◌, ◌<◌, nat_lt, ◌==◌, if◌then◌else◌, ℤ, pos, negsuc, List, [], ◌++◌, length, map, unwrap_or}
use Rattle.std.specs.List.{flat_map, AllByRecursion}
use Rattle.std.specs.Int.{w64}
use Rattle.byteorder.specs.Endian.{big_bytes, low_bytes}
use Rattle.db_format.specs.declared.value.Value.{Value}
use Rattle.db_format.specs.declared.value.Value.TheVariants.{Null, Int, Text, Blob, Real}
use Rattle.db_format.specs.Varint.{IsVarint, IsSize}
use Rattle.db_format.specs.Record.{content_size, Stands, Field, IsField}

-- the type with the shortest content that holds a number, given without its sign: n itself, or -(n + 1)
abbrev pub least_type : ℕ → ℕ
least_type n =
    if nat_lt n (2 ^ 7) then 1
    else (if nat_lt n (2 ^ 15) then 2
    else (if nat_lt n (2 ^ 23) then 3
    else (if nat_lt n (2 ^ 31) then 4
    else (if nat_lt n (2 ^ 47) then 5 else 6))))

-- 0 and 1 have types of their own
abbrev pub int_type : ℤ → ℕ
int_type (pos n) = if n == 0 then 8 else (if n == 1 then 9 else least_type n)
int_type (negsuc n) = least_type n

-- the bytes of an integer in that type
abbrev pub int_content : ℤ → List ℕ
int_content n = let size = unwrap_or (content_size (int_type n)) 0 in big_bytes size (low_bytes w64 size n)

-- the serial type of each value
abbrev pub written_type : Value → ℕ
written_type Null = 0
written_type (Int n) = int_type n
written_type (Text bytes) = 13 + 2 * length bytes
written_type (Blob bytes) = 12 + 2 * length bytes
written_type (Real bits) = 7

-- the content of each value in its type
abbrev pub written_content : Value → List ℕ
written_content Null = []
written_content (Int n) = int_content n
written_content (Text bytes) = bytes
written_content (Blob bytes) = bytes
written_content (Real bits) = big_bytes 8 bits

-- a number is this serial type of the value, and has a varint
pub record IsWrittenType (value : Value) (serial : ℕ) : Type 0 where
  pub small : serial < 2 ^ 63
  pub serial_is : serial ≡ written_type value
  pub stands : Stands serial (written_content value) value

-- new is old with the shortest varint of the number at its end
pub record AppendsVarint (old new : List ℕ) (number : ℕ) : Type 0 where
  pub spelling : List ℕ
  pub spelled : IsVarint spelling (pos number)
  pub size : IsSize number (length spelling)
  pub new_is : new ≡ old ++ spelling

-- a value as it is written
pub record IsWritten (f : Field) : Type 0 where
  pub is_field : IsField f
  pub serial_is : f.serial ≡ written_type f.value
  pub content_is : f.content ≡ written_content f.value
  pub size : IsSize f.serial (length f.spelling)

-- the bytes are the varints of the serial types of the values as they are written
pub record AreTypes (types : List ℕ) (values : List Value) : Type 0 where
  pub fields : List Field
  pub each : AllByRecursion IsWritten fields
  pub types_are : types ≡ flat_map (λ f. f.spelling) fields
  pub values_are : values ≡ map (λ f. f.value) fields

-- the size of a header with so many bytes of serial types: its own varint has len of them, and no fewer will do
pub record IsHeaderSize (types size : ℕ) : Type 0 where
  pub len : ℕ
  pub total : size ≡ len + types
  pub some : 1 ≤ len
  pub within : len ≤ 9
  pub room : len < 9 → size < 128 ^ len
  pub least : (fewer : ℕ) → 1 ≤ fewer → fewer < len → 128 ^ fewer ≤ fewer + types
