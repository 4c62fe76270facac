-- Records: how the values of a row are spelled in its payload.
-- After sqlite.org, "Database File Format", section 2.1, "Record Format".
use Rattle.std.specs.Prelude.{◌≡◌, ℕ, ◌+◌, ◌-◌, ◌/◌, ◌%◌, ◌≤◌, ◌<◌, nat_lt, ◌==◌, if◌then◌else◌, pos, List, [], ◌∷◌, ◌++◌, length, map, Option, Some, slice_get}
use Rattle.std.specs.List.{flat_map, AllByRecursion}
use Rattle.byteorder.specs.Endian.{big_number, twos_complement}
use Rattle.db_format.specs.declared.value.Value.{Value}
use Rattle.db_format.specs.declared.value.Value.TheVariants.{Null, Int, Text, Blob, Real}
use Rattle.db_format.specs.Varint.{IsVarint}

-- how many bytes the content of each of the serial types 0 to 9 has
abbrev pub sizes : List ℕ
sizes = 0 ∷ 1 ∷ 2 ∷ 3 ∷ 4 ∷ 6 ∷ 8 ∷ 8 ∷ 0 ∷ 0 ∷ []

-- how many bytes the content of a serial type has; no record has the types 10 and 11
abbrev pub content_size : ℕ → Option ℕ
content_size serial = if nat_lt serial 12 then slice_get sizes serial else Some ((serial - 12) / 2)

-- the value that a content of that size stands for: integers are two's complement, the highest byte first,
-- floats are kept as the number of their eight bytes
abbrev pub value_of : ℕ → List ℕ → Value
value_of serial content =
    if serial == 0 then Null
    else (if serial == 7 then Real (big_number 8 content)
    else (if serial == 8 then Int (pos 0)
    else (if serial == 9 then Int (pos 1)
    else (if nat_lt serial 12 then Int (twos_complement (length content) (big_number (length content) content))
    else (if serial % 2 == 0 then Blob content else Text content)))))

-- a serial type and a content of its size stand for the value
pub record Stands (serial : ℕ) (content : List ℕ) (value : Value) : Type 0 where
  pub sized : content_size serial ≡ Some (length content)
  pub meant : value_of serial content ≡ value

-- a value as a record has it: the varint of its serial type, that type, and its content
pub record Field : Type 0 where
  pub spelling : List ℕ
  pub serial : ℕ
  pub content : List ℕ
  pub value : Value

-- the varint is that of the type, and type and content stand for the value
pub record IsField (f : Field) : Type 0 where
  pub spelled : IsVarint f.spelling (pos f.serial)
  pub stands : Stands f.serial f.content f.value

-- the bytes are the varints of the serial types of the values, and their contents, each one after the other
pub record AreFields (types contents : List ℕ) (values : List Value) : Type 0 where
  pub fields : List Field
  pub each : AllByRecursion IsField fields
  pub types_are : types ≡ flat_map (λ f. f.spelling) fields
  pub contents_are : contents ≡ flat_map (λ f. f.content) fields
  pub values_are : values ≡ map (λ f. f.value) fields

-- the payload is a header and contents, and the header is the varint of its own size and the serial types
pub record HasParts (payload types contents : List ℕ) : Type 0 where
  pub size : List ℕ
  pub sized : IsVarint size (pos (length size + length types))
  pub joined : payload ≡ size ++ types ++ contents

-- the payload is a record of the values, with nothing after them
pub record IsRecord (payload : List ℕ) (values : List Value) : Type 0 where
  pub types : List ℕ
  pub contents : List ℕ
  pub parts : HasParts payload types contents
  pub fields : AreFields types contents values

-- the payload is a record of no other values
abbrev pub ReadsAgain : List ℕ → List Value → Type 0
ReadsAgain payload values = (others : List Value) → IsRecord payload others → others ≡ values

-- each is a byte
abbrev pub AreBytes : List ℕ → Type 0
AreBytes bytes = AllByRecursion (λ byte. byte < 256) bytes

-- no bytes that are a record of the values are fewer
abbrev pub IsShortest : List ℕ → List Value → Type 0
IsShortest payload values = (other : List ℕ) → AreBytes other → IsRecord other values → length payload ≤ length other

-- a payload is a record of one list of values at most
abbrev pub OneRecord : Type 0
OneRecord = (payload : List ℕ) (vs ws : List Value) → IsRecord payload vs → IsRecord payload ws → vs ≡ ws
