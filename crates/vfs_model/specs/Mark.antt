-- The mark at the end of a file to which a database was appended, and what such a file shows.
-- After the header comment of SQLite's appendvfs.c.
use Rattle.std.specs.Prelude.{ℕ, ◌+◌, ◌-◌, ◌%◌, Bool, ◌&&◌, ◌||◌, nat_eq, nat_le, nat_lt, if◌then◌else◌, List, [], ◌∷◌, ◌++◌, length, take, drop, codes, Option, Some, None}
use Rattle.std.specs.List.{starts_with}
use Rattle.byte_base.specs.Numbers.{number_at}
use Rattle.vfs_model.specs.declared.mark.Placed.{Placed}
use Rattle.vfs_model.specs.declared.mark.Placed.TheVariants.{Ordinary, Behind, Fresh}

-- how long a mark is, and the text that it begins with; the rest is the place where the database begins
abbrev pub mark_size : ℕ
mark_size = 25

abbrev pub mark_text : List ℕ
mark_text = codes "Start-Of-SQLite3-"

-- the text that every database begins with
abbrev pub header_text : List ℕ
header_text = codes "SQLite format 3" ++ 0 ∷ []

abbrev pub has_header : List ℕ → Bool
has_header bytes = starts_with nat_eq bytes header_text

-- the longest file that is looked at for a mark
abbrev pub greatest_file : ℕ
greatest_file = 4294967296

-- the last bytes of a file of this length are a mark for this start
abbrev pub is_mark : List ℕ → ℕ → Bool
is_mark tail len =
    nat_eq (length tail) mark_size && (starts_with nat_eq tail mark_text
    && (nat_eq (len % 512) mark_size && (nat_eq (number_at 8 tail 17 % 512) 0 && nat_le (number_at 8 tail 17 + mark_size) len)))

-- where the database begins, as the last bytes of a file of this length say
abbrev pub mark_in : List ℕ → ℕ → Option ℕ
mark_in tail len = if is_mark tail len then Some (number_at 8 tail 17) else None

-- the last bytes of a file, as many as a mark has
abbrev pub tail_of : List ℕ → List ℕ
tail_of bytes = drop (length bytes - mark_size) bytes

abbrev pub start_of : List ℕ → Option ℕ
start_of bytes = mark_in (tail_of bytes) (length bytes)

-- the least multiple of 4096 that is at least this
abbrev pub next_start : ℕ → ℕ
next_start len = (len + 4095) - (len + 4095) % 4096

-- A file is opened as a database, which it is or, empty, will be; or as one with a database behind other content, from a
-- place up to the mark; or as a file of so many bytes without a mark, where one is to begin at the next multiple of 4096.
abbrev pub placed_by : List ℕ → Option ℕ → Placed
placed_by bytes (Some start) = Behind start
placed_by bytes None = if has_header bytes then Ordinary else Fresh (length bytes)

-- the first of the four rules that fits decides
abbrev pub placed : List ℕ → Placed
placed bytes = if nat_eq (length bytes) 0 || nat_lt greatest_file (length bytes) then Ordinary else placed_by bytes (start_of bytes)

-- what is shown of the bytes
abbrev pub shown_at : Placed → List ℕ → List ℕ
shown_at Ordinary bytes = bytes
shown_at (Behind start) bytes = take (length bytes - mark_size - start) (drop start bytes)
shown_at (Fresh len) bytes = []
