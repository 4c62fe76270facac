-- The database header, the first 100 bytes of a database: what it says, why a file is refused for it, and
-- what a write of it leaves. Places count from 0, and numbers are big-endian.
-- After sqlite.org, "Database File Format", section 1.3.
use Rattle.std.specs.Prelude.{◌≡◌, ℕ, ◌+◌, ◌*◌, ◌/◌, ◌%◌, ◌≤◌, ◌==◌, nat_eq, nat_lt, Bool, true, false, not, ◌&&◌, ◌||◌, if◌then◌else◌, IsTrue, List, [], ◌∷◌, ◌++◌, length, take, codes, slice_index, Option, Some, None, IfSome, Result, Ok, Err}
use Rattle.std.specs.Bool.{then_some}
use Rattle.std.specs.List.{starts_with, list_any}
use Rattle.std.specs.Option.{option_map_or}
use Rattle.byte_base.specs.Numbers.{number_at}
use Rattle.db_format.specs.declared.header.Header.{Header}
use Rattle.db_format.specs.declared.header.HeaderFault.{HeaderFault}
use Rattle.db_format.specs.declared.header.HeaderFault.TheVariants.{NotADatabase, PageSize, FileVersion, Reserved, SchemaFormat, AutoVacuum, Encoding, TooLarge, Corrupt}

-- the text that a database begins with, its zero byte included (section 1.3.1)
abbrev pub title : List ℕ
title = codes "SQLite format 3" ++ 0 ∷ []

-- one of the powers of two from 512 to 65536 (section 1.3.2)
abbrev pub is_page_size : ℕ → Bool
is_page_size size = list_any (λ power. size == power) (512 ∷ 1024 ∷ 2048 ∷ 4096 ∷ 8192 ∷ 16384 ∷ 32768 ∷ 65536 ∷ [])

-- a page size, with its bounds beside it
pub record IsPageSize (size : ℕ) : Type 0 where
  pub power : IsTrue (is_page_size size)
  pub least : 512 ≤ size
  pub most : size ≤ 65536

-- the page size at place 16, where 1 stands for 65536 (section 1.3.2)
unfoldable pub page_of : List ℕ → ℕ
page_of bytes = if number_at 2 bytes 16 == 1 then 65536 else number_at 2 bytes 16

-- the size at place 28 holds: it is not 0, and the counters at 24 and 92 are equal (section 1.3.7)
unfoldable pub has_size : List ℕ → Bool
has_size bytes = not (number_at 4 bytes 28 == 0) && number_at 4 bytes 24 == number_at 4 bytes 92

-- the payload fractions are 64, 32 and 32 (section 1.3.5)
unfoldable pub has_fractions : List ℕ → Bool
has_fractions bytes = slice_index bytes 21 == 64 && (slice_index bytes 22 == 32 && slice_index bytes 23 == 32)

-- the greatest length of a file that is opened
abbrev pub greatest_length : ℕ
greatest_length = 1073741824

-- fewer than 100 bytes, or another title
unfoldable pub is_no_database : List ℕ → ℕ → Bool
is_no_database bytes len = nat_lt len 100 || not (starts_with nat_eq bytes title)

-- no page size, or not that of the checksum layer where there is one
unfoldable pub is_other_page : List ℕ → Option ℕ → Bool
is_other_page bytes cksum = not (is_page_size (page_of bytes)) || option_map_or (λ page. not (page_of bytes == page)) cksum false

-- fewer than 480 usable bytes, or other than the eight that the checksum layer has reserved (section 1.3.4)
unfoldable pub is_other_reserve : List ℕ → Option ℕ → Bool
is_other_reserve bytes cksum =
    nat_lt (page_of bytes) (480 + slice_index bytes 20) || option_map_or (λ page. not (slice_index bytes 20 == 8)) cksum false

-- the schema format is 0 and so is the encoding, as in a database that never had a table (section 1.3.10)
unfoldable pub is_fresh : List ℕ → Bool
is_fresh bytes = number_at 4 bytes 44 == 0 && number_at 4 bytes 56 == 0

-- the length is no number of pages, or not the size at place 28 where that holds, or a fraction is another
unfoldable pub is_corrupt : List ℕ → ℕ → Bool
is_corrupt bytes len =
    not (has_fractions bytes) || (not (len % page_of bytes == 0) || (has_size bytes && not (number_at 4 bytes 28 == len / page_of bytes)))

-- each refusal of a file of this length, below the checksum layer of a page size where there is one, in the
-- order in which they are looked for: those whose fact holds
abbrev pub refusals : List ℕ → ℕ → Option ℕ → List (Option HeaderFault)
refusals bytes len cksum =
    then_some (is_no_database bytes len) NotADatabase
    ∷ then_some (is_other_page bytes cksum) (PageSize (number_at 2 bytes 16))
    -- the write version and then the read version (section 1.3.3)
    ∷ then_some (not (slice_index bytes 18 == 1)) (FileVersion (slice_index bytes 18))
    ∷ then_some (not (slice_index bytes 19 == 1)) (FileVersion (slice_index bytes 19))
    ∷ then_some (is_other_reserve bytes cksum) (Reserved (slice_index bytes 20))
    ∷ then_some (not (number_at 4 bytes 44 == 4) && not (is_fresh bytes)) (SchemaFormat (number_at 4 bytes 44))
    -- the largest root page of an auto-vacuum database (section 1.3.12)
    ∷ then_some (not (number_at 4 bytes 52 == 0)) AutoVacuum
    -- 1 is UTF-8 (section 1.3.13)
    ∷ then_some (not (number_at 4 bytes 56 == 1) && not (is_fresh bytes)) (Encoding (number_at 4 bytes 56))
    ∷ then_some (nat_lt greatest_length len) (TooLarge len)
    ∷ then_some (is_corrupt bytes len) Corrupt
    ∷ []

-- the first of them that there is
abbrev pub first_of : List (Option HeaderFault) → Option HeaderFault
first_of [] = None
first_of (None ∷ faults) = first_of faults
first_of (Some fault ∷ faults) = Some fault

-- the value, unless there is a fault
abbrev pub ok_unless : Option HeaderFault → Header → Result Header HeaderFault
ok_unless None header = Ok header
ok_unless (Some fault) header = Err fault

-- the fields. The size is the length in pages, and so is the size at place 28 where that holds
abbrev pub fields_of : List ℕ → ℕ → Header
fields_of bytes len = record {
  page = page_of bytes;
  reserved = slice_index bytes 20;
  counter = number_at 4 bytes 24;
  size = len / page_of bytes;
  first_trunk = number_at 4 bytes 32;
  free_pages = number_at 4 bytes 36;
  cookie = number_at 4 bytes 40;
}

-- what a file with these first bytes, of this length, is read as
abbrev pub header_of : List ℕ → ℕ → Option ℕ → Result Header HeaderFault
header_of bytes len cksum = ok_unless (first_of (refusals bytes len cksum)) (fields_of bytes len)

-- the bytes have these fields, the schema format and the encoding of a database with tables, and this
-- program's mark: its number at 96, and at 92 the counter for which that and the size hold (section 1.3.16)
pub record Says (header : Header) (bytes : List ℕ) : Type 0 where
  pub page_size : page_of bytes ≡ header.page
  pub reserve : slice_index bytes 20 ≡ header.reserved
  pub change_counter : number_at 4 bytes 24 ≡ header.counter
  pub pages : number_at 4 bytes 28 ≡ header.size
  pub trunk : number_at 4 bytes 32 ≡ header.first_trunk
  pub free : number_at 4 bytes 36 ≡ header.free_pages
  pub schema_cookie : number_at 4 bytes 40 ≡ header.cookie
  pub schema_format : number_at 4 bytes 44 ≡ 4
  pub encoding : number_at 4 bytes 56 ≡ 1
  pub valid_for : number_at 4 bytes 92 ≡ header.counter
  pub writer : number_at 4 bytes 96 ≡ 3040000

-- one of so many places from a first one on
abbrev pub is_among : ℕ → ℕ → ℕ → Bool
is_among first count place = not (nat_lt place first) && nat_lt place (first + count)

-- a place of one of the fields that `Says` names
unfoldable pub is_field : ℕ → Bool
is_field place = is_among 16 2 place || (is_among 20 1 place || (is_among 24 24 place || (is_among 56 4 place || is_among 92 8 place)))

-- every other place has the byte that it had
pub record KeepsOthers (old new : List ℕ) : Type 0 where
  pub size : length new ≡ length old
  pub others : (place : ℕ) → is_field place ≡ false → slice_index new place ≡ slice_index old place

-- the header is that of a database of just its size, as the checksum layer asks where there is one
pub record Fits (header : Header) (cksum : Option ℕ) : Type 0 where
  pub page_size : IsPageSize header.page
  pub usable : 480 + header.reserved ≤ header.page
  pub layer : IfSome cksum (λ page. (header.page ≡ page) × (header.reserved ≡ 8))
  pub some : 1 ≤ header.size
  pub small : header.page * header.size ≤ greatest_length

-- where the old bytes began a database, the new ones are read as this header
pub record ReadsBack (header : Header) (old new : List ℕ) : Type 0 where
  pub read : (was : Header) (len : ℕ) (cksum : Option ℕ) → header_of old len cksum ≡ Ok was → Fits header cksum →
      header_of new (header.page * header.size) cksum ≡ Ok header

-- a header that is accepted is that of a database of just its size, so it may be written
abbrev pub AcceptedFits : Type 0
AcceptedFits = (bytes : List ℕ) (len : ℕ) (cksum : Option ℕ) (header : Header) → header_of bytes len cksum ≡ Ok header → Fits header cksum

-- the header of a database of no pages
abbrev pub blank : ℕ → ℕ → Header
blank page reserved = record { page = page; reserved = reserved; counter = 0; size = 0; first_trunk = 0; free_pages = 0; cookie = 0 }

-- the bytes begin with a new header: those fields, all that is the same in every database, and zeros beside
pub record IsNew (page reserved : ℕ) (bytes : List ℕ) : Type 0 where
  pub titled : IsTrue (starts_with nat_eq bytes title)
  pub versions : (slice_index bytes 18 ≡ 1) × (slice_index bytes 19 ≡ 1)
  pub fractions : IsTrue (has_fractions bytes)
  pub fields : Says (blank page reserved) bytes
  pub zeros : (place : ℕ) → is_among 48 8 place || is_among 60 32 place ≡ true → slice_index bytes place ≡ 0

-- a file that begins with the new header, of so many pages, is read as that header with this size
pub record ReadsNew (page reserved : ℕ) (bytes : List ℕ) : Type 0 where
  pub read : (size : ℕ) (cksum : Option ℕ) → Fits (record (blank page reserved) { size = size }) cksum →
      header_of bytes (page * size) cksum ≡ Ok (record (blank page reserved) { size = size })

-- the header is in the first 100 bytes, whatever follows them
abbrev pub HeaderInFront : Type 0
HeaderInFront = (bytes : List ℕ) (len : ℕ) (cksum : Option ℕ) → header_of (take 100 bytes) len cksum ≡ header_of bytes len cksum
