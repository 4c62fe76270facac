-- The rollback journal as bytes: what the whole bytes of a journal stand for, and how a journal is written.
-- After sqlite.org, "Database File Format", section 3, "The Rollback Journal". Which hot journals are played, and how their records are taken, is this
-- program's own choice.
use Rattle.std.specs.Prelude.{◌≡◌, ℕ, zero, suc, ◌+◌, ◌-◌, ◌*◌, ◌/◌, ◌%◌, ◌^◌, ◌≤◌, ◌<◌, IsTrue, Bool, true, false, nat_eq, nat_le, nat_lt, ◌&&◌, ◌||◌, if◌then◌else◌, List, [], ◌∷◌, ◌++◌, length, take, drop, replicate, slice_index_or, bytes_eq, Option, Some, None, is_some}
use Rattle.std.specs.List.{starts_with, ends_with, list_all, flat_map, sum_by}
use Rattle.byteorder.specs.Endian.{big_bytes}
use Rattle.byte_base.specs.Numbers.{number_at}
use Rattle.vfs_model.specs.Name.{IsName, is_name_byte, kind_of}
use Rattle.vfs_model.specs.declared.name.Kind.{Kind}
use Rattle.vfs_model.specs.declared.name.Kind.TheVariants.{Super}
use Rattle.journal_format.specs.Undo.{Paged, ArePages, AreUpTo, AreRising, Undo}

pub data Hot : Type 0 where
  -- nothing is played
  Cold : Hot
  -- hot, and not of this form
  Foreign : Hot
  Undoes : Undo → Hot

abbrev pub magic : List ℕ
magic = 217 ∷ 213 ∷ 5 ∷ 249 ∷ 32 ∷ 161 ∷ 99 ∷ 215 ∷ []

-- the sum of the bytes of a page at 200, 400 and so on before its end
abbrev pub samples : List ℕ → ℕ → ℕ
samples bytes zero = 0
samples bytes (suc k) = slice_index_or bytes (length bytes - 200 * suc k) 0 + samples bytes k

-- the checksum of a record's page
abbrev pub checksum : ℕ → List ℕ → ℕ
checksum nonce bytes = (nonce + samples bytes (length bytes / 200)) % (2 ^ 32)

-- a power of two from 512 to 65536
abbrev pub is_size : ℕ → Bool
is_size n = nat_eq n 512 || (nat_eq n 1024 || (nat_eq n 2048 || (nat_eq n 4096 || (nat_eq n 8192 || (nat_eq n 16384 || (nat_eq n 32768 || nat_eq n 65536))))))

-- the greatest count, which stands for as many records as there are; the most bytes of a database, and of a journal
abbrev pub no_count : ℕ
no_count = 4294967295

abbrev pub most_database : ℕ
most_database = 1073741824

abbrev pub most_journal : ℕ
most_journal = 4294967296

-- the number that ends a playback beside 0: that of the page with the lock bytes
abbrev pub lock_page : ℕ → ℕ
lock_page page = most_database / page + 1

-- ---- the trailer, which names a super-journal

abbrev pub is_super_kind : Kind → Bool
is_super_kind Super = true
is_super_kind _ = false

abbrev pub is_super : List ℕ → Bool
is_super name = nat_le 1 (length name) && (nat_le (length name) 160 && (list_all is_name_byte name && is_super_kind (kind_of name)))

abbrev pub trailer : ℕ → List ℕ → List ℕ
trailer page name = big_bytes 4 (lock_page page) ++ (name ++ (big_bytes 4 (length name) ++ (big_bytes 4 (sum_by (λ b. b) name % (2 ^ 32)) ++ magic)))

-- the name in bytes that are one well-formed trailer and nothing else
abbrev pub trailer_name : ℕ → List ℕ → Option (List ℕ)
trailer_name page bytes =
    let name = take (length bytes - 20) (drop 4 bytes) in
    if bytes_eq bytes (trailer page name) && is_super name then Some name else None

-- where the records of a journal end
abbrev pub records_end : ℕ → ℕ → ℕ → ℕ
records_end count sector page = sector + count * (page + 8)

-- the super-journal that is named: by a trailer right behind an exact number of records
abbrev pub named : ℕ → ℕ → ℕ → List ℕ → Option (List ℕ)
named count sector page bytes =
    if nat_eq count no_count then None
    else (if nat_le (records_end count sector page) (length bytes) then trailer_name page (drop (records_end count sector page) bytes) else None)

-- ---- what is played

-- how many records a journal has: as many as its count says, where it ends behind them or behind a trailer; all that fit where the count is the greatest and
-- the bytes do not end with the magic; none at the count 0, whatever follows
abbrev pub counted : ℕ → ℕ → ℕ → List ℕ → Option ℕ
counted count sector page bytes =
    if nat_eq count 0 then Some 0
    else (if nat_eq count no_count then (if ends_with nat_eq bytes magic then None else Some ((length bytes - sector) / (page + 8)))
    else (if nat_eq (length bytes) (records_end count sector page) || is_some (named count sector page bytes) then Some count else None))

-- the originals that are played, of so many records, each a number, a page and a checksum: a number of 0 or of the page with the lock bytes, and a wrong
-- checksum, end the playback; a record behind the initial size is skipped, whatever its checksum
unfoldable pub played : ℕ → ℕ → ℕ → ℕ → List ℕ → List Paged
played page initial nonce zero bytes = []
played page initial nonce (suc count) bytes =
    let number = number_at 4 bytes 0 in
    let original = take page (drop 4 bytes) in
    let more = played page initial nonce count (drop (page + 8) bytes) in
    if nat_eq number 0 || nat_eq number (lock_page page) then []
    else (if nat_lt initial number then more
    else (if nat_eq (number_at 4 bytes (page + 4)) (checksum nonce original) then (number, original) ∷ more else []))

abbrev pub play_of : ℕ → ℕ → ℕ → ℕ → Option (List ℕ) → List ℕ → Option ℕ → Hot
play_of page initial nonce sector super bytes None = Foreign
play_of page initial nonce sector super bytes (Some count) =
    Undoes (record { page = page; initial = initial; originals = played page initial nonce count (drop sector bytes); super_name = super })

-- sizes of this form, in a file of this length
abbrev pub of_form : ℕ → ℕ → ℕ → ℕ → Bool
of_form sector page initial len = is_size sector && (is_size page && (nat_le sector len && (nat_le (initial * page) most_database && nat_le len most_journal)))

-- a journal that names a super-journal which is not there is not hot
abbrev pub unless_missing : (List ℕ → Bool) → Option (List ℕ) → Hot → Hot
unless_missing exists None hot = hot
unless_missing exists (Some name) hot = if exists name then hot else Cold

-- what a journal with these numbers in its header stands for
unfoldable pub formed : (List ℕ → Bool) → ℕ → ℕ → ℕ → ℕ → ℕ → List ℕ → Hot
formed exists count nonce initial sector page bytes =
    if of_form sector page initial (length bytes)
    then unless_missing exists (named count sector page bytes) (play_of page initial nonce sector (named count sector page bytes) bytes (counted count sector page bytes))
    else Foreign

-- what the whole bytes of a journal stand for, where these names exist
unfoldable pub hot : (List ℕ → Bool) → List ℕ → Hot
hot exists bytes =
    if nat_le 28 (length bytes) && starts_with nat_eq bytes magic
    then formed exists (number_at 4 bytes 8) (number_at 4 bytes 12) (number_at 4 bytes 16) (number_at 4 bytes 20) (number_at 4 bytes 24) bytes
    else Cold

-- each name exists
abbrev pub all_exist : List ℕ → Bool
all_exist name = true

-- ---- how a journal is written

abbrev pub record_of : ℕ → Paged → List ℕ
record_of nonce r = big_bytes 4 r.0 ++ (r.1 ++ big_bytes 4 (checksum nonce r.1))

abbrev pub trailer_of : ℕ → Option (List ℕ) → List ℕ
trailer_of page None = []
trailer_of page (Some name) = trailer page name

-- a journal with any first byte: a sector of 512 bytes with the header, the records, their number exact, and the trailer
abbrev pub journal : ℕ → ℕ → Undo → List ℕ
journal first nonce u =
    (first ∷ drop 1 magic)
    ++ (big_bytes 4 (length u.originals) ++ (big_bytes 4 nonce ++ (big_bytes 4 u.initial ++ (big_bytes 4 512 ++ (big_bytes 4 u.page
    ++ (replicate 484 0 ++ (flat_map (record_of nonce) u.originals ++ trailer_of u.page u.super_name)))))))

-- what can be written as a journal
pub record IsPlan (nonce : ℕ) (u : Undo) : Type 0 where
  pub nonce_fits : nonce < 2 ^ 32
  pub page_is_size : IsTrue (is_size u.page)
  pub small : u.initial * u.page ≤ most_database
  pub pages : ArePages u.page u.originals
  pub within : AreUpTo u.initial u.originals
  pub rising : AreRising 0 u.originals
  pub super_is : (name : List ℕ) → u.super_name ≡ Some name → IsName name × (kind_of name ≡ Super)
