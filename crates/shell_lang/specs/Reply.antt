-- The text of each reply: its lines, each with a line feed behind it.
use Rattle.std.specs.Prelude.{◌≡◌, ◌≢◌, ℕ, ℤ, ◌==◌, Bool, ◌||◌, if◌then◌else◌, List, [], ◌∷◌, ◌++◌, length, map, codes, All}
use Rattle.std.specs.Char.{is_ascii_alphanumeric}
use Rattle.std.specs.Fmt.{decimal, signed_decimal}
use Rattle.std.specs.List.{flat_map, join_with_byte}
use Rattle.byteorder.specs.Endian.{big_bytes}
use Rattle.percent_encoding.specs.Percent.{percent_encode_byte}
use Rattle.hex.specs.Hex.{encode_lower}
use Rattle.vfs_model.specs.Name.{IsName}
use Rattle.db_format.specs.Create.{IsPlain}
use Rattle.db_format.specs.declared.value.Value.{Value}
use Rattle.db_format.specs.declared.value.Value.TheVariants.{Null, Int, Text, Blob, Real}
use Rattle.db_format.specs.declared.table_list.TableEntry.{TableEntry}
use Rattle.db_format.specs.declared.table_list.TableEntry.TheVariants.{Plain, Foreign}
use Rattle.db_format.specs.declared.header.HeaderFault.{HeaderFault}
use Rattle.db_format.specs.declared.header.HeaderFault.TheVariants.{NotADatabase, PageSize, FileVersion, Reserved, SchemaFormat, AutoVacuum, Encoding, TooLarge, Corrupt as CorruptHeader}
use Rattle.vfs_trait.specs.declared.fault.OpenFault.{OpenFault}
use Rattle.vfs_trait.specs.declared.fault.OpenFault.TheVariants.{Failed, Memory as NoMemory, BadPage, Header, ForeignJournal, NeedsOther}
use Rattle.shell_lang.specs.declared.command.Db.{Db}
use Rattle.shell_lang.specs.declared.command.Db.TheVariants.{Main}
use Rattle.shell_lang.specs.declared.reply.Reply.{Reply}
use Rattle.shell_lang.specs.declared.reply.Reply.TheVariants.{Open, Done, New, Replaced, Row, Nothing, Rows, Count, TableLines, Busy, Full, Checksum, Corrupt, Large, Worn, Fault, Stopped, Memory, MemoryStopped, Refused, Error}
use Rattle.shell_lang.specs.declared.reply.ScanEnd.{ScanEnd}
use Rattle.shell_lang.specs.declared.reply.ScanEnd.TheVariants.{End, Fault as EndsInFault, Memory as EndsInMemory, Checksum as EndsInChecksum, Corrupt as EndsInCorrupt}
use Rattle.shell_lang.specs.declared.reply.ErrorWord.{ErrorWord}
use Rattle.shell_lang.specs.declared.reply.ErrorWord.TheVariants.{BadLine, NoConn, InTxn, NoTxn, NoTable, Foreign as IsForeign, Exists, Columns, TooLong}

-- a letter, a digit, or one of `-._~`
abbrev pub is_plain_byte : ℕ → Bool
is_plain_byte b = is_ascii_alphanumeric b || (b == 45 || (b == 46 || (b == 95 || b == 126)))

-- a text as it is printed: any other byte as `%` and two upper-case hexadecimal digits
abbrev pub escaped_byte : ℕ → List ℕ
escaped_byte b = if is_plain_byte b then b ∷ [] else percent_encode_byte b

abbrev pub escaped : List ℕ → List ℕ
escaped bytes = flat_map escaped_byte bytes

abbrev pub value_text : Value → List ℕ
value_text Null = codes "null"
value_text (Int z) = codes "i:" ++ signed_decimal z
value_text (Text bytes) = codes "t:" ++ escaped bytes
value_text (Blob bytes) = codes "b:" ++ encode_lower bytes
value_text (Real bits) = codes "real"

-- words with a blank (byte 32) between two
abbrev pub words : List (List ℕ) → List ℕ
words parts = join_with_byte 32 parts

-- the eight bytes of a checksum, as sixteen digits
abbrev pub sum_text : ℕ → List ℕ
sum_text sum = encode_lower (big_bytes 8 sum)

abbrev pub db_text : Db → List ℕ
db_text Main = codes "main"

-- a page of a database
abbrev pub page_text : Db → ℕ → List ℕ
page_text Main page = decimal page

abbrev pub checksum_line : Db → ℕ → ℕ → ℕ → List ℕ
checksum_line db page kept found = words (codes "checksum" ∷ page_text db page ∷ sum_text kept ∷ sum_text found ∷ [])

abbrev pub corrupt_line : Db → ℕ → List ℕ
corrupt_line db page = words (codes "corrupt" ∷ page_text db page ∷ [])

abbrev pub header_words : HeaderFault → List (List ℕ)
header_words NotADatabase = codes "not-a-database" ∷ []
header_words (PageSize found) = codes "page-size" ∷ decimal found ∷ []
header_words (FileVersion found) = codes "version" ∷ decimal found ∷ []
header_words (Reserved found) = codes "reserved" ∷ decimal found ∷ []
header_words (SchemaFormat found) = codes "schema-format" ∷ decimal found ∷ []
header_words AutoVacuum = codes "auto-vacuum" ∷ []
header_words (Encoding found) = codes "encoding" ∷ decimal found ∷ []
header_words (TooLarge bytes) = codes "too-large" ∷ decimal bytes ∷ []
header_words CorruptHeader = codes "corrupt" ∷ []

-- why an opening was refused. A device that fails, want of memory and a failing page have replies of their own
abbrev pub IsRefusal : OpenFault → Type 0
IsRefusal Failed = ⊥
IsRefusal NoMemory = ⊥
IsRefusal (BadPage page kept found) = ⊥
IsRefusal (Header why) = Unit {0}
IsRefusal ForeignJournal = Unit {0}
IsRefusal (NeedsOther name) = Unit {0}

abbrev pub refusal_words : OpenFault → List (List ℕ)
refusal_words Failed = []
refusal_words NoMemory = []
refusal_words (BadPage page kept found) = []
refusal_words (Header why) = header_words why
refusal_words ForeignJournal = codes "foreign-journal" ∷ []
refusal_words (NeedsOther name) = codes "needs" ∷ name ∷ []

abbrev pub error_word : ErrorWord → List ℕ
error_word BadLine = codes "bad-line"
error_word NoConn = codes "no-conn"
error_word InTxn = codes "in-txn"
error_word NoTxn = codes "no-txn"
error_word NoTable = codes "no-table"
error_word IsForeign = codes "foreign"
error_word Exists = codes "exists"
error_word Columns = codes "columns"
error_word TooLong = codes "too-long"

abbrev pub row_line : ℤ × List Value → List ℕ
row_line row = words (codes "row" ∷ signed_decimal row.0 ∷ map value_text row.1)

abbrev pub table_line : TableEntry → List ℕ
table_line (Plain create) = words (codes "table" ∷ create.name ∷ create.columns)
table_line (Foreign name) = words (codes "foreign" ∷ escaped name ∷ [])

abbrev pub end_line : ℕ → List ℕ
end_line lines = words (codes "end" ∷ decimal lines ∷ [])

-- the last line of a scan: how many rows there were, or the refusal on the way
abbrev pub last_line : ScanEnd → List ℕ
last_line (End lines) = end_line lines
last_line EndsInFault = codes "fault"
last_line EndsInMemory = codes "memory"
last_line (EndsInChecksum db page kept found) = checksum_line db page kept found
last_line (EndsInCorrupt db page) = corrupt_line db page

-- the lines of a reply
abbrev pub lines_of : Reply → List (List ℕ)
lines_of (Open main) = words (codes "open" ∷ decimal main ∷ []) ∷ []
lines_of Done = codes "ok" ∷ []
lines_of New = codes "new" ∷ []
lines_of Replaced = codes "replaced" ∷ []
lines_of (Row rowid values) = row_line (rowid, values) ∷ []
lines_of Nothing = codes "none" ∷ []
lines_of (Rows rows last) = map row_line rows ++ last_line last ∷ []
lines_of (Count rows) = words (codes "count" ∷ decimal rows ∷ []) ∷ []
lines_of (TableLines tables) = map table_line tables ++ end_line (length tables) ∷ []
lines_of Busy = codes "busy" ∷ []
lines_of (Full total limit) = words (codes "full" ∷ decimal total ∷ decimal limit ∷ []) ∷ []
lines_of (Checksum db page kept found) = checksum_line db page kept found ∷ []
lines_of (Corrupt db page) = corrupt_line db page ∷ []
lines_of (Large pages) = words (codes "large" ∷ decimal pages ∷ []) ∷ []
lines_of Worn = codes "worn" ∷ []
lines_of Fault = codes "fault" ∷ []
lines_of Stopped = codes "stopped" ∷ []
lines_of Memory = codes "memory" ∷ []
lines_of MemoryStopped = words (codes "memory" ∷ codes "stopped" ∷ []) ∷ []
lines_of (Refused db why) = words (codes "refused" ∷ db_text db ∷ refusal_words why) ∷ []
lines_of (Error word) = words (codes "error" ∷ error_word word ∷ []) ∷ []

-- a line as it stands in a text: with a line feed (byte 10) behind it
abbrev pub ended : List ℕ → List ℕ
ended line = line ++ 10 ∷ []

abbrev pub text_of : Reply → List ℕ
text_of reply = flat_map ended (lines_of reply)

-- what is asked of a reply that is written: an opening is refused for one of the reasons that are printed
abbrev pub IsPrintable : Reply → Type 0
IsPrintable reply = (db : Db) (why : OpenFault) → reply ≡ Refused db why → IsRefusal why

-- and what its tables have where it is one of tables
abbrev pub IsPlainEntry : TableEntry → Type 0
IsPlainEntry (Plain create) = IsPlain create
IsPlainEntry (Foreign name) = Unit {0}

abbrev pub HasPlainTables : Reply → Type 0
HasPlainTables reply = (tables : List TableEntry) → reply ≡ TableLines tables → All IsPlainEntry tables

-- and the other database that is needed has the name of a file
abbrev pub HasNames : Reply → Type 0
HasNames reply = (db : Db) (name : List ℕ) → reply ≡ Refused db (NeedsOther name) → IsName name

-- no line of a reply has a line feed, so that the text of replies falls into their lines in one way
abbrev pub HasNoFeed : List ℕ → Type 0
HasNoFeed line = All (λ b. b ≢ 10) line

abbrev pub LinesHaveNoFeed : Type 0
LinesHaveNoFeed = (reply : Reply) → IsPrintable reply → HasPlainTables reply → HasNames reply → All HasNoFeed (lines_of reply)

abbrev pub OneCut : Type 0
OneCut = (lines lines' : List (List ℕ)) → All HasNoFeed lines → All HasNoFeed lines' → flat_map ended lines ≡ flat_map ended lines' → lines ≡ lines'
