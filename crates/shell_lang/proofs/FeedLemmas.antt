-- No line of a reply has a line feed.
use Rattle.std.proofs.Common.{◌≡◌, ◌≢◌, ℕ, zero, suc, ℤ, pos, negsuc, ◌≤◌, ◌/◌, ◌%◌, nat_eq, Bool, true, false, List, [], ◌∷◌, ◌++◌, length, map, codes, slice_index, get_or, refl, sym, ap, ◌∙◌, arith, All, append_assoc, length-append}
use Rattle.std.specs.Prelude.{if◌then◌else◌, ◌==◌}
use Rattle.std.specs.Fmt.{decimal, signed_decimal, digits, digits_onto, digit_glyph}
use Rattle.std.specs.List.{flat_map}
use Rattle.std.proofs.lemmas.Bool.Decides.{nat_tests}
use Rattle.std.proofs.lemmas.List.Elements.{All-nil, All-cons, All-head, All-tail, All-append, All-map}
use Rattle.byteorder.specs.Endian.{big_bytes}
use Rattle.percent_encoding.specs.Percent.{percent_encode_byte}
use Rattle.hex.specs.Hex.{encode_lower, encode_with, lower_digits}
use Rattle.vfs_model.specs.Name.{IsName, is_name_byte}
use Rattle.db_format.specs.Create.{IsIdentifier, is_identifier_byte}
use Rattle.db_format.specs.declared.value.Value.{Value}
use Rattle.db_format.specs.declared.value.Value.TheVariants.{Null, Int, Text, Blob, Real}
use Rattle.db_format.specs.declared.table_list.TableEntry.{TableEntry}
use Rattle.db_format.specs.declared.table_list.TableEntry.TheVariants.{Plain, Foreign}
use Rattle.db_format.specs.declared.header.HeaderFault.{HeaderFault}
use Rattle.db_format.specs.declared.header.HeaderFault.TheVariants.{NotADatabase, PageSize, FileVersion, Reserved, SchemaFormat, AutoVacuum, Encoding, TooLarge, Corrupt as CorruptHeader}
use Rattle.vfs_trait.specs.declared.fault.OpenFault.{OpenFault}
use Rattle.vfs_trait.specs.declared.fault.OpenFault.TheVariants.{Failed, Memory as NoMemory, BadPage, Header, ForeignJournal, NeedsOther}
use Rattle.shell_lang.specs.declared.command.Db.{Db}
use Rattle.shell_lang.specs.declared.command.Db.TheVariants.{Main}
use Rattle.shell_lang.specs.declared.reply.Reply.{Reply}
use Rattle.shell_lang.specs.declared.reply.Reply.TheVariants.{Open, Done, New, Replaced, Row, Nothing, Rows, Count, TableLines, Busy, Full, Checksum, Corrupt, Large, Worn, Fault, Stopped, Memory, MemoryStopped, Refused, Error}
use Rattle.shell_lang.specs.declared.reply.ScanEnd.{ScanEnd}
use Rattle.shell_lang.specs.declared.reply.ScanEnd.TheVariants.{End, Fault as EndsInFault, Memory as EndsInMemory, Checksum as EndsInChecksum, Corrupt as EndsInCorrupt}
use Rattle.shell_lang.specs.declared.reply.ErrorWord.{ErrorWord}
use Rattle.shell_lang.specs.declared.reply.ErrorWord.TheVariants.{BadLine, NoConn, InTxn, NoTxn, NoTable, Foreign as IsForeign, Exists, Columns, TooLong}
use Rattle.shell_lang.specs.Reply.{is_plain_byte, escaped_byte, escaped, value_text, words, sum_text, page_text, db_text, checksum_line, corrupt_line, header_words, refusal_words, error_word, row_line, table_line, end_line, last_line, lines_of, ended, IsPrintable, IsPlainEntry, HasPlainTables, HasNames, HasNoFeed}

none : HasNoFeed []
none = All-nil (λ b. b ≢ 10)

cons : (b : ℕ) (bytes : List ℕ) → b ≢ 10 → HasNoFeed bytes → HasNoFeed (b ∷ bytes)
cons b bytes p h = All-cons (λ x. x ≢ 10) b bytes p h

both : (a b : List ℕ) → HasNoFeed a → HasNoFeed b → HasNoFeed (a ++ b)
both a b p q = All-append (λ x. x ≢ 10) a b p q

-- a literal is tested
abbrev feedless : List ℕ → Bool
feedless [] = true
feedless (b ∷ bytes) = if nat_eq b 10 then false else feedless bytes

not_feed : (b : ℕ) → nat_eq b 10 ≡ false → b ≢ 10
not_feed b h e = let wrong : true ≡ false = sym (ap (λ x. nat_eq x 10) e) ∙ h in cc

one_byte : (b : ℕ) (bytes : List ℕ) (test : Bool) → nat_eq b 10 ≡ test → (if test then false else feedless bytes) ≡ true
    → (feedless bytes ≡ true → HasNoFeed bytes) → HasNoFeed (b ∷ bytes)
one_byte b bytes true is h rest = absurd (cc)
one_byte b bytes false is h rest = cons b bytes (not_feed b is) (rest h)

by_test : (bytes : List ℕ) → feedless bytes ≡ true → HasNoFeed bytes
by_test [] h = none
by_test (b ∷ bytes) h = one_byte b bytes (nat_eq b 10) refl h (λ k. by_test bytes k)

-- numbers
glyph : (upper : Bool) (d : ℕ) → digit_glyph upper d ≢ 10
glyph upper d e = grind (arith, nat_tests)

last_digit : (n : ℕ) (acc longer : List ℕ) (test : Bool) → HasNoFeed acc → HasNoFeed longer
    → HasNoFeed (if test then digit_glyph false (n % 10) ∷ acc else longer)
last_digit n acc longer true h k = cons (digit_glyph false (n % 10)) acc (glyph false (n % 10)) h
last_digit n acc longer false h k = k

digits_free : (k n : ℕ) (acc : List ℕ) → HasNoFeed acc → HasNoFeed (digits_onto k 10 false n acc)
digits_free zero n acc h = h
digits_free (suc k) n acc h =
    last_digit n acc (digits_onto k 10 false (n / 10) (digit_glyph false (n % 10) ∷ acc)) (n / 10 == 0) h
    (digits_free k (n / 10) (digit_glyph false (n % 10) ∷ acc) (cons (digit_glyph false (n % 10)) acc (glyph false (n % 10)) h))

number : (n : ℕ) → HasNoFeed (decimal n)
unfolding digits
number n = digits_free 64 n [] none

signed : (z : ℤ) → HasNoFeed (signed_decimal z)
signed (pos n) = number n
signed (negsuc n) = cons 45 _ (λ e. omega (arith, e)) (number (suc n))

-- digits of bytes
digit : (t : List ℕ) (k : ℕ) → HasNoFeed t → slice_index t k ≢ 10
digit [] k h e = omega (arith, e)
digit (x ∷ xs) zero h e = All-head (λ b. b ≢ 10) x xs h e
digit (x ∷ xs) (suc k) h e = digit xs k (All-tail (λ b. b ≢ 10) x xs h) e

encoded : (t bytes : List ℕ) → HasNoFeed t → HasNoFeed (encode_with t bytes)
unfolding encode_with
encoded t [] h = none
encoded t (b ∷ bytes) h =
    cons (slice_index t (b / 16)) (slice_index t (b % 16) ∷ encode_with t bytes) (digit t (b / 16) h)
    (cons (slice_index t (b % 16)) (encode_with t bytes) (digit t (b % 16) h) (encoded t bytes h))

hex : (bytes : List ℕ) → HasNoFeed (encode_lower bytes)
hex bytes = encoded lower_digits bytes (by_test lower_digits refl)

-- texts
escape : (b : ℕ) → HasNoFeed (percent_encode_byte b)
unfolding percent_encode_byte
escape b =
    cons 37 (digit_glyph true (b / 16 % 16) ∷ digit_glyph true (b % 16) ∷ []) (λ e. omega (arith, e))
    (cons (digit_glyph true (b / 16 % 16)) (digit_glyph true (b % 16) ∷ []) (glyph true (b / 16 % 16))
    (cons (digit_glyph true (b % 16)) [] (glyph true (b % 16)) none))

text_byte : (b : ℕ) (plain : Bool) → is_plain_byte b ≡ plain → HasNoFeed (if plain then b ∷ [] else percent_encode_byte b)
text_byte b true is = cons b [] (λ e. let wrong : false ≡ true = sym (ap is_plain_byte e) ∙ is in cc) none
text_byte b false is = escape b

text : (bytes : List ℕ) → HasNoFeed (escaped bytes)
text [] = none
text (b ∷ bytes) = both (escaped_byte b) (escaped bytes) (text_byte b (is_plain_byte b) refl) (text bytes)

value : (v : Value) → HasNoFeed (value_text v)
value Null = by_test (codes "null") refl
value (Int z) = both (codes "i:") _ (by_test (codes "i:") refl) (signed z)
value (Text bytes) = both (codes "t:") _ (by_test (codes "t:") refl) (text bytes)
value (Blob bytes) = both (codes "b:") _ (by_test (codes "b:") refl) (hex bytes)
value (Real bits) = by_test (codes "real") refl

-- names
identifier : (name : List ℕ) → IsIdentifier name → HasNoFeed name
identifier name is k d within e =
    let wrong : false ≡ true = sym (ap is_identifier_byte e) ∙ is.each k d within in
    cc

file_name : (name : List ℕ) → IsName name → HasNoFeed name
file_name name is k d within e =
    let wrong : false ≡ true = sym (ap is_name_byte e) ∙ is.each k d within in
    cc

-- words and lines: records, so that what a fact speaks of is seen in it
record Free (line : List ℕ) : Type 0 where
  free : HasNoFeed line

record AllFree (lines : List (List ℕ)) : Type 0 where
  each : All HasNoFeed lines

literal : (x : List ℕ) → feedless x ≡ true → Free x
literal x h = record { free = by_test x h }

decimal_free : (n : ℕ) → Free (decimal n)
decimal_free n = record { free = number n }

signed_free : (z : ℤ) → Free (signed_decimal z)
signed_free z = record { free = signed z }

sum_free : (sum : ℕ) → Free (sum_text sum)
sum_free sum = record { free = hex (big_bytes 8 sum) }

text_free : (bytes : List ℕ) → Free (escaped bytes)
text_free bytes = record { free = text bytes }

joined : (parts : List (List ℕ)) → All HasNoFeed parts → HasNoFeed (words parts)
joined [] h = none
joined (x ∷ []) h = All-head HasNoFeed x [] h
joined (x ∷ y ∷ ys) h =
    both x (32 ∷ words (y ∷ ys)) (All-head HasNoFeed x (y ∷ ys) h) (cons 32 (words (y ∷ ys)) (λ e. omega (arith, e)) (joined (y ∷ ys) (All-tail HasNoFeed x (y ∷ ys) h)))

and : {x : List ℕ} {xs : List (List ℕ)} → Free x → AllFree xs → AllFree (x ∷ xs)
and {x} {xs} p h = record { each = All-cons HasNoFeed x xs p.free h.each }

one : {x : List ℕ} → Free x → AllFree (x ∷ [])
one {x} p = record { each = All-cons HasNoFeed x [] p.free (All-nil HasNoFeed) }

-- a line of a word and more
worded : (x : List ℕ) {xs : List (List ℕ)} → feedless x ≡ true → AllFree xs → Free (words (x ∷ xs))
worded x {xs} p h = record { free = joined (x ∷ xs) (All-cons HasNoFeed x xs (by_test x p) h.each) }

page : (db : Db) (n : ℕ) → Free (page_text db n)
page Main n = decimal_free n

checksum : (db : Db) (n kept found : ℕ) → Free (checksum_line db n kept found)
checksum db n kept found = worded (codes "checksum") refl (and (page db n) (and (sum_free kept) (one (sum_free found))))

corrupt : (db : Db) (n : ℕ) → Free (corrupt_line db n)
corrupt db n = worded (codes "corrupt") refl (one (page db n))

counted : (x : List ℕ) (n : ℕ) → feedless x ≡ true → Free (words (x ∷ decimal n ∷ []))
counted x n p = worded x p (one (decimal_free n))

value_words : (values : List Value) → AllFree (map value_text values)
value_words values = record { each = All-map HasNoFeed value_text values (λ k d within. value (get_or values k d)) }

row : (r : ℤ × List Value) → Free (row_line r)
row r = worded (codes "row") refl (and (signed_free r.0) (value_words r.1))

table : (entry : TableEntry) → IsPlainEntry entry → Free (table_line entry)
table (Plain create) is =
    let name : Free create.name = record { free = identifier create.name is.named } in
    let columns : AllFree create.columns = record { each = λ k d within. identifier (get_or create.columns k d) (is.columned.each k d within) } in
    worded (codes "table") refl (and name columns)
table (Foreign name) is = worded (codes "foreign") refl (one (text_free name))

last : (end : ScanEnd) → Free (last_line end)
last (End lines) = counted (codes "end") lines refl
last EndsInFault = literal (codes "fault") refl
last EndsInMemory = literal (codes "memory") refl
last (EndsInChecksum db n kept found) = checksum db n kept found
last (EndsInCorrupt db n) = corrupt db n

number_word : (x : List ℕ) (n : ℕ) → feedless x ≡ true → AllFree (x ∷ decimal n ∷ [])
number_word x n p = and (literal x p) (one (decimal_free n))

header : (why : HeaderFault) → AllFree (header_words why)
header NotADatabase = one (literal (codes "not-a-database") refl)
header (PageSize found) = number_word (codes "page-size") found refl
header (FileVersion found) = number_word (codes "version") found refl
header (Reserved found) = number_word (codes "reserved") found refl
header (SchemaFormat found) = number_word (codes "schema-format") found refl
header AutoVacuum = one (literal (codes "auto-vacuum") refl)
header (Encoding found) = number_word (codes "encoding") found refl
header (TooLarge bytes) = number_word (codes "too-large") bytes refl
header CorruptHeader = one (literal (codes "corrupt") refl)

nothing : AllFree []
nothing = record { each = All-nil HasNoFeed }

named : (name : List ℕ) → IsName name → Free name
named name is = record { free = file_name name is }

refusal : (why : OpenFault) → ((name : List ℕ) → why ≡ NeedsOther name → IsName name) → AllFree (refusal_words why)
refusal Failed is = nothing
refusal NoMemory is = nothing
refusal (BadPage n kept found) is = nothing
refusal (Header why) is = header why
refusal ForeignJournal is = one (literal (codes "foreign-journal") refl)
refusal (NeedsOther name) is = and (literal (codes "needs") refl) (one (named name (is name refl)))

database : (db : Db) → Free (db_text db)
database Main = literal (codes "main") refl

error : (word : ErrorWord) → Free (error_word word)
error BadLine = literal (codes "bad-line") refl
error NoConn = literal (codes "no-conn") refl
error InTxn = literal (codes "in-txn") refl
error NoTxn = literal (codes "no-txn") refl
error NoTable = literal (codes "no-table") refl
error IsForeign = literal (codes "foreign") refl
error Exists = literal (codes "exists") refl
error Columns = literal (codes "columns") refl
error TooLong = literal (codes "too-long") refl

-- items' lines and a last one
listed : {A : Type 0} (line : A → List ℕ) (items : List A) (end : List ℕ) → All (λ item. HasNoFeed (line item)) items → Free end → AllFree (map line items ++ end ∷ [])
listed line items end h p = record { each = All-append HasNoFeed (map line items) (end ∷ []) (All-map HasNoFeed line items h) (one p).each }

row_lines : (rows : List (ℤ × List Value)) → All (λ r. HasNoFeed (row_line r)) rows
row_lines rows k d within = (row (get_or rows k d)).free

table_lines : (tables : List TableEntry) → All IsPlainEntry tables → All (λ entry. HasNoFeed (table_line entry)) tables
table_lines tables is k d within = (table (get_or tables k d) (is k d within)).free

reply_free : (reply : Reply) → HasPlainTables reply → HasNames reply → AllFree (lines_of reply)
reply_free (Open main) t n = one (counted (codes "open") main refl)
reply_free Done t n = one (literal (codes "ok") refl)
reply_free New t n = one (literal (codes "new") refl)
reply_free Replaced t n = one (literal (codes "replaced") refl)
reply_free (Row rowid values) t n = one (row (rowid, values))
reply_free Nothing t n = one (literal (codes "none") refl)
reply_free (Rows rows end) t n = listed row_line rows (last_line end) (row_lines rows) (last end)
reply_free (Count rows) t n = one (counted (codes "count") rows refl)
reply_free (TableLines tables) t n =
    listed table_line tables (end_line (length tables)) (table_lines tables (t tables refl)) (counted (codes "end") (length tables) refl)
reply_free Busy t n = one (literal (codes "busy") refl)
reply_free (Full total limit) t n = one (worded (codes "full") refl (and (decimal_free total) (one (decimal_free limit))))
reply_free (Checksum db page kept found) t n = one (checksum db page kept found)
reply_free (Corrupt db page) t n = one (corrupt db page)
reply_free (Large pages) t n = one (counted (codes "large") pages refl)
reply_free Worn t n = one (literal (codes "worn") refl)
reply_free Fault t n = one (literal (codes "fault") refl)
reply_free Stopped t n = one (literal (codes "stopped") refl)
reply_free Memory t n = one (literal (codes "memory") refl)
reply_free MemoryStopped t n = one (literal (codes "memory stopped") refl)
reply_free (Refused db why) t n = one (worded (codes "refused") refl (and (database db) (refusal why (λ name is. n db name (ap (Refused db) is)))))
reply_free (Error word) t n = one (worded (codes "error") refl (one (error word)))

pub lines_free : (reply : Reply) → IsPrintable reply → HasPlainTables reply → HasNames reply → All HasNoFeed (lines_of reply)
lines_free reply printable tables names = (reply_free reply tables names).each

-- a text falls into its lines in one way
first_feed : (a b x y : List ℕ) → HasNoFeed a → HasNoFeed b → a ++ 10 ∷ x ≡ b ++ 10 ∷ y → (a ≡ b) × (x ≡ y)
first_feed [] [] x y p q e = (refl, cc)
first_feed [] (c ∷ b) x y p q e = let here : c ≡ 10 = cc in absurd (All-head (λ n. n ≢ 10) c b q here)
first_feed (d ∷ a) [] x y p q e = let here : d ≡ 10 = cc in absurd (All-head (λ n. n ≢ 10) d a p here)
first_feed (d ∷ a) (c ∷ b) x y p q e =
    let head : d ≡ c = cc in
    let tail : a ++ 10 ∷ x ≡ b ++ 10 ∷ y = cc in
    let rest = first_feed a b x y (All-tail (λ n. n ≢ 10) d a p) (All-tail (λ n. n ≢ 10) c b q) tail in
    (ap (λ n. n ∷ a) head ∙ ap (λ ns. c ∷ ns) rest.0, rest.1)

some_text : (line : List ℕ) (lines : List (List ℕ)) → 1 ≤ length (flat_map ended (line ∷ lines))
some_text line lines = omega (arith, length-append (ended line) (flat_map ended lines), length-append line (10 ∷ []))

pub one_cut : (lines lines' : List (List ℕ)) → All HasNoFeed lines → All HasNoFeed lines' → flat_map ended lines ≡ flat_map ended lines' → lines ≡ lines'
one_cut [] [] h k e = refl
one_cut [] (m ∷ ms) h k e = absurd (omega (arith, ap length e, some_text m ms))
one_cut (l ∷ ls) [] h k e = absurd (omega (arith, ap length e, some_text l ls))
one_cut (l ∷ ls) (m ∷ ms) h k e =
    let here : l ++ 10 ∷ flat_map ended ls ≡ m ++ 10 ∷ flat_map ended ms =
    sym (append_assoc l (10 ∷ []) (flat_map ended ls)) ∙ e ∙ append_assoc m (10 ∷ []) (flat_map ended ms) in
    let parts = first_feed l m (flat_map ended ls) (flat_map ended ms) (All-head HasNoFeed l ls h) (All-head HasNoFeed m ms k) here in
    let rest = one_cut ls ms (All-tail HasNoFeed l ls h) (All-tail HasNoFeed m ms k) parts.1 in
    ap (λ x. x ∷ ls) parts.0 ∙ ap (λ xs. m ∷ xs) rest
