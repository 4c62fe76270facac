-- The texts of replies, part by part.
use Rattle.std.proofs.Common.{◌≡◌, ℕ, ℤ, ◌+◌, ◌<◌, ◌/◌, ◌%◌, Bool, true, false, not, List, [], ◌∷◌, ◌++◌, length, map, take, codes, slice_index, refl, sym, ap, ◌∙◌, arith, Result, Ok, Err, OnOk, append-nil, append_assoc, inl, inr}
use Rattle.std.proofs.lemmas.Bool.{agree_below_at, cases_lt}
use Rattle.std.proofs.lemmas.Bool.Decides.{nat_tests}
use Rattle.std.proofs.lemmas.Grind.{flat_map-append}
use Rattle.std.proofs.lemmas.List.{take_more}
use Rattle.std.proofs.lemmas.List.Folds.{flat_map-map}
use Rattle.std.specs.Prelude.{if◌then◌else◌}
use Rattle.std.specs.Fmt.{decimal, signed_decimal}
use Rattle.std.specs.List.{flat_map, join_with_byte}
use Rattle.percent_encoding.specs.AsciiSet.{should_percent_encode, contains}
use Rattle.percent_encoding.specs.Percent.{percent_encode, percent_encode_byte}
use Rattle.hex.specs.Hex.{encode_lower, encode_with, lower_digits}
use Rattle.db_format.specs.declared.value.Value.{Value}
use Rattle.db_format.specs.declared.table_list.TableEntry.{TableEntry}
use Rattle.db_format.specs.declared.header.HeaderFault.{HeaderFault}
use Rattle.db_format.specs.declared.header.HeaderFault.TheVariants.{SchemaFormat, AutoVacuum}
use Rattle.shell_lang.specs.declared.write.TheConstants.{ESCAPED}
use Rattle.shell_lang.specs.declared.reply.Reply.{Reply}
use Rattle.shell_lang.specs.declared.reply.Reply.TheVariants.{Rows, TableLines, MemoryStopped}
use Rattle.shell_lang.specs.declared.reply.ScanEnd.{ScanEnd}
use Rattle.shell_lang.specs.Reply.{is_plain_byte, escaped_byte, escaped, value_text, words, row_line, table_line, last_line, end_line, header_words, ended, text_of}

pub then_ok : {T E : Type 0} (r : Result T E) (new a b : List ℕ) → a ≡ b → OnOk r (new ≡ a) → OnOk r (new ≡ b)
then_ok (Ok x) new a b e h = h ∙ e
then_ok (Err x) new a b e h = tt

-- words with a blank between two are the first, and each other behind a blank
pub join_is : (x : List ℕ) (xs : List (List ℕ)) → join_with_byte 32 (x ∷ xs) ≡ x ++ flat_map (λ (y : List ℕ). 32 ∷ y) xs
join_is x [] = sym (append-nil x)
join_is x (y ∷ ys) = ap (λ r. x ++ 32 ∷ r) (join_is y ys)

-- four parts, put one behind the other
pub four_parts : (old first second third a b d e whole : List ℕ) → first ≡ old ++ a → second ≡ first ++ b → third ≡ second ++ d
    → whole ≡ a ++ (b ++ (d ++ e)) → third ++ e ≡ old ++ whole
four_parts old first second third a b d e whole p q r w =
    let flat : (((old ++ a) ++ b) ++ d) ++ e ≡ old ++ (a ++ (b ++ (d ++ e))) = simp append_assoc in
    ap (λ m. m ++ e) (r ∙ ap (λ m. m ++ d) (q ∙ ap (λ m. m ++ b) p)) ∙ flat ∙ ap (λ m. old ++ m) (sym w)

-- the words that stand behind the first one
abbrev pub behind_blanks : List (List ℕ) → List ℕ
behind_blanks names = flat_map (λ (name : List ℕ). 32 ∷ name) names

abbrev pub value_words : List Value → List ℕ
value_words values = flat_map (λ value. 32 ∷ value_text value) values

pub row_text : (rowid : ℤ) (values : List Value)
    → ended (row_line (rowid, values)) ≡ codes "row " ++ (signed_decimal rowid ++ (value_words values ++ 10 ∷ []))
row_text rowid values =
    let joined : join_with_byte 32 (signed_decimal rowid ∷ map value_text values) ≡ signed_decimal rowid ++ value_words values =
    join_is (signed_decimal rowid) (map value_text values) ∙ ap (λ v. signed_decimal rowid ++ v) (flat_map-map (λ (y : List ℕ). 32 ∷ y) value_text values) in
    ap (λ j. codes "row " ++ (j ++ 10 ∷ [])) joined ∙ ap (λ t. codes "row " ++ t) (append_assoc (signed_decimal rowid) (value_words values) (10 ∷ []))

pub plain_text : (name : List ℕ) (columns : List (List ℕ))
    → ended (words (codes "table" ∷ name ∷ columns)) ≡ codes "table " ++ (name ++ (behind_blanks columns ++ 10 ∷ []))
plain_text name columns =
    ap (λ j. codes "table " ++ (j ++ 10 ∷ [])) (join_is name columns) ∙ ap (λ t. codes "table " ++ t) (append_assoc name (behind_blanks columns) (10 ∷ []))

-- lines and a last one
lines_text : {A : Type 0} (line : A → List ℕ) (items : List A) (last : List ℕ)
    → flat_map ended (map line items ++ last ∷ []) ≡ flat_map (λ item. ended (line item)) items ++ ended last
lines_text line items last =
    flat_map-append ended (map line items) (last ∷ [])
    ∙ ap (λ t. t ++ (ended last ++ [])) (flat_map-map ended line items)
    ∙ ap (λ t. flat_map (λ item. ended (line item)) items ++ t) (append-nil (ended last))

pub rows_done : {T E : Type 0} (r : Result T E) (new mid old : List ℕ) (reply : Reply) (rows shown : List (ℤ × List Value)) (last : ScanEnd)
    → reply ≡ Rows rows last → shown ≡ rows → mid ≡ old ++ flat_map (λ row. ended (row_line row)) shown
    → OnOk r (new ≡ mid ++ ended (last_line last)) → OnOk r (new ≡ old ++ text_of reply)
rows_done r new mid old reply rows shown last is same put h =
    let text : mid ++ ended (last_line last) ≡ old ++ text_of (Rows rows last) =
    ap (λ m. m ++ ended (last_line last)) (put ∙ ap (λ s. old ++ flat_map (λ row. ended (row_line row)) s) same)
    ∙ append_assoc old (flat_map (λ row. ended (row_line row)) rows) (ended (last_line last))
    ∙ ap (λ t. old ++ t) (sym (lines_text row_line rows (last_line last))) in
    then_ok r new _ _ (text ∙ ap (λ y. old ++ text_of y) (sym is)) h

pub tables_done : {T E : Type 0} (r : Result T E) (new mid old : List ℕ) (reply : Reply) (tables shown : List TableEntry) (count : ℕ)
    → reply ≡ TableLines tables → shown ≡ tables → count ≡ length tables → mid ≡ old ++ flat_map (λ table. ended (table_line table)) shown
    → OnOk r (new ≡ mid ++ (codes "end " ++ (decimal count ++ 10 ∷ []))) → OnOk r (new ≡ old ++ text_of reply)
tables_done r new mid old reply tables shown count is same counted put h =
    let text : mid ++ ended (end_line (length tables)) ≡ old ++ text_of (TableLines tables) =
    ap (λ m. m ++ ended (end_line (length tables))) (put ∙ ap (λ s. old ++ flat_map (λ table. ended (table_line table)) s) same)
    ∙ append_assoc old (flat_map (λ table. ended (table_line table)) tables) (ended (end_line (length tables)))
    ∙ ap (λ t. old ++ t) (sym (lines_text table_line tables (end_line (length tables)))) in
    then_ok r new _ _ (ap (λ n. mid ++ (codes "end " ++ (decimal n ++ 10 ∷ []))) counted ∙ text ∙ ap (λ y. old ++ text_of y) (sym is)) h

pub stopped_done : {T E : Type 0} (r : Result T E) (new old : List ℕ) (reply : Reply) → reply ≡ MemoryStopped
    → OnOk r (new ≡ old ++ codes "memory stopped\n") → OnOk r (new ≡ old ++ text_of reply)
stopped_done r new old reply is h = then_ok r new _ _ (ap (λ y. old ++ text_of y) (sym is)) h

pub format_done : {T E : Type 0} (r : Result T E) (new old : List ℕ) (why : HeaderFault) (found count : ℕ) → why ≡ SchemaFormat found → count ≡ found
    → OnOk r (new ≡ old ++ (codes "schema-format " ++ (decimal count ++ 10 ∷ []))) → OnOk r (new ≡ old ++ ended (words (header_words why)))
format_done r new old why found count is same h =
    then_ok r new _ _
    (ap (λ n. old ++ (codes "schema-format " ++ (decimal n ++ 10 ∷ []))) same ∙ ap (λ y. old ++ ended (words (header_words y))) (sym is)) h

pub vacuum_done : {T E : Type 0} (r : Result T E) (new old : List ℕ) (why : HeaderFault) → why ≡ AutoVacuum
    → OnOk r (new ≡ old ++ codes "auto-vacuum\n") → OnOk r (new ≡ old ++ ended (words (header_words why)))
vacuum_done r new old why is h = then_ok r new _ _ (ap (λ y. old ++ ended (words (header_words y))) (sym is)) h

-- one byte more, by its two digits
encode_push : (t xs : List ℕ) (b : ℕ) → encode_with t (xs ++ b ∷ []) ≡ encode_with t xs ++ (slice_index t (b / 16) ∷ slice_index t (b % 16) ∷ [])
unfolding encode_with
encode_push t [] b = refl
encode_push t (x ∷ xs) b = ap (λ r. slice_index t (x / 16) ∷ slice_index t (x % 16) ∷ r) (encode_push t xs b)

pub encode_more : (bytes old mid : List ℕ) (b count : ℕ) → count < length bytes → b ≡ slice_index bytes count → mid ≡ old ++ encode_lower (take count bytes)
    → mid ++ (slice_index lower_digits (b / 16) ∷ slice_index lower_digits (b % 16) ∷ []) ≡ old ++ encode_lower (take (count + 1) bytes)
encode_more bytes old mid b count within is so_far =
    let longer : take (count + 1) bytes ≡ take count bytes ++ b ∷ [] = take_more bytes count 0 within ∙ ap (λ x. take count bytes ++ x ∷ []) (sym is) in
    ap (λ m. m ++ (slice_index lower_digits (b / 16) ∷ slice_index lower_digits (b % 16) ∷ [])) so_far
    ∙ append_assoc old (encode_lower (take count bytes)) _
    ∙ ap (λ t. old ++ t) (sym (encode_push lower_digits (take count bytes) b) ∙ ap encode_lower (sym longer))

pub encode_none : encode_lower [] ≡ []
unfolding encode_with
encode_none = refl

-- the bytes that are escaped
in_set : (b : ℕ) → b < 128 → contains ESCAPED b ≡ not (is_plain_byte b)
in_set b low = agree_below_at (contains ESCAPED) (λ x. not (is_plain_byte x)) 128 b refl low

escaped_where : (b : ℕ) → should_percent_encode ESCAPED b ≡ not (is_plain_byte b)
unfolding should_percent_encode
escaped_where b = elim (cases_lt b 128) [
  | inl low ↦ let inside = in_set b low in grind (arith, nat_tests)
  | inr high ↦ grind (arith, nat_tests)
]

by_test : (b : ℕ) (escape plain : Bool) → escape ≡ not plain → (if escape then percent_encode_byte b else b ∷ []) ≡ (if plain then b ∷ [] else percent_encode_byte b)
by_test b true true e = absurd (cc)
by_test b true false e = refl
by_test b false true e = refl
by_test b false false e = absurd (cc)

pub escaped_is : (bytes : List ℕ) → percent_encode ESCAPED bytes ≡ escaped bytes
unfolding percent_encode
escaped_is [] = refl
escaped_is (b ∷ bytes) =
    ap (λ f. f ++ percent_encode ESCAPED bytes) (by_test b _ _ (escaped_where b)) ∙ ap (λ r. escaped_byte b ++ r) (escaped_is bytes)
