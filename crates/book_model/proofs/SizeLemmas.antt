-- The size of the shortest record of some values.
use Rattle.std.proofs.Common.{◌≡◌, inl, inr, ℕ, ◌+◌, ◌^◌, ◌<◌, List, [], ◌∷◌, ◌++◌, length, map, refl, sym, ap, subst, arith, length-append}
use Rattle.std.proofs.lemmas.List.Concat.{length-flat_map}
use Rattle.std.proofs.lemmas.List.Sums.{sum_by_from}
use Rattle.std.specs.List.{AllByRecursion, flat_map}
use Rattle.db_format.specs.declared.value.Value.{Value}
use Rattle.db_format.specs.Record.{Field, IsField, IsRecord, IsShortest, AreBytes}
use Rattle.db_format.specs.Writing.{written_type, written_content, AppendsVarint, IsWritten, AreTypes, IsHeaderSize}
use Rattle.db_format.proofs.WritingLemmas.{shorter, is_record, is_shortest}
use Rattle.book_model.specs.Size.{varint_size, types_size, header_size, record_size}
use Rattle.book_model.specs.Laws.{RecordHasSize}
use Rattle.book_model.proofs.SpellLemmas.{bytes_both, spell, header}
use Rattle.book_model.proofs.RangeLemmas.{held, serial_small, written_bytes, written_stands}

bytes_front : (xs ys : List ℕ) → AreBytes (xs ++ ys) → AreBytes xs
bytes_front [] ys h = tt
bytes_front (x ∷ xs) ys h = (h.0, bytes_front xs ys h.1)

bytes_rest : (xs ys : List ℕ) → AreBytes (xs ++ ys) → AreBytes ys
bytes_rest [] ys h = h
bytes_rest (x ∷ xs) ys h = bytes_rest xs ys h.1

-- a value as it is written, its type spelled in so many bytes
record Writes (value : Value) : Type 0 where
  field : Field
  is : IsWritten field
  value_is : field.value ≡ value
  long : length field.spelling ≡ varint_size (written_type value)
  type_bytes : AreBytes field.spelling
  content_bytes : AreBytes (written_content value)

write : (g : Field) → IsField g → AreBytes g.content → Writes g.value
write g is bytes =
    let value_held = held g.serial g.content g.value bytes is.stands in
    let serial = serial_small g.spelling g.serial is.spelled in
    let small : written_type g.value < 2 ^ 63 = elim (shorter g.serial g.content g.value bytes is.stands).type_is [
      | inl same ↦ omega (arith, same, serial)
      | inr low ↦ omega (arith, low)
    ] in
    let s = spell (written_type g.value) small in
    record {
      field = record { spelling = s.spelling; serial = written_type g.value; content = written_content g.value; value = g.value };
      is = record { is_field = record { spelled = s.spelled; stands = written_stands g.value value_held }; serial_is = refl; content_is = refl; size = s.size };
      value_is = refl;
      long = s.long;
      type_bytes = s.are_bytes;
      content_bytes = written_bytes g.value value_held;
    }

-- all of them
record WritesAll (values : List Value) : Type 0 where
  types : List ℕ
  are : AreTypes types values
  long : length types ≡ types_size values
  type_bytes : AreBytes types
  content_bytes : AreBytes (flat_map written_content values)

write_more : (value : Value) (values : List Value) → Writes value → WritesAll values → WritesAll (value ∷ values)
write_more value values w more =
    let sum = sum_by_from (λ v. varint_size (written_type v)) (0 + varint_size (written_type value)) values in
    record {
      types = w.field.spelling ++ more.types;
      are = record {
        fields = w.field ∷ more.are.fields;
        each = (w.is, more.are.each);
        types_are = ap (λ (l : List ℕ). w.field.spelling ++ l) more.are.types_are;
        values_are = λ i. sym w.value_is i ∷ more.are.values_are i;
      };
      long = omega (arith, sum, length-append w.field.spelling more.types, w.long, more.long);
      type_bytes = bytes_both w.field.spelling more.types w.type_bytes more.type_bytes;
      content_bytes = bytes_both (written_content value) (flat_map written_content values) w.content_bytes more.content_bytes;
    }

write_all : (gs : List Field) → AllByRecursion IsField gs → AreBytes (flat_map (λ g. g.content) gs) → WritesAll (map (λ g. g.value) gs)
write_all [] each bytes = record {
  types = [];
  are = record { fields = []; each = tt; types_are = refl; values_are = refl };
  long = refl;
  type_bytes = tt;
  content_bytes = tt;
}
write_all (g ∷ gs) each bytes =
    write_more g.value (map (λ g. g.value) gs) (write g each.0 (bytes_front g.content (flat_map (λ g. g.content) gs) bytes))
    (write_all gs each.1 (bytes_rest g.content (flat_map (λ g. g.content) gs) bytes))

-- the record that is written has the size, and so has each that is as short
written_size : (payload : List ℕ) (values : List Value) → WritesAll values → types_size values < 2 ^ 14 → AreBytes payload → IsRecord payload values → IsShortest payload values
    → length payload ≡ record_size values
unfolding record_size
written_size payload values w few bytes is least =
    let h = header (types_size values) few in
    let size : ℕ = header_size (types_size values) in
    let contents : List ℕ = flat_map written_content values in
    let front : List ℕ = h.front.spelling in
    let other : List ℕ = front ++ w.types ++ contents in
    let is_size = subst (λ n. IsHeaderSize n size) (sym w.long) h.is_size in
    let appends : AppendsVarint [] front size = record { spelling = front; spelled = h.front.spelled; size = h.front.size; new_is = refl } in
    let other_bytes : AreBytes other = bytes_both (front ++ w.types) contents (bytes_both front w.types h.front.are_bytes w.type_bytes) w.content_bytes in
    let most = least other other_bytes (is_record w.types front other values size w.are is_size appends refl) in
    let fewest = is_shortest w.types front other values size w.are is_size appends refl payload bytes is in
    omega (arith, most, fewest, length-append (front ++ w.types) contents, length-append front w.types, w.long, h.front.long, h.total, length-flat_map written_content values)

pub record_has_size : RecordHasSize
record_has_size payload values few bytes is least =
    let g = is.fields in
    let joined : AreBytes (is.parts.size ++ is.types ++ is.contents) = subst AreBytes is.parts.joined bytes in
    let contents : AreBytes (flat_map (λ g. g.content) g.fields) = subst AreBytes g.contents_are (bytes_rest (is.parts.size ++ is.types) is.contents joined) in
    written_size payload values (subst WritesAll (sym g.values_are) (write_all g.fields g.each contents)) few bytes is least
