-- Laws of records: what spells one value spells no other, and values stand one after the other.
use Rattle.std.proofs.Common.{◌≡◌, ◌≢◌, ℕ, ◌+◌, ◌≤◌, ◌<◌, ◌==◌, true, false, ℤ, pos, List, [], ◌∷◌, ◌++◌, length, take, drop, map, Some, None, ◌⊎◌, inl, inr, refl, sym, ap, subst, ◌∙◌, append_assoc, length-append, arith}
use Rattle.std.proofs.lemmas.Bool.{eqb-true}
use Rattle.std.proofs.lemmas.List.{nil_from_length, append-nil, append_cancel_left, take_at, drop_at, take-append-drop, take-take, length-take, length-drop}
use Rattle.std.specs.List.{flat_map, AllByRecursion}
use Rattle.db_format.specs.declared.value.Value.{Value}
use Rattle.db_format.specs.Varint.{IsVarint}
use Rattle.db_format.specs.Record.{content_size, value_of, Field, IsField, AreFields, HasParts, IsRecord, OneRecord}
use Rattle.db_format.specs.Reading.{NoCount, Begins, NoValue}
use Rattle.db_format.proofs.VarintLemmas.{varints_agree}

-- bytes cut at one length have one front and one rest
pub same_cut : (a b x y : List ℕ) → length a ≡ length b → a ++ x ≡ b ++ y → (a ≡ b) × (x ≡ y)
same_cut a b x y len e = (
  sym (take_at a x (length a) refl) ∙ ap (take (length a)) e ∙ take_at b y (length a) (sym len),
  sym (drop_at a x (length a) refl) ∙ ap (drop (length a)) e ∙ drop_at b y (length a) (sym len),
)

-- bytes that begin with a varint begin with no other
pub record SameCount (a b : List ℕ) (m n : ℕ) (x y : List ℕ) : Type 0 where
  pub spelling : a ≡ b
  pub number : m ≡ n
  pub rest : x ≡ y

pub counts_agree : (a b x y : List ℕ) (m n : ℕ) → IsVarint a (pos m) → IsVarint b (pos n) → a ++ x ≡ b ++ y → SameCount a b m n x y
counts_agree a b x y m n v w e =
    let same = varints_agree a b x y (pos m) (pos n) v w e in
    record {
      spelling = same.0;
      number = let signs = same.1 in cc;
      rest = append_cancel_left a x y (e ∙ ap (λ (s : List ℕ). s ++ y) (sym same.0));
    }

-- a spelling has a byte
pub varint_some : (bytes : List ℕ) (n : ℕ) → IsVarint bytes (pos n) → 1 ≤ length bytes
varint_some bytes n v = omega (arith, ap (λ (bs : List ℕ). length bs) v.parts, length-append v.front (v.last ∷ []))

-- ---- one value in front of the others

pub record SameBegin (serial serial' : ℕ) (content content' types types' contents contents' : List ℕ) : Type 0 where
  pub serial_is : serial ≡ serial'
  pub content_is : content ≡ content'
  pub types_are : types ≡ types'
  pub contents_are : contents ≡ contents'

some_is : (m n : ℕ) → Some m ≡ Some n → m ≡ n
some_is m n e = cc

pub begins_agree : (types contents : List ℕ) (s s' : ℕ) (k k' t t' c c' : List ℕ) → Begins types contents s k t c → Begins types contents s' k' t' c'
    → SameBegin s s' k k' t t' c c'
begins_agree types contents s s' k k' t t' c c' p q =
    let count = counts_agree p.spelling q.spelling t t' s s' p.spelled q.spelled (sym p.types_are ∙ q.types_are) in
    let size : length k ≡ length k' = some_is (length k) (length k') (sym p.sized ∙ ap content_size count.number ∙ q.sized) in
    let cut = same_cut k k' c c' size (sym p.contents_are ∙ q.contents_are) in
    record { serial_is = count.number; content_is = cut.0; types_are = count.rest; contents_are = cut.1 }

-- a value in front of others
pub fields_more : (types contents : List ℕ) (s : ℕ) (k t c : List ℕ) (vs : List Value) → Begins types contents s k t c → AreFields t c vs
    → AreFields types contents (value_of s k ∷ vs)
fields_more types contents s k t c vs p h =
    let f : Field = record { spelling = p.spelling; serial = s; content = k; value = value_of s k } in
    record {
      fields = f ∷ h.fields;
      each = (record { spelled = p.spelled; stands = record { sized = p.sized; meant = refl } }, h.each);
      types_are = p.types_are ∙ ap (λ (x : List ℕ). p.spelling ++ x) h.types_are;
      contents_are = p.contents_are ∙ ap (λ (x : List ℕ). k ++ x) h.contents_are;
      values_are = ap (λ (x : List Value). value_of s k ∷ x) h.values_are;
    }

-- the first of values
pub record HasFirst (types contents : List ℕ) (values : List Value) : Type 0 where
  pub serial : ℕ
  pub content : List ℕ
  pub more_types : List ℕ
  pub more_contents : List ℕ
  pub more : List Value
  pub begins : Begins types contents serial content more_types more_contents
  pub values_are : values ≡ value_of serial content ∷ more
  pub others : AreFields more_types more_contents more

first_of_fields : (types contents : List ℕ) (values : List Value) (fields : List Field) → AllByRecursion IsField fields → types ≡ flat_map (λ f. f.spelling) fields
    → contents ≡ flat_map (λ f. f.content) fields → values ≡ map (λ f. f.value) fields → types ≢ [] → HasFirst types contents values
first_of_fields types contents values [] each t c v some = absurd (some t)
first_of_fields types contents values (f ∷ fs) each t c v some = record {
  serial = f.serial;
  content = f.content;
  more_types = flat_map (λ f. f.spelling) fs;
  more_contents = flat_map (λ f. f.content) fs;
  more = map (λ f. f.value) fs;
  begins = record { spelling = f.spelling; spelled = each.0.spelled; sized = each.0.stands.sized; types_are = t; contents_are = c };
  values_are = v ∙ ap (λ (x : Value). x ∷ map (λ f. f.value) fs) (sym each.0.stands.meant);
  others = record { fields = fs; each = each.1; types_are = refl; contents_are = refl; values_are = refl };
}

pub has_first : (types contents : List ℕ) (values : List Value) → AreFields types contents values → types ≢ [] → HasFirst types contents values
has_first types contents values h some = first_of_fields types contents values h.fields h.each h.types_are h.contents_are h.values_are some

-- no serial types are those of no values
pub record IsNone (contents : List ℕ) (values : List Value) : Type 0 where
  pub contents_are : contents ≡ []
  pub values_are : values ≡ []

none_of_fields : (types contents : List ℕ) (values : List Value) (fields : List Field) → AllByRecursion IsField fields → types ≡ flat_map (λ f. f.spelling) fields
    → contents ≡ flat_map (λ f. f.content) fields → values ≡ map (λ f. f.value) fields → types ≡ [] → IsNone contents values
none_of_fields types contents values [] each t c v none = record { contents_are = c; values_are = v }
none_of_fields types contents values (f ∷ fs) each t c v none =
    let some = varint_some f.spelling f.serial each.0.spelled in
    absurd (omega (arith, ap (λ (x : List ℕ). length x) (sym none ∙ t), length-append f.spelling (flat_map (λ f. f.spelling) fs)))

pub has_none : (types contents : List ℕ) (values : List Value) → AreFields types contents values → types ≡ [] → IsNone contents values
has_none types contents values h none = none_of_fields types contents values h.fields h.each h.types_are h.contents_are h.values_are none

-- ---- counts

-- where a front of the bytes spells a negative number, none spells another
pub no_count : (bytes : List ℕ) (len : ℕ) (value : ℤ) → IsVarint (take len bytes) value → ((n : ℕ) → value ≡ pos n → ⊥) → NoCount bytes
no_count bytes len value v negative len' n w =
    negative n (varints_agree (take len bytes) (take len' bytes) (drop len bytes) (drop len' bytes) value (pos n) v w (take-append-drop len bytes ∙ sym (take-append-drop len' bytes))).1

-- the front of bytes that begin with a varint
front_of : (bytes a x : List ℕ) (n : ℕ) → IsVarint a (pos n) → bytes ≡ a ++ x → IsVarint (take (length a) bytes) (pos n)
front_of bytes a x n v e = subst (λ (bs : List ℕ). IsVarint bs (pos n)) (sym (ap (take (length a)) e ∙ take_at a x (length a) refl)) v

pub no_value_by_count : (types contents : List ℕ) → NoCount types → NoValue types contents
no_value_by_count types contents none s k t c p = none (length p.spelling) s (front_of types p.spelling t s p.spelled p.types_are)

-- the count that was read is that of the first value
same_serial : (types contents : List ℕ) (len s s' : ℕ) (k t c : List ℕ) → IsVarint (take len types) (pos s) → Begins types contents s' k t c → s ≡ s'
same_serial types contents len s s' k t c v p =
    (counts_agree (take len types) p.spelling (drop len types) t s s' v p.spelled (take-append-drop len types ∙ p.types_are)).number

pub no_value_by_type : (types contents : List ℕ) (len s : ℕ) → IsVarint (take len types) (pos s) → content_size s ≡ None → NoValue types contents
no_value_by_type types contents len s v none s' k t c p =
    let same = same_serial types contents len s s' k t c v p in
    let sized : content_size s ≡ Some (length k) = ap content_size same ∙ p.sized in
    cc

pub no_value_by_size : (types contents : List ℕ) (len s size : ℕ) → IsVarint (take len types) (pos s) → content_size s ≡ Some size → length contents < size → NoValue types contents
no_value_by_size types contents len s size v is short s' k t c p =
    let same = same_serial types contents len s s' k t c v p in
    let sized : size ≡ length k = some_is size (length k) (sym is ∙ ap content_size same ∙ p.sized) in
    omega (arith, ap (λ (x : List ℕ). length x) p.contents_are, length-append k c)

-- ---- the header

pub no_parts_by_count : (payload types contents : List ℕ) → NoCount payload → HasParts payload types contents → ⊥
no_parts_by_count payload types contents none h =
    none (length h.size) (length h.size + length types) (front_of payload h.size (types ++ contents) (length h.size + length types) h.sized (h.joined ∙ append_assoc h.size types contents))

-- what was read of a header is what it has
pub same_header : (payload types contents : List ℕ) (len size : ℕ) → IsVarint (take len payload) (pos size) → (h : HasParts payload types contents)
    → SameCount (take len payload) h.size size (length h.size + length types) (drop len payload) (types ++ contents)
same_header payload types contents len size v h =
    counts_agree (take len payload) h.size (drop len payload) (types ++ contents) size (length h.size + length types) v h.sized
    (take-append-drop len payload ∙ h.joined ∙ append_assoc h.size types contents)

pub no_parts_by_size : (payload types contents : List ℕ) (len size : ℕ) → IsVarint (take len payload) (pos size) → len ≤ length payload
    → ((size < len) ⊎ (length payload < size)) → HasParts payload types contents → ⊥
no_parts_by_size payload types contents len size v within bad h =
    let same = same_header payload types contents len size v h in
    let front = ap (λ (x : List ℕ). length x) same.spelling in
    let whole = ap (λ (x : List ℕ). length x) (h.joined ∙ append_assoc h.size types contents) in
    let a = length-append h.size (types ++ contents) in
    let b = length-append types contents in
    elim bad [ inl less ↦ omega (arith, same.number, length-take len payload) | inr more ↦ omega (arith, same.number) ]

pub parts_read : (payload : List ℕ) (len size : ℕ) → IsVarint (take len payload) (pos size) → len ≤ size → size ≤ length payload
    → HasParts payload (drop len (take size payload)) (drop size payload)
parts_read payload len size v counted within =
    let front : take len (take size payload) ≡ take len payload = take-take len size payload counted in
    let total : length (take len payload) + length (drop len (take size payload)) ≡ size =
    omega (arith, length-take len payload, length-drop len (take size payload), length-take size payload) in
    record {
      size = take len payload;
      sized = subst (λ (n : ℕ). IsVarint (take len payload) (pos n)) (sym total) v;
      joined = sym (ap (λ (x : List ℕ). x ++ drop len (take size payload) ++ drop size payload) (sym front)
          ∙ ap (λ (x : List ℕ). x ++ drop size payload) (take-append-drop len (take size payload)) ∙ take-append-drop size payload);
    }

-- ---- one value after the other

begins_some : (types contents : List ℕ) (s : ℕ) (k t c : List ℕ) → Begins types contents s k t c → types ≢ []
begins_some types contents s k t c p none =
    omega (arith, ap (λ (x : List ℕ). length x) (sym none ∙ p.types_are), length-append p.spelling t, varint_some p.spelling s p.spelled)

-- the values of what is left
pub record Rest (values all : List Value) (types_left contents_left : List ℕ) : Type 0 where
  pub more : List Value
  pub all_are : all ≡ values ++ more
  pub fields : AreFields types_left contents_left more

-- these values were read, and what is left spells the others
pub record Reads (types contents : List ℕ) (values : List Value) (types_left contents_left : List ℕ) : Type 0 where
  pub back : (more : List Value) → AreFields types_left contents_left more → AreFields types contents (values ++ more)
  pub only : (all : List Value) → AreFields types contents all → Rest values all types_left contents_left

pub reads_none : (types contents : List ℕ) → Reads types contents [] types contents
reads_none types contents = record {
  back = λ more h. h;
  only = λ all h. record { more = all; all_are = refl; fields = h };
}

rest_more : (values all : List Value) (types contents : List ℕ) (s : ℕ) (k t c : List ℕ) → Begins types contents s k t c → Rest values all types contents
    → Rest (values ++ value_of s k ∷ []) all t c
rest_more values all types contents s k t c p r =
    let first = has_first types contents r.more r.fields (begins_some types contents s k t c p) in
    let same = begins_agree types contents s first.serial k first.content t first.more_types c first.more_contents p first.begins in
    let value : value_of first.serial first.content ≡ value_of s k = ap (λ (n : ℕ). value_of n first.content) (sym same.serial_is) ∙ ap (value_of s) (sym same.content_is) in
    record {
      more = first.more;
      all_are = r.all_are ∙ ap (λ (x : List Value). values ++ x) (first.values_are ∙ ap (λ (x : Value). x ∷ first.more) value) ∙ sym (append_assoc values (value_of s k ∷ []) first.more);
      fields = subst (λ (x : List ℕ). AreFields x c first.more) (sym same.types_are) (subst (λ (x : List ℕ). AreFields first.more_types x first.more) (sym same.contents_are) first.others);
    }

pub reads_more : (types contents : List ℕ) (values : List Value) (types_left contents_left : List ℕ) (s : ℕ) (k t c : List ℕ) → Begins types_left contents_left s k t c
    → Reads types contents values types_left contents_left → Reads types contents (values ++ value_of s k ∷ []) t c
reads_more types contents values types_left contents_left s k t c p r = record {
  back = λ more h. subst (AreFields types contents) (sym (append_assoc values (value_of s k ∷ []) more)) (r.back (value_of s k ∷ more) (fields_more types_left contents_left s k t c more p h));
  only = λ all h. rest_more values all types_left contents_left s k t c p (r.only all h);
}

pub reads_all : (types contents : List ℕ) (values : List Value) (types_left contents_left : List ℕ) → Reads types contents values types_left contents_left
    → types_left ≡ [] → contents_left ≡ [] → AreFields types contents values
reads_all types contents values types_left contents_left r t c =
    let none : AreFields types_left contents_left [] = record { fields = []; each = tt; types_are = t; contents_are = c; values_are = refl } in
    subst (AreFields types contents) (append-nil values) (r.back [] none)

pub reads_no_value : (types contents : List ℕ) (values : List Value) (types_left contents_left : List ℕ) → Reads types contents values types_left contents_left
    → types_left ≢ [] → NoValue types_left contents_left → (all : List Value) → AreFields types contents all → ⊥
reads_no_value types contents values types_left contents_left r some none all h =
    let rest = r.only all h in
    let first = has_first types_left contents_left rest.more rest.fields some in
    none first.serial first.content first.more_types first.more_contents first.begins

pub reads_too_much : (types contents : List ℕ) (values : List Value) (types_left contents_left : List ℕ) → Reads types contents values types_left contents_left
    → types_left ≡ [] → contents_left ≢ [] → (all : List Value) → AreFields types contents all → ⊥
reads_too_much types contents values types_left contents_left r none some all h =
    let rest = r.only all h in
    some (has_none types_left contents_left rest.more rest.fields none).contents_are

pub not_empty : (xs : List ℕ) → false ≡ (length xs == 0) → xs ≢ []
not_empty [] e = absurd cc
not_empty (x ∷ xs) e = λ n. cc

pub empty : (xs : List ℕ) → true ≡ (length xs == 0) → xs ≡ []
empty xs e = nil_from_length xs (eqb-true (length xs) 0 (sym e))

-- ---- the whole record

pub parts_agree : (payload t c t' c' : List ℕ) → HasParts payload t c → HasParts payload t' c' → (t ≡ t') × (c ≡ c')
parts_agree payload t c t' c' h g =
    let same = counts_agree h.size g.size (t ++ c) (t' ++ c') (length h.size + length t) (length g.size + length t') h.sized g.sized
    (sym (h.joined ∙ append_assoc h.size t c) ∙ g.joined ∙ append_assoc g.size t' c') in
    let front = ap (λ (x : List ℕ). length x) same.spelling in
    same_cut t t' c c' (omega (arith, same.number)) same.rest

-- the fields of a record are those of the parts that its payload has
pub fields_of_record : (payload t c : List ℕ) (values : List Value) → HasParts payload t c → IsRecord payload values → AreFields t c values
fields_of_record payload t c values h r =
    let same = parts_agree payload r.types r.contents t c r.parts h in
    subst (λ (x : List ℕ). AreFields x c values) same.0 (subst (λ (x : List ℕ). AreFields r.types x values) same.1 r.fields)

fields_agree : (t c : List ℕ) (vs ws : List Value) (fields : List Field) → AllByRecursion IsField fields → t ≡ flat_map (λ f. f.spelling) fields
    → c ≡ flat_map (λ f. f.content) fields → vs ≡ map (λ f. f.value) fields → AreFields t c ws → vs ≡ ws
fields_agree t c vs ws [] each te ce ve h = ve ∙ sym (has_none t c ws h te).values_are
fields_agree t c vs ws (f ∷ fs) each te ce ve h =
    let begins : Begins t c f.serial f.content (flat_map (λ f. f.spelling) fs) (flat_map (λ f. f.content) fs) =
    record { spelling = f.spelling; spelled = each.0.spelled; sized = each.0.stands.sized; types_are = te; contents_are = ce } in
    let others : Rest [] ws t c = record { more = ws; all_are = refl; fields = h } in
    let rest = rest_more [] ws t c f.serial f.content (flat_map (λ f. f.spelling) fs) (flat_map (λ f. f.content) fs) begins others in
    let more = fields_agree (flat_map (λ f. f.spelling) fs) (flat_map (λ f. f.content) fs) (map (λ f. f.value) fs) rest.more fs each.1 refl refl refl rest.fields in
    ve ∙ ap (λ (x : List Value). f.value ∷ x) more ∙ ap (λ (x : Value). x ∷ rest.more) (sym each.0.stands.meant) ∙ sym rest.all_are

pub records_agree : OneRecord
records_agree payload vs ws r q =
    let h = r.fields in
    fields_agree r.types r.contents vs ws h.fields h.each h.types_are h.contents_are h.values_are
    (fields_of_record payload r.types r.contents ws r.parts q)
