use Rattle.std.proofs.Common.{◌≡◌, ℕ, zero, suc, ◌+◌, ◌-◌, ◌*◌, ◌/◌, ◌%◌, ◌≤◌, ◌<◌, ◌⊎◌, nat_eq, Bool, true, false, not, ◌&&◌, ◌||◌, List, [], ◌∷◌, length, get_or, take, drop, replicate, ◌++◌, length-drop, Option, Some, None, Ok, IsTrue, refl, sym, ap, ◌∙◌, inl, inr, arith}
use Rattle.std.proofs.Math.Nat.{mul-div_cancel_left, mul-mod_right, mul-le-mul}
use Rattle.std.proofs.lemmas.Bool.{le-ltb, eq-eqb}
use Rattle.std.proofs.lemmas.Grind.{common_steps}
use Rattle.std.specs.List.{starts_with}
use lib.Pointwise.{pointwise}
use Rattle.std.proofs.lemmas.List.{ext_get_or, get_or-drop, get_or-append_right, get_or_append_left, get_or-replicate, length-replicate}
use Rattle.db_format.proofs.PutLemmas.{same_number}
use Rattle.db_format.specs.declared.header.Header.{Header}
use Rattle.db_format.specs.declared.header.HeaderFault.{HeaderFault}
use Rattle.db_format.specs.Header.{page_of, is_page_size, title, has_fractions, has_size, is_no_database, is_other_page, is_other_reserve, is_corrupt, fields_of, header_of, ok_unless, Fits, Says, KeepsOthers, is_field, is_among, blank, IsNew, ReadsNew}
use Rattle.byte_base.specs.Numbers.{number_at}
use Rattle.db_format.specs.HeaderSteps.{beginning}
use Rattle.db_format.proofs.HeaderLemmas.{IsAccepted, accepted_none, none_accepted, not_first}

-- the bytes have these fields and all that is the same in every database
pub record IsSound (h : Header) (bytes : List ℕ) : Type 0 where
  pub titled : starts_with nat_eq bytes title ≡ true
  pub write_version : get_or bytes 18 0 ≡ 1
  pub read_version : get_or bytes 19 0 ≡ 1
  pub fractions : has_fractions bytes ≡ true
  pub vacuum : number_at 4 bytes 52 ≡ 0
  pub schema : number_at 4 bytes 44 ≡ 4
  pub encoding : number_at 4 bytes 56 ≡ 1
  pub page_size : page_of bytes ≡ h.page
  pub reserve : get_or bytes 20 0 ≡ h.reserved
  pub change_counter : number_at 4 bytes 24 ≡ h.counter
  pub pages : (number_at 4 bytes 28 ≡ h.size) ⊎ (number_at 4 bytes 28 ≡ 0)
  pub trunk : number_at 4 bytes 32 ≡ h.first_trunk
  pub free : number_at 4 bytes 36 ≡ h.free_pages
  pub schema_cookie : number_at 4 bytes 40 ≡ h.cookie

database_sound : (h : Header) (bytes : List ℕ) (len : ℕ) → IsSound h bytes → 100 ≤ len → is_no_database bytes len ≡ false
unfolding is_no_database
database_sound h bytes len s enough = ap (λ few. few || not (starts_with nat_eq bytes title)) (le-ltb len 100 enough) ∙ ap not s.titled

and-false : (b : Bool) → b && false ≡ false
and-false true = refl
and-false false = refl

sized : (h : Header) (bytes : List ℕ) → IsSound h bytes → IsTrue (is_page_size h.page) → is_page_size (page_of bytes) ≡ true
sized h bytes s is = ap is_page_size s.page_size ∙ is

page_sound : (h : Header) (bytes : List ℕ) (cksum : Option ℕ) → IsSound h bytes → Fits h cksum → is_other_page bytes cksum ≡ false
unfolding is_other_page
page_sound h bytes None s fits = rw (sized h bytes s fits.page_size.power) refl
page_sound h bytes (Some layer) s fits =
    rw (sized h bytes s fits.page_size.power, eq-eqb (page_of bytes) layer (s.page_size ∙ fits.layer.0)) refl

reserve_sound : (h : Header) (bytes : List ℕ) (cksum : Option ℕ) → IsSound h bytes → Fits h cksum → is_other_reserve bytes cksum ≡ false
unfolding is_other_reserve
reserve_sound h bytes None s fits = rw (le-ltb (page_of bytes) (480 + get_or bytes 20 0) (omega (arith, s.page_size, s.reserve, fits.usable))) refl
reserve_sound h bytes (Some layer) s fits =
    rw (le-ltb (page_of bytes) (480 + get_or bytes 20 0) (omega (arith, s.page_size, s.reserve, fits.usable)), eq-eqb (get_or bytes 20 0) 8 (s.reserve ∙ fits.layer.1)) refl

pages_is : (h : Header) (bytes : List ℕ) → IsSound h bytes → 0 < h.page → h.page * h.size / page_of bytes ≡ h.size
pages_is h bytes s some = ap (λ page. h.page * h.size / page) s.page_size ∙ mul-div_cancel_left h.size some

-- the size at 28 is the length in pages, or does not hold
size_agrees : (at_28 at_24 at_92 size : ℕ) → (at_28 ≡ size) ⊎ (at_28 ≡ 0) → (not (nat_eq at_28 0) && nat_eq at_24 at_92) && not (nat_eq at_28 size) ≡ false
size_agrees at_28 at_24 at_92 size (inl same) = rw (eq-eqb at_28 size same) (and-false _)
size_agrees at_28 at_24 at_92 size (inr none) = rw (eq-eqb at_28 0 none) refl

size_sound : (h : Header) (bytes : List ℕ) → IsSound h bytes → 0 < h.page → is_corrupt bytes (h.page * h.size) ≡ false
unfolding is_corrupt has_size
size_sound h bytes s some =
    let whole : h.page * h.size % page_of bytes ≡ 0 = ap (λ page. h.page * h.size % page) s.page_size ∙ mul-mod_right h.page h.size in
    rw (s.fractions, whole, pages_is h bytes s some) (size_agrees _ _ _ h.size s.pages)

fields_sound : (h : Header) (bytes : List ℕ) → IsSound h bytes → 0 < h.page → fields_of bytes (h.page * h.size) ≡ h
fields_sound h bytes s some = λ i. record {
  page = s.page_size i;
  reserved = s.reserve i;
  counter = s.change_counter i;
  size = pages_is h bytes s some i;
  first_trunk = s.trunk i;
  free_pages = s.free i;
  cookie = s.schema_cookie i;
}

-- such bytes are read as the header
pub reads_sound : (h : Header) (bytes : List ℕ) (cksum : Option ℕ) → IsSound h bytes → Fits h cksum → header_of bytes (h.page * h.size) cksum ≡ Ok h
reads_sound h bytes cksum s fits =
    let enough : 100 ≤ h.page * h.size = omega (arith, mul-le-mul fits.page_size.least fits.some) in
    let accepted : IsAccepted bytes (h.page * h.size) cksum = record {
      database = database_sound h bytes _ s enough;
      page = page_sound h bytes cksum s fits;
      write_version = rw s.write_version refl;
      read_version = rw s.read_version refl;
      reserve = reserve_sound h bytes cksum s fits;
      schema = rw s.schema refl;
      vacuum = rw s.vacuum refl;
      encoding = rw s.encoding refl;
      small = le-ltb _ _ fits.small;
      sound = size_sound h bytes s (omega arith);
    } in
    ap (λ fault. ok_unless fault (fields_of bytes (h.page * h.size))) (accepted_none bytes _ cksum accepted)
    ∙ ap Ok (fields_sound h bytes s (omega arith))

-- what a test that failed says
is_that : (n m : ℕ) → not (nat_eq n m) ≡ false → n ≡ m
is_that n m not_other = grind (arith, not_other)

not_neither : (a b : Bool) → a || not b ≡ false → b ≡ true
not_neither true b none = cc
not_neither false true none = refl
not_neither false false none = cc

-- the places before the fields, and between them
front_kept : (place : ℕ) → place < 16 → is_field place ≡ false
unfolding is_field
front_kept place low = grind (arith, common_steps)

middle_kept : (place : ℕ) → 48 ≤ place → place < 56 → is_field place ≡ false
unfolding is_field
middle_kept place low high = grind (arith, common_steps)

same_front : (n : ℕ) (xs ys : List ℕ) → length xs ≡ length ys → ((k : ℕ) → k < n → get_or xs k 0 ≡ get_or ys k 0) → take n xs ≡ take n ys
same_front zero xs ys size same = refl
same_front (suc n) [] [] size same = refl
same_front (suc n) [] (y ∷ ys) size same = absurd (omega arith)
same_front (suc n) (x ∷ xs) [] size same = absurd (omega arith)
same_front (suc n) (x ∷ xs) (y ∷ ys) size same =
    let head : x ≡ y = same 0 (omega arith) in
    let tail : take n xs ≡ take n ys = same_front n xs ys (omega arith) (λ k within. same (suc k) (omega arith)) in
    λ i. head i ∷ tail i

-- a database whose header was written over is one with the new header
pub kept_sound : (h : Header) (old new : List ℕ) (len : ℕ) (cksum : Option ℕ) → KeepsOthers old new → Says h new → IsAccepted old len cksum → IsSound h new
unfolding is_no_database is_corrupt has_fractions is_field
kept_sound h old new len cksum kept said was =
    let front : take 16 new ≡ take 16 old = same_front 16 new old kept.size (λ k low. kept.others k (front_kept k low)) in
    let fractions : has_fractions old ≡ true = not_first _ _ was.sound in
    record {
      titled = ap (pointwise nat_eq title) front ∙ not_neither _ _ was.database;
      write_version = kept.others 18 refl ∙ is_that _ _ was.write_version;
      read_version = kept.others 19 refl ∙ is_that _ _ was.read_version;
      fractions = rw (kept.others 21 refl, kept.others 22 refl, kept.others 23 refl) fractions;
      vacuum = same_number 4 52 new old (λ k low high. kept.others k (middle_kept k (omega arith) (omega arith))) ∙ is_that _ _ was.vacuum;
      schema = said.schema_format;
      encoding = said.encoding;
      page_size = said.page_size;
      reserve = said.reserve;
      change_counter = said.change_counter;
      pages = inl said.pages;
      trunk = said.trunk;
      free = said.free;
      schema_cookie = said.schema_cookie;
    }

unless_ok : (fault : Option HeaderFault) (h was : Header) → ok_unless fault h ≡ Ok was → fault ≡ None
unless_ok None h was read = refl
unless_ok (Some fault) h was read = cc

-- what is read as a header was not refused
pub was_accepted : (bytes : List ℕ) (len : ℕ) (cksum : Option ℕ) (h : Header) → header_of bytes len cksum ≡ Ok h → IsAccepted bytes len cksum
was_accepted bytes len cksum h read = none_accepted bytes len cksum (unless_ok _ _ h read)

same_behind : (n : ℕ) (xs ys : List ℕ) → length xs ≡ length ys → ((k : ℕ) → n ≤ k → get_or xs k 0 ≡ get_or ys k 0) → drop n xs ≡ drop n ys
same_behind n xs ys size same =
    ext_get_or 0 (drop n xs) (drop n ys) (length-drop n xs ∙ ap (λ m. m - n) size ∙ sym (length-drop n ys))
    (λ k within. get_or-drop n xs k 0 ∙ same (n + k) (omega arith) ∙ sym (get_or-drop n ys k 0))

-- all behind the header is kept
behind_kept : (place : ℕ) → 100 ≤ place → is_field place ≡ false
unfolding is_field
behind_kept place high = grind (arith, common_steps)

pub rest_kept : (old begun new : List ℕ) → begun ≡ beginning ++ (replicate 76 0 ++ drop 100 old) → KeepsOthers begun new → drop 100 new ≡ drop 100 old
rest_kept old begun new begun_is kept =
    same_behind 100 new begun kept.size (λ k high. kept.others k (behind_kept k high)) ∙ ap (drop 100) begun_is

-- the zeros that were laid down, and no field was put there
begun_zero : (rest : List ℕ) (place : ℕ) → 24 ≤ place → place < 100 → get_or (beginning ++ (replicate 76 0 ++ rest)) place 0 ≡ 0
begun_zero rest place low high =
    get_or-append_right beginning (replicate 76 0 ++ rest) 24 place 0 refl low
    ∙ get_or_append_left (replicate 76 0) rest 0 (place - 24) (omega (arith, length-replicate {A = ℕ} 76 0))
    ∙ get_or-replicate 76 (place - 24) 0 0 (omega arith)

zero_place : (place : ℕ) → is_among 48 8 place || is_among 60 32 place ≡ true → (24 ≤ place) × (place < 100) × (is_field place ≡ false)
unfolding is_field
zero_place place is_zero = (grind (arith, common_steps), grind (arith, common_steps), grind (arith, common_steps))

pub new_made : (page reserved : ℕ) (old begun new : List ℕ) → begun ≡ beginning ++ (replicate 76 0 ++ drop 100 old) → KeepsOthers begun new
    → Says (blank page reserved) new → IsNew page reserved new
unfolding is_field has_fractions
new_made page reserved old begun new begun_is kept said =
    let front : take 16 new ≡ take 16 begun = same_front 16 new begun kept.size (λ k low. kept.others k (front_kept k low)) in
    record {
      titled = ap (pointwise nat_eq title) (front ∙ ap (take 16) begun_is);
      versions = (kept.others 18 refl ∙ ap (λ xs. get_or xs 18 0) begun_is, kept.others 19 refl ∙ ap (λ xs. get_or xs 19 0) begun_is);
      fractions = rw (kept.others 21 refl, kept.others 22 refl, kept.others 23 refl, begun_is) refl;
      fields = said;
      zeros = λ place is_zero. let where_is = zero_place place is_zero in
          kept.others place where_is.2 ∙ ap (λ xs. get_or xs place 0) begun_is ∙ begun_zero (drop 100 old) place where_is.0 where_is.1;
    }

vacuum_zero : (bytes : List ℕ) → ((place : ℕ) → is_among 48 8 place || is_among 60 32 place ≡ true → get_or bytes place 0 ≡ 0) → number_at 4 bytes 52 ≡ 0
unfolding number_at
vacuum_zero bytes zeros = rw (get_or-drop 52 bytes 0 0, get_or-drop 52 bytes 1 0, get_or-drop 52 bytes 2 0, get_or-drop 52 bytes 3 0, zeros 52 refl, zeros 53 refl, zeros 54 refl, zeros 55 refl) refl

-- a new header is read back, whatever the size of its file
pub new_read : (page reserved : ℕ) (new : List ℕ) → IsNew page reserved new → ReadsNew page reserved new
new_read page reserved new made = record {
  read = λ size cksum fits.
      let header : Header = record (blank page reserved) { size = size } in
      let sound : IsSound header new = record {
        titled = made.titled;
        write_version = made.versions.0;
        read_version = made.versions.1;
        fractions = made.fractions;
        vacuum = vacuum_zero new made.zeros;
        schema = made.fields.schema_format;
        encoding = made.fields.encoding;
        page_size = made.fields.page_size;
        reserve = made.fields.reserve;
        change_counter = made.fields.change_counter;
        pages = inr made.fields.pages;
        trunk = made.fields.trunk;
        free = made.fields.free;
        schema_cookie = made.fields.schema_cookie;
      } in
      reads_sound header new cksum sound fits;
}
