-- Names without regard to case, and plain tables that are found by them.
use Rattle.std.proofs.Common.{◌≡◌, ◌≢◌, ℕ, Bool, true, false, cond, not, ◌&&◌, ◌||◌, List, [], ◌∷◌, map, Some, None, Ordering, refl, sym, ap, ap₂, subst, ◌∙◌, arith, true≢false}
use Rattle.std.specs.Prelude.{filter, is_some, All, IsTrue}
use Rattle.std.specs.List.{list_any, AllByRecursion}
use Rattle.std.specs.Char.{to_ascii_lowercase}
use Rattle.std.specs.Str.{bytes_eq, str_eq_ignore_ascii_case, str_to_ascii_lowercase}
use Rattle.std.specs.Ordering.{nat_cmp, eq_by_cmp, is_eq}
use Rattle.std.specs.declared.cmp.Ordering.TheVariants.{Less, Equal, Greater}
use Rattle.std.specs.Cmp.{IsTotalOrder, tied_itself}
use Rattle.std.specs.Cmp.Lexicographic.{slice_cmp}
use Rattle.std.proofs.lemmas.Bool.Decides.{nat_tests}
use Rattle.std.proofs.lemmas.Cmp.{nat_list_cmp_total}
use Rattle.std.proofs.lemmas.List.Elements.{All-head, All-tail}
use Rattle.std.proofs.lemmas.Map.Views.{any-filter_same}
use Rattle.std.proofs.lemmas.Slice.Eq.{bytes_eq-Decides}
use Rattle.std.specs.FinMap as map
use Rattle.std.specs.FinMap.{FinMap, IsAntisymmetric, nat_cmp-IsAntisymmetric, slice_cmp-IsAntisymmetric, entries-insert}
use Rattle.std.specs.FinMap.Entries.{find, put, by_order}
use Rattle.db_format.specs.Create.{IsIdentifier, is_identifier_byte}
use Rattle.db_format.specs.declared.plain.PlainTable.{PlainTable}
use Rattle.book_model.specs.Book.{Name}
use Rattle.book_reads.specs.Reads.{plain_named}

-- ---- names that are alike

pub alike_lower : (a b : Name) → str_eq_ignore_ascii_case a b ≡ true → str_to_ascii_lowercase a ≡ str_to_ascii_lowercase b
alike_lower a b same = (bytes_eq-Decides (str_to_ascii_lowercase a) (str_to_ascii_lowercase b)).0 same

pub alike_itself : (a b : Name) → a ≡ b → str_eq_ignore_ascii_case a b ≡ true
alike_itself a b same = (bytes_eq-Decides (str_to_ascii_lowercase a) (str_to_ascii_lowercase b)).1 (ap str_to_ascii_lowercase same)

byte_stays : (b : ℕ) → IsTrue (is_identifier_byte b) → to_ascii_lowercase b ≡ b
byte_stays b is = grind (arith, nat_tests, is)

bytes_stay : (name : List ℕ) → All (λ b. IsTrue (is_identifier_byte b)) name → map to_ascii_lowercase name ≡ name
bytes_stay [] each = refl
bytes_stay (b ∷ name) each =
    ap₂ (λ (x : ℕ) (xs : List ℕ). x ∷ xs) (byte_stays b (All-head (λ b. IsTrue (is_identifier_byte b)) b name each)) (bytes_stay name (All-tail (λ b. IsTrue (is_identifier_byte b)) b name each))

-- of small letters, they are the same
pub alike_same : (a b : Name) → IsIdentifier a → IsIdentifier b → str_eq_ignore_ascii_case a b ≡ true → a ≡ b
alike_same a b p q same = sym (bytes_stay a p.each) ∙ alike_lower a b same ∙ bytes_stay b q.each

-- a name that no plain table has is left, and every other is not
pub named_beside : (name : Name) (plain names : List Name)
    → list_any (str_eq_ignore_ascii_case name) (filter (λ n. not (list_any (str_eq_ignore_ascii_case n) plain)) names) ≡ (not (list_any (str_eq_ignore_ascii_case name) plain) && list_any (str_eq_ignore_ascii_case name) names)
named_beside name plain names = any-filter_same (str_eq_ignore_ascii_case name) (λ n. not (list_any (str_eq_ignore_ascii_case n) plain)) (not (list_any (str_eq_ignore_ascii_case name) plain)) same names
  where
    same : (n : Name) → str_eq_ignore_ascii_case name n ≡ true → not (list_any (str_eq_ignore_ascii_case n) plain) ≡ not (list_any (str_eq_ignore_ascii_case name) plain)
    same n alike = ap (λ (l : List ℕ). not (list_any (λ (q : Name). bytes_eq l (str_to_ascii_lowercase q)) plain)) (sym (alike_lower name n alike))

-- ---- tables by name

-- the order of names
pub tied_names : (a b : Name) → a ≡ b → eq_by_cmp (slice_cmp nat_cmp) a b ≡ true
tied_names a b same = ap (λ (n : Name). eq_by_cmp (slice_cmp nat_cmp) a n) (sym same) ∙ ap is_eq (tied_itself nat_list_cmp_total a)

pub apart_names : (a b : Name) → a ≢ b → eq_by_cmp (slice_cmp nat_cmp) a b ≡ false
apart_names a b other = by (slice_cmp nat_cmp a b) refl
  where
    by : (o : Ordering) → slice_cmp nat_cmp a b ≡ o → is_eq (slice_cmp nat_cmp a b) ≡ false
    by Less e = ap is_eq e
    by Equal e = absurd (other (slice_cmp-IsAntisymmetric nat_cmp-IsAntisymmetric a b e))
    by Greater e = ap is_eq e

-- what holds of entries holds of those of the map that is made of them
all_put : {K X : Type 0} (R : K → K → Ordering) → IsAntisymmetric R → (P : K × X → Type 0) (key : K) (x : X) (es : List (K × X)) → P (key, x) → AllByRecursion P es → AllByRecursion P (put R key x es)
all_put R same P key x [] here all = (here, tt)
all_put {K} {X} R same P key x (e ∷ es) here all =
    elim (R key e.0) as (λ o. R key e.0 ≡ o → AllByRecursion P (by_order o ((key, x) ∷ e ∷ es) ((e.0, x) ∷ es) (e ∷ put R key x es))) [
      | Less ↦ λ _. (here, all)
      | Equal ↦ λ tie. let Q : K → Type 0 = λ k. P (k, x) in (subst Q (same key e.0 tie) here, all.1)
      | Greater ↦ λ _. (all.0, all_put R same P key x es here all.1)
    ] refl

pub all_entries : {K X : Type 0} (R : K → K → Ordering) → IsTotalOrder R → IsAntisymmetric R → (P : K × X → Type 0) (es : List (K × X)) → map.entries (map.empty {X = X} {R = R}) ≡ [] → AllByRecursion P es
    → AllByRecursion P (map.entries (map.from_entries {R = R} es))
all_entries {K} {X} R total same P [] none all = let Q : List (K × X) → Type 0 = AllByRecursion P in subst Q (sym none) tt
all_entries {K} {X} R total same P (e ∷ es) none all =
    let Q : List (K × X) → Type 0 = AllByRecursion P in
    let made : FinMap R X = map.from_entries es in
    subst Q (sym (entries-insert total made e.0 e.1)) (all_put R same P e.0 e.1 (map.entries made) all.0 (all_entries R total same P es none all.1))

-- an entry is a plain table by its own name, which has small letters
pub record IsKeyed (entry : Name × PlainTable) : Type 0 where
  pub named : entry.0 ≡ entry.1.name
  pub identifier : IsIdentifier entry.0

abbrev pub tables_of : List (Name × PlainTable) → List PlainTable
tables_of es = map (λ e. e.1) es

-- a table that is found by a name stands under its own, and the two are alike
pub record StandsAs (es : List (Name × PlainTable)) (name : Name) (table : PlainTable) : Type 0 where
  pub there : find (slice_cmp nat_cmp) table.name es ≡ Some table
  pub alike : str_eq_ignore_ascii_case name table.name ≡ true
  pub identifier : IsIdentifier table.name

same_Some : (a b : PlainTable) → Some a ≡ Some b → a ≡ b
same_Some a b e = cc

not_Some : {P : Type 0} (a : PlainTable) → None ≡ Some a → P
not_Some a e = absurd cc

pub found_stands : (es : List (Name × PlainTable)) (name : Name) (table : PlainTable) → AllByRecursion IsKeyed es → plain_named (tables_of es) name ≡ Some table → StandsAs es name table
found_stands [] name table all is = not_Some table is
found_stands (e ∷ es) name table all is = by (found_stands es name table all.1) (str_eq_ignore_ascii_case name e.1.name) refl is
  where
    here : str_eq_ignore_ascii_case name e.1.name ≡ true → StandsAs (e ∷ es) name e.1
    here alike = record {
      there = ap (λ b. cond b (Some e.1) (find (slice_cmp nat_cmp) e.1.name es)) (tied_names e.1.name e.0 (sym all.0.named));
      alike = alike;
      identifier = subst IsIdentifier all.0.named all.0.identifier;
    }

    by : (plain_named (tables_of es) name ≡ Some table → StandsAs es name table) → (b : Bool) → str_eq_ignore_ascii_case name e.1.name ≡ b
        → cond b (Some e.1) (plain_named (tables_of es) name) ≡ Some table → StandsAs (e ∷ es) name table
    by later true alike is = subst (StandsAs (e ∷ es) name) (same_Some e.1 table is) (here alike)
    by later false unlike is =
        let rest = later is in
        let other : table.name ≢ e.0 = λ same. true≢false (sym rest.alike ∙ ap (str_eq_ignore_ascii_case name) (same ∙ all.0.named) ∙ unlike) in
        record {
          there = ap (λ b. cond b (Some e.1) (find (slice_cmp nat_cmp) table.name es)) (apart_names table.name e.0 other) ∙ rest.there;
          alike = rest.alike;
          identifier = rest.identifier;
        }

pub none_stands : (es : List (Name × PlainTable)) (name : Name) → AllByRecursion IsKeyed es → plain_named (tables_of es) name ≡ None → find (slice_cmp nat_cmp) name es ≡ None
none_stands [] name all is = refl
none_stands (e ∷ es) name all is = by (none_stands es name all.1) (str_eq_ignore_ascii_case name e.1.name) refl is
  where
    by : (plain_named (tables_of es) name ≡ None → find (slice_cmp nat_cmp) name es ≡ None) → (b : Bool) → str_eq_ignore_ascii_case name e.1.name ≡ b
        → cond b (Some e.1) (plain_named (tables_of es) name) ≡ None → find (slice_cmp nat_cmp) name (e ∷ es) ≡ None
    by later true alike is = not_Some e.1 (sym is)
    by later false unlike is =
        let other : name ≢ e.0 = λ same. true≢false (sym (alike_itself name e.1.name (same ∙ all.0.named)) ∙ unlike) in
        ap (λ b. cond b (Some e.1) (find (slice_cmp nat_cmp) name es)) (apart_names name e.0 other) ∙ later is

-- whether one is found
pub some_named : (plain : List PlainTable) (name : Name) → list_any (str_eq_ignore_ascii_case name) (map (λ table. table.name) plain) ≡ is_some (plain_named plain name)
some_named [] name = refl
some_named (table ∷ plain) name =
    elim (str_eq_ignore_ascii_case name table.name) as (λ b. (b || list_any (str_eq_ignore_ascii_case name) (map (λ table. table.name) plain)) ≡ is_some (cond b (Some table) (plain_named plain name))) [
      | true ↦ refl
      | false ↦ some_named plain name
    ]
