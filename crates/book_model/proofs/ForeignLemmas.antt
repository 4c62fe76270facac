-- The names of the tables that are not plain.
use Rattle.std.proofs.Common.{◌≡◌, ℕ, zero, suc, ◌<◌, List, [], ◌∷◌, ◌++◌, length, filter, codes, Option, Some, None, Bool, true, false, not, cond, ◌||◌, refl, sym, ap, subst, ◌∙◌, arith}
use Rattle.std.proofs.lemmas.Slice.Eq.{bytes_eq-Decides}
use Rattle.std.specs.Prelude.{bytes_eq, slice_index_or}
use Rattle.std.specs.List.{list_any, Contains, AllByRecursion, AllZip, IsDistinct}
use Rattle.std.specs.Str.{str_eq_ignore_ascii_case, str_to_ascii_lowercase}
use Rattle.db_format.specs.Schema.{Table as Found, IsTableOf, IsPlainRow}
use Rattle.db_format.specs.declared.value.Value.{Value}
use Rattle.db_format.specs.declared.value.Value.TheVariants.{Null, Int, Text, Blob, Real}
use Rattle.book_model.specs.Book.{Name}
use Rattle.book_model.specs.Pages.{table_named, foreign_in, once}
use Rattle.book_model.specs.Laws.{IsForeignRow, HasForeignRow, ForeignNames}

-- ---- each name once

all_kept : {X : Type 0} (P : X → Type 0) (test : X → Bool) (xs : List X) → AllByRecursion P xs → AllByRecursion P (filter test xs)
all_kept P test [] all = tt
all_kept P test (x ∷ xs) all = by (test x) (all_kept P test xs all.1)
  where
    by : (b : Bool) → AllByRecursion P (filter test xs) → AllByRecursion P (cond b (x ∷ filter test xs) (filter test xs))
    by true rest = (all.0, rest)
    by false rest = rest

distinct_kept : (same : Name → Name → Bool) (test : Name → Bool) (xs : List Name) → IsDistinct same xs → IsDistinct same (filter test xs)
unfolding IsDistinct
distinct_kept same test [] all = tt
distinct_kept same test (x ∷ xs) all = by (test x) (distinct_kept same test xs all.1)
  where
    by : (b : Bool) → IsDistinct same (filter test xs) → IsDistinct same (cond b (x ∷ filter test xs) (filter test xs))
    by true rest = (all_kept (λ y. same x y ≡ false) test xs all.0, rest)
    by false rest = rest

-- a list without the names that are alike to one
abbrev without : Name → List Name → List Name
without name xs = filter (λ other. not (str_eq_ignore_ascii_case name other)) xs

others_differ : (name : Name) (xs : List Name) → AllByRecursion (λ y. str_eq_ignore_ascii_case name y ≡ false) (without name xs)
others_differ name [] = tt
others_differ name (x ∷ xs) = by (str_eq_ignore_ascii_case name x) refl (others_differ name xs)
  where
    by : (b : Bool) → str_eq_ignore_ascii_case name x ≡ b → AllByRecursion (λ y. str_eq_ignore_ascii_case name y ≡ false) (without name xs) →
        AllByRecursion (λ y. str_eq_ignore_ascii_case name y ≡ false) (cond (not b) (x ∷ without name xs) (without name xs))
    by true e rest = rest
    by false e rest = (e, rest)

once_differ : (xs : List Name) → IsDistinct str_eq_ignore_ascii_case (once xs)
unfolding IsDistinct
once_differ [] = tt
once_differ (name ∷ more) =
    (others_differ name (once more), distinct_kept str_eq_ignore_ascii_case (λ other. not (str_eq_ignore_ascii_case name other)) (once more) (once_differ more))

once_all : (P : Name → Type 0) (xs : List Name) → AllByRecursion P xs → AllByRecursion P (once xs)
once_all P [] all = tt
once_all P (name ∷ more) all = (all.0, all_kept P (λ other. not (str_eq_ignore_ascii_case name other)) (once more) (once_all P more all.1))

-- a name is alike to both of two that are alike, or to none
alike_both : (name x y : Name) → str_eq_ignore_ascii_case x y ≡ true → str_eq_ignore_ascii_case name y ≡ str_eq_ignore_ascii_case name x
alike_both name x y same = ap (bytes_eq (str_to_ascii_lowercase name)) (sym ((bytes_eq-Decides (str_to_ascii_lowercase x) (str_to_ascii_lowercase y)).0 same))

any_kept : (name x : Name) (xs : List Name) → str_eq_ignore_ascii_case name x ≡ false → list_any (str_eq_ignore_ascii_case name) (without x xs) ≡ list_any (str_eq_ignore_ascii_case name) xs
any_kept name x [] differs = refl
any_kept name x (y ∷ ys) differs = by (str_eq_ignore_ascii_case x y) refl (any_kept name x ys differs)
  where
    by : (b : Bool) → str_eq_ignore_ascii_case x y ≡ b → list_any (str_eq_ignore_ascii_case name) (without x ys) ≡ list_any (str_eq_ignore_ascii_case name) ys →
        list_any (str_eq_ignore_ascii_case name) (cond (not b) (y ∷ without x ys) (without x ys)) ≡ (str_eq_ignore_ascii_case name y || list_any (str_eq_ignore_ascii_case name) ys)
    by true e rest = rest ∙ ap (λ (b : Bool). b || list_any (str_eq_ignore_ascii_case name) ys) (sym (alike_both name x y e ∙ differs))
    by false e rest = ap (λ (b : Bool). str_eq_ignore_ascii_case name y || b) rest

once_any : (name : Name) (xs : List Name) → list_any (str_eq_ignore_ascii_case name) (once xs) ≡ list_any (str_eq_ignore_ascii_case name) xs
once_any name [] = refl
once_any name (x ∷ xs) = by (str_eq_ignore_ascii_case name x) refl (once_any name xs)
  where
    by : (b : Bool) → str_eq_ignore_ascii_case name x ≡ b → list_any (str_eq_ignore_ascii_case name) (once xs) ≡ list_any (str_eq_ignore_ascii_case name) xs →
        (b || list_any (str_eq_ignore_ascii_case name) (without x (once xs))) ≡ (b || list_any (str_eq_ignore_ascii_case name) xs)
    by true e rest = refl
    by false e rest = any_kept name x (once xs) e ∙ rest

-- ---- the rows that they are the names of

all_joined : {X : Type 0} (P : X → Type 0) (xs ys : List X) → AllByRecursion P xs → AllByRecursion P ys → AllByRecursion P (xs ++ ys)
all_joined P [] ys a b = b
all_joined P (x ∷ xs) ys a b = (a.0, all_joined P xs ys a.1 b)

contains_more : (x y : List Value) (xs : List (List Value)) → Contains xs y → Contains (x ∷ xs) y
contains_more x y xs has = (suc has.0, omega (arith, has.1), has.2)

named_by : (size : ℕ) (schema : List (List Value)) (values : List Value) → Contains schema values → ((table : Found) → ¬ (IsPlainRow size schema values table)) →
    AllByRecursion (HasForeignRow size schema) (table_named values)
named_by size schema [] among none = tt
named_by size schema (Null ∷ more) among none = tt
named_by size schema (Int z ∷ more) among none = tt
named_by size schema (Blob b ∷ more) among none = tt
named_by size schema (Real b ∷ more) among none = tt
named_by size schema (Text kind ∷ []) among none = tt
named_by size schema (Text kind ∷ Null ∷ more) among none = tt
named_by size schema (Text kind ∷ Int z ∷ more) among none = tt
named_by size schema (Text kind ∷ Blob b ∷ more) among none = tt
named_by size schema (Text kind ∷ Real b ∷ more) among none = tt
named_by size schema (Text kind ∷ Text name ∷ more) among none = by (bytes_eq kind (codes "table")) refl
  where
    by : (b : Bool) → bytes_eq kind (codes "table") ≡ b → AllByRecursion (HasForeignRow size schema) (cond b (name ∷ []) [])
    by true e = (
      record {
        values = Text kind ∷ Text name ∷ more;
        among = among;
        is = record { more = more; values_are = ap (λ (k : List ℕ). Text k ∷ Text name ∷ more) ((bytes_eq-Decides kind (codes "table")).0 e); not_plain = none };
      },
      tt,
    )
    by false e = tt

all_foreign : (size : ℕ) (schema rows : List (List Value)) (found : List (Option Found)) → ((values : List Value) → Contains rows values → Contains schema values) →
    AllZip (IsTableOf size schema) rows found → AllByRecursion (HasForeignRow size schema) (foreign_in rows found)
all_foreign size schema [] [] within plain = tt
all_foreign size schema [] (f ∷ found) within plain = absurd plain
all_foreign size schema (values ∷ rows) [] within plain = absurd plain
all_foreign size schema (values ∷ rows) (None ∷ found) within plain =
    all_joined (HasForeignRow size schema) (table_named values) (foreign_in rows found) (named_by size schema values (within values (0, omega arith, refl)) plain.0)
    (all_foreign size schema rows found (λ v has. within v (contains_more values v rows has)) plain.1)
all_foreign size schema (values ∷ rows) (Some f ∷ found) within plain = all_foreign size schema rows found (λ v has. within v (contains_more values v rows has)) plain.1

-- ---- each such row has its name among them

alike_itself : (name : Name) → str_eq_ignore_ascii_case name name ≡ true
alike_itself name = (bytes_eq-Decides (str_to_ascii_lowercase name) (str_to_ascii_lowercase name)).1 refl

any_front : (test : Name → Bool) (xs ys : List Name) → list_any test xs ≡ true → list_any test (xs ++ ys) ≡ true
any_front test [] ys any = absurd (false_true any)
  where
    false_true : ¬ (false ≡ true)
    false_true e = cc
any_front test (x ∷ xs) ys any = by (test x) any (any_front test xs ys)
  where
    by : (b : Bool) → (b || list_any test xs) ≡ true → (list_any test xs ≡ true → list_any test (xs ++ ys) ≡ true) → (b || list_any test (xs ++ ys)) ≡ true
    by true e rest = refl
    by false e rest = rest e

any_back : (test : Name → Bool) (xs ys : List Name) → list_any test ys ≡ true → list_any test (xs ++ ys) ≡ true
any_back test [] ys any = any
any_back test (x ∷ xs) ys any = ap (λ (b : Bool). test x || b) (any_back test xs ys any) ∙ or_true (test x)
  where
    or_true : (b : Bool) → (b || true) ≡ true
    or_true true = refl
    or_true false = refl

named_in : (size : ℕ) (schema : List (List Value)) (name : Name) (values : List Value) → IsForeignRow size schema name values → list_any (str_eq_ignore_ascii_case name) (table_named values) ≡ true
named_in size schema name values is =
    ap (λ (v : List Value). list_any (str_eq_ignore_ascii_case name) (table_named v)) is.values_are ∙ ap (λ (b : Bool). b || false) (alike_itself name)

some_foreign : (size : ℕ) (schema rows : List (List Value)) (found : List (Option Found)) (name : Name) (values : List Value) (k : ℕ) → k < length rows → slice_index_or rows k values ≡ values →
    AllZip (IsTableOf size schema) rows found → IsForeignRow size schema name values → list_any (str_eq_ignore_ascii_case name) (foreign_in rows found) ≡ true
some_foreign size schema [] found name values k within at plain is = absurd (omega (arith, within))
some_foreign size schema (row ∷ rows) [] name values k within at plain is = absurd plain
some_foreign size schema (row ∷ rows) (None ∷ found) name values zero within at plain is =
    any_front (str_eq_ignore_ascii_case name) (table_named row) (foreign_in rows found)
    (ap (λ (v : List Value). list_any (str_eq_ignore_ascii_case name) (table_named v)) at ∙ named_in size schema name values is)
some_foreign size schema (row ∷ rows) (Some f ∷ found) name values zero within at plain is =
    absurd (is.not_plain f (subst (λ (v : List Value). IsPlainRow size schema v f) at plain.0))
some_foreign size schema (row ∷ rows) (None ∷ found) name values (suc k) within at plain is =
    any_back (str_eq_ignore_ascii_case name) (table_named row) (foreign_in rows found) (some_foreign size schema rows found name values k (omega (arith, within)) at plain.1 is)
some_foreign size schema (row ∷ rows) (Some f ∷ found) name values (suc k) within at plain is =
    some_foreign size schema rows found name values k (omega (arith, within)) at plain.1 is

pub foreign_names : ForeignNames
foreign_names = record {
  differ = λ pages book is. subst (IsDistinct str_eq_ignore_ascii_case) (sym is.foreign_are) (once_differ (foreign_in is.rows is.found));
  each = λ pages book is.
      subst (AllByRecursion (HasForeignRow pages.size is.rows)) (sym is.foreign_are)
      (once_all (HasForeignRow pages.size is.rows) (foreign_in is.rows is.found) (all_foreign pages.size is.rows is.rows is.found (λ values has. has) is.whole.plain));
  every = λ pages book is name has.
      ap (list_any (str_eq_ignore_ascii_case name)) is.foreign_are ∙ once_any name (foreign_in is.rows is.found)
      ∙ some_foreign pages.size is.rows is.rows is.found name has.values has.among.0 has.among.1 has.among.2 is.whole.plain has.is;
}
