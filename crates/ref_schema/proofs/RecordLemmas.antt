-- Records of rows.
use Rattle.std.proofs.Common.{◌≡◌, ℕ, zero, suc, ◌+◌, ◌≤◌, ◌<◌, ◌↔◌, ℤ, pos, ◌≤ℤ◌, Bool, true, false, IsTrue, List, [], ◌∷◌, ◌++◌, length, take, get_or, not, ◌||◌, codes, refl, sym, ap, subst, ◌∙◌, arith, Some}
use Rattle.std.proofs.lemmas.List.{take_more}
use Rattle.std.specs.List.{AllZip}
use Rattle.db_format.specs.Record.{IsRecord, OneRecord}
use Rattle.db_format.specs.declared.value.Value.{Value}
use Rattle.db_format.specs.declared.value.Value.TheVariants.{Int, Text}
use Rattle.tree_model.specs.Tree.{Row}
use Rattle.db_format.specs.Schema.{IsRecordOf, HasRootWithin}
use Rattle.ref_schema.specs.Steps.{AreRecords, HasKind}

pub zip_push : {A B : Type 0} (R : A → B → Type 0) (xs : List A) (ys : List B) (x : A) (y : B) → AllZip R xs ys → R x y → AllZip R (xs ++ x ∷ []) (ys ++ y ∷ [])
zip_push R [] [] x y all here = (here, tt)
zip_push R [] (b ∷ ys) x y all here = absurd all
zip_push R (a ∷ xs) [] x y all here = absurd all
zip_push R (a ∷ xs) (b ∷ ys) x y all here = (all.0, zip_push R xs ys x y all.1 here)

-- one element more, at the end of those so far
pub next_of : {A : Type 0} (xs : List A) (i : ℕ) (x : A) → i < length xs → x ≡ get_or xs i x → take (i + 1) xs ≡ take i xs ++ x ∷ []
next_of xs i x within is = take_more xs i x within ∙ ap (λ y. take i xs ++ y ∷ []) (sym is)

pub zip_more : {A B : Type 0} (R : A → B → Type 0) (xs : List A) (ys new : List B) (i : ℕ) (x : A) (y : B) → i < length xs → x ≡ get_or xs i x → new ≡ ys ++ y ∷ [] → AllZip R (take i xs) ys → R x y
    → AllZip R (take (i + 1) xs) new
zip_more R xs ys new i x y within is grown all here =
    let P : List _ → Type 0 = λ l. AllZip R l new in
    let Q : List _ → Type 0 = λ l. AllZip R (take i xs ++ x ∷ []) l in
    subst P (sym (next_of xs i x within is)) (subst Q (sym grown) (zip_push R (take i xs) ys x y all here))

-- each element of the first list has one in the second
pub record Partner (A B : Type 0) (R : A → B → Type 0) (x : A) : Type 0 where
  pub other : B
  pub related : R x other

pub partner : {A B : Type 0} (R : A → B → Type 0) (xs : List A) (ys : List B) (i : ℕ) (x : A) → i < length xs → x ≡ get_or xs i x → AllZip R xs ys → Partner A B R x
partner R [] ys i x within is all = absurd (omega (arith, within))
partner R (a ∷ xs) [] i x within is all = absurd all
partner {A} {B} R (a ∷ xs) (b ∷ ys) zero x within is all = let P : A → Type 0 = λ z. R z b in record { other = b; related = subst P (sym is) all.0 }
partner R (a ∷ xs) (b ∷ ys) (suc i) x within is all = partner R xs ys i x (omega (arith, within)) is all.1

pub no_records : (rows : List Row) (i : ℕ) (row : Row) → i < length rows → row ≡ get_or rows i row → ((values : List Value) → ¬ (IsRecord row.payload values)) → (records : List (List Value)) → ¬ (AreRecords rows records)
no_records rows i row within is none records all =
    let p = partner (λ (r : Row) (values : List Value). IsRecord r.payload values) rows records i row within is all in
    none p.other p.related

-- a payload that is one record
pub counted : (payload : List ℕ) (values : List Value) (columns : ℕ) (few : Bool) → OneRecord → IsRecord payload values → IsTrue few ↔ length values ≤ columns → IsTrue few ↔ IsRecordOf columns payload
counted payload values columns few one is test = (
  λ yes. record { values = values; is_record = is; few = test.0 yes },
  λ r. test.1 (let P : List Value → Type 0 = λ vs. length vs ≤ columns in subst P (one payload r.values values r.is_record is) r.few),
)

false_true : ¬ (IsTrue false)
false_true e = cc

pub no_record : (payload : List ℕ) (columns : ℕ) → ((values : List Value) → ¬ (IsRecord payload values)) → IsTrue false ↔ IsRecordOf columns payload
no_record payload columns none = (λ no. absurd (false_true no), λ r. absurd (none r.values r.is_record))

-- five values by their places
pub record Five (values : List Value) (kind : List ℕ) (root : ℤ) : Type 0 where
  pub name : Value
  pub table : Value
  pub text : Value
  pub values_are : values ≡ Text kind ∷ name ∷ table ∷ Int root ∷ text ∷ []

pub five_are : (values : List Value) (kind : List ℕ) (root : ℤ) → HasKind values kind root → Five values kind root
five_are [] kind root has = absurd (omega (arith, has.five))
five_are (a ∷ []) kind root has = absurd (omega (arith, has.five))
five_are (a ∷ b ∷ []) kind root has = absurd (omega (arith, has.five))
five_are (a ∷ b ∷ c ∷ []) kind root has = absurd (omega (arith, has.five))
five_are (a ∷ b ∷ c ∷ d ∷ []) kind root has = absurd (omega (arith, has.five))
five_are (a ∷ b ∷ c ∷ d ∷ e ∷ []) kind root has = record { name = b; table = c; text = e; values_are = made a b c d e kind root has.kind_at has.root_at }
  where
    made : (a b c d e : Value) (kind : List ℕ) (root : ℤ) → Some a ≡ Some (Text kind) → Some d ≡ Some (Int root) → a ∷ b ∷ c ∷ d ∷ e ∷ [] ≡ Text kind ∷ b ∷ c ∷ Int root ∷ e ∷ []
    made a b c d e kind root p q = cc
five_are (a ∷ b ∷ c ∷ d ∷ e ∷ f ∷ more) kind root has = absurd (omega (arith, has.five))

pub kind_of_five : (name table text : Value) (kind : List ℕ) (root : ℤ) (values : List Value) → values ≡ Text kind ∷ name ∷ table ∷ Int root ∷ text ∷ [] → HasKind values kind root
kind_of_five name table text kind root values e =
    let P : List Value → Type 0 = λ vs. HasKind vs kind root in
    subst P (sym e) (record { five = refl; kind_at = refl; root_at = refl })

-- two ways of having five values are one
pub record SameFive (kind kind' : List ℕ) (root root' : ℤ) : Type 0 where
  pub kinds : kind ≡ kind'
  pub roots : root ≡ root'

pub same_five : (values : List Value) (kind kind' : List ℕ) (root root' : ℤ) → HasKind values kind root → HasKind values kind' root' → SameFive kind kind' root root'
same_five values kind kind' root root' a b =
    let k = a.kind_at in let k' = b.kind_at in let r = a.root_at in let r' = b.root_at in
    record { kinds = cc; roots = cc }

pub root_some : (values : List Value) (kind : List ℕ) (root : ℤ) (size : ℕ) (said : Bool) → HasKind values kind root → IsTrue said ↔ (kind ≡ codes "table" → root ≤ℤ pos size) → IsTrue said ↔ HasRootWithin size values
root_some values kind root size said has test =
    let five = five_are values kind root has in (
      λ y. record {
        within = λ name table text other e.
            let same = same_five values kind (codes "table") root other has (kind_of_five name table text (codes "table") other values e) in
            let P : ℤ → Type 0 = λ z. z ≤ℤ pos size in subst P same.roots (test.0 y same.kinds);
      },
      λ w. test.1 (λ is. w.within five.name five.table five.text root
          (let P : List ℕ → Type 0 = λ k. values ≡ Text k ∷ five.name ∷ five.table ∷ Int root ∷ five.text ∷ [] in subst P is five.values_are)),
    )

pub root_none : (values : List Value) (size : ℕ) → ((kind : List ℕ) (root : ℤ) → ¬ (HasKind values kind root)) → IsTrue true ↔ HasRootWithin size values
root_none values size none =
    (λ y. record { within = λ name table text other e. absurd (none (codes "table") other (kind_of_five name table text (codes "table") other values e)) }, λ w. refl)

-- either is no table's, or its root is within
pub either : (a b said : Bool) (A B : Type 0) → IsTrue a ↔ A → IsTrue b ↔ B → said ≡ (not a || b) → IsTrue said ↔ (A → B)
either true b said A B ta tb is = (λ y x. tb.0 (sym is ∙ y), λ f. is ∙ tb.1 (f (ta.0 refl)))
either false b said A B ta tb is = (λ y x. absurd (false_true (ta.1 x)), λ f. is)
