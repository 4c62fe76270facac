-- The rows of a schema over more pages.
use Rattle.std.proofs.Common.{ℕ, ◌≤◌, pos, List, [], ◌∷◌, Option, Some, None, arith}
use Rattle.std.specs.List.{AllByRecursion, AllZip}
use Rattle.db_format.specs.Schema.{Table as Found, IsTableOf, HasRootWithin}
use Rattle.db_format.specs.declared.value.Value.{Value}
use Rattle.db_format.specs.declared.value.Value.TheVariants.{Text}

root_grows : (few many : ℕ) (values : List Value) → few ≤ many → HasRootWithin few values → HasRootWithin many values
root_grows few many values less has = record { within = λ name table text root is. grind (arith, less, has.within name table text root is) }

pub roots_grow : (few many : ℕ) (rows : List (List Value)) → few ≤ many → AllByRecursion (HasRootWithin few) rows → AllByRecursion (HasRootWithin many) rows
roots_grow few many [] less all = tt
roots_grow few many (values ∷ rows) less all = (root_grows few many values less all.0, roots_grow few many rows less all.1)

row_grows : (few many : ℕ) (schema : List (List Value)) (values : List Value) (found : Option Found) → few ≤ many → HasRootWithin few values
    → IsTableOf few schema values found → IsTableOf many schema values found
row_grows few many schema values (Some table) less has is = record {
  sql = is.sql;
  values_are = is.values_are;
  least = is.least;
  most = omega (arith, is.most, less);
  spelled = is.spelled;
  alone = is.alone;
}
row_grows few many schema values None less has none = λ table is. none table (record {
  sql = is.sql;
  values_are = is.values_are;
  least = is.least;
  most = let within = has.within (Text table.create.name) (Text table.create.name) (Text is.sql) (pos table.root) is.values_are in grind (arith, within);
  spelled = is.spelled;
  alone = is.alone;
})

pub plain_grows : (few many : ℕ) (schema rows : List (List Value)) (found : List (Option Found)) → few ≤ many → AllByRecursion (HasRootWithin few) rows
    → AllZip (IsTableOf few schema) rows found → AllZip (IsTableOf many schema) rows found
plain_grows few many schema [] [] less has all = tt
plain_grows few many schema [] (f ∷ found) less has all = all
plain_grows few many schema (values ∷ rows) [] less has all = all
plain_grows few many schema (values ∷ rows) (f ∷ found) less has all = (row_grows few many schema values f less has.0 all.0, plain_grows few many schema rows found less has.1 all.1)
