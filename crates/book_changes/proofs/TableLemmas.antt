-- The plain tables of a schema, at a place of its rows.
use Rattle.std.proofs.Common.{◌≡◌, ◌≢◌, ℕ, zero, suc, ◌<◌, cond, List, [], ◌∷◌, ◌++◌, length, map, get_or, Option, Some, None, refl, sym, ap, subst, ◌∙◌, arith, Ordering}
use Rattle.std.specs.List.{AllByRecursion, AllZip}
use Rattle.std.specs.Ordering.{eq_by_cmp, is_eq}
use Rattle.std.specs.Cmp.{IsTotalOrder, tied_itself}
use Rattle.std.specs.FinMap as map
use Rattle.std.specs.FinMap.{IsAntisymmetric, get-insert, get-remove, get-from_entries, same_map}
use Rattle.std.specs.FinMap.Entries.{find}
use Rattle.db_format.specs.Schema.{Table as Found, tables_in, NamesDiffer}
use Rattle.tree_model.specs.Tree.{Row as Stored, Tree}
use Rattle.book_model.specs.Book.{Name, Table}
use Rattle.book_model.specs.Pages.{IsTable, AreTables}
use Rattle.book_changes.proofs.RowLemmas.{tied_is, not_tied, shadowed, swapped, cond_twice}

-- ---- lists

-- relations of lists at a place, and put together
pub zip_append : {A B : Type 0} (R : A → B → Type 0) (xs xs' : List A) (ys ys' : List B) → AllZip R xs ys → AllZip R xs' ys' → AllZip R (xs ++ xs') (ys ++ ys')
zip_append R [] xs' [] ys' a b = b
zip_append R [] xs' (y ∷ ys) ys' a b = absurd a
zip_append R (x ∷ xs) xs' [] ys' a b = absurd a
zip_append R (x ∷ xs) xs' (y ∷ ys) ys' a b = (a.0, zip_append R xs xs' ys ys' a.1 b)

pub zip_at : {A B : Type 0} (R : A → B → Type 0) (xs xs' : List A) (ys ys' : List B) → length xs ≡ length ys → AllZip R (xs ++ xs') (ys ++ ys') → AllZip R xs ys × AllZip R xs' ys'
zip_at R [] xs' [] ys' long all = (tt, all)
zip_at R [] xs' (y ∷ ys) ys' long all = absurd (omega (arith, long))
zip_at R (x ∷ xs) xs' [] ys' long all = absurd (omega (arith, long))
zip_at R (x ∷ xs) xs' (y ∷ ys) ys' long all =
    let rest = zip_at R xs xs' ys ys' (omega (arith, long)) all.1 in
    ((all.0, rest.0), rest.1)

pub all_append : {A : Type 0} (P : A → Type 0) (xs ys : List A) → AllByRecursion P xs → AllByRecursion P ys → AllByRecursion P (xs ++ ys)
all_append P [] ys a b = b
all_append P (x ∷ xs) ys a b = (a.0, all_append P xs ys a.1 b)

pub all_at : {A : Type 0} (P : A → Type 0) (xs ys : List A) → AllByRecursion P (xs ++ ys) → AllByRecursion P xs × AllByRecursion P ys
all_at P [] ys all = (tt, all)
all_at P (x ∷ xs) ys all = let rest = all_at P xs ys all.1 in ((all.0, rest.0), rest.1)

pub tables_append : (f f' : List (Option Found)) → tables_in (f ++ f') ≡ tables_in f ++ tables_in f'
tables_append [] f' = refl
tables_append (None ∷ f) f' = tables_append f f'
tables_append (Some one ∷ f) f' = ap (λ (l : List Found). one ∷ l) (tables_append f f')

pub map_append : {A B : Type 0} (g : A → B) (xs ys : List A) → map g (xs ++ ys) ≡ map g xs ++ map g ys
map_append g [] ys = refl
map_append {A} {B} g (x ∷ xs) ys = ap (λ (l : List B). g x ∷ l) (map_append g xs ys)

-- ---- tables

pub append_tables : (e e' : List Stored) (f f' : List (Option Found)) (t t' : List Tree) (b b' : List (Name × Table)) → AreTables e f t b → AreTables e' f' t' b'
    → AreTables (e ++ e') (f ++ f') (t ++ t') (b ++ b')
append_tables [] e' [] f' [] t' [] b' are are' = are'
append_tables [] e' [] f' [] t' (x ∷ b) b' are are' = absurd are
append_tables [] e' [] f' (tree ∷ t) t' b b' are are' = absurd are
append_tables [] e' (g ∷ f) f' t t' b b' are are' = absurd are
append_tables (entry ∷ e) e' [] f' t t' b b' are are' = absurd are
append_tables (entry ∷ e) e' (None ∷ f) f' t t' b b' are are' = append_tables e e' f f' t t' b b' are are'
append_tables (entry ∷ e) e' (Some g ∷ f) f' [] t' b b' are are' = absurd are
append_tables (entry ∷ e) e' (Some g ∷ f) f' (tree ∷ t) t' [] b' are are' = absurd are
append_tables (entry ∷ e) e' (Some g ∷ f) f' (tree ∷ t) t' (x ∷ b) b' are are' = (are.0, append_tables e e' f f' t t' b b' are.1 are')

pub as_many : (e : List Stored) (f : List (Option Found)) (t : List Tree) (b : List (Name × Table)) → AreTables e f t b → length (tables_in f) ≡ length t
as_many [] [] [] [] are = refl
as_many [] [] [] (x ∷ b) are = absurd are
as_many [] [] (tree ∷ t) b are = absurd are
as_many [] (g ∷ f) t b are = absurd are
as_many (entry ∷ e) [] t b are = absurd are
as_many (entry ∷ e) (None ∷ f) t b are = as_many e f t b are
as_many (entry ∷ e) (Some g ∷ f) [] b are = absurd are
as_many (entry ∷ e) (Some g ∷ f) (tree ∷ t) [] are = absurd are
as_many (entry ∷ e) (Some g ∷ f) (tree ∷ t) (x ∷ b) are = ap suc (as_many e f t b are.1)

-- there are as many rows as answers
pub as_long : (e : List Stored) (f : List (Option Found)) (t : List Tree) (b : List (Name × Table)) → AreTables e f t b → length f ≡ length e
as_long [] [] t b are = refl
as_long [] (g ∷ f) t b are = absurd are
as_long (entry ∷ e) [] t b are = absurd are
as_long (entry ∷ e) (None ∷ f) t b are = ap suc (as_long e f t b are)
as_long (entry ∷ e) (Some g ∷ f) [] b are = absurd are
as_long (entry ∷ e) (Some g ∷ f) (tree ∷ t) [] are = absurd are
as_long (entry ∷ e) (Some g ∷ f) (tree ∷ t) (x ∷ b) are = ap suc (as_long e f t b are.1)

-- the place of a table among those of a schema
pub record TableAt (entries : List Stored) (found : List (Option Found)) (trees : List Tree) (tables : List (Name × Table)) (one : Found) : Type 0 where
  pub e : List Stored
  pub e' : List Stored
  pub entry : Stored
  pub f : List (Option Found)
  pub f' : List (Option Found)
  pub t : List Tree
  pub t' : List Tree
  pub tree : Tree
  pub b : List (Name × Table)
  pub b' : List (Name × Table)
  pub table : Table
  pub entries_are : entries ≡ e ++ entry ∷ e'
  pub found_are : found ≡ f ++ Some one ∷ f'
  pub trees_are : trees ≡ t ++ tree ∷ t'
  pub tables_are : tables ≡ b ++ (one.create.name, table) ∷ b'
  pub front : AreTables e f t b
  pub is : IsTable entry one tree one.create.name table
  pub back : AreTables e' f' t' b'

none_front : (entry : Stored) (entries : List Stored) (found : List (Option Found)) (trees : List Tree) (tables : List (Name × Table)) (one : Found)
    → TableAt entries found trees tables one → TableAt (entry ∷ entries) (None ∷ found) trees tables one
none_front entry entries found trees tables one at = record {
  e = entry ∷ at.e;
  e' = at.e';
  entry = at.entry;
  f = None ∷ at.f;
  f' = at.f';
  t = at.t;
  t' = at.t';
  tree = at.tree;
  b = at.b;
  b' = at.b';
  table = at.table;
  entries_are = ap (λ (l : List Stored). entry ∷ l) at.entries_are;
  found_are = ap (λ (l : List (Option Found)). None ∷ l) at.found_are;
  trees_are = at.trees_are;
  tables_are = at.tables_are;
  front = at.front;
  is = at.is;
  back = at.back;
}

some_front : (entry : Stored) (entries : List Stored) (other : Found) (found : List (Option Found)) (tree : Tree) (trees : List Tree) (x : Name × Table)
    (tables : List (Name × Table)) (one : Found) → IsTable entry other tree x.0 x.1 → TableAt entries found trees tables one
    → TableAt (entry ∷ entries) (Some other ∷ found) (tree ∷ trees) (x ∷ tables) one
some_front entry entries other found tree trees x tables one is at = record {
  e = entry ∷ at.e;
  e' = at.e';
  entry = at.entry;
  f = Some other ∷ at.f;
  f' = at.f';
  t = tree ∷ at.t;
  t' = at.t';
  tree = at.tree;
  b = x ∷ at.b;
  b' = at.b';
  table = at.table;
  entries_are = ap (λ (l : List Stored). entry ∷ l) at.entries_are;
  found_are = ap (λ (l : List (Option Found)). Some other ∷ l) at.found_are;
  trees_are = ap (λ (l : List Tree). tree ∷ l) at.trees_are;
  tables_are = ap (λ (l : List (Name × Table)). x ∷ l) at.tables_are;
  front = (is, at.front);
  is = at.is;
  back = at.back;
}

renamed : (entry : Stored) (one : Found) (tree : Tree) (name : Name) (table : Table) → IsTable entry one tree name table → IsTable entry one tree one.create.name table
renamed entry one tree name table is = record { named = refl; columns = is.columns; entry_is = is.entry_is; rows = is.rows }

here : (entry : Stored) (entries : List Stored) (other : Found) (found : List (Option Found)) (tree : Tree) (trees : List Tree) (x : Name × Table) (tables : List (Name × Table))
    (one : Found) → other ≡ one → IsTable entry other tree x.0 x.1 → AreTables entries found trees tables
    → TableAt (entry ∷ entries) (Some other ∷ found) (tree ∷ trees) (x ∷ tables) one
here entry entries other found tree trees x tables one same is are = record {
  e = [];
  e' = entries;
  entry = entry;
  f = [];
  f' = found;
  t = [];
  t' = trees;
  tree = tree;
  b = [];
  b' = tables;
  table = x.1;
  entries_are = refl;
  found_are = ap (λ o. Some o ∷ found) same;
  trees_are = refl;
  tables_are = ap (λ (n : Name). (n, x.1) ∷ tables) (is.named ∙ ap (λ o. o.create.name) same);
  front = tt;
  is = subst (λ o. IsTable entry o tree o.create.name x.1) same (renamed entry other tree x.0 x.1 is);
  back = are;
}

pub table_at : (entries : List Stored) (found : List (Option Found)) (trees : List Tree) (tables : List (Name × Table)) (one : Found) → AreTables entries found trees tables
    → (k : ℕ) → k < length (tables_in found) → get_or (tables_in found) k one ≡ one → TableAt entries found trees tables one
table_at [] [] trees tables one are k within is = absurd (omega (arith, within))
table_at [] (g ∷ found) trees tables one are k within is = absurd are
table_at (entry ∷ entries) [] trees tables one are k within is = absurd are
table_at (entry ∷ entries) (None ∷ found) trees tables one are k within is = none_front entry entries found trees tables one (table_at entries found trees tables one are k within is)
table_at (entry ∷ entries) (Some g ∷ found) [] tables one are k within is = absurd are
table_at (entry ∷ entries) (Some g ∷ found) (tree ∷ trees) [] one are k within is = absurd are
table_at (entry ∷ entries) (Some g ∷ found) (tree ∷ trees) (x ∷ tables) one are zero within is = here entry entries g found tree trees x tables one is are.0 are.1
table_at (entry ∷ entries) (Some g ∷ found) (tree ∷ trees) (x ∷ tables) one are (suc k) within is =
    some_front entry entries g found tree trees x tables one are.0 (table_at entries found trees tables one are.1 k (omega (arith, within)) is)

-- ---- names

pub names_at : (one : Found) (xs ys : List Found) → NamesDiffer (xs ++ one ∷ ys)
    → AllByRecursion (λ other. other.create.name ≢ one.create.name) xs × AllByRecursion (λ other. other.create.name ≢ one.create.name) ys
names_at one [] ys differ = (tt, differ.0)
names_at one (x ∷ xs) ys differ =
    let rest = names_at one xs ys differ.1 in
    let here = (all_at (λ other. other.create.name ≢ x.create.name) xs (one ∷ ys) differ.0).1.0 in
    ((λ same. here (sym same), rest.0), rest.1)

pub names_without : (one : Found) (xs ys : List Found) → NamesDiffer (xs ++ one ∷ ys) → NamesDiffer (xs ++ ys)
names_without one [] ys differ = differ.1
names_without one (x ∷ xs) ys differ =
    let all = all_at (λ other. other.create.name ≢ x.create.name) xs (one ∷ ys) differ.0 in
    (all_append (λ other. other.create.name ≢ x.create.name) xs ys all.0 all.1.1, names_without one xs ys differ.1)

pub keys_apart : (name : Name) (entries : List Stored) (found : List (Option Found)) (trees : List Tree) (tables : List (Name × Table)) → AreTables entries found trees tables
    → AllByRecursion (λ other. other.create.name ≢ name) (tables_in found) → AllByRecursion (λ x. x.0 ≢ name) tables
keys_apart name [] [] [] [] are apart = tt
keys_apart name [] [] [] (x ∷ tables) are apart = absurd are
keys_apart name [] [] (tree ∷ trees) tables are apart = absurd are
keys_apart name [] (f ∷ found) trees tables are apart = absurd are
keys_apart name (entry ∷ entries) [] trees tables are apart = absurd are
keys_apart name (entry ∷ entries) (None ∷ found) trees tables are apart = keys_apart name entries found trees tables are apart
keys_apart name (entry ∷ entries) (Some f ∷ found) [] tables are apart = absurd are
keys_apart name (entry ∷ entries) (Some f ∷ found) (tree ∷ trees) [] are apart = absurd are
keys_apart name (entry ∷ entries) (Some f ∷ found) (tree ∷ trees) (x ∷ tables) are apart =
    (λ same. apart.0 (sym are.0.named ∙ same), keys_apart name entries found trees tables are.1 apart.1)

-- ---- maps of entries with one at a place

module _ {K X : Type 0} (R : K → K → Ordering) (total : IsTotalOrder R) (same : IsAntisymmetric R) where
  find_inserted : (k : K) (x : X) (es more : List (K × X)) → AllByRecursion (λ e. e.0 ≢ k) es → (q : K)
      → find R q (es ++ (k, x) ∷ more) ≡ cond (eq_by_cmp R q k) (Some x) (find R q (es ++ more))
  find_inserted k x [] more apart q = refl
  find_inserted k x (e ∷ es) more apart q =
      ap (cond (eq_by_cmp R q e.0) (Some e.1)) (find_inserted k x es more apart.1 q)
      ∙ swapped (eq_by_cmp R q e.0) (eq_by_cmp R q k) (Some e.1) (Some x) (find R q (es ++ more))
      (λ a b. apart.0 (sym (tied_is R same q e.0 a) ∙ tied_is R same q k b))

  find_none : (q : K) (es : List (K × X)) → AllByRecursion (λ e. e.0 ≢ q) es → find R q es ≡ None
  find_none q [] apart = refl
  find_none q (e ∷ es) apart = ap (λ b. cond b (Some e.1) (find R q es)) (not_tied R same q e.0 (λ i. apart.0 (sym i))) ∙ find_none q es apart.1

  pub map_inserted : (k : K) (x : X) (es more : List (K × X)) → AllByRecursion (λ e. e.0 ≢ k) es
      → map.from_entries {R = R} (es ++ (k, x) ∷ more) ≡ map.insert (map.from_entries (es ++ more)) k x
  map_inserted k x es more apart = same_map total same _ _ (λ q.
      get-from_entries total (es ++ (k, x) ∷ more) q ∙ find_inserted k x es more apart q
      ∙ ap (cond (eq_by_cmp R q k) (Some x)) (sym (get-from_entries total (es ++ more) q)) ∙ sym (get-insert total (map.from_entries (es ++ more)) k x q))

  pub map_has : (k : K) (x : X) (es more : List (K × X)) → AllByRecursion (λ e. e.0 ≢ k) es → map.get (map.from_entries {R = R} (es ++ (k, x) ∷ more)) k ≡ Some x
  map_has k x es more apart =
      get-from_entries total (es ++ (k, x) ∷ more) k ∙ find_inserted k x es more apart k
      ∙ ap (λ o. cond (is_eq o) (Some x) (find R k (es ++ more))) (tied_itself total k)

  pub map_replaced : (k : K) (x x' : X) (es more : List (K × X)) → AllByRecursion (λ e. e.0 ≢ k) es
      → map.from_entries {R = R} (es ++ (k, x') ∷ more) ≡ map.insert (map.from_entries (es ++ (k, x) ∷ more)) k x'
  map_replaced k x x' es more apart = same_map total same _ _ (λ q.
      get-from_entries total (es ++ (k, x') ∷ more) q ∙ find_inserted k x' es more apart q
      ∙ shadowed (eq_by_cmp R q k) (Some x') (Some x) (find R q (es ++ more))
      ∙ ap (cond (eq_by_cmp R q k) (Some x')) (sym (get-from_entries total (es ++ (k, x) ∷ more) q ∙ find_inserted k x es more apart q))
      ∙ sym (get-insert total (map.from_entries (es ++ (k, x) ∷ more)) k x' q))

  pub map_removed : (k : K) (x : X) (es more : List (K × X)) → AllByRecursion (λ e. e.0 ≢ k) es → AllByRecursion (λ e. e.0 ≢ k) more
      → map.from_entries {R = R} (es ++ more) ≡ map.remove (map.from_entries (es ++ (k, x) ∷ more)) k
  map_removed k x es more apart apart' = same_map total same _ _ (λ q.
      get-from_entries total (es ++ more) q
      ∙ cond_twice (eq_by_cmp R q k) (Some x) (find R q (es ++ more))
      (λ e. subst (λ z. find R z (es ++ more) ≡ None) (sym (tied_is R same q k e)) (find_none k (es ++ more) (all_append (λ i. i.0 ≢ k) es more apart apart')))
      ∙ ap (cond (eq_by_cmp R q k) None) (sym (get-from_entries total (es ++ (k, x) ∷ more) q ∙ find_inserted k x es more apart q))
      ∙ sym (get-remove total (map.from_entries (es ++ (k, x) ∷ more)) k q))
