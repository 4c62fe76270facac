-- The rows of a tree by rowid, with one put among them and with one taken out.
use Rattle.std.proofs.Common.{◌≡◌, ◌≢◌, ◌↔◌, ℕ, ◌-◌, Bool, true, false, cond, if◌then◌else◌, T, ℤ, ◌≤ℤ◌, ◌<ℤ◌, int_le, List, [], ◌∷◌, ◌++◌, length, map, replicate, Option, Some, None, is_some, IsTrue, refl, sym, ap, ap₂, subst, ◌∙◌, arith, Ordering, append-nil}
use Rattle.std.specs.declared.cmp.Ordering.TheVariants.{Less, Equal, Greater}
use Rattle.std.specs.List.{AllByRecursion, AllZip}
use Rattle.std.specs.Ordering.{int_cmp, eq_by_cmp, is_eq}
use Rattle.std.specs.Cmp.{int_cmp_total, tied_itself}
use Rattle.std.specs.FinMap as map
use Rattle.std.specs.FinMap.{FinMap, IsAntisymmetric, int_cmp-IsAntisymmetric, get-insert, get-remove, get-from_entries, same_map}
use Rattle.std.specs.FinMap.Entries.{find}
use Rattle.db_format.specs.Record.{IsRecord}
use Rattle.db_format.specs.declared.value.Value.{Value}
use Rattle.db_format.specs.declared.value.Value.TheVariants.{Null}
use Rattle.tree_model.specs.Tree.{Row as Stored, rowid}
use Rattle.tree_model.specs.Laws.{Rises, shown, row_at}
use Rattle.tree_model.specs.declared.ends.PathEnd.{PathEnd}
use Rattle.tree_model.specs.declared.ends.PathEnd.TheVariants.{HasPayload, NoRow, Ends}
use Rattle.tree_model.proofs.IntLemmas.{is_le, is_not_le, antisym_ℤ, lt_le_ℤ}
use Rattle.book_model.specs.Size.{record_size}
use Rattle.book_model.specs.Book.{Row, written_row}
use Rattle.book_model.specs.Pages.{filled, entries_of, HasRows}
use Rattle.tree_put.specs.Keeps.{put_shown}
use Rattle.tree_removed.specs.Keeps.{without_shown}

-- rows as they are shown
abbrev pub Shown : Type 0
Shown = List (ℤ × List ℕ)

-- ---- tests of keys

pub tied_is : {K : Type 0} (R : K → K → Ordering) → IsAntisymmetric R → (a b : K) → eq_by_cmp R a b ≡ true → a ≡ b
tied_is {K} R same a b e = by (R a b) refl e
  where
    by : (o : Ordering) → R a b ≡ o → is_eq o ≡ true → a ≡ b
    by Less p e = absurd (subst T (sym e) tt)
    by Equal p e = same a b p
    by Greater p e = absurd (subst T (sym e) tt)

pub not_tied : {K : Type 0} (R : K → K → Ordering) → IsAntisymmetric R → (a b : K) → a ≢ b → eq_by_cmp R a b ≡ false
not_tied {K} R same a b other = by (R a b) refl
  where
    by : (o : Ordering) → R a b ≡ o → is_eq (R a b) ≡ false
    by Less e = ap is_eq e
    by Equal e = absurd (other (same a b e))
    by Greater e = ap is_eq e

tied : (a b : ℤ) → eq_by_cmp int_cmp a b ≡ true → a ≡ b
tied = tied_is int_cmp int_cmp-IsAntisymmetric

apart_less : (a b : ℤ) → a <ℤ b → a ≢ b
apart_less a b less same = grind (arith, less, same)

apart_more : (a b : ℤ) → b <ℤ a → a ≢ b
apart_more a b less same = grind (arith, less, same)

pub shadowed : {A : Type 0} (b : Bool) (x y z : A) → cond b x z ≡ cond b x (cond b y z)
shadowed true x y z = refl
shadowed false x y z = refl

pub swapped : {A : Type 0} (a b : Bool) (x y z : A) → (a ≡ true → b ≡ true → ⊥) → cond a x (cond b y z) ≡ cond b y (cond a x z)
swapped true true x y z apart = absurd (apart refl refl)
swapped true false x y z apart = refl
swapped false b x y z apart = refl

-- ---- entries of rowids and payloads

abbrev AreRecords : Shown → List (List Value) → Type 0
AreRecords list contents = AllZip (λ (s : ℤ × List ℕ) (values : List Value). IsRecord s.1 values) list contents

abbrev row_of : ℕ → List ℕ → List Value → Row
row_of columns payload values = record { values = filled columns values; size = length payload }

abbrev shown_entries : ℕ → Shown → List (List Value) → List (ℤ × Row)
shown_entries columns [] contents = []
shown_entries columns (s ∷ more) [] = []
shown_entries columns (s ∷ more) (values ∷ contents) = (s.0, row_of columns s.1 values) ∷ shown_entries columns more contents

abbrev pub ShownRises : ℤ → Shown → Type 0
ShownRises last [] = Unit {0}
ShownRises last (s ∷ more) = (last <ℤ s.0) × ShownRises s.0 more

entries_shown : (columns : ℕ) (stored : List Stored) (contents : List (List Value)) → entries_of columns stored contents ≡ shown_entries columns (map shown stored) contents
entries_shown columns [] contents = refl
entries_shown columns (row ∷ stored) [] = refl
entries_shown columns (row ∷ stored) (values ∷ contents) = ap (λ (l : List (ℤ × Row)). (rowid row, row_of columns row.payload values) ∷ l) (entries_shown columns stored contents)

records_shown : (stored : List Stored) (contents : List (List Value)) → AllZip (λ row values. IsRecord row.payload values) stored contents → AreRecords (map shown stored) contents
records_shown [] [] each = tt
records_shown [] (values ∷ contents) each = each
records_shown (row ∷ stored) [] each = each
records_shown (row ∷ stored) (values ∷ contents) each = (each.0, records_shown stored contents each.1)

shown_records : (stored : List Stored) (contents : List (List Value)) → AreRecords (map shown stored) contents → AllZip (λ row values. IsRecord row.payload values) stored contents
shown_records [] [] each = tt
shown_records [] (values ∷ contents) each = each
shown_records (row ∷ stored) [] each = each
shown_records (row ∷ stored) (values ∷ contents) each = (each.0, shown_records stored contents each.1)

pub rises_shown : (last : ℤ) (stored : List Stored) → Rises last stored → ShownRises last (map shown stored)
rises_shown last [] rise = tt
rises_shown last (row ∷ stored) rise = (rise.0, rises_shown (rowid row) stored rise.1)

-- no key up to the last one is found behind it
none_up_to : (columns : ℕ) (key last : ℤ) (list : Shown) (contents : List (List Value)) → key ≤ℤ last → ShownRises last list
    → find int_cmp key (shown_entries columns list contents) ≡ None
none_up_to columns key last [] contents less rise = refl
none_up_to columns key last (s ∷ list) [] less rise = refl
none_up_to columns key last (s ∷ list) (values ∷ contents) less rise =
    let below : key <ℤ s.0 = grind (arith, less, rise.0) in
    let rest = none_up_to columns key s.0 list contents (lt_le_ℤ key s.0 below) rise.1 in
    let other = not_tied int_cmp int_cmp-IsAntisymmetric key s.0 (apart_less key s.0 below) in
    ap (λ b. cond b (Some (row_of columns s.1 values)) (find int_cmp key (shown_entries columns list contents))) other ∙ rest

-- ---- a row put

record PutIn (columns : ℕ) (s : ℤ × List ℕ) (values : List Value) (list : Shown) (contents : List (List Value)) (result : Shown) : Type 0 where
  contents' : List (List Value)
  each : AreRecords result contents'
  find_in : (q : ℤ) → find int_cmp q (shown_entries columns result contents')
      ≡ cond (eq_by_cmp int_cmp q s.0) (Some (row_of columns s.1 values)) (find int_cmp q (shown_entries columns list contents))

put_in : (columns : ℕ) (s : ℤ × List ℕ) (values : List Value) (list : Shown) (contents : List (List Value)) → IsRecord s.1 values → AreRecords list contents
    → PutIn columns s values list contents (put_shown s list)
put_in columns s values [] [] is each = record { contents' = values ∷ []; each = (is, tt); find_in = λ q. refl }
put_in columns s values [] (c ∷ contents) is each = absurd each
put_in columns s values (r ∷ list) [] is each = absurd each
put_in columns s values (r ∷ list) (c ∷ contents) is each = by (put_in columns s values list contents is each.1) (int_le s.0 r.0) (int_le r.0 s.0) refl refl
  where
    by : PutIn columns s values list contents (put_shown s list) → (a b : Bool) → int_le s.0 r.0 ≡ a → int_le r.0 s.0 ≡ b
        → PutIn columns s values (r ∷ list) (c ∷ contents) (if a then (if b then s ∷ list else s ∷ r ∷ list) else r ∷ put_shown s list)
    by rest true true p q =
        let key : s.0 ≡ r.0 = antisym_ℤ s.0 r.0 (is_le s.0 r.0 p) (is_le r.0 s.0 q) in
        let es : List (ℤ × Row) = shown_entries columns list contents in
        record {
          contents' = values ∷ contents;
          each = (is, each.1);
          find_in = λ k. shadowed (eq_by_cmp int_cmp k s.0) (Some (row_of columns s.1 values)) (Some (row_of columns r.1 c)) (find int_cmp k es)
              ∙ ap (λ z. cond (eq_by_cmp int_cmp k s.0) (Some (row_of columns s.1 values)) (cond (eq_by_cmp int_cmp k z) (Some (row_of columns r.1 c)) (find int_cmp k es))) key;
        }
    by rest true false p q = record { contents' = values ∷ c ∷ contents; each = (is, each); find_in = λ k. refl }
    by rest false b p q = record {
      contents' = c ∷ rest.contents';
      each = (each.0, rest.each);
      find_in = λ k. ap (cond (eq_by_cmp int_cmp k r.0) (Some (row_of columns r.1 c))) (rest.find_in k)
          ∙ swapped (eq_by_cmp int_cmp k r.0) (eq_by_cmp int_cmp k s.0) (Some (row_of columns r.1 c)) (Some (row_of columns s.1 values)) (find int_cmp k (shown_entries columns list contents))
          (λ x y. apart_more s.0 r.0 (is_not_le s.0 r.0 p) (sym (tied k s.0 y) ∙ tied k r.0 x));
    }

pub all_filled : (columns : ℕ) (values : List Value) → length values ≡ columns → filled columns values ≡ values
all_filled columns values long =
    let none : columns - length values ≡ 0 = omega (arith, long) in
    ap (λ n. values ++ replicate n Null) none ∙ append-nil values

pub rows_put : (columns : ℕ) (stored stored' : List Stored) (rows : FinMap int_cmp Row) (key : ℤ) (payload : List ℕ) (values : List Value) → IsRecord payload values
    → length values ≡ columns → length payload ≡ record_size values → map shown stored' ≡ put_shown (key, payload) (map shown stored)
    → HasRows columns stored rows → HasRows columns stored' (map.insert rows key (written_row values))
rows_put columns stored stored' rows key payload values is long size put has =
    let made = put_in columns (key, payload) values (map shown stored) has.contents is (records_shown stored has.contents has.each) in
    let same : row_of columns payload values ≡ written_row values = ap₂ (λ (v : List Value) (n : ℕ). row_with v n) (all_filled columns values long) size in
    let R : Shown → Type 0 = λ l. AreRecords l made.contents' in
    let olds : (q : ℤ) → map.get rows q ≡ find int_cmp q (shown_entries columns (map shown stored) has.contents) =
    λ q. ap (λ m. map.get m q) has.is ∙ get-from_entries int_cmp_total (entries_of columns stored has.contents) q ∙ ap (find int_cmp q) (entries_shown columns stored has.contents) in
    let news : (q : ℤ) → map.get (map.from_entries {R = int_cmp} (entries_of columns stored' made.contents')) q ≡ find int_cmp q (shown_entries columns (put_shown (key, payload) (map shown stored)) made.contents') =
    λ q. get-from_entries int_cmp_total (entries_of columns stored' made.contents') q ∙ ap (find int_cmp q) (entries_shown columns stored' made.contents' ∙ ap (λ (l : Shown). shown_entries columns l made.contents') put) in
    record {
      contents = made.contents';
      each = shown_records stored' made.contents' (subst R (sym put) made.each);
      is = same_map int_cmp_total int_cmp-IsAntisymmetric _ _ (λ q.
          get-insert int_cmp_total rows key (written_row values) q
          ∙ ap₂ (λ (r : Row) (o : Option Row). cond (eq_by_cmp int_cmp q key) (Some r) o) (sym same) (olds q)
          ∙ sym (made.find_in q) ∙ sym (news q));
    }
  where
    row_with : List Value → ℕ → Row
    row_with v n = record { values = v; size = n }

-- what holds of each payload holds with the new one
all_put : (P : List ℕ → Type 0) (s : ℤ × List ℕ) (list : Shown) → P s.1 → AllByRecursion (λ (r : ℤ × List ℕ). P r.1) list → AllByRecursion (λ (r : ℤ × List ℕ). P r.1) (put_shown s list)
all_put P s [] is all = (is, tt)
all_put P s (r ∷ list) is all = by (int_le s.0 r.0) (int_le r.0 s.0) (all_put P s list is all.1)
  where
    by : (a b : Bool) → AllByRecursion (λ (r : ℤ × List ℕ). P r.1) (put_shown s list)
        → AllByRecursion (λ (r : ℤ × List ℕ). P r.1) (if a then (if b then s ∷ list else s ∷ r ∷ list) else r ∷ put_shown s list)
    by true true rest = (is, all.1)
    by true false rest = (is, all)
    by false b rest = (all.0, rest)

all_shown : (P : List ℕ → Type 0) (stored : List Stored) → AllByRecursion (λ row. P row.payload) stored → AllByRecursion (λ (r : ℤ × List ℕ). P r.1) (map shown stored)
all_shown P [] all = tt
all_shown P (row ∷ stored) all = (all.0, all_shown P stored all.1)

shown_all : (P : List ℕ → Type 0) (stored : List Stored) → AllByRecursion (λ (r : ℤ × List ℕ). P r.1) (map shown stored) → AllByRecursion (λ row. P row.payload) stored
shown_all P [] all = tt
shown_all P (row ∷ stored) all = (all.0, shown_all P stored all.1)

pub payloads_put : (P : List ℕ → Type 0) (stored stored' : List Stored) (key : ℤ) (payload : List ℕ) → P payload → map shown stored' ≡ put_shown (key, payload) (map shown stored)
    → AllByRecursion (λ row. P row.payload) stored → AllByRecursion (λ row. P row.payload) stored'
payloads_put P stored stored' key payload is put all =
    let R : Shown → Type 0 = λ l. AllByRecursion (λ (r : ℤ × List ℕ). P r.1) l in
    shown_all P stored' (subst R (sym put) (all_put P (key, payload) (map shown stored) is (all_shown P stored all)))

-- ---- a row taken out

record TakenOut (columns : ℕ) (key : ℤ) (list : Shown) (contents : List (List Value)) (result : Shown) : Type 0 where
  contents' : List (List Value)
  each : AreRecords result contents'
  find_in : (q : ℤ) → find int_cmp q (shown_entries columns result contents')
      ≡ cond (eq_by_cmp int_cmp q key) None (find int_cmp q (shown_entries columns list contents))

cond_none : {A : Type 0} (b : Bool) (o : Option A) → (b ≡ true → o ≡ None) → o ≡ cond b None o
cond_none true o none = none refl
cond_none false o none = refl

pub cond_twice : {A : Type 0} (b : Bool) (x o : Option A) → (b ≡ true → o ≡ None) → o ≡ cond b None (cond b x o)
cond_twice true x o none = none refl
cond_twice false x o none = refl

taken_out : (columns : ℕ) (key last : ℤ) (list : Shown) (contents : List (List Value)) → ShownRises last list → AreRecords list contents
    → TakenOut columns key list contents (without_shown key list)
taken_out columns key last [] [] rise each = record { contents' = []; each = tt; find_in = λ q. cond_none (eq_by_cmp int_cmp q key) None (λ e. refl) }
taken_out columns key last [] (c ∷ contents) rise each = absurd each
taken_out columns key last (r ∷ list) [] rise each = absurd each
taken_out columns key last (r ∷ list) (c ∷ contents) rise each = by (taken_out columns key r.0 list contents rise.1 each.1) (int_le key r.0) (int_le r.0 key) refl refl
  where
    es : List (ℤ × Row)
    es = shown_entries columns list contents

    by : TakenOut columns key list contents (without_shown key list) → (a b : Bool) → int_le key r.0 ≡ a → int_le r.0 key ≡ b
        → TakenOut columns key (r ∷ list) (c ∷ contents) (if a then (if b then list else r ∷ list) else r ∷ without_shown key list)
    by rest true true p q =
        let same : key ≡ r.0 = antisym_ℤ key r.0 (is_le key r.0 p) (is_le r.0 key q) in
        let G : ℤ → ℤ → Type 0 = λ k z. find int_cmp k es ≡ cond (eq_by_cmp int_cmp k z) None (cond (eq_by_cmp int_cmp k r.0) (Some (row_of columns r.1 c)) (find int_cmp k es)) in
        record {
          contents' = contents;
          each = each.1;
          find_in = λ k. subst (G k) (sym same) (cond_twice (eq_by_cmp int_cmp k r.0) (Some (row_of columns r.1 c)) (find int_cmp k es)
              (λ e. none_up_to columns k r.0 list contents (subst (λ z. z ≤ℤ r.0) (sym (tied k r.0 e)) (grind arith)) rise.1));
        }
    by rest true false p q =
        let less : key <ℤ r.0 = is_not_le r.0 key q in
        record {
          contents' = c ∷ contents;
          each = each;
          find_in = λ k. cond_none (eq_by_cmp int_cmp k key) (find int_cmp k (shown_entries columns (r ∷ list) (c ∷ contents)))
              (λ e. none_up_to columns k key (r ∷ list) (c ∷ contents) (subst (λ z. z ≤ℤ key) (sym (tied k key e)) (grind arith)) (less, rise.1));
        }
    by rest false b p q = record {
      contents' = c ∷ rest.contents';
      each = (each.0, rest.each);
      find_in = λ k. ap (cond (eq_by_cmp int_cmp k r.0) (Some (row_of columns r.1 c))) (rest.find_in k)
          ∙ swapped (eq_by_cmp int_cmp k r.0) (eq_by_cmp int_cmp k key) (Some (row_of columns r.1 c)) None (find int_cmp k es)
          (λ x y. apart_more key r.0 (is_not_le key r.0 p) (sym (tied k key y) ∙ tied k r.0 x));
    }

pub rows_without : (columns : ℕ) (last : ℤ) (stored stored' : List Stored) (rows : FinMap int_cmp Row) (key : ℤ) → Rises last stored
    → map shown stored' ≡ without_shown key (map shown stored) → HasRows columns stored rows → HasRows columns stored' (map.remove rows key)
rows_without columns last stored stored' rows key rise out has =
    let made = taken_out columns key last (map shown stored) has.contents (rises_shown last stored rise) (records_shown stored has.contents has.each) in
    let R : Shown → Type 0 = λ l. AreRecords l made.contents' in
    let olds : (q : ℤ) → map.get rows q ≡ find int_cmp q (shown_entries columns (map shown stored) has.contents) =
    λ q. ap (λ m. map.get m q) has.is ∙ get-from_entries int_cmp_total (entries_of columns stored has.contents) q ∙ ap (find int_cmp q) (entries_shown columns stored has.contents) in
    let news : (q : ℤ) → map.get (map.from_entries {R = int_cmp} (entries_of columns stored' made.contents')) q ≡ find int_cmp q (shown_entries columns (without_shown key (map shown stored)) made.contents') =
    λ q. get-from_entries int_cmp_total (entries_of columns stored' made.contents') q ∙ ap (find int_cmp q) (entries_shown columns stored' made.contents' ∙ ap (λ (l : Shown). shown_entries columns l made.contents') out) in
    record {
      contents = made.contents';
      each = shown_records stored' made.contents' (subst R (sym out) made.each);
      is = same_map int_cmp_total int_cmp-IsAntisymmetric _ _ (λ q.
          get-remove int_cmp_total rows key q ∙ ap (cond (eq_by_cmp int_cmp q key) None) (olds q) ∙ sym (made.find_in q) ∙ sym (news q));
    }

all_without : (P : List ℕ → Type 0) (key : ℤ) (list : Shown) → AllByRecursion (λ (r : ℤ × List ℕ). P r.1) list → AllByRecursion (λ (r : ℤ × List ℕ). P r.1) (without_shown key list)
all_without P key [] all = tt
all_without P key (r ∷ list) all = by (int_le key r.0) (int_le r.0 key) (all_without P key list all.1)
  where
    by : (a b : Bool) → AllByRecursion (λ (r : ℤ × List ℕ). P r.1) (without_shown key list)
        → AllByRecursion (λ (r : ℤ × List ℕ). P r.1) (if a then (if b then list else r ∷ list) else r ∷ without_shown key list)
    by true true rest = all.1
    by true false rest = all
    by false b rest = (all.0, rest)

pub payloads_without : (P : List ℕ → Type 0) (stored stored' : List Stored) (key : ℤ) → map shown stored' ≡ without_shown key (map shown stored)
    → AllByRecursion (λ row. P row.payload) stored → AllByRecursion (λ row. P row.payload) stored'
payloads_without P stored stored' key out all =
    let R : Shown → Type 0 = λ l. AllByRecursion (λ (r : ℤ × List ℕ). P r.1) l in
    shown_all P stored' (subst R (sym out) (all_without P key (map shown stored) (all_shown P stored all)))

-- ---- whether there is a row

abbrev pub is_there : PathEnd → Bool
is_there (HasPayload payload) = true
is_there NoRow = false
is_there (Ends fault) = false

pub there : (columns : ℕ) (key last : ℤ) (stored : List Stored) (contents : List (List Value)) → Rises last stored → AllZip (λ row values. IsRecord row.payload values) stored contents
    → is_some (find int_cmp key (entries_of columns stored contents)) ≡ is_there (row_at key stored)
there columns key last [] [] rise each = refl
there columns key last [] (c ∷ contents) rise each = absurd each
there columns key last (row ∷ stored) [] rise each = absurd each
there columns key last (row ∷ stored) (c ∷ contents) rise each = by (there columns key (rowid row) stored contents rise.1 each.1) (int_le key (rowid row)) (int_le (rowid row) key) refl refl
  where
    es : List (ℤ × Row)
    es = entries_of columns stored contents

    by : is_some (find int_cmp key es) ≡ is_there (row_at key stored) → (a b : Bool) → int_le key (rowid row) ≡ a → int_le (rowid row) key ≡ b
        → is_some (find int_cmp key (entries_of columns (row ∷ stored) (c ∷ contents))) ≡ is_there (if a then (if b then HasPayload row.payload else NoRow) else row_at key stored)
    by rest true true p q =
        let same : key ≡ rowid row = antisym_ℤ key (rowid row) (is_le key (rowid row) p) (is_le (rowid row) key q) in
        ap (λ (z : ℤ). is_some (cond (eq_by_cmp int_cmp key z) (Some (row_of columns row.payload c)) (find int_cmp key es))) (sym same)
        ∙ ap (λ o. is_some (cond (is_eq o) (Some (row_of columns row.payload c)) (find int_cmp key es))) (tied_itself int_cmp_total key)
    by rest true false p q =
        let less : key <ℤ rowid row = is_not_le (rowid row) key q in
        let none = none_up_to columns key (rowid row) (map shown stored) contents (lt_le_ℤ key (rowid row) less) (rises_shown (rowid row) stored rise.1) in
        ap (λ b. is_some (cond b (Some (row_of columns row.payload c)) (find int_cmp key es))) (not_tied int_cmp int_cmp-IsAntisymmetric key (rowid row) (apart_less key (rowid row) less))
        ∙ ap (λ (l : List (ℤ × Row)). is_some (find int_cmp key l)) (entries_shown columns stored contents) ∙ ap is_some none
    by rest false b p q =
        ap (λ b. is_some (cond b (Some (row_of columns row.payload c)) (find int_cmp key es)))
        (not_tied int_cmp int_cmp-IsAntisymmetric key (rowid row) (apart_more key (rowid row) (is_not_le key (rowid row) p))) ∙ rest

pub same_told : (told : Bool) (end : PathEnd) → (IsTrue told ↔ ((was : List ℕ) × (end ≡ HasPayload was))) → told ≡ is_there end
same_told told end is = by told end is
  where
    by : (told : Bool) (end : PathEnd) → (IsTrue told ↔ ((was : List ℕ) × (end ≡ HasPayload was))) → told ≡ is_there end
    by true (HasPayload payload) is = refl
    by true NoRow is = sym (ap is_there (is.0 refl).1)
    by true (Ends fault) is = sym (ap is_there (is.0 refl).1)
    by false (HasPayload payload) is = is.1 (payload, refl)
    by false NoRow is = refl
    by false (Ends fault) is = refl

-- the answer of a put or a removal is whether the map had the rowid
pub told_by_map : (columns : ℕ) (key last : ℤ) (stored : List Stored) (rows : FinMap int_cmp Row) (told : Bool) → Rises last stored → HasRows columns stored rows
    → (IsTrue told ↔ ((was : List ℕ) × (row_at key stored ≡ HasPayload was))) → told ≡ map.contains_key rows key
told_by_map columns key last stored rows told rise has is =
    same_told told (row_at key stored) is
    ∙ sym (ap (λ m. is_some (map.get m key)) has.is ∙ ap is_some (get-from_entries int_cmp_total (entries_of columns stored has.contents) key) ∙ there columns key last stored has.contents rise has.each)
