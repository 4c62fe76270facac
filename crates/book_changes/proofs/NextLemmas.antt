-- The rowid of a new row of the schema is not in use.
use Rattle.std.proofs.Common.{◌≡◌, ◌≢◌, ℕ, T, Bool, true, false, ◌||◌, if◌then◌else◌, ℤ, pos, ◌+ℤ◌, ◌-ℤ◌, ◌<ℤ◌, ◌≤ℤ◌, List, [], ◌∷◌, ◌++◌, map, reverse, is_some, refl, sym, ap, subst, ◌∙◌, arith}
use Rattle.std.proofs.lemmas.List.{reverse-append}
use Rattle.std.specs.List.{list_any, AllByRecursion}
use Rattle.std.specs.Ordering.{int_cmp, eq_by_cmp, is_eq}
use Rattle.std.specs.Cmp.{int_cmp_total, tied_itself}
use Rattle.std.specs.FinMap.{entries, int_cmp-IsAntisymmetric}
use Rattle.std.specs.FinMap.Entries.{find, is_some-find}
use Rattle.db_format.specs.declared.value.Value.{Value}
use Rattle.tree_model.specs.Tree.{Row as Stored, rowid}
use Rattle.tree_model.specs.Whole.{greatest, below_all}
use Rattle.tree_model.specs.Laws.{Rises, row_at}
use Rattle.tree_model.proofs.IntLemmas.{by_le, antisym_ℤ}
use Rattle.book_model.specs.Book.{Row, Book, free_below, next_of, next_entry}
use Rattle.book_model.specs.Pages.{entries_of, HasRows}
use Rattle.book_changes.proofs.RowLemmas.{tied_is, not_tied, is_there, there}
use Rattle.book_changes.proofs.TableLemmas.{all_at}
use Rattle.book_changes.proofs.EntryLemmas.{entries_are}

-- keys that fall from below one bound to above another
abbrev Falls : ℤ → ℤ → List ℤ → Type 0
Falls top low [] = Unit {0}
Falls top low (key ∷ more) = (key <ℤ top) × (low <ℤ key) × Falls key low more

falls_more : (top low x : ℤ) (l : List ℤ) → Falls top x l → low <ℤ x → x <ℤ top → Falls top low (l ++ x ∷ [])
falls_more top low x [] falls above below = (below, above, tt)
falls_more top low x (key ∷ l) falls above below = (falls.0, grind (arith, falls.1, above), falls_more key low x l falls.2 above falls.1)

abbrev keys_of : List (ℤ × Row) → List ℤ
keys_of es = map (λ (e : ℤ × Row). e.0) es

-- a bound above all of the keys
abbrev Below : ℤ → List ℤ → Type 0
Below top l = AllByRecursion (λ key. key <ℤ top) l

keys_fall : (columns : ℕ) (top low : ℤ) (stored : List Stored) (contents : List (List Value)) → Rises low stored → Below top (keys_of (entries_of columns stored contents))
    → Falls top low (reverse (keys_of (entries_of columns stored contents)))
keys_fall columns top low [] contents rise below = tt
keys_fall columns top low (row ∷ stored) [] rise below = tt
keys_fall columns top low (row ∷ stored) (values ∷ contents) rise below =
    let keys : List ℤ = keys_of (entries_of columns stored contents) in
    subst (Falls top low) (sym (reverse-append (rowid row ∷ []) keys))
    (falls_more top low (rowid row) (reverse keys) (keys_fall columns top (rowid row) stored contents rise.1 below.1) rise.0 below.0)

-- there is such a bound
record HasTop (l : List ℤ) : Type 0 where
  top : ℤ
  below : Below top l

below_more : (a b : ℤ) (l : List ℤ) → a ≤ℤ b → Below a l → Below b l
below_more a b [] less all = tt
below_more a b (key ∷ l) less all = (grind (arith, less, all.0), below_more a b l less all.1)

higher : (key : ℤ) (l : List ℤ) → HasTop l → HasTop (key ∷ l)
higher key l rest =
    by_le rest.top key
    (λ less. record { top = key +ℤ pos 1; below = (grind arith, below_more rest.top (key +ℤ pos 1) l (grind (arith, less)) rest.below) })
    (λ more. record { top = rest.top; below = (more, rest.below) })

top_of : (l : List ℤ) → HasTop l
top_of [] = record { top = pos 0; below = tt }
top_of (key ∷ l) = higher key l (top_of l)

-- all keys are below a number that is no less than the bound
falls_apart : (top low r : ℤ) (l : List ℤ) → Falls top low l → top ≤ℤ r → AllByRecursion (λ key. key ≢ r) l
falls_apart top low r [] falls less = tt
falls_apart top low r (key ∷ l) falls less = ((λ same. grind (arith, falls.0, less, same)), falls_apart key low r l falls.2 (grind (arith, falls.0, less)))

not_equal : (a b : ℤ) → is_eq (int_cmp a b) ≡ false → a ≢ b
not_equal a b is same = let tied : is_eq (int_cmp a b) ≡ true = ap (λ k. is_eq (int_cmp k b)) same ∙ ap is_eq (tied_itself int_cmp_total b) in absurd (subst T (sym tied ∙ is) tt)

record IsFree (z r : ℤ) (l : List ℤ) : Type 0 where
  least : r ≤ℤ z
  apart : AllByRecursion (λ key. key ≢ r) l

free_apart : (low z : ℤ) (l : List ℤ) → Falls (z +ℤ pos 1) low l → IsFree z (free_below z l) l
free_apart low z [] falls = record { least = grind arith; apart = tt }
free_apart low z (key ∷ l) falls = by (is_eq (int_cmp key z)) refl (free_apart low (z -ℤ pos 1) l)
  where
    by : (b : Bool) → is_eq (int_cmp key z) ≡ b → (Falls ((z -ℤ pos 1) +ℤ pos 1) low l → IsFree (z -ℤ pos 1) (free_below (z -ℤ pos 1) l) l)
        → IsFree z (if b then free_below (z -ℤ pos 1) l else z) (key ∷ l)
    by true is more =
        let same : key ≡ z = tied_is int_cmp int_cmp-IsAntisymmetric key z is in
        let next : key ≡ (z -ℤ pos 1) +ℤ pos 1 = grind (arith, same) in
        let rest = more (subst (λ t. Falls t low l) next falls.2) in
        let few = rest.least in
        record { least = grind (arith, few); apart = ((λ bad. grind (arith, few, bad, same)), rest.apart) }
    by false is more =
        let other : key ≢ z = λ same. not_equal key z is same in
        let below : key <ℤ z = by_le z key (λ less. absurd (other (antisym_ℤ key z (grind (arith, falls.0)) less))) (λ more. more) in
        record { least = grind arith; apart = (other, falls_apart key low z l falls.2 (grind (arith, below))) }

next_apart : (top low : ℤ) (l : List ℤ) → Falls top low l → AllByRecursion (λ key. key ≢ next_of l) l
next_apart top low [] falls = tt
next_apart top low (key ∷ l) falls = by (is_eq (int_cmp key greatest)) refl
  where
    by : (b : Bool) → is_eq (int_cmp key greatest) ≡ b → AllByRecursion (λ k. k ≢ (if b then free_below greatest (key ∷ l) else key +ℤ pos 1)) (key ∷ l)
    by true is =
        let same : key ≡ greatest = tied_is int_cmp int_cmp-IsAntisymmetric key greatest is in
        (free_apart low greatest (key ∷ l) (grind (arith, same), falls.1, falls.2)).apart
    by false is = falls_apart (key +ℤ pos 1) low (key +ℤ pos 1) (key ∷ l) (grind arith, falls.1, falls.2) (grind arith)

all_turned : (P : ℤ → Type 0) (l : List ℤ) → AllByRecursion P (reverse l) → AllByRecursion P l
all_turned P [] all = tt
all_turned P (x ∷ l) all =
    let parts = all_at P (reverse l) (x ∷ []) (subst (AllByRecursion P) (reverse-append (x ∷ []) l) all) in
    (parts.1.0, all_turned P l parts.0)

none_equal : (r : ℤ) (l : List ℤ) → AllByRecursion (λ key. key ≢ r) l → list_any (eq_by_cmp int_cmp r) l ≡ false
none_equal r [] all = refl
none_equal r (key ∷ l) all = ap (λ b. b || list_any (eq_by_cmp int_cmp r) l) (not_tied int_cmp int_cmp-IsAntisymmetric r key (λ same. all.0 (sym same))) ∙ none_equal r l all.1

-- no row of the schema has it
pub next_is_free : (book : Book) (stored : List Stored) → Rises below_all stored → HasRows 5 stored book.schema → is_there (row_at (next_entry book) stored) ≡ false
next_is_free book stored rise has =
    let es : List (ℤ × Row) = entries_of 5 stored has.contents in
    let top = top_of (keys_of es) in
    let same : entries book.schema ≡ es = entries_are 5 below_all stored book.schema rise has in
    let apart = all_turned (λ key. key ≢ next_of (reverse (keys_of es))) (keys_of es) (next_apart top.top below_all (reverse (keys_of es)) (keys_fall 5 top.top below_all stored has.contents rise top.below)) in
    let none = is_some-find int_cmp (next_of (reverse (keys_of es))) es ∙ none_equal (next_of (reverse (keys_of es))) (keys_of es) apart in
    let N : List (ℤ × Row) → Type 0 = λ l. is_some (find int_cmp (next_of (reverse (keys_of l))) es) ≡ false in
    sym (there 5 (next_entry book) below_all stored has.contents rise has.each) ∙ subst N (sym same) none
