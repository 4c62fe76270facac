use Rattle.std.proofs.Common.{◌≡◌, ℕ, ℤ, Bool, true, false, cond, ◌&&◌, T, List, [], ◌∷◌, length, ◌≤◌, ◌+◌, ◌++◌, arith, length-append, subst, refl, sym, ap, ◌∙◌, Some}
use Rattle.std.specs.Ordering.{int_cmp, is_lt, match_ordering}
use Rattle.std.specs.declared.cmp.Ordering.{Ordering}
use Rattle.std.specs.declared.cmp.Ordering.TheVariants.{Less, Equal, Greater}
use Rattle.std.specs.Cmp.{int_cmp_total}
use Rattle.std.specs.List.{AllByRecursion, flat_map}
use Rattle.std.specs.List.Sorted.{IsStrictlySortedBy}
use Rattle.std.specs.Map.{lookup, keys_of}
use Rattle.std.specs.BTreeMap.{insert_entry, is_at}
use Rattle.shell_top.specs.Rows.{Texts, row_bytes, row_file}
use Rattle.shell_top.specs.Kept.{AreKept}
use Rattle.std.specs.FinMap.{entries, from_sorted, insert, get, empty, entries-from_sorted, entries-insert, get-from_sorted, same_entries_map, empty_of_len, len-entries}
use Rattle.std.specs.FinMap.Entries.{by_order, put, find, is_sorted, below_all}

abbrev Entries : Type 0
Entries = List (ℤ × List ℕ)

pub holds : (b : Bool) → b ≡ true → T b
holds true e = tt
holds false e = cc

same_choice : {X : Type 0} (o : Ordering) (a b c d : X) → c ≡ d → match_ordering o a b c ≡ by_order o a b d
same_choice Less a b c d e = refl
same_choice Equal a b c d e = refl
same_choice Greater a b c d e = e

-- the entry that a tree of the library puts in place stands where a finite map puts it
pub insert_entry-put : (es : Entries) (k : ℤ) (v : List ℕ) → insert_entry int_cmp es k v ≡ put int_cmp k v es
insert_entry-put [] k v = refl
insert_entry-put (e ∷ es) k v =
    same_choice (int_cmp k e.0) ((k, v) ∷ e ∷ es) ((e.0, v) ∷ es) (e ∷ insert_entry int_cmp es k v) (e ∷ put int_cmp k v es)
    (ap (λ fs. e ∷ fs) (insert_entry-put es k v))

lookup-find : (es : Entries) (k : ℤ) → lookup (is_at (int_cmp k)) es ≡ find int_cmp k es
lookup-find [] k = refl
lookup-find (e ∷ es) k = ap (cond (is_at (int_cmp k) e.0) (Some e.1)) (lookup-find es k)

below : (k : ℤ) (es : Entries) → AllByRecursion (λ y. int_cmp k y ≡ Less) (keys_of es) → below_all int_cmp k es ≡ true
below k [] h = refl
below k (e ∷ es) h = ap (λ o. is_lt o && below_all int_cmp k es) h.0 ∙ below k es h.1

both : (a b : Bool) → a ≡ true → b ≡ true → (a && b) ≡ true
both a b p q = ap (λ x. x && b) p ∙ q

-- the keys of a tree of the library rise
pub sorted-ordered : (es : Entries) → IsStrictlySortedBy int_cmp (keys_of es) → is_sorted int_cmp es ≡ true
unfolding IsStrictlySortedBy
sorted-ordered [] h = refl
sorted-ordered (e ∷ es) h = both (below_all int_cmp e.0 es) (is_sorted int_cmp es) (below e.0 es h.0) (sorted-ordered es h.1)

pub rows_get : (es : Entries) (k : ℤ) → is_sorted int_cmp es ≡ true → lookup (is_at (int_cmp k)) es ≡ get (from_sorted {R = int_cmp} es) k
rows_get es k s = lookup-find es k ∙ sym (get-from_sorted int_cmp es k (holds _ s))

pub rows_insert : (old new : Entries) (k : ℤ) (v : List ℕ) → is_sorted int_cmp old ≡ true → is_sorted int_cmp new ≡ true → new ≡ insert_entry int_cmp old k v
    → from_sorted {R = int_cmp} new ≡ insert (from_sorted old) k v
rows_insert old new k v s t e =
    same_entries_map _ _ (
    entries-from_sorted int_cmp new (holds _ t) ∙ e ∙ insert_entry-put old k v
    ∙ ap (put int_cmp k v) (sym (entries-from_sorted int_cmp old (holds _ s)))
    ∙ sym (entries-insert int_cmp_total (from_sorted old) k v))

pub rows_none : (es : Entries) → es ≡ [] → from_sorted {R = int_cmp} es ≡ empty
rows_none es e =
    ap (from_sorted {R = int_cmp}) e
    ∙ empty_of_len (from_sorted []) (len-entries (from_sorted {R = int_cmp} []) ∙ ap length (entries-from_sorted int_cmp [] tt))

-- what holds of each entry and of a new one holds of each entry with that one
all_put : (P : List ℕ → Type 0) (es : Entries) (k : ℤ) (v : List ℕ) → AllByRecursion (λ e. P e.1) es → P v → AllByRecursion (λ e. P e.1) (insert_entry int_cmp es k v)
all_put P [] k v h new = (new, tt)
all_put P (e ∷ es) k v h new =
    elim (int_cmp k e.0) as (λ o. AllByRecursion (λ x. P x.1) (match_ordering o ((k, v) ∷ e ∷ es) ((e.0, v) ∷ es) (e ∷ insert_entry int_cmp es k v))) [
      | Less ↦ (new, h)
      | Equal ↦ (new, h.1)
      | Greater ↦ (h.0, all_put P es k v h.1 new)
    ]

pub kept_put : (old new : Entries) (k : ℤ) (v : List ℕ) → AreKept old → length v ≤ 65536 → IsStrictlySortedBy int_cmp (keys_of new) → new ≡ insert_entry int_cmp old k v → AreKept new
kept_put old new k v kept short ordered is = record {
  sorted = sorted-ordered new ordered;
  short = let P : Entries → Type 0 = λ es. AllByRecursion (λ e. length e.1 ≤ 65536) es in subst P (sym is) (all_put (λ t. length t ≤ 65536) old k v kept.short short);
}

pub row_file_put : (es : Entries) (k : ℤ) (v : List ℕ) (rows : Texts) → is_sorted int_cmp es ≡ true → from_sorted es ≡ rows
    → flat_map row_bytes (put int_cmp k v es) ≡ row_file (insert rows k v)
row_file_put es k v rows s is =
    ap (λ fs. flat_map row_bytes (put int_cmp k v fs)) (sym (entries-from_sorted int_cmp es (holds _ s)))
    ∙ ap (flat_map row_bytes) (sym (entries-insert int_cmp_total (from_sorted es) k v))
    ∙ ap (λ m. row_file (insert m k v)) is

length-row_bytes : (k : ℤ) (v : List ℕ) → length (row_bytes (k, v)) ≡ 12 + length v
unfolding row_bytes
length-row_bytes k v = omega arith

longer_choice : (o : Ordering) (k : ℤ) (v : List ℕ) (e : ℤ × List ℕ) (es fs : Entries)
    → length (flat_map row_bytes fs) ≤ length (flat_map row_bytes es) + (12 + length v)
    → length (flat_map row_bytes (by_order o ((k, v) ∷ e ∷ es) ((e.0, v) ∷ es) (e ∷ fs))) ≤ length (flat_map row_bytes (e ∷ es)) + (12 + length v)
longer_choice Less k v e es fs h =
    omega (arith, length-row_bytes k v, length-append (row_bytes (k, v)) (row_bytes e ++ flat_map row_bytes es), length-append (row_bytes e) (flat_map row_bytes es))
longer_choice Equal k v e es fs h =
    omega (arith, length-row_bytes e.0 v, length-append (row_bytes (e.0, v)) (flat_map row_bytes es), length-append (row_bytes e) (flat_map row_bytes es))
longer_choice Greater k v e es fs h =
    omega (arith, h, length-append (row_bytes e) (flat_map row_bytes fs), length-append (row_bytes e) (flat_map row_bytes es))

put_longer : (es : Entries) (k : ℤ) (v : List ℕ) → length (flat_map row_bytes (put int_cmp k v es)) ≤ length (flat_map row_bytes es) + (12 + length v)
put_longer [] k v = omega (arith, length-row_bytes k v, length-append (row_bytes (k, v)) [])
put_longer (e ∷ es) k v = longer_choice (int_cmp k e.0) k v e es (put int_cmp k v es) (put_longer es k v)

-- a put makes the row file longer by at most its row
pub row_file_longer : (rows : Texts) (k : ℤ) (v : List ℕ) → length (row_file (insert rows k v)) ≤ length (row_file rows) + (12 + length v)
row_file_longer rows k v =
    let P : Entries → Type 0 = λ es. length (flat_map row_bytes es) ≤ length (row_file rows) + (12 + length v) in
    subst P (sym (entries-insert int_cmp_total rows k v)) (put_longer (entries rows) k v)
