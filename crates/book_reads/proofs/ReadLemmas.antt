-- Reads of any pages: each has one answer, and rows are read one after the other.
use Rattle.std.proofs.Common.{◌≡◌, ◌≢◌, ◌≤◌, ◌⊎◌, inl, inr, ℕ, ℤ, pos, ◌+ℤ◌, ◌≤ℤ◌, ◌<ℤ◌, List, [], ◌∷◌, ◌++◌, map, Option, Some, None, refl, sym, ap, ap₂, subst, ◌∙◌, arith}
use Rattle.std.specs.List.{AllByRecursion, AllZip}
use Rattle.std.specs.FinMap as map
use Rattle.page_list.specs.Pages.{Pages}
use Rattle.db_format.specs.Record.{OneRecord}
use Rattle.db_format.specs.Create.{OneCreate}
use Rattle.db_format.specs.Schema.{Table as Made, IsPlainRow, tables_in}
use Rattle.db_format.specs.Plain.{by_name}
use Rattle.db_format.specs.declared.plain.PlainTable.{PlainTable}
use Rattle.db_format.specs.declared.value.Value.{Value}
use Rattle.tree_model.specs.declared.ends.Fault.{Fault}
use Rattle.tree_model.specs.declared.ends.PathEnd.TheVariants.{HasPayload, NoRow, Ends}
use Rattle.tree_model.specs.declared.ends.WalkEnd.{WalkEnd}
use Rattle.tree_model.specs.declared.ends.WalkEnd.TheVariants.{End, StopsAt}
use Rattle.tree_model.specs.Whole.{greatest}
use Rattle.tree_model.specs.declared.ends.Next.{Next}
use Rattle.tree_model.specs.declared.ends.Next.TheVariants.{Found}
use Rattle.tree_page.specs.declared.cell.LeafCell.{LeafCell}
use Rattle.tree_model.specs.Walk.{Path, IsReadable, IsLast, IsNext, WalksFrom, Walk}
use Rattle.tree_model.specs.Laws.{OneNext, OnePath, OneWalk}
use Rattle.tree_model.proofs.OneWitnessLemmas.{same_found}
use Rattle.book_model.specs.Book.{Name}
use Rattle.book_model.specs.Pages.{filled, foreign_in, once}
use Rattle.book_reads.specs.Reads.{least, ReadsAs, ReadsRows, ReadsNext, HasRowOf, HasSchema, SchemaMeets, Says, SchemaSays, IsEntry}
use Rattle.book_reads.specs.Laws.{OneReading, RowByRow}

one_read : OneRecord → (columns : ℕ) (stored : ℤ × List ℕ) (a b : ℤ × List Value) → ReadsAs columns stored a → ReadsAs columns stored b → a ≡ b
one_read one columns stored a b p q =
    let keys = p.keyed ∙ sym q.keyed in
    let values = p.filled_up ∙ ap (filled columns) (one stored.1 p.values q.values p.is_record q.is_record) ∙ sym q.filled_up in
    λ i. (keys i, values i)

same_reads : OneRecord → (columns : ℕ) (stored : List (ℤ × List ℕ)) (a b : List (ℤ × List Value)) → AllZip (ReadsAs columns) stored a → AllZip (ReadsAs columns) stored b → a ≡ b
same_reads one columns [] [] [] p q = refl
same_reads one columns [] (x ∷ a) b p q = absurd p
same_reads one columns [] [] (y ∷ b) p q = absurd q
same_reads one columns (row ∷ stored) [] b p q = absurd p
same_reads one columns (row ∷ stored) (x ∷ a) [] p q = absurd q
same_reads one columns (row ∷ stored) (x ∷ a) (y ∷ b) p q =
    ap₂ (λ (r : ℤ × List Value) (l : List (ℤ × List Value)). r ∷ l) (one_read one columns row x y p.0 q.0) (same_reads one columns stored a b p.1 q.1)

pub one_rows : OneRecord → OneWalk → (columns : ℕ) (pages : Pages) (root : ℕ) (low high : ℤ) (some more : List (ℤ × List Value)) (a b : WalkEnd) →
    ReadsRows columns pages root low high some a → ReadsRows columns pages root low high more b → (some ≡ more) × (a ≡ b)
one_rows one walk columns pages root low high some more a b p q =
    let same = walk (Some columns) pages root low high p.stored q.stored a b p.walks q.walks in
    let P : List (ℤ × List ℕ) → Type 0 = λ l. AllZip (ReadsAs columns) l more in
    (same_reads one columns p.stored some more p.each (subst P (sym same.0) q.each), same.1)

-- the ends of a path are different
not_found : (payload : List ℕ) → ¬ (NoRow ≡ HasPayload payload)
not_found payload e = cc

not_stopped : (payload : List ℕ) (fault : Fault) → ¬ (HasPayload payload ≡ Ends fault)
not_stopped payload fault e = cc

not_faulty : (fault : Fault) → ¬ (NoRow ≡ Ends fault)
not_faulty fault e = cc

same_payload : (p q : List ℕ) → HasPayload p ≡ HasPayload q → p ≡ q
same_payload p q e = cc

pub one_row : OneRecord → OnePath → (columns : ℕ) (pages : Pages) (root : ℕ) (rowid : ℤ) (a b : Option (List Value)) → HasRowOf columns pages root rowid a → HasRowOf columns pages root rowid b → a ≡ b
one_row one path columns pages root rowid None None p q = refl
one_row one path columns pages root rowid None (Some w) p q = absurd (not_found q.0 (path (Some columns) pages root rowid NoRow (HasPayload q.0) p q.1))
one_row one path columns pages root rowid (Some v) None p q = absurd (not_found p.0 (path (Some columns) pages root rowid NoRow (HasPayload p.0) q p.1))
one_row one path columns pages root rowid (Some v) (Some w) p q =
    let same = same_payload p.0 q.0 (path (Some columns) pages root rowid (HasPayload p.0) (HasPayload q.0) p.1 q.1) in
    let P : List ℕ → Type 0 = λ l. ReadsAs columns (rowid, l) (rowid, w) in
    ap (λ (r : ℤ × List Value). Some r.1) (one_read one columns (rowid, p.0) (rowid, v) (rowid, w) p.2 (subst P (sym same) q.2))

pub row_no_fault : OnePath → (columns : ℕ) (pages : Pages) (root : ℕ) (rowid : ℤ) (a : Option (List Value)) (fault : Fault) → HasRowOf columns pages root rowid a
    → ¬ (Path (Some columns) pages root rowid (Ends fault))
row_no_fault path columns pages root rowid None fault p ends = not_faulty fault (path (Some columns) pages root rowid NoRow (Ends fault) p ends)
row_no_fault path columns pages root rowid (Some v) fault p ends = not_stopped p.0 fault (path (Some columns) pages root rowid (HasPayload p.0) (Ends fault) p.1 ends)

-- ---- the next row

same_cell : (m n : ℕ) (c d : LeafCell) → Found m c ≡ Found n d → c ≡ d
same_cell m n c d e = cc

one_next_row : OneRecord → OneNext → (columns : ℕ) (pages : Pages) (root : ℕ) (high key : ℤ) (a b : ℤ × List Value) → ReadsNext columns pages root high key a → ReadsNext columns pages root high key b → a ≡ b
one_next_row one next columns pages root high key a b p q =
    let met = next.once pages root key (Found p.next.leaf p.next.cell) (Found q.next.leaf q.next.cell) p.next.sought q.next.sought in
    let cells = same_cell p.next.leaf q.next.leaf p.next.cell q.next.cell met in
    let P : LeafCell → Type 0 = λ c. IsReadable (Some columns) pages c q.stored.1 in
    let payloads = next.read_once (Some columns) pages p.next.cell p.stored.1 q.stored.1 p.next.readable (subst P (sym cells) q.next.readable) in
    let keys = p.next.keyed ∙ ap (λ (c : LeafCell). c.rowid) cells ∙ sym q.next.keyed in
    let stored : p.stored ≡ q.stored = λ i. (keys i, payloads i) in
    let Q : ℤ × List ℕ → Type 0 = λ s. ReadsAs columns s b in
    one_read one columns p.stored a b p.reads (subst Q (sym stored) q.reads)

-- ---- the schema

pub none_and_some : (n : ℕ) → n ≡ 0 → ¬ (1 ≤ n)
none_and_some n none some = omega arith

end_is_no_stop : (fault : Fault) → ¬ (End ≡ StopsAt fault)
end_is_no_stop fault e = cc

same_fault : (a b : Fault) → StopsAt a ≡ StopsAt b → a ≡ b
same_fault a b e = cc

pub one_schema : OneRecord → OneWalk → (pages : Pages) (some more : List (ℤ × List Value)) → HasSchema pages some → HasSchema pages more → some ≡ more
one_schema one walk pages some more (inl p) (inl q) = p.1 ∙ sym q.1
one_schema one walk pages some more (inl p) (inr q) = absurd (none_and_some pages.size p.0 q.0)
one_schema one walk pages some more (inr p) (inl q) = absurd (none_and_some pages.size q.0 p.0)
one_schema one walk pages some more (inr p) (inr q) = (one_rows one walk 5 pages 1 least greatest some more End End p.1 q.1).0

not_both : OneRecord → OneWalk → (pages : Pages) (rows : List (ℤ × List Value)) (fault : Fault) → HasSchema pages rows → ¬ (SchemaMeets pages fault)
not_both one walk pages rows fault (inl p) meets = none_and_some pages.size p.0 meets.0
not_both one walk pages rows fault (inr p) meets = end_is_no_stop fault (one_rows one walk 5 pages 1 least greatest rows meets.1.0 End (StopsAt fault) p.1 meets.1.1).1

one_fault : OneRecord → OneWalk → (pages : Pages) (a b : Fault) → SchemaMeets pages a → SchemaMeets pages b → a ≡ b
one_fault one walk pages a b p q = same_fault a b (one_rows one walk 5 pages 1 least greatest p.1.0 q.1.0 (StopsAt a) (StopsAt b) p.1.1 q.1.1).1

same_says : OneCreate → (size : ℕ) (rows : List (List Value)) (p q : List PlainTable) (f g s t : List Name) → Says size rows p f s → Says size rows q g t → (p ≡ q) × (f ≡ g) × (s ≡ t)
same_says one size rows p q f g s t a b =
    let founds = same_found one size rows rows a.found b.found a.each b.each in (
      a.plain_are ∙ ap (λ (l : List (Option Made)). map.values (by_name (tables_in l))) founds ∙ sym b.plain_are,
      a.foreign_are ∙ ap (λ (l : List (Option Made)). once (foreign_in rows l)) founds ∙ sym b.foreign_are,
      a.taken_are ∙ sym b.taken_are,
    )

one_saying : OneRecord → OneCreate → OneWalk → (pages : Pages) (p q : List PlainTable) (f g s t : List Name) → SchemaSays pages p f s → SchemaSays pages q g t → (p ≡ q) × (f ≡ g) × (s ≡ t)
one_saying one create walk pages p q f g s t a b =
    let rows = one_schema one walk pages a.rows b.rows a.has b.has in
    let P : List (ℤ × List Value) → Type 0 = λ l. Says pages.size (map (λ row. row.1) l) q g t in
    same_says create pages.size (map (λ row. row.1) a.rows) p q f g s t a.says (subst P (sym rows) b.says)

-- of two splits of a list by the first row that makes a table of a name, each has the same row
same_split : (P : ℤ × List Value → Type 0) (a b : ℤ × List Value) (before before' behind behind' : List (ℤ × List Value)) → before ++ a ∷ behind ≡ before' ++ b ∷ behind' → P a → P b
    → AllByRecursion (λ row. ¬ (P row)) before → AllByRecursion (λ row. ¬ (P row)) before' → a ≡ b
same_split P a b [] [] behind behind' e p q none none' = cc
same_split P a b [] (r ∷ rest) behind behind' e p q none none' = let same : a ≡ r = cc in absurd (none'.0 (subst P same p))
same_split P a b (r ∷ rest) [] behind behind' e p q none none' = let same : b ≡ r = cc in absurd (none.0 (subst P same q))
same_split P a b (r ∷ rest) (r' ∷ rest') behind behind' e p q none none' =
    let tails : rest ++ a ∷ behind ≡ rest' ++ b ∷ behind' = cc in same_split P a b rest rest' behind behind' tails p q none.1 none'.1

abbrev makes_named : ℕ → List (List Value) → Name → ℤ × List Value → Type 0
makes_named size schema name row = (made : Made) × IsPlainRow size schema row.1 made × (made.create.name ≡ name)

none_before : (size : ℕ) (schema : List (List Value)) (name : Name) (before : List (ℤ × List Value)) → AllByRecursion (λ row. (other : Made) → IsPlainRow size schema row.1 other → other.create.name ≢ name) before
    → AllByRecursion (λ row. ¬ (makes_named size schema name row)) before
none_before size schema name [] first = tt
none_before size schema name (row ∷ before) first = ((λ m. first.0 m.0 m.1 m.2), none_before size schema name before first.1)

one_entry : (size : ℕ) (rows : List (ℤ × List Value)) (name : Name) (a b : ℤ) → IsEntry size rows name a → IsEntry size rows name b → a ≡ b
one_entry size rows name a b p q =
    let schema : List (List Value) = map (λ (row : ℤ × List Value). row.1) rows in
    ap (λ (row : ℤ × List Value). row.0) (same_split (makes_named size schema name) (a, p.values) (b, q.values) p.before q.before p.behind q.behind (sym p.split ∙ q.split)
    (p.table, p.makes, p.named) (q.table, q.makes, q.named) (none_before size schema name p.before p.first) (none_before size schema name q.before q.first))

pub one_reading : OneRecord → OneCreate → OneNext → OnePath → OneWalk → OneReading
one_reading one create next path walk = record {
  rows = one_rows one walk;
  row = one_row one path;
  no_fault = row_no_fault path;
  next = one_next_row one next;
  schema = one_schema one walk;
  not_both = not_both one walk;
  meets = one_fault one walk;
  says = one_saying one create walk;
  entry = one_entry;
}

-- ---- one row after the other

-- a walk that gives a row begins at most at its end
begins : {P Q : Type 0} (low high : ℤ) (row : ℤ × List ℕ) (more : List (ℤ × List ℕ)) → ((high <ℤ low) × (row ∷ more ≡ []) × P) ⊎ ((low ≤ℤ high) × Q) → (low ≤ℤ high) × Q
begins low high row more (inl p) = absurd cc
begins low high row more (inr q) = q

none_zipped : (columns : ℕ) (rows : List (ℤ × List Value)) → AllZip (ReadsAs columns) [] rows → rows ≡ []
none_zipped columns [] each = refl
none_zipped columns (row ∷ rows) each = absurd each

first_row : (columns : ℕ) (pages : Pages) (root : ℕ) (low high : ℤ) (row : ℤ × List Value) (more : List (ℤ × List Value)) (end : WalkEnd) (stored : List (ℤ × List ℕ))
    → Walk (Some columns) pages root low high stored end → AllZip (ReadsAs columns) stored (row ∷ more)
    → (low ≤ℤ high) × ReadsNext columns pages root high low row × (((row.0 ≡ high) × (more ≡ []) × (end ≡ End)) ⊎ ((row.0 <ℤ high) × ReadsRows columns pages root (row.0 +ℤ pos 1) high more end))
first_row columns pages root low high row more end [] walks each = absurd each
first_row columns pages root low high row more end (s ∷ stored) walks each =
    let walk = begins low high s stored walks in
    (walk.0, record { stored = s; next = walk.1.0; reads = each.0 }, by walk.1.1)
  where
    by : ((s.0 ≡ high) × (stored ≡ []) × (end ≡ End)) ⊎ ((s.0 <ℤ high) × WalksFrom (Some columns) pages root high (s.0 +ℤ pos 1) stored end)
        → ((row.0 ≡ high) × (more ≡ []) × (end ≡ End)) ⊎ ((row.0 <ℤ high) × ReadsRows columns pages root (row.0 +ℤ pos 1) high more end)
    by (inl p) =
        let P : List (ℤ × List ℕ) → Type 0 = λ l. AllZip (ReadsAs columns) l more in
        inl (each.0.keyed ∙ p.0, none_zipped columns more (subst P p.1 each.1), p.2)
    by (inr q) =
        let P : ℤ → Type 0 = λ z. ReadsRows columns pages root (z +ℤ pos 1) high more end in
        let L : ℤ → Type 0 = λ z. z <ℤ high in
        let on : (s.0 +ℤ pos 1) ≤ℤ high = grind (arith, q.0) in
        inr (subst L (sym each.0.keyed) q.0, subst P (sym each.0.keyed) (record { stored = stored; walks = inr (on, q.1); each = each.1 }))

last_row : (columns : ℕ) (pages : Pages) (root : ℕ) (low high : ℤ) (row : ℤ × List Value) → low ≤ℤ high → ReadsNext columns pages root high low row → row.0 ≡ high
    → ReadsRows columns pages root low high (row ∷ []) End
last_row columns pages root low high row some next is = record {
  stored = next.stored ∷ [];
  walks = inr (some, (next.next, inl (sym next.reads.keyed ∙ is, refl, refl)));
  each = (next.reads, tt);
}

goes_on : {P Q R : Type 0} (low high : ℤ) → low ≤ℤ high → ((high <ℤ low) × P × R) ⊎ ((low ≤ℤ high) × Q) → Q
goes_on low high some (inl p) = absurd (grind (arith, some, p.0))
goes_on low high some (inr q) = q.1

longer : (columns : ℕ) (pages : Pages) (root : ℕ) (low high : ℤ) (row : ℤ × List Value) (more : List (ℤ × List Value)) (end : WalkEnd) → low ≤ℤ high
    → ReadsNext columns pages root high low row → row.0 <ℤ high → ReadsRows columns pages root (row.0 +ℤ pos 1) high more end → ReadsRows columns pages root low high (row ∷ more) end
longer columns pages root low high row more end some next less rest =
    let L : ℤ → Type 0 = λ z. z <ℤ high in
    let P : ℤ → Type 0 = λ z. Walk (Some columns) pages root (z +ℤ pos 1) high rest.stored end in
    let before : next.stored.0 <ℤ high = subst L next.reads.keyed less in
    let walks = subst P next.reads.keyed rest.walks in
    record {
      stored = next.stored ∷ rest.stored;
      walks = inr (some, (next.next, inr (before, goes_on (next.stored.0 +ℤ pos 1) high (grind (arith, before)) walks)));
      each = (next.reads, rest.each);
    }

-- where a row is found, a walk gives one
gives_none : OneNext → (columns : ℕ) (pages : Pages) (root : ℕ) (low high : ℤ) (row : ℤ × List ℕ) (end : WalkEnd) → low ≤ℤ high → IsNext (Some columns) pages root high low row
    → ¬ (Walk (Some columns) pages root low high [] end)
gives_none next columns pages root low high row end some is (inl none) = grind (arith, some, none.0)
gives_none next columns pages root low high row end some is (inr walks) =
    let met = next.once pages root low walks.1.0 (Found is.leaf is.cell) walks.1.1 is.sought in
    let P : Next → Type 0 = λ n. IsLast (Some columns) pages high n end in
    by (subst P met walks.1.2)
  where
    by : ¬ (IsLast (Some columns) pages high (Found is.leaf is.cell) end)
    by (inl past) = let within = is.within in grind (arith, within, past.0)
    by (inr stops) = next.not_both (Some columns) pages is.leaf is.cell row.1 stops.1.0 is.readable stops.1.1

begins_with : OneRecord → OneNext → (columns : ℕ) (pages : Pages) (root : ℕ) (low high : ℤ) (row : ℤ × List Value) (rows : List (ℤ × List Value)) (end : WalkEnd) (stored : List (ℤ × List ℕ))
    → low ≤ℤ high → ReadsNext columns pages root high low row → Walk (Some columns) pages root low high stored end → AllZip (ReadsAs columns) stored rows
    → (more : List (ℤ × List Value)) × (rows ≡ row ∷ more)
begins_with one next columns pages root low high row rows end [] some is walks each = absurd (gives_none next columns pages root low high is.stored end some is.next walks)
begins_with one next columns pages root low high row [] end (s ∷ stored) some is walks each = absurd each
begins_with one next columns pages root low high row (r ∷ rows) end (s ∷ stored) some is walks each =
    let reads = first_row columns pages root low high r rows end (s ∷ stored) walks each in
    (rows, ap (λ (x : ℤ × List Value). x ∷ rows) (one_next_row one next columns pages root high low r row reads.1 is))

pub row_by_row : OneRecord → OneNext → RowByRow
row_by_row one next = record {
  first = λ columns pages root low high row more end reads. first_row columns pages root low high row more end reads.stored reads.walks reads.each;
  last = last_row;
  longer = longer;
  begins = λ columns pages root low high row rows end some is reads. begins_with one next columns pages root low high row rows end reads.stored some is reads.walks reads.each;
}
