-- Walks, a row a turn.
use Rattle.std.proofs.Common.{◌≡◌, ℕ, ◌<◌, true, ℤ, pos, negsuc, ◌+ℤ◌, ◌≤ℤ◌, ◌<ℤ◌, List, [], ◌∷◌, ◌++◌, Some, IsTrue, inl, inr, refl, sym, subst, append_assoc, SFits, w64, arith, rules}
use Rattle.std.proofs.lemmas.Int.{ints}
use Rattle.std.proofs.lemmas.List.{append-nil}
use Rattle.std.specs.Int.{int_gap}
use Rattle.std.specs.Int.Signed.{lt_z}
use borrow.Author.Gap.{up_fits}
use Rattle.page_list.specs.Pages.{Pages}
use Rattle.page_pool.specs.Space.{SpaceState, Steady, Stays}
use Rattle.db_format.specs.Record.{IsRecord}
use Rattle.db_format.specs.declared.value.Value.{Value}
use Rattle.db_format.specs.declared.fault.SpaceFault.{SpaceFault}
use Rattle.tree_model.specs.declared.ends.WalkEnd.{WalkEnd}
use Rattle.tree_model.specs.declared.ends.WalkEnd.TheVariants.{End, StopsAt}
use Rattle.tree_model.specs.Walk.{IsNext, WalksFrom, Walk}
use Rattle.tree_search.specs.Search.{SearchRefused}
use Rattle.tree_search.proofs.StateLemmas.{refused_on, refused_as}
use Rattle.table_rows.specs.Rows.{IsNextRecord, AreRecords, WalksOver, StopsAfter}
use Rattle.table_rows.specs.Steps.{HasGone, HasRows}

-- ---- the measure: how far the key is below the last rowid

gap_is : (a b : ℤ) → a ≤ℤ b → a +ℤ pos (int_gap a b) ≡ b
gap_is (pos a) (pos b) h = omega (arith, ints)
gap_is (pos a) (negsuc b) h = absurd (omega (arith, ints))
gap_is (negsuc a) (pos b) h = omega (arith, ints)
gap_is (negsuc a) (negsuc b) h = omega (arith, ints)

pub gap_falls : (key rowid next high : ℤ) → key ≤ℤ rowid → rowid <ℤ high → next ≡ rowid +ℤ pos 1 → int_gap next high < int_gap key high
gap_falls key rowid next high behind below is =
    let new = gap_is next high (omega (arith, ints)) in
    let old = gap_is key high (omega (arith, ints)) in
    omega (arith, ints)

less : (a b : ℤ) → a <ℤ b → lt_z a b ≡ true
less a b h = search rules

-- below another rowid there is a next one
pub next_fits : (rowid high : ℤ) → SFits w64 rowid → SFits w64 high → rowid <ℤ high → SFits w64 (rowid +ℤ pos 1)
next_fits rowid high f g below = up_fits w64 rowid high (less rowid high below) f g

-- ---- the rows so far

pub gone_none : (columns : ℕ) (pages : Pages) (root : ℕ) (low high : ℤ) → HasGone columns pages root low high [] low
gone_none columns pages root low high = record {
  none = λ _. (refl, refl);
  on = λ more end within walks. inr (within, walks);
}

one_more : (stored more : List (ℤ × List ℕ)) (row : ℤ × List ℕ) → stored ++ row ∷ more ≡ (stored ++ row ∷ []) ++ more
one_more stored more row = sym (append_assoc stored (row ∷ []) more)

gone_row : (columns : ℕ) (pages : Pages) (root : ℕ) (low high : ℤ) (stored : List (ℤ × List ℕ)) (key next : ℤ) (row : ℤ × List ℕ)
    → HasGone columns pages root low high stored key → key ≤ℤ high → IsNext (Some columns) pages root high key row → row.0 <ℤ high
    → next ≡ row.0 +ℤ pos 1 → HasGone columns pages root low high (stored ++ row ∷ []) next
gone_row columns pages root low high stored key next row gone within follows below is = record {
  none = λ above. absurd (omega (arith, ints));
  on = λ more end _ walks.
      let P : List (ℤ × List ℕ) → Type 0 = λ l. Walk (Some columns) pages root low high l end in
      let Q : ℤ → Type 0 = λ k. WalksFrom (Some columns) pages root high k more end in
      subst P (one_more stored more row) (gone.on (row ∷ more) end within (follows, inr (below, subst Q is walks)));
}

-- the last rowid has a row
gone_last : (columns : ℕ) (pages : Pages) (root : ℕ) (low high : ℤ) (stored : List (ℤ × List ℕ)) (key : ℤ) (row : ℤ × List ℕ)
    → HasGone columns pages root low high stored key → key ≤ℤ high → IsNext (Some columns) pages root high key row → row.0 ≡ high
    → Walk (Some columns) pages root low high (stored ++ row ∷ []) End
gone_last columns pages root low high stored key row gone within follows last = gone.on (row ∷ []) End within (follows, inl (last, refl, refl))

-- no row follows
gone_end : (columns : ℕ) (pages : Pages) (root : ℕ) (low high : ℤ) (stored : List (ℤ × List ℕ)) (key : ℤ) (end : WalkEnd)
    → HasGone columns pages root low high stored key → Walk (Some columns) pages root key high [] end → Walk (Some columns) pages root low high stored end
gone_end columns pages root low high stored key end gone (inl (over, _, is)) =
    let none = gone.none over in
    inl (subst (λ (k : ℤ). high <ℤ k) none.1 over, none.0, is)
gone_end columns pages root low high stored key end gone (inr (within, walks)) =
    let P : List (ℤ × List ℕ) → Type 0 = λ l. Walk (Some columns) pages root low high l end in
    subst P (append-nil stored) (gone.on [] end within walks)

-- ---- and their records

record_more : (stored : List (ℤ × List ℕ)) (rows : List (ℤ × List Value)) (s : ℤ × List ℕ) (r : ℤ × List Value) → AreRecords stored rows → r.0 ≡ s.0 → IsRecord s.1 r.1
    → AreRecords (stored ++ s ∷ []) (rows ++ r ∷ [])
record_more [] [] s r all keyed is = ((keyed, is), tt)
record_more [] (row ∷ more) s r all keyed is = absurd all
record_more (row ∷ more) [] s r all keyed is = absurd all
record_more (row ∷ more) (first ∷ others) s r all keyed is = (all.0, record_more more others s r all.1 keyed is)

pub rows_none : (columns : ℕ) (pages : Pages) (root : ℕ) (low high : ℤ) → HasRows columns pages root low high [] low
rows_none columns pages root low high = record { stored = []; gone = gone_none columns pages root low high; records = tt }

pub rows_more : (columns : ℕ) (pages : Pages) (root : ℕ) (low high : ℤ) (rows longer : List (ℤ × List Value)) (key next : ℤ) (row : ℤ × List Value)
    → HasRows columns pages root low high rows key → IsNextRecord columns pages root key high row → row.0 <ℤ high → longer ≡ rows ++ row ∷ [] → next ≡ row.0 +ℤ pos 1
    → HasRows columns pages root low high longer next
rows_more columns pages root low high rows longer key next row has follows below longer_is next_is = record {
  stored = has.stored ++ (row.0, follows.payload) ∷ [];
  gone = gone_row columns pages root low high has.stored key next (row.0, follows.payload) has.gone follows.in_range follows.next below next_is;
  records =
      let P : List (ℤ × List Value) → Type 0 = λ l. AreRecords (has.stored ++ (row.0, follows.payload) ∷ []) l in
      subst P (sym longer_is) (record_more has.stored rows (row.0, follows.payload) row has.records refl follows.is_record);
}

pub rows_last : (columns : ℕ) (pages : Pages) (root : ℕ) (low high : ℤ) (rows longer : List (ℤ × List Value)) (key : ℤ) (row : ℤ × List Value)
    → HasRows columns pages root low high rows key → IsNextRecord columns pages root key high row → row.0 ≡ high → longer ≡ rows ++ row ∷ []
    → WalksOver columns pages root low high longer End
rows_last columns pages root low high rows longer key row has follows last longer_is = record {
  stored = has.stored ++ (row.0, follows.payload) ∷ [];
  walks = gone_last columns pages root low high has.stored key (row.0, follows.payload) has.gone follows.in_range follows.next last;
  records =
      let P : List (ℤ × List Value) → Type 0 = λ l. AreRecords (has.stored ++ (row.0, follows.payload) ∷ []) l in
      subst P (sym longer_is) (record_more has.stored rows (row.0, follows.payload) row has.records refl follows.is_record);
}

pub rows_end : (columns : ℕ) (pages : Pages) (root : ℕ) (low high : ℤ) (rows : List (ℤ × List Value)) (key : ℤ) (end : WalkEnd) → HasRows columns pages root low high rows key
    → Walk (Some columns) pages root key high [] end → WalksOver columns pages root low high rows end
rows_end columns pages root low high rows key end has ends = record {
  stored = has.stored;
  walks = gone_end columns pages root low high has.stored key end has.gone ends;
  records = has.records;
}

-- the walk stops
pub rows_refused : (columns : ℕ) (old mid new : SpaceState) (root : ℕ) (low high : ℤ) (rows : List (ℤ × List Value)) (key : ℤ) (fault : SpaceFault) → Steady old mid → Stays old mid
    → (IsTrue old.tells → HasRows columns old.pages root low high rows key)
    → SearchRefused mid new (λ f. Walk (Some columns) mid.pages root key high [] (StopsAt f)) fault
    → SearchRefused old new (StopsAfter columns old.pages root low high) fault
rows_refused columns old mid new root low high rows key fault steady stays has refused =
    refused_as old new (λ f. Walk (Some columns) old.pages root key high [] (StopsAt f)) (StopsAfter columns old.pages root low high) fault
    (λ t f stops. record { rows = rows; over = rows_end columns old.pages root low high rows key (StopsAt f) (has t) stops })
    (refused_on old mid new (λ p f. Walk (Some columns) p root key high [] (StopsAt f)) fault steady stays refused)
