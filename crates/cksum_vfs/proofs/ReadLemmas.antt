-- One page read below, and what is given of it above.
use Rattle.std.proofs.Common.{◌≡◌, ◌⊎◌, ℕ, ◌+◌, ◌-◌, ◌*◌, ◌/◌, ◌%◌, ◌<◌, ◌≤◌, true, false, List, length, min, take, drop, replicate, slice_get, get_or, IsTrue, Some, Ok, Err, inl, inr, refl, ap, sym, subst, ◌∙◌, arith, length-append}
use Rattle.std.proofs.lemmas.List.{length-replicate, get_or-replicate, length-take-le}
use Rattle.std.proofs.lemmas.Option.{slice_get-get_or}
use Rattle.byte_base.specs.Numbers.{number_at}
use Rattle.vfs_model.specs.Places.{get-take, get-drop, get-append_left, get-append_right, same_places}
use Rattle.vfs_model.specs.Name.{kind_of}
use Rattle.vfs_model.specs.Store.{present}
use Rattle.vfs_model.specs.View.{through}
use Rattle.vfs_model.specs.Sums.{sum_of, kept_size, fails, page_at, without_sums}
use Rattle.vfs_model.specs.declared.name.Kind.{Kind}
use Rattle.vfs_model.specs.declared.name.Kind.TheVariants.{Main}
use Rattle.vfs_trait.specs.declared.fault.VfsFault.{VfsFault}
use Rattle.vfs_trait.specs.declared.fault.VfsFault.TheVariants.{Failed, Memory, Busy, Full, BadPage}
use Rattle.vfs_trait.specs.State.{StackState, Stands}
use Rattle.vfs_trait.specs.Calls.{ReadCaused, MeetsIn, FirstBad, SumsOf, Touches, FillsUp, Reads, sums_number}
use Rattle.cksum_vfs.specs.Summed.{own_size, file_over, over, IsUnchecked}
use Rattle.cksum_vfs.specs.Page.{page_bad, Names, hidden}
use Rattle.cksum_vfs.specs.Steps.{IsRead}
use Rattle.cksum_vfs.proofs.RowLemmas.{row, row_is, before, next_page}
use Rattle.cksum_vfs.proofs.PageLemmas.{shown_of, get_shown, length_without, part, padded, length_part, fails_part}
use Rattle.cksum_vfs.proofs.SealLemmas.{shown_before_of, shown_behind, mod_of}

-- The page in memory

sides : (a b : ℕ) → (a < b) ⊎ (b ≤ a)
sides a b = grind arith

pub get_zero : (n i : ℕ) → i < n → slice_get {X = ℕ} (replicate n 0) i ≡ Some 0
get_zero n i less = slice_get-get_or {X = ℕ} (replicate n 0) i 0 (omega (arith, less, length-replicate {A = ℕ} n 0)) ∙ ap (λ x. Some x) (get_or-replicate {A = ℕ} n i 0 0 less)

-- what was read of a page is the page, with zeros behind it
pub record IsFetched (page number : ℕ) (bytes own : List ℕ) (count : ℕ) : Type 0 where
  pub size : count ≡ length (part page bytes number)
  pub own_is : own ≡ padded page (part page bytes number)

pub fetched : (page number : ℕ) (bytes own : List ℕ) (count : ℕ) → length own ≡ page → FillsUp own count → Reads bytes (page * number) own count → IsFetched page number bytes own count
fetched page number bytes own count long fills reads =
    let size : count ≡ length (part page bytes number) = reads.counted ∙ ap (λ n. min n (length bytes - page * number)) long ∙ sym (length_part page number bytes) in
    let rest : length {A = ℕ} (replicate (page - length (part page bytes number)) 0) ≡ page - length (part page bytes number) = length-replicate (page - length (part page bytes number)) 0 in
    let whole : length (padded page (part page bytes number)) ≡ page =
    length-append (part page bytes number) (replicate (page - length (part page bytes number)) 0) ∙ omega (arith, rest, length_part page number bytes) in
    record { size = size; own_is = same_places own (padded page (part page bytes number)) (long ∙ sym whole) (λ i less. each size i (omega (arith, less, whole))) } where
      each : count ≡ length (part page bytes number) → (i : ℕ) → i < page → slice_get own i ≡ slice_get (padded page (part page bytes number)) i
      each size i less = elim (sides i count) as (λ _. slice_get own i ≡ slice_get (padded page (part page bytes number)) i) [
        | inl inside ↦
            reads.bytes i inside ∙ sym (get-drop bytes (page * number) i) ∙ sym (get-take (drop (page * number) bytes) page i less)
            ∙ sym (get-append_left (part page bytes number) (replicate (page - length (part page bytes number)) 0) i (omega (arith, inside, size)))
        | inr past ↦
            let e : length (part page bytes number) + (i - length (part page bytes number)) ≡ i = omega (arith, past, size) in
            fills.zeros i past (omega (arith, less, long))
            ∙ sym (get_zero (page - length (part page bytes number)) (i - length (part page bytes number)) (omega (arith, less, past, size)))
            ∙ sym (get-append_right (part page bytes number) (replicate (page - length (part page bytes number)) 0) (i - length (part page bytes number)))
            ∙ ap (slice_get (padded page (part page bytes number))) e
      ]

pub fetched_fails : (page number : ℕ) (bytes own : List ℕ) (count : ℕ) → 1 ≤ page → IsFetched page number bytes own count → fails page bytes number ≡ page_bad page own count
fetched_fails page number bytes own count some is =
    fails_part page number bytes some ∙ ap (λ xs. page_bad page xs (length (part page bytes number))) (sym is.own_is) ∙ ap (page_bad page own) (sym is.size)

-- The state above

pub own_main : (page : ℕ) (kind : Kind) → kind ≡ Main → own_size (Some page) kind ≡ Some page
own_main page kind is = ap (own_size (Some page)) is

-- a database above
pub file_main : (page : ℕ) (s : StackState) (name : List ℕ) → kind_of name ≡ Main → (over (Some page) s).files name ≡ file_over (Some page) (s.files name)
file_main page s name is = ap (λ own. file_over own (s.files name)) (own_main page (kind_of name) is)

pub bad_main : (page : ℕ) (s : StackState) (name : List ℕ) (place : ℕ) → kind_of name ≡ Main → ((over (Some page) s).files name).now.bad place ≡ fails page (s.files name).now.bytes (place / page)
bad_main page s name place is = ap (λ f. f.now.bad place) (file_main page s name is)

pub bytes_main : (page : ℕ) (s : StackState) (name : List ℕ) → kind_of name ≡ Main → ((over (Some page) s).files name).now.bytes ≡ without_sums page 0 (s.files name).now.bytes
bytes_main page s name is = ap (λ f. f.now.bytes) (file_main page s name is)

-- A read that is refused below

pub refused : (page : ℕ) (old new : StackState) (name : List ℕ) (start len off : ℕ) (buf : List ℕ) (fault : VfsFault) → IsUnchecked (Some page) old.layers → ReadCaused old new name start len (Err fault) →
    IsRead (over (Some page) old) (over (Some page) new) name off buf (Err fault)
refused page old new name start len off buf Failed none h = record { cause = h; fills = tt; reads = λ told. tt }
refused page old new name start len off buf Memory none h = record { cause = tt; fills = tt; reads = λ told. tt }
refused page old new name start len off buf (Busy holder level) none h = absurd h
refused page old new name start len off buf (Full total limit) none h = absurd h
refused page old new name start len off buf (BadPage number kept found) none h = absurd (subst (MeetsIn old name start len number kept found) (none.each page refl) h)

-- A page that fails

pub content_is : (s : StackState) (name : List ℕ) → Stands s → IsTrue s.tells → (s.files name).wild ≡ false → (through s.layers (present s.base) name).bytes ≡ (s.files name).now.bytes
content_is s name stands told tame = ap (λ f. f.bytes) (sym ((stands.sound told).shows name tame))

pub touched_here : (page off len : ℕ) → 1 ≤ page → 1 ≤ len → Touches page off len (off / page)
touched_here page off len some more = let r = row page off some in (more, omega (arith, r.to, r.next), omega (arith, r.from, more))

-- a page before the one of the first place is not touched
none_before : (page off len other : ℕ) → 1 ≤ page → other < off / page → Touches page off len other → ⊥
none_before page off len other some less touched =
    let r = row page off some in
    let b = before page other (off / page) less in
    let n = next_page page other in
    absurd (omega (arith, r.from, b, n, touched.1))

pub first_bad : (page : ℕ) (old : StackState) (name : List ℕ) (off len : ℕ) → 1 ≤ page → 1 ≤ len → kind_of name ≡ Main → fails page (old.files name).now.bytes (off / page) ≡ true →
    FirstBad page ((over (Some page) old).files name).now.bad off len (off / page + 1)
first_bad page old name off len some more is bad = record {
  number = off / page;
  is = refl;
  touched = touched_here page off len some more;
  bad_is =
      let r = row page off some in
      let here : (page * (off / page)) / page ≡ off / page = row_is page (off / page) (page * (off / page)) some (omega arith) (omega (arith, some)) in
      bad_main page old name (page * (off / page)) is ∙ ap (fails page (old.files name).now.bytes) here ∙ bad;
  first = λ other less touched. absurd (none_before page off len other some less touched);
}

pub sums_are : (page : ℕ) (bytes own : List ℕ) (number count kept found : ℕ) → length own ≡ page → IsFetched page number bytes own count → Names own number (BadPage (number + 1) kept found) →
    SumsOf page bytes (number + 1) kept found
sums_are page bytes own number count kept found long is named =
    let back : number + 1 - 1 ≡ number = omega arith in
    let whole : page_at page bytes number ≡ own = sym is.own_is in
    record {
      kept_is = named.1 ∙ ap (λ n. number_at 8 own (n - kept_size)) long ∙ ap (λ xs. number_at 8 xs (page - kept_size)) (sym whole)
          ∙ ap (λ n. number_at 8 (page_at page bytes n) (page - kept_size)) (sym back);
      found_is = named.2 ∙ ap (λ n. sums_number (sum_of (take (n - kept_size) own))) long ∙ ap (λ xs. sums_number (sum_of (take (page - kept_size) xs))) (sym whole)
          ∙ ap (λ n. sums_number (sum_of (take (page - kept_size) (page_at page bytes n)))) (sym back);
    }

pub part_bad : (page : ℕ) (old new : StackState) (name : List ℕ) (off : ℕ) (own : List ℕ) (count : ℕ) (buf : List ℕ) (fault : VfsFault) → 1 ≤ page → length own ≡ page → 1 ≤ length buf → kind_of name ≡ Main →
    Stands old → FillsUp own count → (IsTrue old.tells → Reads (old.files name).now.bytes (page * (off / page)) own count) → page_bad page own count ≡ true → Names own (off / page) fault →
    IsRead (over (Some page) old) (over (Some page) new) name off buf (Err fault)
part_bad page old new name off own count buf Failed some long more is stands fills reads bad named = absurd named
part_bad page old new name off own count buf Memory some long more is stands fills reads bad named = absurd named
part_bad page old new name off own count buf (Busy holder level) some long more is stands fills reads bad named = absurd named
part_bad page old new name off own count buf (Full total limit) some long more is stands fills reads bad named = absurd named
part_bad page old new name off own count buf (BadPage number kept found) some long more is stands fills reads bad named =
    let P : ℕ → Type 0 = λ n. MeetsIn (over (Some page) old) name off (length buf) n kept found (Some (page, old.layers)) in
    record {
      cause = subst P (sym named.0) (
        is,
        λ told.
            let got = fetched page (off / page) (old.files name).now.bytes own count long fills (reads told) in (
              first_bad page old name off (length buf) some more is (fetched_fails page (off / page) (old.files name).now.bytes own count some got ∙ bad),
              λ tame. subst (λ bytes. SumsOf page bytes (off / page + 1) kept found) (sym (content_is old name stands told tame))
                  (sums_are page (old.files name).now.bytes own (off / page) count kept found long got (refl, named.1, named.2)),
            ),
      );
      fills = tt;
      reads = λ told. tt;
    }

-- A page that does not

pub hidden_before : (own : List ℕ) (i : ℕ) → i + 8 < length own → slice_get (hidden own) i ≡ slice_get own i
hidden_before own i less =
    let front : length (take (length own - kept_size) own) ≡ length own - kept_size = length-take-le (length own - kept_size) own (omega arith) in
    get-append_left (take (length own - kept_size) own) (replicate kept_size 0) i (omega (arith, front, less)) ∙ get-take own (length own - kept_size) i (omega (arith, less))

pub hidden_behind : (own : List ℕ) (i : ℕ) → 8 ≤ length own → length own ≤ i + 8 → i < length own → slice_get (hidden own) i ≡ Some 0
hidden_behind own i least more less =
    let front : length (take (length own - kept_size) own) ≡ length own - kept_size = length-take-le (length own - kept_size) own (omega arith) in
    let e : length (take (length own - kept_size) own) + (i - (length own - kept_size)) ≡ i = omega (arith, front, more, least) in
    ap (slice_get (hidden own)) (sym e) ∙ get-append_right (take (length own - kept_size) own) (replicate kept_size 0) (i - (length own - kept_size))
    ∙ get_zero kept_size (i - (length own - kept_size)) (omega (arith, more, less, least))

mul_mod : (page number : ℕ) → 1 ≤ page → (page * number) % page ≡ 0
mul_mod page number some =
    let d : (page * number) / page ≡ number = row_is page number (page * number) some (omega arith) (omega (arith, some)) in
    let e : page * ((page * number) / page) ≡ page * number = ap (λ n. page * n) d in
    omega (arith, e, some)

part_at : (from len : ℕ) (own : List ℕ) (i : ℕ) → i < len → slice_get (take len (drop from (hidden own))) i ≡ slice_get (hidden own) (from + i)
part_at from len own i less = get-take (drop from (hidden own)) len i less ∙ get-drop (hidden own) from i

pub part_fills : (from : ℕ) (own buf : List ℕ) (count : ℕ) → 8 ≤ length own → from + length buf ≤ length own → buf ≡ take (length buf) (drop from (hidden own)) → FillsUp own count → FillsUp buf (min (length buf) (count - from))
part_fills from own buf count least one given fills = record {
  within = omega arith;
  zeros = λ i past less.
      ap (λ xs. slice_get xs i) given ∙ part_at from (length buf) own i less ∙ zero i past less;
} where
  zero : (i : ℕ) → min (length buf) (count - from) ≤ i → i < length buf → slice_get (hidden own) (from + i) ≡ Some 0
  zero i past less = elim (sides (from + i + 8) (length own)) as (λ _. slice_get (hidden own) (from + i) ≡ Some 0) [
    | inl lower ↦ hidden_before own (from + i) lower ∙ fills.zeros (from + i) (omega (arith, past, less)) (omega (arith, lower))
    | inr upper ↦ hidden_behind own (from + i) least upper (omega (arith, less, one))
  ]

pub part_reads : (page off : ℕ) (bytes own buf : List ℕ) (count : ℕ) → 8 ≤ page → length own ≡ page → off % page + length buf ≤ page → buf ≡ take (length buf) (drop (off % page) (hidden own)) →
    Reads bytes (page * (off / page)) own count → Reads (without_sums page 0 bytes) off buf (min (length buf) (count - off % page))
part_reads page off bytes own buf count least long one given reads =
    let split : page * (off / page) + off % page ≡ off = omega arith in
    record {
      counted = omega (arith, reads.counted, long, one, split, length_without page 0 bytes);
      bytes = λ i less.
          ap (λ xs. slice_get xs i) given ∙ part_at (off % page) (length buf) own i (omega (arith, less)) ∙ same split i (omega (arith, less)) (omega (arith, less)) ∙ sym (get_shown page bytes (off + i));
    } where
      same : page * (off / page) + off % page ≡ off → (i : ℕ) → i < length buf → off % page + i < count → slice_get (hidden own) (off % page + i) ≡ shown_of page (off + i) (slice_get bytes (off + i))
      same split i less inside =
          let at : (page * (off / page)) % page ≡ 0 = mul_mod page (off / page) (omega (arith, least)) in
          let place : page * (off / page) + (off % page + i) ≡ off + i = omega (arith, split) in
          let m : (off + i) % page ≡ off % page + i = ap (λ n. n % page) (sym place) ∙ mod_of page (page * (off / page)) (off % page + i) (omega (arith, less, one)) at in
          let got : slice_get own (off % page + i) ≡ slice_get bytes (off + i) = reads.bytes (off % page + i) inside ∙ ap (slice_get bytes) place in
          elim (sides (off % page + i + 8) (length own)) as (λ _. slice_get (hidden own) (off % page + i) ≡ shown_of page (off + i) (slice_get bytes (off + i))) [
            | inl lower ↦ hidden_before own (off % page + i) lower ∙ got ∙ sym (shown_before_of page (off + i) (slice_get bytes (off + i)) (omega (arith, m, lower, long)))
            | inr upper ↦
                let there : slice_get own (off % page + i) ≡ Some (get_or own (off % page + i) 0) = slice_get-get_or own (off % page + i) 0 (omega (arith, less, one, long)) in
                hidden_behind own (off % page + i) (omega (arith, least, long)) upper (omega (arith, less, one, long))
                ∙ ap (λ x. Some x) (sym (shown_behind page (off + i) (get_or own (off % page + i) 0) (omega (arith, m, upper, long))))
                ∙ ap (shown_of page (off + i)) (sym there ∙ got)
          ]

pub part_good : (page : ℕ) (old new : StackState) (name : List ℕ) (off : ℕ) (own : List ℕ) (count : ℕ) (buf : List ℕ) → 8 ≤ page → length own ≡ page → off % page + length buf ≤ page → kind_of name ≡ Main →
    buf ≡ take (length buf) (drop (off % page) (hidden own)) → FillsUp own count → (IsTrue old.tells → Reads (old.files name).now.bytes (page * (off / page)) own count) → page_bad page own count ≡ false →
    IsRead (over (Some page) old) (over (Some page) new) name off buf (Ok (min (length buf) (count - off % page)))
part_good page old new name off own count buf least long one is given fills reads good = record {
  cause = λ told place from to.
      let some : 1 ≤ page = omega (arith, least) in
      let r = row page off some in
      let here : place / page ≡ off / page = row_is page (off / page) place some (omega (arith, r.from, from)) (omega (arith, to, one, split)) in
      let got = fetched page (off / page) (old.files name).now.bytes own count long fills (reads told) in
      bad_main page old name place is ∙ ap (fails page (old.files name).now.bytes) here ∙ fetched_fails page (off / page) (old.files name).now.bytes own count some got ∙ good;
  fills = part_fills (off % page) own buf count (omega (arith, least, long)) (omega (arith, one, long)) given fills;
  reads = λ told. subst (λ bytes. Reads bytes off buf (min (length buf) (count - off % page))) (sym (bytes_main page old name is))
      (part_reads page off (old.files name).now.bytes own buf count least long one given (reads told));
} where
  split : page * (off / page) + off % page ≡ off
  split = omega (arith, least)
