-- Parts of a file, read one after the other.
use Rattle.std.proofs.Common.{◌≡◌, ◌⊎◌, ℕ, ◌+◌, ◌-◌, ◌*◌, ◌/◌, ◌<◌, ◌≤◌, false, not, ◌&&◌, ◌||◌, nat_lt, nat_eq, List, [], ◌∷◌, ◌++◌, length, take, drop, slice_get, unwrap_or, IsTrue, Option, Some, None, Result, Ok, Err, IfOk, OnErr, inl, inr, refl, ap, sym, subst, ◌∙◌, arith, length-append, length-drop}
use Rattle.std.proofs.lemmas.List.{take-append-drop, drop_all, append-nil, length-take-le}
use Rattle.std.proofs.lemmas.Slice.{take-put_mid, drop-put_mid}
use borrow.Rule.Slice.PartMut.{put_mid}
use Rattle.std.proofs.lemmas.Bool.{le-ltb}
use Rattle.byte_base.specs.Count.{Rose}
use Rattle.vfs_model.specs.Places.{get-append_left, get-append_right}
use Rattle.vfs_model.specs.File.{FileState}
use Rattle.vfs_model.specs.Effect.{NoLooser}
use Rattle.vfs_model.specs.Name.{kind_of}
use Rattle.vfs_model.specs.Sums.{fails, is_complete, found_sums, stored_sums, without_sums}
use Rattle.vfs_model.specs.declared.level.Fid.{Fid}
use Rattle.vfs_model.specs.declared.name.Kind.TheVariants.{Main}
use Rattle.vfs_trait.specs.Log.{Ring, RingsGrow, Logs, outcome_of}
use Rattle.vfs_trait.specs.declared.log.Call.TheVariants.{Read}
use Rattle.vfs_trait.specs.declared.log.Outcome.TheVariants.{Bytes as Count}
use Rattle.vfs_trait.specs.declared.fault.VfsFault.{VfsFault}
use Rattle.vfs_trait.specs.declared.fault.VfsFault.TheVariants.{Failed, Memory, Busy, Full, BadPage}
use Rattle.vfs_trait.specs.State.{StackState, Stands, name_at}
use Rattle.vfs_trait.specs.Calls.{ReadCaused, MeetsIn, FirstBad, SumsOf, FillsUp, Reads, AllZero, unchecked}
use Rattle.vfs_trait.specs.Laws.{SteadyTwice, RestsTwice, FilesTwice, RingsTwice}
use Rattle.vfs_trait.specs.Follows.{Follows}
use Rattle.cksum_vfs.specs.Summed.{own_size, file_over, layers_over, over, IsSized, IsUnchecked}
use Rattle.cksum_vfs.specs.Steps.{IsUnchanged, IsRead, IsAnswered}
use Rattle.cksum_vfs.proofs.RowLemmas.{row, row_is, next_page, before}
use Rattle.cksum_vfs.proofs.PageLemmas.{length_without}
use Rattle.cksum_vfs.proofs.ReadLemmas.{bad_main, bytes_main, content_is}
use Rattle.cksum_vfs.proofs.Lifts.{on_follows, steady_over, rests_over, files_left_over, no_change_follows, logs_over, stands_over}

-- Nothing changed

rings_same : (log : List Ring) → RingsGrow log log
rings_same [] = tt
rings_same (ring ∷ more) = (([], refl), rings_same more)

no_looser : (s : FileState) → NoLooser s s
no_looser s = record {
  now = refl;
  tame = λ tame. tame;
  was_tame = λ tame. tame;
  sure = λ sure. sure;
  stop = λ tame. record { kept = λ place is kept. kept; floor_is = omega arith; reach_is = omega arith };
}

pub unchanged_none : (s : StackState) → Stands s → IsUnchanged s s
unchanged_none s stands = record {
  was = stands;
  steady = record { tells = refl; layers = refl; faults = omega arith };
  rests = record {
    limits = refl;
    levels = record { each = λ fid. refl };
    opens = record { names = λ fid. refl; delicate = λ name. refl };
    lengths = refl;
    broken = record { each = λ fid is. refl };
  };
  files = λ told. record { each = λ name. no_looser (s.files name) };
  rings = rings_same s.log;
  stands = stands;
}

pub unchanged_twice : SteadyTwice → RestsTwice → FilesTwice → RingsTwice → (a b c : StackState) → IsUnchanged a b → IsUnchanged b c → IsUnchanged a c
unchanged_twice steady rests files rings a b c h k = record {
  was = h.was;
  steady = steady a b c h.steady k.steady;
  rests = rests a b c h.rests k.rests;
  files = files a b c h.steady h.files k.files;
  rings = rings a.log b.log c.log h.rings k.rings;
  stands = k.stands;
}

pub told_after : (a b : StackState) → IsUnchanged a b → IsTrue a.tells → IsTrue b.tells
told_after a b h told = subst IsTrue (sym h.steady.tells) told

pub same_now : (a b : StackState) (name : List ℕ) → IsUnchanged a b → IsTrue a.tells → (b.files name).now ≡ (a.files name).now
same_now a b name h told = ((h.files told).each name).now

-- One part behind another

sides : (a b : ℕ) → (a < b) ⊎ (b ≤ a)
sides a b = grind arith

pub read_none : (old new : StackState) (name : List ℕ) (off : ℕ) → IsRead old new name off [] (Ok 0)
read_none old new name off = record {
  cause = λ told place from to. absurd (omega (arith, from, to));
  fills = record { within = omega arith; zeros = λ place from to. absurd (omega (arith, to)) };
  reads = λ told. record { counted = omega arith; bytes = λ place less. absurd (omega (arith, less)) };
}

fills_more : (front back : List ℕ) (n : ℕ) → FillsUp back n → FillsUp (front ++ back) (length front + n)
fills_more front back n h = record {
  within = omega (arith, h.within, length-append front back);
  zeros = λ place from to.
      let e : length front + (place - length front) ≡ place = omega (arith, from) in
      ap (slice_get (front ++ back)) (sym e) ∙ get-append_right front back (place - length front)
      ∙ h.zeros (place - length front) (omega (arith, from)) (omega (arith, from, to, length-append front back));
}

reads_more : (bytes : List ℕ) (off : ℕ) (front back : List ℕ) (n : ℕ) → Reads bytes off front (length front) → Reads bytes (off + length front) back n → Reads bytes off (front ++ back) (length front + n)
reads_more bytes off front back n h k = record {
  counted = omega (arith, h.counted, k.counted, length-append front back);
  bytes = λ place less. elim (sides place (length front)) as (λ _. slice_get (front ++ back) place ≡ slice_get bytes (off + place)) [
    | inl lower ↦ get-append_left front back place lower ∙ h.bytes place lower
    | inr upper ↦
        let e : length front + (place - length front) ≡ place = omega (arith, upper) in
        let f : off + length front + (place - length front) ≡ off + place = omega (arith, upper) in
        ap (slice_get (front ++ back)) (sym e) ∙ get-append_right front back (place - length front) ∙ k.bytes (place - length front) (omega (arith, upper, less)) ∙ ap (slice_get bytes) f
  ];
}

pub read_more : (page : ℕ) (a b c : StackState) (name : List ℕ) (off : ℕ) (front back : List ℕ) (n : ℕ) → kind_of name ≡ Main → IsUnchanged a b →
    IsRead (over (Some page) a) (over (Some page) b) name off front (Ok (length front)) → IsRead (over (Some page) b) (over (Some page) c) name (off + length front) back (Ok n) →
    IsRead (over (Some page) a) (over (Some page) c) name off (front ++ back) (Ok (length front + n))
read_more page a b c name off front back n is same h k = record {
  cause = λ told place from to. elim (sides place (off + length front)) as (λ _. ((over (Some page) a).files name).now.bad place ≡ false) [
    | inl lower ↦ h.cause told place from lower
    | inr upper ↦
        bad_main page a name place is ∙ ap (λ f. fails page f.bytes (place / page)) (sym (same_now a b name same told)) ∙ sym (bad_main page b name place is)
        ∙ k.cause (told_after a b same told) place upper (omega (arith, to, length-append front back))
  ];
  fills = fills_more front back n k.fills;
  reads = λ told.
      let e : ((over (Some page) b).files name).now.bytes ≡ ((over (Some page) a).files name).now.bytes =
      bytes_main page b name is ∙ ap (λ f. without_sums page 0 f.bytes) (same_now a b name same told) ∙ sym (bytes_main page a name is) in
      reads_more ((over (Some page) a).files name).now.bytes off front back n (h.reads told)
      (subst (λ bytes. Reads bytes (off + length front) back n) e (k.reads (told_after a b same told)));
}

-- A part that is refused behind others

-- a page that some place before lies on was found good
good_before : (page : ℕ) (a : StackState) (name : List ℕ) (off len other : ℕ) → 1 ≤ page → kind_of name ≡ Main →
    ((place : ℕ) → off ≤ place → place < off + len → ((over (Some page) a).files name).now.bad place ≡ false) → 1 ≤ len → off < page * (other + 1) → page * other < off + len →
    ((over (Some page) a).files name).now.bad (page * other) ≡ false
good_before page a name off len other some is good more from to =
    let n = next_page page other in
    let first : (page * other) / page ≡ other = row_is page other (page * other) some (omega arith) (omega (arith, some)) in
    elim (sides off (page * other)) as (λ _. ((over (Some page) a).files name).now.bad (page * other) ≡ false) [
      | inl lower ↦ good (page * other) (omega (arith, lower)) to
      | inr upper ↦
          let here : off / page ≡ other = row_is page other off some upper (omega (arith, from, n)) in
          bad_main page a name (page * other) is ∙ ap (fails page (a.files name).now.bytes) (first ∙ sym here) ∙ sym (bad_main page a name off is) ∙ good off (omega arith) (omega (arith, more))
    ]

mul_less : (page other number : ℕ) → other < number → page * other ≤ page * number
mul_less page other number less = let h = before page other number less in omega (arith, h)

bad_more : (page : ℕ) (a b : StackState) (name : List ℕ) (off : ℕ) (front : List ℕ) (len total number kept found : ℕ) → 1 ≤ page → kind_of name ≡ Main → IsUnchanged a b →
    (IsTrue a.tells → (place : ℕ) → off ≤ place → place < off + length front → ((over (Some page) a).files name).now.bad place ≡ false) → length front + len ≤ total →
    MeetsIn (over (Some page) b) name (off + length front) len number kept found (Some (page, b.layers)) → MeetsIn (over (Some page) a) name off total number kept found (Some (page, a.layers))
bad_more page a b name off front len total number kept found some is same good within h = (is, λ told. (first told, sums told)) where
  same_bad : IsTrue a.tells → (place : ℕ) → ((over (Some page) b).files name).now.bad place ≡ ((over (Some page) a).files name).now.bad place
  same_bad told place = bad_main page b name place is ∙ ap (λ f. fails page f.bytes (place / page)) (same_now a b name same told) ∙ sym (bad_main page a name place is)

  first : IsTrue a.tells → FirstBad page ((over (Some page) a).files name).now.bad off total number
  first told =
      let k = (h.1 (told_after a b same told)).0 in
      record {
        number = k.number;
        is = k.is;
        touched = (omega (arith, k.touched.0, within), omega (arith, k.touched.1), omega (arith, k.touched.2, within));
        bad_is = sym (same_bad told (page * k.number)) ∙ k.bad_is;
        first = λ other less touched. elim (sides (off + length front) (page * (other + 1))) as (λ _. ((over (Some page) a).files name).now.bad (page * other) ≡ false) [
          | inl behind ↦ sym (same_bad told (page * other)) ∙ k.first other less (k.touched.0, behind, omega (arith, mul_less page other k.number less, k.touched.2))
          | inr before ↦ good_before page a name off (length front) other some is (good told) (omega (arith, before, touched.1)) touched.1 (omega (arith, before, next_page page other, some))
        ];
      }

  sums : IsTrue a.tells → (a.files name).wild ≡ false → SumsOf page (unchecked (over (Some page) a) a.layers name) number kept found
  sums told tame =
      let told_b = told_after a b same told in
      let tame_b : (b.files name).wild ≡ false = ((same.files told).each name).tame tame in
      let e : unchecked (over (Some page) b) b.layers name ≡ unchecked (over (Some page) a) a.layers name =
      content_is b name same.stands told_b tame_b ∙ ap (λ f. f.bytes) (same_now a b name same told) ∙ sym (content_is a name same.was told tame) in
      subst (λ bytes. SumsOf page bytes number kept found) e ((h.1 told_b).1 tame_b)

pub read_refused : (page : ℕ) (a b c : StackState) (name : List ℕ) (off : ℕ) (front back whole : List ℕ) (fault : VfsFault) → 1 ≤ page → kind_of name ≡ Main → IsUnchanged a b → length front + length back ≤ length whole →
    IsRead (over (Some page) a) (over (Some page) b) name off front (Ok (length front)) → IsRead (over (Some page) b) (over (Some page) c) name (off + length front) back (Err fault) →
    IsRead (over (Some page) a) (over (Some page) c) name off whole (Err fault)
read_refused page a b c name off front back whole Failed some is same within h k = record { cause = rose a.faults b.faults c.faults same.steady.faults k.cause; fills = tt; reads = λ told. tt } where
  rose : (x y z : ℕ) → x ≤ y → Rose y z → Rose x z
  rose x y z less more = omega (arith, less, more)
read_refused page a b c name off front back whole Memory some is same within h k = record { cause = tt; fills = tt; reads = λ told. tt }
read_refused page a b c name off front back whole (Busy holder level) some is same within h k = absurd k.cause
read_refused page a b c name off front back whole (Full total limit) some is same within h k = absurd k.cause
read_refused page a b c name off front back whole (BadPage number kept found) some is same within h k = record {
  cause = bad_more page a b name off front (length back) (length whole) number kept found some is same h.cause within k.cause;
  fills = tt;
  reads = λ told. tt;
}

-- The end of the file

not_begun : (page number : ℕ) (bytes : List ℕ) → length bytes ≤ page * number → fails page bytes number ≡ false
not_begun page number bytes past =
    let none : nat_lt (page * number) (length bytes) ≡ false = le-ltb (page * number) (length bytes) past in
    ap (λ b. b && (not (is_complete page bytes number) || not (nat_eq (found_sums page bytes number).0 (stored_sums page bytes number).0 && nat_eq (found_sums page bytes number).1 (stored_sums page bytes number).1))) none

pub read_short : (page : ℕ) (a b : StackState) (name : List ℕ) (off : ℕ) (front zeros : List ℕ) (n : ℕ) → 1 ≤ page → kind_of name ≡ Main → n < length front → AllZero zeros →
    IsRead (over (Some page) a) (over (Some page) b) name off front (Ok n) → IsRead (over (Some page) a) (over (Some page) b) name off (front ++ zeros) (Ok n)
read_short page a b name off front zeros n some is less none h = record {
  cause = λ told place from to. elim (sides place (off + length front)) as (λ _. ((over (Some page) a).files name).now.bad place ≡ false) [
    | inl lower ↦ h.cause told place from lower
    | inr upper ↦ bad_main page a name place is ∙ past told place upper
  ];
  fills = record {
    within = omega (arith, less, length-append front zeros);
    zeros = λ place from to. elim (sides place (length front)) as (λ _. slice_get (front ++ zeros) place ≡ Some 0) [
      | inl lower ↦ get-append_left front zeros place lower ∙ h.fills.zeros place from lower
      | inr upper ↦
          let e : length front + (place - length front) ≡ place = omega (arith, upper) in
          ap (slice_get (front ++ zeros)) (sym e) ∙ get-append_right front zeros (place - length front) ∙ none.each (place - length front) (omega (arith, upper, to, length-append front zeros))
    ];
  };
  reads = λ told.
      let k = h.reads told in
      record {
        counted = omega (arith, k.counted, less, length-append front zeros);
        bytes = λ place lower. get-append_left front zeros place (omega (arith, lower, less)) ∙ k.bytes place lower;
      };
} where
  past : IsTrue a.tells → (place : ℕ) → off + length front ≤ place → fails page (a.files name).now.bytes (place / page) ≡ false
  past told place upper =
      let k = h.reads told in
      let size : length ((over (Some page) a).files name).now.bytes ≡ length (a.files name).now.bytes = ap length (bytes_main page a name is) ∙ length_without page 0 (a.files name).now.bytes in
      let r = row page place some in
      let last = off + length front - 1 in
      elim (sides (page * (place / page)) (length (a.files name).now.bytes)) as (λ _. fails page (a.files name).now.bytes (place / page) ≡ false) [
        | inl begun ↦
            let here : last / page ≡ place / page = row_is page (place / page) last some (omega (arith, begun, size, k.counted, less)) (omega (arith, r.to, upper)) in
            ap (fails page (a.files name).now.bytes) (sym here) ∙ sym (bad_main page a name last is) ∙ h.cause told last (omega (arith, less)) (omega (arith, less))
        | inr not_yet ↦ not_begun page (place / page) (a.files name).now.bytes not_yet
      ]

-- The whole read

pub zero_read : (old new : StackState) (name : List ℕ) (off : ℕ) (buf buf' : List ℕ) (fault : VfsFault) → length buf' ≡ length buf → IsRead old new name off buf (Err fault) → IsRead old new name off buf' (Err fault)
zero_read old new name off buf buf' fault size h = record {
  cause = subst (λ n. ReadCaused old new name off n (Err fault)) (sym size) h.cause;
  fills = tt;
  reads = λ told. tt;
}

-- nothing of another file changes on its way through the layer
other_file : (size : Option ℕ) (s : StackState) (name : List ℕ) → own_size size (kind_of name) ≡ None → (over size s).files name ≡ s.files name
other_file size s name other = ap (λ own. file_over own (s.files name)) other

other_cause : (size : Option ℕ) (old new : StackState) (name : List ℕ) (off len : ℕ) (result : Result ℕ VfsFault) → IsUnchecked size old.layers → own_size size (kind_of name) ≡ None →
    ReadCaused old new name off len result → ReadCaused (over size old) (over size new) name off len result
other_cause size old new name off len (Ok count) none other h = λ told place from to. ap (λ f. f.now.bad place) (other_file size old name other) ∙ h told place from to
other_cause size old new name off len (Err Failed) none other h = h
other_cause size old new name off len (Err Memory) none other h = tt
other_cause size old new name off len (Err (Busy holder level)) none other h = absurd h
other_cause size old new name off len (Err (Full total limit)) none other h = absurd h
other_cause None old new name off len (Err (BadPage number kept found)) none other h = h
other_cause (Some page) old new name off len (Err (BadPage number kept found)) none other h = absurd (subst (MeetsIn old name off len number kept found) (none.each page refl) h)

pub other_answered : (size : Option ℕ) (old new : StackState) (fid : Fid) (off : ℕ) (buf : List ℕ) (result : Result ℕ VfsFault) → IsSized size → IsUnchecked size old.layers → own_size size (kind_of (name_at old fid.0)) ≡ None →
    IsAnswered old new fid off buf result → IsAnswered (over size old) (over size new) fid off buf result
other_answered size old new fid off buf result sized none other h = record {
  steady = steady_over size old new h.steady;
  cause = other_cause size old new (name_at old fid.0) off (length buf) result none other h.cause;
  rests = rests_over size old new h.rests;
  fills = h.fills;
  reads = λ told. subst (λ f. IfOk result (Reads f.now.bytes off buf)) (sym (other_file size old (name_at old fid.0) other)) (h.reads told);
  refused = h.refused;
  files = files_left_over size old new sized h.files;
  follows = no_change_follows size old new result h.follows;
  logs = logs_over size old.layers old.log new.log (Read fid off (length buf)) (outcome_of Count result) h.logs;
  stands = stands_over size new sized h.stands;
}

-- what was read of a database, with zeros after a refusal, is what a read answers
pub answered : (size : Option ℕ) (page : ℕ) (old new : StackState) (fid : Fid) (off : ℕ) (buf : List ℕ) (result : Result ℕ VfsFault) → size ≡ Some page → IsSized size → IsUnchanged old new →
    IsRead (over size old) (over size new) (name_at old fid.0) off buf result → OnErr result (AllZero buf) → IsAnswered (over size old) (over size new) fid off buf result
answered size page old new fid off buf result is sized same h refused = record {
  steady = steady_over size old new same.steady;
  cause = h.cause;
  rests = rests_over size old new same.rests;
  fills = h.fills;
  reads = h.reads;
  refused = refused;
  files = files_left_over size old new sized same.files;
  follows = subst (λ z. Follows (over z old) (over z new) result (λ _. Unit {0})) (sym is) (on_follows page old new result);
  logs = subst (λ z. Logs (layers_over z old.layers) old.log new.log (Read fid off (length buf)) (outcome_of Count result)) (sym is) same.rings;
  stands = stands_over size new sized same.stands;
}

-- The buffer, part by part

put_is : (a k : ℕ) (xs ys : List ℕ) → a + k ≤ length xs → length ys ≡ k → put_mid a k xs ys ≡ (take a xs ++ ys) ++ drop (a + k) xs
put_is a k xs ys within long =
    sym (take-append-drop (a + k) (put_mid a k xs ys))
    ∙ ap (λ zs. zs ++ drop (a + k) (put_mid a k xs ys)) (take-put_mid a k xs ys (a + k) (omega (arith, long)) (omega (arith, within)))
    ∙ ap (λ zs. (take a xs ++ ys) ++ zs) (drop-put_mid a k xs ys (a + k) (omega arith) (omega (arith, within)) long)

pub length_put : (a k : ℕ) (xs ys : List ℕ) → a + k ≤ length xs → length ys ≡ k → length (put_mid a k xs ys) ≡ length xs
length_put a k xs ys within long =
    ap length (put_is a k xs ys within long) ∙ length-append (take a xs ++ ys) (drop (a + k) xs)
    ∙ omega (arith, length-append (take a xs) ys, length-take-le a xs (omega (arith, within)), length-drop (a + k) xs, long, within)

put_end : (a k : ℕ) (xs ys : List ℕ) → a + k ≡ length xs → length ys ≡ k → put_mid a k xs ys ≡ take a xs ++ ys
put_end a k xs ys within long =
    put_is a k xs ys (omega (arith, within)) long ∙ ap (λ zs. (take a xs ++ ys) ++ zs) (drop_all (a + k) xs (omega (arith, within))) ∙ append-nil (take a xs ++ ys)

pub same_name : (a b : StackState) (fid : ℕ) → IsUnchanged a b → name_at b fid ≡ name_at a fid
same_name a b fid same = ap (λ o. unwrap_or o []) (same.rests.opens.names fid)

-- what was read up to a part, and of the part
pub record Parts (size : Option ℕ) (page : ℕ) (a b c : StackState) (fid off done len : ℕ) (buf part : List ℕ) (result : Result ℕ VfsFault) : Type 0 where
  pub size_is : size ≡ Some page
  pub some : 1 ≤ page
  pub main : kind_of (name_at a fid) ≡ Main
  pub same : IsUnchanged a b
  pub within : done + len ≤ length buf
  pub long : length part ≡ len
  pub front : IsRead (over size a) (over size b) (name_at a fid) off (take done buf) (Ok done)
  pub back : IsRead (over size b) (over size c) (name_at b fid) (off + done) part result

at_size : (size : Option ℕ) (page : ℕ) (a b c : StackState) (fid off done len : ℕ) (buf part : List ℕ) (result : Result ℕ VfsFault) → Parts size page a b c fid off done len buf part result →
    Parts (Some page) page a b c fid off done len buf part result
at_size size page a b c fid off done len buf part result h = record {
  size_is = refl;
  some = h.some;
  main = h.main;
  same = h.same;
  within = h.within;
  long = h.long;
  front = subst (λ z. IsRead (over z a) (over z b) (name_at a fid) off (take done buf) (Ok done)) h.size_is h.front;
  back = subst (λ z. IsRead (over z b) (over z c) (name_at b fid) (off + done) part result) h.size_is h.back;
}

two_parts : (page : ℕ) (a b c : StackState) (fid off done len : ℕ) (buf part : List ℕ) (n : ℕ) → Parts (Some page) page a b c fid off done len buf part (Ok n) →
    IsRead (over (Some page) a) (over (Some page) c) (name_at a fid) off (take done buf ++ part) (Ok (done + n))
two_parts page a b c fid off done len buf part n h =
    let front = take done buf in
    let size : length front ≡ done = length-take-le done buf (omega (arith, h.within)) in
    let first : IsRead (over (Some page) a) (over (Some page) b) (name_at a fid) off front (Ok (length front)) =
    subst (λ k. IsRead (over (Some page) a) (over (Some page) b) (name_at a fid) off front (Ok k)) (sym size) h.front in
    let second : IsRead (over (Some page) b) (over (Some page) c) (name_at a fid) (off + length front) part (Ok n) =
    subst (λ k. IsRead (over (Some page) b) (over (Some page) c) (name_at a fid) (off + k) part (Ok n)) (sym size)
    (subst (λ name. IsRead (over (Some page) b) (over (Some page) c) name (off + done) part (Ok n)) (same_name a b fid h.same) h.back) in
    subst (λ k. IsRead (over (Some page) a) (over (Some page) c) (name_at a fid) off (front ++ part) (Ok (k + n))) size
    (read_more page a b c (name_at a fid) off front part n h.main h.same first second)

pub parts_more : (size : Option ℕ) (page : ℕ) (a b c : StackState) (fid off done len : ℕ) (buf part : List ℕ) (n : ℕ) → len ≤ n → Parts size page a b c fid off done len buf part (Ok n) →
    IsRead (over size a) (over size c) (name_at a fid) off (take (done + len) (put_mid done (done + len - done) buf part)) (Ok (done + len))
parts_more size page a b c fid off done len buf part n full h =
    let k = at_size size page a b c fid off done len buf part (Ok n) h in
    let all : done + n ≡ done + len = omega (arith, full, k.back.fills.within, k.long) in
    let whole : take (done + len) (put_mid done (done + len - done) buf part) ≡ take done buf ++ part =
    take-put_mid done (done + len - done) buf part (done + len) (omega (arith, k.long)) (omega (arith, k.within)) in
    subst (λ z. IsRead (over z a) (over z c) (name_at a fid) off (take (done + len) (put_mid done (done + len - done) buf part)) (Ok (done + len))) (sym h.size_is)
    (subst (λ xs. IsRead (over (Some page) a) (over (Some page) c) (name_at a fid) off xs (Ok (done + len))) (sym whole)
    (subst (λ m. IsRead (over (Some page) a) (over (Some page) c) (name_at a fid) off (take done buf ++ part) (Ok m)) all (two_parts page a b c fid off done len buf part n k)))

pub parts_short : (size : Option ℕ) (page : ℕ) (a b c : StackState) (fid off done len : ℕ) (buf part zeros : List ℕ) (n rest : ℕ) → n < len → AllZero zeros → length zeros ≡ rest → done + len + rest ≡ length buf →
    Parts size page a b c fid off done len buf part (Ok n) →
    IsRead (over size a) (over size c) (name_at a fid) off (put_mid (done + len) rest (put_mid done (done + len - done) buf part) zeros) (Ok (done + n))
parts_short size page a b c fid off done len buf part zeros n rest less none long fit h =
    let k = at_size size page a b c fid off done len buf part (Ok n) h in
    let inner = put_mid done (done + len - done) buf part in
    let width : done + (done + len - done) ≤ length buf = omega (arith, k.within) in
    let front : take (done + len) inner ≡ take done buf ++ part = take-put_mid done (done + len - done) buf part (done + len) (omega (arith, k.long)) (omega (arith, k.within)) in
    let size_inner : length inner ≡ length buf = length_put done (done + len - done) buf part width (omega (arith, k.long)) in
    let whole : put_mid (done + len) rest inner zeros ≡ (take done buf ++ part) ++ zeros =
    put_end (done + len) rest inner zeros (omega (arith, size_inner, fit)) long ∙ ap (λ xs. xs ++ zeros) front in
    let long_front : length (take done buf ++ part) ≡ done + len = length-append (take done buf) part ∙ omega (arith, length-take-le done buf (omega (arith, k.within)), k.long) in
    subst (λ z. IsRead (over z a) (over z c) (name_at a fid) off (put_mid (done + len) rest inner zeros) (Ok (done + n))) (sym h.size_is)
    (subst (λ xs. IsRead (over (Some page) a) (over (Some page) c) (name_at a fid) off xs (Ok (done + n))) (sym whole)
    (read_short page a c (name_at a fid) off (take done buf ++ part) zeros (done + n) k.some k.main (omega (arith, long_front, less)) none (two_parts page a b c fid off done len buf part n k)))

pub parts_refused : (size : Option ℕ) (page : ℕ) (a b c : StackState) (fid off done len : ℕ) (buf part : List ℕ) (fault : VfsFault) → Parts size page a b c fid off done len buf part (Err fault) →
    IsRead (over size a) (over size c) (name_at a fid) off (put_mid done (done + len - done) buf part) (Err fault)
parts_refused size page a b c fid off done len buf part fault h =
    let k = at_size size page a b c fid off done len buf part (Err fault) h in
    let front = take done buf in
    let width : done + (done + len - done) ≤ length buf = omega (arith, k.within) in
    let size_whole : length (put_mid done (done + len - done) buf part) ≡ length buf = length_put done (done + len - done) buf part width (omega (arith, k.long)) in
    let size_front : length front ≡ done = length-take-le done buf (omega (arith, k.within)) in
    let first : IsRead (over (Some page) a) (over (Some page) b) (name_at a fid) off front (Ok (length front)) =
    subst (λ m. IsRead (over (Some page) a) (over (Some page) b) (name_at a fid) off front (Ok m)) (sym size_front) k.front in
    let second : IsRead (over (Some page) b) (over (Some page) c) (name_at a fid) (off + length front) part (Err fault) =
    subst (λ m. IsRead (over (Some page) b) (over (Some page) c) (name_at a fid) (off + m) part (Err fault)) (sym size_front)
    (subst (λ name. IsRead (over (Some page) b) (over (Some page) c) name (off + done) part (Err fault)) (same_name a b fid k.same) k.back) in
    subst (λ z. IsRead (over z a) (over z c) (name_at a fid) off (put_mid done (done + len - done) buf part) (Err fault)) (sym h.size_is)
    (read_refused page a b c (name_at a fid) off front part (put_mid done (done + len - done) buf part) fault k.some k.main k.same (omega (arith, size_front, size_whole, k.long, k.within)) first second)
