use Rattle.std.proofs.Common.{◌≡◌, ◌≢◌, ℕ, ◌+◌, ◌-◌, ◌<◌, List, [], ◌∷◌, ◌++◌, length, take, drop, get_or, refl, sym, ap, subst, ◌∙◌, arith, append_assoc, length-drop}
use Rattle.std.specs.Prelude.{Result, Ok, Err, OnErr}
use Rattle.std.specs.List.{AllByRecursion, flat_map}
use Rattle.std.proofs.lemmas.List.{append-nil, take_all, take-append-drop, take_more}
use Rattle.shell_lang.specs.Ends.{SinkState, SinkSteady, Takes}
use Rattle.shell_top.specs.Line.{HasNoFeed, Cuts, ended}
use Rattle.shell_top.specs.Machine.{Machine, Step, Run}
use Rattle.shell_top.specs.Reply.{text_of, texts_of}
use Rattle.shell_top.specs.Running.{Took, TookSome, AllRun, SomeRun, BytesRun, BytesStopped}
use Rattle.shell_top.specs.declared.reply.Reply.{Reply}

pub on_err : {T E : Type 0} (r : Result T E) {P : Type 0} → P → OnErr r P
on_err (Ok x) p = tt
on_err (Err e) p = p

-- ---- the stack and the sink

pub sink_same : (s : SinkState) → SinkSteady s s
sink_same s = record { tells = refl; faults = omega arith }

pub sink_on : (s0 s1 s2 : SinkState) → SinkSteady s0 s1 → SinkSteady s1 s2 → SinkSteady s0 s2
sink_on s0 s1 s2 a b = record { tells = b.tells ∙ a.tells; faults = omega (arith, a.faults, b.faults) }

-- the sink took more from the front of the rest
pub took_on : (s0 s1 s2 : SinkState) (bytes rest left : List ℕ) (count : ℕ) → SinkSteady s0 s1 → Took s0 s1 bytes rest → Takes s1 s2 rest count
    → left ≡ take (length rest - count) (drop count rest) → Took s0 s2 bytes left
took_on s0 s1 s2 bytes rest left count steady took takes is =
    let behind : left ≡ drop count rest = is ∙ take_all (length rest - count) (drop count rest) (omega (arith, length-drop count rest)) in
    record {
      part = took.part ++ take count rest;
      split =
          took.split ∙ ap (λ r. took.part ++ r) (sym (take-append-drop count rest) ∙ ap (λ r. take count rest ++ r) (sym behind))
          ∙ sym (append_assoc took.part (take count rest) left);
      taken = λ tells. takes.taken (steady.tells ∙ tells) ∙ ap (λ t. t ++ take count rest) (took.taken tells) ∙ append_assoc s0.taken took.part (take count rest);
    }

pub took_nothing : (s : SinkState) → Took s s [] []
took_nothing s = record { part = []; split = refl; taken = λ tells. sym (append-nil s.taken) }

pub took_append : (s0 s1 s2 : SinkState) (a b rest : List ℕ) → SinkSteady s0 s1 → Took s0 s1 a [] → Took s1 s2 b rest → Took s0 s2 (a ++ b) rest
took_append s0 s1 s2 a b rest steady first second = record {
  part = a ++ second.part;
  split = ap (λ x. a ++ x) second.split ∙ sym (append_assoc a second.part rest);
  taken = λ tells.
      second.taken (steady.tells ∙ tells)
      ∙ ap (λ t. t ++ second.part) (first.taken tells ∙ ap (λ p. s0.taken ++ p) (sym (append-nil first.part) ∙ sym first.split))
      ∙ append_assoc s0.taken a second.part;
}

pub took_as : (s0 s1 : SinkState) (a b rest : List ℕ) → a ≡ b → Took s0 s1 a rest → Took s0 s1 b rest
took_as s0 s1 a b rest e took = let P : List ℕ → Type 0 = λ x. Took s0 s1 x rest in subst P e took

pub took_some_as : (s0 s1 : SinkState) (a b : List ℕ) → a ≡ b → TookSome s0 s1 a → TookSome s0 s1 b
took_some_as s0 s1 a b e some = let P : List ℕ → Type 0 = λ x. TookSome s0 s1 x in subst P e some

texts_append : (a b : List Reply) → texts_of (a ++ b) ≡ texts_of a ++ texts_of b
texts_append [] b = refl
texts_append (r ∷ a) b = ap (λ t. text_of r ++ t) (texts_append a b) ∙ sym (append_assoc (text_of r) (texts_of a) (texts_of b))

-- ---- runs

run_append : (m0 m1 m2 : Machine) (l1 l2 : List (List ℕ)) (r1 r2 : List Reply) → Run m0 l1 r1 m1 → Run m1 l2 r2 m2 → Run m0 (l1 ++ l2) (r1 ++ r2) m2
run_append m0 m1 m2 [] l2 [] r2 first second = let P : Machine → Type 0 = λ m. Run m l2 r2 m2 in subst P first second
run_append m0 m1 m2 [] l2 (r ∷ r1) r2 first second = absurd first
run_append m0 m1 m2 (l ∷ l1) l2 [] r2 first second = absurd first
run_append m0 m1 m2 (l ∷ l1) l2 (r ∷ r1) r2 first second = (first.0, first.1, run_append first.0 m1 m2 l1 l2 r1 r2 first.2 second)

pub one_run : (m0 m1 : Machine) (s0 s1 : SinkState) (line : List ℕ) (reply : Reply) → Step m0 line reply m1 → Took s0 s1 (text_of reply) [] → AllRun m0 m1 s0 s1 (line ∷ [])
one_run m0 m1 s0 s1 line reply step took = record {
  replies = reply ∷ [];
  run = (m1, step, refl);
  took = took_as s0 s1 (text_of reply) (texts_of (reply ∷ [])) [] (sym (append-nil (text_of reply))) took;
}

pub one_stopped : (m0 m1 : Machine) (s0 s1 : SinkState) (line : List ℕ) (reply : Reply) → Step m0 line reply m1 → TookSome s0 s1 (text_of reply) → SomeRun m0 m1 s0 s1 (line ∷ [])
one_stopped m0 m1 s0 s1 line reply step some = record {
  ran = line ∷ [];
  left = [];
  split = refl;
  replies = reply ∷ [];
  run = (m1, step, refl);
  took = record { rest = some.rest; took = took_as s0 s1 (text_of reply) (texts_of (reply ∷ [])) some.rest (sym (append-nil (text_of reply))) some.took };
}

pub none_run : (m : Machine) (s : SinkState) → AllRun m m s s []
none_run m s = record { replies = []; run = refl; took = took_nothing s }

pub all_on : (m0 m1 m2 : Machine) (s0 s1 s2 : SinkState) (l1 l2 : List (List ℕ)) → SinkSteady s0 s1 → AllRun m0 m1 s0 s1 l1 → AllRun m1 m2 s1 s2 l2 → AllRun m0 m2 s0 s2 (l1 ++ l2)
all_on m0 m1 m2 s0 s1 s2 l1 l2 steady first second = record {
  replies = first.replies ++ second.replies;
  run = run_append m0 m1 m2 l1 l2 first.replies second.replies first.run second.run;
  took = took_as s0 s2 (texts_of first.replies ++ texts_of second.replies) (texts_of (first.replies ++ second.replies)) [] (sym (texts_append first.replies second.replies))
      (took_append s0 s1 s2 (texts_of first.replies) (texts_of second.replies) [] steady first.took second.took);
}

pub some_on : (m0 m1 m2 : Machine) (s0 s1 s2 : SinkState) (l1 l2 : List (List ℕ)) → SinkSteady s0 s1 → AllRun m0 m1 s0 s1 l1 → SomeRun m1 m2 s1 s2 l2 → SomeRun m0 m2 s0 s2 (l1 ++ l2)
some_on m0 m1 m2 s0 s1 s2 l1 l2 steady first second = record {
  ran = l1 ++ second.ran;
  left = second.left;
  split = ap (λ l. l1 ++ l) second.split ∙ sym (append_assoc l1 second.ran second.left);
  replies = first.replies ++ second.replies;
  run = run_append m0 m1 m2 l1 second.ran first.replies second.replies first.run second.run;
  took = record {
    rest = second.took.rest;
    took = took_as s0 s2 (texts_of first.replies ++ texts_of second.replies) (texts_of (first.replies ++ second.replies)) second.took.rest (sym (texts_append first.replies second.replies))
        (took_append s0 s1 s2 (texts_of first.replies) (texts_of second.replies) second.took.rest steady first.took second.took.took);
  };
}

-- all were run: of these and more the first were
pub some_of_all : (m0 m1 : Machine) (s0 s1 : SinkState) (lines more : List (List ℕ)) → AllRun m0 m1 s0 s1 lines → SomeRun m0 m1 s0 s1 (lines ++ more)
some_of_all m0 m1 s0 s1 lines more all = record {
  ran = lines;
  left = more;
  split = refl;
  replies = all.replies;
  run = all.run;
  took = record { rest = []; took = all.took };
}

-- ---- lines

all_append : {X : Type 0} (P : X → Type 0) (xs ys : List X) → AllByRecursion P xs → AllByRecursion P ys → AllByRecursion P (xs ++ ys)
all_append P [] ys h k = k
all_append P (x ∷ xs) ys h k = (h.0, all_append P xs ys h.1 k)

ended_append : (a b : List (List ℕ)) → flat_map ended (a ++ b) ≡ flat_map ended a ++ flat_map ended b
ended_append [] b = refl
ended_append (l ∷ a) b = ap (λ x. ended l ++ x) (ended_append a b) ∙ sym (append_assoc (ended l) (flat_map ended a) (flat_map ended b))

cuts_on : (a b : List ℕ) (first second : List (List ℕ)) (mid rest : List ℕ) → Cuts a first mid → Cuts (mid ++ b) second rest → Cuts (a ++ b) (first ++ second) rest
cuts_on a b first second mid rest one two = record {
  whole =
      ap (λ x. x ++ b) one.whole ∙ append_assoc (flat_map ended first) mid b ∙ ap (λ x. flat_map ended first ++ x) two.whole
      ∙ sym (append_assoc (flat_map ended first) (flat_map ended second) rest) ∙ ap (λ x. x ++ rest) (sym (ended_append first second));
  each = all_append HasNoFeed first second one.each two.each;
  last = two.last;
}

cuts_as : (a b : List ℕ) (lines : List (List ℕ)) (rest : List ℕ) → a ≡ b → Cuts a lines rest → Cuts b lines rest
cuts_as a b lines rest e cuts = let P : List ℕ → Type 0 = λ x. Cuts x lines rest in subst P e cuts

-- ---- bytes

pub bytes_none : (m : Machine) (s : SinkState) (before : List ℕ) → HasNoFeed before → BytesRun m m s s before [] before
bytes_none m s before no_feed = record { lines = []; cuts = record { whole = append-nil before; each = tt; last = no_feed }; all = none_run m s }

-- a byte that goes on with the line
pub byte_in_line : (m : Machine) (s : SinkState) (before : List ℕ) (b : ℕ) → HasNoFeed before → b ≢ 10 → BytesRun m m s s before (b ∷ []) (before ++ b ∷ [])
byte_in_line m s before b no_feed other = record {
  lines = [];
  cuts = record { whole = refl; each = tt; last = all_append (λ c. c ≢ 10) before (b ∷ []) no_feed (other, tt) };
  all = none_run m s;
}

feed_cuts : (before : List ℕ) → HasNoFeed before → Cuts (before ++ 10 ∷ []) (before ∷ []) []
feed_cuts before no_feed = record {
  whole = sym (append-nil (ended before)) ∙ sym (append-nil (flat_map ended (before ∷ [])));
  each = (no_feed, tt);
  last = tt;
}

-- a line feed, behind which its line was run
pub feed_run : (m0 m1 : Machine) (s0 s1 : SinkState) (before line : List ℕ) (b : ℕ) → line ≡ before → b ≡ 10 → HasNoFeed before → AllRun m0 m1 s0 s1 (line ∷ [])
    → BytesRun m0 m1 s0 s1 before (b ∷ []) []
feed_run m0 m1 s0 s1 before line b is feed no_feed all =
    let P : List ℕ → Type 0 = λ l. AllRun m0 m1 s0 s1 (l ∷ []) in
    let Q : ℕ → Type 0 = λ c. BytesRun m0 m1 s0 s1 before (c ∷ []) [] in
    subst Q (sym feed) (record { lines = before ∷ []; cuts = feed_cuts before no_feed; all = subst P is all })

-- a line feed, behind which its line was not run, or its reply not taken whole
pub feed_stopped : (m0 m1 : Machine) (s0 s1 : SinkState) (before line : List ℕ) (b : ℕ) → line ≡ before → b ≡ 10 → HasNoFeed before → SomeRun m0 m1 s0 s1 (line ∷ [])
    → BytesStopped m0 m1 s0 s1 before (b ∷ [])
feed_stopped m0 m1 s0 s1 before line b is feed no_feed some =
    let P : List ℕ → Type 0 = λ l. SomeRun m0 m1 s0 s1 (l ∷ []) in
    let Q : ℕ → Type 0 = λ c. BytesStopped m0 m1 s0 s1 before (c ∷ []) in
    subst Q (sym feed) (record {
      front = 10 ∷ [];
      back = [];
      split = refl;
      lines = before ∷ [];
      after = [];
      cuts = feed_cuts before no_feed;
      some = subst P is some;
    })

-- nothing of these bytes was run
pub none_stopped : (m : Machine) (s : SinkState) (before bytes : List ℕ) → HasNoFeed before → BytesStopped m m s s before bytes
none_stopped m s before bytes no_feed = record {
  front = [];
  back = bytes;
  split = refl;
  lines = [];
  after = before;
  cuts = record { whole = append-nil before; each = tt; last = no_feed };
  some = some_of_all m m s s [] [] (none_run m s);
}

pub bytes_on : (m0 m1 m2 : Machine) (s0 s1 s2 : SinkState) (before a mid b after : List ℕ) → SinkSteady s0 s1
    → BytesRun m0 m1 s0 s1 before a mid → BytesRun m1 m2 s1 s2 mid b after → BytesRun m0 m2 s0 s2 before (a ++ b) after
bytes_on m0 m1 m2 s0 s1 s2 before a mid b after steady first second = record {
  lines = first.lines ++ second.lines;
  cuts = cuts_as ((before ++ a) ++ b) (before ++ (a ++ b)) (first.lines ++ second.lines) after (append_assoc before a b)
      (cuts_on (before ++ a) b first.lines second.lines mid after first.cuts second.cuts);
  all = all_on m0 m1 m2 s0 s1 s2 first.lines second.lines steady first.all second.all;
}

pub stopped_on : (m0 m1 m2 : Machine) (s0 s1 s2 : SinkState) (before a mid b : List ℕ) → SinkSteady s0 s1
    → BytesRun m0 m1 s0 s1 before a mid → BytesStopped m1 m2 s1 s2 mid b → BytesStopped m0 m2 s0 s2 before (a ++ b)
stopped_on m0 m1 m2 s0 s1 s2 before a mid b steady first second = record {
  front = a ++ second.front;
  back = second.back;
  split = ap (λ x. a ++ x) second.split ∙ sym (append_assoc a second.front second.back);
  lines = first.lines ++ second.lines;
  after = second.after;
  cuts = cuts_as ((before ++ a) ++ second.front) (before ++ (a ++ second.front)) (first.lines ++ second.lines) second.after (append_assoc before a second.front)
      (cuts_on (before ++ a) second.front first.lines second.lines mid second.after first.cuts second.cuts);
  some = some_on m0 m1 m2 s0 s1 s2 first.lines second.lines steady first.all second.some;
}

pub stopped_more : (m0 m1 : Machine) (s0 s1 : SinkState) (before a b : List ℕ) → BytesStopped m0 m1 s0 s1 before a → BytesStopped m0 m1 s0 s1 before (a ++ b)
stopped_more m0 m1 s0 s1 before a b stopped = record {
  front = stopped.front;
  back = stopped.back ++ b;
  split = ap (λ x. x ++ b) stopped.split ∙ append_assoc stopped.front stopped.back b;
  lines = stopped.lines;
  after = stopped.after;
  cuts = stopped.cuts;
  some = stopped.some;
}

-- ---- a piece, byte by byte

piece_split : (piece : List ℕ) (i : ℕ) → i < length piece → piece ≡ (take i piece ++ get_or piece i 0 ∷ []) ++ drop (i + 1) piece
piece_split piece i within =
    sym (take-append-drop (i + 1) piece) ∙ ap (λ x. x ++ drop (i + 1) piece) (take_more piece i 0 within)

pub stopped_on_piece : (m0 m1 m2 : Machine) (s0 s1 s2 : SinkState) (before piece : List ℕ) (i : ℕ) (mid : List ℕ) → i < length piece → SinkSteady s0 s1
    → BytesRun m0 m1 s0 s1 before (take i piece) mid → BytesStopped m1 m2 s1 s2 mid (get_or piece i 0 ∷ []) → BytesStopped m0 m2 s0 s2 before piece
stopped_on_piece m0 m1 m2 s0 s1 s2 before piece i mid within steady first second =
    let P : List ℕ → Type 0 = λ x. BytesStopped m0 m2 s0 s2 before x in
    subst P (sym (piece_split piece i within))
    (stopped_more m0 m2 s0 s2 before (take i piece ++ get_or piece i 0 ∷ []) (drop (i + 1) piece)
    (stopped_on m0 m1 m2 s0 s1 s2 before (take i piece) mid (get_or piece i 0 ∷ []) steady first second))

pub bytes_on_piece : (m0 m1 m2 : Machine) (s0 s1 s2 : SinkState) (before piece : List ℕ) (i : ℕ) (mid after : List ℕ) → i < length piece → SinkSteady s0 s1
    → BytesRun m0 m1 s0 s1 before (take i piece) mid → BytesRun m1 m2 s1 s2 mid (get_or piece i 0 ∷ []) after → BytesRun m0 m2 s0 s2 before (take (i + 1) piece) after
bytes_on_piece m0 m1 m2 s0 s1 s2 before piece i mid after within steady first second =
    let P : List ℕ → Type 0 = λ x. BytesRun m0 m2 s0 s2 before x after in
    subst P (sym (take_more piece i 0 within)) (bytes_on m0 m1 m2 s0 s1 s2 before (take i piece) mid (get_or piece i 0 ∷ []) after steady first second)
