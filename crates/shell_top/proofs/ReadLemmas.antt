use Rattle.std.proofs.Common.{◌≡◌, ℕ, ◌+◌, ◌<◌, ◌≤◌, List, [], ◌++◌, length, take, IsTrue, refl, sym, ap, subst, ◌∙◌, arith, append_assoc, length-take-le, length-append, Option, Some, None}
use Rattle.std.proofs.lemmas.List.{append-nil}
use Rattle.byte_base.specs.Count.{Rose}
use Rattle.shell_lang.specs.Ends.{SourceState, SourceSteady, SinkState, SinkSteady, Gives}
use Rattle.shell_top.specs.Line.{HasNoFeed, last_line}
use Rattle.shell_top.specs.Machine.{Machine}
use Rattle.shell_top.specs.Ran.{most_input, Answered, Begun, ToTheEnd, SoFar, CutOff, Went}
use Rattle.shell_top.specs.Reply.{text_of, texts_of}
use Rattle.shell_top.specs.Running.{Took, TookSome, AllRun, SomeRun, BytesRun, BytesStopped}
use Rattle.shell_top.specs.Status.{halt_status}
use Rattle.shell_top.specs.declared.reply.Reply.{Reply}
use Rattle.shell_top.specs.declared.run.Halt.{Halt}
use Rattle.shell_top.specs.declared.run.Halt.TheVariants.{Memory, WriteFault}
use Rattle.shell_top.specs.Stands.{machine_of, end_status}
use Rattle.shell_top.specs.declared.session.Table.{Table}
use Rattle.shell_top.specs.declared.status.Status.{Status}
use Rattle.shell_top.specs.declared.status.Status.TheVariants.{ReadFault, TooMuch}
use Rattle.shell_top.proofs.RunLemmas.{took_append, sink_on, some_on, all_on, bytes_none, bytes_on, stopped_on}

-- ---- how far the reading has come

-- the reply to the opening was taken whole, and what was read behind it was run, but for the rest of a line
pub record ReadOn (opening : Reply) (old new : Machine) (in0 in1 : SourceState) (out0 out1 : SinkState) (count : ℕ) (line : List ℕ) : Type 0 where
  pub read : List ℕ
  pub taken : IsTrue in0.tells → in0.holds ≡ read ++ in1.holds
  pub size : length read ≡ count
  pub source : SourceSteady in0 in1
  pub mid : SinkState
  pub opened : Took out0 mid (text_of opening) []
  pub before : SinkSteady out0 mid
  pub behind : SinkSteady mid out1
  pub run : BytesRun old new mid out1 [] read line

-- ---- counts

rose_behind : (a b c : ℕ) → a ≤ b → Rose b c → Rose a c
rose_behind a b c le rose = omega (arith, le, rose)

-- ---- the reply to the opening stands before the others

answered_of : (opening : Reply) (m0 m1 : Machine) (s0 s1 s2 : SinkState) (lines : List (List ℕ)) → SinkSteady s0 s1 → Took s0 s1 (text_of opening) []
    → AllRun m0 m1 s1 s2 lines → Answered opening m0 m1 s0 s2 lines
answered_of opening m0 m1 s0 s1 s2 lines steady opened all =
    let whole : Took s0 s2 (text_of opening ++ texts_of all.replies) [] = took_append s0 s1 s2 (text_of opening) (texts_of all.replies) [] steady opened all.took in
    record {
      replies = all.replies;
      run = all.run;
      taken = λ tells. whole.taken tells ∙ ap (λ p. s0.taken ++ p) (sym (append-nil whole.part) ∙ sym whole.split);
    }

begun_of : (opening : Reply) (m0 m1 : Machine) (s0 s1 s2 : SinkState) (lines : List (List ℕ)) → SinkSteady s0 s1 → Took s0 s1 (text_of opening) []
    → SomeRun m0 m1 s1 s2 lines → Begun opening m0 m1 s0 s2 lines
begun_of opening m0 m1 s0 s1 s2 lines steady opened some =
    let whole : Took s0 s2 (text_of opening ++ texts_of some.replies) some.took.rest =
    took_append s0 s1 s2 (text_of opening) (texts_of some.replies) some.took.rest steady opened some.took.took in
    record {
      ran = some.ran;
      left = some.left;
      split = some.split;
      replies = some.replies;
      run = some.run;
      part = whole.part;
      rest = some.took.rest;
      front = whole.split;
      taken = whole.taken;
    }

-- ---- reading

same_source : (s : SourceState) → SourceSteady s s
same_source s = record { tells = refl; faults = omega arith }

source_on : (s0 s1 s2 : SourceState) → SourceSteady s0 s1 → SourceSteady s1 s2 → SourceSteady s0 s2
source_on s0 s1 s2 a b = record { tells = b.tells ∙ a.tells; faults = omega (arith, a.faults, b.faults) }

same_sink : (s : SinkState) → SinkSteady s s
same_sink s = record { tells = refl; faults = omega arith }

pub read_begin : (opening : Reply) (m : Machine) (in0 : SourceState) (s0 s1 : SinkState) → SinkSteady s0 s1 → Took s0 s1 (text_of opening) []
    → ReadOn opening m m in0 in0 s0 s1 0 []
read_begin opening m in0 s0 s1 steady opened = record {
  read = [];
  taken = λ tells. refl;
  size = refl;
  source = same_source in0;
  mid = s1;
  opened = opened;
  before = steady;
  behind = same_sink s1;
  run = bytes_none m s1 [] tt;
}

-- what is in the source before a piece was read
taken_more : (in0 in1 in2 : SourceState) (read buf : List ℕ) (count : ℕ) → SourceSteady in0 in1 → (IsTrue in0.tells → in0.holds ≡ read ++ in1.holds)
    → Gives in1 in2 buf count → IsTrue in0.tells → in0.holds ≡ (read ++ take count buf) ++ in2.holds
taken_more in0 in1 in2 read buf count steady taken gives tells =
    taken tells ∙ ap (λ h. read ++ h) (gives.moved (steady.tells ∙ tells)) ∙ sym (append_assoc read (take count buf) in2.holds)

pub read_more : (opening : Reply) (m0 m1 m2 : Machine) (in0 in1 in2 : SourceState) (s0 s1 s2 : SinkState) (n : ℕ) (line buf : List ℕ) (count : ℕ) (after : List ℕ)
    → ReadOn opening m0 m1 in0 in1 s0 s1 n line → SourceSteady in1 in2 → Gives in1 in2 buf count → SinkSteady s1 s2
    → BytesRun m1 m2 s1 s2 line (take count buf) after → ReadOn opening m0 m2 in0 in2 s0 s2 (n + count) after
read_more opening m0 m1 m2 in0 in1 in2 s0 s1 s2 n line buf count after so source gives sink run = record {
  read = so.read ++ take count buf;
  taken = taken_more in0 in1 in2 so.read buf count so.source so.taken gives;
  size = length-append so.read (take count buf) ∙ (λ k. so.size k + length-take-le count buf gives.within k);
  source = source_on in0 in1 in2 so.source source;
  mid = so.mid;
  opened = so.opened;
  before = so.before;
  behind = sink_on so.mid s1 s2 so.behind sink;
  run = bytes_on m0 m1 m2 so.mid s1 s2 [] so.read line (take count buf) after so.behind so.run run;
}

-- ---- ends

halted_went : (halt : Halt) (read : List ℕ) (in0 in1 : SourceState) (opening : Reply) (m0 m1 : Machine) (s0 s1 : SinkState)
    → (IsTrue in0.tells → in0.holds ≡ read ++ in1.holds) → CutOff read in0 in1 opening m0 m1 s0 s1 → (halt ≡ WriteFault → Rose s0.faults s1.faults)
    → Went (halt_status halt) in0 in1 opening m0 m1 s0 s1
halted_went Memory read in0 in1 opening m0 m1 s0 s1 taken cut cause = record { read = read; taken = taken; outcome = cut }
halted_went WriteFault read in0 in1 opening m0 m1 s0 s1 taken cut cause = record { read = read; taken = taken; outcome = (cut, cause refl) }

pub opening_cut : (halt : Halt) (in0 : SourceState) (opening : Reply) (m : Machine) (s0 s1 : SinkState) → TookSome s0 s1 (text_of opening)
    → (halt ≡ WriteFault → Rose s0.faults s1.faults) → Went (halt_status halt) in0 in0 opening m m s0 s1
opening_cut halt in0 opening m s0 s1 some cause =
    halted_went halt [] in0 in0 opening m m s0 s1 (λ tells. refl) (record {
      front = [];
      back = [];
      split = refl;
      lines = [];
      rest = [];
      cuts = record { whole = refl; each = tt; last = tt };
      last = [];
      at_end = λ some_last. absurd (some_last refl);
      begun = record {
        ran = [];
        left = [];
        split = refl;
        replies = [];
        run = refl;
        part = some.took.part;
        rest = some.rest;
        front = append-nil (text_of opening) ∙ some.took.split;
        taken = some.took.taken;
      };
    }) cause

pub piece_cut : (halt : Halt) (opening : Reply) (m0 m1 m2 : Machine) (in0 in1 in2 : SourceState) (s0 s1 s2 : SinkState) (n : ℕ) (line buf : List ℕ) (count : ℕ)
    → ReadOn opening m0 m1 in0 in1 s0 s1 n line → Gives in1 in2 buf count → BytesStopped m1 m2 s1 s2 line (take count buf)
    → (halt ≡ WriteFault → Rose s1.faults s2.faults) → Went (halt_status halt) in0 in2 opening m0 m2 s0 s2
piece_cut halt opening m0 m1 m2 in0 in1 in2 s0 s1 s2 n line buf count so gives stopped cause =
    let all : BytesStopped m0 m2 so.mid s2 [] (so.read ++ take count buf) = stopped_on m0 m1 m2 so.mid s1 s2 [] so.read line (take count buf) so.behind so.run stopped in
    let Some_of : List (List ℕ) → Type 0 = λ lines. SomeRun m0 m2 so.mid s2 lines in
    halted_went halt (so.read ++ take count buf) in0 in2 opening m0 m2 s0 s2
    (taken_more in0 in1 in2 so.read buf count so.source so.taken gives)
    (record {
      front = all.front;
      back = all.back;
      split = all.split;
      lines = all.lines;
      rest = all.after;
      cuts = all.cuts;
      last = [];
      at_end = λ some_last. absurd (some_last refl);
      begun = begun_of opening m0 m2 s0 so.mid s2 (all.lines ++ []) so.before so.opened (subst Some_of (sym (append-nil all.lines)) all.some);
    })
    (λ fault. rose_behind s0.faults s1.faults s2.faults (sink_on s0 so.mid s1 so.before so.behind).faults (cause fault))

-- nothing was moved
at_end : (in0 in1 in2 : SourceState) (read buf : List ℕ) → SourceSteady in0 in1 → (IsTrue in0.tells → in0.holds ≡ read ++ in1.holds) → Gives in1 in2 buf 0
    → IsTrue in0.tells → in0.holds ≡ read ++ in2.holds
at_end in0 in1 in2 read buf steady taken gives tells = taken tells ∙ ap (λ h. read ++ h) (gives.moved (steady.tells ∙ tells))

nothing_left : (in0 in1 in2 : SourceState) (buf : List ℕ) → SourceSteady in0 in1 → Gives in1 in2 buf 0 → IsTrue in0.tells → in2.holds ≡ []
nothing_left in0 in1 in2 buf steady gives tells = sym (gives.moved (steady.tells ∙ tells)) ∙ gives.ended (steady.tells ∙ tells) refl

pub last_cut : (halt : Halt) (opening : Reply) (m0 m1 m2 : Machine) (in0 in1 in2 : SourceState) (s0 s1 s2 : SinkState) (n : ℕ) (line buf : List ℕ)
    → ReadOn opening m0 m1 in0 in1 s0 s1 n line → Gives in1 in2 buf 0 → SomeRun m1 m2 s1 s2 (last_line line)
    → (halt ≡ WriteFault → Rose s1.faults s2.faults) → Went (halt_status halt) in0 in2 opening m0 m2 s0 s2
last_cut halt opening m0 m1 m2 in0 in1 in2 s0 s1 s2 n line buf so gives some cause =
    halted_went halt so.read in0 in2 opening m0 m2 s0 s2 (at_end in0 in1 in2 so.read buf so.source so.taken gives)
    (record {
      front = so.read;
      back = [];
      split = sym (append-nil so.read);
      lines = so.run.lines;
      rest = line;
      cuts = so.run.cuts;
      last = last_line line;
      at_end = λ some_last. (refl, refl, nothing_left in0 in1 in2 buf so.source gives);
      begun = begun_of opening m0 m2 s0 so.mid s2 (so.run.lines ++ last_line line) so.before so.opened
          (some_on m0 m1 m2 so.mid s1 s2 so.run.lines (last_line line) so.behind so.run.all some);
    })
    (λ fault. rose_behind s0.faults s1.faults s2.faults (sink_on s0 so.mid s1 so.before so.behind).faults (cause fault))

so_far : (opening : Reply) (m0 m1 : Machine) (in0 in1 : SourceState) (s0 s1 : SinkState) (n : ℕ) (line : List ℕ) (so : ReadOn opening m0 m1 in0 in1 s0 s1 n line)
    → SoFar so.read opening m0 m1 s0 s1
so_far opening m0 m1 in0 in1 s0 s1 n line so = record {
  lines = so.run.lines;
  rest = line;
  cuts = so.run.cuts;
  answered = answered_of opening m0 m1 s0 so.mid s1 so.run.lines so.before so.opened so.run.all;
}

pub read_failed : (opening : Reply) (m0 m1 : Machine) (in0 in1 in2 : SourceState) (s0 s1 : SinkState) (n : ℕ) (line : List ℕ)
    → ReadOn opening m0 m1 in0 in1 s0 s1 n line → n < most_input → (IsTrue in1.tells → in2.holds ≡ in1.holds) → Rose in1.faults in2.faults
    → Went ReadFault in0 in2 opening m0 m1 s0 s1
read_failed opening m0 m1 in0 in1 in2 s0 s1 n line so less stays rose = record {
  read = so.read;
  taken = λ tells. so.taken tells ∙ ap (λ h. so.read ++ h) (sym (stays (so.source.tells ∙ tells)));
  outcome = (so_far opening m0 m1 in0 in1 s0 s1 n line so, rose_behind in0.faults in1.faults in2.faults so.source.faults rose, omega (arith, so.size, less));
}

pub too_much : (opening : Reply) (m0 m1 : Machine) (in0 in1 : SourceState) (s0 s1 : SinkState) (n : ℕ) (line : List ℕ)
    → ReadOn opening m0 m1 in0 in1 s0 s1 n line → n ≡ most_input → Went TooMuch in0 in1 opening m0 m1 s0 s1
too_much opening m0 m1 in0 in1 s0 s1 n line so is = record {
  read = so.read;
  taken = so.taken;
  outcome = (so_far opening m0 m1 in0 in1 s0 s1 n line so, so.size ∙ is);
}

to_the_end : (opening : Reply) (m0 m1 m2 : Machine) (in0 in1 in2 : SourceState) (s0 s1 s2 : SinkState) (n : ℕ) (line buf : List ℕ)
    → (so : ReadOn opening m0 m1 in0 in1 s0 s1 n line) → n < most_input → Gives in1 in2 buf 0 → AllRun m1 m2 s1 s2 (last_line line)
    → ToTheEnd so.read in0 in2 opening m0 m2 s0 s2
to_the_end opening m0 m1 m2 in0 in1 in2 s0 s1 s2 n line buf so less gives all = record {
  lines = so.run.lines;
  rest = line;
  cuts = so.run.cuts;
  answered = answered_of opening m0 m2 s0 so.mid s2 (so.run.lines ++ last_line line) so.before so.opened
      (all_on m0 m1 m2 so.mid s1 s2 so.run.lines (last_line line) so.behind so.run.all all);
  ended = nothing_left in0 in1 in2 buf so.source gives;
  less = omega (arith, so.size, less);
}

pub ended_went : (table : Option Table) (faults : ℕ) (opening : Reply) (m0 m1 : Machine) (in0 in1 in2 : SourceState) (s0 s1 s2 : SinkState) (n : ℕ) (line buf : List ℕ)
    → ReadOn opening m0 m1 in0 in1 s0 s1 n line → n < most_input → Gives in1 in2 buf 0 → AllRun m1 (machine_of table faults) s1 s2 (last_line line)
    → Went (end_status table) in0 in2 opening m0 (machine_of table faults) s0 s2
ended_went None faults opening m0 m1 in0 in1 in2 s0 s1 s2 n line buf so less gives all = record {
  read = so.read;
  taken = at_end in0 in1 in2 so.read buf so.source so.taken gives;
  outcome = (to_the_end opening m0 m1 (machine_of None faults) in0 in1 in2 s0 s1 s2 n line buf so less gives all, refl);
}
ended_went (Some table) faults opening m0 m1 in0 in1 in2 s0 s1 s2 n line buf so less gives all = record {
  read = so.read;
  taken = at_end in0 in1 in2 so.read buf so.source so.taken gives;
  outcome = (to_the_end opening m0 m1 (machine_of (Some table) faults) in0 in1 in2 s0 s1 s2 n line buf so less gives all, refl);
}

pub went_by : (status other : Status) (in0 in1 : SourceState) (opening : Reply) (m0 m1 : Machine) (s0 s1 : SinkState) → status ≡ other → Went other in0 in1 opening m0 m1 s0 s1
    → Went status in0 in1 opening m0 m1 s0 s1
went_by status other in0 in1 opening m0 m1 s0 s1 is went = let P : Status → Type 0 = λ s. Went s in0 in1 opening m0 m1 s0 s1 in subst P (sym is) went

pub no_feed_in_none : (line : List ℕ) → line ≡ [] → HasNoFeed line
no_feed_in_none line is = let P : List ℕ → Type 0 = HasNoFeed in subst P (sym is) tt

pub nil_length : (line : List ℕ) → line ≡ [] → length line ≡ 0
nil_length line is = ap length is
