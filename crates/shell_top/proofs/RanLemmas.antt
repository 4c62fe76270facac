use Rattle.std.proofs.Common.{◌≡◌, ◌≢◌, ℕ, Bool, true, false, List, [], get_or, IsTrue, refl, sym, ap, subst, ◌∙◌, arith, Option, Some, None, unwrap_or}
use mathlib.Core.Bool.{true≢false}
use Rattle.vfs_model.specs.Effect.{NoLooser}
use Rattle.vfs_model.specs.Laws.{LooserTwice}
use Rattle.vfs_trait.specs.State.{StackState, Steady, Stands as StackStands}
use Rattle.vfs_trait.specs.Calls.{Leaves}
use Rattle.shell_lang.specs.Ends.{SourceState, SinkState}
use Rattle.shell_top.specs.Machine.{Machine, Opens, content}
use Rattle.shell_top.specs.Touched.{OnlyTouches, RefusedStays, UnopenedStays}
use Rattle.shell_top.specs.Ran.{Ran, Went}
use Rattle.shell_top.specs.Rows.{row_file}
use Rattle.shell_top.specs.Stands.{machine_of, TableStands, machine, Stands, Keeps}
use Rattle.shell_top.specs.Words.{AreWords}
use Rattle.shell_top.specs.declared.reply.Reply.{Reply}
use Rattle.shell_top.specs.declared.reply.Reply.TheVariants.{Open, New, Replaced, NotADatabase, BadLine, TooLong, Fault, Stopped, Memory, MemoryStopped}
use Rattle.shell_top.specs.declared.session.Table.{Table}
use Rattle.shell_top.specs.declared.session.Session.{Session}
use Rattle.shell_top.specs.declared.status.Status.{Status}
use Rattle.shell_top.proofs.TouchLemmas.{touches_on, failed_on}

-- the words name one database at most
pub one_name : (words : List (List ℕ)) (a b : List ℕ) → AreWords words a → AreWords words b → a ≡ b
one_name words a b first second = ap (λ l. get_or l 0 []) (sym first.one ∙ second.one)

-- a session that goes on has the file of its name hold its rows
kept_bytes : (name : List ℕ) (table : Option Table) (faults : ℕ) (stack : StackState) → TableStands name table stack → (machine_of table faults).stopped ≡ false
    → IsTrue stack.tells → (stack.files name).now.bytes ≡ row_file (machine_of table faults).rows
kept_bytes name None faults stack stands goes = absurd (true≢false goes)
kept_bytes name (Some table) faults stack stands goes =
    λ tells. ap (λ o. (stack.files (unwrap_or o [])).now.bytes) (sym stands.0) ∙ stands.1.bytes tells

same_faults : (table : Option Table) (faults : ℕ) → (machine_of table faults).faults ≡ faults
same_faults None faults = refl
same_faults (Some table) faults = refl

-- a stopped machine is that of a session without a table
no_table : (table : Option Table) (faults : ℕ) → (machine_of table faults).stopped ≡ true → table ≡ None
no_table None faults stopped = refl
no_table (Some table) faults stopped = absurd (true≢false (sym stopped))

-- a file that is not there has no bytes
content_of : (there : Bool) (bytes : List ℕ) (bad : ℕ → Bool) → (there ≡ false → bytes ≡ []) → content (record { there = there; bytes = bytes; bad = bad }) ≡ bytes
content_of true bytes bad missing = refl
content_of false bytes bad missing = sym (missing refl)

-- what a refused opening left stays through the run of its stopped session and the close
refused_through : LooserTwice → (name : List ℕ) (before opened behind closed : StackState) (first last : Session) (opening : Reply) → Opens before name opening (machine first opened)
    → RefusedStays opening before opened name → Keeps first last opened behind → (IsTrue behind.tells → NoLooser (behind.files name) (closed.files name))
    → OnlyTouches name before opened → RefusedStays opening before closed name
refused_through twice name before opened behind closed first last opening opens stays keeps left begun is tells tame =
    let P : Reply → Type 0 = λ r. Opens before name r (machine first opened) in
    let same : behind ≡ opened = (keeps.stopped (no_table first.table opened.faults (subst P is opens).1)).1 in
    let Q : StackState → Type 0 = λ s. IsTrue s.tells → NoLooser (s.files name) (closed.files name) in
    twice (before.files name) (opened.files name) (closed.files name) (stays is tells tame) (subst Q same left (begun.steady.tells ∙ tells))

-- an opening that is not answered `open` begins no machine that goes on
stopped_of : (before : StackState) (name : List ℕ) (opening : Reply) (start : Machine) → opening ≢ Open → Opens before name opening start → start.stopped ≡ true
stopped_of before name Open start differ opens = absurd (differ refl)
stopped_of before name NotADatabase start differ opens = opens.1
stopped_of before name Fault start differ opens = opens.0
stopped_of before name MemoryStopped start differ opens = opens.0
stopped_of before name New start differ opens = absurd opens
stopped_of before name Replaced start differ opens = absurd opens
stopped_of before name BadLine start differ opens = absurd opens
stopped_of before name TooLong start differ opens = absurd opens
stopped_of before name Stopped start differ opens = absurd opens
stopped_of before name Memory start differ opens = absurd opens

-- and what it left stays likewise
unopened_through : LooserTwice → (name : List ℕ) (before opened behind closed : StackState) (first last : Session) (opening : Reply) → Opens before name opening (machine first opened)
    → UnopenedStays opening before opened name → Keeps first last opened behind → (IsTrue behind.tells → NoLooser (behind.files name) (closed.files name))
    → OnlyTouches name before opened → UnopenedStays opening before closed name
unopened_through twice name before opened behind closed first last opening opens stays keeps left begun differ tells tame =
    let same : behind ≡ opened = (keeps.stopped (no_table first.table opened.faults (stopped_of before name opening (machine first opened) differ opens))).1 in
    let Q : StackState → Type 0 = λ s. IsTrue s.tells → NoLooser (s.files name) (closed.files name) in
    failed_on twice (before.files name) (opened.files name) (closed.files name) (stays differ tells tame) (subst Q same left (begun.steady.tells ∙ tells))

pub ran_of : LooserTwice → (name : List ℕ) (before opened behind closed : StackState) (first last : Session) (in0 in1 : SourceState) (s0 s1 : SinkState) (status : Status) (opening : Reply)
    → first.name ≡ name → Opens before name opening (machine first opened) → Went status in0 in1 opening (machine first opened) (machine last behind) s0 s1
    → Stands last behind → OnlyTouches name before opened → RefusedStays opening before opened name → UnopenedStays opening before opened name → Keeps first last opened behind
    → Steady behind closed → Leaves behind closed last.name NoLooser → StackStands closed → Ran name before closed in0 in1 s0 s1 status
ran_of twice name before opened behind closed first last in0 in1 s0 s1 status opening begins opens went stands begun stays unopened keeps steady leaves shows =
    let named : last.name ≡ name = keeps.named ∙ begins in
    let Kept : List ℕ → Type 0 = λ n. TableStands n last.table behind in
    let Touches : List ℕ → Type 0 = λ n. OnlyTouches n opened behind in
    let Left : List ℕ → Type 0 = λ n. Leaves behind closed n NoLooser in
    let left : Leaves behind closed name NoLooser = subst Left named leaves in
    let run : OnlyTouches name before behind = touches_on twice name before opened behind begun (subst Touches begins keeps.touches) in
    let all : OnlyTouches name before closed = touches_on twice name before behind closed run (record { steady = steady; others = left.others }) in
    let bytes : (machine last behind).stopped ≡ false → IsTrue before.tells → (closed.files name).now.bytes ≡ row_file (machine last behind).rows =
    λ goes tells.
    let told : IsTrue behind.tells = run.steady.tells ∙ tells in
    ap (λ f. f.bytes) (left.file told).now ∙ kept_bytes name last.table behind.faults behind (subst Kept named stands.table) goes told in
    record {
      opening = opening;
      start = machine first opened;
      end = machine last behind;
      opens = opens;
      went = went;
      file = bytes;
      device = λ goes tells tame.
          let sound = shows.sound (all.steady.tells ∙ tells) in
          ap content (sym (sound.shows name tame)) ∙ content_of _ _ (closed.files name).now.bad (sound.orderly name).missing ∙ bytes goes tells;
      refused = refused_through twice name before opened behind closed first last opening opens stays keeps left.file begun;
      unopened = unopened_through twice name before opened behind closed first last opening opens unopened keeps left.file begun;
      others = all.others;
      steady = all.steady;
      faults = omega (arith, steady.faults, same_faults last.table behind.faults);
    }
