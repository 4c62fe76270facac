-- What a whole run of the shell does, by its status.
use Rattle.std.specs.Prelude.{◌≡◌, ◌≢◌, ℕ, ◌≤◌, ◌<◌, true, false, List, [], ◌∷◌, ◌++◌, length, IsTrue}
use Rattle.byte_base.specs.Count.{Rose}
use Rattle.vfs_model.specs.Store.{OthersStay, present}
use Rattle.vfs_model.specs.View.{through}
use Rattle.vfs_trait.specs.State.{StackState, Steady}
use Rattle.shell_lang.specs.Ends.{SourceState, SinkState}
use Rattle.shell_top.specs.Line.{Cuts, last_line}
use Rattle.shell_top.specs.Machine.{Machine, Opens, Run, content}
use Rattle.shell_top.specs.Reply.{texts_of}
use Rattle.shell_top.specs.Rows.{row_file}
use Rattle.shell_top.specs.Touched.{RefusedStays, UnopenedStays}
use Rattle.shell_top.specs.declared.reply.Reply.{Reply}
use Rattle.shell_top.specs.declared.status.Status.{Status}
use Rattle.shell_top.specs.declared.status.Status.TheVariants.{Done, Stopped, Words, Memory, ReadFault, WriteFault, TooMuch}

-- the most bytes that a run takes from the source: 1 GiB
abbrev pub most_input : ℕ
most_input = 1073741824

-- every one of these lines was run and answered, and the sink took the reply to the opening and every reply
pub record Answered (opening : Reply) (old new : Machine) (out0 out1 : SinkState) (lines : List (List ℕ)) : Type 0 where
  pub replies : List Reply
  pub run : Run old lines replies new
  pub taken : IsTrue out0.tells → out1.taken ≡ out0.taken ++ texts_of (opening ∷ replies)

-- the first of these lines were run, and what the sink took is a front of the replies, the opening's first
pub record Begun (opening : Reply) (old new : Machine) (out0 out1 : SinkState) (lines : List (List ℕ)) : Type 0 where
  pub ran : List (List ℕ)
  pub left : List (List ℕ)
  pub split : lines ≡ ran ++ left
  pub replies : List Reply
  pub run : Run old ran replies new
  pub part : List ℕ
  pub rest : List ℕ
  pub front : texts_of (opening ∷ replies) ≡ part ++ rest
  pub taken : IsTrue out0.tells → out1.taken ≡ out0.taken ++ part

-- the input was read to its end, and each of its lines answered
pub record ToTheEnd (read : List ℕ) (in0 in1 : SourceState) (opening : Reply) (old new : Machine) (out0 out1 : SinkState) : Type 0 where
  pub lines : List (List ℕ)
  pub rest : List ℕ
  pub cuts : Cuts read lines rest
  pub answered : Answered opening old new out0 out1 (lines ++ last_line rest)
  pub ended : IsTrue in0.tells → in1.holds ≡ []
  pub less : length read < most_input

-- each complete line of what was read was answered
pub record SoFar (read : List ℕ) (opening : Reply) (old new : Machine) (out0 out1 : SinkState) : Type 0 where
  pub lines : List (List ℕ)
  pub rest : List ℕ
  pub cuts : Cuts read lines rest
  pub answered : Answered opening old new out0 out1 lines

-- of the lines that a front of what was read completes only the first were run, or not every reply was taken. The
-- last line, which no line feed ends, is among them only where all was read and the source holds no more
pub record CutOff (read : List ℕ) (in0 in1 : SourceState) (opening : Reply) (old new : Machine) (out0 out1 : SinkState) : Type 0 where
  pub front : List ℕ
  pub back : List ℕ
  pub split : read ≡ front ++ back
  pub lines : List (List ℕ)
  pub rest : List ℕ
  pub cuts : Cuts front lines rest
  pub last : List (List ℕ)
  pub at_end : last ≢ [] → (last ≡ last_line rest) × (back ≡ []) × (IsTrue in0.tells → in1.holds ≡ [])
  pub begun : Begun opening old new out0 out1 (lines ++ last)

-- how far the run came, by its status, and why it came no further
abbrev pub Outcome : Status → List ℕ → SourceState → SourceState → Reply → Machine → Machine → SinkState → SinkState → Type 0
Outcome Done read in0 in1 opening old new out0 out1 = ToTheEnd read in0 in1 opening old new out0 out1 × (new.stopped ≡ false)
Outcome Stopped read in0 in1 opening old new out0 out1 = ToTheEnd read in0 in1 opening old new out0 out1 × (new.stopped ≡ true)
Outcome Words read in0 in1 opening old new out0 out1 = ⊥
Outcome Memory read in0 in1 opening old new out0 out1 = CutOff read in0 in1 opening old new out0 out1
Outcome ReadFault read in0 in1 opening old new out0 out1 = SoFar read opening old new out0 out1 × Rose in0.faults in1.faults × (length read < most_input)
Outcome WriteFault read in0 in1 opening old new out0 out1 = CutOff read in0 in1 opening old new out0 out1 × Rose out0.faults out1.faults
Outcome TooMuch read in0 in1 opening old new out0 out1 = SoFar read opening old new out0 out1 × (length read ≡ most_input)

-- the lines that a run over an open session read and answered, from one state of it and the two ends to another
pub record Went (status : Status) (in0 in1 : SourceState) (opening : Reply) (start end : Machine) (out0 out1 : SinkState) : Type 0 where
  -- the bytes that were taken from the source
  pub read : List ℕ
  pub taken : IsTrue in0.tells → in0.holds ≡ read ++ in1.holds
  pub outcome : Outcome status read in0 in1 opening start end out0 out1

-- a run over the database of a name, from one state of the stack, the source and the sink to another
pub record Ran (name : List ℕ) (stack0 stack1 : StackState) (in0 in1 : SourceState) (out0 out1 : SinkState) (status : Status) : Type 0 where
  -- the opening's reply, and the machine before the first line and behind the last one that was run
  pub opening : Reply
  pub start : Machine
  pub end : Machine
  pub opens : Opens stack0 name opening start
  pub went : Went status in0 in1 opening start end out0 out1
  -- the rows of a session that goes on stand in the file, and in what the layers show of the device unless the file is wild
  pub file : end.stopped ≡ false → IsTrue stack0.tells → (stack1.files name).now.bytes ≡ row_file end.rows
  pub device : end.stopped ≡ false → IsTrue stack0.tells → (stack1.files name).wild ≡ false → content (through stack1.layers (present stack1.base) name) ≡ row_file end.rows
  -- a file that is not empty is refused and stays as it was
  pub refused : RefusedStays opening stack0 stack1 name
  -- and so does, up to being made and empty, any file whose opening is not answered `open`
  pub unopened : UnopenedStays opening stack0 stack1 name
  -- and names that are apart from this one keep their files in every run
  pub others : IsTrue stack0.tells → OthersStay stack0.layers stack0.files stack1.files name
  pub steady : Steady stack0 stack1
  -- a fault of the stack is counted
  pub faults : end.faults ≤ stack1.faults
