-- How far a run has come: the lines cut so far, the replies to them, and what the sink has taken of those.
use Rattle.std.specs.Prelude.{◌≡◌, ℕ, List, [], ◌++◌, IsTrue}
use Rattle.shell_lang.specs.Ends.{SinkState}
use Rattle.shell_top.specs.Line.{Cuts}
use Rattle.shell_top.specs.Machine.{Machine, Run}
use Rattle.shell_top.specs.Reply.{texts_of}
use Rattle.shell_top.specs.declared.reply.Reply.{Reply}

-- the sink has taken these bytes but for a rest
pub record Took (old new : SinkState) (bytes rest : List ℕ) : Type 0 where
  pub part : List ℕ
  pub split : bytes ≡ part ++ rest
  pub taken : IsTrue old.tells → new.taken ≡ old.taken ++ part

-- some rest was left
pub record TookSome (old new : SinkState) (bytes : List ℕ) : Type 0 where
  pub rest : List ℕ
  pub took : Took old new bytes rest

-- these lines were run one after another, and the sink took every reply
pub record AllRun (old new : Machine) (out0 out1 : SinkState) (lines : List (List ℕ)) : Type 0 where
  pub replies : List Reply
  pub run : Run old lines replies new
  pub took : Took out0 out1 (texts_of replies) []

-- the first of these lines were run one after another, and the sink took a front of the replies
pub record SomeRun (old new : Machine) (out0 out1 : SinkState) (lines : List (List ℕ)) : Type 0 where
  pub ran : List (List ℕ)
  pub left : List (List ℕ)
  pub split : lines ≡ ran ++ left
  pub replies : List Reply
  pub run : Run old ran replies new
  pub took : TookSome out0 out1 (texts_of replies)

-- behind the rest of a line came these bytes: all lines that they complete were run, and a rest is left
pub record BytesRun (old new : Machine) (out0 out1 : SinkState) (before bytes after : List ℕ) : Type 0 where
  pub lines : List (List ℕ)
  pub cuts : Cuts (before ++ bytes) lines after
  pub all : AllRun old new out0 out1 lines

-- behind the rest of a line came these bytes: of the lines that a front of them completes only the first were run, or
-- not all replies taken
pub record BytesStopped (old new : Machine) (out0 out1 : SinkState) (before bytes : List ℕ) : Type 0 where
  pub front : List ℕ
  pub back : List ℕ
  pub split : bytes ≡ front ++ back
  pub lines : List (List ℕ)
  pub after : List ℕ
  pub cuts : Cuts (before ++ front) lines after
  pub some : SomeRun old new out0 out1 lines
