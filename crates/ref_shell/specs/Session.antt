-- What the steps of a run say.
use Rattle.std.specs.Prelude.{◌≡◌, ℕ, ◌++◌, List, All}
use Rattle.std.specs.List.{flat_map, AllZip}
use Rattle.shell_lang.specs.declared.reply.Reply.{Reply}
use Rattle.shell_lang.specs.Reply.{ended, text_of}
use Rattle.book_model.specs.Book.{Book}
use Rattle.shell_model.specs.State.{State}
use Rattle.shell_model.specs.Run.{HasNoFeed, Line, IsLine, Answers, Run}

-- a line was read and answered
pub record LineAnswer (old : State) (bytes : List ℕ) (answer : Reply) (new : State) : Type 0 where
  pub line : Line
  pub is : IsLine bytes line
  pub answered : Answers old line answer new

-- and the text of the reply was put behind another
pub record LineRun (old : State) (bytes before after : List ℕ) (new : State) : Type 0 where
  pub answer : Reply
  pub line_is : LineAnswer old bytes answer new
  pub text : after ≡ before ++ text_of answer

-- a run over a database that holds the book has answered the opening and the lines in front of a rest
pub record RunSoFar (book : Book) (input rest text : List ℕ) (now : State) : Type 0 where
  pub fed : List (List ℕ)
  pub whole : input ≡ flat_map ended fed ++ rest
  pub each : All HasNoFeed fed
  pub read : List Line
  pub are : AllZip IsLine fed read
  pub answers : List Reply
  pub run : Run book read answers now
  pub text_is : text ≡ flat_map text_of answers

-- a line that a line feed ends, and what stands behind it
pub record IsFedLine (input line more : List ℕ) : Type 0 where
  pub whole : input ≡ ended line ++ more
  pub unfed : HasNoFeed line
