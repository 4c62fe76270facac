-- A run: the replies to the lines of an input, one after another, and their text.
use Rattle.std.specs.Prelude.{◌≡◌, ◌≢◌, ℕ, ◌&&◌, ◌≤◌, nat_le, Bool, true, false, MatchBool, List, [], ◌∷◌, ◌++◌, All, None}
use Rattle.std.specs.List.{flat_map, AllZip}
use Rattle.byte_base.specs.Count.{Rose}
use Rattle.shell_lang.specs.declared.command.Command.{Command}
use Rattle.shell_lang.specs.declared.command.Command.TheVariants as command
use Rattle.shell_lang.specs.declared.reply.Reply.{Reply}
use Rattle.shell_lang.specs.declared.reply.Reply.TheVariants as reply
use Rattle.shell_lang.specs.declared.reply.ErrorWord.TheVariants as word
use Rattle.shell_lang.specs.declared.reply.ScanEnd.TheVariants as last
use Rattle.shell_lang.specs.Command.{SpellsLine, IsBadLine}
use Rattle.shell_lang.specs.Reply.{ended, text_of}
use Rattle.shell_words.specs.Plan.{Words, NameWords}
use Rattle.book_model.specs.Book.{Book}
use Rattle.shell_model.specs.State.{State, closed}
use Rattle.shell_model.specs.Step.{Step}

-- no byte is a line feed
abbrev pub HasNoFeed : List ℕ → Type 0
HasNoFeed line = All (λ b. b ≢ 10) line

-- a rest without a line feed counts as a line where it is not empty
abbrev pub last_line : List ℕ → List (List ℕ)
last_line [] = []
last_line (b ∷ bytes) = (b ∷ bytes) ∷ []

-- the lines of an input
pub record AreLines (input : List ℕ) (lines : List (List ℕ)) : Type 0 where
  pub fed : List (List ℕ)
  pub rest : List ℕ
  pub whole : input ≡ flat_map ended fed ++ rest
  pub each : All HasNoFeed fed
  pub unfed : HasNoFeed rest
  pub are : lines ≡ fed ++ last_line rest

-- a line as it was read: a command of a connection, or none
pub data Line : Type 0 where
  said : ℕ → Command → Line
  bad : Line

abbrev pub IsLine : List ℕ → Line → Type 0
IsLine bytes (said who asked) = SpellsLine bytes who asked
IsLine bytes bad = IsBadLine bytes

-- whether there is a connection of the number
abbrev pub is_connection : ℕ → Bool
is_connection who = nat_le 1 who && nat_le who 8

-- the reply to a line, and the state after it: a bad line and a number of no connection leave the state
abbrev pub Answers : State → Line → Reply → State → Type 0
Answers s bad answer next = (answer ≡ reply.Error word.BadLine) × (next ≡ s)
Answers s (said who asked) answer next =
    MatchBool (is_connection who) (Step s who asked answer next) ((answer ≡ reply.Error word.NoConn) × (next ≡ s))

-- the replies to the lines, one to each, and the state in the end
abbrev pub RunFrom : State → List Line → List Reply → State → Type 0
RunFrom s [] [] end = end ≡ s
RunFrom s (line ∷ lines) (answer ∷ answers) end = (next : State) × Answers s line answer next × RunFrom next lines answers end
RunFrom s [] (answer ∷ answers) end = ⊥
RunFrom s (line ∷ lines) [] end = ⊥

-- a run over a database that holds the book: the opening, and then the lines
abbrev pub Run : Book → List Line → List Reply → State → Type 0
Run book lines answers end = RunFrom (closed book) (said 1 command.Reopen ∷ lines) answers end

-- from bytes to bytes
pub record RunsTo (book : Book) (input text : List ℕ) (end : State) : Type 0 where
  pub lines : List (List ℕ)
  pub cut : AreLines input lines
  pub read : List Line
  pub each : AllZip IsLine lines read
  pub answers : List Reply
  pub run : Run book read answers end
  pub text_is : text ≡ flat_map text_of answers

-- the words of the command line name one database and no load, and the run is over the book that it holds: a database of no pages gets pages of
-- the size that the words say
pub record RunsByWords (words : List (List ℕ)) (book : Book) (input text : List ℕ) (end : State) : Type 0 where
  pub named : Words
  pub name : NameWords words named
  pub alone : named.plan.attached ≡ None
  pub no_load : named.load ≡ None
  pub sized : book.pages ≡ 0 → book.page ≡ named.plan.page
  pub run : RunsTo book input text end

-- ---- what stands of a run whatever the device tells, by whether the session is stopped and how often the device has failed

-- a reply leaves the session stopped, or open, or as it was
abbrev pub stopped_after : Bool → Reply → Bool
stopped_after was (reply.Open counter) = false
stopped_after was (reply.Refused db why) = true
stopped_after was reply.Fault = true
stopped_after was reply.MemoryStopped = true
stopped_after was (reply.Rows rows last.Fault) = true
stopped_after was _ = was

-- the device failed in the command
abbrev pub says_fault : Reply → Bool
says_fault reply.Fault = true
says_fault (reply.Rows rows last.Fault) = true
says_fault _ = false

-- the reply to a command: `stopped` just where the session is and the command is no opening, and a fault only where the device failed
pub record Block (stopped : Bool) (faults : ℕ) (asked : Command) (answer : Reply) (faults' : ℕ) : Type 0 where
  pub due : stopped ≡ true → asked ≢ command.Reopen → answer ≡ reply.Stopped
  pub only : answer ≡ reply.Stopped → (stopped ≡ true) × (asked ≢ command.Reopen)
  pub failed : says_fault answer ≡ true → Rose faults faults'
  pub counts : faults ≤ faults'

abbrev pub LineBlock : Bool → ℕ → Line → Reply → ℕ → Type 0
LineBlock stopped faults bad answer faults' = (answer ≡ reply.Error word.BadLine) × (faults' ≡ faults)
LineBlock stopped faults (said who asked) answer faults' =
    MatchBool (is_connection who) (Block stopped faults asked answer faults') ((answer ≡ reply.Error word.NoConn) × (faults' ≡ faults))

-- one reply to each line
abbrev pub BlocksFrom : Bool → ℕ → List Line → List Reply → Bool → ℕ → Type 0
BlocksFrom stopped faults [] [] end count = (end ≡ stopped) × (count ≡ faults)
BlocksFrom stopped faults (line ∷ lines) (answer ∷ answers) end count =
    (faults' : ℕ) × LineBlock stopped faults line answer faults' × BlocksFrom (stopped_after stopped answer) faults' lines answers end count
BlocksFrom stopped faults [] (answer ∷ answers) end count = ⊥
BlocksFrom stopped faults (line ∷ lines) [] end count = ⊥
