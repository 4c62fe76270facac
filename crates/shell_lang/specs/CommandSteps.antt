-- What the steps of reading a line say.
use Rattle.std.specs.Prelude.{◌≡◌, ◌≢◌, ℕ, ◌≤◌, nat_eq, Bool, List, [], ◌∷◌, ◌++◌, codes, slice_get, Some, None, Option, Result, IfOk, IsErrOf}
use Rattle.std.specs.Borrow.{Bor}
use Rattle.std.specs.Fmt.{decimal}
use Rattle.std.specs.List.{slice_split}
use Rattle.db_format.specs.declared.value.Value.{Value}
use Rattle.shell_lang.specs.declared.command.Command.{Command}
use Rattle.shell_lang.specs.declared.words.Words.{Words}
use Rattle.shell_lang.specs.declared.words.Verb.{Verb}
use Rattle.shell_lang.specs.declared.words.Verb.TheVariants.{Create, Drop, Tables, Put, Get, Del, Scan, Count, Begin, Commit, Rollback, Reopen}
use Rattle.shell_lang.specs.declared.read.LineFault.{LineFault}
use Rattle.shell_lang.specs.declared.read.LineFault.TheVariants.{BadLine}
use Rattle.shell_lang.specs.Command.{SpellsCommand, SpellsValue, greatest_number}

abbrev pub is_blank : ℕ → Bool
is_blank b = nat_eq b 32

-- the words that are left: what stands between blanks, where there is a text
abbrev pub words_of : Option (Bor (List ℕ)) → List (List ℕ)
words_of None = []
words_of (Some text) = slice_split is_blank text.now

abbrev pub left : Words → List (List ℕ)
left words = words_of words.rest

-- the first word of each command
abbrev pub verb_text : Verb → List ℕ
verb_text Create = codes "create"
verb_text Drop = codes "drop"
verb_text Tables = codes "tables"
verb_text Put = codes "put"
verb_text Get = codes "get"
verb_text Del = codes "del"
verb_text Scan = codes "scan"
verb_text Count = codes "count"
verb_text Begin = codes "begin"
verb_text Commit = codes "commit"
verb_text Rollback = codes "rollback"
verb_text Reopen = codes "reopen"

-- an answer to words: a command that they give, or that they give none
pub record Reads (words : List (List ℕ)) (result : Result Command LineFault) : Type 0 where
  pub found : IfOk result (SpellsCommand words)
  pub bad : IsErrOf result BadLine → (command : Command) → ¬ (SpellsCommand words command)

-- an answer to the word of a value
pub record ReadsValue (word : List ℕ) (result : Result Value LineFault) : Type 0 where
  pub found : IfOk result (SpellsValue word)
  pub bad : IsErrOf result BadLine → (value : Value) → ¬ (SpellsValue word value)

-- the number of a connection and a blank, and the text behind them
pub record BeginsWith (named : List ℕ) (number : ℕ) (text : List ℕ) : Type 0 where
  pub short : number ≤ greatest_number
  pub spelled : named ≡ decimal number ++ 32 ∷ text

-- so behind an `@`
pub record IsNamed (line : List ℕ) (number : ℕ) (text : List ℕ) : Type 0 where
  pub named : List ℕ
  pub marked : line ≡ 64 ∷ named
  pub begins : BeginsWith named number text

-- no number in front
pub record IsUnnamed (line : List ℕ) (number : ℕ) (text : List ℕ) : Type 0 where
  pub first : number ≡ 1
  pub whole : text ≡ line
  pub other : slice_get line 0 ≢ Some 64

-- an `@` in front, and no number behind it
pub record IsMisnamed (line : List ℕ) : Type 0 where
  pub named : List ℕ
  pub marked : line ≡ 64 ∷ named
  pub none : (number : ℕ) (text : List ℕ) → ¬ (BeginsWith named number text)
