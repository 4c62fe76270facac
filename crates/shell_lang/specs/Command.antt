-- The lines by which commands are given: which line gives which command, by cases on the command.
use Rattle.std.specs.Prelude.{◌≡◌, ◌≢◌, ◌⊎◌, ℕ, ℤ, ◌≤◌, List, [], ◌∷◌, ◌++◌, length, codes, Ok, All, IsUtf8, FitsSigned}
use Rattle.std.specs.Fmt.{decimal, signed_decimal}
use Rattle.std.specs.Int.{w64}
use Rattle.std.specs.List.{join_with_byte, AllZip}
use Rattle.percent_encoding.specs.Percent.{percent_decode}
use Rattle.hex.specs.Hex.{decode_of}
use Rattle.db_format.specs.Create.{IsIdentifier, AreColumns}
use Rattle.db_format.specs.declared.value.Value.{Value}
use Rattle.db_format.specs.declared.value.Value.TheVariants.{Null, Int, Text, Blob, Real}
use Rattle.shell_lang.specs.declared.command.Command.{Command}
use Rattle.shell_lang.specs.declared.command.Command.TheVariants.{Create, Drop, Tables, Put, Get, Del, Scan, Count, Begin, Commit, Rollback, Reopen}

-- a word: at least one byte, and no blank (byte 32)
pub record IsWord (word : List ℕ) : Type 0 where
  pub some : 1 ≤ length word
  pub unbroken : All (λ b. b ≢ 32) word

-- the word is a number of 64 bits with a sign, in decimal: no plus sign, no zeros in front that are not needed, no `-0`
pub record IsNumber (word : List ℕ) (z : ℤ) : Type 0 where
  pub fits : FitsSigned w64 z
  pub spelled : word ≡ signed_decimal z

-- `t:` and a text in which `%` with two hexadecimal digits stands for a byte. The bytes are UTF-8
pub record SpellsText (word bytes : List ℕ) : Type 0 where
  pub escaped : List ℕ
  pub spelled : word ≡ codes "t:" ++ escaped
  pub decoded : bytes ≡ percent_decode escaped
  pub utf8 : IsUtf8 bytes

-- `b:` and an even number of hexadecimal digits, two for a byte
pub record SpellsBlob (word bytes : List ℕ) : Type 0 where
  pub digits : List ℕ
  pub spelled : word ≡ codes "b:" ++ digits
  pub decoded : decode_of digits ≡ Ok bytes

-- `i:` and a number
pub record SpellsInt (word : List ℕ) (z : ℤ) : Type 0 where
  pub number : List ℕ
  pub spelled : word ≡ codes "i:" ++ number
  pub is_number : IsNumber number z

-- the word gives this value. None gives a float
abbrev pub SpellsValue : List ℕ → Value → Type 0
SpellsValue word Null = word ≡ codes "null"
SpellsValue word (Int z) = SpellsInt word z
SpellsValue word (Text bytes) = SpellsText word bytes
SpellsValue word (Blob bytes) = SpellsBlob word bytes
SpellsValue word (Real bits) = ⊥

-- the most values of a row
abbrev pub most_values : ℕ
most_values = 32

-- a word, the name of a table, and words behind them
pub record IsOnTable (words : List (List ℕ)) (first name : List ℕ) (rest : List (List ℕ)) : Type 0 where
  pub spelled : words ≡ first ∷ name ∷ rest
  pub named : IsIdentifier name

-- so on a row: the rowid, and words behind it
pub record IsOnRow (words : List (List ℕ)) (first name : List ℕ) (rowid : ℤ) (rest : List (List ℕ)) : Type 0 where
  pub number : List ℕ
  pub on : IsOnTable words first name (number ∷ rest)
  pub rowid_is : IsNumber number rowid

-- 1 to 32 values, each by a word
pub record SpellsPut (words : List (List ℕ)) (name : List ℕ) (rowid : ℤ) (values : List Value) : Type 0 where
  pub texts : List (List ℕ)
  pub on : IsOnRow words (codes "put") name rowid texts
  pub some : 1 ≤ length values
  pub few : length values ≤ most_values
  pub each : AllZip SpellsValue texts values

-- two rowids, the ends of a range
pub record SpellsScan (words : List (List ℕ)) (name : List ℕ) (low high : ℤ) : Type 0 where
  pub number : List ℕ
  pub on : IsOnRow words (codes "scan") name low (number ∷ [])
  pub high_is : IsNumber number high

-- the words give this command
abbrev pub SpellsCommand : List (List ℕ) → Command → Type 0
SpellsCommand words (Create table columns) = IsOnTable words (codes "create") table.name columns × AreColumns columns
SpellsCommand words (Drop table) = IsOnTable words (codes "drop") table.name []
SpellsCommand words Tables = words ≡ codes "tables" ∷ []
SpellsCommand words (Put table rowid values) = SpellsPut words table.name rowid values
SpellsCommand words (Get table rowid) = IsOnRow words (codes "get") table.name rowid []
SpellsCommand words (Del table rowid) = IsOnRow words (codes "del") table.name rowid []
SpellsCommand words (Scan table low high) = SpellsScan words table.name low high
SpellsCommand words (Count table) = IsOnTable words (codes "count") table.name []
SpellsCommand words Begin = words ≡ codes "begin" ∷ []
SpellsCommand words Commit = words ≡ codes "commit" ∷ []
SpellsCommand words Rollback = words ≡ codes "rollback" ∷ []
SpellsCommand words Reopen = words ≡ codes "reopen" ∷ []

-- words with one blank between two
abbrev pub joined : List (List ℕ) → List ℕ
joined words = join_with_byte 32 words

-- the greatest number of a connection that a line can name, which is no connection's from 9 on, nor is 0
abbrev pub greatest_number : ℕ
greatest_number = 999

-- `@` (byte 64), the number of a connection, a blank, and the words
pub record NamesConnection (line : List ℕ) (number : ℕ) (words : List (List ℕ)) : Type 0 where
  pub short : number ≤ greatest_number
  pub spelled : line ≡ 64 ∷ (decimal number ++ 32 ∷ joined words)

-- the words alone, which are connection 1's
pub record NamesNone (line : List ℕ) (number : ℕ) (words : List (List ℕ)) : Type 0 where
  pub first : number ≡ 1
  pub spelled : line ≡ joined words

-- the line gives this command to the connection of this number
pub record SpellsLine (line : List ℕ) (number : ℕ) (command : Command) : Type 0 where
  pub words : List (List ℕ)
  pub each : All IsWord words
  pub utf8 : IsUtf8 line
  pub connection : NamesConnection line number words ⊎ NamesNone line number words
  pub command_is : SpellsCommand words command

-- the line gives no command
pub record IsBadLine (line : List ℕ) : Type 0 where
  pub none : (number : ℕ) (command : Command) → ¬ (SpellsLine line number command)

-- a line gives at most one command, to one connection
abbrev pub OneCommand : Type 0
OneCommand = (line : List ℕ) (number number' : ℕ) (command command' : Command) →
    SpellsLine line number command → SpellsLine line number' command' → (number ≡ number') × (command ≡ command')
