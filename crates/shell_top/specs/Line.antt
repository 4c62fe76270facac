-- The lines of the input, and the one form of a command.
use Rattle.std.specs.Prelude.{◌≡◌, ◌≢◌, ℕ, ℤ, ◌==◌, Bool, ◌||◌, IsTrue, List, [], ◌∷◌, ◌++◌, codes}
use Rattle.std.specs.Char.{is_ascii_alphanumeric}
use Rattle.std.specs.Fmt.{signed_decimal}
use Rattle.std.specs.Int.{w64}
use Rattle.std.specs.List.{AllByRecursion, flat_map, list_all}
use Rattle.std.specs.Prelude.{FitsSigned}

-- a letter, a digit, or one of `-._~`
abbrev pub is_text_byte : ℕ → Bool
is_text_byte b = is_ascii_alphanumeric b || (b == 45 || (b == 46 || (b == 95 || b == 126)))

-- the value is `t:TEXT`, where TEXT has text bytes
pub record IsTextValue (value text : List ℕ) : Type 0 where
  pub spelled : value ≡ codes "t:" ++ text
  pub each : IsTrue (list_all is_text_byte text)

-- the line is `put R V`: R is a signed 64-bit number as it is written in decimal, V a text
pub record IsPut (line : List ℕ) (rowid : ℤ) (text : List ℕ) : Type 0 where
  pub value : List ℕ
  pub spelled : line ≡ codes "put " ++ (signed_decimal rowid ++ 32 ∷ value)
  pub fits : FitsSigned w64 rowid
  pub text_value : IsTextValue value text

-- the line is no command
pub record IsBad (line : List ℕ) : Type 0 where
  pub each : (rowid : ℤ) (text : List ℕ) → ¬ (IsPut line rowid text)

-- no byte is a line feed
abbrev pub HasNoFeed : List ℕ → Type 0
HasNoFeed line = AllByRecursion (λ b. b ≢ 10) line

abbrev pub ended : List ℕ → List ℕ
ended line = line ++ 10 ∷ []

-- the bytes are these lines, each with a line feed behind it, and then a rest without one
pub record Cuts (bytes : List ℕ) (lines : List (List ℕ)) (rest : List ℕ) : Type 0 where
  pub whole : bytes ≡ flat_map ended lines ++ rest
  pub each : AllByRecursion HasNoFeed lines
  pub last : HasNoFeed rest

-- a rest counts as a line where it is not empty
abbrev pub last_line : List ℕ → List (List ℕ)
last_line [] = []
last_line (b ∷ bytes) = (b ∷ bytes) ∷ []
