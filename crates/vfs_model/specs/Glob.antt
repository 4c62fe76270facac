-- Glob patterns, matched on whole texts, byte by byte.
-- After the header comment of SQLite's test_quota.c.
use Rattle.std.specs.Prelude.{ℕ, Bool, true, false, not, ◌&&◌, ◌||◌, nat_eq, nat_le, if◌then◌else◌, List, [], ◌∷◌, ◌++◌, Option, Some, None}

-- a part of a pattern: any run of bytes, `*`; any byte, `?`; one of a list or, `[^`, not one of it; `/` or `\`; itself
pub data Part : Type 0 where
  AnyRun : Part
  AnyByte : Part
  OneOf : Bool → List ℕ → Part
  Slash : Part
  Byte : ℕ → Part

-- where the reading of a pattern stands: outside of a list, behind its bracket, behind that and `^`, or among its bytes
pub data Reading : Type 0 where
  Outside : Reading
  Opened : Reading
  First : Bool → Reading
  Inside : Bool → List ℕ → Reading

abbrev pub part_of : ℕ → Part
part_of b = if nat_eq b 42 then AnyRun else (if nat_eq b 63 then AnyByte else (if nat_eq b 47 then Slash else Byte b))

abbrev pub with_part : Part → Option (List Part) → Option (List Part)
with_part part None = None
with_part part (Some parts) = Some (part ∷ parts)

-- the parts of a pattern, none where a list is not closed. The first byte of a list stands in it whatever it is
unfoldable pub parts_from : Reading → List ℕ → Option (List Part)
parts_from Outside [] = Some []
parts_from Opened [] = None
parts_from (First but) [] = None
parts_from (Inside but bytes) [] = None
parts_from Outside (b ∷ more) = if nat_eq b 91 then parts_from Opened more else with_part (part_of b) (parts_from Outside more)
parts_from Opened (b ∷ more) = if nat_eq b 94 then parts_from (First true) more else parts_from (Inside false (b ∷ [])) more
parts_from (First but) (b ∷ more) = parts_from (Inside but (b ∷ [])) more
parts_from (Inside but bytes) (b ∷ more) =
    if nat_eq b 93 then with_part (OneOf but bytes) (parts_from Outside more) else parts_from (Inside but (bytes ++ b ∷ [])) more

-- a byte stands in a list, which is read from the left: two bytes with `-` between are a range
unfoldable pub in_list : List ℕ → ℕ → Bool
in_list [] b = false
in_list (x ∷ []) b = nat_eq x b
in_list (x ∷ y ∷ []) b = nat_eq x b || nat_eq y b
in_list (x ∷ y ∷ z ∷ more) b = if nat_eq y 45 then (nat_le x b && nat_le b z) || in_list more b else nat_eq x b || in_list (y ∷ z ∷ more) b

-- a part of one byte allows a byte
abbrev pub allows : Part → ℕ → Bool
allows AnyRun b = true
allows AnyByte b = true
allows (OneOf true bytes) b = not (in_list bytes b)
allows (OneOf false bytes) b = in_list bytes b
allows Slash b = nat_eq b 47 || nat_eq b 92
allows (Byte c) b = nat_eq c b

-- some end of a text passes a test
abbrev pub some_end : (List ℕ → Bool) → List ℕ → Bool
some_end test [] = test []
some_end test (b ∷ more) = test (b ∷ more) || some_end test more

abbrev pub one_then : Part → (List ℕ → Bool) → List ℕ → Bool
one_then part test [] = false
one_then part test (b ∷ more) = allows part b && test more

unfoldable pub parts_match : List Part → List ℕ → Bool
parts_match [] [] = true
parts_match [] (b ∷ more) = false
parts_match (AnyRun ∷ parts) text = some_end (parts_match parts) text
parts_match (AnyByte ∷ parts) text = one_then AnyByte (parts_match parts) text
parts_match (OneOf but bytes ∷ parts) text = one_then (OneOf but bytes) (parts_match parts) text
parts_match (Slash ∷ parts) text = one_then Slash (parts_match parts) text
parts_match (Byte c ∷ parts) text = one_then (Byte c) (parts_match parts) text

abbrev pub parts_match_if : Option (List Part) → List ℕ → Bool
parts_match_if None text = false
parts_match_if (Some parts) text = parts_match parts text

-- the pattern matches the whole text
unfoldable pub matches : List ℕ → List ℕ → Bool
matches pattern text = parts_match_if (parts_from Outside pattern) text
