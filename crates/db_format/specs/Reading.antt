-- The first value of a record, in front of the others. Only the steps of reading speak by these words.
-- After sqlite.org, "Database File Format", section 2.1, "Record Format".
use Rattle.std.specs.Prelude.{◌≡◌, ℕ, pos, List, ◌++◌, length, take, Some}
use Rattle.db_format.specs.Varint.{IsVarint}
use Rattle.db_format.specs.Record.{content_size}

-- no front of the bytes spells a number that is not negative
abbrev pub NoCount : List ℕ → Type 0
NoCount bytes = (len number : ℕ) → ¬ (IsVarint (take len bytes) (pos number))

-- serial types and contents begin with those of a value, and these stand behind
pub record Begins (types contents : List ℕ) (serial : ℕ) (content more_types more_contents : List ℕ) : Type 0 where
  pub spelling : List ℕ
  pub spelled : IsVarint spelling (pos serial)
  pub sized : content_size serial ≡ Some (length content)
  pub types_are : types ≡ spelling ++ more_types
  pub contents_are : contents ≡ content ++ more_contents

-- they begin with those of no value
abbrev pub NoValue : List ℕ → List ℕ → Type 0
NoValue types contents = (serial : ℕ) (content more_types more_contents : List ℕ) → ¬ (Begins types contents serial content more_types more_contents)
