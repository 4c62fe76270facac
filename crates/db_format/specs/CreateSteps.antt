-- Texts without the blanks at one of their ends. Only the steps of reading speak by these words.
use Rattle.std.specs.Prelude.{ℕ, ◌-◌, ◌==◌, List, length, take, drop}
use Rattle.std.specs.List.{prefix_len, suffix_len}

-- a text without the blanks at its beginning, and one without those at its end
abbrev pub after_blanks : List ℕ → List ℕ
after_blanks text = drop (prefix_len (λ b. b == 32) text) text

abbrev pub before_blanks : List ℕ → List ℕ
before_blanks text = take (length text - suffix_len (λ b. b == 32) text) text
