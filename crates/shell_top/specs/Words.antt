-- The words of the command line.
use Rattle.std.specs.Prelude.{◌≡◌, ℕ, List, [], ◌∷◌}
use Rattle.vfs_model.specs.declared.layer.Layer.{Layer}
use Rattle.shell_words.specs.Plan.{NameWords, plain_words}

-- the words are one NAME, and name this database with nothing else
pub record AreWords (words : List (List ℕ)) (name : List ℕ) : Type 0 where
  pub one : words ≡ name ∷ []
  pub names : NameWords words (plain_words name)

-- the words are refused
pub record AreRefused (words : List (List ℕ)) : Type 0 where
  pub each : (name : List ℕ) → ¬ (AreWords words name)

-- the layers that the words name. No layer has a word yet
abbrev pub layers_of : List (List ℕ) → List Layer
layers_of words = []
