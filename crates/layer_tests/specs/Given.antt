-- What the tests ask of a stack.
use Rattle.std.specs.Prelude.{ℕ, List, Option, Some, None}
use Rattle.vfs_model.specs.declared.layer.Layer.{Layer}
use Rattle.vfs_trait.specs.Calls.{checked}

-- the page size of the checksum layer of a stack, if it has one
abbrev pub size_in : Option (ℕ × List Layer) → Option ℕ
size_in None = None
size_in (Some layer) = Some layer.0

abbrev pub page_size : List Layer → Option ℕ
page_size layers = size_in (checked layers)
