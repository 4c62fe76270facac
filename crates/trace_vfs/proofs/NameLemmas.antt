-- The bytes of a name are a text.
use Rattle.std.proofs.Common.{arith, ℕ, ◌<◌, List, get_or, IsTrue, All}
use Rattle.std.specs.Str.{IsUtf8}
use Rattle.std.proofs.lemmas.Str.{IsUtf8-from_ascii}
use Rattle.std.proofs.lemmas.Str.Ascii.{IsAscii-from_all}
use Rattle.vfs_model.specs.Name.{IsName, is_name_byte}

ascii_byte : (b : ℕ) → IsTrue (is_name_byte b) → b < 128
ascii_byte b h = grind arith

each : (bytes : List ℕ) → All (λ b. IsTrue (is_name_byte b)) bytes → All (λ b. b < 128) bytes
each bytes h = λ place other within. ascii_byte (get_or bytes place other) (h place other within)

pub name_is_utf8 : (name : List ℕ) → IsName name → IsUtf8 name
name_is_utf8 name h = IsUtf8-from_ascii name (IsAscii-from_all name (each name h.each))
