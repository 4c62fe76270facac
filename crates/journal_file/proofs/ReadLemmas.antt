-- A file that was read whole.
use Rattle.std.proofs.Common.{arith, ◌≡◌, ℕ, ◌+◌, List, length, slice_get, ◌∙◌, ap}
use Rattle.vfs_model.specs.Places.{same_places}
use Rattle.vfs_trait.specs.Calls.{Reads}

pub whole_read : (file buf : List ℕ) (count : ℕ) → Reads file 0 buf count → length buf ≡ length file → buf ≡ file
whole_read file buf count h size = same_places buf file size (λ place within.
    let e : 0 + place ≡ place = omega arith in
    h.bytes place (omega (arith, h.counted, size, within)) ∙ ap (slice_get file) e)
