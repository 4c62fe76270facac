use Rattle.std.proofs.Common.{◌≡◌, ℕ, zero, suc, ◌+◌, ◌-◌, ◌<◌, ◌≤◌, Bool, false, List, [], ◌∷◌, ◌++◌, length, take, drop, replicate, refl, sym, ap, ◌∙◌, arith, length-append, length-drop, slice_get, get_or, inl, inr, Some, unwrap_or}
use Rattle.std.proofs.lemmas.List.{length-take-le}
use Rattle.vfs_model.specs.Places.{get-append_left, get-append_right, get-take, get-drop}
use Rattle.vfs_model.specs.Effect.{Beside}
use Rattle.mem_vfs.specs.Splice.{spliced}

pub length-spliced : {X : Type 0} (old : List X) (off : ℕ) (bytes : List X) → off + length bytes ≤ length old → length (spliced old off bytes) ≡ length old
length-spliced old off bytes within =
    omega (
      arith,
      length-append (take off old) (bytes ++ drop (off + length bytes) old),
      length-append bytes (drop (off + length bytes) old),
      length-take-le off old (omega (arith, within)),
      length-drop (off + length bytes) old,
    )

behind : {X : Type 0} (old : List X) (off : ℕ) (bytes : List X) (place : ℕ) → off ≤ length old
    → slice_get (spliced old off bytes) (off + place) ≡ slice_get (bytes ++ drop (off + length bytes) old) place
behind old off bytes place within =
    ap (λ n. slice_get (spliced old off bytes) (n + place)) (sym (length-take-le off old within))
    ∙ get-append_right (take off old) (bytes ++ drop (off + length bytes) old) place

pub inside-spliced : {X : Type 0} (old : List X) (off : ℕ) (bytes : List X) (place : ℕ) → off ≤ length old → place < length bytes
    → slice_get (spliced old off bytes) (off + place) ≡ slice_get bytes place
inside-spliced old off bytes place within less = behind old off bytes place within ∙ get-append_left bytes (drop (off + length bytes) old) place less

pub beside-spliced : {X : Type 0} (old : List X) (off : ℕ) (bytes : List X) (place : ℕ) → off ≤ length old → Beside off (length bytes) place
    → slice_get (spliced old off bytes) place ≡ slice_get old place
beside-spliced old off bytes place within (inl less) =
    get-append_left (take off old) (bytes ++ drop (off + length bytes) old) place (omega (arith, length-take-le off old within, less))
    ∙ get-take old off place less
beside-spliced old off bytes place within (inr past) =
    let rest : ℕ = place - (off + length bytes) in
    let e : place ≡ off + (length bytes + rest) = omega (arith, past) in
    let d : off + length bytes + rest ≡ place = omega (arith, past) in
    ap (slice_get (spliced old off bytes)) e
    ∙ behind old off bytes (length bytes + rest) within
    ∙ get-append_right bytes (drop (off + length bytes) old) rest
    ∙ get-drop old (off + length bytes) rest
    ∙ ap (slice_get old) d

-- an index with a default is a look-up with a default
pub or_get : {X : Type 0} (xs : List X) (i : ℕ) (d : X) → get_or xs i d ≡ unwrap_or (slice_get xs i) d
or_get [] i d = refl
or_get (x ∷ xs) zero d = refl
or_get (x ∷ xs) (suc i) d = or_get xs i d

pub get_replicate : {X : Type 0} (n i : ℕ) (x : X) → i < n → slice_get (replicate n x) i ≡ Some x
get_replicate zero i x less = absurd (omega (arith, less))
get_replicate (suc n) zero x less = refl
get_replicate (suc n) (suc i) x less = get_replicate n i x (omega (arith, less))

-- a mark that is added is no mark
pub grown_mark : (marks : List Bool) (n i : ℕ) → get_or (marks ++ replicate n false) i false ≡ get_or marks i false
grown_mark [] zero i = refl
grown_mark [] (suc n) zero = refl
grown_mark [] (suc n) (suc i) = grown_mark [] n i
grown_mark (m ∷ marks) n zero = refl
grown_mark (m ∷ marks) n (suc i) = grown_mark marks n i
