-- How many pages bytes need.
use Rattle.std.proofs.Common.{◌≡◌, inl, inr, ℕ, ◌+◌, ◌-◌, ◌*◌, ◌/◌, ◌%◌, ◌≤◌, ◌<◌, arith, ap, ◌∙◌, mul_comm, mod-lt, mul-le-mul_left}
use Rattle.std.proofs.Math.Nat.{le-div_iff_mul-le}
use Rattle.std.proofs.lemmas.Bool.{cases_order}
use Rattle.std.proofs.lemmas.Grind.{div_ceil_times}
use Rattle.std.proofs.lemmas.Nat.{div-add-mod'}
use Rattle.std.specs.Int.{div_ceil}
use Rattle.page_list.specs.Chain.{pages_needed}

-- the pages hold the bytes, and none of them is too many
pub needed_enough : (usable len : ℕ) → 5 ≤ usable → len ≤ (usable - 4) * pages_needed usable len
needed_enough usable len least =
    let room : ℕ = usable - 4 in
    let n : ℕ = (len + (usable - 5)) / room in
    let parts = div-add-mod' (len + (usable - 5)) room in
    let below : (len + (usable - 5)) % room < room = mod-lt (len + (usable - 5)) (omega arith) in
    let turn : room * n ≡ n * room = mul_comm room n in
    omega (arith, parts, below, turn)

needed_few : (usable len : ℕ) → 5 ≤ usable → (usable - 4) * pages_needed usable len < len + (usable - 4)
needed_few usable len least =
    let room : ℕ = usable - 4 in
    let n : ℕ = (len + (usable - 5)) / room in
    let parts = div-add-mod' (len + (usable - 5)) room in
    let turn : room * n ≡ n * room = mul_comm room n in
    omega (arith, parts, turn)

-- the pages before one that is needed are full
pub needed-above : (usable len count : ℕ) → 5 ≤ usable → count < pages_needed usable len → (usable - 4) * count < len
needed-above usable len count least fewer =
    let more : count + 1 ≤ pages_needed usable len = omega arith in
    let up = mul-le-mul_left (usable - 4) more in
    omega (arith, up, needed_few usable len least)

pub needed-some : (usable len : ℕ) → 5 ≤ usable → 1 ≤ len → 1 ≤ pages_needed usable len
needed-some usable len least some =
    let room : ℕ = usable - 4 in
    let all : ℕ = len + (usable - 5) in
    (le-div_iff_mul-le {k = room} {x = 1} {y = all} (omega arith)).1 (omega arith)

-- there is one such number
once : (room len m n : ℕ) → len ≤ room * m → room * n < len + room → m < n → ⊥
once room len m n enough few less =
    let more : m + 1 ≤ n = omega arith in
    let up = mul-le-mul_left room more in
    omega (arith, up)

pub needed_is : (len usable : ℕ) → 5 ≤ usable → div_ceil len (usable - 4) ≡ pages_needed usable len
needed_is len usable least =
    let room : ℕ = usable - 4 in
    let m : ℕ = div_ceil len room in
    let n : ℕ = pages_needed usable len in
    let bounds = div_ceil_times len room (omega arith) in
    let turn : room * m ≡ m * room = mul_comm room m in
    elim (cases_order m n) as (λ _. m ≡ n) [
      | inl same ↦ same
      | inr (inl less) ↦ absurd (once room len m n (omega (arith, bounds.0, turn)) (needed_few usable len least) less)
      | inr (inr more) ↦ absurd (once room len n m (needed_enough usable len least) (omega (arith, bounds.1, turn)) more)
    ]

-- so many pages as the code counts them
pub counted : (count len room from usable : ℕ) → 5 ≤ usable → count ≡ div_ceil len from → from ≡ room → room ≡ usable - 4 → count ≡ pages_needed usable len
counted count len room from usable least is from_is room_is = is ∙ ap (λ n. div_ceil len n) (from_is ∙ room_is) ∙ needed_is len usable least
