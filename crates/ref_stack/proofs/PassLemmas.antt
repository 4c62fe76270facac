-- A write in chunks.
use Rattle.std.proofs.Common.{◌≡◌, ℕ, zero, suc, ◌+◌, ◌-◌, ◌*◌, ◌<◌, ◌≤◌, min, max, List, nat_le, if◌then◌else◌, refl, sym, ap, ◌∙◌, arith, add-one}
use Rattle.std.proofs.lemmas.Bool.{le-leb, lt-leb}
use Rattle.vfs_model.specs.View.{chunk_name, most_chunks}
use Rattle.vfs_model.specs.Pass.{Lengths, Passing, Passes, then_pass, by_chunks}
use Rattle.ref_stack.proofs.ShownLemmas.{left_more}

pub chunks_over : (below : Lengths → List ℕ → ℕ → ℕ → Passing) (number chunk off end : ℕ) (name : List ℕ) (lengths : Lengths) → 100000 ≤ number →
    by_chunks below (most_chunks - number) chunk name number off end lengths ≡ Passes lengths
unfolding most_chunks by_chunks
chunks_over below number chunk off end name lengths all =
    let none : 100000 - number ≡ 0 = omega (arith, all) in
    ap (λ n. by_chunks below n chunk name number off end lengths) none

-- one chunk, by what the two tests say
step : (below : Lengths → List ℕ → ℕ → ℕ → Passing) (left number chunk off end : ℕ) (name : List ℕ) (lengths : Lengths) → Passing
step below left number chunk off end name lengths =
    if nat_le (chunk * (number + 1)) off then by_chunks below left chunk name (suc number) off end lengths
    else then_pass (below lengths (chunk_name name number) (max off (chunk * number) - chunk * number) (min end (chunk * (number + 1)) - chunk * number))
    (λ after. by_chunks below left chunk name (suc number) off end after)

ends : (below : Lengths → List ℕ → ℕ → ℕ → Passing) (left number chunk off end : ℕ) (name : List ℕ) (lengths : Lengths) → end ≤ chunk * number →
    by_chunks below left chunk name number off end lengths ≡ Passes lengths
unfolding by_chunks step
ends below zero number chunk off end name lengths short = refl
ends below (suc left) number chunk off end name lengths short =
    ap (λ b. if b then Passes lengths else step below left number chunk off end name lengths) (le-leb end (chunk * number) short)

pub chunks_end : (below : Lengths → List ℕ → ℕ → ℕ → Passing) (number chunk off end : ℕ) (name : List ℕ) (lengths : Lengths) → end ≤ chunk * number →
    by_chunks below (most_chunks - number) chunk name number off end lengths ≡ Passes lengths
chunks_end below number chunk off end name lengths short = ends below (most_chunks - number) number chunk off end name lengths short

goes_on : (below : Lengths → List ℕ → ℕ → ℕ → Passing) (number chunk off end : ℕ) (name : List ℕ) (lengths : Lengths) → number < 100000 → chunk * number < end →
    by_chunks below (most_chunks - number) chunk name number off end lengths ≡ step below (most_chunks - (number + 1)) number chunk off end name lengths
unfolding by_chunks step
goes_on below number chunk off end name lengths few long =
    ap (λ n. by_chunks below n chunk name number off end lengths) (left_more number few)
    ∙ ap (λ b. if b then Passes lengths else step below (most_chunks - (number + 1)) number chunk off end name lengths) (lt-leb end (chunk * number) long)

pub chunks_skip : (below : Lengths → List ℕ → ℕ → ℕ → Passing) (number chunk off end : ℕ) (name : List ℕ) (lengths : Lengths) → number < 100000 → chunk * number < end →
    chunk * (number + 1) ≤ off →
    by_chunks below (most_chunks - number) chunk name number off end lengths ≡ by_chunks below (most_chunks - (number + 1)) chunk name (number + 1) off end lengths
unfolding step
chunks_skip below number chunk off end name lengths few long early =
    goes_on below number chunk off end name lengths few long
    ∙ ap (λ b. if b then by_chunks below (most_chunks - (number + 1)) chunk name (suc number) off end lengths
    else then_pass (below lengths (chunk_name name number) (max off (chunk * number) - chunk * number) (min end (chunk * (number + 1)) - chunk * number))
    (λ after. by_chunks below (most_chunks - (number + 1)) chunk name (suc number) off end after)) (le-leb (chunk * (number + 1)) off early)
    ∙ ap (λ n. by_chunks below (most_chunks - (number + 1)) chunk name n off end lengths) (sym (add-one number))

pub chunks_write : (below : Lengths → List ℕ → ℕ → ℕ → Passing) (number chunk off end : ℕ) (name : List ℕ) (lengths : Lengths) → number < 100000 → chunk * number < end →
    off < chunk * (number + 1) →
    by_chunks below (most_chunks - number) chunk name number off end lengths
    ≡ then_pass (below lengths (chunk_name name number) (max off (chunk * number) - chunk * number) (min end (chunk * (number + 1)) - chunk * number))
    (by_chunks below (most_chunks - (number + 1)) chunk name (number + 1) off end)
unfolding step
chunks_write below number chunk off end name lengths few long late =
    let own = below lengths (chunk_name name number) (max off (chunk * number) - chunk * number) (min end (chunk * (number + 1)) - chunk * number) in
    goes_on below number chunk off end name lengths few long
    ∙ ap (λ b. if b then by_chunks below (most_chunks - (number + 1)) chunk name (suc number) off end lengths
    else then_pass own (λ after. by_chunks below (most_chunks - (number + 1)) chunk name (suc number) off end after)) (lt-leb (chunk * (number + 1)) off late)
    ∙ ap (λ n. then_pass own (by_chunks below (most_chunks - (number + 1)) chunk name n off end)) (sym (add-one number))
